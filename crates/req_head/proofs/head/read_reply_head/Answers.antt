use Rattle.std.proofs.Common.{arith, true}
use Rattle.flex_fields.proofs.Whole.{reads_front}
use Rattle.req_head.specs.Heads.{reply_head}
use Rattle.req_head.proofs.head.read_reply_head.Goals as goal

pub returns-clause-read : goal.returns-clause-read
returns-clause-read c =
    reads_front (reply_head true) c.args.bytes.now c.take_reply_head.result
    (λ i. omega (arith, c.type_inv.bytes i)) c.take_reply_head.ensures.read
