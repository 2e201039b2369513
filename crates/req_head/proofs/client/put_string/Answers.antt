use Rattle.std.proofs.Common.{arith}
use Rattle.req_head.proofs.Puts.{string_writes}
use Rattle.req_head.proofs.client.put_string.Goals as goal

pub returns-clause-ok : goal.returns-clause-ok
returns-clause-ok c =
    string_writes c.args.text.now c.as_bytes.result.now c.in_ok-put_i16.ensures.ok
    (grind arith) c.in_ok-put_slice.ensures.ok c.as_bytes.ensures.value c.utf8.text
