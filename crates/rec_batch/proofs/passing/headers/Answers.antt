use Rattle.std.proofs.Common.{◌-◌, sym, ◌∙◌, arith}
use Rattle.rec_batch.proofs.Contents.{headers_end}
use Rattle.rec_batch.proofs.passing.headers.Goals as goal

pub returns : goal.returns
returns c = sym (headers_end (c.args.count - c.loop.counter) c.loop.rest.now (omega arith)) ∙ c.loop.invariant
