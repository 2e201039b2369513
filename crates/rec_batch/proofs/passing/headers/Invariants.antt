use Rattle.std.proofs.Common.{◌≡◌, ◌-◌}
use Rattle.rec_batch.specs.Passing.{headers_in}
use Rattle.rec_batch.proofs.passing.headers.Given as goal

abbrev pub invariant-loop : goal.invariant-loop
invariant-loop l = headers_in (l.count - l.counter) l.rest ≡ headers_in l.fn.count l.fn.bytes
