use Rattle.std.proofs.Common.{◌≡◌, replicate, None, Some}
use Rattle.std.specs.Fmt.{decimal}
use Rattle.gen_load.proofs.records.records_of.Given as goal

abbrev pub invariant-loop : goal.invariant-loop
invariant-loop l = l.records.items ≡ replicate l.counter (record { key = None; value = Some (decimal l.fn.round) })
