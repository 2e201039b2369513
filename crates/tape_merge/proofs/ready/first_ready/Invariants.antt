use Rattle.std.proofs.Common.{◌<◌}
use Rattle.tape_merge.specs.Readiness.{IsReadyIf}
use Rattle.tape_merge.proofs.ready.first_ready.Given as goal

abbrev pub invariant-loop-link : goal.invariant-loop-link
invariant-loop-link l = IsReadyIf (λ k. k < l.link) l.tapes l.links l.counts l.ready.keys
