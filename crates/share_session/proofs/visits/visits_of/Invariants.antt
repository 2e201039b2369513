use Rattle.std.proofs.Common.{◌≡◌, ◌++◌, ℕ, List, map}
use Rattle.share_model.specs.declared.ack.AckBatch.{AckBatch}
use Rattle.share_session.specs.Plans.{visit}
use Rattle.share_session.proofs.visits.visits_of.Given as goal

abbrev pub invariant-loop-shard : goal.invariant-loop-shard
invariant-loop-shard l =
    l.plan.items ++ map (λ (w : ℕ × List AckBatch). visit l.caller l.purpose w.1 w.0) l.shard-iterator
    ≡ map (λ (w : ℕ × List AckBatch). visit l.caller l.purpose w.1 w.0) l.fn.wanted.entries
