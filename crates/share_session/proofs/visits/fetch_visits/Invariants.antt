use Rattle.std.proofs.Common.{◌≡◌, ℕ, true, map, take, drop}
use Rattle.share_session.specs.Requests.{acks_for, has}
use Rattle.share_session.specs.Plans.{fetch_visit}
use Rattle.share_session.proofs.visits.fetch_visits.Given as goal

abbrev pub invariant-loop-shard : goal.invariant-loop-shard
invariant-loop-shard l = record {
  plan : l.plan.items ≡ map (fetch_visit l.caller l.fn.wanted.entries l.forgotten.keys) (take l.shard-index l.list);
  left : (other : ℕ) → has (drop l.shard-index l.list) other ≡ true → acks_for l.wanted.entries other ≡ acks_for l.fn.wanted.entries other;
}
