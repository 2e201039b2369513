use Rattle.std.proofs.Common.{◌≡◌}
use Rattle.share_session.specs.Plans.{visit_list}
use Rattle.share_session.proofs.plan.join.Given as goal

abbrev pub invariant-loop-shard : goal.invariant-loop-shard
invariant-loop-shard l = visit_list l.list.keys l.shard-iterator ≡ visit_list l.fn.list.keys l.wanted.entries
