use Rattle.std.proofs.Common.{◌≡◌, ◌++◌, map}
use Rattle.state_calls.specs.States.{partition_entry}
use Rattle.state_calls.proofs.plan.plan_partitions.Given as goal

abbrev pub invariant-loop-partition : goal.invariant-loop-partition
invariant-loop-partition g l = l.left.items ≡ l.fn.left.items ++ map (partition_entry g.S.StateCall.means l.conf.topics l.fits l.topic) l.yielded
