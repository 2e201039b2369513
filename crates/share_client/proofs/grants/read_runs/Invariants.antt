use Rattle.std.proofs.Common.{length}
use Rattle.share_client.specs.Records.{all_records}
use Rattle.share_client.proofs.Delivering.{Runs}
use Rattle.share_client.proofs.grants.read_runs.Given as goal

abbrev pub invariant-loop-located : goal.invariant-loop-located
invariant-loop-located l = Runs (l.name.topic, l.name.partition) (all_records l.content) l.acquired l.fn.page l.rest l.reader l.batches.items l.page

abbrev pub decreases-loop-located : goal.decreases-loop-located
decreases-loop-located l = length l.rest
