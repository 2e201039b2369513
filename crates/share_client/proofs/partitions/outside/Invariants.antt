use Rattle.std.proofs.Common.{◌≡◌, ◌++◌, length}
use Rattle.std.specs.Prelude.{flat_map}
use Rattle.share_client.specs.Partitions.{names_in, topic_outside}
use Rattle.share_client.proofs.partitions.outside.Given as goal

abbrev pub invariant-loop-topic : goal.invariant-loop-topic
invariant-loop-topic l = l.found.items ++ flat_map (topic_outside (names_in l.others)) l.rest ≡ flat_map (topic_outside (names_in l.others)) l.topics

abbrev pub decreases-loop-topic : goal.decreases-loop-topic
decreases-loop-topic l = length l.rest
