use Rattle.std.proofs.Common.{◌≡◌, ◌||◌, length}
use Rattle.std.specs.BTreeSet.{contains}
use Rattle.share_client.specs.Grants.{Named}
use Rattle.share_client.specs.Partitions.{is_named, names_in, topic_names}
use Rattle.share_client.specs.Spans.{name_cmp}
use Rattle.share_client.proofs.partitions.names_of.Given as goal

abbrev pub invariant-loop-topic : goal.invariant-loop-topic
invariant-loop-topic l = (q : Named) → (is_named (names_in l.rest) q || contains name_cmp l.names q) ≡ is_named (names_in l.topics) q

abbrev pub decreases-loop-topic : goal.decreases-loop-topic
decreases-loop-topic l = length l.rest
