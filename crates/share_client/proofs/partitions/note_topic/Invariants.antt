use Rattle.std.proofs.Common.{◌≡◌, ◌||◌, length, map}
use Rattle.std.specs.BTreeSet.{contains}
use Rattle.share_client.specs.Grants.{Named}
use Rattle.share_client.specs.Partitions.{is_named, names_in, topic_names}
use Rattle.share_client.specs.Spans.{name_cmp}
use Rattle.share_client.proofs.partitions.note_topic.Given as goal

abbrev pub invariant-loop-partition : goal.invariant-loop-partition
invariant-loop-partition l = (q : Named) → (is_named (map (λ n. (l.topic.topic_id, n)) l.rest) q || contains name_cmp l.names q) ≡ (is_named (topic_names l.topic) q || contains name_cmp l.fn.names q)

abbrev pub decreases-loop-partition : goal.decreases-loop-partition
decreases-loop-partition l = length l.rest
