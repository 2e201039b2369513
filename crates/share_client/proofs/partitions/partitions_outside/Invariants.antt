use Rattle.std.proofs.Common.{◌≡◌, ◌++◌, List, length, not}
use Rattle.std.specs.Prelude.{filter}
use Rattle.share_client.specs.Grants.{Named}
use Rattle.share_client.specs.Partitions.{HasJust, is_named}
use Rattle.share_client.proofs.partitions.partitions_outside.Given as goal

abbrev pub invariant-loop-partition : goal.invariant-loop-partition
invariant-loop-partition l = (named : List Named) → HasJust l.names named
    → l.partitions.items ++ filter (λ n. not (is_named named (l.topic.topic_id, n))) l.rest ≡ filter (λ n. not (is_named named (l.topic.topic_id, n))) l.topic.partitions

abbrev pub decreases-loop-partition : goal.decreases-loop-partition
decreases-loop-partition l = length l.rest
