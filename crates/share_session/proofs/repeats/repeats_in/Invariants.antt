use Rattle.std.proofs.Common.{◌≡◌, ◌++◌, ℕ, List, map, drop}
use Rattle.msgs_share.specs.declared.share_topic.SharePartition.{SharePartition}
use Rattle.share_session.specs.Requests.{topic_entries}
use Rattle.share_session.specs.Seen.{was_seen, repeats}
use Rattle.share_session.proofs.repeats.repeats_in.Given as goal

abbrev pub invariant-loop-partition : goal.invariant-loop-partition
invariant-loop-partition l = (rest : List (List ℕ × SharePartition)) →
    repeats (was_seen l.fn.seen.keys) (topic_entries l.topic ++ rest)
    ≡ repeats (was_seen l.seen.keys) (map (λ p. (l.topic.topic_id, p)) (drop l.partition-index l.topic.partitions) ++ rest)
