use Rattle.std.proofs.Common.{◌≡◌, ◌++◌, map, drop}
use Rattle.std.specs.List.{filter_map}
use Rattle.share_calls.specs.Fetch.{unhosted_of, known}
use Rattle.share_calls.proofs.fetch_rows.push_unhosted.Given as goal

abbrev pub invariant-loop-partition : goal.invariant-loop-partition
invariant-loop-partition l =
    l.left.items ++ map known (filter_map (unhosted_of l.conf.topics) (map (λ p. (l.topic.topic_id, p)) (drop l.partition-index l.topic.partitions)))
    ≡ l.fn.left.items ++ map known (filter_map (unhosted_of l.conf.topics) (map (λ p. (l.topic.topic_id, p)) l.topic.partitions))
