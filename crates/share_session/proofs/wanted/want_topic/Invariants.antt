use Rattle.std.proofs.Common.{◌≡◌, map, drop, nat_eq}
use Rattle.std.specs.List.{filter_map}
use Rattle.indexmap.specs.IndexMap as entry_map
use Rattle.share_session.specs.Requests.{wanted_of}
use Rattle.share_session.proofs.wanted.want_topic.Given as goal

abbrev pub invariant-loop-partition : goal.invariant-loop-partition
invariant-loop-partition l =
    entry_map.insert_all nat_eq l.wanted.entries (filter_map (wanted_of l.conf.topics) (map (λ p. (l.topic.topic_id, p)) (drop l.partition-index l.topic.partitions)))
    ≡ entry_map.insert_all nat_eq l.fn.wanted.entries (filter_map (wanted_of l.conf.topics) (map (λ p. (l.topic.topic_id, p)) l.topic.partitions))
