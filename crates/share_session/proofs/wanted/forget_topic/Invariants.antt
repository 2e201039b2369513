use Rattle.std.proofs.Common.{◌≡◌, map, drop, nat_eq}
use Rattle.std.specs.List.{filter_map}
use Rattle.indexmap.specs.IndexSet as key_set
use Rattle.share_session.specs.Requests.{forgotten_of}
use Rattle.share_session.proofs.wanted.forget_topic.Given as goal

abbrev pub invariant-loop-partition : goal.invariant-loop-partition
invariant-loop-partition l =
    key_set.insert_all nat_eq l.forgotten.keys (filter_map (forgotten_of l.conf.topics) (map (λ p. (l.topic.topic_id, p)) (drop l.partition-index l.topic.partitions)))
    ≡ key_set.insert_all nat_eq l.fn.forgotten.keys (filter_map (forgotten_of l.conf.topics) (map (λ p. (l.topic.topic_id, p)) l.topic.partitions))
