use Rattle.std.proofs.Common.{◌≡◌, ◌++◌, map, drop}
use Rattle.share_calls.specs.Acknowledge.{placed, steps_left}
use Rattle.share_calls.proofs.ack_entries.place_topic.Given as goal

abbrev pub invariant-loop-partition : goal.invariant-loop-partition
invariant-loop-partition l = record {
  left :
      l.left.items ++ placed l.conf.topics l.steps.items (map (λ p. (l.topic.topic_id, p)) (drop l.partition-index l.topic.partitions))
      ≡ l.fn.left.items ++ placed l.conf.topics l.fn.steps.items (map (λ p. (l.topic.topic_id, p)) l.topic.partitions);
  steps :
      steps_left l.conf.topics l.steps.items (map (λ p. (l.topic.topic_id, p)) (drop l.partition-index l.topic.partitions))
      ≡ steps_left l.conf.topics l.fn.steps.items (map (λ p. (l.topic.topic_id, p)) l.topic.partitions);
}
