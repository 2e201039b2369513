use Rattle.std.proofs.Common.{length}
use Rattle.edge_io.specs.Names.{most_partitions}
use Rattle.topic_conf.proofs.Lists.{FitInto}
use Rattle.topic_conf.proofs.topic.are_few.Given as goal

abbrev pub invariant-loop-topic : goal.invariant-loop-topic
invariant-loop-topic l = record {
  down : FitInto most_partitions l.topics → FitInto l.room l.rest;
  up : FitInto l.room l.rest → FitInto most_partitions l.topics;
}

abbrev pub decreases-loop-topic : goal.decreases-loop-topic
decreases-loop-topic l = length l.rest
