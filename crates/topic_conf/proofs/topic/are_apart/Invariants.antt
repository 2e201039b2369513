use Rattle.std.proofs.Common.{AllPairs, length}
use Rattle.topic_conf.specs.Topics.{AreApart}
use Rattle.topic_conf.proofs.topic.are_apart.Given as goal

abbrev pub invariant-loop-topic : goal.invariant-loop-topic
invariant-loop-topic l = record {
  down : AllPairs AreApart l.topics → AllPairs AreApart l.rest;
  up : AllPairs AreApart l.rest → AllPairs AreApart l.topics;
}

abbrev pub decreases-loop-topic : goal.decreases-loop-topic
decreases-loop-topic l = length l.rest
