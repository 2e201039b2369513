use Rattle.std.proofs.Common.{◌≡◌, ◌++◌, drop}
use Rattle.broker_model.specs.Hosted.{hosted_in}
use Rattle.broker_hosts.proofs.bay.hosted_parts.Given as goal

abbrev pub invariant-loop-topic : goal.invariant-loop-topic
invariant-loop-topic l = l.parts.items ++ hosted_in l.conf (drop l.topic-index l.topics) ≡ hosted_in l.conf l.topics
