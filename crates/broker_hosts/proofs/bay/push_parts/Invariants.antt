use Rattle.std.proofs.Common.{◌≡◌, ◌++◌, ◌-◌}
use Rattle.broker_model.specs.Hosted.{hosted_from}
use Rattle.broker_hosts.proofs.bay.push_parts.Given as goal

abbrev pub invariant-loop-part : goal.invariant-loop-part
invariant-loop-part l = l.parts.items ++ hosted_from l.conf l.topic l.part (l.topic.parts - l.part)
    ≡ l.fn.parts.items ++ hosted_from l.conf l.topic 0 l.topic.parts
