use Rattle.std.proofs.Common.{◌≡◌, ◌∙◌, ◌∷◌, ◌++◌, [], rules}
use Rattle.broker_model.specs.Hosted.{hosted_from, part_conf}
use Rattle.broker_hosts.proofs.Naming.{hosted_on}
use Rattle.broker_hosts.proofs.bay.push_parts.Goals as goal

pub loop-part-preserved : goal.loop-part-preserved
loop-part-preserved c =
    let is : c.new.result ≡ part_conf c.args.conf.now c.args.topic.now c.loop-part.part =
    c.new.ensures ∙ (λ i. record { topic = c.args.topic.now.id; part = c.loop-part.part; reset = c.reset.ensures i; lock_ms = c.lock_ms.ensures.same i; limit = c.limit.ensures.same i }) in
    let pushed : c.push.new.self.items ≡ c.loop-part.parts.items ++ record { topic = c.args.topic.now.name; conf = c.new.result } ∷ [] = search rules in
    hosted_on c.args.conf.now c.args.topic.now c.loop-part.part c.args.topic.now.parts c.loop-part.parts.items
    (c.args.parts.now.items ++ hosted_from c.args.conf.now c.args.topic.now 0 c.args.topic.now.parts) c.push.new.self.items c.new.result c.loop-part-test.true is pushed c.loop-part.invariant
