use Rattle.std.proofs.Common.{refl, subst, ℕ}
use Rattle.broker_shards.specs.Acts.{ActsOnPart, ActsPart}
use Rattle.broker_shards.specs.Crashes.{FoundWithin}
use Rattle.broker_shards.specs.Hosts.{Host, holding}
use Rattle.broker_shards.proofs.part.PartHostShard.act.Goals as goal

pub returns : goal.returns
returns g c =
    let did = c.act_on_part.ensures in
    let is = c.ms.ensures.is in
    subst (λ (h : Host g.row.D.Denot). ActsPart g.D.Disk.seen h c.args.event.now c.act_on_part.result
    (record { topic = c.self.inside.topic; conf = c.self.inside.conf; part = c.act_on_part.new.part })) c.self.view_is
    (record {
      topic = refl;
      conf = refl;
      acts = subst (λ (n : ℕ). ActsOnPart g.D.Disk.seen holding n c.args.event.now.ask c.self.inside.part c.act_on_part.result c.act_on_part.new.part) is did.acts;
      goes_on = did.goes_on;
      within = subst (λ (n : ℕ). FoundWithin g.D.Disk.seen holding n c.args.event.now.ask c.self.inside.part c.act_on_part.new.part) is did.within;
      unused = did.unused;
    })
