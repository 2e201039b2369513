use Rattle.std.proofs.Common.{ap, refl, rules, sym, ◌∙◌, of_z, to_z, w64}
use Rattle.std.proofs.lemmas.Int.{to_z-of_z}
use mir.Val.{SFits}
use Rattle.broker_shards.specs.Hosts.{holding}
use Rattle.broker_shards.specs.declared.part.PartAsk.TheVariants as asks
use Rattle.broker_shards.proofs.Parting.{acted, found, left, look_goes}
use Rattle.broker_shards.proofs.part.act_on_part.Goals as goal

pub returns-in-Visit-clause-acts : goal.returns-in-Visit-clause-acts
returns-in-Visit-clause-acts g c =
    acted g.D.Disk.seen holding c.args.now (asks.Visit c.in-Visit.asked) c.args.ask.now c.visit.result c.args.part.now c.visit.new.part
    c.in-Visit.is c.visit.ensures.acts

pub returns-in-Visit-clause-within : goal.returns-in-Visit-clause-within
returns-in-Visit-clause-within g c =
    found g.D.Disk.seen holding c.args.now (asks.Visit c.in-Visit.asked) c.args.ask.now c.args.part.now c.visit.new.part
    c.in-Visit.is c.visit.ensures.within

pub returns-in-Visit-clause-unused : goal.returns-in-Visit-clause-unused
returns-in-Visit-clause-unused g c =
    left (asks.Visit c.in-Visit.asked) c.args.ask.now c.args.part.now c.visit.new.part c.in-Visit.is c.visit.ensures.unused

pub returns-in-Produce-clause-acts : goal.returns-in-Produce-clause-acts
returns-in-Produce-clause-acts g c =
    acted g.D.Disk.seen holding c.args.now (asks.Produce c.as_slice.result.now) c.args.ask.now c.produce.result c.args.part.now c.produce.new.part
    (c.in-Produce.is ∙ ap (λ b. asks.Produce b) (sym c.as_slice.ensures)) c.produce.ensures.acts

pub returns-in-Produce-clause-within : goal.returns-in-Produce-clause-within
returns-in-Produce-clause-within g c =
    found g.D.Disk.seen holding c.args.now (asks.Produce c.as_slice.result.now) c.args.ask.now c.args.part.now c.produce.new.part
    (c.in-Produce.is ∙ ap (λ b. asks.Produce b) (sym c.as_slice.ensures)) c.produce.ensures.within

pub returns-in-Produce-clause-unused : goal.returns-in-Produce-clause-unused
returns-in-Produce-clause-unused g c =
    left (asks.Produce c.as_slice.result.now) c.args.ask.now c.args.part.now c.produce.new.part
    (c.in-Produce.is ∙ ap (λ b. asks.Produce b) (sym c.as_slice.ensures)) c.produce.ensures.unused

pub returns-in-Delete-clause-acts : goal.returns-in-Delete-clause-acts
returns-in-Delete-clause-acts g c =
    let fits : SFits w64 c.in-Delete.to = search rules in
    acted g.D.Disk.seen holding c.args.now (asks.Delete (to_z w64 (of_z w64 c.in-Delete.to))) c.args.ask.now c.delete.result c.args.part.now c.delete.new.part
    (c.in-Delete.is ∙ ap (λ to. asks.Delete to) (sym (to_z-of_z w64 c.in-Delete.to fits))) c.delete.ensures.acts

pub returns-in-Delete-clause-within : goal.returns-in-Delete-clause-within
returns-in-Delete-clause-within g c =
    let fits : SFits w64 c.in-Delete.to = search rules in
    found g.D.Disk.seen holding c.args.now (asks.Delete (to_z w64 (of_z w64 c.in-Delete.to))) c.args.ask.now c.args.part.now c.delete.new.part
    (c.in-Delete.is ∙ ap (λ to. asks.Delete to) (sym (to_z-of_z w64 c.in-Delete.to fits))) c.delete.ensures.within

pub returns-in-Delete-clause-unused : goal.returns-in-Delete-clause-unused
returns-in-Delete-clause-unused g c =
    let fits : SFits w64 c.in-Delete.to = search rules in
    left (asks.Delete (to_z w64 (of_z w64 c.in-Delete.to))) c.args.ask.now c.args.part.now c.delete.new.part
    (c.in-Delete.is ∙ ap (λ to. asks.Delete to) (sym (to_z-of_z w64 c.in-Delete.to fits))) c.delete.ensures.unused

pub returns-in-Expire-clause-acts : goal.returns-in-Expire-clause-acts
returns-in-Expire-clause-acts g c =
    acted g.D.Disk.seen holding c.args.now asks.Expire c.args.ask.now c.expire.result c.args.part.now c.expire.new.part
    c.in-Expire.is c.expire.ensures.acts

pub returns-in-Expire-clause-within : goal.returns-in-Expire-clause-within
returns-in-Expire-clause-within g c =
    found g.D.Disk.seen holding c.args.now asks.Expire c.args.ask.now c.args.part.now c.expire.new.part
    c.in-Expire.is c.expire.ensures.within

pub returns-in-Expire-clause-unused : goal.returns-in-Expire-clause-unused
returns-in-Expire-clause-unused g c =
    left asks.Expire c.args.ask.now c.args.part.now c.expire.new.part c.in-Expire.is c.expire.ensures.unused

pub returns-in-Look-clause-acts : goal.returns-in-Look-clause-acts
returns-in-Look-clause-acts g c = acted g.D.Disk.seen holding c.args.now (asks.Look c.in-Look.group) c.args.ask.now c.look.result c.args.part.now c.args.part.now
    c.in-Look.is (c.look.ensures.acts c.args.now)

pub returns-in-Look-clause-within : goal.returns-in-Look-clause-within
returns-in-Look-clause-within g c = found g.D.Disk.seen holding c.args.now (asks.Look c.in-Look.group) c.args.ask.now c.args.part.now c.args.part.now
    c.in-Look.is (c.look.ensures.within c.args.now)

pub returns-in-Look-clause-unused : goal.returns-in-Look-clause-unused
returns-in-Look-clause-unused g c = left (asks.Look c.in-Look.group) c.args.ask.now c.args.part.now c.args.part.now c.in-Look.is refl

pub returns-in-Look-clause-goes_on : goal.returns-in-Look-clause-goes_on
returns-in-Look-clause-goes_on g c = look_goes g.D.Disk.seen holding c.args.part.now

pub returns-in-Offer-clause-acts : goal.returns-in-Offer-clause-acts
returns-in-Offer-clause-acts g c = acted g.D.Disk.seen holding c.args.now (asks.Offer c.in-Offer.group) c.args.ask.now c.offer.result c.args.part.now c.args.part.now
    c.in-Offer.is (c.offer.ensures.acts c.args.now)

pub returns-in-Offer-clause-within : goal.returns-in-Offer-clause-within
returns-in-Offer-clause-within g c = found g.D.Disk.seen holding c.args.now (asks.Offer c.in-Offer.group) c.args.ask.now c.args.part.now c.args.part.now
    c.in-Offer.is (c.offer.ensures.within c.args.now)

pub returns-in-Offer-clause-unused : goal.returns-in-Offer-clause-unused
returns-in-Offer-clause-unused g c = left (asks.Offer c.in-Offer.group) c.args.ask.now c.args.part.now c.args.part.now c.in-Offer.is refl

pub returns-in-Offer-clause-goes_on : goal.returns-in-Offer-clause-goes_on
returns-in-Offer-clause-goes_on g c = look_goes g.D.Disk.seen holding c.args.part.now
