use Rattle.std.proofs.Common.{◌≡◌, ◌∷◌, [], refl, sym, subst, List, ℕ, Err, rules}
use Rattle.broker_model.specs.Hosted.{Hosted, disks_of}
use Rattle.broker_hosts.specs.declared.slot.PartState.TheVariants as part
use Rattle.broker_hosts.specs.Hosts.{AreDistinct}
use Rattle.broker_hosts.specs.Taking.{GetsNone, RefusesPart, TakesPart}
use Rattle.broker_hosts.proofs.Partitions.{gets_named, none_part, puts_named, refused_part, taken_part}
use Rattle.broker_hosts.proofs.Taking.{err_at}
use Rattle.broker_hosts.proofs.bay.take_part.Goals as goal

pub returns-in_err-disks-clause-err : goal.returns-in_err-disks-clause-err
returns-in_err-disks-clause-err g c =
    let err : c.from_residual.result ≡ Err c.in_err-disks.field-0.0 = search rules in
    err_at (λ e. RefusesPart g.B.Bay.seen g.D.Disk.seen
    c.args.part e c.args.bay.now c.take_three.new.bay) c.from_residual.result c.in_err-disks.field-0.0 err
    (subst (λ (h : Hosted). RefusesPart g.B.Bay.seen g.D.Disk.seen
    h c.in_err-disks.field-0.0 c.args.bay.now c.take_three.new.bay) c.part.view_is
    (none_part g.B.Bay.seen g.D.Disk.seen
    (record { topic = c.part.inside.topic; conf = c.part.inside.conf }) c.args.bay.now c.take_three.new.bay c.in_err-disks.field-0.0
    (subst (λ (names : List (List ℕ)). GetsNone g.B.Bay.seen names c.in_err-disks.field-0.0
    c.args.bay.now c.take_three.new.bay)
    (λ i. c.names_of-names.ensures.log i ∷ c.names_of-names.ensures.first i ∷ c.names_of-names.ensures.second i ∷ []) c.in_err-disks.ensures.err)))

pub returns-in-Ok-clause-ok : goal.returns-in-Ok-clause-ok
returns-in-Ok-clause-ok g c =
    subst (λ (h : Hosted). TakesPart g.B.Bay.seen g.D.Disk.seen
    h c.args.bay.now (record { topic = c.part.inside.topic; conf = c.part.inside.conf; state = part.Open c.in-Ok.shard }) c.take_three.new.bay) c.part.view_is
    (taken_part g.B.Bay.seen g.D.Disk.seen
    (record { topic = c.part.inside.topic; conf = c.part.inside.conf }) (subst (λ (h : Hosted). AreDistinct (disks_of h)) (sym c.part.view_is) c.requires.apart)
    c.in_ok-disks.disks.0 c.in_ok-disks.disks.1 c.in_ok-disks.disks.2 c.args.bay.now c.take_three.new.bay c.in-Ok.shard
    (record { topic = c.part.inside.topic; conf = c.part.inside.conf; state = part.Open c.in-Ok.shard }) refl refl
    (gets_named g.B.Bay.seen g.D.Disk.seen
    (record { topic = c.part.inside.topic; conf = c.part.inside.conf }) (subst (λ (h : Hosted). AreDistinct (disks_of h)) (sym c.part.view_is) c.requires.apart)
    c.in_ok-disks.disks.0 c.in_ok-disks.disks.1 c.in_ok-disks.disks.2 c.names_of-names.result.log c.names_of-names.result.first c.names_of-names.result.second
    c.args.bay.now c.take_three.new.bay c.names_of-names.ensures.log c.names_of-names.ensures.first c.names_of-names.ensures.second c.in_ok-disks.ensures.ok)
    c.in-Ok.ensures.log.later c.in-Ok.ensures.first.later c.in-Ok.ensures.second.later c.in-Ok.ensures.opens c.in-Ok.ensures.images c.in-Ok.ensures.runs
    c.in-Ok.ensures.fed c.in-Ok.ensures.fresh)

pub returns-in-Err-clause-err : goal.returns-in-Err-clause-err
returns-in-Err-clause-err g c =
    subst (λ (h : Hosted). RefusesPart g.B.Bay.seen g.D.Disk.seen
    h c.in-Err.fault c.args.bay.now c.put_three.new.bay) c.part.view_is
    (refused_part g.B.Bay.seen g.D.Disk.seen
    (record { topic = c.part.inside.topic; conf = c.part.inside.conf }) (subst (λ (h : Hosted). AreDistinct (disks_of h)) (sym c.part.view_is) c.requires.apart)
    c.in_ok-disks.disks.0 c.in_ok-disks.disks.1 c.in_ok-disks.disks.2 c.args.bay.now c.take_three.new.bay c.put_three.new.bay
    c.in-Err.disks.0 c.in-Err.disks.1 c.in-Err.disks.2 c.in-Err.fault
    (gets_named g.B.Bay.seen g.D.Disk.seen
    (record { topic = c.part.inside.topic; conf = c.part.inside.conf }) (subst (λ (h : Hosted). AreDistinct (disks_of h)) (sym c.part.view_is) c.requires.apart)
    c.in_ok-disks.disks.0 c.in_ok-disks.disks.1 c.in_ok-disks.disks.2 c.names_of-names.result.log c.names_of-names.result.first c.names_of-names.result.second
    c.args.bay.now c.take_three.new.bay c.names_of-names.ensures.log c.names_of-names.ensures.first c.names_of-names.ensures.second c.in_ok-disks.ensures.ok)
    (puts_named g.B.Bay.seen g.D.Disk.seen
    (record { topic = c.part.inside.topic; conf = c.part.inside.conf }) (subst (λ (h : Hosted). AreDistinct (disks_of h)) (sym c.part.view_is) c.requires.apart)
    c.in-Err.disks.0 c.in-Err.disks.1 c.in-Err.disks.2 c.names_of-names.result.log c.names_of-names.result.first c.names_of-names.result.second
    c.take_three.new.bay c.put_three.new.bay c.names_of-names.ensures.log c.names_of-names.ensures.first c.names_of-names.ensures.second c.put_three.ensures)
    c.in-Err.ensures.recovers c.in-Err.ensures.sound c.in-Err.ensures.damaged c.in-Err.ensures.device c.in-Err.ensures.no_bay c.in-Err.ensures.images c.in-Err.ensures.runs
    c.in-Err.ensures.fed)
