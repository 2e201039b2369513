use Rattle.std.proofs.Common.{◌≡◌}
use Rattle.broker_hosts.specs.declared.fault.CoreOpen.TheVariants.{NoMemory}
use Rattle.broker_hosts.specs.Carried.{IsPartCarried}
use Rattle.broker_hosts.specs.Hosts.{PartStandsAlone}
use Rattle.broker_core.proofs.Restarting.{flip}
use Rattle.broker_core.proofs.Reopens.{goes_same, goes_still, images_behind, images_within, lost_still, part_stays_shut, restarted_part, stands_within, told_at, told_same, within_on, within_same}
use Rattle.broker_core.proofs.Stepping.{match_err, match_weaker, ok_weaker}
use Rattle.broker_core.proofs.part.restart_part.Goals as goal

pub returns-in-Err-clause-err : goal.returns-in-Err-clause-err
returns-in-Err-clause-err g c = λ s k. (
  stands_within g.D.Disk.seen
      c.args.conf c.args.part s c.lose.new.disk c.into_disks-log.result.1 c.into_disks-log.result.2 k
      (within_on g.D.Disk.seen
      c.args.part.log.journal.disk c.into_disks-log.result.0 c.lose.new.disk c.into_disks-log.ensures.0 c.lose.ensures.images)
      (within_same g.D.Disk.seen
      c.args.part.states.journal.first.disk c.into_disks-log.result.1 c.into_disks-log.ensures.1)
      (within_same g.D.Disk.seen
      c.args.part.states.journal.second.disk c.into_disks-log.result.2 c.into_disks-log.ensures.2)
      (goes_still g.D.Disk.seen
      c.args.part.log.journal.disk c.into_disks-log.result.0 c.lose.new.disk c.into_disks-log.ensures.0 c.lose.ensures.goes)
      (goes_same g.D.Disk.seen
      c.args.part.states.journal.first.disk c.into_disks-log.result.1 c.into_disks-log.ensures.1)
      (goes_same g.D.Disk.seen
      c.args.part.states.journal.second.disk c.into_disks-log.result.2 c.into_disks-log.ensures.2),
  c.in-Err.ensures.memory (told_same g.D.Disk.seen
      c.args.part.log.journal.disk c.into_disks-log.result.0 c.into_disks-log.ensures.0 k.log.told),
)

pub returns-in-Err-lose-clause-err : goal.returns-in-Err-lose-clause-err
returns-in-Err-lose-clause-err g c = λ s k. (
  stands_within g.D.Disk.seen
      c.args.conf c.args.part s c.lose.new.disk c.lose-2.new.disk c.into_disks-log.result.2 k
      (within_on g.D.Disk.seen
      c.args.part.log.journal.disk c.into_disks-log.result.0 c.lose.new.disk c.into_disks-log.ensures.0 c.lose.ensures.images)
      (within_on g.D.Disk.seen
      c.args.part.states.journal.first.disk c.into_disks-log.result.1 c.lose-2.new.disk c.into_disks-log.ensures.1 c.lose-2.ensures.images)
      (within_same g.D.Disk.seen
      c.args.part.states.journal.second.disk c.into_disks-log.result.2 c.into_disks-log.ensures.2)
      (goes_still g.D.Disk.seen
      c.args.part.log.journal.disk c.into_disks-log.result.0 c.lose.new.disk c.into_disks-log.ensures.0 c.lose.ensures.goes)
      (goes_still g.D.Disk.seen
      c.args.part.states.journal.first.disk c.into_disks-log.result.1 c.lose-2.new.disk c.into_disks-log.ensures.1 c.lose-2.ensures.goes)
      (goes_same g.D.Disk.seen
      c.args.part.states.journal.second.disk c.into_disks-log.result.2 c.into_disks-log.ensures.2),
  c.in-Err-lose.ensures.memory (told_same g.D.Disk.seen
      c.args.part.states.journal.first.disk c.into_disks-log.result.1 c.into_disks-log.ensures.1 k.first.told),
)

pub returns-in-Err-lose-2-clause-err : goal.returns-in-Err-lose-2-clause-err
returns-in-Err-lose-2-clause-err g c = λ s k. (
  stands_within g.D.Disk.seen
      c.args.conf c.args.part s c.lose.new.disk c.lose-2.new.disk c.lose-3.new.disk k
      (within_on g.D.Disk.seen
      c.args.part.log.journal.disk c.into_disks-log.result.0 c.lose.new.disk c.into_disks-log.ensures.0 c.lose.ensures.images)
      (within_on g.D.Disk.seen
      c.args.part.states.journal.first.disk c.into_disks-log.result.1 c.lose-2.new.disk c.into_disks-log.ensures.1 c.lose-2.ensures.images)
      (within_on g.D.Disk.seen
      c.args.part.states.journal.second.disk c.into_disks-log.result.2 c.lose-3.new.disk c.into_disks-log.ensures.2 c.lose-3.ensures.images)
      (goes_still g.D.Disk.seen
      c.args.part.log.journal.disk c.into_disks-log.result.0 c.lose.new.disk c.into_disks-log.ensures.0 c.lose.ensures.goes)
      (goes_still g.D.Disk.seen
      c.args.part.states.journal.first.disk c.into_disks-log.result.1 c.lose-2.new.disk c.into_disks-log.ensures.1 c.lose-2.ensures.goes)
      (goes_still g.D.Disk.seen
      c.args.part.states.journal.second.disk c.into_disks-log.result.2 c.lose-3.new.disk c.into_disks-log.ensures.2 c.lose-3.ensures.goes),
  c.in-Err-lose-2.ensures.memory (told_same g.D.Disk.seen
      c.args.part.states.journal.second.disk c.into_disks-log.result.2 c.into_disks-log.ensures.2 k.second.told),
)

pub returns-clause-ok : goal.returns-clause-ok
returns-clause-ok g c = ok_weaker _ _ c.open_part.result
    (λ new opens s k.
    let on_log = lost_still g.D.Disk.seen
    c.args.choice c.args.part.log.journal.disk c.into_disks-log.result.0 c.lose.new.disk c.into_disks-log.ensures.0 k.log.told c.in_default.ensures.lost in
    let on_first = lost_still g.D.Disk.seen
    c.args.choice c.args.part.states.journal.first.disk c.into_disks-log.result.1 c.lose-2.new.disk c.into_disks-log.ensures.1 k.first.told c.in_default-lose.ensures.lost in
    let on_second = lost_still g.D.Disk.seen
    c.args.choice c.args.part.states.journal.second.disk c.into_disks-log.result.2 c.lose-3.new.disk c.into_disks-log.ensures.2 k.second.told c.in_default-lose-2.ensures.lost in
    restarted_part g.D.Disk.seen
    c.args.choice c.args.conf c.args.part s c.lose.new.disk c.lose-2.new.disk c.lose-3.new.disk on_log.0 on_first.0 on_second.0 new k on_log.1 on_first.1 on_second.1
    (opens on_log.0 on_first.0 on_second.0 on_log.1.is on_first.1.is on_second.1.is))
    c.open_part.ensures.opens

pub returns-clause-err : goal.returns-clause-err
returns-clause-err g c = flip (IsPartCarried g.D.Disk.seen c.args.conf c.args.part)
    (λ e s. PartStandsAlone g.D.Disk.seen c.args.conf s e.0.0 e.0.1 e.0.2 × (e.1 ≡ NoMemory)) c.open_part.result
    (λ s k.
    let on_log = lost_still g.D.Disk.seen
    c.args.choice c.args.part.log.journal.disk c.into_disks-log.result.0 c.lose.new.disk c.into_disks-log.ensures.0 k.log.told c.in_default.ensures.lost in
    let on_first = lost_still g.D.Disk.seen
    c.args.choice c.args.part.states.journal.first.disk c.into_disks-log.result.1 c.lose-2.new.disk c.into_disks-log.ensures.1 k.first.told c.in_default-lose.ensures.lost in
    let on_second = lost_still g.D.Disk.seen
    c.args.choice c.args.part.states.journal.second.disk c.into_disks-log.result.2 c.lose-3.new.disk c.into_disks-log.ensures.2 k.second.told c.in_default-lose-2.ensures.lost in
    part_stays_shut g.D.Disk.seen
    c.args.choice c.args.conf c.args.part s c.lose.new.disk c.lose-2.new.disk c.lose-3.new.disk on_log.0 on_first.0 on_second.0 k on_log.1 on_first.1 on_second.1
    c.open_part.result (match_err _ _ c.open_part.result c.open_part.ensures.images) c.open_part.ensures.recovers c.open_part.ensures.sound c.open_part.ensures.no_bay
    (told_at g.D.Disk.seen (λ new. new.log.journal.disk) (λ d. d.0) c.lose.new.disk c.open_part.result c.open_part.ensures.log)
    (told_at g.D.Disk.seen (λ new. new.states.journal.first.disk) (λ d. d.1) c.lose-2.new.disk c.open_part.result c.open_part.ensures.first)
    (told_at g.D.Disk.seen (λ new. new.states.journal.second.disk) (λ d. d.2) c.lose-3.new.disk c.open_part.result c.open_part.ensures.second))

pub returns-in-Err-clause-images : goal.returns-in-Err-clause-images
returns-in-Err-clause-images g c = images_within g.D.Disk.seen
    c.args.part c.lose.new.disk c.into_disks-log.result.1 c.into_disks-log.result.2
    (within_on g.D.Disk.seen
    c.args.part.log.journal.disk c.into_disks-log.result.0 c.lose.new.disk c.into_disks-log.ensures.0 c.lose.ensures.images)
    (within_same g.D.Disk.seen
    c.args.part.states.journal.first.disk c.into_disks-log.result.1 c.into_disks-log.ensures.1)
    (within_same g.D.Disk.seen
    c.args.part.states.journal.second.disk c.into_disks-log.result.2 c.into_disks-log.ensures.2)

pub returns-in-Err-lose-clause-images : goal.returns-in-Err-lose-clause-images
returns-in-Err-lose-clause-images g c = images_within g.D.Disk.seen
    c.args.part c.lose.new.disk c.lose-2.new.disk c.into_disks-log.result.2
    (within_on g.D.Disk.seen
    c.args.part.log.journal.disk c.into_disks-log.result.0 c.lose.new.disk c.into_disks-log.ensures.0 c.lose.ensures.images)
    (within_on g.D.Disk.seen
    c.args.part.states.journal.first.disk c.into_disks-log.result.1 c.lose-2.new.disk c.into_disks-log.ensures.1 c.lose-2.ensures.images)
    (within_same g.D.Disk.seen
    c.args.part.states.journal.second.disk c.into_disks-log.result.2 c.into_disks-log.ensures.2)

pub returns-in-Err-lose-2-clause-images : goal.returns-in-Err-lose-2-clause-images
returns-in-Err-lose-2-clause-images g c = images_within g.D.Disk.seen
    c.args.part c.lose.new.disk c.lose-2.new.disk c.lose-3.new.disk
    (within_on g.D.Disk.seen
    c.args.part.log.journal.disk c.into_disks-log.result.0 c.lose.new.disk c.into_disks-log.ensures.0 c.lose.ensures.images)
    (within_on g.D.Disk.seen
    c.args.part.states.journal.first.disk c.into_disks-log.result.1 c.lose-2.new.disk c.into_disks-log.ensures.1 c.lose-2.ensures.images)
    (within_on g.D.Disk.seen
    c.args.part.states.journal.second.disk c.into_disks-log.result.2 c.lose-3.new.disk c.into_disks-log.ensures.2 c.lose-3.ensures.images)

pub returns-clause-images : goal.returns-clause-images
returns-clause-images g c =
    let on_log = (within_on g.D.Disk.seen
    c.args.part.log.journal.disk c.into_disks-log.result.0 c.lose.new.disk c.into_disks-log.ensures.0 c.lose.ensures.images) in
    let on_first = (within_on g.D.Disk.seen
    c.args.part.states.journal.first.disk c.into_disks-log.result.1 c.lose-2.new.disk c.into_disks-log.ensures.1 c.lose-2.ensures.images) in
    let on_second = (within_on g.D.Disk.seen
    c.args.part.states.journal.second.disk c.into_disks-log.result.2 c.lose-3.new.disk c.into_disks-log.ensures.2 c.lose-3.ensures.images) in
    match_weaker _ _ _ _ c.open_part.result
    (λ new. images_behind g.D.Disk.seen
    c.args.part c.lose.new.disk c.lose-2.new.disk c.lose-3.new.disk new.log.journal.disk new.states.journal.first.disk new.states.journal.second.disk
    on_log on_first on_second)
    (λ e. images_behind g.D.Disk.seen
    c.args.part c.lose.new.disk c.lose-2.new.disk c.lose-3.new.disk e.0.0 e.0.1 e.0.2
    on_log on_first on_second)
    c.open_part.ensures.images
