use Rattle.std.proofs.Common.{◌≡◌, ◌∙◌, ap, is_some, IsErr, rules}
use Rattle.broker_core.proofs.Stepping.{match_err, match_weaker, ok_weaker}
use Rattle.broker_core.proofs.Restarting.{images_behind, images_within, lost_of, loss_refused, within_still, told_on, not_lost, stays_shut, restarted, flip, told_first, told_second}
use Rattle.broker_hosts.specs.declared.fault.CoreOpen.TheVariants.{NoMemory}
use Rattle.broker_hosts.specs.Carried.{IsCarried}
use Rattle.broker_core.specs.Restarts.{IsNotRestarted}
use Rattle.broker_core.proofs.shard.restart.Goals as goal

pub returns-in-Err-clause-err : goal.returns-in-Err-clause-err
returns-in-Err-clause-err g c = λ s k.
    (let same = c.into_disks-first.ensures.0 in
    let same_second = c.into_disks-first.ensures.1 in
    let failed : IsErr c.power_loss.result = search rules in (
      not_lost g.D.Disk.seen
          c.args.shard s c.power_loss.new.self c.into_disks-first.result.1 k
          (within_still g.D.Disk.seen
          c.args.shard.journal.first.disk c.into_disks-first.result.0 c.power_loss.new.self same c.power_loss.ensures.images)
          (within_still g.D.Disk.seen
          c.args.shard.journal.second.disk c.into_disks-first.result.1 c.into_disks-first.result.1 same_second (λ x now. now))
          (told_on g.D.Disk.seen
          c.args.shard.journal.first.disk c.into_disks-first.result.0 c.power_loss.new.self same c.power_loss.ensures.told k.told)
          (ap (λ d. is_some (g.D.Disk.seen d).content) same_second ∙ k.second_told),
      c.fault_of_call-fault.ensures.memory
          (loss_refused g.D.Disk.seen
          c.args.shard.journal.first.disk c.into_disks-first.result.0 c.power_loss.new.self c.power_loss.result same k.told failed c.power_loss.ensures.fails),
    ))

pub returns-in-Err-power_loss-clause-err : goal.returns-in-Err-power_loss-clause-err
returns-in-Err-power_loss-clause-err g c = λ s k.
    (let same = c.into_disks-first.ensures.0 in
    let same_second = c.into_disks-first.ensures.1 in
    let failed : IsErr c.power_loss-2.result = search rules in (
      not_lost g.D.Disk.seen
          c.args.shard s c.power_loss.new.self c.power_loss-2.new.self k
          (within_still g.D.Disk.seen
          c.args.shard.journal.first.disk c.into_disks-first.result.0 c.power_loss.new.self same c.power_loss.ensures.images)
          (within_still g.D.Disk.seen
          c.args.shard.journal.second.disk c.into_disks-first.result.1 c.power_loss-2.new.self same_second c.power_loss-2.ensures.images)
          (told_on g.D.Disk.seen
          c.args.shard.journal.first.disk c.into_disks-first.result.0 c.power_loss.new.self same c.power_loss.ensures.told k.told)
          (told_on g.D.Disk.seen
          c.args.shard.journal.second.disk c.into_disks-first.result.1 c.power_loss-2.new.self same_second c.power_loss-2.ensures.told k.second_told),
      c.fault_of_call-fault-in-Err-power_loss.ensures.memory
          (loss_refused g.D.Disk.seen
          c.args.shard.journal.second.disk c.into_disks-first.result.1 c.power_loss-2.new.self c.power_loss-2.result same_second k.second_told failed
          c.power_loss-2.ensures.fails),
    ))

pub returns-clause-ok : goal.returns-clause-ok
returns-clause-ok g c = ok_weaker _ _ c.open_foreign.result
    (λ new opens s k.
    let first = lost_of g.D.Disk.seen
    c.args.choice c.args.shard.journal.first.disk c.into_disks-first.result.0 c.power_loss.new.self c.into_disks-first.ensures.0 k.told
    c.in_default.ensures.loses c.power_loss.ensures.told c.power_loss.ensures.arms c.in_default.ensures.quiet in
    let second = lost_of g.D.Disk.seen
    c.args.choice c.args.shard.journal.second.disk c.into_disks-first.result.1 c.power_loss-2.new.self c.into_disks-first.ensures.1 k.second_told
    c.in_default-power_loss.ensures.loses c.power_loss-2.ensures.told c.power_loss-2.ensures.arms c.in_default-power_loss.ensures.quiet in
    restarted g.D.Disk.seen
    c.args.choice c.args.shard s c.power_loss.new.self c.power_loss-2.new.self first.0 second.0 new k first.1 second.1
    (opens first.0 second.0 first.1.is second.1.is))
    c.open_foreign.ensures.opens

pub returns-clause-err : goal.returns-clause-err
returns-clause-err g c = flip (IsCarried g.D.Disk.seen c.args.shard)
    (λ e s. IsNotRestarted g.D.Disk.seen s e.0 e.1 × (e.2 ≡ NoMemory)) c.open_foreign.result
    (λ s k.
    let first = lost_of g.D.Disk.seen
    c.args.choice c.args.shard.journal.first.disk c.into_disks-first.result.0 c.power_loss.new.self c.into_disks-first.ensures.0 k.told
    c.in_default.ensures.loses c.power_loss.ensures.told c.power_loss.ensures.arms c.in_default.ensures.quiet in
    let second = lost_of g.D.Disk.seen
    c.args.choice c.args.shard.journal.second.disk c.into_disks-first.result.1 c.power_loss-2.new.self c.into_disks-first.ensures.1 k.second_told
    c.in_default-power_loss.ensures.loses c.power_loss-2.ensures.told c.power_loss-2.ensures.arms c.in_default-power_loss.ensures.quiet in
    stays_shut g.D.Disk.seen
    c.args.choice c.args.shard s c.power_loss.new.self c.power_loss-2.new.self c.open_foreign.result k (first.0, first.1) (second.0, second.1)
    (match_err _ _ c.open_foreign.result c.open_foreign.ensures.images) c.open_foreign.ensures.recovers c.open_foreign.ensures.sound c.open_foreign.ensures.no_bay
    (told_first g.D.Disk.seen c.power_loss.new.self c.open_foreign.result c.open_foreign.ensures.first)
    (told_second g.D.Disk.seen c.power_loss-2.new.self c.open_foreign.result c.open_foreign.ensures.second))

pub returns-in-Err-clause-images : goal.returns-in-Err-clause-images
returns-in-Err-clause-images g c = images_within g.D.Disk.seen
    c.args.shard.journal.first.disk c.args.shard.journal.second.disk c.power_loss.new.self c.into_disks-first.result.1
    (within_still g.D.Disk.seen
    c.args.shard.journal.first.disk c.into_disks-first.result.0 c.power_loss.new.self c.into_disks-first.ensures.0 c.power_loss.ensures.images)
    (within_still g.D.Disk.seen
    c.args.shard.journal.second.disk c.into_disks-first.result.1 c.into_disks-first.result.1 c.into_disks-first.ensures.1 (λ x now. now))

pub returns-in-Err-power_loss-clause-images : goal.returns-in-Err-power_loss-clause-images
returns-in-Err-power_loss-clause-images g c = images_within g.D.Disk.seen
    c.args.shard.journal.first.disk c.args.shard.journal.second.disk c.power_loss.new.self c.power_loss-2.new.self
    (within_still g.D.Disk.seen
    c.args.shard.journal.first.disk c.into_disks-first.result.0 c.power_loss.new.self c.into_disks-first.ensures.0 c.power_loss.ensures.images)
    (within_still g.D.Disk.seen
    c.args.shard.journal.second.disk c.into_disks-first.result.1 c.power_loss-2.new.self c.into_disks-first.ensures.1 c.power_loss-2.ensures.images)

pub returns-clause-images : goal.returns-clause-images
returns-clause-images g c =
    let on_first = (within_still g.D.Disk.seen
    c.args.shard.journal.first.disk c.into_disks-first.result.0 c.power_loss.new.self c.into_disks-first.ensures.0 c.power_loss.ensures.images) in
    let on_second = (within_still g.D.Disk.seen
    c.args.shard.journal.second.disk c.into_disks-first.result.1 c.power_loss-2.new.self c.into_disks-first.ensures.1 c.power_loss-2.ensures.images) in
    match_weaker _ _ _ _ c.open_foreign.result
    (λ new. images_behind g.D.Disk.seen
    c.args.shard.journal.first.disk c.args.shard.journal.second.disk c.power_loss.new.self c.power_loss-2.new.self new.journal.first.disk new.journal.second.disk on_first on_second)
    (λ e. images_behind g.D.Disk.seen
    c.args.shard.journal.first.disk c.args.shard.journal.second.disk c.power_loss.new.self c.power_loss-2.new.self e.0 e.1 on_first on_second)
    c.open_foreign.ensures.images
