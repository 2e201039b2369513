use Rattle.std.proofs.Common.{ℤ, subst, w64}
use Rattle.std.proofs.lemmas.Int.{to_z-of_z}
use Rattle.share_part.specs.Deleting.{DeletesOnce}
use Rattle.share_part.proofs.Deleting.{same_journal}
use Rattle.broker_shards.specs.Hosts.{holding}
use Rattle.broker_shards.proofs.Finding.{delete_found}
use Rattle.broker_shards.proofs.Parting.{deleted, log_goes}
use Rattle.broker_shards.proofs.part.delete.Goals as goal

pub returns-clause-acts : goal.returns-clause-acts
returns-clause-acts g c =
    let once = subst (λ (to : ℤ). DeletesOnce g.D.Disk.seen holding c.args.now to c.args.part.now c.delete.new.self c.delete.result)
    (to_z-of_z w64 c.args.to c.ranges.to) c.delete.ensures.once in
    deleted g.D.Disk.seen holding c.args.part.now c.delete.new.self c.args.now c.args.to c.delete.result c.delete.ensures.below once.quiet once.steps

pub returns-clause-goes_on : goal.returns-clause-goes_on
returns-clause-goes_on g c = let once = c.delete.ensures.once in
    log_goes g.D.Disk.seen holding c.args.part.now c.delete.new.self once.conf c.delete.ensures.runs
    (same_journal c.delete.result c.args.part.now.states c.delete.new.self.states once.states) (λ s k. once.ends)

pub returns-clause-within : goal.returns-clause-within
returns-clause-within g c = delete_found g.D.Disk.seen holding g.met.D.Disk.only_now c.args.part.now c.delete.new.self c.args.now
    c.args.to c.delete.result
    (subst (λ (to : ℤ). DeletesOnce g.D.Disk.seen holding c.args.now to c.args.part.now c.delete.new.self c.delete.result)
    (to_z-of_z w64 c.args.to c.ranges.to) c.delete.ensures.once)

pub returns-clause-unused : goal.returns-clause-unused
returns-clause-unused g c = same_journal c.delete.result c.args.part.now.states c.delete.new.self.states c.delete.ensures.once.states
