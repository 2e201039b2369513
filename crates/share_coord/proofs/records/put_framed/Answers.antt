use Rattle.std.proofs.Common.{[], ◌∷◌, None, false, Result, ℕ, subst}
use Rattle.share_model.specs.declared.fault.StoreFault.{StoreFault}
use Rattle.share_coord.specs.Putting.{Puts, told_as}
use Rattle.share_coord.proofs.Framed.{put_alone}
use Rattle.share_coord.proofs.Once.{on_ok_at}
use Rattle.share_coord.proofs.records.put_framed.Goals as goal

pub returns-in-Ok-clause-puts : goal.returns-in-Ok-clause-puts
returns-in-Ok-clause-puts g c = λ written valid is size snapshots.
    subst (λ (r : Result ℕ StoreFault). Puts g.D.Disk.seen snapshots written None c.args.journal.now c.append.new.self false (told_as r)) c.in-Ok.is
    (put_alone g.D.Disk.seen c.args.journal.now c.append.new.self c.args.buffer.now written valid is size snapshots c.append.result
    (c.append.ensures.writes [] snapshots) (c.append.ensures.writes [] ([] ∷ [])))

pub returns-in-Err-clause-puts : goal.returns-in-Err-clause-puts
returns-in-Err-clause-puts g c = λ written valid is size snapshots.
    subst (λ (r : Result ℕ StoreFault). Puts g.D.Disk.seen snapshots written None c.args.journal.now c.append.new.self false (told_as r)) c.in-Err.is
    (put_alone g.D.Disk.seen c.args.journal.now c.append.new.self c.args.buffer.now written valid is size snapshots c.append.result
    (c.append.ensures.writes [] snapshots) (c.append.ensures.writes [] ([] ∷ [])))

pub returns-in-Ok-clause-alone : goal.returns-in-Ok-clause-alone
returns-in-Ok-clause-alone g c = let a = c.append.ensures.alone in record { same = a.same; other = a.other; quiet = on_ok_at c.append.result _ _ c.in-Ok.is a.quiet }

pub returns-in-Err-clause-alone : goal.returns-in-Err-clause-alone
returns-in-Err-clause-alone g c = let a = c.append.ensures.alone in record { same = a.same; other = a.other; quiet = tt }
