use Rattle.std.proofs.Common.{Result, ℕ, OnErr, OnOk, subst}
use Rattle.share_model.specs.declared.fault.StoreFault.{StoreFault}
use Rattle.checkpoint_journal.specs.Making.{DoesSome, FailsOrFull}
use Rattle.checkpoint_journal.proofs.Stopping.{append_does, append_stops}
use Rattle.checkpoint_journal.proofs.making.put_frame.Goals as goal

pub returns-in-Ok-clause-calls : goal.returns-in-Ok-clause-calls
returns-in-Ok-clause-calls g c = subst (λ (r : Result ℕ StoreFault). OnOk r (DoesSome g.D.Disk.seen c.args.idle.now.disk c.append.new.self.disk)) c.in-Ok.is
    (append_does g.D.Disk.seen c.args.idle.now c.append.new.self _ c.append.result c.append.ensures.disk)

pub returns-in-Err-clause-stops : goal.returns-in-Err-clause-stops
returns-in-Err-clause-stops g c = subst (λ (r : Result ℕ StoreFault). OnErr r (FailsOrFull g.D.Disk.seen c.args.idle.now c.append.new.self)) c.in-Err.is
    (append_stops g.D.Disk.seen c.args.idle.now c.append.new.self _ _ _ c.append.result c.append.ensures.disk c.append.ensures.full)
