use Rattle.std.proofs.Common.{ℕ, OnOk, Result, subst}
use Rattle.share_model.specs.declared.fault.StoreFault.{StoreFault}
use Rattle.checkpoint_journal.specs.Making.{DoesSome}
use Rattle.checkpoint_journal.proofs.Stopping.{append_does}
use Rattle.checkpoint_journal.proofs.making.write_seal.Goals as goal

pub returns-in-Ok-clause-calls : goal.returns-in-Ok-clause-calls
returns-in-Ok-clause-calls g c = subst (λ (r : Result ℕ StoreFault). OnOk r (DoesSome g.D.Disk.seen c.args.idle.now.disk c.append.new.self.disk)) c.in-Ok.is
    (append_does g.D.Disk.seen c.args.idle.now c.append.new.self _ c.append.result c.append.ensures.disk)
