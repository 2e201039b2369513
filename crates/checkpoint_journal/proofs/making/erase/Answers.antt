use Rattle.std.proofs.Common.{rules}
use Rattle.edge_io.proofs.Moments.{weakened}
use Rattle.gate_journal.proofs.Spares.{clearing, spare_partly}
use Rattle.checkpoint_journal.specs.Spares.{IsIdle}
use Rattle.checkpoint_journal.proofs.Stopping.{erased}
use Rattle.checkpoint_journal.proofs.making.erase.Goals as goal

pub returns-in-Ok-clause-any_moment : goal.returns-in-Ok-clause-any_moment
returns-in-Ok-clause-any_moment g c = λ on_second live sealing b.
    weakened g.D.Disk.seen _ _ _ _ (c.clear.ensures.any_moment b.spare.bare)
    (λ x t. clearing (IsIdle on_second live sealing) b.spare.none g.D.Disk.seen c.args.idle.now b.spare x t)

pub returns-in-Err-clause-kept : goal.returns-in-Err-clause-kept
returns-in-Err-clause-kept g c = λ on_second live sealing b. record {
  none = b.none;
  spare = spare_partly (IsIdle on_second live sealing) b.spare.none g.D.Disk.seen c.args.idle.now b.spare c.clear.new.self (c.in-Err.ensures.failed b.spare.bare);
}

pub returns-in-Err-clause-any_moment : goal.returns-in-Err-clause-any_moment
returns-in-Err-clause-any_moment g c = λ on_second live sealing b.
    weakened g.D.Disk.seen _ _ _ _ (c.clear.ensures.any_moment b.spare.bare)
    (λ x t. clearing (IsIdle on_second live sealing) b.spare.none g.D.Disk.seen c.args.idle.now b.spare x t)

pub returns-in-Ok-clause-calls : goal.returns-in-Ok-clause-calls
returns-in-Ok-clause-calls g c = erased g.D.Disk.seen c.args.idle.now c.clear.new.self c.in-Ok.ensures.calls

pub returns-in-Err-clause-rose : goal.returns-in-Err-clause-rose
returns-in-Err-clause-rose g c = search rules
