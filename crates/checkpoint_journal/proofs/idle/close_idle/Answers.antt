use Rattle.std.proofs.Common.{inl, None}
use Rattle.std.proofs.lemmas.Result.{on_err_weaker}
use Rattle.edge_io.proofs.Moments.{weakened}
use Rattle.gate_journal.proofs.Changes.{on_ok_both}
use Rattle.gate_journal.proofs.Spares.{spare_closed, spare_touched, touched}
use Rattle.checkpoint_journal.specs.Spares.{IsIdle}
use Rattle.checkpoint_journal.proofs.idle.close_idle.Goals as goal

pub returns-clause-closed : goal.returns-clause-closed
returns-clause-closed g c = on_ok_both c.close_first.result _ _ _ c.close_first.ensures.bare c.close_first.ensures.ok
    (λ is shaped on_second live sealing b. record {
      none = b.none;
      spare = spare_closed (IsIdle on_second live sealing) b.spare.none g.D.Disk.seen c.args.idle.now b.spare (IsIdle on_second live None) (inl b.none)
          c.close_first.new.self is (shaped b.spare.bare).each c.close_first.ensures.images;
    })

pub returns-clause-kept : goal.returns-clause-kept
returns-clause-kept g c = on_err_weaker c.close_first.result (λ is on_second live sealing b. record {
  none = b.none;
  spare = spare_touched (IsIdle on_second live sealing) b.spare.none g.D.Disk.seen c.args.idle.now b.spare c.close_first.new.self is c.close_first.ensures.images;
}) c.close_first.ensures.kept

pub returns-clause-any_moment : goal.returns-clause-any_moment
returns-clause-any_moment g c = λ on_second live sealing b.
    weakened g.D.Disk.seen _ _ _ _ c.close_first.ensures.any_moment
    (λ x t. touched (IsIdle on_second live sealing) b.spare.none g.D.Disk.seen c.args.idle.now b.spare x t)
