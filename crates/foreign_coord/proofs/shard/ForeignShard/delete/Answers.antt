use Rattle.std.proofs.Common.{◌∙◌, sym, ap, subst, Ok}
use Rattle.share_model.specs.declared.foreign.ForeignAnswer.{ForeignAnswer}
use Rattle.foreign_coord.specs.Codes.{Tells, TellsFault}
use Rattle.foreign_coord.proofs.Ops.{delete_acts, tells_ok, tells_err}
use Rattle.foreign_coord.proofs.shard.ForeignShard.delete.Goals.{in-Ok, in-Err}
use Rattle.foreign_coord.proofs.shard.ForeignShard.delete.Goals as goal

pub returns-clause-once : goal.returns-clause-once
returns-clause-once g c =
    let tells : Tells c.remove.result c.match-remove.result = elim c.match-remove.branch [
      | in-Ok w ↦ tells_ok c.remove.result _ c.match-remove.result w.in-Ok.is (w.result-is ∙ ap (λ (a : ForeignAnswer). Ok a) w.alone.ensures)
      | in-Err w ↦ tells_err c.remove.result w.in-Err.fault c.match-remove.result w.in-Err.is (subst (λ r. TellsFault w.in-Err.fault r) (sym w.result-is) w.refusal.ensures.tells)
    ] in
    delete_acts g.D.Disk.seen c.self.inside.coord c.args.self.now c.remove.new.self c.args.key.now c.match-remove.result c.self.view_is g.met.D.Disk.only_now
    c.remove.result tells c.remove.ensures.absent c.remove.ensures.causes c.remove.ensures.once c.remove.ensures.stored
