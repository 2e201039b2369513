use Rattle.std.proofs.Common.{Bool, subst}
use Rattle.coord_checkpoint.specs.Stores.{StoreParts, arranged}
use Rattle.coord_checkpoint.specs.Steps.{placed}
use Rattle.coord_checkpoint.specs.Writes.{Tries}
use Rattle.coord_checkpoint.proofs.journal.StateJournal.checkpoint.Goals as goal

pub returns-then-self : goal.returns-then-self
returns-then-self g c = record {
  tries = subst (λ (p : StoreParts _). Tries g.D.Disk.seen (g.S.Snapshots.rest c.args.snapshots.now) p
      (arranged c.step_checkpoint.new.idle c.self.inside.second c.step_checkpoint.new.turn) c.step_checkpoint.result) c.self.view_is
      (subst (λ (b : Bool). Tries g.D.Disk.seen (g.S.Snapshots.rest c.args.snapshots.now) (placed b c.self.inside.second c.self.inside.first c.self.inside.turn)
      (placed b c.self.inside.second c.step_checkpoint.new.idle c.step_checkpoint.new.turn) c.step_checkpoint.result) c.if-self.true c.step_checkpoint.ensures);
}

pub returns-else-self : goal.returns-else-self
returns-else-self g c = record {
  tries = subst (λ (p : StoreParts _). Tries g.D.Disk.seen (g.S.Snapshots.rest c.args.snapshots.now) p
      (arranged c.self.inside.first c.step_checkpoint-else-self.new.idle c.step_checkpoint-else-self.new.turn) c.step_checkpoint-else-self.result) c.self.view_is
      (subst (λ (b : Bool). Tries g.D.Disk.seen (g.S.Snapshots.rest c.args.snapshots.now) (placed b c.self.inside.first c.self.inside.second c.self.inside.turn)
      (placed b c.self.inside.first c.step_checkpoint-else-self.new.idle c.step_checkpoint-else-self.new.turn) c.step_checkpoint-else-self.result) c.if-self.false c.step_checkpoint-else-self.ensures);
}
