use Rattle.std.proofs.Common.{Bool, length, subst}
use Rattle.gate_journal.specs.Frames.{frame_in}
use Rattle.coord_checkpoint.specs.Stores.{StoreParts, arranged}
use Rattle.coord_checkpoint.specs.Steps.{placed}
use Rattle.coord_checkpoint.specs.Writes.{Writes}
use Rattle.coord_checkpoint.proofs.journal.StateJournal.append_behind.Goals as goal

pub returns-then-self : goal.returns-then-self
returns-then-self g c = record {
  writes = subst (λ (p : StoreParts _). Writes g.D.Disk.seen (frame_in c.args.buffer.now) (frame_in c.args.fresh.now) (g.S.Snapshots.rest c.args.snapshots.now) (length c.args.buffer.now) p
      (arranged c.step.new.idle c.step.new.live c.step.new.turn) c.step.result.checkpointed c.step.result.result) c.self.view_is
      (subst (λ (b : Bool). Writes g.D.Disk.seen (frame_in c.args.buffer.now) (frame_in c.args.fresh.now) (g.S.Snapshots.rest c.args.snapshots.now) (length c.args.buffer.now)
      (placed b c.self.inside.second c.self.inside.first c.self.inside.turn) (placed b c.step.new.live c.step.new.idle c.step.new.turn) c.step.result.checkpointed c.step.result.result) c.if-self.true c.step.ensures);
}

pub returns-else-self : goal.returns-else-self
returns-else-self g c = record {
  writes = subst (λ (p : StoreParts _). Writes g.D.Disk.seen (frame_in c.args.buffer.now) (frame_in c.args.fresh.now) (g.S.Snapshots.rest c.args.snapshots.now) (length c.args.buffer.now) p
      (arranged c.step-else-self.new.live c.step-else-self.new.idle c.step-else-self.new.turn) c.step-else-self.result.checkpointed c.step-else-self.result.result) c.self.view_is
      (subst (λ (b : Bool). Writes g.D.Disk.seen (frame_in c.args.buffer.now) (frame_in c.args.fresh.now) (g.S.Snapshots.rest c.args.snapshots.now) (length c.args.buffer.now)
      (placed b c.self.inside.first c.self.inside.second c.self.inside.turn) (placed b c.step-else-self.new.live c.step-else-self.new.idle c.step-else-self.new.turn) c.step-else-self.result.checkpointed c.step-else-self.result.result) c.if-self.false c.step-else-self.ensures);
}
