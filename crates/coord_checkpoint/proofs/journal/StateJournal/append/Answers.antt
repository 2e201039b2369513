use Rattle.std.proofs.Common.{Bool, false, length, subst}
use Rattle.gate_journal.specs.Frames.{frame_in}
use Rattle.coord_checkpoint.specs.Stores.{StoreParts, arranged}
use Rattle.coord_checkpoint.specs.Steps.{placed}
use Rattle.coord_checkpoint.specs.Writes.{StaysOn, Writes}
use Rattle.coord_checkpoint.proofs.journal.StateJournal.append.Goals as goal

pub returns-then-self : goal.returns-then-self
returns-then-self g c = record {
  writes = λ fresh snapshots. subst (λ (p : StoreParts _). Writes g.D.Disk.seen (frame_in c.args.buffer.now) fresh snapshots (length c.args.buffer.now) p
      (arranged c.step_plain.new.idle c.step_plain.new.live c.step_plain.new.turn) false c.step_plain.result) c.self.view_is
      (subst (λ (b : Bool). Writes g.D.Disk.seen (frame_in c.args.buffer.now) fresh snapshots (length c.args.buffer.now)
      (placed b c.self.inside.second c.self.inside.first c.self.inside.turn) (placed b c.step_plain.new.live c.step_plain.new.idle c.step_plain.new.turn) false c.step_plain.result) c.if-self.true (c.step_plain.ensures.writes fresh snapshots));
  alone = subst (λ (p : StoreParts _). StaysOn g.D.Disk.seen p (arranged c.step_plain.new.idle c.step_plain.new.live c.step_plain.new.turn) c.step_plain.result) c.self.view_is
      (subst (λ (b : Bool). StaysOn g.D.Disk.seen (placed b c.self.inside.second c.self.inside.first c.self.inside.turn)
      (placed b c.step_plain.new.live c.step_plain.new.idle c.step_plain.new.turn) c.step_plain.result) c.if-self.true c.step_plain.ensures.alone);
}

pub returns-else-self : goal.returns-else-self
returns-else-self g c = record {
  writes = λ fresh snapshots. subst (λ (p : StoreParts _). Writes g.D.Disk.seen (frame_in c.args.buffer.now) fresh snapshots (length c.args.buffer.now) p
      (arranged c.step_plain-else-self.new.live c.step_plain-else-self.new.idle c.step_plain-else-self.new.turn) false c.step_plain-else-self.result) c.self.view_is
      (subst (λ (b : Bool). Writes g.D.Disk.seen (frame_in c.args.buffer.now) fresh snapshots (length c.args.buffer.now)
      (placed b c.self.inside.first c.self.inside.second c.self.inside.turn) (placed b c.step_plain-else-self.new.live c.step_plain-else-self.new.idle c.step_plain-else-self.new.turn) false c.step_plain-else-self.result) c.if-self.false (c.step_plain-else-self.ensures.writes fresh snapshots));
  alone = subst (λ (p : StoreParts _). StaysOn g.D.Disk.seen p (arranged c.step_plain-else-self.new.live c.step_plain-else-self.new.idle c.step_plain-else-self.new.turn) c.step_plain-else-self.result) c.self.view_is
      (subst (λ (b : Bool). StaysOn g.D.Disk.seen (placed b c.self.inside.first c.self.inside.second c.self.inside.turn)
      (placed b c.step_plain-else-self.new.live c.step_plain-else-self.new.idle c.step_plain-else-self.new.turn) c.step_plain-else-self.result) c.if-self.false c.step_plain-else-self.ensures.alone);
}
