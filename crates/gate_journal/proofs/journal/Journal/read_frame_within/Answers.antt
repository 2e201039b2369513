use Rattle.std.proofs.Common.{◌<◌, ◌^◌, ◌++◌, ◌∙◌, List, ℕ, sym, ap, subst, arith, rules}
use Rattle.edge_io.specs.Disk.{IsTold}
use Rattle.gate_journal.specs.Reading.{HasFrameAt}
use Rattle.gate_journal.specs.declared.writer.Writer.{Writer}
use Rattle.gate_journal.proofs.FrameReads.{frame_in_image, on_ok_both, place_before, some_of}
use Rattle.gate_journal.proofs.journal.Journal.read_frame_within.Goals as goal

pub overflow_sub-space : goal.overflow_sub-space
overflow_sub-space g c =
    let h = subst (λ (w : Writer _). HasFrameAt g.D.Disk.seen w c.args.place c.requires.0) (sym c.self.view_is) c.requires.1 in
    omega (arith, (place_before g.D.Disk.seen c.self.inside.writer c.args.place c.requires.0 h).0)

pub overflow_sub-space-2 : goal.overflow_sub-space-2
overflow_sub-space-2 g c =
    let h = subst (λ (w : Writer _). HasFrameAt g.D.Disk.seen w c.args.place c.requires.0) (sym c.self.view_is) c.requires.1 in
    omega (arith, (place_before g.D.Disk.seen c.self.inside.writer c.args.place c.requires.0 h).0)

pub append_frame-read-requires-clause-within : goal.append_frame-read-requires-clause-within
append_frame-read-requires-clause-within g c =
    let h = subst (λ (w : Writer _). HasFrameAt g.D.Disk.seen w c.args.place c.requires.0) (sym c.self.view_is) c.requires.1 in
    omega (arith, c.min-most.ensures, c.self.invariant.within, (place_before g.D.Disk.seen c.self.inside.writer c.args.place c.requires.0 h).0)

pub append_frame-read-requires-clause-fits : goal.append_frame-read-requires-clause-fits
append_frame-read-requires-clause-fits g c =
    let h = subst (λ (w : Writer _). HasFrameAt g.D.Disk.seen w c.args.place c.requires.0) (sym c.self.view_is) c.requires.1 in
    let end : c.self.inside.writer.end < 2 ^ 64 = search rules in
    omega (arith, end, (place_before g.D.Disk.seen c.self.inside.writer c.args.place c.requires.0 h).0)

pub returns-clause-ok : goal.returns-clause-ok
returns-clause-ok g c = on_ok_both c.append_frame-read.result _ _ _ c.append_frame-read.ensures.ok c.append_frame-read.ensures.ok (λ ok again. λ told frame here fits.
    let writer = c.self.inside.writer in
    let h = subst (λ (w : Writer _). HasFrameAt g.D.Disk.seen w c.args.place frame) (sym c.self.view_is) here in
    let content = some_of (g.D.Disk.seen writer.disk).content (subst (λ (w : Writer _). IsTold (g.D.Disk.seen w.disk).content) (sym c.self.view_is) told) in
    let image = (g.met.D.Disk.read_is_image writer.disk content.0 content.1).0 in
    let read = ok content.0 frame content.1 (frame_in_image g.D.Disk.seen writer c.args.place frame content.0 h image)
    (omega (arith, c.min-most.ensures, c.from.ensures, fits, (place_before g.D.Disk.seen writer c.args.place frame h).0)) in
    record {
      bytes = c.of.ensures.bytes ∙ read.0 ∙ ap (λ (l : List ℕ). l ++ frame) c.take-bytes.ensures.bytes;
      spare = omega (arith, read.1, c.of.ensures.spare, c.take-bytes.ensures.spare);
    })

pub returns-clause-spared : goal.returns-clause-spared
returns-clause-spared g c = λ told frame here room.
    let writer = c.self.inside.writer in
    let h = subst (λ (w : Writer _). HasFrameAt g.D.Disk.seen w c.args.place frame) (sym c.self.view_is) here in
    let content = some_of (g.D.Disk.seen writer.disk).content (subst (λ (w : Writer _). IsTold (g.D.Disk.seen w.disk).content) (sym c.self.view_is) told) in
    let image = (g.met.D.Disk.read_is_image writer.disk content.0 content.1).0 in
    c.append_frame-read.ensures.spared content.0 frame content.1 (frame_in_image g.D.Disk.seen writer c.args.place frame content.0 h image)
    (omega (arith, room, c.take-bytes.ensures.spare))
