use Rattle.gate_journal.proofs.FrameReads.{on_ok_both, place_before}
use Rattle.gate_journal.proofs.journal.Journal.read_frame.Goals as goal

pub read_frame_within-requires : goal.read_frame_within-requires
read_frame_within-requires g c = (c.requires.0, c.requires.1, (place_before g.D.Disk.seen c.args.self.now c.args.place c.requires.0 c.requires.1).1.1)

pub returns-clause-ok : goal.returns-clause-ok
returns-clause-ok g c = on_ok_both c.read_frame_within.result _ _ _ c.read_frame_within.ensures.ok c.read_frame_within.ensures.ok (λ ok again. λ told frame here.
    ok told frame here (place_before g.D.Disk.seen c.args.self.now c.args.place frame here).1.1)
