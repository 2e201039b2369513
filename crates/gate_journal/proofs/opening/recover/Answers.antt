use Rattle.std.proofs.Common.{refl, inl, ◌∙◌, subst, sym, rules}
use Rattle.edge_io.specs.Counting.{DoesCalls}
use Rattle.edge_io.specs.Disk.{SameContent}
use Rattle.edge_io.proofs.Counting.{up_to_then, up_to_then_fails}
use Rattle.edge_io.proofs.Moments.{joined}
use Rattle.gate_journal.specs.Frames.{StandsAs}
use Rattle.gate_journal.proofs.Texts.{read_moved}
use Rattle.gate_journal.proofs.Whole.{whole_end}
use Rattle.gate_journal.proofs.opening.recover.Goals as goal

pub returns-clause-any_moment : goal.returns-clause-any_moment
returns-clause-any_moment g c =
    joined g.D.Disk.seen _ _ _ _ _ (StandsAs (g.D.Disk.seen c.args.disk.now).image) c.read_synced.ensures.any_moment
    (c.repair.ensures.any_moment c.in_ok-frames.frames.items
    (read_moved _ _ _ _ _ _ c.read_synced.ensures.stays.content c.read_synced.ensures.stays.size c.in_ok-frames.ensures.text) c.in_ok-frames.ensures.synced)
    (λ x now. (x, now, inl refl)) (λ x p. (p.0, c.read_synced.ensures.images p.0 p.1, p.2))

pub returns-in-Err-clause-any_moment : goal.returns-in-Err-clause-any_moment
returns-in-Err-clause-any_moment g c =
    joined g.D.Disk.seen _ _ _ _ _ (StandsAs (g.D.Disk.seen c.args.disk.now).image) c.read_synced.ensures.any_moment
    (c.repair.ensures.any_moment c.in_ok-frames.frames.items
    (read_moved _ _ _ _ _ _ c.read_synced.ensures.stays.content c.read_synced.ensures.stays.size c.in_ok-frames.ensures.text) c.in_ok-frames.ensures.synced)
    (λ x now. (x, now, inl refl)) (λ x p. (p.0, c.read_synced.ensures.images p.0 p.1, p.2))

pub returns-in-Err-clause-fails : goal.returns-in-Err-clause-fails
returns-in-Err-clause-fails g c device = up_to_then_fails g.D.Disk.seen 2 2 c.args.disk.now c.read_synced.new.disk c.repair.new.disk
    (λ told. c.read_synced.ensures.runs.told ∙ told) (c.in_ok-frames.ensures.calls (λ e. search rules)) c.in-Err.ensures.fails

pub returns-clause-calls : goal.returns-clause-calls
returns-clause-calls g c not = up_to_then g.D.Disk.seen 2 2 c.args.disk.now c.read_synced.new.disk c.repair.new.disk
    (λ told. c.read_synced.ensures.runs.told ∙ told) (c.in_ok-frames.ensures.calls (λ e. search rules)) c.in_default.ensures.calls

pub returns-in_err-frames-clause-whole : goal.returns-in_err-frames-clause-whole
returns-in_err-frames-clause-whole g c = λ x told whole. c.read_synced.ensures.stays

pub returns-in-Err-clause-whole : goal.returns-in-Err-clause-whole
returns-in-Err-clause-whole g c = λ x told whole.
    let read = c.in_ok-frames.ensures.text x told in
    let end = whole_end x _ _ _ _ read whole c.read_synced.ensures.stays.size in
    subst (λ d. SameContent (g.D.Disk.seen c.args.disk.now) (g.D.Disk.seen d)) (sym (c.repair.ensures.whole end.0 end.1).1) c.read_synced.ensures.stays

pub returns-in-Err-clause-whole_fails : goal.returns-in-Err-clause-whole_fails
returns-in-Err-clause-whole_fails g c = λ _ x told whole.
    let read = c.in_ok-frames.ensures.text x told in
    let end = whole_end x _ _ _ _ read whole c.read_synced.ensures.stays.size in
    absurd (let done = (c.in-Err.ensures.whole end.0 end.1).0 in let never : ⊥ = cc in never)

pub returns-clause-whole : goal.returns-clause-whole
returns-clause-whole g c = λ x told whole.
    let read = c.in_ok-frames.ensures.text x told in
    let end = whole_end x _ _ _ _ read whole c.read_synced.ensures.stays.size in
    subst (λ d. SameContent (g.D.Disk.seen c.args.disk.now) (g.D.Disk.seen d)) (sym (c.repair.ensures.whole end.0 end.1).1) c.read_synced.ensures.stays

pub returns-clause-whole_done : goal.returns-clause-whole_done
returns-clause-whole_done g c = λ x told whole.
    let read = c.in_ok-frames.ensures.text x told in
    let end = whole_end x _ _ _ _ read whole c.read_synced.ensures.stays.size in
    subst (λ d. DoesCalls g.D.Disk.seen 2 c.args.disk.now d) (sym (c.repair.ensures.whole end.0 end.1).1) c.in_ok-frames.ensures.two
