use Rattle.std.proofs.Common.{refl, inl, ◌∙◌}
use Rattle.edge_io.proofs.Moments.{joined}
use Rattle.gate_journal.specs.Frames.{StandsAs}
use Rattle.gate_journal.proofs.Texts.{read_moved}
use Rattle.gate_journal.proofs.each.recover_each.Goals as goal

pub returns-clause-any_moment : goal.returns-clause-any_moment
returns-clause-any_moment g c =
    joined g.D.Disk.seen _ _ _ _ _ (StandsAs (g.D.Disk.seen c.args.disk.now).image) c.visit_synced.ensures.any_moment
    (c.repair.ensures.any_moment c.in_ok-end.ensures.ok.frames
    (read_moved _ _ _ _ _ _ c.visit_synced.ensures.stays.content c.visit_synced.ensures.stays.size c.in_ok-end.ensures.ok.read) c.in_ok-end.ensures.synced)
    (λ x now. (x, now, inl refl)) (λ x p. (p.0, c.visit_synced.ensures.images p.0 p.1, p.2))

pub returns-in-Err-clause-any_moment : goal.returns-in-Err-clause-any_moment
returns-in-Err-clause-any_moment g c =
    joined g.D.Disk.seen _ _ _ _ _ (StandsAs (g.D.Disk.seen c.args.disk.now).image) c.visit_synced.ensures.any_moment
    (c.repair.ensures.any_moment c.in_ok-end.ensures.ok.frames
    (read_moved _ _ _ _ _ _ c.visit_synced.ensures.stays.content c.visit_synced.ensures.stays.size c.in_ok-end.ensures.ok.read) c.in_ok-end.ensures.synced)
    (λ x now. (x, now, inl refl)) (λ x p. (p.0, c.visit_synced.ensures.images p.0 p.1, p.2))

pub returns-clause-ok : goal.returns-clause-ok
returns-clause-ok g c =
    let v = c.in_ok-end.ensures.ok in
    record {
      frames = v.frames;
      fit = v.fit;
      stands = λ x told. (v.read x told).stands;
      rests = c.in_default.ensures.ok v.frames
          (read_moved _ _ _ _ _ _ c.visit_synced.ensures.stays.content c.visit_synced.ensures.stays.size v.read) c.in_ok-end.ensures.synced;
      text = λ x told. c.in_default.ensures.text c.in_ok-end.ensures.synced x (c.visit_synced.ensures.stays.content ∙ told);
      end_is = v.end_is;
      count_is = v.count_is;
      within = c.in_default.ensures.size;
      visits = v.visits;
    }
