use Rattle.gate_journal.specs.Frames.{IsRest, IsShut, StandsFor}
use Rattle.gate_journal.proofs.Shaped.{followed, reached, at_moments}
use Rattle.gate_journal.proofs.Shapes.{cutting, was_cut, shut_stands}
use Rattle.gate_journal.proofs.writer.Writer.cut_behind.Goals as goal

pub returns-clause-ok : goal.returns-clause-ok
returns-clause-ok g c = λ frames s. record {
  each = reached _ _ (IsShut frames) (IsRest frames) s.each _
      (λ x told. (g.met.D.Disk.read_is_image c.args.self.now.disk x told).0) _ c.in_ok-cut_and_sync.ensures.ok (λ d e. was_cut frames _ d e s.end);
  fit = s.fit;
  end = s.end;
  count = s.count;
}

pub returns-in_err-cut_and_sync-clause-kept : goal.returns-in_err-cut_and_sync-clause-kept
returns-in_err-cut_and_sync-clause-kept g c = λ frames s. record {
  each = followed _ _ (IsShut frames) (IsShut frames) s.each _ c.cut_and_sync.ensures.images (λ d e. cutting frames _ d e s.end);
  fit = s.fit;
  end = s.end;
  count = s.count;
}

pub returns-clause-kept : goal.returns-clause-kept
returns-clause-kept g c = λ frames s. record {
  each = followed _ _ (IsShut frames) (IsShut frames) s.each _ c.cut_and_sync.ensures.images (λ d e. cutting frames _ d e s.end);
  fit = s.fit;
  end = s.end;
  count = s.count;
}

pub returns-in_err-cut_and_sync-clause-any_moment : goal.returns-in_err-cut_and_sync-clause-any_moment
returns-in_err-cut_and_sync-clause-any_moment g c = λ frames s.
    at_moments g.D.Disk.seen _ _ (IsShut frames) (λ x. StandsFor x frames) _ s.each c.cut_and_sync.ensures.any_moment
    (λ d e was step. shut_stands frames e s.fit (cutting frames _ d e s.end was step))

pub returns-clause-any_moment : goal.returns-clause-any_moment
returns-clause-any_moment g c = λ frames s.
    at_moments g.D.Disk.seen _ _ (IsShut frames) (λ x. StandsFor x frames) _ s.each c.cut_and_sync.ensures.any_moment
    (λ d e was step. shut_stands frames e s.fit (cutting frames _ d e s.end was step))
