use Rattle.gate_journal.specs.Frames.{IsRest, IsShut, StandsFor}
use Rattle.gate_journal.specs.Groups.{AreHeld}
use Rattle.gate_journal.proofs.Grouped.{all_staged}
use Rattle.gate_journal.proofs.Shaped.{followed, reached, at_moments}
use Rattle.gate_journal.proofs.Shapes.{staging, shut_stands}
use Rattle.gate_journal.proofs.writer.Writer.stage.Goals as goal

pub returns-clause-ok : goal.returns-clause-ok
returns-clause-ok g c = λ frames group s is. record {
  each = reached _ _ (IsRest frames) (AreHeld frames group) s.each _
      (λ x told. (g.met.D.Disk.read_is_image c.args.self.now.disk x told).0) _ c.in_default.ensures.ok
      (λ d e. all_staged frames group _ _ d e s.end is);
  fit = s.fit;
  end = s.end;
  count = s.count;
}

pub returns-in-Err-clause-kept : goal.returns-in-Err-clause-kept
returns-in-Err-clause-kept g c = λ frames s. record {
  each = followed _ _ (IsRest frames) (IsShut frames) s.each _ c.write_and_sync.ensures.images (λ d e. staging frames _ _ d e s.end);
  fit = s.fit;
  end = s.end;
  count = s.count;
}

pub returns-clause-kept : goal.returns-clause-kept
returns-clause-kept g c = λ frames s. record {
  each = followed _ _ (IsRest frames) (IsShut frames) s.each _ c.write_and_sync.ensures.images (λ d e. staging frames _ _ d e s.end);
  fit = s.fit;
  end = s.end;
  count = s.count;
}

pub returns-in-Err-clause-any_moment : goal.returns-in-Err-clause-any_moment
returns-in-Err-clause-any_moment g c = λ frames s.
    at_moments g.D.Disk.seen _ _ (IsRest frames)
    (λ x. StandsFor x frames) _ s.each c.write_and_sync.ensures.any_moment
    (λ d e was step. shut_stands frames e s.fit (staging frames _ _ d e s.end was step))

pub returns-clause-any_moment : goal.returns-clause-any_moment
returns-clause-any_moment g c = λ frames s.
    at_moments g.D.Disk.seen _ _ (IsRest frames)
    (λ x. StandsFor x frames) _ s.each c.write_and_sync.ensures.any_moment
    (λ d e was step. shut_stands frames e s.fit (staging frames _ _ d e s.end was step))
