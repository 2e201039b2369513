use Rattle.gate_journal.specs.Frames.{IsShut}
use Rattle.gate_journal.specs.Groups.{AreAjar, IsAllOrNone}
use Rattle.gate_journal.proofs.Grouped.{all_ajar_stand, all_swinging, gate_is_closed}
use Rattle.gate_journal.proofs.Shaped.{followed, reached, at_moments}
use Rattle.gate_journal.proofs.writer.Writer.close_gate.Goals as goal

pub returns-in_err-write_and_sync-clause-kept : goal.returns-in_err-write_and_sync-clause-kept
returns-in_err-write_and_sync-clause-kept g c = λ frames group s. record {
  each = followed _ _ (AreAjar frames group) (AreAjar frames group) s.each _ c.write_and_sync.ensures.images (λ d e. all_swinging frames group _ d e s.end);
  fit = s.fit;
  end = s.end;
  count = s.count;
}

pub returns-clause-kept : goal.returns-clause-kept
returns-clause-kept g c = λ frames group s. record {
  each = followed _ _ (AreAjar frames group) (AreAjar frames group) s.each _ c.write_and_sync.ensures.images (λ d e. all_swinging frames group _ d e s.end);
  fit = s.fit;
  end = s.end;
  count = s.count;
}

pub returns-in_err-write_and_sync-clause-any_moment : goal.returns-in_err-write_and_sync-clause-any_moment
returns-in_err-write_and_sync-clause-any_moment g c = λ frames group s fit some.
    at_moments g.D.Disk.seen _ _ (AreAjar frames group)
    (IsAllOrNone frames group) _ s.each c.write_and_sync.ensures.any_moment
    (λ d e was step. all_ajar_stand frames group e s.fit fit some (all_swinging frames group _ d e s.end was step))

pub returns-clause-any_moment : goal.returns-clause-any_moment
returns-clause-any_moment g c = λ frames group s fit some.
    at_moments g.D.Disk.seen _ _ (AreAjar frames group)
    (IsAllOrNone frames group) _ s.each c.write_and_sync.ensures.any_moment
    (λ d e was step. all_ajar_stand frames group e s.fit fit some (all_swinging frames group _ d e s.end was step))

pub returns-clause-ok : goal.returns-clause-ok
returns-clause-ok g c = λ frames group s. record {
  each = reached _ _ (AreAjar frames group) (IsShut frames) s.each _
      (λ x told. (g.met.D.Disk.read_is_image c.args.self.now.disk x told).0) _ c.in_ok-write_and_sync.ensures.ok (λ d e. gate_is_closed frames group _ d e s.end);
  fit = s.fit;
  end = s.end;
  count = s.count;
}
