use Rattle.std.proofs.Common.{◌≡◌, ◌++◌, arith, length-append}
use Rattle.gate_journal.specs.Frames.{text_of}
use Rattle.gate_journal.specs.Groups.{AreHeld, AreAjar, IsAllOrNone}
use Rattle.gate_journal.proofs.Grouped.{all_held_ajar, all_swinging, all_are_open, all_ajar_stand, place_behind, fit_join}
use Rattle.gate_journal.proofs.Shaped.{followed, reached, at_moments}
use Rattle.gate_journal.proofs.writer.Writer.open_gate.Goals as goal

pub returns-clause-ok : goal.returns-clause-ok
returns-clause-ok g c = λ frames group s fit some len count. record {
  each = reached _ _ (AreHeld frames group) (λ x. x ≡ text_of (frames ++ group)) s.each _
      (λ x told. (g.met.D.Disk.read_is_image c.args.self.now.disk x told).0) _ c.in_default.ensures.ok
      (λ d e was is. all_are_open frames group _ d e some s.end (all_held_ajar frames group d was) is);
  fit = fit_join frames group s.fit fit;
  end = place_behind frames group _ _ some s.end len;
  count = omega (arith, s.count, count, length-append frames group);
}

pub returns-in-Err-clause-kept : goal.returns-in-Err-clause-kept
returns-in-Err-clause-kept g c = λ frames group s. record {
  each = followed _ _ (AreHeld frames group) (AreAjar frames group) s.each _ c.write_and_sync.ensures.images
      (λ d e was. all_swinging frames group _ d e s.end (all_held_ajar frames group d was));
  fit = s.fit;
  end = s.end;
  count = s.count;
}

pub returns-in-Err-clause-any_moment : goal.returns-in-Err-clause-any_moment
returns-in-Err-clause-any_moment g c = λ frames group s fit some.
    at_moments g.D.Disk.seen _ _ (AreHeld frames group)
    (IsAllOrNone frames group) _ s.each c.write_and_sync.ensures.any_moment
    (λ d e was step. all_ajar_stand frames group e s.fit fit some (all_swinging frames group _ d e s.end (all_held_ajar frames group d was) step))

pub returns-clause-any_moment : goal.returns-clause-any_moment
returns-clause-any_moment g c = λ frames group s fit some.
    at_moments g.D.Disk.seen _ _ (AreHeld frames group)
    (IsAllOrNone frames group) _ s.each c.write_and_sync.ensures.any_moment
    (λ d e was step. all_ajar_stand frames group e s.fit fit some (all_swinging frames group _ d e s.end (all_held_ajar frames group d was) step))
