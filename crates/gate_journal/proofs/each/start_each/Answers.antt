use Rattle.std.proofs.Common.{◌∙◌, ◌++◌, List, ℕ, arith, ap, Err}
use Rattle.gate_journal.specs.Visits.{placed}
use Rattle.gate_journal.specs.declared.opening.StartFault.{StartFault}
use Rattle.gate_journal.proofs.Texts.{few_frames}
use Rattle.gate_journal.proofs.Once.{once, not_both}
use Rattle.gate_journal.proofs.each.start_each.Goals as goal

pub opened-requires : goal.opened-requires
opened-requires g c =
    let r = c.in-Ok.ensures.ok in
    record {
      some = omega (arith, r.end_is);
      within = r.within;
      few = omega (arith, r.count_is, r.end_is, few_frames r.frames);
    }

pub returns-in-Ok-clause-recovers : goal.returns-in-Ok-clause-recovers
returns-in-Ok-clause-recovers g c = λ x frames told text.
    let r = c.in-Ok.ensures.ok in
    r.visits ∙ ap (λ (fs : List (List ℕ)). g.V.FrameVisit.seen c.args.visit.now ++ placed 0 fs) (once x r.frames frames (r.stands x told) text)

pub returns-in-Err-clause-recovers : goal.returns-in-Err-clause-recovers
returns-in-Err-clause-recovers g c = λ x frames told text place is. not_both x frames place text
    (c.in-Err.ensures.damaged place (ap (λ (f : StartFault). Err f) is) x told)
