use Rattle.std.proofs.Common.{◌≡◌, length, arith, rules, ap, subst, sym, Err}
use Rattle.edge_io.specs.Counting.{DoesCalls}
use Rattle.edge_io.specs.Disk.{SameContent}
use Rattle.gate_journal.specs.declared.writer.Writer.{Writer}
use Rattle.gate_journal.specs.declared.opening.StartFault.{StartFault}
use Rattle.gate_journal.proofs.Texts.{few_frames}
use Rattle.gate_journal.proofs.Once.{once, not_both}
use Rattle.gate_journal.proofs.opening.start.Goals as goal

pub opened-requires : goal.opened-requires
opened-requires g c =
    let len : c.len-count.result ≡ length c.in-Ok.frames.items = search rules in
    record {
      some = c.in-Ok.ensures.some.0;
      within = c.in-Ok.ensures.some.1;
      few = omega (arith, len, c.in-Ok.ensures.end, few_frames c.in-Ok.frames.items);
    }

pub returns-in-Ok-clause-recovers : goal.returns-in-Ok-clause-recovers
returns-in-Ok-clause-recovers g c = λ x frames told text. once x _ frames (c.in-Ok.ensures.text x told) text

pub returns-in-Err-clause-recovers : goal.returns-in-Err-clause-recovers
returns-in-Err-clause-recovers g c = λ x frames told text place is. not_both x frames place text
    (c.in-Err.ensures.damaged place (ap (λ (f : StartFault). Err f) is) x told)

pub returns-in-Err-clause-whole : goal.returns-in-Err-clause-whole
returns-in-Err-clause-whole g c = λ x told whole. record {
  same = c.recover.ensures.whole x told whole;
  done = tt;
  fails = λ is. c.in-Err.ensures.whole_fails (ap (λ (f : StartFault). Err f) is) x told whole;
}

pub returns-in-Ok-clause-whole : goal.returns-in-Ok-clause-whole
returns-in-Ok-clause-whole g c = λ x told whole.
    let disk : c.opened.result.disk ≡ c.recover.new.disk = ap (λ (w : Writer g.row.D.Denot). w.disk) c.opened.ensures in
    record {
      same = subst (λ d. SameContent (g.D.Disk.seen c.args.disk) (g.D.Disk.seen d)) (sym disk) (c.recover.ensures.whole x told whole);
      done = subst (λ d. DoesCalls g.D.Disk.seen 2 c.args.disk d) (sym disk) (c.in-Ok.ensures.whole_done x told whole);
      fails = λ never. absurd never;
    }
