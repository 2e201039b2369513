use Rattle.std.proofs.Common.{◌≡◌, inl, inr, sym, ap, ◌∙◌, subst, []}
use Rattle.std.proofs.lemmas.Result.{on_ok_weaker, on_err_weaker}
use Rattle.edge_io.specs.Counting.{DoesCalls}
use Rattle.edge_io.proofs.Counting.{does_then}
use Rattle.edge_io.proofs.Moments.{joined}
use Rattle.edge_io.proofs.Runs.{runs_then}
use Rattle.gate_journal.specs.Clearing.{IsTouched}
use Rattle.gate_journal.specs.Frames.{StandsFor}
use Rattle.gate_journal.specs.declared.writer.Writer.{Writer}
use Rattle.gate_journal.proofs.Changes.{on_either}
use Rattle.gate_journal.proofs.Lone.{as_before, cut_short, touched_short}
use Rattle.gate_journal.proofs.writer.Writer.clear.Goals as goal

pub returns-clause-ok : goal.returns-clause-ok
returns-clause-ok g c = on_ok_weaker c.cut_behind.result (λ cuts may. cuts [] (c.in_ok-close_first.ensures.ok may)) c.cut_behind.ensures.ok

pub returns-clause-lone : goal.returns-clause-lone
returns-clause-lone g c = λ lone.
    let mid = c.close_first.ensures.lone lone in
    record {
      end = c.cut_behind.ensures.same.0 ∙ mid.end;
      nothing = on_either c.cut_behind.result _ _ _ c.cut_behind.ensures.done c.cut_behind.ensures.err (λ is. is) (λ is. is ∙ mid.nothing);
    }

pub returns-clause-calls : goal.returns-clause-calls
returns-clause-calls g c = on_ok_weaker c.cut_behind.result (λ done. (
  (λ bare. subst (λ (w : Writer _). DoesCalls g.D.Disk.seen 2 w.disk c.cut_behind.new.self.disk) (c.close_first.ensures.again bare).1 done),
  (λ not. does_then g.D.Disk.seen 2 2 c.args.self.now.disk c.close_first.new.self.disk c.cut_behind.new.self.disk
      (λ told. c.close_first.ensures.runs.told ∙ told) (c.in_ok-close_first.ensures.calls not) done),
)) c.cut_behind.ensures.calls

pub returns-clause-failed : goal.returns-clause-failed
returns-clause-failed g c = on_err_weaker c.cut_behind.result (λ same may. elim c.in_ok-close_first.ensures.bare [
  | inl bare ↦ inr (
    record { end = c.cut_behind.ensures.same.0 ∙ bare.end; behind = same ∙ bare.behind },
    (c.cut_behind.ensures.kept [] (c.in_ok-close_first.ensures.ok may)).each,
  )
  | inr l ↦ inl (
    as_before c.args.self.now c.close_first.new.self c.cut_behind.new.self l.1 c.cut_behind.ensures.same.0 c.cut_behind.ensures.same.1 same,
    (λ x now.
        let cut = c.cut_behind.ensures.images x now in
        let touch = c.close_first.ensures.images cut.0 cut.1 in
        let is : x ≡ cut.0 = cut_short _ cut.0 x (ap (λ (w : Writer _). w.end) l.1 ∙ l.0.end)
        (touched_short c.args.self.now _ (may.short l.0) cut.0 touch) cut.2 in
        subst (IsTouched c.args.self.now (g.D.Disk.seen c.args.self.now.disk).image) (sym is) touch),
  )
]) c.cut_behind.ensures.err

pub returns-clause-any_moment : goal.returns-clause-any_moment
returns-clause-any_moment g c = λ may.
    joined g.D.Disk.seen _ _ _ (IsTouched c.args.self.now (g.D.Disk.seen c.args.self.now.disk).image) (λ x. StandsFor x []) _
    c.close_first.ensures.any_moment (c.cut_behind.ensures.any_moment [] (c.in_ok-close_first.ensures.ok may)) (λ x p. inl p) (λ x p. inr p)

pub returns-clause-runs : goal.returns-clause-runs
returns-clause-runs g c = runs_then g.D.Disk.seen _ _ _ c.close_first.ensures.runs c.cut_behind.ensures.runs
