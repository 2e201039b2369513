use Rattle.std.proofs.Common.{sym, ap, subst, ◌∙◌, inl, ℕ, OnOk, OnErr, arith}
use Rattle.std.proofs.lemmas.Result.{on_ok_weaker, on_err_weaker}
use Rattle.edge_io.specs.Counting.{DoesCalls, FailsInCalls}
use Rattle.edge_io.proofs.Counting.{calls_none, does_then, does_then_fails, fails_in_more}
use Rattle.edge_io.proofs.Moments.{joined, started, weakened}
use Rattle.edge_io.proofs.Runs.{runs_none, runs_then}
use Rattle.gate_journal.specs.Frames.{StandsFor}
use Rattle.gate_journal.specs.Groups.{IsAllOrNone}
use Rattle.gate_journal.specs.Journals.{calls_to_mend}
use Rattle.gate_journal.specs.declared.writer.Mending.TheVariants.{Behind, Gate}
use Rattle.gate_journal.proofs.Changes.{cause_then, cause_of}
use Rattle.gate_journal.proofs.Grouped.{at_mending_all, images_of}
use Rattle.gate_journal.proofs.Shaped.{on_err}
use Rattle.gate_journal.proofs.writer.Writer.mend.Goals as goal

pub returns-in-Nothing-clause-ok : goal.returns-in-Nothing-clause-ok
returns-in-Nothing-clause-ok g c = λ frames pending h. (at_mending_all g.D.Disk.seen c.args.self.now _ _ frames pending c.in-Nothing.is h).1

pub returns-in-Nothing-clause-any_moment : goal.returns-in-Nothing-clause-any_moment
returns-in-Nothing-clause-any_moment g c = λ frames pending h.
    started g.D.Disk.seen c.args.self.now.disk (IsAllOrNone frames pending)
    (λ x left. images_of g.D.Disk.seen c.args.self.now _ frames pending h x (g.met.D.Disk.only_now _ x left))

pub returns-in-Nothing-clause-calls : goal.returns-in-Nothing-clause-calls
returns-in-Nothing-clause-calls g c = subst (λ (n : ℕ). DoesCalls g.D.Disk.seen n c.args.self.now.disk c.args.self.now.disk) (sym (ap calls_to_mend c.in-Nothing.is))
    (calls_none g.D.Disk.seen c.args.self.now.disk)

pub returns-in-Nothing-clause-runs : goal.returns-in-Nothing-clause-runs
returns-in-Nothing-clause-runs g c = runs_none g.D.Disk.seen c.args.self.now.disk

pub returns-in-Behind-clause-ok : goal.returns-in-Behind-clause-ok
returns-in-Behind-clause-ok g c = on_ok_weaker c.cut_behind.result (λ cuts frames pending h.
    cuts frames (at_mending_all g.D.Disk.seen c.args.self.now _ _ frames pending c.in-Behind.is h)) c.cut_behind.ensures.ok

pub returns-in-Behind-clause-kept : goal.returns-in-Behind-clause-kept
returns-in-Behind-clause-kept g c = on_err_weaker c.cut_behind.result (λ is frames pending h.
    at_mending_all g.D.Disk.seen c.cut_behind.new.self Behind _ frames pending (sym (is ∙ c.in-Behind.is)) (c.cut_behind.ensures.kept frames (at_mending_all g.D.Disk.seen c.args.self.now _ _ frames pending c.in-Behind.is h))) c.cut_behind.ensures.err

pub returns-in-Behind-clause-any_moment : goal.returns-in-Behind-clause-any_moment
returns-in-Behind-clause-any_moment g c = λ frames pending h.
    weakened g.D.Disk.seen _ _ _ _ (c.cut_behind.ensures.any_moment frames (at_mending_all g.D.Disk.seen c.args.self.now _ _ frames pending c.in-Behind.is h))
    (λ x p. inl p)

pub returns-in-Behind-clause-done : goal.returns-in-Behind-clause-done
returns-in-Behind-clause-done g c = c.cut_behind.ensures.done

pub returns-in-Behind-clause-runs : goal.returns-in-Behind-clause-runs
returns-in-Behind-clause-runs g c = c.cut_behind.ensures.runs

pub returns-in-Behind-clause-cause : goal.returns-in-Behind-clause-cause
returns-in-Behind-clause-cause g c = c.cut_behind.ensures.cause

pub returns-in-Behind-clause-calls : goal.returns-in-Behind-clause-calls
returns-in-Behind-clause-calls g c = subst (λ (n : ℕ). OnOk c.cut_behind.result (DoesCalls g.D.Disk.seen n c.args.self.now.disk c.cut_behind.new.self.disk))
    (sym (ap calls_to_mend c.in-Behind.is)) c.cut_behind.ensures.calls

pub returns-in-Behind-clause-fails : goal.returns-in-Behind-clause-fails
returns-in-Behind-clause-fails g c = subst (λ (n : ℕ). OnErr c.cut_behind.result (FailsInCalls g.D.Disk.seen n c.args.self.now.disk c.cut_behind.new.self.disk))
    (sym (ap calls_to_mend c.in-Behind.is)) c.cut_behind.ensures.fails

pub returns-in_err-close_gate-in-Gate-clause-kept : goal.returns-in_err-close_gate-in-Gate-clause-kept
returns-in_err-close_gate-in-Gate-clause-kept g c = on_err c.from_residual.result _ (λ frames pending h.
    let s = at_mending_all g.D.Disk.seen c.args.self.now _ _ frames pending c.in-Gate.is h in
    at_mending_all g.D.Disk.seen c.close_gate.new.self Gate _ frames pending (sym c.in_err-close_gate-in-Gate.ensures.err)
    (s.0, s.1, c.close_gate.ensures.kept frames pending s.2))

pub returns-in_err-close_gate-in-Gate-clause-any_moment : goal.returns-in_err-close_gate-in-Gate-clause-any_moment
returns-in_err-close_gate-in-Gate-clause-any_moment g c = λ frames pending h.
    let s = at_mending_all g.D.Disk.seen c.args.self.now _ _ frames pending c.in-Gate.is h in
    c.close_gate.ensures.any_moment frames pending s.2 s.1 s.0

pub returns-in_err-close_gate-in-Gate-clause-runs : goal.returns-in_err-close_gate-in-Gate-clause-runs
returns-in_err-close_gate-in-Gate-clause-runs g c = c.close_gate.ensures.runs

pub returns-in_err-close_gate-in-Gate-clause-fails : goal.returns-in_err-close_gate-in-Gate-clause-fails
returns-in_err-close_gate-in-Gate-clause-fails g c = on_err c.from_residual.result _
    (subst (λ (n : ℕ). FailsInCalls g.D.Disk.seen n c.args.self.now.disk c.close_gate.new.self.disk)
    (sym (ap calls_to_mend c.in-Gate.is))
    (fails_in_more g.D.Disk.seen 2 4 c.args.self.now.disk c.close_gate.new.self.disk (omega arith) c.in_err-close_gate-in-Gate.ensures.fails))

pub returns-in_err-close_gate-in-Gate-clause-cause : goal.returns-in_err-close_gate-in-Gate-clause-cause
returns-in_err-close_gate-in-Gate-clause-cause g c = cause_of _ _ _ c.from_residual.result c.in_err-close_gate-in-Gate.ensures.cause

pub returns-in_ok-close_gate-in-Gate-clause-ok : goal.returns-in_ok-close_gate-in-Gate-clause-ok
returns-in_ok-close_gate-in-Gate-clause-ok g c = on_ok_weaker c.cut_behind-in-Gate.result (λ cuts frames pending h.
    let s = at_mending_all g.D.Disk.seen c.args.self.now _ _ frames pending c.in-Gate.is h in cuts frames (c.in_ok-close_gate-in-Gate.ensures.ok frames pending s.2)) c.cut_behind-in-Gate.ensures.ok

pub returns-in_ok-close_gate-in-Gate-clause-kept : goal.returns-in_ok-close_gate-in-Gate-clause-kept
returns-in_ok-close_gate-in-Gate-clause-kept g c = on_err_weaker c.cut_behind-in-Gate.result (λ is frames pending h.
    let s = at_mending_all g.D.Disk.seen c.args.self.now _ _ frames pending c.in-Gate.is h in
    at_mending_all g.D.Disk.seen c.cut_behind-in-Gate.new.self Behind _ frames pending (sym (is ∙ c.in_ok-close_gate-in-Gate.ensures.done)) (c.cut_behind-in-Gate.ensures.kept frames (c.in_ok-close_gate-in-Gate.ensures.ok frames pending s.2))) c.cut_behind-in-Gate.ensures.err

pub returns-in_ok-close_gate-in-Gate-clause-any_moment : goal.returns-in_ok-close_gate-in-Gate-clause-any_moment
returns-in_ok-close_gate-in-Gate-clause-any_moment g c = λ frames pending h.
    let s = at_mending_all g.D.Disk.seen c.args.self.now _ _ frames pending c.in-Gate.is h in
    joined g.D.Disk.seen c.args.self.now.disk c.close_gate.new.self.disk c.cut_behind-in-Gate.new.self.disk
    (IsAllOrNone frames pending) (λ x. StandsFor x frames) (IsAllOrNone frames pending)
    (c.close_gate.ensures.any_moment frames pending s.2 s.1 s.0) (c.cut_behind-in-Gate.ensures.any_moment frames (c.in_ok-close_gate-in-Gate.ensures.ok frames pending s.2))
    (λ x p. p) (λ x p. inl p)

pub returns-in_ok-close_gate-in-Gate-clause-done : goal.returns-in_ok-close_gate-in-Gate-clause-done
returns-in_ok-close_gate-in-Gate-clause-done g c = c.cut_behind-in-Gate.ensures.done

pub returns-in_ok-close_gate-in-Gate-clause-same : goal.returns-in_ok-close_gate-in-Gate-clause-same
returns-in_ok-close_gate-in-Gate-clause-same g c = (c.cut_behind-in-Gate.ensures.same.0 ∙ c.close_gate.ensures.same.0, c.cut_behind-in-Gate.ensures.same.1 ∙ c.close_gate.ensures.same.1)

pub returns-in_ok-close_gate-in-Gate-clause-runs : goal.returns-in_ok-close_gate-in-Gate-clause-runs
returns-in_ok-close_gate-in-Gate-clause-runs g c = runs_then g.D.Disk.seen c.args.self.now.disk c.close_gate.new.self.disk c.cut_behind-in-Gate.new.self.disk c.close_gate.ensures.runs c.cut_behind-in-Gate.ensures.runs

pub returns-in_ok-close_gate-in-Gate-clause-calls : goal.returns-in_ok-close_gate-in-Gate-clause-calls
returns-in_ok-close_gate-in-Gate-clause-calls g c = subst (λ (n : ℕ). OnOk c.cut_behind-in-Gate.result (DoesCalls g.D.Disk.seen n c.args.self.now.disk c.cut_behind-in-Gate.new.self.disk))
    (sym (ap calls_to_mend c.in-Gate.is)) (on_ok_weaker c.cut_behind-in-Gate.result
    (does_then g.D.Disk.seen 2 2 c.args.self.now.disk c.close_gate.new.self.disk c.cut_behind-in-Gate.new.self.disk
    (λ told. c.close_gate.ensures.runs.told ∙ told) c.in_ok-close_gate-in-Gate.ensures.calls) c.cut_behind-in-Gate.ensures.calls)

pub returns-in_ok-close_gate-in-Gate-clause-fails : goal.returns-in_ok-close_gate-in-Gate-clause-fails
returns-in_ok-close_gate-in-Gate-clause-fails g c = subst (λ (n : ℕ). OnErr c.cut_behind-in-Gate.result (FailsInCalls g.D.Disk.seen n c.args.self.now.disk c.cut_behind-in-Gate.new.self.disk))
    (sym (ap calls_to_mend c.in-Gate.is)) (on_err_weaker c.cut_behind-in-Gate.result
    (does_then_fails g.D.Disk.seen 2 2 c.args.self.now.disk c.close_gate.new.self.disk c.cut_behind-in-Gate.new.self.disk
    (λ told. c.close_gate.ensures.runs.told ∙ told) c.in_ok-close_gate-in-Gate.ensures.calls) c.cut_behind-in-Gate.ensures.fails)

pub returns-in_ok-close_gate-in-Gate-clause-cause : goal.returns-in_ok-close_gate-in-Gate-clause-cause
returns-in_ok-close_gate-in-Gate-clause-cause g c = cause_then _ _ _ _ c.cut_behind-in-Gate.result c.in_ok-close_gate-in-Gate.ensures.cause c.cut_behind-in-Gate.ensures.cause
