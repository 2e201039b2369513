use Rattle.std.proofs.Common.{sym, ap, ◌∙◌, ◌+◌, ℕ, length, inl, arith}
use Rattle.std.proofs.lemmas.Result.{on_ok_weaker, on_err_weaker}
use Rattle.edge_io.proofs.Counting.{does_then, does_then_fails, fails_in_more}
use Rattle.edge_io.proofs.Moments.{joined, weakened}
use Rattle.edge_io.proofs.Runs.{runs_then}
use Rattle.gate_journal.specs.Frames.{StandsFor}
use Rattle.gate_journal.specs.Groups.{IsAllOrNone}
use Rattle.gate_journal.specs.declared.writer.Mending.TheVariants.{Behind, Gate}
use Rattle.gate_journal.proofs.Changes.{on_err_both, cause_then, cause_of}
use Rattle.gate_journal.proofs.Grouped.{at_mending_all}
use Rattle.gate_journal.proofs.Shaped.{on_err}
use Rattle.gate_journal.proofs.writer.Writer.add.Goals as goal

pub returns-in_err-stage-clause-kept : goal.returns-in_err-stage-clause-kept
returns-in_err-stage-clause-kept g c = on_err c.from_residual.result _ (λ frames group s is.
    at_mending_all g.D.Disk.seen c.stage.new.self Behind _ frames group (sym c.in_err-stage.ensures.err) (c.stage.ensures.kept frames s))

pub returns-in_err-stage-clause-any_moment : goal.returns-in_err-stage-clause-any_moment
returns-in_err-stage-clause-any_moment g c = λ frames group s is.
    weakened g.D.Disk.seen _ _ _ _ (c.stage.ensures.any_moment frames s) (λ x stands. inl stands)

pub returns-in_err-stage-clause-err : goal.returns-in_err-stage-clause-err
returns-in_err-stage-clause-err g c = on_err c.from_residual.result _ c.stage.ensures.same

pub returns-in_err-stage-clause-room_kept : goal.returns-in_err-stage-clause-room_kept
returns-in_err-stage-clause-room_kept g c = c.stage.ensures.room_kept

pub returns-in_err-stage-clause-runs : goal.returns-in_err-stage-clause-runs
returns-in_err-stage-clause-runs g c = c.stage.ensures.runs

pub returns-in_err-stage-clause-fails : goal.returns-in_err-stage-clause-fails
returns-in_err-stage-clause-fails g c = on_err c.from_residual.result _
    (fails_in_more g.D.Disk.seen 2 4 c.args.self.now.disk c.stage.new.self.disk (omega arith) c.in_err-stage.ensures.fails)

pub returns-in_err-stage-clause-cause : goal.returns-in_err-stage-clause-cause
returns-in_err-stage-clause-cause g c = cause_of _ _ _ c.from_residual.result c.in_err-stage.ensures.cause

pub returns-clause-ok : goal.returns-clause-ok
returns-clause-ok g c = on_ok_weaker c.open_gate.result
    (λ opens frames group s is. opens frames group (c.in_ok-stage.ensures.ok frames group s is.is) is.fit is.some (ap length is.is) is.count_is) c.open_gate.ensures.ok

pub returns-clause-kept : goal.returns-clause-kept
returns-clause-kept g c = on_err_both c.open_gate.result _ _ _ c.open_gate.ensures.kept c.open_gate.ensures.err (λ kept err frames group s is.
    at_mending_all g.D.Disk.seen c.open_gate.new.self Gate _ frames group (sym err.0)
    (is.some, is.fit, kept frames group (c.in_ok-stage.ensures.ok frames group s is.is)))

pub returns-clause-any_moment : goal.returns-clause-any_moment
returns-clause-any_moment g c = λ frames group s is.
    joined g.D.Disk.seen c.args.self.now.disk c.stage.new.self.disk c.open_gate.new.self.disk
    (λ x. StandsFor x frames) (IsAllOrNone frames group) (IsAllOrNone frames group) (c.stage.ensures.any_moment frames s)
    (c.open_gate.ensures.any_moment frames group (c.in_ok-stage.ensures.ok frames group s is.is) is.fit is.some) (λ x p. inl p) (λ x p. p)

pub returns-clause-done : goal.returns-clause-done
returns-clause-done g c = on_ok_weaker c.open_gate.result (λ done. (
  done.0,
  done.1 ∙ ap (λ (n : ℕ). n + length c.args.bytes.now) c.stage.ensures.same.0,
  done.2 ∙ ap (λ (n : ℕ). n + c.args.count) c.stage.ensures.same.1,
)) c.open_gate.ensures.done

pub returns-clause-err : goal.returns-clause-err
returns-clause-err g c = on_err_weaker c.open_gate.result (λ err. (err.1 ∙ c.stage.ensures.same.0, err.2 ∙ c.stage.ensures.same.1)) c.open_gate.ensures.err

pub returns-clause-room_kept : goal.returns-clause-room_kept
returns-clause-room_kept g c = c.open_gate.ensures.room_kept

pub returns-clause-runs : goal.returns-clause-runs
returns-clause-runs g c = runs_then g.D.Disk.seen c.args.self.now.disk c.stage.new.self.disk c.open_gate.new.self.disk
    c.stage.ensures.runs c.open_gate.ensures.runs

pub returns-clause-calls : goal.returns-clause-calls
returns-clause-calls g c = on_ok_weaker c.open_gate.result
    (does_then g.D.Disk.seen 2 2 c.args.self.now.disk c.stage.new.self.disk c.open_gate.new.self.disk (λ told. c.stage.ensures.runs.told ∙ told)
    c.in_ok-stage.ensures.calls) c.open_gate.ensures.calls

pub returns-clause-fails : goal.returns-clause-fails
returns-clause-fails g c = on_err_weaker c.open_gate.result
    (does_then_fails g.D.Disk.seen 2 2 c.args.self.now.disk c.stage.new.self.disk c.open_gate.new.self.disk (λ told. c.stage.ensures.runs.told ∙ told)
    c.in_ok-stage.ensures.calls) c.open_gate.ensures.fails

pub returns-clause-cause : goal.returns-clause-cause
returns-clause-cause g c = cause_then _ _ _ _ c.open_gate.result c.in_ok-stage.ensures.cause c.open_gate.ensures.cause
