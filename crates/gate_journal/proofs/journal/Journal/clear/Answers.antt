use Rattle.std.proofs.Common.{subst, ◌⊎◌, [], OnOk, OnErr}
use Rattle.edge_io.specs.Armed.{RunsOn, StarvesUnarmed}
use Rattle.edge_io.specs.Causes.{HasCause}
use Rattle.edge_io.specs.Counting.{DoesCalls}
use Rattle.edge_io.specs.Moments.{LeavesOnly}
use Rattle.gate_journal.specs.Clearing.{IsBare, IsLone, IsPartlyCleared, IsTouched, MayClear}
use Rattle.gate_journal.specs.Frames.{StandsFor}
use Rattle.gate_journal.specs.Journals.{IsAtRest}
use Rattle.gate_journal.specs.declared.writer.Writer.{Writer}
use Rattle.gate_journal.proofs.Changes.{on_ok_both}
use Rattle.gate_journal.proofs.Shaped.{at_rest}
use Rattle.gate_journal.proofs.journal.Journal.clear.Goals as goal

pub returns-clause-ok : goal.returns-clause-ok
returns-clause-ok g c = subst (λ (w : Writer _). OnOk c.clear.result (MayClear g.D.Disk.seen w → IsAtRest g.D.Disk.seen c.clear.new.self [])) c.self.view_is
    (on_ok_both c.clear.result _ _ _ c.clear.ensures.mended c.clear.ensures.ok (λ mended shaped may. at_rest g.D.Disk.seen c.clear.new.self [] mended (shaped may)))

pub returns-clause-lone : goal.returns-clause-lone
returns-clause-lone g c = subst (λ (w : Writer _). IsLone w → IsLone c.clear.new.self) c.self.view_is c.clear.ensures.lone

pub returns-clause-calls : goal.returns-clause-calls
returns-clause-calls g c = subst (λ (w : Writer _). OnOk c.clear.result ((IsBare w → DoesCalls g.D.Disk.seen 2 w.disk c.clear.new.self.disk)
    × ((IsBare w → ⊥) → DoesCalls g.D.Disk.seen 4 w.disk c.clear.new.self.disk))) c.self.view_is c.clear.ensures.calls

pub returns-clause-failed : goal.returns-clause-failed
returns-clause-failed g c = subst (λ (w : Writer _). OnErr c.clear.result (MayClear g.D.Disk.seen w → IsPartlyCleared g.D.Disk.seen w c.clear.new.self))
    c.self.view_is c.clear.ensures.failed

pub returns-clause-any_moment : goal.returns-clause-any_moment
returns-clause-any_moment g c = subst (λ (w : Writer _). MayClear g.D.Disk.seen w →
    LeavesOnly g.D.Disk.seen w.disk c.clear.new.self.disk (λ x. IsTouched w (g.D.Disk.seen w.disk).image x ⊎ StandsFor x []))
    c.self.view_is c.clear.ensures.any_moment

pub returns-clause-runs : goal.returns-clause-runs
returns-clause-runs g c = subst (λ (w : Writer _). RunsOn g.D.Disk.seen w.disk c.clear.new.self.disk) c.self.view_is c.clear.ensures.runs

pub returns-clause-memory : goal.returns-clause-memory
returns-clause-memory g c = subst (λ (w : Writer _). OnErr c.clear.result (StarvesUnarmed g.D.Disk.seen w.disk c.clear.new.self.disk)) c.self.view_is c.clear.ensures.memory

pub returns-clause-cause : goal.returns-clause-cause
returns-clause-cause g c = subst (λ (w : Writer _). HasCause (g.D.Disk.seen w.disk).faults (g.D.Disk.seen c.clear.new.self.disk).faults c.clear.result)
    c.self.view_is c.clear.ensures.cause
