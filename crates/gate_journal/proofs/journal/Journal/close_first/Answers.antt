use Rattle.std.proofs.Common.{◌≡◌, ◌⊎◌, subst, [], ℕ, List, IsOk, OnOk, OnErr}
use Rattle.edge_io.specs.Armed.{RunsOn, StarvesUnarmed}
use Rattle.edge_io.specs.Causes.{HasCause}
use Rattle.edge_io.specs.Counting.{DoesCalls}
use Rattle.edge_io.specs.Moments.{LeavesOnly}
use Rattle.gate_journal.specs.Clearing.{IsAsBefore, IsBare, IsLone, IsTouched, MayClear}
use Rattle.gate_journal.specs.Frames.{IsShut}
use Rattle.gate_journal.specs.Journals.{IsShaped}
use Rattle.gate_journal.specs.declared.writer.Writer.{Writer}
use Rattle.gate_journal.proofs.journal.Journal.close_first.Goals as goal

pub returns-clause-ok : goal.returns-clause-ok
returns-clause-ok g c = subst (λ (w : Writer _). OnOk c.close_first.result (MayClear g.D.Disk.seen w → IsShaped g.D.Disk.seen c.close_first.new.self [] (IsShut [])))
    c.self.view_is c.close_first.ensures.ok

pub returns-clause-kept : goal.returns-clause-kept
returns-clause-kept g c = subst (λ (w : Writer _). OnErr c.close_first.result (IsAsBefore w c.close_first.new.self)) c.self.view_is c.close_first.ensures.kept

pub returns-clause-bare : goal.returns-clause-bare
returns-clause-bare g c = subst (λ (w : Writer _). OnOk c.close_first.result (IsBare c.close_first.new.self ⊎ (IsLone w × IsAsBefore w c.close_first.new.self)))
    c.self.view_is c.close_first.ensures.bare

pub returns-clause-lone : goal.returns-clause-lone
returns-clause-lone g c = subst (λ (w : Writer _). IsLone w → IsLone c.close_first.new.self) c.self.view_is c.close_first.ensures.lone

pub returns-clause-again : goal.returns-clause-again
returns-clause-again g c = subst (λ (w : Writer _). IsBare w → IsOk c.close_first.result × (c.close_first.new.self ≡ w)) c.self.view_is c.close_first.ensures.again

pub returns-clause-calls : goal.returns-clause-calls
returns-clause-calls g c = subst (λ (w : Writer _). OnOk c.close_first.result ((IsBare w → ⊥) → DoesCalls g.D.Disk.seen 2 w.disk c.close_first.new.self.disk))
    c.self.view_is c.close_first.ensures.calls

pub returns-clause-images : goal.returns-clause-images
returns-clause-images g c = subst (λ (w : Writer _). (x : List ℕ) → (g.D.Disk.seen c.close_first.new.self.disk).image x →
    IsTouched w (g.D.Disk.seen w.disk).image x) c.self.view_is c.close_first.ensures.images

pub returns-clause-any_moment : goal.returns-clause-any_moment
returns-clause-any_moment g c = subst (λ (w : Writer _). LeavesOnly g.D.Disk.seen w.disk c.close_first.new.self.disk (IsTouched w (g.D.Disk.seen w.disk).image))
    c.self.view_is c.close_first.ensures.any_moment

pub returns-clause-runs : goal.returns-clause-runs
returns-clause-runs g c = subst (λ (w : Writer _). RunsOn g.D.Disk.seen w.disk c.close_first.new.self.disk) c.self.view_is c.close_first.ensures.runs

pub returns-clause-memory : goal.returns-clause-memory
returns-clause-memory g c = subst (λ (w : Writer _). OnErr c.close_first.result (StarvesUnarmed g.D.Disk.seen w.disk c.close_first.new.self.disk)) c.self.view_is c.close_first.ensures.memory

pub returns-clause-cause : goal.returns-clause-cause
returns-clause-cause g c = subst (λ (w : Writer _). HasCause (g.D.Disk.seen w.disk).faults (g.D.Disk.seen c.close_first.new.self.disk).faults c.close_first.result)
    c.self.view_is c.close_first.ensures.cause
