use Rattle.std.proofs.Common.{◌++◌, ap, sym, subst, ◌∙◌, ℕ, List, None}
use Rattle.gate_journal.specs.Visits.{OpensEach, placed}
use Rattle.part_log.specs.Holding.{HoldsLog, batches_of, log_of}
use Rattle.part_log.specs.Logs.{IsLogText, IsNoLogText, Keeps, frames_of}
use Rattle.part_log.proofs.Opening.{damaged, ends, holds, keeps, never_damaged, place_is, recovers, text}
use Rattle.part_log.proofs.log.PartLog.open.Goals as goal

pub invariant_of-result : goal.invariant_of-result
invariant_of-result g c =
    let journal = c.in-Ok-start_each.journal in
    let visit = c.start_each.new.visit in
    let read = c.in-Ok-finish in
    let opens = subst (λ (l : List (ℕ × List ℕ)). OpensEach g.D.Disk.seen c.args.disk journal l visit) c.in-Ok.ensures c.in-Ok-start_each.ensures.ok in
    subst (λ (l : List (ℕ × List ℕ)). HoldsLog g.D.Disk.seen l read.read.index journal read.read.start read.read.end) (sym read.ensures.frames)
    (holds g.D.Disk.seen c.args.disk journal visit opens read.read.index read.read.start read.read.end read.ensures.indexed read.ensures.cached)

pub returns-in-Ok-finish-clause-kept : goal.returns-in-Ok-finish-clause-kept
returns-in-Ok-finish-clause-kept g c =
    let journal = c.in-Ok-start_each.journal in
    let visit = c.start_each.new.visit in
    let read = c.in-Ok-finish in
    let opens = subst (λ (l : List (ℕ × List ℕ)). OpensEach g.D.Disk.seen c.args.disk journal l visit) c.in-Ok.ensures c.in-Ok-start_each.ensures.ok in
    subst (λ (l : List (ℕ × List ℕ)). Keeps g.D.Disk.seen (record { batches = batches_of l; start = read.read.start; journal = journal }) None) (sym read.ensures.frames)
    (keeps g.D.Disk.seen c.args.disk journal visit opens read.read.index read.read.start read.read.end read.ensures.indexed)

pub returns-in-Ok-finish-clause-opens : goal.returns-in-Ok-finish-clause-opens
returns-in-Ok-finish-clause-opens g c = λ content told.
    let journal = c.in-Ok-start_each.journal in
    let visit = c.start_each.new.visit in
    let read = c.in-Ok-finish in
    let opens = subst (λ (l : List (ℕ × List ℕ)). OpensEach g.D.Disk.seen c.args.disk journal l visit) c.in-Ok.ensures c.in-Ok-start_each.ensures.ok in
    subst (λ (l : List (ℕ × List ℕ)). IsLogText content (log_of l read.read.start)) (sym read.ensures.frames)
    (text g.D.Disk.seen c.args.disk journal visit opens read.read.index read.read.start read.read.end read.ensures.indexed content told)

pub returns-in-Ok-finish-clause-recovers : goal.returns-in-Ok-finish-clause-recovers
returns-in-Ok-finish-clause-recovers g c = λ content is told log.
    let journal = c.in-Ok-start_each.journal in
    let visit = c.start_each.new.visit in
    let read = c.in-Ok-finish in
    let opens = subst (λ (l : List (ℕ × List ℕ)). OpensEach g.D.Disk.seen c.args.disk journal l visit) c.in-Ok.ensures c.in-Ok-start_each.ensures.ok in
    let handed = c.in-Ok-start_each.ensures.recovers content (frames_of log.writes) told log.frames
    ∙ ap (λ (l : List (ℕ × List ℕ)). l ++ placed 0 (frames_of log.writes)) c.in-Ok.ensures in
    ap (λ (l : List (ℕ × List ℕ)). log_of l read.read.start) read.ensures.frames
    ∙ recovers g.D.Disk.seen c.args.disk journal visit opens read.read.index read.read.start read.read.end read.ensures.indexed log.writes is log.leads handed

pub returns-in-Err-finish-clause-recovers : goal.returns-in-Err-finish-clause-recovers
returns-in-Err-finish-clause-recovers g c = λ content wanted told log place is.
    never_damaged c.start_each.new.visit c.in-Err-finish.place log.writes wanted c.in-Err-finish.ensures.bad log.leads
    (c.in-Ok-start_each.ensures.recovers content (frames_of log.writes) told log.frames
    ∙ ap (λ (l : List (ℕ × List ℕ)). l ++ placed 0 (frames_of log.writes)) c.in-Ok.ensures)

pub returns-in-Err-finish-clause-damaged : goal.returns-in-Err-finish-clause-damaged
returns-in-Err-finish-clause-damaged g c = λ place is content told.
    let journal = c.in-Ok-start_each.journal in
    let visit = c.start_each.new.visit in
    let opens = subst (λ (l : List (ℕ × List ℕ)). OpensEach g.D.Disk.seen c.args.disk journal l visit) c.in-Ok.ensures c.in-Ok-start_each.ensures.ok in
    subst (λ (p : ℕ). IsNoLogText content p) (place_is c.in-Err-finish.place place is)
    (damaged g.D.Disk.seen c.args.disk journal visit opens c.in-Err-finish.place c.in-Err-finish.ensures.bad content told)

pub returns-in-Err-clause-recovers : goal.returns-in-Err-clause-recovers
returns-in-Err-clause-recovers g c = λ content wanted told text place is.
    c.in-Err.ensures.recovers content (frames_of text.writes) told text.frames place (c.open_fault.ensures.damaged place is)

pub returns-in-Ok-finish-clause-ends : goal.returns-in-Ok-finish-clause-ends
returns-in-Ok-finish-clause-ends g c = λ content its told stands.
    let journal = c.in-Ok-start_each.journal in
    let visit = c.start_each.new.visit in
    let opens = subst (λ (l : List (ℕ × List ℕ)). OpensEach g.D.Disk.seen c.args.disk journal l visit) c.in-Ok.ensures c.in-Ok-start_each.ensures.ok in
    ends g.D.Disk.seen c.args.disk journal visit opens content its told stands
