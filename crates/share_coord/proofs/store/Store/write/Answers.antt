use Rattle.std.proofs.Common.{◌≡◌, ◌<◌, ◌^◌, ◌∙◌, sym, ap, subst, Option, Some, None, to_z, of_z, w32, w64}
use Rattle.edge_io.proofs.Runs.{runs_none}
use Rattle.share_coord.specs.Stored.{next_snapshot, kept_at}
use Rattle.share_coord.specs.Calls.{IsWritten, write_refusal}
use Rattle.share_coord.specs.Parts.{KeptState}
use Rattle.share_coord.specs.Tables.{found, shown}
use Rattle.share_coord.proofs.Keys.{some_none}
use Rattle.share_coord.proofs.Numeric.{write_apart, write_caused, unknown_apart, plan_apart, causes_in}
use Rattle.share_coord.proofs.Once.{untouched, rewritten}
use Rattle.share_coord.proofs.Reading.{next_held}
use Rattle.share_coord.proofs.Signed.{epoch_fits, start_fits, in_range, refusal_as, written_as}
use Rattle.share_coord.specs.Recorded.{IsWriteRecord}
use Rattle.share_coord.proofs.Storing.{unstored, as_this, write_stored}
use Rattle.share_coord.proofs.store.Store.write.Goals as goal

pub returns-in-Some-clause-once : goal.returns-in-Some-clause-once
returns-in-Some-clause-once g c = untouched g.D.Disk.seen _ g.met.D.Disk.only_now _ _ c.in-Some.fault
    (write_apart (found c.get-known.result) (to_z w32 (of_z w32 c.args.state_epoch)) (to_z w32 (of_z w32 c.args.leader_epoch)) (to_z w64 (of_z w64 c.args.start)) c.args.runs.now c.in-Some.fault (sym c.write_refusal.ensures ∙ c.in-Some.is))

pub returns-in_default-known-clause-once : goal.returns-in_default-known-clause-once
returns-in_default-known-clause-once g c = untouched g.D.Disk.seen _ g.met.D.Disk.only_now _ _ _ unknown_apart

pub planned-requires-clause-ranges : goal.planned-requires-clause-ranges
planned-requires-clause-ranges g c =
    let none = refusal_as (found c.get-known.result) c.args.state_epoch c.args.leader_epoch c.args.start c.args.runs.now c.ranges.state_epoch c.ranges.leader_epoch c.ranges.start
    ∙ (sym c.write_refusal.ensures ∙ c.in_default.is) in
    let r = in_range (found c.get-known.result) c.args.state_epoch c.args.leader_epoch c.args.start c.args.runs.now none in (
      epoch_fits c.args.state_epoch c.ranges.state_epoch r.state_is,
      epoch_fits c.args.leader_epoch c.ranges.leader_epoch r.leader_is,
      start_fits c.args.start c.ranges.start r.start_is,
    )

pub returns-in-Err-clause-once : goal.returns-in-Err-clause-once
returns-in-Err-clause-once g c = untouched g.D.Disk.seen _ g.met.D.Disk.only_now _ _ c.in-Err.fault (plan_apart c.in-Err.fault c.in-Err.ensures.causes)

pub returns-clause-causes : goal.returns-clause-causes
returns-clause-causes g c = causes_in c.replace.result _ _
    (ap (λ (o : Option KeptState). write_refusal o c.args.state_epoch c.args.leader_epoch c.args.start c.args.runs.now) (sym c.get-known.ensures)
    ∙ (refusal_as (found c.get-known.result) c.args.state_epoch c.args.leader_epoch c.args.start c.args.runs.now c.ranges.state_epoch c.ranges.leader_epoch c.ranges.start
    ∙ (sym c.write_refusal.ensures ∙ c.in_default.is))) c.replace.ensures.causes

pub returns-clause-refused : goal.returns-clause-refused
returns-clause-refused g c =
    let none : write_refusal (kept_at c.args.self.now.table.entries c.args.key.now) c.args.state_epoch c.args.leader_epoch c.args.start c.args.runs.now ≡ None =
    ap (λ (o : Option KeptState). write_refusal o c.args.state_epoch c.args.leader_epoch c.args.start c.args.runs.now) (sym c.get-known.ensures)
    ∙ (refusal_as (found c.get-known.result) c.args.state_epoch c.args.leader_epoch c.args.start c.args.runs.now c.ranges.state_epoch c.ranges.leader_epoch c.ranges.start
    ∙ (sym c.write_refusal.ensures ∙ c.in_default.is)) in
    λ fault is. absurd (some_none fault (sym is ∙ none))

pub returns-in-Err-clause-refused : goal.returns-in-Err-clause-refused
returns-in-Err-clause-refused g c =
    let none : write_refusal (kept_at c.args.self.now.table.entries c.args.key.now) c.args.state_epoch c.args.leader_epoch c.args.start c.args.runs.now ≡ None =
    ap (λ (o : Option KeptState). write_refusal o c.args.state_epoch c.args.leader_epoch c.args.start c.args.runs.now) (sym c.get-known.ensures)
    ∙ (refusal_as (found c.get-known.result) c.args.state_epoch c.args.leader_epoch c.args.start c.args.runs.now c.ranges.state_epoch c.ranges.leader_epoch c.ranges.start
    ∙ (sym c.write_refusal.ensures ∙ c.in_default.is)) in
    λ fault is. absurd (some_none fault (sym is ∙ none))

pub planned-requires-clause-runs : goal.planned-requires-clause-runs
planned-requires-clause-runs g c =
    let none = refusal_as (found c.get-known.result) c.args.state_epoch c.args.leader_epoch c.args.start c.args.runs.now c.ranges.state_epoch c.ranges.leader_epoch c.ranges.start
    ∙ (sym c.write_refusal.ensures ∙ c.in_default.is) in
    (in_range (found c.get-known.result) c.args.state_epoch c.args.leader_epoch c.args.start c.args.runs.now none).runs_are

pub returns-in-Some-clause-stored : goal.returns-in-Some-clause-stored
returns-in-Some-clause-stored g c = unstored g.D.Disk.seen _ _ _ c.in-Some.fault
    (write_apart (found c.get-known.result) (to_z w32 (of_z w32 c.args.state_epoch)) (to_z w32 (of_z w32 c.args.leader_epoch)) (to_z w64 (of_z w64 c.args.start)) c.args.runs.now c.in-Some.fault (sym c.write_refusal.ensures ∙ c.in-Some.is))

pub returns-in_default-known-clause-stored : goal.returns-in_default-known-clause-stored
returns-in_default-known-clause-stored g c = unstored g.D.Disk.seen _ _ _ _ unknown_apart

pub returns-in-Err-clause-stored : goal.returns-in-Err-clause-stored
returns-in-Err-clause-stored g c = unstored g.D.Disk.seen _ _ _ c.in-Err.fault (plan_apart c.in-Err.fault c.in-Err.ensures.causes)

pub planned-requires-clause-snapshot : goal.planned-requires-clause-snapshot
planned-requires-clause-snapshot g c =
    let known : kept_at c.args.self.now.table.entries c.args.key.now ≡ Some (shown c.in-Some-known.kept.now) = sym c.get-known.ensures ∙ ap found c.in-Some-known.is in
    subst (λ (o : Option KeptState). next_snapshot o < 2 ^ 64) known
    (next_held c.requires.held.1.frames c.args.self.now.table.entries c.requires.held.1.written c.args.key.now c.requires.held.1.taken c.requires.held.1.kept
    c.requires.held.1.few)

pub returns-in-Some-clause-runs : goal.returns-in-Some-clause-runs
returns-in-Some-clause-runs g c = (runs_none g.D.Disk.seen c.args.self.now.journal.first.disk, runs_none g.D.Disk.seen c.args.self.now.journal.second.disk)

pub returns-in_default-known-clause-runs : goal.returns-in_default-known-clause-runs
returns-in_default-known-clause-runs g c = (runs_none g.D.Disk.seen c.args.self.now.journal.first.disk, runs_none g.D.Disk.seen c.args.self.now.journal.second.disk)

pub returns-in-Err-clause-runs : goal.returns-in-Err-clause-runs
returns-in-Err-clause-runs g c = (runs_none g.D.Disk.seen c.args.self.now.journal.first.disk, runs_none g.D.Disk.seen c.args.self.now.journal.second.disk)

pub replace-requires-clause-frames : goal.replace-requires-clause-frames
replace-requires-clause-frames g c = c.in-Ok.ensures.plan.frames

pub replace-requires-clause-follows : goal.replace-requires-clause-follows
replace-requires-clause-follows g c =
    let known : kept_at c.args.self.now.table.entries c.args.key.now ≡ Some (shown c.in-Some-known.kept.now) = sym c.get-known.ensures ∙ ap found c.in-Some-known.is in
    c.in-Ok.ensures.plan.follows c.args.self.now.table.entries known

pub returns-clause-once : goal.returns-clause-once
returns-clause-once g c =
    let es = c.args.self.now.table.entries in
    let key = c.args.key.now in
    let state = to_z w32 (of_z w32 c.args.state_epoch) in
    let leader = to_z w32 (of_z w32 c.args.leader_epoch) in
    let start = to_z w64 (of_z w64 c.args.start) in
    let known : kept_at es key ≡ Some (shown c.in-Some-known.kept.now) = sym c.get-known.ensures ∙ ap found c.in-Some-known.is in
    let none : write_refusal (kept_at es key) state leader start c.args.runs.now ≡ None =
    ap (λ (o : Option KeptState). write_refusal o state leader start c.args.runs.now) (sym c.get-known.ensures) ∙ (sym c.write_refusal.ensures ∙ c.in_default.is) in
    rewritten g.D.Disk.seen _ _ (IsWritten es key c.args.state_epoch c.args.leader_epoch c.args.start c.args.runs.now) _ _ _
    (λ l h. written_as es key c.args.state_epoch c.args.leader_epoch c.args.start c.args.runs.now _ l c.ranges.state_epoch c.ranges.leader_epoch c.ranges.start
    (c.in-Ok.ensures.plan.written es known none h.0 h.1 h.2) h.3) c.replace.ensures.once

pub returns-clause-stored : goal.returns-clause-stored
returns-clause-stored g c =
    let es = c.args.self.now.table.entries in
    let key = c.args.key.now in
    let known : kept_at es key ≡ Some (shown c.in-Some-known.kept.now) = sym c.get-known.ensures ∙ ap found c.in-Some-known.is in
    as_this g.D.Disk.seen _ _ (IsWriteRecord es key c.args.state_epoch c.args.leader_epoch c.args.start c.args.runs.now) _ _
    (λ one h. write_stored es key c.args.state_epoch c.args.leader_epoch c.args.start c.args.runs.now one
    c.ranges.state_epoch c.ranges.leader_epoch c.ranges.start (c.in-Ok.ensures.plan.records es known h.0 one h.1)) c.replace.result c.replace.ensures.stored

pub returns-in-Some-clause-causes : goal.returns-in-Some-clause-causes
returns-in-Some-clause-causes g c = write_caused (kept_at c.args.self.now.table.entries c.args.key.now) c.args.state_epoch c.args.leader_epoch c.args.start c.args.runs.now _ c.in-Some.fault
    (ap (λ (o : Option KeptState). write_refusal o c.args.state_epoch c.args.leader_epoch c.args.start c.args.runs.now) (sym c.get-known.ensures)
    ∙ (refusal_as (found c.get-known.result) c.args.state_epoch c.args.leader_epoch c.args.start c.args.runs.now c.ranges.state_epoch c.ranges.leader_epoch c.ranges.start
    ∙ (sym c.write_refusal.ensures ∙ c.in-Some.is)))
