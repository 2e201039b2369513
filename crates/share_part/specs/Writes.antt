-- Which records the calls on a shard store: one a write, and a write for each list of acts and each new table
-- (KIP-932 stores a share group's state as snapshots and updates; what an update holds is this project's own).
-- Acts on a group's table store an update with the rows that they changed, from the new start on, and with -1 in
-- place of the start where it stays, unless a delete or an opening has raised it since a call last stored the table;
-- behind 500 updates it is a snapshot of the whole table. A new table is stored as a snapshot with its start and no rows.
-- Worked example: a log has one batch from 0 to 9, the start is 0, nothing is stored, and `a` holds 0 to 9 with count
-- 1. An accept of 3 stores an update with start -1 and the row of 3. An accept of 0 behind it stores an update with
-- start 1 and no rows: that of 3 isn't stored again. A delete of 5 stores nothing of the table, and an accept of 7 behind
-- it stores an update with start 5 and the row of 7.
use Rattle.std.specs.Prelude.{◌≡◌, ◌≢◌, ◌⊎◌, ◌++◌, ℕ, List, [], ◌∷◌, Option, Some, None, Result, Ok, Err, Bool, true, false}
use Rattle.coord_checkpoint.specs.Disks.{HasFailed}
use Rattle.edge_io.specs.Views.{DiskView}
use Rattle.flex_fields.specs.declared.fault.NoMemory.{NoMemory}
use Rattle.share_coord.specs.Parts.{StoreParts}
use Rattle.share_model.specs.Held.{Held}
use Rattle.share_model.specs.Logs.{Batch}
use Rattle.part_log.specs.Starts.{Log}
use Rattle.share_model.specs.declared.fault.StoreFault.{StoreFault}
use Rattle.share_model.specs.declared.visit.AckOutcome.{AckOutcome}
use Rattle.share_model.specs.declared.visit.AckOutcome.TheVariants.{Done, Malformed, NotHeld, Store}
use Rattle.share_model.specs.declared.visit.ExpireAnswer.{ExpireAnswer}
use Rattle.share_model.specs.declared.visit.ExpireAnswer.TheVariants.{Done as expired, Store as expire_store}
use Rattle.share_model.specs.declared.visit.Then.{Then}
use Rattle.share_model.specs.declared.visit.Then.TheVariants.{Nothing, Release, Fetch}
use Rattle.share_model.specs.declared.visit.ThenOutcome.{ThenOutcome}
use Rattle.share_model.specs.declared.visit.ThenOutcome.TheVariants.{Done as then_done, Store as then_store}
use Rattle.share_model.specs.declared.visit.Visit.{Visit}
use Rattle.share_model.specs.declared.visit.VisitAnswer.{VisitAnswer}
use Rattle.share_part.specs.Acknowledging.{NameNone, NameOne}
use Rattle.share_part.specs.Expiring.{ending}
use Rattle.share_part.specs.Failures.{AreQuiet}
use Rattle.share_part.specs.Following.{fault_of, releases_of}
use Rattle.share_part.specs.Hosting.{PartConfParts}
use Rattle.share_part.specs.Making.{MakesTableOnce}
use Rattle.share_part.specs.Named.{named_from}
use Rattle.share_part.specs.Settling.{Acts, held_after}
use Rattle.share_part.specs.Storing.{IsActsStored}

-- Acts on the table of a group that held this, by the fault that their write met, if it met one. Where they name no
-- offset there is no write. A checkpoint is tried before it where one is due, if one `tries`.
abbrev pub WritesActs : {D : Type 0} → (D → DiskView) → PartConfParts → (log : List Batch) → (group : List ℕ) → Acts
    → (was : Held) → (tries : Bool) → (old new : StoreParts D) → Option StoreFault → Type 0
WritesActs seen conf log group acts was tries old new None = (NameNone acts × (new ≡ old))
    ⊎ (NameOne acts × IsActsStored seen (HasFailed seen) conf log group acts was tries old new None)
WritesActs seen conf log group acts was tries old new (Some fault) =
    NameOne acts × IsActsStored seen (HasFailed seen) conf log group acts was tries old new (Some fault)

-- ---- a visit

-- the acknowledgements, by their answer
abbrev pub WritesAcks : {D : Type 0} → (D → DiskView) → PartConfParts → (log : Log) → Visit → (was : Held) → (tries : Bool)
    → (old new : StoreParts D) → AckOutcome → Type 0
WritesAcks seen conf log visit was tries old new (Malformed fault) = new ≡ old
WritesAcks seen conf log visit was tries old new (NotHeld offset) = new ≡ old
WritesAcks seen conf log visit was tries old new Done =
    WritesActs seen conf log.batches visit.group (named_from log.start visit.acks) was tries old new None
WritesAcks seen conf log visit was tries old new (Store fault) =
    WritesActs seen conf log.batches visit.group (named_from log.start visit.acks) was tries old new (Some fault)

-- what the group holds behind them
abbrev pub held_behind : (start : ℕ) → Visit → Held → AckOutcome → Held
held_behind start visit was (Malformed fault) = was
held_behind start visit was (NotHeld offset) = was
held_behind start visit was Done = held_after (named_from start visit.acks) was
held_behind start visit was (Store fault) = was

-- what follows them, by what became of its write
abbrev pub WritesThen : {D : Type 0} → (D → DiskView) → PartConfParts → (log : Log) → Visit → (was : Held)
    → (old new : StoreParts D) → ThenOutcome → Then → Type 0
WritesThen seen conf log visit was old new outcome Nothing = new ≡ old
WritesThen seen conf log visit was old new outcome Release =
    WritesActs seen conf log.batches visit.group (releases_of visit.member was) was true old new (fault_of outcome)
WritesThen seen conf log visit was old new outcome (Fetch records bytes first) =
    MakesTableOnce seen (HasFailed seen) conf visit.group log old new (Ok outcome)

-- what became of its write, by what is told of it: a batch that couldn't be read is met behind the write
abbrev pub write_outcome : (unread : Bool) → ThenOutcome → ThenOutcome
write_outcome true told = then_done
write_outcome false told = told

-- a visit that is answered
pub record WritesVisit {D : Type 0} (unread : Bool) (seen : D → DiskView) (conf : PartConfParts) (log : Log)
    (visit : Visit) (was : Held) (tries : Bool) (old new : StoreParts D) (answer : VisitAnswer) : Type 0 where
  -- the states between the two writes
  pub between : StoreParts D
  pub acks : WritesAcks seen conf log visit was tries old between answer.ack
  pub follows : WritesThen seen conf log visit (held_behind log.start visit was answer.ack) between new
      (write_outcome unread answer.then) visit.then
  -- where no store fault was met by one of both, no call of the state disks failed in it, but those of a checkpoint
  pub quiet_acks : ((fault : StoreFault) → answer.ack ≢ Store fault) → AreQuiet seen old between
  pub quiet_then : ((fault : StoreFault) → write_outcome unread answer.then ≢ then_store fault) → AreQuiet seen between new

-- ---- an expiry

-- What has ended by the clock is released of groups one after another, each by a write of its own, in which no call of the state disks
-- failed but those of a checkpoint.
abbrev pub WritesGroups : {D : Type 0} → (D → DiskView) → PartConfParts → (log : List Batch) → (clock : ℕ)
    → (List ℕ → Held) → List (List ℕ) → (old new : StoreParts D) → Type 0
WritesGroups seen conf log clock held [] old new = new ≡ old
WritesGroups {D} seen conf log clock held (group ∷ groups) old new = (between : StoreParts D)
    × WritesActs seen conf log group (ending clock (held group)) (held group) true old between None × AreQuiet seen old between
    × WritesGroups seen conf log clock held groups between new

-- An expiry over these groups: all are done, or those up to one whose write fails, or none where it finds no memory.
abbrev pub WritesExpiry : {D : Type 0} → (D → DiskView) → PartConfParts → (log : List Batch) → (clock : ℕ)
    → (List ℕ → Held) → List (List ℕ) → (old new : StoreParts D) → Result ExpireAnswer NoMemory → Type 0
WritesExpiry seen conf log clock held groups old new (Ok (expired freed)) =
    WritesGroups seen conf log clock held groups old new
WritesExpiry {D} seen conf log clock held groups old new (Ok (expire_store freed group fault)) =
    (done : List (List ℕ)) × (behind : List (List ℕ)) × (groups ≡ done ++ (group ∷ behind))
    × (between : StoreParts D) × WritesGroups seen conf log clock held done old between
    × WritesActs seen conf log group (ending clock (held group)) (held group) true between new (Some fault)
WritesExpiry seen conf log clock held groups old new (Err e) = new ≡ old
