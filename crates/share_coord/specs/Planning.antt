-- What a call is to change, before it is stored: the record where no checkpoint is made, and the one behind a checkpoint. This
-- project's own.
-- For example a write on a key with 500 updates since its snapshot of epoch 7 is a snapshot of epoch 8, and behind a checkpoint an
-- update of epoch 0.
use Rattle.std.specs.Prelude.{◌≡◌, ℤ, List, Bool, true, false, Some, None, IfSome}
use Rattle.std.specs.Option.{option_map}
use Rattle.std.specs.declared.option.Option.{Option}
use Rattle.share_model.specs.Keys.{KeyParts}
use Rattle.share_model.specs.declared.run.Run.{Run}
use Rattle.state_records.specs.declared.record.StateRecord.{StateRecord}
use Rattle.share_coord.specs.Calls.{IsWritten, write_refusal}
use Rattle.share_coord.specs.Putting.{FitFrames, IsPut}
use Rattle.share_coord.specs.Recorded.{IsWriteRecord}
use Rattle.share_coord.specs.Stored.{Entries, Follows, based, kept_at, renewed, with_kept}
use Rattle.share_coord.specs.Tables.{shown}
use Rattle.share_coord.specs.declared.plan.Fresh.{Fresh}
use Rattle.share_coord.specs.declared.plan.Changes.{Changes}
use Rattle.share_coord.specs.Parts.{KeptState}
use Rattle.share_coord.specs.Unwritten.{AreKeptOf}

abbrev pub record_of : Option Fresh → Option StateRecord
record_of fresh = option_map (λ f. f.written) fresh

-- what is kept of the key behind a checkpoint
abbrev pub fresh_kept : KeptState → Option Fresh → KeptState
fresh_kept kept None = kept
fresh_kept kept (Some fresh) = record {
  view = kept.view;
  snapshot = fresh.snapshot;
  updates = fresh.updates;
  raised = kept.raised;
  tells = kept.tells;
}

-- what the call leaves, where a checkpoint was made before it, and where none was
abbrev pub left_by : Entries → KeyParts → KeptState → Option Fresh → Bool → Entries
left_by old key kept fresh false = with_kept old key kept
left_by old key kept fresh true = with_kept (renewed old) key (fresh_kept kept fresh)

-- a record goes on from what is written, and leaves that of which these are kept
abbrev pub LeadsTo : Entries → StateRecord → Entries → Type 0
LeadsTo written one kept = (new : Entries) × Follows written one new × AreKeptOf new kept

-- Each record goes on from what is written when it is put, and leaves these.
abbrev pub GoesOn : Entries → StateRecord → Option StateRecord → (Bool → Entries) → Type 0
GoesOn old plain fresh next = (checkpointed : Bool) (one : StateRecord) → IsPut plain fresh checkpointed one →
    (written : Entries) → AreKeptOf written (based checkpointed old) → LeadsTo written one (next checkpointed)

-- what it leaves, in either case
abbrev pub LeavesPlanned : Entries → KeyParts → Changes → Entries → Type 0
LeavesPlanned old key planned new = (checkpointed : Bool) × (one : StateRecord)
    × IsPut planned.change.written (record_of planned.fresh) checkpointed one
    × (new ≡ left_by old key (shown planned.change.kept) planned.fresh checkpointed)

-- one of both records
abbrev pub IsEither : StateRecord → Option StateRecord → StateRecord → Type 0
IsEither plain fresh one = (checkpointed : Bool) × IsPut plain fresh checkpointed one

-- the first snapshot of its key in either case
abbrev pub IsFirst : KeptState → Option Fresh → Type 0
IsFirst kept fresh = (kept.snapshot ≡ 0) × (kept.updates ≡ 0) × (kept.raised ≡ false) × IfSome fresh (λ f. (f.snapshot ≡ 0) × (f.updates ≡ 0))

-- A write whose numbers are not refused, on a key that is kept so.
pub record IsPlanned (key : KeyParts) (known : KeptState) (state_epoch leader_epoch start : ℤ) (runs : List Run) (plain : StateRecord) (kept : KeptState)
    (fresh : Option Fresh) : Type 0 where
  pub frames : FitFrames plain (record_of fresh)
  pub follows : (old : Entries) → kept_at old key ≡ Some known → GoesOn old plain (record_of fresh) (left_by old key kept fresh)
  pub written : (old : Entries) → kept_at old key ≡ Some known → write_refusal (kept_at old key) state_epoch leader_epoch start runs ≡ None →
      (checkpointed : Bool) (one : StateRecord) → IsPut plain (record_of fresh) checkpointed one →
      IsWritten old key state_epoch leader_epoch start runs (left_by old key kept fresh checkpointed)
  pub records : (old : Entries) → kept_at old key ≡ Some known → (checkpointed : Bool) (one : StateRecord) →
      IsPut plain (record_of fresh) checkpointed one → IsWriteRecord old key state_epoch leader_epoch start runs one
