-- What the calls on a store refuse, and what they leave (KIP-932, the share-group state calls; the limit on runs is this
-- project's own).
-- For example a write with leader epoch 3 on a key with 4 is fenced, and told 4.
use Rattle.std.specs.Prelude.{◌≡◌, ◌≤◌, ◌<◌, ◌+◌, ℕ, ℤ, pos, negsuc, max, List, [], length, Some, None, Bool, false, int_lt, nat_lt, ◌||◌, ◌&&◌, not, if◌then◌else◌}
use Rattle.std.specs.List.{list_all}
use Rattle.std.specs.declared.option.Option.{Option}
use Rattle.share_model.specs.Keys.{KeyParts}
use Rattle.share_model.specs.ShareStates.{AreWritten, AreLaid, start_after, is_writable}
use Rattle.share_model.specs.declared.run.Run.{Run}
use Rattle.share_coord.specs.Stored.{Entries, based, based_kept, kept_at, with_kept, without_key, next_snapshot}
use Rattle.share_coord.specs.declared.fault.CoordFault.{CoordFault}
use Rattle.share_coord.specs.declared.fault.CoordFault.TheVariants.{Invalid, Unknown, FencedLeader, FencedState, TooMany, Store, NoMemory}
use Rattle.share_coord.specs.Parts.{KeptState}

-- ---- refusals

-- a greater state epoch is known, and told
abbrev pub fenced_state : KeptState → ℤ → Option CoordFault
fenced_state kept epoch = if int_lt epoch kept.view.state_epoch then Some (FencedState kept.view.state_epoch) else None

-- a greater leader epoch, or else a greater state epoch
abbrev pub fenced : KeptState → ℤ → ℤ → Option CoordFault
fenced kept state_epoch leader_epoch =
    if int_lt leader_epoch kept.view.leader_epoch then Some (FencedLeader kept.view.leader_epoch) else fenced_state kept state_epoch

abbrev pub fenced_init : Option KeptState → ℤ → Option CoordFault
fenced_init None state_epoch = None
fenced_init (Some kept) state_epoch = fenced_state kept state_epoch

abbrev pub fenced_write : Option KeptState → ℤ → ℤ → Option CoordFault
fenced_write None state_epoch leader_epoch = Some Unknown
fenced_write (Some kept) state_epoch leader_epoch = fenced kept state_epoch leader_epoch

-- the first refusal that applies: a number out of range, and then an epoch
abbrev pub init_refusal : Option KeptState → ℤ → ℤ → Option CoordFault
init_refusal known state_epoch start =
    if int_lt state_epoch (pos 0) || int_lt start (negsuc 0) then Some Invalid else fenced_init known state_epoch

-- the same of a write, whose key must be there
abbrev pub write_refusal : Option KeptState → ℤ → ℤ → ℤ → List Run → Option CoordFault
write_refusal known state_epoch leader_epoch start runs =
    if (int_lt state_epoch (pos 0) || int_lt leader_epoch (pos 0)) || (int_lt start (negsuc 0) || not (list_all is_writable runs))
    then Some Invalid else fenced_write known state_epoch leader_epoch

-- ---- what they leave, where no checkpoint was made before, or behind one

abbrev pub initialised : Entries → KeyParts → ℤ → ℤ → Entries
initialised old key state_epoch start = with_kept old key (record {
  view = record { state_epoch = state_epoch; leader_epoch = pos 0; start = start; runs = [] };
  snapshot = next_snapshot (kept_at old key);
  updates = 0;
  raised = false;
  tells = false;
})

-- an initialisation that isn't refused
pub record IsInitialised (old : Entries) (key : KeyParts) (state_epoch start : ℤ) (new : Entries) : Type 0 where
  pub granted : init_refusal (kept_at old key) state_epoch start ≡ None
  pub checkpointed : Bool
  pub is : new ≡ initialised (based checkpointed old) key state_epoch start

-- A write is stored as an update, and as a snapshot where its key has 500 updates since its last one. Where the key's start was raised since it
-- was written, and a write lowers it again, they count as 500: an update would bring back rows that went.
abbrev pub counted : KeptState → ℤ → KeptState
counted kept start = record {
  view = kept.view;
  snapshot = kept.snapshot;
  updates = if kept.raised && int_lt start kept.view.start then 500 else kept.updates;
  raised = kept.raised;
  tells = kept.tells;
}

-- what a write leaves of a key whose updates count so
abbrev pub written_of : KeptState → ℤ → ℤ → ℤ → List Run → KeptState
written_of kept state_epoch leader_epoch start runs = record {
  view = record { state_epoch = state_epoch; leader_epoch = leader_epoch; start = start_after kept.view.start start; runs = runs };
  snapshot = if nat_lt kept.updates 500 then kept.snapshot else kept.snapshot + 1;
  updates = if nat_lt kept.updates 500 then kept.updates + 1 else 0;
  raised = false;
  tells = false;
}

-- A write that isn't refused: both epochs and the start are set, and these runs are laid over the key's.
pub record IsWritten (old : Entries) (key : KeyParts) (state_epoch leader_epoch start : ℤ) (runs : List Run) (new : Entries) : Type 0 where
  pub granted : write_refusal (kept_at old key) state_epoch leader_epoch start runs ≡ None
  pub checkpointed : Bool
  pub kept : KeptState
  pub written : List Run
  pub laid : List Run
  pub known : kept_at old key ≡ Some kept
  pub are_written : AreWritten runs written
  pub are_laid : AreLaid (start_after kept.view.start start) kept.view.runs written laid
  pub few_written : length written ≤ 1000000
  pub few : length laid ≤ 1000000
  pub is : new ≡ with_kept (based checkpointed old) key
      (written_of (based_kept checkpointed (counted kept (start_after kept.view.start start))) state_epoch leader_epoch start laid)

-- The rows written, or those that the key would have, are more than 1000000 runs; this is the greater of both numbers.
pub record IsTooMany (old : Entries) (key : KeyParts) (start : ℤ) (runs : List Run) (count : ℕ) : Type 0 where
  pub kept : KeptState
  pub written : List Run
  pub laid : List Run
  pub known : kept_at old key ≡ Some kept
  pub are_written : AreWritten runs written
  pub are_laid : AreLaid (start_after kept.view.start start) kept.view.runs written laid
  pub count_is : count ≡ max (length written) (length laid)
  pub many : 1000000 < count

-- the key is there, and gone afterwards
abbrev pub IsForgotten : Entries → KeyParts → Entries → Type 0
IsForgotten old key new = ((kept : KeptState) × (kept_at old key ≡ Some kept)) × ((checkpointed : Bool) × (new ≡ without_key (based checkpointed old) key))

-- ---- what a refusal tells

-- `refusal` is what the call refuses by its numbers, `Many` says of a number of runs that it is above the limit
abbrev pub Causes : Option CoordFault → (ℕ → Type 0) → CoordFault → Type 0
Causes refusal Many Invalid = refusal ≡ Some Invalid
Causes refusal Many Unknown = refusal ≡ Some Unknown
Causes refusal Many (FencedLeader known) = refusal ≡ Some (FencedLeader known)
Causes refusal Many (FencedState known) = refusal ≡ Some (FencedState known)
Causes refusal Many (TooMany runs) = (refusal ≡ None) × Many runs
Causes refusal Many (Store fault) = refusal ≡ None
Causes refusal Many NoMemory = refusal ≡ None
