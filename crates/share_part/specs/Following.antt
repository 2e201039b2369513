-- What follows the acknowledgements of a visit, by what it asks for: nothing, a release of all that the member holds, or a fetch; and what
-- that is answered and leaves of a shard (KIP-932; the pending writes and code 56 are this project's own).
-- A group's table is made at its first fetch, with the log's end or the log's start as its start, and is stored before
-- anything is acquired. A lock ends at the shard's clock plus the lock duration. A release is stored by one write, and
-- there is none where the member holds nothing.
-- The batches of a fetch are read from the log's disk, once the group has its table. Where one can't be read, nothing
-- is acquired, and a table that was made stands. A fetch that takes nothing has no batch to read.
-- Worked example: a log has one batch of three records from 0 to 2, `g` has no table, a new group begins at the log's start, 0, locks last 30000. A fetch
-- of 2 records by `a` at 5000 stores a table with start 0 and no rows, and acquires 0 and 1 with count 1 until 35000. A fetch by `b` at
-- 1000 acquires 2, until 35000 as well. Each is answered with the whole batch. A release of `a` then stores 0 and 1 as available with
-- count 1, and `b` still holds 2. Had the log's disk failed in the fetch of `b`, that would be answered with a device
-- fault and no batch, and 2 would still be available; in that of `a`, the table would be stored all the same. A fetch of
-- `c`, while all three are held, acquires nothing and is done, however that disk does.
use Rattle.std.specs.Prelude.{◌≡◌, ◌≢◌, ◌≤◌, ◌+◌, max, ℕ, List, [], length, Option, Some, None, IsSome, Bool, true, false, unwrap_or}
use Rattle.share_model.specs.ForeignRules.{ShareStates, share_state_at}
use Rattle.share_model.specs.Held.{Held}
use Rattle.part_log.specs.Shards.{log_at}
use Rattle.share_model.specs.ShareStates.{ShareState}
use Rattle.share_model.specs.declared.fault.StoreFault.{StoreFault}
use Rattle.share_model.specs.declared.fault.StoreFault.TheVariants.{Device, Full}
use Rattle.share_model.specs.declared.visit.Visit.{Visit}
use Rattle.share_model.specs.declared.visit.VisitAnswer.{VisitAnswer}
use Rattle.share_model.specs.declared.visit.AckOutcome.TheVariants.{Done as acknowledged}
use Rattle.share_model.specs.declared.visit.Then.{Then}
use Rattle.share_model.specs.declared.visit.Then.TheVariants.{Nothing, Release, Fetch}
use Rattle.share_model.specs.declared.visit.ThenOutcome.{ThenOutcome}
use Rattle.share_model.specs.declared.visit.ThenOutcome.TheVariants.{Done, Store}
use Rattle.share_part.specs.Acknowledging.{HasNoRoom, IsNotStored, NameNone, NameOne, StoresActs}
use Rattle.share_part.specs.Hosting.{PartConfParts, key_of}
use Rattle.share_part.specs.Settling.{Acts, is_chosen, releasing}
use Rattle.share_part.specs.Shards.{PartShardState, IsStill, new_state, with_held, with_new}
use Rattle.share_part.specs.Tables.{Table, table_of, with_holds}
use Rattle.share_part.specs.Walks.{acquired, AreRunsOf, bytes_in}
use Rattle.share_part.specs.declared.limits.Limits.{Limits}
use Rattle.share_part.specs.declared.settle.Whose.TheVariants.{Member}

-- ---- a fetch

-- a fetch is asked for
abbrev pub IsFetch : Then → Type 0
IsFetch Nothing = ⊥
IsFetch Release = ⊥
IsFetch (Fetch records bytes first) = Unit {0}

-- How the batches of a fetch were read: whether the log's disk tells its content, whether its count of faults rose, and
-- whether a batch couldn't be read.
pub record Reading : Type 1 where
  pub told : Bool
  pub rose : Type 0
  pub failed : Bool

-- no record is acquired, and no batch is answered
pub record IsEmptyAnswer (outcome : ThenOutcome) (answer : VisitAnswer) : Type 0 where
  pub outcome_is : answer.then ≡ outcome
  pub grants : answer.grants ≡ []
  pub batches : answer.batches ≡ []

-- What the walk takes is held by the member until the clock's moment plus the lock duration; the answer tells its runs, and has its
-- batches whole, in order. Where the log's disk doesn't tell its content, nothing is known of these bytes but how many
-- there are at most.
pub record Acquires (conf : PartConfParts) (told : Bool) (old : PartShardState) (state : ShareState) (visit : Visit) (limits : Limits)
    (answer : VisitAnswer) (new : PartShardState) : Type 0 where
  pub outcome_is : answer.then ≡ Done
  pub grants : AreRunsOf (acquired old.log.batches (table_of state (old.held visit.group)) limits).taken answer.grants
  pub batches : told ≡ true → answer.batches ≡ bytes_in (acquired old.log.batches (table_of state (old.held visit.group)) limits).batches
  pub size : length answer.batches ≤ length (bytes_in (acquired old.log.batches (table_of state (old.held visit.group)) limits).batches)
  pub held : new.held ≡ with_held old.held visit.group (with_holds visit.member (new.clock + conf.lock_ms)
      (acquired old.log.batches (table_of state (old.held visit.group)) limits).taken (old.held visit.group))

-- a fetch of a group that has a table
pub record FetchesThere (conf : PartConfParts) (told : Bool) (old : PartShardState) (state : ShareState) (visit : Visit) (limits : Limits)
    (answer : VisitAnswer) (new : PartShardState) : Type 0 where
  pub acquires : Acquires conf told old state visit limits answer new
  pub states : new.states ≡ old.states
  pub pending : new.pending ≡ old.pending

-- the first fetch of a group: its table is stored, and then records are acquired
pub record FetchesFirst (conf : PartConfParts) (told : Bool) (old : PartShardState) (visit : Visit) (limits : Limits)
    (answer : VisitAnswer) (new : PartShardState) : Type 0 where
  pub acquires : Acquires conf told old (new_state conf (log_at old.log)) visit limits answer new
  pub states : new.states ≡ with_new conf old visit.group
  pub nothing : new.pending ≡ None

-- the states that the write of the new table would leave
abbrev pub IsMade : PartConfParts → PartShardState → Visit → ShareStates → Type 0
IsMade conf old visit states = states ≡ with_new conf old visit.group

-- a first fetch, by what became of it
abbrev pub MakesTable : PartConfParts → (told : Bool) → (rose : Type 0) → (end : ℕ) → PartShardState → Visit → Limits → VisitAnswer → PartShardState
    → ThenOutcome → Type 0
MakesTable conf told rose end old visit limits answer new Done = FetchesFirst conf told old visit limits answer new
MakesTable conf told rose end old visit limits answer new (Store Device) = rose × IsEmptyAnswer (Store Device) answer × IsNotStored (IsMade conf old visit) old new
MakesTable conf told rose end old visit limits answer new (Store (Full at)) =
    (at ≡ end) × IsEmptyAnswer (Store (Full at)) answer × IsStill old new × HasNoRoom (IsMade conf old visit) end old

abbrev pub Fetches : PartConfParts → (told : Bool) → (rose : Type 0) → (end : ℕ) → PartShardState → Visit → Limits → VisitAnswer → PartShardState
    → Option ShareState → Type 0
Fetches conf told rose end old visit limits answer new (Some state) = FetchesThere conf told old state visit limits answer new
Fetches conf told rose end old visit limits answer new None = MakesTable conf told rose end old visit limits answer new answer.then

-- ---- a release

-- the releases of all that a member holds
abbrev pub releases_of : (member : List ℕ) → Held → Acts
releases_of member held = releasing (is_chosen (Member member)) held

-- the fault that is told, if one is
abbrev pub fault_of : ThenOutcome → Option StoreFault
fault_of Done = None
fault_of (Store fault) = Some fault

-- ---- by what is asked for

-- what follows the acknowledgements, where no batch was asked for that couldn't be read
abbrev pub Does : PartConfParts → (told : Bool) → (rose : Type 0) → (end : ℕ) → PartShardState → Visit → VisitAnswer → PartShardState → Then → Type 0
Does conf told rose end old visit answer new Nothing = IsEmptyAnswer Done answer × IsStill old new
Does conf told rose end old visit answer new Release = IsEmptyAnswer answer.then answer
    × StoresActs conf rose end old visit.group (releases_of visit.member (old.held visit.group)) new (fault_of answer.then)
Does conf told rose end old visit answer new (Fetch records bytes first) =
    Fetches conf told rose end old visit (record { records = records; bytes = bytes; first = first }) answer new
    (share_state_at old.states (key_of conf visit.group))

-- the group has the table that it had, or a new one, which is stored
abbrev pub HasItsTable : PartConfParts → (old : PartShardState) → Visit → (new : PartShardState) → Option ShareState → Type 0
HasItsTable conf old visit new (Some state) = (new.states ≡ old.states) × (new.pending ≡ old.pending)
HasItsTable conf old visit new None = IsMade conf old visit new.states × (new.pending ≡ None)

-- the table that a fetch of a group walks: its own, or a new one
abbrev pub walked_table : PartConfParts → PartShardState → (group : List ℕ) → Table
walked_table conf shard group =
    table_of (unwrap_or (share_state_at shard.states (key_of conf group)) (new_state conf (log_at shard.log))) (shard.held group)

-- a fetch, whose walk takes a batch
abbrev pub TakesBatch : PartConfParts → PartShardState → Visit → Then → Type 0
TakesBatch conf old visit Nothing = ⊥
TakesBatch conf old visit Release = ⊥
TakesBatch conf old visit (Fetch records bytes first) =
    (acquired old.log.batches (walked_table conf old visit.group) (record { records = records; bytes = bytes; first = first })).batches ≢ []

-- a fetch of which a batch couldn't be read: nothing is acquired
pub record IsUnread (conf : PartConfParts) (rose : Type 0) (old : PartShardState) (visit : Visit) (answer : VisitAnswer)
    (new : PartShardState) : Type 0 where
  pub asked : TakesBatch conf old visit visit.then
  pub risen : rose
  pub empty : IsEmptyAnswer (Store Device) answer
  pub table : HasItsTable conf old visit new (share_state_at old.states (key_of conf visit.group))
  pub held : new.held ≡ old.held

-- what follows the acknowledgements, by whether a batch couldn't be read
abbrev pub Follows : PartConfParts → (told : Bool) → (unread rose : Type 0) → (end : ℕ) → PartShardState → Visit
    → VisitAnswer → PartShardState → (failed : Bool) → Type 0
Follows conf told unread rose end old visit answer new true = IsUnread conf unread old visit answer new
Follows conf told unread rose end old visit answer new false = Does conf told rose end old visit answer new visit.then

-- There is nothing to write: nothing is asked for, or a release by a member who holds nothing, or a fetch of a group that has a table.
abbrev pub HasNothingToWrite : PartConfParts → PartShardState → Visit → Then → Type 0
HasNothingToWrite conf old visit Nothing = Unit {0}
HasNothingToWrite conf old visit Release = NameNone (releases_of visit.member (old.held visit.group))
HasNothingToWrite conf old visit (Fetch records bytes first) = IsSome (share_state_at old.states (key_of conf visit.group))

-- What follows the acknowledgements, at the moment `now`. `rose` says that more calls of the two state disks have failed, `end` is
-- where the live journal of the states ends.
pub record StepsThen (conf : PartConfParts) (reading : Reading) (rose : Type 0) (end : ℕ) (old : PartShardState) (now : ℕ)
    (visit : Visit) (answer : VisitAnswer) (new : PartShardState) : Type 0 where
  pub clock : new.clock ≡ max old.clock now
  pub log : new.log ≡ old.log
  pub ack : answer.ack ≡ acknowledged
  pub does : Follows conf reading.told reading.rose rose end old visit answer new reading.failed
