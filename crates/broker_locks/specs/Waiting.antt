-- What a fetch that waits does (ShareFetchRequest.json: MaxWaitMs): glances, each at what a partition would give its
-- group or at the clock, up to where it need not wait any longer. A glance at a partition is an entry of its pass, and
-- leaves the partition as it was. This project's own.
-- For example a fetch of partitions 0 to 2 for 60000 ms glances at each, which have nothing, and at the clock. A batch
-- is produced to 2, which wakes it: it glances at 0 and 1, and finds slot 0 at 2 (serve_rows, `a fetch that waits is
-- answered once a batch is there`).
use Rattle.std.specs.Prelude.{◌≡◌, ◌≢◌, ◌⊎◌, ◌≤◌, ◌+◌, ◌++◌, ◌∷◌, [], All, length, ℕ, List, Option, Some, None, Bool, true, Ok, ⊤}
use Rattle.std.specs.List.{Contains}
use Rattle.std.specs.Io.KnownBytes.{IsAtEnd}
use Rattle.edge_io.specs.Serving.{TellsMore}
use Rattle.edge_io.specs.Views.{DiskView}
use Rattle.share_model.specs.declared.offer.Offer.{Offer}
use Rattle.share_model.specs.declared.offer.Offer.TheVariants.{Nothing}
use Rattle.share_calls.specs.declared.wish.WaitWish.{WaitWish}
use Rattle.fetch_wait.specs.declared.wait.WaitEnd.{WaitEnd}
use Rattle.fetch_wait.specs.declared.wait.WaitEnd.TheVariants.{Ready, TimedOut, NoMemory}
use Rattle.shard_lock.specs.Passes.{PassParts}
use Rattle.broker_shards.specs.Acts.{ActsPart}
use Rattle.broker_shards.specs.Hosts.{Host}
use Rattle.broker_shards.specs.declared.part.PartAsk.TheVariants as part_ask
use Rattle.broker_shards.specs.declared.part.PartEvent.{PartEvent}
use Rattle.broker_shards.specs.declared.part.PartTold.TheVariants as part_told
use Rattle.broker_locks.specs.Acting.{ActsPlace}
use Rattle.broker_locks.specs.Shared.{PartAnswer, PassesParts, SharedParts}

-- a look at what a partition would give the group that waits, or an answer of the clock
pub data Glance : Type 0 where
  looks : (shard : ℕ) → Offer → Glance
  asks : ℕ → Glance

-- the answers of the clock among them
abbrev pub asked_in : List Glance → List ℕ
asked_in [] = []
asked_in (looks shard offer ∷ glances) = asked_in glances
asked_in (asks now ∷ glances) = now ∷ asked_in glances

-- it looks at one of these partitions, or at the clock
abbrev pub IsOn : List ℕ → Glance → Type 0
IsOn shards (looks shard offer) = Contains shards shard
IsOn shards (asks now) = ⊤

-- this partition was looked at
abbrev pub HasLooked : List Glance → ℕ → Type 0
HasLooked glances shard = (offer : Offer) × Contains glances (looks shard offer)

-- the last glance found something
abbrev pub HasFound : List Glance → Type 0
HasFound glances = (before : List Glance) × (shard : ℕ) × (offer : Offer)
    × (glances ≡ before ++ looks shard offer ∷ []) × (offer ≢ Nothing)

-- the last answer of the clock is at least so far above an earlier one
abbrev pub HasPassed : ℕ → List ℕ → Type 0
HasPassed wait asked = (before between : List ℕ) × (first last : ℕ)
    × (asked ≡ before ++ first ∷ (between ++ last ∷ [])) × (first + wait ≤ last)

-- a wait: for what, its glances, and whether it ended as the peer had
pub record Waited : Type 0 where
  pub wish : WaitWish
  pub glances : List Glance
  pub gone : Bool

-- so many milliseconds on, a wait looks at its peer
abbrev pub peer_from : ℕ
peer_from = 10

-- its time is over, or its peer has ended, which it looks at behind a hundredth of a second at the soonest
abbrev pub IsOver : Waited → Type 0
IsOver waited = HasPassed waited.wish.wait_ms (asked_in waited.glances)
    ⊎ ((waited.gone ≡ true) × HasPassed peer_from (asked_in waited.glances))

-- It looks at the partitions of its wish alone, and ends where one of them has something; or where it is over, and
-- each was looked at.
pub record IsWait (waited : Waited) : Type 0 where
  pub on : All (IsOn waited.wish.shards) waited.glances
  pub ends : HasFound waited.glances ⊎ (All (HasLooked waited.glances) waited.wish.shards × IsOver waited)

abbrev pub looked_by : List ℕ → PartEvent
looked_by group = record { now = 0; ask = part_ask.Offer group }

-- the peer has ended so long behind a moment; where the link tells its bytes, all of them were read
abbrev pub HasLeft : (left : Option (List ℕ)) → (since now : ℕ) → Bool → Type 0
HasLeft left since now ended = ended ≡ true → (since + peer_from ≤ now) × IsAtEnd left

module _ {D : Type 0} (seen : D → DiskView) (shared : SharedParts D) (group : List ℕ) where
  -- a partition was looked at; one that isn't hosted has nothing
  abbrev pub LooksAt : (shard : ℕ) → Offer → (old new : List (PassParts (Host D) PartEvent PartAnswer)) → Type 0
  LooksAt shard offer old new =
      ActsPlace (ActsPart seen) shared.parts shard (looked_by group) (Ok (part_told.Offer offer)) old new
      ⊎ ((length shared.parts ≤ shard) × (offer ≡ Nothing) × (new ≡ old))

  -- passes of partitions were glanced through, one glance after the other
  abbrev pub GlanceThrough : List Glance → (old new : List (PassParts (Host D) PartEvent PartAnswer)) → Type 0
  GlanceThrough [] old new = new ≡ old
  GlanceThrough (looks shard offer ∷ glances) old new =
      (mid : List (PassParts (Host D) PartEvent PartAnswer)) × LooksAt shard offer old mid × GlanceThrough glances mid new
  GlanceThrough (asks now ∷ glances) old new = GlanceThrough glances old new

  -- and no other pass changed
  pub record Glances (glances : List Glance) (old new : PassesParts D) : Type 0 where
    pub parts : GlanceThrough glances old.parts new.parts
    pub members : new.members ≡ old.members
    pub foreign : new.foreign ≡ old.foreign

  -- these partitions were looked at, up to the first that had something
  pub record LooksThrough (shards : List ℕ) (offer : Offer) (old new : PassesParts D) : Type 0 where
    pub glances : List Glance
    pub on : All (IsOn shards) glances
    pub does : Glances glances old new
    pub unasked : asked_in glances ≡ []
    pub finds : offer ≢ Nothing → HasFound glances
    pub all : offer ≡ Nothing → All (HasLooked glances) shards

module _ {D : Type 0} (seen : D → DiskView) (shared : SharedParts D) (wish : WaitWish) where
  -- these glances were made, and the clock told its answers
  pub record Glanced (glances : List Glance) (old new : PassesParts D) (told later : Option (List ℕ)) : Type 0 where
    pub on : All (IsOn wish.shards) glances
    pub does : Glances seen shared wish.group glances old new
    pub asked : TellsMore told later (asked_in glances)

  -- The wish was waited for. Where that ended as the peer had, and the link tells its bytes, all of them were read.
  pub record WaitsFor (left : Option (List ℕ)) (old new : PassesParts D) (told later : Option (List ℕ)) : Type 0 where
    pub waited : Waited
    pub wished : waited.wish ≡ wish
    pub wait : IsWait waited
    pub does : Glanced waited.glances old new told later
    pub gone : waited.gone ≡ true → IsAtEnd left

  -- no memory was found, behind some glances
  pub record StopsWaiting (old new : PassesParts D) (told later : Option (List ℕ)) : Type 0 where
    pub glances : List Glance
    pub does : Glanced glances old new told later

  -- what ended a wait that began at a moment, by its last glance; None where the peer has ended
  abbrev pub EndsWith : (left : Option (List ℕ)) → (since : ℕ) → Option WaitEnd → List Glance → Type 0
  EndsWith left since (Some (Ready place offer)) glances = HasFound glances
  EndsWith left since (Some (TimedOut now)) glances =
      (since + wish.wait_ms ≤ now) × ((before : List ℕ) × (asked_in glances ≡ before ++ now ∷ []))
  EndsWith left since (Some NoMemory) glances = ⊤
  EndsWith left since None glances =
      (now : ℕ) × HasLeft left since now true × ((before : List ℕ) × (asked_in glances ≡ before ++ now ∷ []))

  -- it was waited from a moment on
  pub record WaitsLong (left : Option (List ℕ)) (since : ℕ) (end : Option WaitEnd) (old new : PassesParts D)
      (told later : Option (List ℕ)) : Type 0 where
    pub glances : List Glance
    pub does : Glanced glances old new told later
    pub ends : EndsWith left since end glances
