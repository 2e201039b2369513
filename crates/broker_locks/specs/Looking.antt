-- What the calls of a watch do that has a thread's passes and clock while it waits. This project's own: a look is one
-- act of the pass of the partition at that place of the wish, at moment 0.
-- For example the look at place 1 of a wish for the shards 2 and 0 is an act on shard 0.
use Rattle.std.specs.Prelude.{◌≡◌, ◌≢◌, ◌⊎◌, ◌≤◌, ◌++◌, ◌∷◌, [], ℕ, List, Option, Some, None, true, ⊤}
use Rattle.std.specs.List.{Contains}
use Rattle.edge_io.specs.Serving.{TellsMore}
use Rattle.edge_io.specs.Views.{DiskView}
use Rattle.share_model.specs.declared.offer.Offer.{Offer}
use Rattle.share_model.specs.declared.offer.Offer.TheVariants.{Nothing}
use Rattle.share_calls.specs.declared.wish.WaitWish.{WaitWish}
use Rattle.fetch_wait.specs.Calls.{AreCalls}
use Rattle.fetch_wait.specs.declared.wait.WaitEnd.{WaitEnd}
use Rattle.fetch_wait.specs.declared.wait.WaitEnd.TheVariants.{Ready, TimedOut, NoMemory}
use Rattle.fetch_wait.specs.declared.watch.WatchCall.{WatchCall}
use Rattle.fetch_wait.specs.declared.watch.WatchCall.TheVariants.{Registers, RegistersTimer, Refuses, RefusesTimer, Looks, Asks}
use Rattle.shard_lock.specs.Passes.{PassParts}
use Rattle.broker_shards.specs.Hosts.{Host}
use Rattle.broker_shards.specs.declared.part.PartEvent.{PartEvent}
use Rattle.broker_locks.specs.Shared.{PartAnswer, SharedParts}
use Rattle.broker_locks.specs.Waiting.{HasLeft, LooksAt}

-- the locks and the wish of a thread that waits, its passes of partitions, and its clock
pub record LookerParts (D C : Type 0) : Type 0 where
  pub shared : SharedParts D
  pub wish : WaitWish
  pub parts : List (PassParts (Host D) PartEvent PartAnswer)
  pub clock : C

module _ {D C : Type 0} where
  -- what no call changes
  abbrev pub SameTask : LookerParts D C → LookerParts D C → Type 0
  SameTask old new = (new.shared ≡ old.shared) × (new.wish ≡ old.wish)

  -- a registration changes nothing of it
  abbrev pub StaysSo : LookerParts D C → LookerParts D C → Type 0
  StaysSo old new = SameTask old new × (new.parts ≡ old.parts) × (new.clock ≡ old.clock)

module _ {D : Type 0} (seen : D → DiskView) where
  -- a look at one of these partitions; elsewhere there is nothing
  abbrev pub LooksBy : SharedParts D → (group : List ℕ) → (shards : List ℕ) → Offer → (old new : List (PassParts (Host D) PartEvent PartAnswer)) → Type 0
  LooksBy shared group shards offer old new =
      ((shard : ℕ) × Contains shards shard × LooksAt seen shared group shard offer old new)
      ⊎ ((offer ≡ Nothing) × (new ≡ old))

module _ {D C : Type 0} (seen : D → DiskView) (told : C → Option (List ℕ)) where
  -- what each call does
  abbrev pub looker_acts : LookerParts D C → WatchCall → LookerParts D C → Type 0
  looker_acts old (Registers place) new = StaysSo old new
  looker_acts old (RegistersTimer deadline) new = StaysSo old new
  looker_acts old (Refuses place) new = StaysSo old new
  looker_acts old (RefusesTimer deadline) new = StaysSo old new
  looker_acts old (Looks place offer) new =
      SameTask old new × (new.clock ≡ old.clock) × LooksBy seen old.shared old.wish.group old.wish.shards offer old.parts new.parts
  looker_acts old (Asks now) new = SameTask old new × (new.parts ≡ old.parts) × TellsMore (told old.clock) (told new.clock) (now ∷ [])

  -- what ended a wait that began at a moment, by the last call; None where the peer has ended
  abbrev pub SleepEnds : (left : Option (List ℕ)) → (since deadline : ℕ) → Option WaitEnd → List WatchCall → Type 0
  SleepEnds left since deadline (Some (Ready place offer)) calls =
      (before : List WatchCall) × (calls ≡ before ++ Looks place offer ∷ []) × (offer ≢ Nothing)
  SleepEnds left since deadline (Some (TimedOut now)) calls =
      (before : List WatchCall) × (calls ≡ before ++ Asks now ∷ []) × (deadline ≤ now)
  SleepEnds left since deadline (Some NoMemory) calls = ⊤
  SleepEnds left since deadline None calls =
      (before : List WatchCall) × (now : ℕ) × (calls ≡ before ++ Asks now ∷ []) × HasLeft left since now true

  -- polls of a wait and looks at its peer, up to one that ends it
  pub record Sleeps (left : Option (List ℕ)) (since deadline : ℕ) (end : Option WaitEnd)
      (old new : LookerParts D C) : Type 0 where
    pub calls : List WatchCall
    pub does : AreCalls looker_acts calls old new
    pub ends : SleepEnds left since deadline end calls
