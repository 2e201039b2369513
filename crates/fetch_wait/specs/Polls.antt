-- A poll of a wait: it registers with the places in order and then with the timer; then it looks at the places in order, up to the first
-- that has something; where none has, it asks the clock once. So it has registered with every place before it looks at one. This
-- project's own. Worked example: with two places and the deadline 500, a poll that finds nothing at either and is told 100 is pending,
-- behind `Registers 0`, `Registers 1`, `RegistersTimer 500`, `Looks 0 Nothing`, `Looks 1 Nothing`, `Asks 100`; one that finds slot 7 at
-- place 1 is ready with it, and asks no clock.
use Rattle.std.specs.Prelude.{◌≡◌, ◌≢◌, ◌<◌, ◌≤◌, ◌⊎◌, ℕ, zero, suc, List, [], ◌∷◌, ◌++◌, Option, Some, None}
use Rattle.futures.specs.declared.task.Poll.{Poll}
use Rattle.futures.specs.declared.task.Poll.TheVariants.{Ready as IsReady, Pending}
use Rattle.share_model.specs.declared.offer.Offer.TheVariants.{Nothing}
use Rattle.fetch_wait.specs.declared.watch.WatchCall.{WatchCall}
use Rattle.fetch_wait.specs.declared.watch.WatchCall.TheVariants.{Registers, RegistersTimer, Refuses, RefusesTimer, Looks, Asks}
use Rattle.fetch_wait.specs.declared.wait.WaitEnd.{WaitEnd}
use Rattle.fetch_wait.specs.declared.wait.WaitEnd.TheVariants.{Ready, TimedOut, NoMemory}
use Rattle.fetch_wait.specs.Calls.{Calls}

-- it registers with so many places, from 0 on
abbrev pub registered : ℕ → List WatchCall
registered zero = []
registered (suc n) = registered n ++ Registers n ∷ []

-- it looks at so many places, from 0 on, and finds nothing
abbrev pub nothing_at : ℕ → List WatchCall
nothing_at zero = []
nothing_at (suc n) = nothing_at n ++ Looks n Nothing ∷ []

-- all that a poll registers with
abbrev pub registered_all : (places deadline : ℕ) → List WatchCall
registered_all places deadline = registered places ++ RegistersTimer deadline ∷ []

-- a registration found no memory, and was the last call
abbrev pub AreRefused : (places deadline : ℕ) → List WatchCall → Type 0
AreRefused places deadline calls =
    ((place : ℕ) × (place < places) × (calls ≡ registered place ++ Refuses place ∷ []))
    ⊎ (calls ≡ registered places ++ RefusesTimer deadline ∷ [])

-- what a poll looks at and asks once it has registered, by what it gives
abbrev pub AreLooks : (places deadline : ℕ) → List WatchCall → Poll WaitEnd → Type 0
AreLooks places deadline calls (IsReady (Ready place offer)) =
    (place < places) × (offer ≢ Nothing) × (calls ≡ nothing_at place ++ Looks place offer ∷ [])
AreLooks places deadline calls (IsReady (TimedOut now)) = (deadline ≤ now) × (calls ≡ nothing_at places ++ Asks now ∷ [])
AreLooks places deadline calls (IsReady NoMemory) = ⊥
AreLooks places deadline calls Pending = (now : ℕ) × (now < deadline) × (calls ≡ nothing_at places ++ Asks now ∷ [])

-- the calls of a poll, by what it gives
pub data ArePoll (places deadline : ℕ) (calls : List WatchCall) (result : Poll WaitEnd) : Type 0 where
  Refused : result ≡ IsReady NoMemory → AreRefused places deadline calls → ArePoll places deadline calls result
  Looked : (looks : List WatchCall) → AreLooks places deadline looks result → calls ≡ registered_all places deadline ++ looks → ArePoll places deadline calls result

abbrev pub last_call : List WatchCall → Option WatchCall
last_call [] = None
last_call (call ∷ []) = Some call
last_call (call ∷ other ∷ rest) = last_call (other ∷ rest)

-- what the last call of a poll says of what it gives
abbrev pub EndsBy : (deadline : ℕ) → Option WatchCall → Poll WaitEnd → Type 0
EndsBy deadline (Some (Looks place offer)) result = (result ≡ IsReady (Ready place offer)) × (offer ≢ Nothing)
EndsBy deadline (Some (Asks now)) result = ((now < deadline) × (result ≡ Pending)) ⊎ ((deadline ≤ now) × (result ≡ IsReady (TimedOut now)))
EndsBy deadline (Some (Refuses place)) result = result ≡ IsReady NoMemory
EndsBy deadline (Some (RefusesTimer end)) result = result ≡ IsReady NoMemory
EndsBy deadline (Some (Registers place)) result = ⊥
EndsBy deadline (Some (RegistersTimer end)) result = ⊥
EndsBy deadline None result = ⊥

module _ {W : Type 0} (acts : W → WatchCall → W → Type 0) (told : W → Option (List WatchCall)) (places deadline : ℕ) where
  pub record Polls (old : W) (result : Poll WaitEnd) (new : W) : Type 0 where
    pub calls : List WatchCall
    pub poll : ArePoll places deadline calls result
    pub does : Calls acts told calls old new

  -- polls that were pending, with the watch as each left it
  abbrev pub ArePending : List W → W → W → Type 0
  ArePending [] old new = new ≡ old
  ArePending (mid ∷ mids) old new = Polls old Pending mid × ArePending mids mid new

  -- a wait: polls that were pending, and the one that ended it
  pub record Waits (old : W) (end : WaitEnd) (new : W) : Type 0 where
    pub mids : List W
    pub last : W
    pub pending : ArePending mids old last
    pub ends : Polls last (IsReady end) new
