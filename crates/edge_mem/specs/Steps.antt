-- The steps that a disk in memory keeps, as what happened.
use Rattle.std.specs.Prelude.{◌≡◌, ◌⊎◌, ℕ, Bool, true, false, List, [], ◌∷◌, ◌++◌, length, drop}
use Rattle.edge_mem.specs.Events.{Event, Wrote, CutTo, Kept, Lost}
use Rattle.edge_mem.specs.declared.change.Change.{Change}
use Rattle.edge_mem.specs.declared.change.Change.TheVariants.{Write, Cut, Loss}
use Rattle.edge_mem.specs.declared.change.Step.{Step}

abbrev pub event_of : Change → Event
event_of (Write place bytes) = Wrote place bytes.items
event_of (Cut to) = CutTo to
event_of (Loss choice) = Lost choice

abbrev pub with_sync : Bool → List Event → List Event
with_sync true es = Kept ∷ es
with_sync false es = es

-- the changes and the syncs
abbrev pub events : List Step → List Event
events [] = []
events (s ∷ steps) = event_of s.change ∷ with_sync s.synced (events steps)

-- the changes alone
abbrev pub changes : List Step → List Event
changes [] = []
changes (s ∷ steps) = event_of s.change ∷ changes steps

-- a step joins the steps, without a sync
pub record Joins (old : List Step) (e : Event) (new : List Step) : Type 0 where
  pub step : Step
  pub is : event_of step.change ≡ e
  pub not_synced : step.synced ≡ false
  pub pushed : new ≡ old ++ step ∷ []

-- nothing changed since a sync
abbrev pub EndsKept : List Event → Type 0
EndsKept es = (es ≡ []) ⊎ ((front : List Event) × (es ≡ front ++ Kept ∷ []))

-- a sync was noted, where there wasn't one
pub record Marked (old new : List Step) : Type 0 where
  pub same : (n : ℕ) → changes (drop n new) ≡ changes (drop n old)
  pub len : length new ≡ length old
  pub noted : (events new ≡ events old ++ Kept ∷ []) ⊎ ((events new ≡ events old) × EndsKept (events old))
