-- What a store keeps of its keys beside what their records give them: a start that is raised is written with the next record of its key, or by
-- a checkpoint. This project's own.
-- Worked example: the records of a key give it start 0, with 0 to 2 acknowledged. Raised to 2 it is kept with start 2 and 2 to 2 acknowledged. A
-- crash finds it with start 0, which is, once raised to 2, what was kept; raised to 1 behind that it stays as it is.
use Rattle.std.specs.Prelude.{◌≡◌, ℕ, ℤ, pos, List, [], ◌∷◌, map, true, false, ◌||◌, if◌then◌else◌}
use Rattle.std.specs.List.{AllByRecursion}
use Rattle.std.specs.Option.{IfSome}
use Rattle.std.specs.declared.option.Option.{Option}
use Rattle.std.specs.BTreeMap.{is_at}
use Rattle.share_model.specs.ForeignRules.{size_of}
use Rattle.share_model.specs.Keys.{KeyParts, key_cmp}
use Rattle.share_model.specs.Runs.{IsCanonical}
use Rattle.state_records.specs.States.{IsStart}
use Rattle.share_coord.specs.Parts.{KeptState}
use Rattle.share_coord.specs.Raising.{raised, raised_to, rises, starts_below}
use Rattle.share_coord.specs.Stored.{AreStored, Entries}

-- ---- a start that is raised

abbrev pub raised_kept : ℤ → KeptState → KeptState
raised_kept start kept = record {
  view = raised_to start kept.view;
  snapshot = kept.snapshot;
  updates = kept.updates;
  raised = rises start kept.view || kept.raised;
  tells = rises start kept.view || kept.tells;
}

-- that of one key, where it is there
abbrev pub raised_entries : Entries → KeyParts → ℤ → Entries
raised_entries [] key start = []
raised_entries (e ∷ es) key start =
    if is_at (key_cmp key) e.0 then (e.0, raised_kept start e.1) ∷ es else e ∷ raised_entries es key start

-- those of all keys
abbrev pub raised_all : ℤ → Entries → Entries
raised_all start entries = map (λ e. (e.0, raised_kept start e.1)) entries

-- ---- what is kept, and what is written

-- the state that is kept is the one that the records give; where it was raised, that raised to its start
abbrev pub IsViewOf : KeptState → KeptState → Type 0
IsViewOf written kept = kept.view ≡ (if kept.raised then raised (size_of kept.view.start) written.view else written.view)

pub record IsKeptOf (written kept : KeptState) : Type 0 where
  pub view : IsViewOf written kept
  pub snapshot : written.snapshot ≡ kept.snapshot
  pub updates : written.updates ≡ kept.updates
  pub since : kept.raised ≡ true → IsStart kept.view.start × IsCanonical written.view.runs × (kept.tells ≡ true)

-- the same keys in the same order, of each of which this holds
abbrev pub AreAlike : (KeptState → KeptState → Type 0) → Entries → Entries → Type 0
AreAlike Are [] [] = Unit {0}
AreAlike Are [] (k ∷ ks) = ⊥
AreAlike Are (w ∷ ws) [] = ⊥
AreAlike Are (w ∷ ws) (k ∷ ks) = (w.0 ≡ k.0) × Are w.1 k.1 × AreAlike Are ws ks

abbrev pub AreKeptOf : Entries → Entries → Type 0
AreKeptOf written entries = AreAlike IsKeptOf written entries

-- the contents of the two disks stand for states that are, once raised, those that are kept
pub record AreStatesOf (first second : List ℕ) (entries : Entries) : Type 0 where
  pub written : Entries
  pub stored : AreStored first second written
  pub are : AreAlike IsViewOf written entries

-- of no key the start was raised since a record of it was written
abbrev pub AreUnraised : Entries → Type 0
AreUnraised entries = AllByRecursion (λ e. e.1.raised ≡ false) entries

-- nor of those that a pending write would leave
abbrev pub NeverRaised : Entries → Option Entries → Type 0
NeverRaised entries pending = AreUnraised entries × IfSome pending AreUnraised

-- It doesn't start below this offset, and where its start was raised since a record of it was written, it starts there: as the tables of a
-- partition do where its log starts.
abbrev pub IsLevel : ℕ → KeptState → Type 0
IsLevel start kept = (starts_below kept.view.start start ≡ false) × (kept.raised ≡ true → kept.view.start ≡ pos start)

abbrev pub AreLevel : ℕ → Entries → Type 0
AreLevel start entries = AllByRecursion (λ e. IsLevel start e.1) entries
