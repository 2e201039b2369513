-- What is in memory of the keys, as what is kept of them: without how much memory there is. This project's own.
-- For example a key with rows of one run, which has memory for 6000, is kept as one with memory for that run alone.
use Rattle.std.specs.Prelude.{◌≤◌, ℕ, List, map, Option}
use Rattle.std.specs.List.{AllByRecursion}
use Rattle.std.specs.Option.{option_copied, option_map}
use Rattle.share_model.specs.Keys.{KeyParts}
use Rattle.share_coord.specs.Parts.{KeptState}
use Rattle.share_coord.specs.declared.view.Kept.{Kept}
use denote.Ref.{Bor}

abbrev pub shown : Kept → KeptState
shown kept = record {
  view = kept.view.state;
  snapshot = kept.snapshot;
  updates = kept.updates;
  raised = kept.raised;
  tells = kept.tells;
}

abbrev pub entries_in : List (KeyParts × Kept) → List (KeyParts × KeptState)
entries_in entries = map (λ e. (e.0, shown e.1)) entries

-- the rows of each key have memory for so many runs
abbrev pub AreRoomy : ℕ → List (KeyParts × Kept) → Type 0
AreRoomy room entries = AllByRecursion (λ e. room ≤ e.1.view.room) entries

-- a table as it is seen: what is kept of its keys, and for how many runs the rows of each have memory
pub record TableParts : Type 0 where
  pub entries : List (KeyParts × KeptState)
  pub room : ℕ

-- what was found of a key, if it is there
abbrev pub found : Option (Bor Kept) → Option KeptState
found kept = option_map shown (option_copied kept)

-- what a `(&Key, &Kept)` points to
abbrev pub shown_pair : Bor KeyParts × Bor Kept → KeyParts × KeptState
shown_pair p = (p.0.now, shown p.1.now)
