-- Which entries end below an offset, and whether bytes were appended. Private clauses cite this alone.
use Rattle.std.specs.Prelude.{◌≡◌, ◌<◌, ◌≤◌, ℕ, List, length, get_or, Result, MatchResult}
use Rattle.share_model.specs.Rooms.{Appends, Filled}
use Rattle.share_model.specs.declared.fault.BatchRead.{BatchRead}
use Rattle.share_model.specs.declared.fault.BatchRead.TheVariants.{NoMemory}
use Rattle.log_index.specs.declared.entry.Entry.{Entry}

-- so many entries end below the offset, and no others do
pub record EndsBelow (entries : List Entry) (offset count : ℕ) : Type 0 where
  pub within : count ≤ length entries
  pub below : (k : ℕ) (d : Entry) → k < count → (get_or entries k d).last < offset
  pub behind : (k : ℕ) (d : Entry) → count ≤ k → k < length entries → offset ≤ (get_or entries k d).last

-- these bytes were appended, or there was no memory for them and no room
abbrev pub IsAppended : {T : Type 0} → Result T BatchRead → Filled → Filled → List ℕ → Type 0
IsAppended result old new bytes = MatchResult result (λ _. Appends old new bytes)
    (λ e. (e ≡ NoMemory) × (new ≡ old) × (length bytes ≤ old.spare → ⊥))
