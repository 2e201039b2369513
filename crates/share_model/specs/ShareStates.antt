-- Share-partition state, as its coordinator keeps it for a group on a partition (KIP-932, the share-group state calls): the
-- epochs, the start offset, and the rows by offset. Rows are told by their canonical runs, of which a look-up has one list.
-- For example a batch from 0 to 2^62 and then one at 5 leave three runs.
use Rattle.std.specs.Prelude.{◌≡◌, ◌^◌, ℕ, ℤ, pos, negsuc, Bool, false, List, [], ◌∷◌, Option, Some, None, nat_lt, nat_le, ◌&&◌, if◌then◌else◌}
use Rattle.std.specs.Option.{option_or}
use Rattle.share_model.specs.Runs.{IsCanonical, row_at, row_of}
use Rattle.share_model.specs.declared.row.Row.{Row}
use Rattle.share_model.specs.declared.run.Run.{Run}

-- the state of one key; the start is an offset, or -1 where none was given
pub record ShareState : Type 0 where
  pub state_epoch : ℤ
  pub leader_epoch : ℤ
  pub start : ℤ
  pub runs : List Run

-- an offset lies below the start, if one is given
abbrev pub is_below : ℕ → ℤ → Bool
is_below offset (pos n) = nat_lt offset n
is_below offset (negsuc n) = false

-- a start of -1 leaves the old one
abbrev pub start_after : ℤ → ℤ → ℤ
start_after old (pos n) = pos n
start_after old (negsuc n) = old

-- what these runs write at an offset: the row of the last of them that covers it
abbrev pub last_row : List Run → ℕ → Option Row
last_row [] offset = None
last_row (run ∷ runs) offset =
    option_or (last_row runs offset) (if nat_le run.first offset && nat_le offset run.last then Some (row_of run) else None)

-- the canonical runs of the rows that these runs write, a later one winning
pub record AreWritten (runs written : List Run) : Type 0 where
  pub canonical : IsCanonical written
  pub rows : (offset : ℕ) → row_at written offset ≡ last_row runs offset

-- the canonical runs of the rows of `under` with those of `over` laid over them; rows below the start go
pub record AreLaid (start : ℤ) (under over laid : List Run) : Type 0 where
  pub canonical : IsCanonical laid
  pub rows : (offset : ℕ) → row_at laid offset ≡ (if is_below offset start then None else option_or (row_at over offset) (row_at under offset))

-- a run that a message can carry: offsets in order that fit an i64, and a count that fits an i16
abbrev pub is_writable : Run → Bool
is_writable run = nat_le run.first run.last && (nat_lt run.last (2 ^ 63) && nat_lt run.count (2 ^ 15))
