-- The records of a share partition that are acquired (KIP-932, the acquisition lock): who holds each offset, until when, and with
-- which delivery count. Times are in milliseconds.
-- For example of locks at 3 and 7 that end at 31000 and 30999, the one at 7 is due at 30999, and at 31000 the least due is 3.
use Rattle.std.specs.Prelude.{◌≡◌, ◌≤◌, ◌<◌, ℕ, List, Option, Some, None, nat_le, ◌&&◌, not, filter}
use Rattle.std.specs.BTreeMap.{is_at}
use Rattle.std.specs.Map.{lookup}
use Rattle.std.specs.Ordering.{nat_cmp}
use Rattle.share_model.specs.declared.hold.Hold.{Hold}

-- the holds by rising offset
abbrev pub Held : Type 0
Held = List (ℕ × Hold)

-- the hold of an offset, where it is acquired
abbrev pub hold_at : Held → ℕ → Option Hold
hold_at held offset = lookup (is_at (nat_cmp offset)) held

-- the holds but for those of the offsets from `first` to `last`
abbrev pub without_range : ℕ → ℕ → Held → Held
without_range first last held = filter (λ entry. not (nat_le first entry.0 && nat_le entry.0 last)) held

-- the least offset whose lock ends at `now` or before, where there is one
abbrev pub IsLeastDue : Held → ℕ → Option ℕ → Type 0
IsLeastDue held now None = (offset : ℕ) (hold : Hold) → hold_at held offset ≡ Some hold → now < hold.end
IsLeastDue held now (Some least) =
    ((hold : Hold) × (hold_at held least ≡ Some hold) × (hold.end ≤ now))
    × ((offset : ℕ) (hold : Hold) → hold_at held offset ≡ Some hold → hold.end ≤ now → least ≤ offset)
