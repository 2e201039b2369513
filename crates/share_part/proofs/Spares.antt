-- The spare number of a store that has room.
use Rattle.std.proofs.Common.{◌≡◌, ap, arith, ℕ, Bool, true, ◌≤◌, ◌<◌, ◌^◌, ◌-◌}
use Rattle.std.specs.Prelude.{nat_le, if◌then◌else◌}
use Rattle.std.proofs.lemmas.Bool.Decides.{nat_tests}
use Rattle.share_coord.specs.Parts.{StoreParts}
use Rattle.share_part.specs.Shards.{PartParts, spare_in}

spare_full : (room : ℕ) → 6000 ≤ room → spare_in room ≡ 2 ^ 32 - 1
spare_full room enough =
    let test : nat_le 6000 room ≡ true = grind (arith, nat_tests) in
    ap (λ (t : Bool). if t then 2 ^ 32 - 1 else 0) test

pub spare_enough : (room n : ℕ) → 6000 ≤ room → n < 2 ^ 32 → n ≤ spare_in room
spare_enough room n enough few = let full = spare_full room enough in omega (arith, full, few)

pub spare_stays : (old new : ℕ) → 6000 ≤ old → old ≤ new → spare_in old ≤ spare_in new
spare_stays old new enough kept =
    let before = spare_full old enough in
    let after = spare_full new (omega (arith, enough, kept)) in
    omega (arith, before, after)

-- a shard with another store
abbrev pub with_states : {D W : Type 0} → PartParts D W → StoreParts D → PartParts D W
with_states parts states = record { conf = parts.conf; log = parts.log; states = states; windows = parts.windows; clock = parts.clock }
