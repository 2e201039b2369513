-- The slots of a log in order, and the batch of each (Apache Kafka documentation, "Record Batch": a batch covers the offsets from its
-- base offset to base offset plus last offset delta).
-- For example a log of batches from 0 to 1 and from 5 to 6 has the slots 0, 1, 5 and 6; from 1 on the first two are 1 and 5.
use Rattle.std.specs.Prelude.{ℕ, zero, suc, ◌+◌, max, List, [], ◌∷◌, Option, Some, None, nat_le, ◌&&◌, Bool, if◌then◌else◌}
use Rattle.share_model.specs.Logs.{Batch}

-- the batch covers the offset
abbrev pub covers : Batch → ℕ → Bool
covers b offset = nat_le b.base offset && nat_le offset b.last

-- the least slot from an offset on, where there is one
abbrev pub next_slot : List Batch → ℕ → Option ℕ
next_slot [] from = None
next_slot (b ∷ log) from = if nat_le from b.last then Some (max from b.base) else next_slot log from

-- the batch of a slot
abbrev pub batch_at : List Batch → ℕ → Option Batch
batch_at [] offset = None
batch_at (b ∷ log) offset = if covers b offset then Some b else batch_at log offset

abbrev pub and_more : Option ℕ → (ℕ → List ℕ) → List ℕ
and_more None more = []
and_more (Some slot) more = slot ∷ more slot

-- so many slots, the first ones from an offset on; fewer where the log has no more
unfoldable pub slots_from : ℕ → List Batch → ℕ → List ℕ
slots_from zero log from = []
slots_from (suc n) log from = and_more (next_slot log from) (λ slot. slots_from n log (slot + 1))
