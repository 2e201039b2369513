-- The slots of a log.
use Rattle.std.proofs.Common.{◌≡◌, inl, inr, refl, ap, subst, ◌∙◌, arith, rules, ℕ, suc, ◌+◌, ◌^◌, ◌<◌, ◌≤◌, max, List, [], ◌∷◌, ◌++◌, Option, Some, None, IfSome, Bool, true, false, nat_le, if◌then◌else◌}
use Rattle.std.proofs.lemmas.Bool.Decides.{nat_tests}
use Rattle.std.specs.List.{AllByRecursion}
use Rattle.share_model.specs.Logs.{Batch, Covers, IsAt, IsLog, IsNextSlot, IsSlot, RisesFrom}
use Rattle.part_log.specs.Batches.{IsStored}
use Rattle.part_log.specs.Logs.{IsStoredLog}
use Rattle.part_log.specs.Starts.{IsNextSlotOf, Log}
use Rattle.part_log.proofs.Frames.{bounds}
use Rattle.share_part.specs.Slots.{covers, next_slot, batch_at, and_more, slots_from}

-- the log of these batches that starts there
abbrev pub starting : List Batch → ℕ → Log
starting batches start = record { batches = batches; start = start }

pub le_yes : (m n : ℕ) → nat_le m n ≡ true → m ≤ n
le_yes m n e = search rules

pub le_no : (m n : ℕ) → nat_le m n ≡ false → n < m
le_no m n e = search rules

slot_from : (e : ℕ) (log : List Batch) → RisesFrom e log → (o : ℕ) → IsSlot log o → e ≤ o
slot_from e [] h o s = absurd s
slot_from e (b ∷ log) h o (inl s) = omega (arith, h.0, s.0)
slot_from e (b ∷ log) h o (inr s) = omega (arith, h.0, h.1, slot_from (b.last + 1) log h.2 o s)

-- ---- the next slot

past : (b : Batch) (log : List Batch) (from : ℕ) → b.last < from → (r : Option ℕ) → IsNextSlot log from r → IsNextSlot (b ∷ log) from r
past b log from lt None h = λ o le s. go o le s
  where
    go : (o : ℕ) → from ≤ o → IsSlot (b ∷ log) o → ⊥
    go o le (inl s) = omega (arith, s.1, lt, le)
    go o le (inr s) = h o le s
past b log from lt (Some r) h = (inr h.0, h.1, λ o le s. go o le s)
  where
    go : (o : ℕ) → from ≤ o → IsSlot (b ∷ log) o → r ≤ o
    go o le (inl s) = absurd (omega (arith, s.1, lt, le))
    go o le (inr s) = h.2 o le s

here : (e : ℕ) (b : Batch) (log : List Batch) → RisesFrom e (b ∷ log) → (from : ℕ) → from ≤ b.last → IsNextSlot (b ∷ log) from (Some (max from b.base))
here e b log h from le =
    let order : b.base ≤ b.last = h.1 in (
      inl (omega arith, omega (arith, le, order)),
      omega arith,
      λ o lo s. go order o lo s,
    )
  where
    go : b.base ≤ b.last → (o : ℕ) → from ≤ o → IsSlot (b ∷ log) o → max from b.base ≤ o
    go order o lo (inl s) = omega (arith, lo, s.0)
    go order o lo (inr s) = omega (arith, lo, order, slot_from (b.last + 1) log h.2 o s)

pub next_meets : (e : ℕ) (log : List Batch) → RisesFrom e log → (from : ℕ) → IsNextSlot log from (next_slot log from)
next_meets e [] h from = λ o le s. s
next_meets e (b ∷ log) h from = by_last (next_meets (b.last + 1) log h.2 from) (nat_le from b.last) refl
  where
    by_last : IsNextSlot log from (next_slot log from) → (t : Bool) → nat_le from b.last ≡ t → IsNextSlot (b ∷ log) from (if t then Some (max from b.base) else next_slot log from)
    by_last ih true is = here e b log h from (le_yes from b.last is)
    by_last ih false is = past b log from (le_no from b.last is) (next_slot log from) ih

one_next : (log : List Batch) (from : ℕ) (r s : Option ℕ) → IsNextSlot log from r → IsNextSlot log from s → r ≡ s
one_next log from None None h k = refl
one_next log from None (Some s) h k = absurd (h s k.1 k.0)
one_next log from (Some r) None h k = absurd (k r h.1 h.0)
one_next log from (Some r) (Some s) h k =
    let up : r ≤ s = h.2 s k.1 k.0 in
    let down : s ≤ r = k.2 r h.1 h.0 in
    let same : r ≡ s = omega arith in
    ap (λ (n : ℕ). Some n) same

pub next_is : (log : List Batch) (from : ℕ) (r : Option ℕ) → IsLog log → IsNextSlot log from r → r ≡ next_slot log from
next_is log from r h is = one_next log from r (next_slot log from) is (next_meets 0 log h from)

-- a slot lies below 2^62
pub slot_below : (log : List Batch) (o : ℕ) → AllByRecursion IsStored log → IsSlot log o → o < 2 ^ 62
slot_below [] o h s = absurd s
slot_below (b ∷ log) o h (inl s) = let below = (bounds b h.0).below in omega (arith, s.1, below)
slot_below (b ∷ log) o h (inr s) = slot_below log o h.1 s

-- ---- the batch of a slot

pub covers_yes : (b : Batch) (o : ℕ) → b.base ≤ o → o ≤ b.last → covers b o ≡ true
covers_yes b o lo hi = grind (arith, nat_tests)

covers_no : (b : Batch) (o : ℕ) → b.last < o → covers b o ≡ false
covers_no b o lt = grind (arith, nat_tests)

seam : (e : ℕ) (before : List Batch) (b : Batch) (behind : List Batch) → RisesFrom e (before ++ (b ∷ behind)) → e ≤ b.base
seam e [] b behind h = h.0
seam e (c ∷ before) b behind h = omega (arith, h.0, h.1, seam (c.last + 1) before b behind h.2)

batch_there : (e : ℕ) (before : List Batch) (b : Batch) (behind : List Batch) → RisesFrom e (before ++ (b ∷ behind)) → (o : ℕ) → Covers b o
    → batch_at (before ++ (b ∷ behind)) o ≡ Some b
batch_there e [] b behind h o c = ap (λ (t : Bool). if t then Some b else batch_at behind o) (covers_yes b o c.0 c.1)
batch_there e (d ∷ before) b behind h o c =
    let lt : d.last < o = omega (arith, c.0, seam (d.last + 1) before b behind h.2) in
    ap (λ (t : Bool). if t then Some d else batch_at (before ++ (b ∷ behind)) o) (covers_no d o lt) ∙ batch_there (d.last + 1) before b behind h.2 o c

pub batch_is : (log : List Batch) (n : ℕ) (b : Batch) → IsLog log → IsAt log n b → (o : ℕ) → Covers b o → batch_at log o ≡ Some b
batch_is log n b h at o c =
    ap (λ (l : List Batch). batch_at l o) at.2 ∙ batch_there 0 at.0 b at.1 (subst IsLog at.2 h) o c

-- ---- slots in order

pub slots_more : (n k : ℕ) (log : List Batch) (from : ℕ) → n ≡ suc k → slots_from n log from ≡ and_more (next_slot log from) (λ slot. slots_from k log (slot + 1))
unfolding slots_from
slots_more n k log from e = ap (λ (m : ℕ). slots_from m log from) e

pub slots_none : (log : List Batch) (from : ℕ) → slots_from 0 log from ≡ []
unfolding slots_from
slots_none log from = refl

pub next_small : (log : List Batch) (from : ℕ) (r : Option ℕ) → IsStoredLog log → IsNextSlot log from r → IfSome r (λ slot. IsSlot log slot × (slot < 2 ^ 62))
next_small log from None h is = tt
next_small log from (Some slot) h is = (is.0, slot_below log slot h.stored is.0)

-- what a log with a start answers
pub next_later : (log : Log) (from : ℕ) (r : Option ℕ) → IsNextSlotOf log from r → IfSome r (λ slot. from ≤ slot)
next_later log from None h = tt
next_later log from (Some slot) h = h.1
