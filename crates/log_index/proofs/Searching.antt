-- Batches by offset.
use Rattle.std.proofs.Common.{◌≡◌, inl, inr, ℕ, zero, suc, ◌+◌, ◌<◌, ◌≤◌, max, List, [], ◌∷◌, ◌++◌, length, get_or, refl, ap, arith}
use Rattle.std.specs.Prelude.{Some, nat_lt, true, false}
use Rattle.std.proofs.Common.{rules}
use Rattle.std.specs.List.Sorted.{IsNonDecreasingBy}
use Rattle.share_model.specs.Logs.{Batch, Covers, IsNextSlot, IsSlot, RisesFrom, end_of}
use Rattle.log_index.specs.declared.entry.Entry.{Entry}
use Rattle.log_index.specs.Indexes.{IsEntryAt, covers, log_of}
use Rattle.log_index.specs.Searches.{EndsBelow}

later : (e : ℕ) (xs : List Entry) → RisesFrom e (log_of xs) → (j : ℕ) (d : Entry) → j < length xs → (e ≤ (get_or xs j d).base) × ((get_or xs j d).base ≤ (get_or xs j d).last)
later e [] h j d lt = absurd (omega arith)
later e (x ∷ xs) h zero d lt = (h.0, h.1)
later e (x ∷ xs) h (suc j) d lt = let r = later (x.last + 1) xs h.2 j d (omega arith) in (omega (arith, r.0, h.0, h.1), r.1)

pub lasts_rise : (e : ℕ) (xs : List Entry) → RisesFrom e (log_of xs) → IsNonDecreasingBy (λ (x : Entry). x.last) xs
lasts_rise e [] h i j d le within = absurd (omega arith)
lasts_rise e (x ∷ xs) h zero zero d le within = omega arith
lasts_rise e (x ∷ xs) h zero (suc j) d le within = let r = later (x.last + 1) xs h.2 j d (omega arith) in omega (arith, r.0, r.1)
lasts_rise e (x ∷ xs) h (suc i) zero d le within = absurd (omega arith)
lasts_rise e (x ∷ xs) h (suc i) (suc j) d le within = lasts_rise (x.last + 1) xs h.2 i j d (omega arith) (omega arith)

-- a slot lies behind where the log begins
slot_from : (e : ℕ) (log : List Batch) → RisesFrom e log → (o : ℕ) → IsSlot log o → e ≤ o
slot_from e [] h o s = absurd s
slot_from e (b ∷ log) h o (inl s) = omega (arith, h.0, s.0)
slot_from e (b ∷ log) h o (inr s) = omega (arith, h.0, h.1, slot_from (b.last + 1) log h.2 o s)

-- none below the offset: nothing from it on
pub none_left : (e : ℕ) (xs : List Entry) (o n : ℕ) → EndsBelow xs o n → length xs ≤ n → (p : ℕ) → o ≤ p → IsSlot (log_of xs) p → ⊥
none_left e [] o n h le p at s = s
none_left e (x ∷ xs) o zero h le p at s = omega (arith, le)
none_left e (x ∷ xs) o (suc n) h le p at (inl s) = let r = h.below 0 x (omega arith) in omega (arith, s.1, at, r)
none_left e (x ∷ xs) o (suc n) h le p at (inr s) =
    none_left e xs o n (record { within = omega (arith, h.within); below = λ k d lt. h.below (suc k) d (omega arith); behind = λ k d lo hi. h.behind (suc k) d (omega arith) (omega arith) })
    (omega arith) p at s

tail_of : (x : Entry) (xs : List Entry) (o n : ℕ) → EndsBelow (x ∷ xs) o (suc n) → EndsBelow xs o n
tail_of x xs o n h = record { within = omega (arith, h.within); below = λ k d lt. h.below (suc k) d (omega arith); behind = λ k d lo hi. h.behind (suc k) d (omega arith) (omega arith) }

-- the batch there: what covers an offset from the given one on
pub record There (xs : List Entry) (o n : ℕ) (x : Entry) : Type 0 where
  pub at : IsEntryAt xs n x
  pub slot : (p : ℕ) → Covers (covers x) p → IsSlot (log_of xs) p
  pub least : (p : ℕ) → o ≤ p → IsSlot (log_of xs) p → x.base ≤ p
  pub last : o ≤ x.last
  pub order : x.base ≤ x.last

pub there : (e : ℕ) (xs : List Entry) (o n : ℕ) (d : Entry) → RisesFrom e (log_of xs) → EndsBelow xs o n → n < length xs → There xs o n (get_or xs n d)
there e [] o n d h c lt = absurd (omega arith)
there e (x ∷ xs) o zero d h c lt = record {
  at = ([], xs, refl, refl);
  slot = λ p s. inl s;
  least = λ p le s. ⊎_first p s;
  last = c.behind 0 d (omega arith) (omega arith);
  order = h.1;
}
  where
    ⊎_first : (p : ℕ) → IsSlot (log_of (x ∷ xs)) p → x.base ≤ p
    ⊎_first p (inl s) = s.0
    ⊎_first p (inr s) = omega (arith, h.1, slot_from (x.last + 1) (log_of xs) h.2 p s)
there e (x ∷ xs) o (suc n) d h c lt =
    let r = there (x.last + 1) xs o n d h.2 (tail_of x xs o n c) (omega arith) in
    record {
      at = (x ∷ r.at.0, r.at.1, ap (λ (l : List Entry). x ∷ l) r.at.2, ap suc r.at.3);
      slot = λ p s. inr (r.slot p s);
      least = λ p le s. behind r p le s;
      last = r.last;
      order = r.order;
    }
  where
    behind : There xs o n (get_or xs n d) → (p : ℕ) → o ≤ p → IsSlot (log_of (x ∷ xs)) p → (get_or xs n d).base ≤ p
    behind r p le (inl s) = let q = c.below 0 x (omega arith) in absurd (omega (arith, s.1, le, q))
    behind r p le (inr s) = r.least p le s

pub next_there : (xs : List Entry) (o n : ℕ) (x : Entry) → There xs o n x → IsNextSlot (log_of xs) o (Some (max o x.base))
next_there xs o n x t = (
  t.slot (max o x.base) (omega (arith), omega (arith, t.last, t.order)),
  omega arith,
  λ p le s. omega (arith, le, t.least p le s),
)

-- ---- what a search finds

lt_yes : (m n : ℕ) → nat_lt m n ≡ true → m < n
lt_yes m n e = search rules

lt_no : (m n : ℕ) → nat_lt m n ≡ false → n ≤ m
lt_no m n e = search rules

pub ends_by : (xs : List Entry) (o n : ℕ) → n ≤ length xs → ((k : ℕ) (d : Entry) → 0 ≤ k → k < n → nat_lt (get_or xs k d).last o ≡ true)
    → ((k : ℕ) (d : Entry) → n ≤ k → k < length xs → nat_lt (get_or xs k d).last o ≡ false) → EndsBelow xs o n
ends_by xs o n within pass fail = record {
  within = within;
  below = λ k d lt. lt_yes _ _ (pass k d (omega arith) lt);
  behind = λ k d lo hi. lt_no _ _ (fail k d lo hi);
}

-- ---- one more

pub rises_push : (e : ℕ) (xs : List Entry) (x : Entry) → RisesFrom e (log_of xs) → x.base ≤ x.last → e ≤ x.base → end_of (log_of xs) ≤ x.base
    → RisesFrom e (log_of (xs ++ x ∷ []))
rises_push e [] x h order from behind = (from, order, tt)
rises_push e (y ∷ []) x h order from behind = (h.0, h.1, (behind, order, tt))
rises_push e (y ∷ z ∷ xs) x h order from behind = (h.0, h.1, rises_push (y.last + 1) (z ∷ xs) x h.2 order (omega (arith, behind, last_of z xs (y.last + 1) h.2)) behind)
  where
    last_of : (z : Entry) (xs : List Entry) (e : ℕ) → RisesFrom e (log_of (z ∷ xs)) → e ≤ end_of (log_of (z ∷ xs))
    last_of z [] e h = omega (arith, h.0, h.1)
    last_of z (w ∷ xs) e h = omega (arith, h.0, h.1, last_of w xs (z.last + 1) h.2)
