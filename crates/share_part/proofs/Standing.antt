-- Rows that may stand in a log.
use Rattle.std.proofs.Common.{◌≡◌, ⊎_elim, ◌∙◌, inl, inr, refl, sym, ap, subst, arith, rules, ℕ, zero, suc, ◌+◌, ◌<◌, ◌≤◌, List, [], ◌∷◌, ◌++◌, length, get_or, drop, drop-cons, add-one, Option, Some, None, Bool, true, false, nat_le, ◌&&◌, if◌then◌else◌, ℤ, pos, negsuc, ◌≤ℤ◌, ◌<ℤ◌}
use Rattle.std.proofs.lemmas.Bool.{cases_lt}
use Rattle.std.proofs.lemmas.Int.{ints}
use Rattle.std.proofs.lemmas.Bool.Decides.{nat_tests}
use Rattle.std.specs.List.{Contains}
use Rattle.share_model.specs.Logs.{Batch, Covers, IsAt, IsLog, IsNextSlot, IsSlot}
use Rattle.share_model.specs.Runs.{IsCanonical, row_at, row_of}
use Rattle.share_model.specs.declared.run.Run.{Run}
use Rattle.part_log.specs.Logs.{IsPlaceOf}
use Rattle.share_model.specs.declared.batch_place.BatchPlace.{BatchPlace}
use Rattle.share_part.specs.Hosting.{IsHostedRow}
use Rattle.share_part.specs.Judging.{AllIn, IsBefore, MayBeStored, RowsMayStand, behind, slot_behind}
use Rattle.share_part.specs.Slots.{and_more, next_slot, slots_from}
use Rattle.share_part.proofs.Producing.{front_or, front_in, behind_in, none_in}
use Rattle.share_part.proofs.Slotting.{next_meets}
use Rattle.share_model.specs.ForeignRules.{size_of}

pub behind_more : (n k : ℕ) (log : List Batch) (from : ℕ) → n ≡ suc k → slot_behind n log from ≡ behind (next_slot log from) (λ slot. slot_behind k log (slot + 1))
unfolding slot_behind
behind_more n k log from e = ap (λ (m : ℕ). slot_behind m log from) e

pub behind_none : (log : List Batch) (from : ℕ) → slot_behind 0 log from ≡ next_slot log from
unfolding slot_behind
behind_none log from = refl

-- ---- the first slots are those before the one behind them

module _ (log : List Batch) (is_log : IsLog log) where
  meets : (from : ℕ) (r : Option ℕ) → next_slot log from ≡ r → IsNextSlot log from r
  meets from r is = subst (IsNextSlot log from) is (next_meets 0 log is_log from)

  later : (n from o : ℕ) → o < from → IsBefore o (slot_behind n log from)
  unfolding slot_behind
  later zero from o lt = by_next (next_slot log from) refl
    where
      by_next : (r : Option ℕ) → next_slot log from ≡ r → IsBefore o r
      by_next None is = tt
      by_next (Some slot) is = let le = (meets from (Some slot) is).1 in omega (arith, le, lt)
  later (suc n) from o lt = by_next (next_slot log from) refl (λ slot. later n (slot + 1) o)
    where
      by_next : (r : Option ℕ) → next_slot log from ≡ r → ((slot : ℕ) → o < slot + 1 → IsBefore o (slot_behind n log (slot + 1)))
          → IsBefore o (behind r (λ slot. slot_behind n log (slot + 1)))
      by_next None is ih = tt
      by_next (Some slot) is ih = let le = (meets from (Some slot) is).1 in ih slot (omega (arith, le, lt))

  abbrev IsFirst : ℕ → ℕ → ℕ → Type 0
  IsFirst n from o = (from ≤ o) × IsSlot log o × IsBefore o (slot_behind n log from)

  pub first_is : (n from o : ℕ) → Contains (slots_from n log from) o → IsFirst n from o
  unfolding slots_from slot_behind
  first_is zero from o h = absurd (none_in o h)
  first_is (suc n) from o h = by_next (next_slot log from) refl h (λ slot. first_is n (slot + 1) o) (λ slot. later n (slot + 1) o)
    where
      by_next : (r : Option ℕ) → next_slot log from ≡ r → Contains (and_more r (λ slot. slots_from n log (slot + 1))) o
          → ((slot : ℕ) → Contains (slots_from n log (slot + 1)) o → IsFirst n (slot + 1) o) → ((slot : ℕ) → o < slot + 1 → IsBefore o (slot_behind n log (slot + 1)))
          → (from ≤ o) × IsSlot log o × IsBefore o (behind r (λ slot. slot_behind n log (slot + 1)))
      by_next None is h ih past = absurd (none_in o h)
      by_next (Some slot) is h ih past =
          let m = meets from (Some slot) is in
          let le = m.1 in
          ⊎_elim (λ (e : slot ≡ o). (omega (arith, le, e), subst (IsSlot log) e m.0, past slot (omega (arith, e))))
          (λ c. let r = ih slot c in let from = r.0 in (omega (arith, le, from), r.1, r.2))
          (front_or slot o (slots_from n log (slot + 1)) h)

  pub is_first : (n from o : ℕ) → IsFirst n from o → Contains (slots_from n log from) o
  unfolding slots_from slot_behind
  is_first zero from o h = by_next (next_slot log from) refl h
    where
      by_next : (r : Option ℕ) → next_slot log from ≡ r → (from ≤ o) × IsSlot log o × IsBefore o r → Contains [] o
      by_next None is h = absurd (meets from None is o h.0 h.1)
      by_next (Some slot) is h = let least = (meets from (Some slot) is).2 o h.0 h.1 in let lt = h.2 in absurd (omega (arith, least, lt))
  is_first (suc n) from o h = by_next (next_slot log from) refl h (λ slot. is_first n (slot + 1) o)
    where
      by_next : (r : Option ℕ) → next_slot log from ≡ r → (from ≤ o) × IsSlot log o × IsBefore o (behind r (λ slot. slot_behind n log (slot + 1)))
          → ((slot : ℕ) → IsFirst n (slot + 1) o → Contains (slots_from n log (slot + 1)) o) → Contains (and_more r (λ slot. slots_from n log (slot + 1))) o
      by_next None is h ih = absurd (meets from None is o h.0 h.1)
      by_next (Some slot) is h ih =
          let least = (meets from (Some slot) is).2 o h.0 h.1 in
          ⊎_elim (λ (lt : slot < o). behind_in slot o (slots_from n log (slot + 1)) (ih slot (omega (arith, lt), h.1, h.2)))
          (λ (le : o ≤ slot). front_in slot o (slots_from n log (slot + 1)) (omega (arith, least, le))) (cases_lt slot o)

-- ---- the offsets of a run

slot_in : (log : List Batch) (n : ℕ) (b : Batch) → IsAt log n b → (o : ℕ) → Covers b o → IsSlot log o
slot_in log n b at o c = subst (λ (l : List Batch). IsSlot l o) (sym at.2) (seam at.0)
  where
    seam : (before : List Batch) → IsSlot (before ++ (b ∷ at.1)) o
    seam [] = inl c
    seam (d ∷ before) = inr (seam before)

-- a place covers the offsets up to its last one
pub place_covers : (log : List Batch) (from : ℕ) (place : BatchPlace) → IsPlaceOf log from place → (o : ℕ) → from ≤ o → o ≤ place.last → IsSlot log o
place_covers log from place p o lo hi =
    let base = p.covers.0 in
    let last = p.last in
    slot_in log place.number p.batch p.at o (omega (arith, base, lo), omega (arith, last, hi))

-- the offsets up to here are slots
pub record AreUpTo (log : List Batch) (run : Run) (from : ℕ) : Type 0 where
  pub begun : run.first ≤ from
  pub slots : (o : ℕ) → run.first ≤ o → o < from → IsSlot log o

-- ---- the rows of a run

module _ (log : List Batch) (is_log : IsLog log) (start : ℕ) (behind_all : Option ℕ) (is_behind : behind_all ≡ slot_behind 2000 log start) (run : Run)
    (order : run.first ≤ run.last) where
  abbrev Stands : Type 0
  Stands = AllIn run (λ offset. IsHostedRow log start offset (row_of run))

  pub counts : Stands → MayBeStored (row_of run)
  counts h = let r = h run.first (omega arith) order in record { delivered = r.delivered; again = r.again }

  pub begins : Stands → start ≤ run.first
  begins h = (first_is log is_log 2000 start run.first (h run.first (omega arith) order).slot).0

  pub ends : Stands → IsBefore run.last behind_all
  ends h = subst (IsBefore run.last) (sym is_behind) (first_is log is_log 2000 start run.last (h run.last order (omega arith)).slot).2

  pub slots : Stands → AllIn run (IsSlot log)
  slots h = λ o lo hi. (first_is log is_log 2000 start o (h o lo hi).slot).1

  sooner : (r : Option ℕ) (o last : ℕ) → o ≤ last → IsBefore last r → IsBefore o r
  sooner None o last le h = tt
  sooner (Some slot) o last le h = omega (arith, le, h)

  pub stands : MayBeStored (row_of run) → start ≤ run.first → IsBefore run.last behind_all → AllIn run (IsSlot log) → Stands
  stands may from before all = λ o lo hi. record {
    slot = is_first log is_log 2000 start o (omega (arith, from, lo), all o lo hi, subst (IsBefore o) is_behind (sooner behind_all o run.last hi before));
    delivered = may.delivered;
    again = may.again;
  }

-- ---- the rows of runs

module _ (log : List Batch) (start : ℕ) where
  pub with_run : (run : Run) (runs : List Run) → AllIn run (λ offset. IsHostedRow log start offset (row_of run)) → RowsMayStand log start runs → RowsMayStand log start (run ∷ runs)
  with_run run runs here more offset row is = by_test (nat_le run.first offset) (nat_le offset run.last) refl refl is
    where
      by_test : (a b : Bool) → nat_le run.first offset ≡ a → nat_le offset run.last ≡ b → (if a && b then Some (row_of run) else row_at runs offset) ≡ Some row
          → IsHostedRow log start offset row
      by_test true true lo hi e =
          let same : row_of run ≡ row = cc in
          subst (IsHostedRow log start offset) same (here offset (search rules) (search rules))
      by_test true false lo hi e = more offset row e
      by_test false b lo hi e = more offset row e

  pub none_stand : RowsMayStand log start []
  none_stand offset row is = absurd (let clash : ⊥ = cc in clash)

  pub run_more : (runs : List Run) (i : ℕ) (d : Run) → i < length runs → AllIn (get_or runs i d) (λ offset. IsHostedRow log start offset (row_of (get_or runs i d)))
      → (RowsMayStand log start (drop i runs) → RowsMayStand log start runs) → RowsMayStand log start (drop (i + 1) runs) → RowsMayStand log start runs
  run_more runs i d lt here whole rest =
      let split : drop i runs ≡ get_or runs i d ∷ drop (i + 1) runs = rw (add-one, drop-cons runs i d) in
      whole (subst (RowsMayStand log start) (sym split) (with_run (get_or runs i d) (drop (i + 1) runs) here rest))

  -- in canonical runs each offset of a run has its row
  rises : (run : Run) (runs : List Run) → IsCanonical (run ∷ runs) → (i : ℕ) (d : Run) → i < length runs → run.last < (get_or runs i d).first
  rises run [] c i d lt = absurd (omega arith)
  rises run (next ∷ runs) c zero d lt = c.1.0
  rises run (next ∷ runs) c (suc i) d lt = let past = c.1.0 in let order = c.2.0 in let more = rises next runs c.2 i d (omega (arith, lt)) in omega (arith, past, order, more)

  pub row_there : (runs : List Run) → IsCanonical runs → (i : ℕ) (d : Run) → i < length runs → (o : ℕ) → (get_or runs i d).first ≤ o → o ≤ (get_or runs i d).last
      → row_at runs o ≡ Some (row_of (get_or runs i d))
  row_there [] c i d lt o lo hi = absurd (omega arith)
  row_there (run ∷ runs) c zero d lt o lo hi =
      let yes_lo : nat_le run.first o ≡ true = grind (arith, nat_tests) in
      let yes_hi : nat_le o run.last ≡ true = grind (arith, nat_tests) in
      λ j. (if yes_lo j && yes_hi j then Some (row_of run) else row_at runs o)
  row_there (run ∷ runs) c (suc i) d lt o lo hi =
      let past = rises run runs c i d (omega (arith, lt)) in
      let after : run.last < o = omega (arith, past, lo) in
      let not_hi : nat_le o run.last ≡ false = grind (arith, nat_tests) in
      ap (λ (b : Bool). if nat_le run.first o && b then Some (row_of run) else row_at runs o) not_hi
      ∙ and_false (nat_le run.first o) ∙ row_there runs c.2 i d (omega (arith, lt)) o lo hi
    where
      and_false : (b : Bool) → (if b && false then Some (row_of run) else row_at runs o) ≡ row_at runs o
      and_false true = refl
      and_false false = refl

  pub run_stands : (runs : List Run) → IsCanonical runs → (i : ℕ) (d : Run) → i < length runs → RowsMayStand log start runs
      → AllIn (get_or runs i d) (λ offset. IsHostedRow log start offset (row_of (get_or runs i d)))
  run_stands runs c i d lt h = λ o lo hi. h o (row_of (get_or runs i d)) (row_there runs c i d lt o lo hi)

  pub run_order : (runs : List Run) → IsCanonical runs → (i : ℕ) (d : Run) → i < length runs → (get_or runs i d).first ≤ (get_or runs i d).last
  run_order [] c i d lt = absurd (omega arith)
  run_order (run ∷ runs) c zero d lt = c.0
  run_order (run ∷ runs) c (suc i) d lt = run_order runs c.2 i d (omega (arith, lt))

pub drop_all : (runs : List Run) (i : ℕ) → length runs ≤ i → drop i runs ≡ []
drop_all [] zero le = refl
drop_all [] (suc i) le = refl
drop_all (run ∷ runs) zero le = absurd (omega (arith, le))
drop_all (run ∷ runs) (suc i) le = drop_all runs i (omega (arith, le))

-- ---- a start

pub within_is : (start : ℤ) (n end : ℕ) → pos 0 ≤ℤ start → n ≡ size_of start → n ≤ end → (o : ℕ) × (start ≡ pos o) × (o ≤ end)
within_is (pos k) n end from e le = (k, refl, omega (arith, le, e))
within_is (negsuc k) n end from e le = absurd (omega (arith, ints, from))

pub is_within : (start : ℤ) (n end : ℕ) → n ≡ size_of start → (o : ℕ) × (start ≡ pos o) × (o ≤ end) → n ≤ end
is_within start n end e h = let same : size_of start ≡ h.0 = ap size_of h.1 in let le = h.2 in omega (arith, le, e, same)

pub below_none : (start : ℤ) (end : ℕ) → start <ℤ pos 0 → (o : ℕ) × (start ≡ pos o) × (o ≤ end) → ⊥
below_none start end lt h = let at : pos h.0 <ℤ pos 0 = subst (λ (z : ℤ). z <ℤ pos 0) h.1 lt in omega (arith, ints, at)
