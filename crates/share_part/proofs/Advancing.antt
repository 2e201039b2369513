-- Where a table's start goes.
use Rattle.std.proofs.Common.{◌≡◌, ◌∙◌, inl, inr, sym, ap, subst, arith, ℕ, zero, suc, ◌+◌, ◌<◌, ◌≤◌, List, [], ◌∷◌, length, get_or, drop, Option, Some, None, IfSome, Bool, true, false, cond}
use Rattle.std.proofs.lemmas.Bool.{cases_lt}
use Rattle.std.proofs.lemmas.Bool.Decides.{nat_tests}
use Rattle.std.specs.Prelude.{nat_le, ◌^◌, if◌then◌else◌}
use Rattle.offset_runs.specs.Parts.{end_count, from_on, run_from}
use Rattle.offset_runs.proofs.Cuts.{no_lt, from_on-row_at, from_on-canonical}
use Rattle.offset_runs.proofs.Places.{end_count-place, end_count-none}
use Rattle.share_model.proofs.Lookups.{row_at-here, row_at-first}
use Rattle.share_model.specs.Logs.{Batch, IsNextSlot, IsSlot, end_of}
use Rattle.share_model.specs.Runs.{IsCanonical, row_at, row_of}
use Rattle.share_model.specs.declared.row.Row.{Row}
use Rattle.share_model.specs.declared.run.Run.{Run}
use Rattle.part_log.specs.Logs.{IsStoredLog}
use Rattle.share_part.specs.Settling.{IsNextStart, IsOpen, is_closed}
use Rattle.share_part.proofs.Slotting.{next_small}

-- ---- the run of an offset

yes_le : (m n : ℕ) → m ≤ n → nat_le m n ≡ true
yes_le m n h = grind (arith, nat_tests)

no_le : (m n : ℕ) → n < m → nat_le m n ≡ false
no_le m n h = grind (arith, nat_tests)

uncut : (xs : List Run) (o other : ℕ) → IsCanonical xs → o ≤ other → row_at xs other ≡ row_at (from_on xs o) other
uncut xs o other canonical le = sym (from_on-row_at xs o other canonical ∙ ap (λ (b : Bool). cond b None (row_at xs other)) (no_lt other o le))

pub in_order : (xs : List Run) (n : ℕ) (d : Run) → IsCanonical xs → n < length xs → (get_or xs n d).first ≤ (get_or xs n d).last
in_order [] n d canonical within = absurd (omega arith)
in_order (x ∷ xs) zero d canonical within = canonical.0
in_order (x ∷ xs) (suc n) d canonical within = in_order xs n d canonical.2 (omega arith)

pub ends_from : (xs : List Run) (o n : ℕ) (d : Run) → end_count xs o ≡ n → n < length xs → o ≤ (get_or xs n d).last
ends_from xs o n d count within = (end_count-place xs o n d count within).ends

pub row_from : (xs : List Run) (o n : ℕ) (d : Run) → IsCanonical xs → end_count xs o ≡ n → n < length xs → (other : ℕ) → o ≤ other → other ≤ (get_or xs n d).last
    → row_at xs other ≡ (if nat_le (get_or xs n d).first other then Some (row_of (get_or xs n d)) else None)
row_from xs o n d canonical count within other from upto =
    let first = end_count-place xs o n d count within in
    let run : Run = get_or xs n d in
    let there : row_at xs other ≡ row_at (run_from (get_or xs n d) o ∷ drop (suc n) xs) other = uncut xs o other canonical from ∙ ap (λ (l : List Run). row_at l other) first.parts in
    elim (cases_lt other (get_or xs n d).first) [
      | inl below ↦ there
          ∙ row_at-first (run_from (get_or xs n d) o) (drop (suc n) xs) other (subst IsCanonical first.parts (from_on-canonical xs o canonical)) (omega arith)
          ∙ ap (λ (b : Bool). if b then Some (row_of (get_or xs n d)) else None) (sym (no_le (get_or xs n d).first other below))
      | inr begins ↦ there ∙ row_at-here (run_from (get_or xs n d) o) (drop (suc n) xs) other (omega arith) upto
          ∙ ap (λ (b : Bool). if b then Some (row_of (get_or xs n d)) else None) (sym (yes_le (get_or xs n d).first other begins))
    ]

pub none_from : (xs : List Run) (o : ℕ) → IsCanonical xs → end_count xs o ≡ length xs → (other : ℕ) → o ≤ other → row_at xs other ≡ None
none_from xs o canonical count other from = uncut xs o other canonical from ∙ ap (λ (l : List Run). row_at l other) (end_count-none xs o count)

-- ---- slots that are passed

pub next_below : (log : List Batch) (from : ℕ) (r : Option ℕ) → IsStoredLog log → IsNextSlot log from r → IfSome r (λ slot. slot < 2 ^ 62)
next_below log from None h is = tt
next_below log from (Some slot) h is = (next_small log from (Some slot) h is).1

-- where a start goes is no lower than what it was no lower than
pub start_above : (log : List Batch) (stored : ℕ → Option Row) (start next low : ℕ) → IsNextStart log stored start next → low ≤ start → start ≤ end_of log → low ≤ next
start_above log stored start next low (inl is) le within = let later = is.1 in omega (arith, le, later)
start_above log stored start next low (inr is) le within = let at = is.0 in omega (arith, le, within, at)

-- each slot from the start on and below this offset is closed
pub record IsPassed (log : List Batch) (stored : ℕ → Option Row) (start from : ℕ) : Type 0 where
  pub later : start ≤ from
  pub closed : (o : ℕ) → start ≤ o → o < from → IsSlot log o → is_closed (stored o) ≡ true

module _ (log : List Batch) (stored : ℕ → Option Row) (start from : ℕ) (h : IsPassed log stored start from) where
  -- a slot that is open is none that was passed
  not_passed : (o : ℕ) → start ≤ o → IsOpen log stored o → from ≤ o
  not_passed o le is = elim (cases_lt o from) [
    | inl lt ↦ absurd (let shut = h.closed o le lt is.slot in let not = is.open_is in let clash : ⊥ = cc in clash)
    | inr ge ↦ ge
  ]

  pub passed_more : (slot last next : ℕ) → IsNextSlot log from (Some slot) → slot ≤ last → ((o : ℕ) → slot ≤ o → o ≤ last → is_closed (stored o) ≡ true)
      → slot ≤ next → next ≤ last + 1 → IsPassed log stored start next
  passed_more slot last next is le shut low high =
      let later = h.later in
      let from_slot : from ≤ slot = is.1 in record {
        later = omega (arith, later, from_slot, low);
        closed = λ o begins lt there. elim (cases_lt o from) [
          | inl before ↦ h.closed o begins before there
          | inr behind ↦ shut o (is.2 o behind there) (omega (arith, lt, high))
        ];
      }

  pub stopped_at : (slot : ℕ) → IsNextSlot log from (Some slot) → is_closed (stored slot) ≡ false → IsNextStart log stored start slot
  stopped_at slot is not =
      let later = h.later in
      let from_slot : from ≤ slot = is.1 in
      inl (record { slot = is.0; open_is = not }, omega (arith, later, from_slot), λ o le there. is.2 o (not_passed o le there) there.slot)

  pub passed_all : (end : ℕ) → IsNextSlot log from None → end ≡ end_of log → IsNextStart log stored start end
  passed_all end is at = inr (at, λ o le there. is o (not_passed o le there) there.slot)
