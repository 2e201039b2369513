-- The loop of the walk.
use Rattle.std.proofs.Common.{◌≡◌, ◌∙◌, inl, inr, refl, sym, ap, subst, arith, ℕ, zero, suc, ◌+◌, ◌-◌, ◌<◌, ◌≤◌, List, Option, Some, None}
use Rattle.std.specs.Prelude.{IsSome, ◌⊎◌}
use Rattle.share_model.specs.Held.{Held, hold_at}
use Rattle.share_model.specs.Logs.{Batch, IsLog, IsSlot}
use Rattle.share_model.specs.Runs.{row_at}
use Rattle.share_model.specs.declared.hold.Hold.{Hold}
use Rattle.share_model.specs.declared.row.Row.{Row}
use Rattle.share_model.specs.declared.run.Run.{Run}
use Rattle.share_part.specs.Collecting.{AreSlots, Collects, GoesOver, LieAtSlots, after_slots, and_then}
use Rattle.share_part.specs.Slots.{and_more, batch_at, next_slot, slots_from}
use Rattle.share_part.specs.Tables.{Table, delivery_of}
use Rattle.share_part.specs.Walks.{Walk, acquired, after_slot, at_slot as at_one, begun, go_on, walked}
use Rattle.share_part.specs.declared.collector.Collector.{Collector}
use Rattle.share_part.specs.declared.limits.Limits.{Limits}
use Rattle.share_part.proofs.Slotting.{next_is, slots_more, slots_none}

-- so many slots are left to walk
pub record IsWalking (log : List Batch) (table : Table) (limits : Limits) (c : Collector) (left from : ℕ) : Type 0 where
  pub walk : Walk
  pub collects : Collects log c walk
  pub ends : walked log table (slots_from left log from) walk ≡ acquired log table limits

module _ (log : List Batch) (table : Table) (limits : Limits) where
  pub begins : (c : Collector) → Collects log c (begun limits) → IsWalking log table limits c 2000 table.start
  begins c h = record { walk = begun limits; collects = h; ends = refl }

  -- no slot is left to walk
  pub done : (c : Collector) (left from : ℕ) → left ≡ 0 → IsWalking log table limits c left from → Collects log c (acquired log table limits)
  done c left from none w =
      let all : w.walk ≡ acquired log table limits = sym (ap (λ (l : List ℕ). walked log table l w.walk) (ap (λ (n : ℕ). slots_from n log from) none ∙ slots_none log from)) ∙ w.ends in
      subst (Collects log c) all w.collects

  module _ (c : Collector) (left more from : ℕ) (is : left ≡ suc more) (w : IsWalking log table limits c left from) where
    step_is : walked log table (and_more (next_slot log from) (λ slot. slots_from more log (slot + 1))) w.walk ≡ acquired log table limits
    step_is = sym (ap (λ (l : List ℕ). walked log table l w.walk) (slots_more left more log from is)) ∙ w.ends

    -- the log has no further slot
    pub exhausted : next_slot log from ≡ None → Collects log c (acquired log table limits)
    exhausted none =
        let all : w.walk ≡ acquired log table limits = sym (ap (λ (o : Option ℕ). walked log table (and_more o (λ slot. slots_from more log (slot + 1))) w.walk) none) ∙ step_is in
        subst (Collects log c) all w.collects

    at_slot : (slot : ℕ) → next_slot log from ≡ Some slot → go_on w.walk (λ next. walked log table (slots_from more log (slot + 1)) next) (after_slot log table w.walk slot) ≡ acquired log table limits
    at_slot slot some = sym (ap (λ (o : Option ℕ). walked log table (and_more o (λ slot. slots_from more log (slot + 1))) w.walk) some) ∙ step_is

    -- the walk ends at this slot
    pub stopped : (slot : ℕ) → next_slot log from ≡ Some slot → (d : Collector) → GoesOver log table d w.walk slot None → Collects log d (acquired log table limits)
    stopped slot some d goes =
        let all : w.walk ≡ acquired log table limits = sym (ap (go_on w.walk (λ next. walked log table (slots_from more log (slot + 1)) next)) goes.0) ∙ at_slot slot some in
        subst (Collects log d) all goes.1

  -- ---- many slots

  module _ (sound : IsLog log) where
    -- a slot is the next one from itself on
    next_here : (slot : ℕ) → IsSlot log slot → next_slot log slot ≡ Some slot
    next_here slot is = sym (next_is log slot (Some slot) sound (is, omega arith, λ o le there. le))

    -- the slots from an offset on are those from the first of them on
    same_slots : (left from slot : ℕ) → next_slot log from ≡ Some slot → IsSlot log slot → slots_from left log from ≡ slots_from left log slot
    same_slots zero from slot some is = slots_none log from ∙ sym (slots_none log slot)
    same_slots (suc more) from slot some is =
        slots_more (suc more) more log from refl
        ∙ ap (λ (o : Option ℕ). and_more o (λ s. slots_from more log (s + 1))) (some ∙ sym (next_here slot is))
        ∙ sym (slots_more (suc more) more log slot refl)

    over : (n left slot : ℕ) (walk w : Walk) → AreSlots log slot n → n ≤ left → after_slots log table slot n walk ≡ Some w
        → walked log table (slots_from left log slot) walk ≡ walked log table (slots_from (left - n) log (slot + n)) w
    over zero left slot walk w slots le is =
        let same : walk ≡ w = cc in
        let all : left ≡ left - 0 = omega arith in
        let at : slot ≡ slot + 0 = omega arith in
        λ i. walked log table (slots_from (all i) log (at i)) (same i)
    over (suc n) left slot walk w slots le is =
        let first : IsSlot log slot = slots slot (omega arith) (omega arith) in
        let one : left ≡ suc (left - 1) = omega (arith, le) in
        ap (λ (l : List ℕ). walked log table l walk) (slots_more left (left - 1) log slot one
        ∙ ap (λ (o : Option ℕ). and_more o (λ s. slots_from (left - 1) log (s + 1))) (next_here slot first))
        ∙ by_next (after_slot log table walk slot) is
        (λ next e. over n (left - 1) (slot + 1) next w (λ o lo hi. slots o (omega (arith, lo)) (omega (arith, hi))) (omega (arith, le)) e)
      where
        by_next : (o : Option Walk) → and_then o (λ next. after_slots log table (slot + 1) n next) ≡ Some w
            → ((next : Walk) → after_slots log table (slot + 1) n next ≡ Some w
            → walked log table (slots_from (left - 1) log (slot + 1)) next ≡ walked log table (slots_from ((left - 1) - n) log ((slot + 1) + n)) w)
            → go_on walk (λ next. walked log table (slots_from (left - 1) log (slot + 1)) next) o ≡ walked log table (slots_from (left - suc n) log (slot + suc n)) w
        by_next None e rest = absurd (let clash : ⊥ = cc in clash)
        by_next (Some next) e rest =
            let less : (left - 1) - n ≡ left - suc n = omega arith in
            let at : (slot + 1) + n ≡ slot + suc n = omega arith in
            rest next e ∙ (λ i. walked log table (slots_from (less i) log (at i)) w)

    -- it goes on behind so many
    pub went_over : (c d : Collector) (left from slot n : ℕ) (w : IsWalking log table limits c left from) → next_slot log from ≡ Some slot → IsSlot log slot → n ≤ left
        → GoesOver log table d w.walk slot (Some n) → IsWalking log table limits d (left - n) (slot + n)
    went_over c d left from slot n w some is le goes = record {
      walk = goes.0;
      collects = goes.4;
      ends = sym (over n left slot w.walk goes.0 goes.2 le goes.3) ∙ sym (ap (λ (l : List ℕ). walked log table l w.walk) (same_slots left from slot some is)) ∙ w.ends;
    }

-- ---- slots that are passed over

pub passed_over : (log : List Batch) (table : Table) (n slot : ℕ) (walk : Walk) → ((o : ℕ) → slot ≤ o → o < slot + n → delivery_of table o ≡ None)
    → after_slots log table slot n walk ≡ Some walk
passed_over log table zero slot walk none = refl
passed_over log table (suc n) slot walk none =
    ap (λ (o : Option Walk). and_then o (λ next. after_slots log table (slot + 1) n next)) (ap (at_one walk slot (batch_at log slot)) (none slot (omega arith) (omega arith)))
    ∙ passed_over log table n (slot + 1) walk (λ o lo hi. none o (omega (arith, lo)) (omega (arith, hi)))

-- and what is held or stored of them lies at slots
pub lies : (log : List Batch) (rows : List Run) (held : Held) → LieAtSlots log rows held → (o : ℕ) → IsSome (hold_at held o) ⊎ IsSome (row_at rows o) → IsSlot log o
lies log rows held h o (inl some) = by_hold (hold_at held o) refl some
  where
    by_hold : (r : Option Hold) → hold_at held o ≡ r → IsSome r → IsSlot log o
    by_hold None is some = absurd (let clash : ⊥ = cc in clash)
    by_hold (Some hold) is some = h.held_at o hold is
lies log rows held h o (inr some) = by_row (row_at rows o) refl some
  where
    by_row : (r : Option Row) → row_at rows o ≡ r → IsSome r → IsSlot log o
    by_row None is some = absurd (let clash : ⊥ = cc in clash)
    by_row (Some row) is some = h.stored_at o row is

pub goes_past : (log : List Batch) (table : Table) (c : Collector) (walk : Walk) (slot n last : ℕ) → 1 ≤ n → n ≤ (last + 1) - slot
    → ((o : ℕ) → slot ≤ o → o ≤ last → IsSlot log o) → ((o : ℕ) → slot ≤ o → o ≤ last → delivery_of table o ≡ None) → Collects log c walk
    → GoesOver log table c walk slot (Some n)
goes_past log table c walk slot n last some within slots none h = (
  walk,
  some,
  λ o lo hi. slots o lo (omega (arith, hi, within)),
  passed_over log table n slot walk (λ o lo hi. none o lo (omega (arith, hi, within))),
  h,
)
