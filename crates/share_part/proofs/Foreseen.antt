-- The walk over the table that a write will leave, told by the table before it and the rows that change.
use Rattle.std.proofs.Common.{◌≡◌, ◌∙◌, inl, inr, refl, sym, ap, arith, ℕ, pos, zero, suc, ◌+◌, ◌<◌, ◌≤◌, List, ◌++◌, Option, Some, None, Bool, true, false, cond}
use Rattle.std.specs.Prelude.{is_none, nat_lt, unwrap_or}
use Rattle.std.specs.Option.{option_or}
use Rattle.std.proofs.lemmas.Bool.Decides.{nat_tests}
use Rattle.share_model.specs.Held.{Held, hold_at}
use Rattle.share_model.specs.Logs.{Batch, IsLog, IsNextSlot, IsSlot}
use Rattle.share_model.specs.Runs.{row_at}
use Rattle.share_model.specs.declared.ack.AckKind.{AckKind}
use Rattle.share_model.specs.declared.hold.Hold.{Hold}
use Rattle.share_model.specs.declared.row.Row.{Row}
use Rattle.share_model.specs.declared.row.RowState.TheVariants.{Available}
use Rattle.share_model.specs.declared.run.Run.{Run}
use Rattle.share_part.specs.Collecting.{LieAtSlots, left_by}
use Rattle.share_model.specs.ShareStates.{ShareState}
use Rattle.share_part.specs.Foreseeing.{IsLeftBy, start_behind}
use Rattle.share_part.specs.Settling.{Acts, Change, IsChange, IsNextStart, IsSettled, act_row, acted, held_after, stored_after}
use Rattle.share_part.specs.Slots.{and_more, batch_at, next_slot, slots_from}
use Rattle.share_part.specs.Tables.{MayGoOut, Table, delivery_of, unless_held}
use Rattle.share_part.specs.Walks.{Walk, acquired, at_slot, begun, go_on, walked}
use Rattle.share_part.specs.declared.limits.Limits.{Limits}
use Rattle.share_part.proofs.Laying.{hold_left, left_is, row_laid, unlaid_row}
use Rattle.share_part.proofs.Slotting.{next_meets, slots_more, slots_none}
use Rattle.share_part.proofs.Staying.{IsOfAct, of_act, settled_again, settled_count}

-- ---- two tables of which the same goes out

module _ (log : List Batch) (sound : IsLog log) (one other : Table) (start : ℕ) (same : (o : ℕ) → start ≤ o → delivery_of one o ≡ delivery_of other o) where
  walked_same : (n from : ℕ) → start ≤ from → (walk : Walk) → walked log one (slots_from n log from) walk ≡ walked log other (slots_from n log from) walk
  walked_same zero from le walk = ap (λ (l : List ℕ). walked log one l walk) (slots_none log from) ∙ sym (ap (λ (l : List ℕ). walked log other l walk) (slots_none log from))
  walked_same (suc n) from le walk =
      ap (λ (l : List ℕ). walked log one l walk) (slots_more (suc n) n log from refl)
      ∙ by_next (next_slot log from) (next_meets 0 log sound from) (λ slot low next. walked_same n (slot + 1) (omega (arith, low)) next)
      ∙ sym (ap (λ (l : List ℕ). walked log other l walk) (slots_more (suc n) n log from refl))
    where
      by_next : (r : Option ℕ) → IsNextSlot log from r
          → ((slot : ℕ) → start ≤ slot → (next : Walk) → walked log one (slots_from n log (slot + 1)) next ≡ walked log other (slots_from n log (slot + 1)) next)
          → walked log one (and_more r (λ slot. slots_from n log (slot + 1))) walk ≡ walked log other (and_more r (λ slot. slots_from n log (slot + 1))) walk
      by_next None is ih = refl
      by_next (Some slot) is ih =
          let at = is.1 in
          let low : start ≤ slot = omega (arith, le, at) in
          λ i. go_on walk (λ next. ih slot low next i) (at_slot walk slot (batch_at log slot) (same slot low i))

  pub acquired_same : (limits : Limits) → one.start ≡ start → other.start ≡ start → acquired log one limits ≡ acquired log other limits
  acquired_same limits first second =
      ap (λ (n : ℕ). walked log one (slots_from 2000 log n) (begun limits)) first
      ∙ walked_same 2000 start (omega arith) (begun limits)
      ∙ sym (ap (λ (n : ℕ). walked log other (slots_from 2000 log n) (begun limits)) second)

-- ---- the rows that acts change

module _ (limit : ℕ) (acts : Acts) (held : Held) (changed : List Run) (start : ℕ)
    (are : (o : ℕ) → row_at changed o ≡ cond (nat_lt o start) None (acted limit acts held o)) where
  abbrev Acted : ℕ → Option Row
  Acted o = acted limit acts held o

  -- from the start on they are those of the acts
  from_start : (o : ℕ) → start ≤ o → {T : Type 0} → (x : Option T) → cond (nat_lt o start) None x ≡ x
  from_start o le x = ap (λ (b : Bool). cond b None x) (let not : nat_lt o start ≡ false = grind (arith, nat_tests) in not)

  changed_is : (o : ℕ) → start ≤ o → row_at changed o ≡ Acted o
  changed_is o le = are o ∙ from_start o le (Acted o)

  -- nothing is held of an offset that is acted on
  held_by : (a : Option AckKind) (h : Option Hold) → cond (is_none (act_row limit a h)) h None ≡ cond (is_none a) h None
  held_by None h = refl
  held_by (Some kind) None = refl
  held_by (Some kind) (Some hold) = refl

  same_held : (o : ℕ) → start ≤ o → hold_at (left_by changed held) o ≡ hold_at (held_after acts held) o
  same_held o le =
      hold_left (λ o. is_none (row_at changed o)) held o
      ∙ ap (λ (r : Option Row). cond (is_none r) (hold_at held o) None) (changed_is o le)
      ∙ held_by (acts o) (hold_at held o)
      ∙ sym (hold_left (λ o. is_none (acts o)) held o)

  -- the same goes out of the table that they leave
  pub same_goes : (rows next : List Run) → ((o : ℕ) → row_at next o ≡ cond (nat_lt o start) None (option_or (Acted o) (row_at rows o)))
      → (o : ℕ) → start ≤ o → delivery_of (record { start = start; rows = changed ++ rows; held = left_by changed held }) o
      ≡ delivery_of (record { start = start; rows = next; held = held_after acts held }) o
  same_goes rows next left o le =
      let row : row_at (changed ++ rows) o ≡ row_at next o =
      row_laid changed rows o
      ∙ ap (λ (r : Option Row). option_or r (row_at rows o)) (changed_is o le)
      ∙ sym (from_start o le (option_or (Acted o) (row_at rows o)))
      ∙ sym (left o) in
      let hold = same_held o le in
      λ i. unless_held (hold i) (unwrap_or (row i) (record { state = Available; count = 0 }))

  -- ---- what a walk asks of them

  row_acted : (o : ℕ) (row : Row) → row_at changed o ≡ Some row → Acted o ≡ Some row
  row_acted o row is = by_test (nat_lt o start) (sym (are o) ∙ is)
    where
      by_test : (b : Bool) → cond b None (Acted o) ≡ Some row → Acted o ≡ Some row
      by_test true e = absurd (let clash : ⊥ = cc in clash)
      by_test false e = e

  pub changed_go_out : limit ≤ 10 → MayGoOut changed
  changed_go_out few o row is free =
      let act : IsOfAct limit (hold_at held o) row = of_act limit (acts o) (hold_at held o) row (row_acted o row is) in
      let count : act.1.count ≡ row.count = sym (settled_count limit act.0 act.1.count) ∙ ap (λ (r : Row). r.count) act.3 in
      let below : act.1.count < limit = settled_again limit act.0 act.1.count (ap (λ (r : Row). r.state) act.3 ∙ free) in
      omega (arith, count, below, few)

  pub changed_lie : (log : List Batch) (rows : List Run) → LieAtSlots log rows held → LieAtSlots log (changed ++ rows) (left_by changed held)
  changed_lie log rows lie = record {
    held_at = λ o hold is. lie.held_at o hold (was_held o hold (is_none (row_at changed o)) (sym (left_is changed rows held o) ∙ is));
    stored_at = λ o row is. by_row o row (row_at changed o) refl is;
  }
    where
      was_held : (o : ℕ) (hold : Hold) (b : Bool) → cond b (hold_at held o) None ≡ Some hold → hold_at held o ≡ Some hold
      was_held o hold true e = e
      was_held o hold false e = absurd (let clash : ⊥ = cc in clash)

      by_row : (o : ℕ) (row : Row) (r : Option Row) → row_at changed o ≡ r → row_at (changed ++ rows) o ≡ Some row → IsSlot log o
      by_row o row None none is = lie.stored_at o row (sym (unlaid_row changed rows held o none) ∙ is)
      by_row o row (Some its) some is =
          let act : IsOfAct limit (hold_at held o) its = of_act limit (acts o) (hold_at held o) its (row_acted o its some) in
          lie.held_at o act.1 act.2

-- ---- the state that they leave

pub next_once : (log : List Batch) (stored : ℕ → Option Row) (start one other : ℕ) → IsNextStart log stored start one → IsNextStart log stored start other → one ≡ other
next_once log stored start one other (inl a) (inl b) =
    let up : one ≤ other = a.2 other b.1 b.0 in
    let down : other ≤ one = b.2 one a.1 a.0 in
    omega arith
next_once log stored start one other (inl a) (inr b) = absurd (b.1 one a.1 a.0)
next_once log stored start one other (inr a) (inl b) = absurd (a.1 other b.1 b.0)
next_once log stored start one other (inr a) (inr b) = a.0 ∙ sym b.0

pub left_settled : (limit : ℕ) (acts : Acts) (log : List Batch) (table : Table) (change : Change) (next : ShareState) → IsChange limit acts log table change
    → IsSettled limit acts log table next → IsLeftBy limit acts table change next
left_settled limit acts log table change next ch s =
    let same : s.start ≡ start_behind change table.start = next_once log (stored_after limit acts table) table.start s.start (start_behind change table.start) s.start_is ch.settles.start_is in
    record {
      start = s.start_told ∙ ap pos same;
      rows = λ o. s.rows o ∙ ap (λ (n : ℕ). cond (nat_lt o n) None (stored_after limit acts table o)) same;
    }
