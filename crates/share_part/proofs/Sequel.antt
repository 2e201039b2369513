-- Acts one after another, and all at once.
use Rattle.std.proofs.Common.{◌≡◌, ◌∙◌, inl, inr, refl, sym, ap, arith, ℕ, ◌+◌, ◌<◌, List, [], ◌∷◌, Option, Some, None, Bool, true, false, cond}
use Rattle.std.proofs.lemmas.Bool.{cases_lt}
use Rattle.std.proofs.lemmas.Bool.Decides.{nat_tests}
use Rattle.std.specs.Prelude.{filter, is_none, not, nat_eq, nat_le, ◌&&◌, if◌then◌else◌}
use Rattle.std.specs.Option.{option_or}
use Rattle.share_model.specs.Held.{Held, hold_at, without_range}
use Rattle.share_model.specs.declared.ack.AckKind.{AckKind}
use Rattle.share_model.specs.declared.hold.Hold.{Hold}
use Rattle.share_model.specs.declared.row.Row.{Row}
use Rattle.share_part.specs.Settling.{AreRisingFrom, Books, act_on, act_row, acted, acts_on, held_after, said_by}
use Rattle.share_part.proofs.Parting.{both, all_pass, by_piece}
use Rattle.lock_index.proofs.Changes.{without_at}

same_test : (a o : ℕ) → nat_eq o a ≡ (nat_le a o && nat_le o a)
same_test a o = grind (arith, nat_tests)

eq_no : (m n : ℕ) → (m ≡ n → ⊥) → nat_eq m n ≡ false
eq_no m n h = grind (arith, nat_tests)

eq_yes : (m n : ℕ) → m ≡ n → nat_eq m n ≡ true
eq_yes m n h = grind (arith, nat_tests)

-- another offset is held as before
held_other : (a o : ℕ) → (o ≡ a → ⊥) → (held : Held) → hold_at (without_range a a held) o ≡ hold_at held o
held_other a o apart held = without_at a a held o ∙ ap (λ (b : Bool). cond b None (hold_at held o)) (sym (same_test a o) ∙ eq_no o a apart)

unsaid : (low : ℕ) (list : List (ℕ × AckKind)) (o : ℕ) → AreRisingFrom low list → o < low → said_by list o ≡ None
unsaid low [] o h lt = refl
unsaid low (a ∷ list) o h lt =
    ap (λ (b : Bool). if b then Some a.1 else said_by list o) (eq_no o a.0 (λ e. omega (arith, h.0, lt, e)))
    ∙ unsaid (a.0 + 1) list o h.1 (omega (arith, h.0, lt))

pub held_one_by_one : (limit : ℕ) (list : List (ℕ × AckKind)) (books : Books) → (acts_on limit list books).held ≡ held_after (said_by list) books.held
held_one_by_one limit [] books = sym (all_pass (λ e. is_none (said_by [] e.0)) books.held (λ e. refl))
held_one_by_one limit (a ∷ list) books =
    held_one_by_one limit list (act_on limit a books)
    ∙ both (λ e. not (nat_le a.0 e.0 && nat_le e.0 a.0)) (λ e. is_none (said_by list e.0)) books.held
    ∙ ap (λ (f : ℕ × Hold → Bool). filter f books.held) (λ i. λ e.
    (by_piece (nat_le a.0 e.0 && nat_le e.0 a.0) a.1 (said_by list e.0) ∙ ap (λ (b : Bool). is_none (if b then Some a.1 else said_by list e.0)) (sym (same_test a.0 e.0))) i)

pub stored_one_by_one : (limit low : ℕ) (list : List (ℕ × AckKind)) (books : Books) → AreRisingFrom low list → (o : ℕ)
    → (acts_on limit list books).stored o ≡ option_or (acted limit (said_by list) books.held o) (books.stored o)
stored_one_by_one limit low [] books h o = refl
stored_one_by_one limit low (a ∷ list) books h o =
    stored_one_by_one limit (a.0 + 1) list (act_on limit a books) h.1 o ∙ elim (cases_lt o a.0) [
      | inl lt ↦ elsewhere (λ e. omega (arith, lt, e))
      | inr ge ↦ elim (cases_lt a.0 o) [
        | inl past ↦ elsewhere (λ e. omega (arith, past, e))
        | inr le ↦ here (omega (arith, ge, le))
      ]
    ]
  where
    whole : Bool → Option AckKind
    whole b = if b then Some a.1 else said_by list o

    put : Bool → Option Row
    put b = if b then option_or (act_row limit (Some a.1) (hold_at books.held o)) (books.stored o) else books.stored o

    elsewhere : (o ≡ a.0 → ⊥) → option_or (act_row limit (said_by list o) (hold_at (without_range a.0 a.0 books.held) o)) (put (nat_eq o a.0))
        ≡ option_or (act_row limit (whole (nat_eq o a.0)) (hold_at books.held o)) (books.stored o)
    elsewhere apart =
        ap (λ (r : Option Hold). option_or (act_row limit (said_by list o) r) (put (nat_eq o a.0))) (held_other a.0 o apart books.held)
        ∙ ap (λ (b : Bool). option_or (act_row limit (said_by list o) (hold_at books.held o)) (put b)) (eq_no o a.0 apart)
        ∙ sym (ap (λ (b : Bool). option_or (act_row limit (whole b) (hold_at books.held o)) (books.stored o)) (eq_no o a.0 apart))

    here : o ≡ a.0 → option_or (act_row limit (said_by list o) (hold_at (without_range a.0 a.0 books.held) o)) (put (nat_eq o a.0))
        ≡ option_or (act_row limit (whole (nat_eq o a.0)) (hold_at books.held o)) (books.stored o)
    here at =
        ap (λ (k : Option AckKind). option_or (act_row limit k (hold_at (without_range a.0 a.0 books.held) o)) (put (nat_eq o a.0))) (unsaid (a.0 + 1) list o h.1 (omega (arith, at)))
        ∙ ap put (eq_yes o a.0 at)
        ∙ sym (ap (λ (b : Bool). option_or (act_row limit (whole b) (hold_at books.held o)) (books.stored o)) (eq_yes o a.0 at))
