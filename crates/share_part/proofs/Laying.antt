-- Rows that are laid over what is held and stored: what is read of an offset then.
use Rattle.std.proofs.Common.{◌≡◌, ◌⊎◌, ◌∙◌, inl, inr, refl, sym, ap, subst, arith, ℕ, ◌<◌, ◌≤◌, List, [], ◌∷◌, ◌++◌, Option, Some, None, Bool, true, false, cond}
use Rattle.std.specs.Prelude.{filter, is_none, IsSome, IfSome, nat_le, ◌&&◌, unwrap_or}
use Rattle.std.specs.Option.{option_or}
use Rattle.std.specs.BTreeMap.{is_at}
use Rattle.std.specs.Ordering.{nat_cmp}
use Rattle.std.specs.Cmp.{nat_cmp_total}
use Rattle.std.proofs.lemmas.Map.Lookups.{exact_unsigned}
use Rattle.std.proofs.lemmas.Bool.Decides.{nat_tests}
use Rattle.share_model.specs.Held.{Held, hold_at}
use Rattle.share_model.specs.Runs.{row_at, row_of}
use Rattle.share_model.specs.declared.hold.Hold.{Hold}
use Rattle.share_model.specs.declared.row.Row.{Row}
use Rattle.share_model.specs.declared.row.RowState.TheVariants.{Available}
use Rattle.share_model.specs.declared.run.Run.{Run}
use Rattle.share_part.specs.Collecting.{IsStretch, left_by}
use Rattle.share_part.proofs.Mapping.{at_is}
use Rattle.share_part.proofs.Parting.{all_pass}
use Rattle.share_part.specs.Tables.{MayGoOut, Table, delivery_of, one_more, unless_held}

-- the row of an offset is that of the first list, and else that of the second
pub row_laid : (xs ys : List Run) (o : ℕ) → row_at (xs ++ ys) o ≡ option_or (row_at xs o) (row_at ys o)
row_laid [] ys o = refl
row_laid (run ∷ xs) ys o = by_test (nat_le run.first o && nat_le o run.last) (row_laid xs ys o)
  where
    by_test : (b : Bool) → row_at (xs ++ ys) o ≡ option_or (row_at xs o) (row_at ys o)
        → cond b (Some (row_of run)) (row_at (xs ++ ys) o) ≡ option_or (cond b (Some (row_of run)) (row_at xs o)) (row_at ys o)
    by_test true ih = refl
    by_test false ih = ih

-- what is held of an offset once others go
pub hold_left : (q : ℕ → Bool) (held : Held) (o : ℕ) → hold_at (filter (λ e. q e.0) held) o ≡ cond (q o) (hold_at held o) None
hold_left q [] o = by_test (q o)
  where
    by_test : (b : Bool) → ◌≡◌ {A = Option Hold} None (cond b None None)
    by_test true = refl
    by_test false = refl
hold_left q (e ∷ held) o = by_tests (q e.0) refl (is_at (nat_cmp o) e.0) refl (hold_left q held o)
  where
    kept : (b : Bool) → q o ≡ b → b ≡ true → Some e.1 ≡ cond (q o) (Some e.1) None
    kept b is all = sym (ap (λ (t : Bool). cond t (Some e.1) None) (is ∙ all))

    by_no : (x y : Option Hold) (b : Bool) → b ≡ false → cond b x None ≡ cond b y None
    by_no x y true gone = absurd (let clash : ⊥ = cc in clash)
    by_no x y false gone = refl

    by_tests : (p : Bool) → q e.0 ≡ p → (t : Bool) → is_at (nat_cmp o) e.0 ≡ t → hold_at (filter (λ x. q x.0) held) o ≡ cond (q o) (hold_at held o) None
        → hold_at (cond p (e ∷ filter (λ x. q x.0) held) (filter (λ x. q x.0) held)) o ≡ cond (q o) (cond t (Some e.1) (hold_at held o)) None
    by_tests true p true t ih = ap (λ (b : Bool). cond b (Some e.1) (hold_at (filter (λ x. q x.0) held) o)) t
        ∙ kept (q o) refl (ap q (at_is nat_cmp nat_cmp_total exact_unsigned o e.0 t) ∙ p)
    by_tests true p false t ih = ap (λ (b : Bool). cond b (Some e.1) (hold_at (filter (λ x. q x.0) held) o)) t ∙ ih
    by_tests false p true t ih = ih ∙ by_no (hold_at held o) (Some e.1) (q o) (ap q (at_is nat_cmp nat_cmp_total exact_unsigned o e.0 t) ∙ p)
    by_tests false p false t ih = ih

-- ---- what goes out

module _ (changed rows : List Run) (held : Held) where
  abbrev pub Laid : ℕ → Table
  Laid start = record { start = start; rows = changed ++ rows; held = left_by changed held }

  pub left_is : (o : ℕ) → hold_at (left_by changed held) o ≡ cond (is_none (row_at changed o)) (hold_at held o) None
  left_is o = hold_left (λ o. is_none (row_at changed o)) held o

  -- where no row is laid, what was held and stored
  pub unlaid_held : (o : ℕ) → row_at changed o ≡ None → hold_at (left_by changed held) o ≡ hold_at held o
  unlaid_held o none = left_is o ∙ ap (λ (r : Option Row). cond (is_none r) (hold_at held o) None) none

  pub unlaid_row : (o : ℕ) → row_at changed o ≡ None → row_at (changed ++ rows) o ≡ row_at rows o
  unlaid_row o none = row_laid changed rows o ∙ ap (λ (r : Option Row). option_or r (row_at rows o)) none

  -- and else that row, and nothing is held
  pub laid_held : (o : ℕ) (row : Row) → row_at changed o ≡ Some row → hold_at (left_by changed held) o ≡ None
  laid_held o row some = left_is o ∙ ap (λ (r : Option Row). cond (is_none r) (hold_at held o) None) some

  pub laid_row : (o : ℕ) (row : Row) → row_at changed o ≡ Some row → row_at (changed ++ rows) o ≡ Some row
  laid_row o row some = row_laid changed rows o ∙ ap (λ (r : Option Row). option_or r (row_at rows o)) some

  abbrev default : Row
  default = record { state = Available; count = 0 }

  goes : (o : ℕ) → ℕ → Option ℕ
  goes o start = delivery_of (Laid start) o

  pub unlaid_goes : (o : ℕ) → row_at changed o ≡ None → delivery_of (Laid 0) o ≡ delivery_of (record { start = 0; rows = rows; held = held }) o
  unlaid_goes o none = (λ i. unless_held (unlaid_held o none i) (unwrap_or (unlaid_row o none i) default))

  pub laid_goes : (o : ℕ) (row : Row) → row_at changed o ≡ Some row → delivery_of (Laid 0) o ≡ one_more row.state row.count
  laid_goes o row some = (λ i. unless_held (laid_held o row some i) (unwrap_or (laid_row o row some i) default))

  -- ---- a stretch

  still_there : (o : ℕ) → row_at changed o ≡ None → IsSome (hold_at held o) ⊎ IsSome (row_at rows o) → IsSome (hold_at (left_by changed held) o) ⊎ IsSome (row_at (changed ++ rows) o)
  still_there o none (inl some) = inl (subst (λ (h : Option Hold). IsSome h) (sym (unlaid_held o none)) some)
  still_there o none (inr some) = inr (subst (λ (r : Option Row). IsSome r) (sym (unlaid_row o none)) some)

  -- up to where a row is laid
  pub unlaid_stretch : (slot last to : ℕ) (count : Option ℕ) → IsStretch rows held slot last count → slot ≤ to → to ≤ last
      → ((o : ℕ) → slot ≤ o → o ≤ to → row_at changed o ≡ None) → IsStretch (changed ++ rows) (left_by changed held) slot to count
  unlaid_stretch slot last to count s order within none = record {
    order = order;
    same = λ o lo hi. unlaid_goes o (none o lo hi) ∙ s.same o lo (omega (arith, hi, within));
    few = s.few;
    there = λ is o lo hi. still_there o (none o lo hi) (s.there is o lo (omega (arith, hi, within)));
  }

  -- where one row is laid
  pub laid_stretch : (slot last : ℕ) (row : Row) → slot ≤ last → IfSome (one_more row.state row.count) (λ count. count ≤ 10)
      → ((o : ℕ) → slot ≤ o → o ≤ last → row_at changed o ≡ Some row) → IsStretch (changed ++ rows) (left_by changed held) slot last (one_more row.state row.count)
  laid_stretch slot last row order few some = record {
    order = order;
    same = λ o lo hi. laid_goes o row (some o lo hi);
    few = few;
    there = λ is o lo hi. inr (subst (λ (r : Option Row). IsSome r) (sym (laid_row o row (some o lo hi))) refl);
  }

-- ---- by the run that a look finds

module _ (changed : List Run) (slot : ℕ) (run : Run)
    (is : (o : ℕ) → slot ≤ o → o ≤ run.last → row_at changed o ≡ cond (nat_le run.first o) (Some (row_of run)) None) where
  pub unlaid_before : (o : ℕ) → slot ≤ o → o < run.first → o ≤ run.last → row_at changed o ≡ None
  unlaid_before o lo hi within = is o lo within ∙ ap (λ (b : Bool). cond b (Some (row_of run)) None) (let no : nat_le run.first o ≡ false = grind (arith, nat_tests) in no)

  laid_from : run.first ≤ slot → (o : ℕ) → slot ≤ o → o ≤ run.last → row_at changed o ≡ Some (row_of run)
  laid_from low o lo hi = is o lo hi ∙ ap (λ (b : Bool). cond b (Some (row_of run)) None) (let yes : nat_le run.first o ≡ true = grind (arith, nat_tests) in yes)

  pub laid_run : (rows : List Run) (held : Held) → slot ≤ run.last → run.first ≤ slot → (count : Option ℕ) → count ≡ one_more run.state run.count
      → IfSome count (λ count. count ≤ 10) → IsStretch (changed ++ rows) (left_by changed held) slot run.last count
  laid_run rows held order low count is few =
      subst (IsStretch (changed ++ rows) (left_by changed held) slot run.last) (sym is)
      (laid_stretch changed rows held slot run.last (row_of run) order (subst (λ (n : Option ℕ). IfSome n (λ count. count ≤ 10)) is few) (laid_from low))

  -- it may go out where they may
  pub laid_out : MayGoOut changed → slot ≤ run.last → run.first ≤ slot → run.state ≡ Available → run.count ≤ 9
  laid_out may order low state = may slot (row_of run) (laid_from low slot (omega arith) order) state

-- no rows change nothing
pub none_laid : (held : Held) → left_by [] held ≡ held
none_laid held = all_pass (λ e. is_none (row_at [] e.0)) held (λ e. refl)
