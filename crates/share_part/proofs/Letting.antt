-- What is held once the holds that are released end.
use Rattle.std.proofs.Common.{◌≡◌, ◌⊎◌, ◌∙◌, inl, inr, refl, sym, ap, subst, arith, ℕ, suc, ◌+◌, ◌-◌, ◌<◌, ◌≤◌, [], ◌∷◌, length, Option, Some, None, Bool, true, false, cond, nat_eq, not, rules, zero}
use Rattle.std.proofs.lemmas.Bool.{cases_lt}
use Rattle.std.proofs.lemmas.Bool.Decides.{nat_tests}
use Rattle.std.proofs.lemmas.List.Sums.{sum_by-cons}
use Rattle.std.specs.Prelude.{filter, is_none, is_some, IsSome, nat_le, ◌&&◌}
use Rattle.std.specs.BTreeMap.{is_at}
use Rattle.std.specs.List.{AllByRecursion, count_by}
use Rattle.std.specs.Ordering.{nat_cmp}
use Rattle.share_model.specs.Held.{Held, hold_at, without_range, IsLeastDue}
use Rattle.share_model.specs.declared.ack.AckKind.{AckKind}
use Rattle.share_model.specs.declared.hold.Hold.{Hold}
use Rattle.share_part.specs.Acknowledging.{NameNone, NameOne}
use Rattle.share_part.specs.Expiring.{due_count}
use Rattle.share_part.specs.Releasing.{AreChosen, AreLeft, IsNextChosen, has_due}
use Rattle.share_part.specs.Settling.{AreBelow, held_after, release_of, releases_if, releasing}
use Rattle.share_part.proofs.Parting.{both}
use Rattle.lock_index.specs.Windows.{IsRising, RisesFrom}
use Rattle.lock_index.proofs.Changes.{without_at}
use Rattle.lock_index.proofs.Edits.{rises_without}
use Rattle.lock_index.proofs.Finding.{above, here, none_below}

not_some : (o : Option Hold) (hold : Hold) → o ≡ None → o ≡ Some hold → ⊥
not_some o hold none some = let clash : ⊥ = cc in clash

-- what a look-up finds is so of each hold, where the offsets rise
pub found_each : (P : ℕ → Hold → Type 0) (low : ℕ) (held : Held) → RisesFrom low held → ((o : ℕ) (hold : Hold) → hold_at held o ≡ Some hold → P o hold)
    → AllByRecursion (λ (e : ℕ × Hold). P e.0 e.1) held
found_each P low [] rises h = tt
found_each P low (e ∷ held) rises h = (
  h e.0 e.1 (here e held),
  found_each P (e.0 + 1) held rises.1 (λ o hold at. h o hold (above e held o (past o hold at) ∙ at)),
)
  where
    past : (o : ℕ) (hold : Hold) → hold_at held o ≡ Some hold → e.0 < o
    past o hold at = elim (cases_lt e.0 o) [
      | inl lt ↦ lt
      | inr ge ↦ absurd (not_some (hold_at held o) hold (none_below (e.0 + 1) held o rises.1 (omega (arith, ge))) at)
    ]

same_filter : (p q : ℕ × Hold → Bool) (xs : Held) → AllByRecursion (λ (e : ℕ × Hold). p e ≡ q e) xs → filter p xs ≡ filter q xs
same_filter p q [] h = refl
same_filter p q (e ∷ xs) h = λ i. cond (h.0 i) (e ∷ same_filter p q xs h.1 i) (same_filter p q xs h.1 i)

all_same : (xs : Held) (p : ℕ × Hold → Bool) → AllByRecursion (λ (e : ℕ × Hold). p e ≡ true) xs → filter p xs ≡ xs
all_same [] p h = refl
all_same (e ∷ xs) p h = λ i. cond (h.0 i) (e ∷ all_same xs p h.1 i) (all_same xs p h.1 i)

each_of : (P Q : ℕ × Hold → Type 0) (xs : Held) → ((e : ℕ × Hold) → P e → Q e) → AllByRecursion P xs → AllByRecursion Q xs
each_of P Q [] f h = tt
each_of P Q (e ∷ xs) f h = (f e h.0, each_of P Q xs f h.1)

count_cons : (p : ℕ × Hold → Bool) (e : ℕ × Hold) (xs : Held) → count_by p (e ∷ xs) ≡ cond (p e) 1 0 + count_by p xs
count_cons p e xs = sum_by-cons _ e xs

none_count : (p : ℕ × Hold → Bool) (xs : Held) → AllByRecursion (λ (e : ℕ × Hold). p e ≡ false) xs → count_by p xs ≡ 0
none_count p [] h = refl
none_count p (e ∷ xs) h = count_cons p e xs ∙ (λ i. cond {A = ℕ} (h.0 i) 1 0 + none_count p xs h.1 i)

module _ (chosen : Hold → Bool) where
  abbrev pub unchosen : Held → Held
  unchosen held = filter (λ e. not (chosen e.1)) held

  abbrev Picks : ℕ × Hold → Bool
  Picks e = chosen e.1

  -- ---- which offsets are named

  no_release : (b : Bool) → release_of b ≡ None → b ≡ false
  no_release true e = let clash : ⊥ = cc in absurd clash
  no_release false e = refl

  released_is : (held : Held) (o : ℕ) (hold : Hold) → hold_at held o ≡ Some hold → releasing chosen held o ≡ release_of (chosen hold)
  released_is held o hold at = ap (releases_if chosen) at

  -- where nothing that is held is chosen, nothing is named
  pub none_named : (held : Held) → ((o : ℕ) (hold : Hold) → hold_at held o ≡ Some hold → chosen hold ≡ false) → NameNone (releasing chosen held)
  none_named held h o = by_hold (hold_at held o) refl
    where
      by_hold : (r : Option Hold) → hold_at held o ≡ r → releases_if chosen r ≡ None
      by_hold None at = refl
      by_hold (Some hold) at = ap release_of (h o hold at)

  pub none_chosen : (held : Held) → NameNone (releasing chosen held) → (o : ℕ) (hold : Hold) → hold_at held o ≡ Some hold → chosen hold ≡ false
  none_chosen held none o hold at = no_release (chosen hold) (sym (released_is held o hold at) ∙ none o)

  pub one_named : (held : Held) (o : ℕ) (hold : Hold) → hold_at held o ≡ Some hold → chosen hold ≡ true → NameOne (releasing chosen held)
  one_named held o hold at picked = (o, subst (λ (k : Option AckKind). IsSome k) (sym (released_is held o hold at ∙ ap release_of picked)) refl)

  -- ---- what is left

  -- it is what isn't chosen
  pub released_left : (held : Held) → IsRising held → held_after (releasing chosen held) held ≡ unchosen held
  released_left held rises = same_filter (λ e. is_none (releasing chosen held e.0)) (λ e. not (chosen e.1)) held
      (found_each (λ o hold. is_none (releasing chosen held o) ≡ not (chosen hold)) 0 held rises
      (λ o hold at. ap is_none (released_is held o hold at) ∙ by_choice (chosen hold)))
    where
      by_choice : (b : Bool) → is_none (release_of b) ≡ not b
      by_choice true = refl
      by_choice false = refl

  -- a range in which all is chosen makes no difference
  left_without : (first last : ℕ) (held : Held) → IsRising held → AreChosen chosen held first last → unchosen (without_range first last held) ≡ unchosen held
  left_without first last held rises picked =
      both (λ e. not (nat_le first e.0 && nat_le e.0 last)) (λ e. not (chosen e.1)) held
      ∙ same_filter (λ e. not (nat_le first e.0 && nat_le e.0 last) && not (chosen e.1)) (λ e. not (chosen e.1)) held
      (found_each (λ o hold. (not (nat_le first o && nat_le o last) && not (chosen hold)) ≡ not (chosen hold)) 0 held rises
      (λ o hold at. by_place o hold at (nat_le first o) refl (nat_le o last) refl))
    where
      by_place : (o : ℕ) (hold : Hold) → hold_at held o ≡ Some hold → (a : Bool) → nat_le first o ≡ a → (b : Bool) → nat_le o last ≡ b
          → (not (a && b) && not (chosen hold)) ≡ not (chosen hold)
      by_place o hold at true lo true hi = sym (ap not (picked o hold (search rules) (search rules) at))
      by_place o hold at true lo false hi = refl
      by_place o hold at false lo b hi = refl

  all_left : (held : Held) → IsRising held → ((o : ℕ) (hold : Hold) → hold_at held o ≡ Some hold → chosen hold ≡ false) → unchosen held ≡ held
  all_left held rises h = all_same held (λ e. not (chosen e.1)) (found_each (λ o hold. not (chosen hold) ≡ true) 0 held rises (λ o hold at. ap not (h o hold at)))

  -- ---- how many

  pub parted : (held : Held) → length (unchosen held) + count_by Picks held ≡ length held
  parted [] = refl
  parted (e ∷ held) = by_choice (chosen e.1) refl (parted held)
    where
      by_choice : (b : Bool) → chosen e.1 ≡ b → length (unchosen held) + count_by Picks held ≡ length held
          → length (cond (not b) (e ∷ unchosen held) (unchosen held)) + count_by Picks (e ∷ held) ≡ length (e ∷ held)
      by_choice true is ih =
          let one : count_by Picks (e ∷ held) ≡ 1 + count_by Picks held = count_cons Picks e held ∙ ap (λ (b : Bool). cond {A = ℕ} b 1 0 + count_by Picks held) is in
          omega (arith, one, ih)
      by_choice false is ih =
          let one : count_by Picks (e ∷ held) ≡ 0 + count_by Picks held = count_cons Picks e held ∙ ap (λ (b : Bool). cond {A = ℕ} b 1 0 + count_by Picks held) is in
          omega (arith, one, ih)

  pub none_counted : (held : Held) → IsRising held → NameNone (releasing chosen held) → count_by Picks held ≡ 0
  none_counted held rises none = none_count Picks held (found_each (λ o hold. chosen hold ≡ false) 0 held rises (none_chosen held none))

  -- where none is counted, none is chosen
  pub counted_none : (held : Held) → count_by Picks held ≡ 0 → (o : ℕ) (hold : Hold) → hold_at held o ≡ Some hold → chosen hold ≡ false
  counted_none [] none o hold at = absurd (let clash : ⊥ = cc in clash)
  counted_none (e ∷ held) none o hold at = by_tests (chosen e.1) refl (is_at (nat_cmp o) e.0) refl at (λ less. counted_none held less o hold)
    where
      by_tests : (b : Bool) → chosen e.1 ≡ b → (t : Bool) → is_at (nat_cmp o) e.0 ≡ t → cond t (Some e.1) (hold_at held o) ≡ Some hold
          → (count_by Picks held ≡ 0 → hold_at held o ≡ Some hold → chosen hold ≡ false) → chosen hold ≡ false
      by_tests true b t is at ih =
          let one : count_by Picks (e ∷ held) ≡ 1 + count_by Picks held = count_cons Picks e held ∙ ap (λ (b : Bool). cond {A = ℕ} b 1 0 + count_by Picks held) b in
          absurd (omega (arith, one, none))
      by_tests false b true is at ih = ap chosen (let same : hold ≡ e.1 = cc in same) ∙ b
      by_tests false b false is at ih =
          let one : count_by Picks (e ∷ held) ≡ 0 + count_by Picks held = count_cons Picks e held ∙ ap (λ (b : Bool). cond {A = ℕ} b 1 0 + count_by Picks held) b in
          ih (omega (arith, one, none)) at

  -- ---- a stretch of holds after another

  -- the holds that are chosen and lie below an offset have ended
  pub record AreEnded (was now : Held) (from : ℕ) : Type 0 where
    pub kept : unchosen now ≡ unchosen was
    pub rising : IsRising now
    pub left : AreLeft chosen now 0 from
    pub below : AreBelow now

  pub none_ended : (was : Held) → IsRising was → AreBelow was → AreEnded was was 0
  none_ended was rises below = record { kept = refl; rising = rises; left = λ o hold lo hi at. absurd (omega (arith, hi)); below = below }

  module _ (was now : Held) (from : ℕ) (h : AreEnded was now from) where
    pub ended_more : (first last : ℕ) (next : Held) → IsNextChosen chosen now from first → first ≤ last → AreChosen chosen now first last
        → next ≡ without_range first last now → AreEnded was next (last + 1)
    ended_more first last next is order picked same = subst (λ (l : Held). AreEnded was l (last + 1)) (sym same) (record {
      kept = left_without first last now h.rising picked ∙ h.kept;
      rising = rises_without first last 0 now h.rising;
      left = λ o hold lo hi at. let t = there o hold at in by_place o hold hi t.0 t.1 (cases_lt o from) (cases_lt o first);
      below = λ o hold at. h.below o hold (there o hold at).0;
    })
      where
        by_test : (t : Bool) (o : ℕ) (hold : Hold) → (nat_le first o && nat_le o last) ≡ t → cond t None (hold_at now o) ≡ Some hold
            → (hold_at now o ≡ Some hold) × ((nat_le first o && nat_le o last) ≡ false)
        by_test true o hold is at = absurd (let clash : ⊥ = cc in clash)
        by_test false o hold is at = (at, is)

        there : (o : ℕ) (hold : Hold) → hold_at (without_range first last now) o ≡ Some hold → (hold_at now o ≡ Some hold) × ((nat_le first o && nat_le o last) ≡ false)
        there o hold at = by_test (nat_le first o && nat_le o last) o hold refl (sym (without_at first last now o) ∙ at)

        by_place : (o : ℕ) (hold : Hold) → o < last + 1 → hold_at now o ≡ Some hold → (nat_le first o && nat_le o last) ≡ false → (o < from) ⊎ (from ≤ o) → (o < first) ⊎ (first ≤ o)
            → chosen hold ≡ false
        by_place o hold hi at out (inl lt) second = h.left o hold (omega arith) lt at
        by_place o hold hi at out (inr ge) (inl lt) = is.left o hold ge lt at
        by_place o hold hi at out (inr ge) (inr le) = absurd (let inside : (nat_le first o && nat_le o last) ≡ true = grind (arith, nat_tests) in let clash : ⊥ = cc in clash)

    all_kept : ((to : ℕ) → AreLeft chosen now from to) → unchosen now ≡ now
    all_kept rest = all_left now h.rising (λ o hold at. elim (cases_lt o from) [
      | inl lt ↦ h.left o hold (omega arith) lt at
      | inr ge ↦ rest (o + 1) o hold ge (omega arith) at
    ])

    pub all_ended : IsRising was → ((to : ℕ) → AreLeft chosen now from to) → now ≡ held_after (releasing chosen was) was
    all_ended rises rest = sym (all_kept rest) ∙ h.kept ∙ sym (released_left was rises)

    pub fewer : ((to : ℕ) → AreLeft chosen now from to) → length now ≤ length was
    fewer rest =
        let same : length now ≡ length (unchosen was) = ap length (sym (all_kept rest) ∙ h.kept) in
        omega (arith, same, parted was)

    pub ended_count : ((to : ℕ) → AreLeft chosen now from to) → length was - length now ≡ count_by Picks was
    ended_count rest =
        let same : length now ≡ length (unchosen was) = ap length (sym (all_kept rest) ∙ h.kept) in
        omega (arith, same, parted was)

-- ---- locks that have ended

-- the least lock that has ended tells whether one has
pub due_is : (clock : ℕ) (held : Held) (r : Option ℕ) → IsRising held → IsLeastDue held clock r → is_some r ≡ has_due clock held
due_is clock held None rises h =
    let none : due_count clock held ≡ 0 = none_count (λ e. nat_le e.1.end clock) held
    (found_each (λ o hold. nat_le hold.end clock ≡ false) 0 held rises (λ o hold at. let lt = h o hold at in grind (arith, nat_tests))) in
    sym (ap (λ (n : ℕ). not (nat_eq n 0)) none)
due_is clock held (Some least) rises h = by_count (due_count clock held) refl
  where
    by_count : (n : ℕ) → due_count clock held ≡ n → true ≡ not (nat_eq n 0)
    by_count zero is =
        let low : nat_le h.0.0.end clock ≡ false = counted_none (λ (hold : Hold). nat_le hold.end clock) held is least h.0.0 h.0.1 in
        let le = h.0.2 in
        let high : nat_le h.0.0.end clock ≡ true = grind (arith, nat_tests) in
        absurd (let clash : ⊥ = cc in clash)
    by_count (suc n) is = sym (ap not (let apart : nat_eq (suc n) 0 ≡ false = grind (arith, nat_tests) in apart))
