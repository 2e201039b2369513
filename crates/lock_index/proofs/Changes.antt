-- What a look-up gives behind a change of a window.
use Rattle.std.proofs.Common.{◌≡◌, ◌≢◌, ℕ, ◌+◌, ◌<◌, Bool, true, false, cond, [], ◌∷◌, Option, Some, None, refl, ap, ◌∙◌, sym, arith, inl, inr}
use Rattle.std.proofs.lemmas.Bool.{cases_lt}
use Rattle.std.proofs.lemmas.Bool.Decides.{nat_tests}
use Rattle.std.proofs.lemmas.Map.Entries.{lookup-filter-keys}
use Rattle.std.specs.Prelude.{nat_le, not, ◌&&◌}
use Rattle.std.specs.BTreeMap.{insert_entry, is_at}
use Rattle.std.specs.Ordering.{nat_cmp}
use Rattle.std.specs.List.{AllByRecursion}
use Rattle.std.specs.List.Sorted.{IsStrictlySortedBy}
use Rattle.std.specs.Map.{keys_of}
use Rattle.std.specs.declared.cmp.Ordering.TheVariants.{Less}
use Rattle.lock_index.specs.Windows.{RisesFrom}
use Rattle.share_model.specs.Held.{Held, hold_at, without_range}
use Rattle.share_model.specs.declared.hold.Hold.{Hold}
use Rattle.lock_index.proofs.Orders.{cmp_less}
use Rattle.lock_index.proofs.Finding.{here, below, above}
use Rattle.lock_index.proofs.Edits.{put_less, put_equal, put_greater}

same_offset : (o k : ℕ) → is_at (nat_cmp o) k ≡ true → k ≡ o
same_offset o k e = grind (arith, nat_tests)

-- behind a hold of an offset
pub put_found : (held : Held) (o : ℕ) (hold : Hold) → hold_at (insert_entry nat_cmp held o hold) o ≡ Some hold
put_found [] o hold = here (o, hold) []
put_found (e ∷ es) o hold =
    elim (cases_lt o e.0) [
      | inl low ↦ ap (λ (l : Held). hold_at l o) (put_less e es o hold low) ∙ here (o, hold) (e ∷ es)
      | inr from ↦ elim (cases_lt e.0 o) [
        | inl high ↦ ap (λ (l : Held). hold_at l o) (put_greater e es o hold high) ∙ above e (insert_entry nat_cmp es o hold) o high ∙ put_found es o hold
        | inr upto ↦
            let same : o ≡ e.0 = omega arith in
            ap (λ (l : Held). hold_at l o) (put_equal e es o hold same) ∙ ap (hold_at ((e.0, hold) ∷ es)) same ∙ here (e.0, hold) es
      ]
    ]

pub put_other : (held : Held) (o : ℕ) (hold : Hold) (other : ℕ) → other ≢ o → hold_at (insert_entry nat_cmp held o hold) other ≡ hold_at held other
put_other [] o hold other differs =
    elim (cases_lt other o) [
      | inl low ↦ below (o, hold) [] other low
      | inr from ↦ above (o, hold) [] other (omega arith)
    ]
put_other (e ∷ es) o hold other differs =
    elim (cases_lt o e.0) [
      | inl low ↦ ap (λ (l : Held). hold_at l other) (put_less e es o hold low) ∙ elim (cases_lt other o) [
        | inl under ↦ below (o, hold) (e ∷ es) other under
        | inr from ↦ above (o, hold) (e ∷ es) other (omega arith)
      ]
      | inr from ↦ elim (cases_lt e.0 o) [
        | inl high ↦ ap (λ (l : Held). hold_at l other) (put_greater e es o hold high) ∙ elim (cases_lt other e.0) [
          | inl under ↦ below e (insert_entry nat_cmp es o hold) other under ∙ put_other es o hold other differs ∙ sym (below e es other under)
          | inr at ↦ elim (cases_lt e.0 other) [
            | inl over ↦ above e (insert_entry nat_cmp es o hold) other over ∙ put_other es o hold other differs ∙ sym (above e es other over)
            | inr equal ↦
                let same : other ≡ e.0 = omega arith in
                ap (hold_at (e ∷ insert_entry nat_cmp es o hold)) same ∙ here e (insert_entry nat_cmp es o hold) ∙ sym (here e es) ∙ ap (hold_at (e ∷ es)) (sym same)
          ]
        ]
        | inr upto ↦
            let same : o ≡ e.0 = omega arith in
            ap (λ (l : Held). hold_at l other) (put_equal e es o hold same) ∙ elim (cases_lt other e.0) [
              | inl under ↦ below (e.0, hold) es other under ∙ sym (below e es other under)
              | inr at ↦ above (e.0, hold) es other (omega arith) ∙ sym (above e es other (omega arith))
            ]
      ]
    ]

-- behind the end of the holds of a range
pub without_at : (first last : ℕ) (held : Held) (o : ℕ) → hold_at (without_range first last held) o ≡ cond (nat_le first o && nat_le o last) None (hold_at held o)
without_at first last held o =
    lookup-filter-keys (is_at (nat_cmp o)) (λ k. not (nat_le first k && nat_le k last)) (not (nat_le first o && nat_le o last))
    (λ k same. ap (λ (m : ℕ). not (nat_le first m && nat_le m last)) (same_offset o k same)) held
    ∙ swapped (nat_le first o && nat_le o last) (hold_at held o) where
      swapped : (b : Bool) (x : Option Hold) → cond (not b) x None ≡ cond b None x
      swapped true x = refl
      swapped false x = refl

-- the offsets are keys in order
above_low : (low key : ℕ) (held : Held) → key < low → RisesFrom low held → AllByRecursion (λ y. nat_cmp key y ≡ Less) (keys_of held)
above_low low key [] h rises = tt
above_low low key (e ∷ es) h rises =
    (cmp_less key e.0 (omega (arith, rises.0)), above_low (e.0 + 1) key es (omega (arith, rises.0)) rises.1)

pub sorted : (low : ℕ) (held : Held) → RisesFrom low held → IsStrictlySortedBy nat_cmp (keys_of held)
unfolding IsStrictlySortedBy
sorted low [] rises = tt
sorted low (e ∷ es) rises = (above_low (e.0 + 1) e.0 es (omega arith) rises.1, sorted (e.0 + 1) es rises.1)
