-- Ordered maps as their entries: what a look-up finds after a change.
use Rattle.std.proofs.Common.{◌≡◌, ◌≢◌, Bool, true, false, cond, List, [], ◌∷◌, Option, Some, None, refl, sym, ap, ◌∙◌, subst}
use Rattle.std.proofs.lemmas.Map.Lookups.{CmpEqualImpliesEq}
use Rattle.std.specs.Cmp.{IsTotalOrder}
use Rattle.std.specs.List.{AllByRecursion}
use Rattle.std.specs.Map.{lookup, remove_entry}
use Rattle.std.specs.BTreeMap.{insert_entry, is_at}
use Rattle.std.specs.Ordering.{match_ordering, ordering_reverse, is_eq}
use Rattle.std.specs.declared.cmp.Ordering.{Ordering}
use Rattle.std.specs.declared.cmp.Ordering.TheVariants.{Less, Equal, Greater}

pub equal_is : (a : Ordering) → is_eq a ≡ true → a ≡ Equal
equal_is Less e = absurd (cc)
equal_is Equal e = refl
equal_is Greater e = absurd (cc)

tied : (a : Ordering) → a ≡ ordering_reverse a → is_eq a ≡ true
tied Less e = absurd (cc)
tied Equal e = refl
tied Greater e = absurd (cc)

unless : (b : Bool) → (b ≡ true → b ≡ false) → b ≡ false
unless true h = h refl
unless false h = refl

module _ {K : Type 0} (cmp : K → K → Ordering) (order : IsTotalOrder cmp) (exact : CmpEqualImpliesEq cmp) where
  -- keys that compare alike are one
  pub at_is : (a b : K) → is_at (cmp a) b ≡ true → a ≡ b
  at_is a b e = exact a b (equal_is (cmp a b) e)

  pub at_self : (a : K) → is_at (cmp a) a ≡ true
  at_self a = tied (cmp a a) (order.antisymm a a)

  pub apart : (a b : K) → a ≢ b → is_at (cmp a) b ≡ false
  apart a b differ = unless (is_at (cmp a) b) (λ e. absurd (differ (at_is a b e)))

  abbrev found : {X : Type 0} → K → List (K × X) → Option X
  found key es = lookup (is_at (cmp key)) es

  -- ---- a key that is set

  module _ {X : Type 0} (key : K) (value : X) where
    pub set_found : (es : List (K × X)) → found key (insert_entry cmp es key value) ≡ Some value
    set_found [] = ap (λ b. cond b (Some value) None) (at_self key)
    set_found (e ∷ es) = go (set_found es) (cmp key e.0) refl where
      go : found key (insert_entry cmp es key value) ≡ Some value → (o : Ordering) → cmp key e.0 ≡ o →
          found key (match_ordering o ((key, value) ∷ e ∷ es) ((e.0, value) ∷ es) (e ∷ insert_entry cmp es key value)) ≡ Some value
      go ih Less is = ap (λ b. cond b (Some value) (found key (e ∷ es))) (at_self key)
      go ih Equal is = ap (λ x. cond (is_eq x) (Some value) (found key es)) is
      go ih Greater is = ap (λ x. cond (is_eq x) (Some e.1) (found key (insert_entry cmp es key value))) is ∙ ih

    pub set_other : (other : K) → other ≢ key → (es : List (K × X)) → found other (insert_entry cmp es key value) ≡ found other es
    set_other other differ [] = ap (λ b. cond b (Some value) None) (apart other key differ)
    set_other other differ (e ∷ es) = go (set_other other differ es) (cmp key e.0) refl where
      go : found other (insert_entry cmp es key value) ≡ found other es → (o : Ordering) → cmp key e.0 ≡ o →
          found other (match_ordering o ((key, value) ∷ e ∷ es) ((e.0, value) ∷ es) (e ∷ insert_entry cmp es key value)) ≡ found other (e ∷ es)
      go ih Less is = ap (λ b. cond b (Some value) (found other (e ∷ es))) (apart other key differ)
      go ih Equal is =
          let there : is_at (cmp other) e.0 ≡ false = ap (is_at (cmp other)) (sym (exact key e.0 is)) ∙ apart other key differ in
          ap (λ b. cond b (Some value) (found other es)) there ∙ sym (ap (λ b. cond b (Some e.1) (found other es)) there)
      go ih Greater is = ap (cond (is_at (cmp other) e.0) (Some e.1)) ih

  -- ---- a key that is removed

  pub removed_other : {X : Type 0} (key other : K) → other ≢ key → (es : List (K × X)) → found other (remove_entry (is_at (cmp key)) es) ≡ found other es
  removed_other key other differ [] = refl
  removed_other key other differ (e ∷ es) = go (removed_other key other differ es) (is_at (cmp key) e.0) refl where
    go : found other (remove_entry (is_at (cmp key)) es) ≡ found other es → (b : Bool) → is_at (cmp key) e.0 ≡ b →
        found other (cond b es (e ∷ remove_entry (is_at (cmp key)) es)) ≡ found other (e ∷ es)
    go ih true is =
        let there : is_at (cmp other) e.0 ≡ false = ap (is_at (cmp other)) (sym (at_is key e.0 is)) ∙ apart other key differ in
        sym (ap (λ b. cond b (Some e.1) (found other es)) there)
    go ih false is = ap (cond (is_at (cmp other) e.0) (Some e.1)) ih

  -- one that isn't there
  pub removed_none : {X : Type 0} (key : K) (es : List (K × X)) → found key es ≡ None → remove_entry (is_at (cmp key)) es ≡ es
  removed_none key [] none = refl
  removed_none key (e ∷ es) none = go (is_at (cmp key) e.0) (removed_none key es) none where
    go : (b : Bool) → (found key es ≡ None → remove_entry (is_at (cmp key)) es ≡ es) → cond b (Some e.1) (found key es) ≡ None
        → cond b es (e ∷ remove_entry (is_at (cmp key)) es) ≡ e ∷ es
    go true ih none = absurd (cc)
    go false ih none = ap (λ l. e ∷ l) (ih none)

  -- ---- keys in order

  abbrev IsAbove : {X : Type 0} → K → List (K × X) → Type 0
  IsAbove key es = AllByRecursion (λ e. cmp key e.0 ≡ Less) es

  -- the keys rise strictly
  abbrev pub Rises : {X : Type 0} → List (K × X) → Type 0
  Rises [] = Unit {0}
  Rises (e ∷ es) = IsAbove e.0 es × Rises es

  none_above : {X : Type 0} (key : K) (es : List (K × X)) → IsAbove key es → found key es ≡ None
  none_above key [] above = refl
  none_above key (e ∷ es) above = ap (λ o. cond (is_eq o) (Some e.1) (found key es)) above.0 ∙ none_above key es above.1

  above_all : {X : Type 0} (low key : K) (es : List (K × X)) → cmp low key ≡ Less → IsAbove key es → IsAbove low es
  above_all low key [] less above = tt
  above_all low key (e ∷ es) less above = (order.trans low key e.0 less above.0, above_all low key es less above.1)

  above_removed : {X : Type 0} (low : K) (test : K → Bool) (es : List (K × X)) → IsAbove low es → IsAbove low (remove_entry test es)
  above_removed low test [] above = tt
  above_removed low test (e ∷ es) above = go (test e.0) (above_removed low test es above.1) where
    go : (b : Bool) → IsAbove low (remove_entry test es) → IsAbove low (cond b es (e ∷ remove_entry test es))
    go true ih = above.1
    go false ih = (above.0, ih)

  pub rises_removed : {X : Type 0} (test : K → Bool) (es : List (K × X)) → Rises es → Rises (remove_entry test es)
  rises_removed test [] rises = tt
  rises_removed test (e ∷ es) rises = go (test e.0) (rises_removed test es rises.1) where
    go : (b : Bool) → Rises (remove_entry test es) → Rises (cond b es (e ∷ remove_entry test es))
    go true ih = rises.1
    go false ih = (above_removed e.0 test es rises.0, ih)

  pub removed_gone : {X : Type 0} (key : K) (es : List (K × X)) → Rises es → found key (remove_entry (is_at (cmp key)) es) ≡ None
  removed_gone key [] rises = refl
  removed_gone key (e ∷ es) rises = go (removed_gone key es rises.1) (is_at (cmp key) e.0) refl where
    go : found key (remove_entry (is_at (cmp key)) es) ≡ None → (b : Bool) → is_at (cmp key) e.0 ≡ b →
        found key (cond b es (e ∷ remove_entry (is_at (cmp key)) es)) ≡ None
    go ih true is = none_above key es (subst (λ k. IsAbove k es) (sym (at_is key e.0 is)) rises.0)
    go ih false is = ap (λ b. cond b (Some e.1) (found key (remove_entry (is_at (cmp key)) es))) is ∙ ih

  module _ {X : Type 0} (key : K) (value : X) where
    above_set : (low : K) (es : List (K × X)) → cmp low key ≡ Less → IsAbove low es → IsAbove low (insert_entry cmp es key value)
    above_set low [] less above = (less, tt)
    above_set low (e ∷ es) less above = go (cmp key e.0) (above_set low es less above.1) where
      go : (o : Ordering) → IsAbove low (insert_entry cmp es key value) →
          IsAbove low (match_ordering o ((key, value) ∷ e ∷ es) ((e.0, value) ∷ es) (e ∷ insert_entry cmp es key value))
      go Less ih = (less, above)
      go Equal ih = (above.0, above.1)
      go Greater ih = (above.0, ih)

    pub rises_set : (es : List (K × X)) → Rises es → Rises (insert_entry cmp es key value)
    rises_set [] rises = (tt, tt)
    rises_set (e ∷ es) rises = go (rises_set es rises.1) (cmp key e.0) refl where
      go : Rises (insert_entry cmp es key value) → (o : Ordering) → cmp key e.0 ≡ o →
          Rises (match_ordering o ((key, value) ∷ e ∷ es) ((e.0, value) ∷ es) (e ∷ insert_entry cmp es key value))
      go ih Less is = ((is, above_all key e.0 es is rises.0), rises)
      go ih Equal is = (rises.0, rises.1)
      go ih Greater is = (above_set e.0 es (order.antisymm e.0 key ∙ ap ordering_reverse is) rises.0, ih)
