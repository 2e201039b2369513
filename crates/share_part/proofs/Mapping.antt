-- Ordered maps as their entries: what a look-up finds once a key is set.
use Rattle.std.proofs.Common.{◌≡◌, ◌∙◌, refl, sym, ap, rules, true, false, cond, List, [], ◌∷◌, Option, Some, None}
use Rattle.std.proofs.lemmas.Map.Lookups.{CmpEqualImpliesEq, exact_bytes, exact_unsigned}
use Rattle.std.specs.Cmp.{IsTotalOrder}
use Rattle.std.specs.Cmp.Lexicographic.{slice_cmp}
use Rattle.std.specs.Cmp.Rules.{comparing}
use Rattle.std.specs.Map.{lookup}
use Rattle.std.specs.BTreeMap.{insert_entry, is_at}
use Rattle.std.specs.Ordering.{match_ordering, ordering_reverse, ordering_then, is_eq, nat_cmp}
use Rattle.std.specs.declared.cmp.Ordering.{Ordering}
use Rattle.std.specs.declared.cmp.Ordering.TheVariants.{Less, Equal, Greater}
use Rattle.share_model.specs.Keys.{key_cmp}

pub equal_is : (a : Ordering) → is_eq a ≡ true → a ≡ Equal
equal_is Less e = absurd (cc)
equal_is Equal e = refl
equal_is Greater e = absurd (cc)

tied : (a : Ordering) → a ≡ ordering_reverse a → is_eq a ≡ true
tied Less e = absurd (cc)
tied Equal e = refl
tied Greater e = absurd (cc)

both_equal : (a b : Ordering) → ordering_then a b ≡ Equal → (a ≡ Equal) × (b ≡ Equal)
both_equal Less b e = absurd (cc)
both_equal Equal b e = (refl, e)
both_equal Greater b e = absurd (cc)

pub keys_total : IsTotalOrder key_cmp
keys_total = search (comparing, rules) depth 9

pub keys_exact : CmpEqualImpliesEq key_cmp
keys_exact a b e =
    let front = both_equal (slice_cmp nat_cmp a.group b.group) (ordering_then (slice_cmp nat_cmp a.topic b.topic) (nat_cmp a.part b.part)) e in
    let rest = both_equal (slice_cmp nat_cmp a.topic b.topic) (nat_cmp a.part b.part) front.1 in
    let group = exact_bytes a.group b.group front.0 in
    let topic = exact_bytes a.topic b.topic rest.0 in
    let part = exact_unsigned a.part b.part rest.1 in
    λ i. record { group = group i; topic = topic i; part = part i }

module _ {K : Type 0} (cmp : K → K → Ordering) (order : IsTotalOrder cmp) (exact : CmpEqualImpliesEq cmp) where
  -- keys that compare alike are one
  pub at_is : (a b : K) → is_at (cmp a) b ≡ true → a ≡ b
  at_is a b e = exact a b (equal_is (cmp a b) e)

  pub at_self : (a : K) → is_at (cmp a) a ≡ true
  at_self a = tied (cmp a a) (order.antisymm a a)

  abbrev found : {X : Type 0} → K → List (K × X) → Option X
  found key es = lookup (is_at (cmp key)) es

  module _ {X : Type 0} (key : K) (value : X) where
    pub set_found : (es : List (K × X)) → found key (insert_entry cmp es key value) ≡ Some value
    set_found [] = ap (λ b. cond b (Some value) None) (at_self key)
    set_found (e ∷ es) = go (set_found es) (cmp key e.0) refl where
      go : found key (insert_entry cmp es key value) ≡ Some value → (o : Ordering) → cmp key e.0 ≡ o →
          found key (match_ordering o ((key, value) ∷ e ∷ es) ((e.0, value) ∷ es) (e ∷ insert_entry cmp es key value)) ≡ Some value
      go ih Less is = ap (λ b. cond b (Some value) (found key (e ∷ es))) (at_self key)
      go ih Equal is = ap (λ x. cond (is_eq x) (Some value) (found key es)) is
      go ih Greater is = ap (λ x. cond (is_eq x) (Some e.1) (found key (insert_entry cmp es key value))) is ∙ ih

    pub set_other : (other : K) → is_at (cmp other) key ≡ false → (es : List (K × X)) → found other (insert_entry cmp es key value) ≡ found other es
    set_other other apart [] = ap (λ b. cond b (Some value) None) apart
    set_other other apart (e ∷ es) = go (set_other other apart es) (cmp key e.0) refl where
      go : found other (insert_entry cmp es key value) ≡ found other es → (o : Ordering) → cmp key e.0 ≡ o →
          found other (match_ordering o ((key, value) ∷ e ∷ es) ((e.0, value) ∷ es) (e ∷ insert_entry cmp es key value)) ≡ found other (e ∷ es)
      go ih Less is = ap (λ b. cond b (Some value) (found other (e ∷ es))) apart
      go ih Equal is =
          let there : is_at (cmp other) e.0 ≡ false = ap (is_at (cmp other)) (sym (exact key e.0 is)) ∙ apart in
          ap (λ b. cond b (Some value) (found other es)) there ∙ sym (ap (λ b. cond b (Some e.1) (found other es)) there)
      go ih Greater is = ap (cond (is_at (cmp other) e.0) (Some e.1)) ih
