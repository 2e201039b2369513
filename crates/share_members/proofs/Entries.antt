-- What holds of all entries, and that keys are in order, with an entry more or fewer.
use Rattle.std.proofs.Common.{◌≡◌, ◌+◌, ◌≤◌, Bool, true, false, cond, List, [], ◌∷◌, length, Option, Some, None, map, refl, sym, ap, ◌∙◌, arith}
use Rattle.std.specs.Cmp.{IsTotalOrder}
use Rattle.std.specs.List.{AllByRecursion, filter}
use Rattle.std.specs.List.Sorted.{IsStrictlySortedBy}
use Rattle.std.specs.Map.{lookup, remove_entry, keys_of}
use Rattle.std.specs.BTreeMap.{insert_entry, is_at}
use Rattle.std.specs.Ordering.{match_ordering, ordering_reverse}
use Rattle.std.specs.declared.cmp.Ordering.{Ordering}
use Rattle.std.specs.declared.cmp.Ordering.TheVariants.{Less, Equal, Greater}
use Rattle.std.proofs.lemmas.Map.{length-set_value}
use Rattle.share_members.proofs.Maps.{set_is_insert}

-- ---- what holds of each value

abbrev pub OrNone : {X : Type 0} → (X → Type 0) → Option X → Type 0
OrNone P None = Unit {0}
OrNone P (Some v) = P v

found : {X : Type 0} (P : X → Type 0) (b : Bool) (v : X) (rest : Option X) → P v → OrNone P rest → OrNone P (cond b (Some v) rest)
found P true v rest p r = p
found P false v rest p r = r

module _ {K X : Type 0} (P : X → Type 0) where
  abbrev pub Each : List (K × X) → Type 0
  Each es = AllByRecursion (λ e. P e.1) es

  by_order : (o : Ordering) (a b c : List (K × X)) → Each a → Each b → Each c → Each (match_ordering o a b c)
  by_order Less a b c x y z = x
  by_order Equal a b c x y z = y
  by_order Greater a b c x y z = z

  pub each_insert : (cmp : K → K → Ordering) (k : K) (v : X) (es : List (K × X)) → Each es → P v → Each (insert_entry cmp es k v)
  each_insert cmp k v [] h p = (p, tt)
  each_insert cmp k v (e ∷ es) h p =
      by_order (cmp k e.0) ((k, v) ∷ e ∷ es) ((e.0, v) ∷ es) (e ∷ insert_entry cmp es k v) (p, h) (p, h.1) (h.0, each_insert cmp k v es h.1 p)

  by_test : (b : Bool) (a c : List (K × X)) → Each a → Each c → Each (cond b a c)
  by_test true a c x y = x
  by_test false a c x y = y

  pub each_remove : (test : K → Bool) (es : List (K × X)) → Each es → Each (remove_entry test es)
  each_remove test [] h = tt
  each_remove test (e ∷ es) h = by_test (test e.0) es (e ∷ remove_entry test es) h.1 (h.0, each_remove test es h.1)

  pub each_filter : (p : K × X → Bool) (es : List (K × X)) → Each es → Each (filter p es)
  each_filter p [] h = tt
  each_filter p (e ∷ es) h = by_test (p e) (e ∷ filter p es) (filter p es) (h.0, each_filter p es h.1) (each_filter p es h.1)

  pub each_lookup : (test : K → Bool) (es : List (K × X)) → Each es → OrNone P (lookup test es)
  each_lookup test [] h = tt
  each_lookup test (e ∷ es) h = found P (test e.0) e.1 (lookup test es) h.0 (each_lookup test es h.1)

-- values that change, of which those that pass are kept
pub each_changed : {K X : Type 0} (P Q : X → Type 0) (f : X → X) (p : K × X → Bool) → ((e : K × X) → P e.1 → p (e.0, f e.1) ≡ true → Q (f e.1))
    → (es : List (K × X)) → AllByRecursion (λ e. P e.1) es → AllByRecursion (λ e. Q e.1) (filter p (map (λ e. (e.0, f e.1)) es))
each_changed P Q f p each [] h = tt
each_changed {K} {X} P Q f p each (e ∷ es) h = go (p (e.0, f e.1)) refl (each_changed P Q f p each es h.1) where
  go : (b : Bool) → p (e.0, f e.1) ≡ b → AllByRecursion (λ e. Q e.1) (filter p (map (λ e. (e.0, f e.1)) es))
      → AllByRecursion (λ e. Q e.1) (cond b ((e.0, f e.1) ∷ filter p (map (λ e. (e.0, f e.1)) es)) (filter p (map (λ e. (e.0, f e.1)) es)))
  go true is rest = (each e h.0 is, rest)
  go false is rest = rest

-- ---- keys in order

module _ {K : Type 0} (cmp : K → K → Ordering) (order : IsTotalOrder cmp) where
  abbrev Above : {X : Type 0} → K → List (K × X) → Type 0
  Above key es = AllByRecursion (λ k. cmp key k ≡ Less) (keys_of es)

  abbrev Sorted : {X : Type 0} → List (K × X) → Type 0
  Sorted es = IsStrictlySortedBy cmp (keys_of es)

  above_all : {X : Type 0} (low key : K) (es : List (K × X)) → cmp low key ≡ Less → Above key es → Above low es
  above_all low key [] less above = tt
  above_all low key (e ∷ es) less above = (order.trans low key e.0 less above.0, above_all low key es less above.1)

  above_test : {X : Type 0} (low : K) (b : Bool) (a c : List (K × X)) → Above low a → Above low c → Above low (cond b a c)
  above_test low true a c x y = x
  above_test low false a c x y = y

  above_remove : {X : Type 0} (low : K) (test : K → Bool) (es : List (K × X)) → Above low es → Above low (remove_entry test es)
  above_remove low test [] above = tt
  above_remove low test (e ∷ es) above = above_test low (test e.0) es (e ∷ remove_entry test es) above.1 (above.0, above_remove low test es above.1)

  above_filter : {X : Type 0} (low : K) (p : K × X → Bool) (es : List (K × X)) → Above low es → Above low (filter p es)
  above_filter low p [] above = tt
  above_filter low p (e ∷ es) above =
      above_test low (p e) (e ∷ filter p es) (filter p es) (above.0, above_filter low p es above.1) (above_filter low p es above.1)

  sorted_test : {X : Type 0} (b : Bool) (a c : List (K × X)) → Sorted a → Sorted c → Sorted (cond b a c)
  sorted_test true a c x y = x
  sorted_test false a c x y = y

  pub sorted_remove : {X : Type 0} (test : K → Bool) (es : List (K × X)) → Sorted es → Sorted (remove_entry test es)
  unfolding IsStrictlySortedBy
  sorted_remove test [] sorted = tt
  sorted_remove test (e ∷ es) sorted =
      sorted_test (test e.0) es (e ∷ remove_entry test es) sorted.1 (above_remove e.0 test es sorted.0, sorted_remove test es sorted.1)

  pub sorted_filter : {X : Type 0} (p : K × X → Bool) (es : List (K × X)) → Sorted es → Sorted (filter p es)
  unfolding IsStrictlySortedBy
  sorted_filter p [] sorted = tt
  sorted_filter p (e ∷ es) sorted =
      sorted_test (p e) (e ∷ filter p es) (filter p es) (above_filter e.0 p es sorted.0, sorted_filter p es sorted.1) (sorted_filter p es sorted.1)

  module _ {X : Type 0} (key : K) (value : X) where
    above_insert : (low : K) (es : List (K × X)) → cmp low key ≡ Less → Above low es → Above low (insert_entry cmp es key value)
    above_insert low [] less above = (less, tt)
    above_insert low (e ∷ es) less above = go (cmp key e.0) (above_insert low es less above.1) where
      go : (o : Ordering) → Above low (insert_entry cmp es key value)
          → Above low (match_ordering o ((key, value) ∷ e ∷ es) ((e.0, value) ∷ es) (e ∷ insert_entry cmp es key value))
      go Less ih = (less, above)
      go Equal ih = (above.0, above.1)
      go Greater ih = (above.0, ih)

    pub sorted_insert : (es : List (K × X)) → Sorted es → Sorted (insert_entry cmp es key value)
    unfolding IsStrictlySortedBy
    sorted_insert [] sorted = (tt, tt)
    sorted_insert (e ∷ es) sorted = go (cmp key e.0) refl (sorted_insert es sorted.1) where
      go : (o : Ordering) → cmp key e.0 ≡ o → Sorted (insert_entry cmp es key value)
          → Sorted (match_ordering o ((key, value) ∷ e ∷ es) ((e.0, value) ∷ es) (e ∷ insert_entry cmp es key value))
      go Less is ih = ((is, above_all key e.0 es is sorted.0), sorted)
      go Equal is ih = (sorted.0, sorted.1)
      go Greater is ih = (above_insert e.0 es (order.antisymm e.0 key ∙ ap ordering_reverse is) sorted.0, ih)

    -- ---- how many there are

    one_more : (o : Ordering) (e : K × X) (es rest : List (K × X)) → length rest ≤ length es + 1
        → length (match_ordering o ((key, value) ∷ e ∷ es) ((e.0, value) ∷ es) (e ∷ rest)) ≤ length (e ∷ es) + 1
    one_more Less e es rest le = omega arith
    one_more Equal e es rest le = omega arith
    one_more Greater e es rest le = omega arith

    pub insert_few : (es : List (K × X)) → length (insert_entry cmp es key value) ≤ length es + 1
    insert_few [] = omega arith
    insert_few (e ∷ es) = one_more (cmp key e.0) e es (insert_entry cmp es key value) (insert_few es)

    pub insert_same : (old : X) (es : List (K × X)) → Sorted es → lookup (is_at (cmp key)) es ≡ Some old → length (insert_entry cmp es key value) ≡ length es
    insert_same old es sorted there = sym (ap length (set_is_insert cmp order key old value es sorted there)) ∙ length-set_value (is_at (cmp key)) es value

  fewer : {X : Type 0} (b : Bool) (e : K × X) (es rest : List (K × X)) → length rest ≤ length es → length (cond b es (e ∷ rest)) ≤ length (e ∷ es)
  fewer true e es rest le = omega arith
  fewer false e es rest le = omega arith

  pub remove_few : {X : Type 0} (test : K → Bool) (es : List (K × X)) → length (remove_entry test es) ≤ length es
  remove_few test [] = omega arith
  remove_few test (e ∷ es) = fewer (test e.0) e es (remove_entry test es) (remove_few test es)
