-- Ordered maps as their entries, with one entry changed.
use Rattle.std.proofs.Common.{◌≡◌, ℕ, ◌+◌, Bool, true, false, cond, ◌&&◌, List, [], ◌∷◌, Option, Some, None, map, refl, sym, ap, ◌∙◌, subst, arith}
use Rattle.std.specs.Cmp.{IsTotalOrder}
use Rattle.std.specs.List.{AllByRecursion, count_by, filter}
use Rattle.std.specs.Map.Calls.{RetainsPairs}
use Rattle.std.specs.List.Sorted.{IsStrictlySortedBy}
use Rattle.std.specs.Map.{lookup, set_value, remove_entry, keys_of}
use Rattle.std.specs.BTreeMap.{insert_entry, is_at}
use Rattle.std.specs.Ordering.{match_ordering, ordering_reverse, is_eq, is_lt, is_gt}
use Rattle.std.specs.declared.cmp.Ordering.{Ordering}
use Rattle.std.specs.declared.cmp.Ordering.TheVariants.{Less, Equal, Greater}
use Rattle.std.proofs.lemmas.Map.Lookups.{CmpEqualImpliesEq}
use Rattle.std.proofs.lemmas.List.Sums.{sum_by-cons}

-- a value that is set, and its entry that is taken away
pub removed_set : {K X : Type 0} (test : K → Bool) (w : X) (es : List (K × X)) → remove_entry test (set_value test es w) ≡ remove_entry test es
removed_set test w [] = refl
removed_set {K} {X} test w (e ∷ es) = go (test e.0) refl (removed_set test w es) where
  go : (b : Bool) → test e.0 ≡ b → remove_entry test (set_value test es w) ≡ remove_entry test es
      → remove_entry test (cond b ((e.0, w) ∷ es) (e ∷ set_value test es w)) ≡ cond b es (e ∷ remove_entry test es)
  go true is ih = ap (λ b. cond b es ((e.0, w) ∷ remove_entry test es)) is
  go false is ih = ap (λ b. cond b (set_value test es w) (e ∷ remove_entry test (set_value test es w))) is ∙ ap (λ l. e ∷ l) ih

-- a key that isn't there
pub removed_none : {K X : Type 0} (test : K → Bool) (es : List (K × X)) → lookup test es ≡ None → remove_entry test es ≡ es
removed_none test [] none = refl
removed_none test (e ∷ es) none = go (test e.0) (removed_none test es) none where
  go : (b : Bool) → (lookup test es ≡ None → remove_entry test es ≡ es) → cond b (Some e.1) (lookup test es) ≡ None
      → cond b es (e ∷ remove_entry test es) ≡ e ∷ es
  go true ih none = absurd (cc)
  go false ih none = ap (λ l. e ∷ l) (ih none)

module _ {K : Type 0} (cmp : K → K → Ordering) (order : IsTotalOrder cmp) where
  -- each key is above this one
  abbrev Above : {X : Type 0} → K → List (K × X) → Type 0
  Above key es = AllByRecursion (λ k. cmp key k ≡ Less) (keys_of es)

  above_all : {X : Type 0} (low key : K) (es : List (K × X)) → cmp low key ≡ Less → Above key es → Above low es
  above_all low key [] less above = tt
  above_all low key (e ∷ es) less above = (order.trans low key e.0 less above.0, above_all low key es less above.1)

  none_above : {X : Type 0} (key : K) (es : List (K × X)) → Above key es → lookup (is_at (cmp key)) es ≡ None
  none_above key [] above = refl
  none_above key (e ∷ es) above = ap (λ o. cond (is_eq o) (Some e.1) (lookup (is_at (cmp key)) es)) above.0 ∙ none_above key es above.1

  some_none : {X : Type 0} (v : X) (o : Option X) → o ≡ None → o ≡ Some v → ⊥
  some_none v o none some = absurd (cc)

  -- a key that is there keeps its place
  pub set_is_insert : {X : Type 0} (key : K) (v w : X) (es : List (K × X)) → IsStrictlySortedBy cmp (keys_of es)
      → lookup (is_at (cmp key)) es ≡ Some v → set_value (is_at (cmp key)) es w ≡ insert_entry cmp es key w
  unfolding IsStrictlySortedBy
  set_is_insert key v w [] sorted found = absurd (cc)
  set_is_insert {X} key v w (e ∷ es) sorted found = go (cmp key e.0) refl found (set_is_insert key v w es sorted.1) where
    go : (o : Ordering) → cmp key e.0 ≡ o → cond (is_eq o) (Some e.1) (lookup (is_at (cmp key)) es) ≡ Some v
        → (lookup (is_at (cmp key)) es ≡ Some v → set_value (is_at (cmp key)) es w ≡ insert_entry cmp es key w)
        → cond (is_eq o) ((e.0, w) ∷ es) (e ∷ set_value (is_at (cmp key)) es w)
        ≡ match_ordering o ((key, w) ∷ e ∷ es) ((e.0, w) ∷ es) (e ∷ insert_entry cmp es key w)
    go Less is found ih = absurd (some_none v (lookup (is_at (cmp key)) es) (none_above key es (above_all key e.0 es is sorted.0)) found)
    go Equal is found ih = refl
    go Greater is found ih = ap (λ l. e ∷ l) (ih found)

  -- ---- counts with an entry more or changed, by where the others stand

  self_is : (key : K) → (o : Ordering) → cmp key key ≡ o → o ≡ ordering_reverse o → o ≡ Equal
  self_is key Less is same = absurd (cc)
  self_is key Equal is same = refl
  self_is key Greater is same = absurd (cc)

  pub itself : (key : K) → cmp key key ≡ Equal
  itself key = self_is key (cmp key key) refl (order.antisymm key key)

  pub turned : (a b : K) (o : Ordering) → cmp a b ≡ o → cmp b a ≡ ordering_reverse o
  turned a b o is = order.antisymm b a ∙ ap ordering_reverse is

  module _ {X : Type 0} (p : K × X → Bool) (key : K) where
    abbrev pub before : List (K × X) → ℕ
    before es = count_by (λ e. is_lt (cmp e.0 key) && p e) es

    abbrev pub behind : List (K × X) → ℕ
    behind es = count_by (λ e. is_gt (cmp e.0 key) && p e) es

    before_cons : (e : K × X) (es : List (K × X)) → before (e ∷ es) ≡ cond (is_lt (cmp e.0 key) && p e) 1 0 + before es
    before_cons e es = sum_by-cons _ e es

    behind_cons : (e : K × X) (es : List (K × X)) → behind (e ∷ es) ≡ cond (is_gt (cmp e.0 key) && p e) 1 0 + behind es
    behind_cons e es = sum_by-cons _ e es

    count_cons : (e : K × X) (es : List (K × X)) → count_by p (e ∷ es) ≡ cond (p e) 1 0 + count_by p es
    count_cons e es = sum_by-cons _ e es

    -- an entry that stands before, at or behind the key
    abbrev in_front : Ordering → K × X → ℕ
    in_front o e = cond (is_lt o && p e) 1 0

    abbrev in_back : Ordering → K × X → ℕ
    in_back o e = cond (is_gt o && p e) 1 0

    pub before_at : (e : K × X) (es : List (K × X)) (o : Ordering) → cmp e.0 key ≡ o → before (e ∷ es) ≡ in_front o e + before es
    before_at e es o is = before_cons e es ∙ ap (λ o. in_front o e + before es) is

    behind_at : (e : K × X) (es : List (K × X)) (o : Ordering) → cmp e.0 key ≡ o → behind (e ∷ es) ≡ in_back o e + behind es
    behind_at e es o is = behind_cons e es ∙ ap (λ o. in_back o e + behind es) is

    pub none_in_front : (es : List (K × X)) → Above key es → before es ≡ 0
    none_in_front [] above = refl
    none_in_front (e ∷ es) above = omega (arith, before_at e es Greater (turned key e.0 Less above.0), none_in_front es above.1)

    all_behind : (es : List (K × X)) → Above key es → behind es ≡ count_by p es
    all_behind [] above = refl
    all_behind (e ∷ es) above = omega (arith, behind_at e es Greater (turned key e.0 Less above.0), count_cons e es, all_behind es above.1)

    module _ (v : X) (exact : CmpEqualImpliesEq cmp) where
      pub before_insert : (es : List (K × X)) → IsStrictlySortedBy cmp (keys_of es) → before (insert_entry cmp es key v) ≡ before es
      unfolding IsStrictlySortedBy
      before_insert [] sorted = before_at (key, v) [] Equal (itself key)
      before_insert (e ∷ es) sorted = go (cmp key e.0) refl (before_insert es sorted.1) where
        go : (o : Ordering) → cmp key e.0 ≡ o → before (insert_entry cmp es key v) ≡ before es
            → before (match_ordering o ((key, v) ∷ e ∷ es) ((e.0, v) ∷ es) (e ∷ insert_entry cmp es key v)) ≡ before (e ∷ es)
        go Less is ih = omega (arith, before_at (key, v) (e ∷ es) Equal (itself key))
        go Equal is ih = omega (arith, before_at (e.0, v) es Equal (turned key e.0 Equal is), before_at e es Equal (turned key e.0 Equal is))
        go Greater is ih = omega (arith, before_cons e (insert_entry cmp es key v), before_cons e es, ih)

      pub count_insert : (es : List (K × X)) → IsStrictlySortedBy cmp (keys_of es)
          → count_by p (insert_entry cmp es key v) ≡ cond (p (key, v)) 1 0 + (before es + behind es)
      unfolding IsStrictlySortedBy
      count_insert [] sorted = count_cons (key, v) []
      count_insert (e ∷ es) sorted = go (cmp key e.0) refl (count_insert es sorted.1) where
        go : (o : Ordering) → cmp key e.0 ≡ o → count_by p (insert_entry cmp es key v) ≡ cond (p (key, v)) 1 0 + (before es + behind es)
            → count_by p (match_ordering o ((key, v) ∷ e ∷ es) ((e.0, v) ∷ es) (e ∷ insert_entry cmp es key v))
            ≡ cond (p (key, v)) 1 0 + (before (e ∷ es) + behind (e ∷ es))
        go Less is ih = let above : Above key (e ∷ es) = (is, above_all key e.0 es is sorted.0) in
            omega (arith, count_cons (key, v) (e ∷ es), none_in_front (e ∷ es) above, all_behind (e ∷ es) above)
        go Equal is ih =
            let above : Above key es = subst (λ k. Above k es) (sym (exact key e.0 is)) sorted.0 in
            let at : cmp e.0 key ≡ Equal = turned key e.0 Equal is in
            let named : cond (p (e.0, v)) 1 0 ≡ cond (p (key, v)) 1 0 = ap (λ (k : K). cond {A = ℕ} (p (k, v)) 1 0) (sym (exact key e.0 is)) in
            omega (arith, count_cons (e.0, v) es, named, before_at e es Equal at, behind_at e es Equal at, none_in_front es above, all_behind es above)
        go Greater is ih =
            let at : cmp e.0 key ≡ Less = turned key e.0 Greater is in
            omega (arith, count_cons e (insert_entry cmp es key v), ih, before_at e es Less at, behind_at e es Less at)

-- what `retain` leaves, where each call changes the value by f and then keeps what passes p
pub changed_from_retain : {F K X : Type 0} (T : F → K → X → Bool → X → F → Type 0) (I : F → Type 0) (f : X → X) (p : X → Bool)
    → ((g : F) (k : K) (v : X) (b : Bool) (w : X) (g' : F) → I g → T g k v b w g' → (b ≡ p (f v)) × (w ≡ f v) × I g')
    → (g : F) (es kept : List (K × X)) → I g → RetainsPairs T g es kept → kept ≡ filter (λ e. p e.1) (map (λ e. (e.0, f e.1)) es)
changed_from_retain T I f p each g [] kept i r = r
changed_from_retain T I f p each g (e ∷ es) kept i r =
    let here = each g e.0 e.1 r.0 r.1 r.2 i r.4 in
    let rest = changed_from_retain T I f p each r.2 es r.3 here.2 r.5 in
    r.6 ∙ (λ j. cond (here.0 j) ((e.0, here.1 j) ∷ rest j) (rest j))
