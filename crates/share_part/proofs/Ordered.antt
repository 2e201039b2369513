-- The groups of a partition in byte order: those that have a table, and those of which something is due.
use Rattle.std.proofs.Common.{◌≡◌, ◌⊎◌, ◌∙◌, inl, inr, refl, sym, ap, subst, ℕ, List, [], ◌∷◌, map, Option, Some, None, Bool, true, false, cond}
use Rattle.std.specs.Prelude.{filter, nat_eq, not}
use Rattle.std.specs.BTreeMap.{insert_entry, is_at}
use Rattle.std.specs.Cmp.{IsTotalOrder, nat_cmp_total}
use Rattle.std.specs.Cmp.Lexicographic.{slice_cmp, nat_list_cmp_total}
use Rattle.std.specs.List.{AllByRecursion}
use Rattle.std.specs.List.Sorted.{IsStrictlySortedBy}
use Rattle.std.specs.Map.{keys_of, lookup, remove_entry}
use Rattle.std.specs.Ordering.{is_eq, match_ordering, nat_cmp, ordering_reverse, ordering_then}
use Rattle.std.specs.declared.cmp.Ordering.{Ordering}
use Rattle.std.specs.declared.cmp.Ordering.TheVariants.{Less, Equal, Greater}
use Rattle.std.proofs.lemmas.Map.Lookups.{CmpEqualImpliesEq, exact_bytes, exact_unsigned}
use Rattle.share_coord.specs.Stored.{AreAccepted, Entries, Follows}
use Rattle.share_model.specs.ForeignRules.{ShareStates, share_state_at}
use Rattle.share_model.specs.Held.{Held}
use Rattle.share_model.specs.Keys.{KeyParts, key_cmp}
use Rattle.share_model.specs.Logs.{Batch}
use Rattle.share_model.specs.ShareStates.{ShareState}
use Rattle.share_part.specs.Acknowledging.{NameNone}
use Rattle.share_part.specs.Expiring.{ending, groups_of}
use Rattle.share_part.specs.Hosting.{AreHosted, KeepsHolds, PartConfParts, key_of}
use Rattle.share_coord.specs.States.{states_of}
use Rattle.share_part.specs.Once.{IsNothingDue}
use Rattle.share_part.specs.Releasing.{due_groups, has_due}
use Rattle.share_part.specs.Settling.{is_chosen}
use Rattle.share_part.specs.Shards.{held_in, held_of}
use Rattle.share_part.specs.declared.settle.Whose.TheVariants.{Due}
use Rattle.share_part.proofs.Slotting.{starting}
use Rattle.share_part.proofs.Holding.{AreKept}
use Rattle.share_part.proofs.Letting.{none_counted}
use Rattle.share_part.proofs.Mapping.{at_is, at_self, equal_is, keys_exact, keys_total}
use Rattle.state_records.specs.declared.record.StateRecord.{StateRecord}
use Rattle.state_records.specs.declared.record.StateRecord.TheVariants.{Snapshot, Update, Removal, Head, Seal}
use Rattle.lock_index.specs.Windows.{IsRising}

-- ---- entries in the order of their keys

-- no key lies below itself
not_less : {K : Type 0} (cmp : K → K → Ordering) (order : IsTotalOrder cmp) (exact : CmpEqualImpliesEq cmp) (k : K) → cmp k k ≡ Less → ⊥
not_less cmp order exact k less =
    let self : is_eq (cmp k k) ≡ true = at_self cmp order exact k in
    let never : is_eq Less ≡ true = sym (ap is_eq less) ∙ self in let clash : ⊥ = cc in clash

module _ {K : Type 0} (cmp : K → K → Ordering) (order : IsTotalOrder cmp) where
  abbrev Above : {X : Type 0} → K → List (K × X) → Type 0
  Above key es = AllByRecursion (λ k. cmp key k ≡ Less) (keys_of es)

  abbrev pub Sorted : {X : Type 0} → List (K × X) → Type 0
  Sorted es = IsStrictlySortedBy cmp (keys_of es)

  above_all : {X : Type 0} (low key : K) (es : List (K × X)) → cmp low key ≡ Less → Above key es → Above low es
  above_all low key [] less above = tt
  above_all low key (e ∷ es) less above = (order.trans low key e.0 less above.0, above_all low key es less above.1)

  above_test : {X : Type 0} (low : K) (b : Bool) (a c : List (K × X)) → Above low a → Above low c → Above low (cond b a c)
  above_test low true a c x y = x
  above_test low false a c x y = y

  above_remove : {X : Type 0} (low : K) (test : K → Bool) (es : List (K × X)) → Above low es → Above low (remove_entry test es)
  above_remove low test [] above = tt
  above_remove low test (e ∷ es) above = above_test low (test e.0) es (e ∷ remove_entry test es) above.1 (above.0, above_remove low test es above.1)

  sorted_test : {X : Type 0} (b : Bool) (a c : List (K × X)) → Sorted a → Sorted c → Sorted (cond b a c)
  sorted_test true a c x y = x
  sorted_test false a c x y = y

  sorted_remove : {X : Type 0} (test : K → Bool) (es : List (K × X)) → Sorted es → Sorted (remove_entry test es)
  unfolding IsStrictlySortedBy
  sorted_remove test [] sorted = tt
  sorted_remove test (e ∷ es) sorted =
      sorted_test (test e.0) es (e ∷ remove_entry test es) sorted.1 (above_remove e.0 test es sorted.0, sorted_remove test es sorted.1)

  module _ {X : Type 0} (key : K) (value : X) where
    above_insert : (low : K) (es : List (K × X)) → cmp low key ≡ Less → Above low es → Above low (insert_entry cmp es key value)
    above_insert low [] less above = (less, tt)
    above_insert low (e ∷ es) less above = go (cmp key e.0) (above_insert low es less above.1) where
      go : (o : Ordering) → Above low (insert_entry cmp es key value)
          → Above low (match_ordering o ((key, value) ∷ e ∷ es) ((e.0, value) ∷ es) (e ∷ insert_entry cmp es key value))
      go Less ih = (less, above)
      go Equal ih = (above.0, above.1)
      go Greater ih = (above.0, ih)

    sorted_insert : (es : List (K × X)) → Sorted es → Sorted (insert_entry cmp es key value)
    unfolding IsStrictlySortedBy
    sorted_insert [] sorted = (tt, tt)
    sorted_insert (e ∷ es) sorted = go (cmp key e.0) refl (sorted_insert es sorted.1) where
      go : (o : Ordering) → cmp key e.0 ≡ o → Sorted (insert_entry cmp es key value)
          → Sorted (match_ordering o ((key, value) ∷ e ∷ es) ((e.0, value) ∷ es) (e ∷ insert_entry cmp es key value))
      go Less is ih = ((is, above_all key e.0 es is sorted.0), sorted)
      go Equal is ih = (sorted.0, sorted.1)
      go Greater is ih = (above_insert e.0 es (order.antisymm e.0 key ∙ ap ordering_reverse is) sorted.0, ih)

  module _ {X : Type 0} (exact : CmpEqualImpliesEq cmp) where
    abbrev Finds : List (K × X) → K × X → Type 0
    Finds es e = lookup (is_at (cmp e.0)) es ≡ Some e.1

    found_behind : (e : K × X) (rest es : List (K × X)) → Above e.0 rest → AllByRecursion (Finds es) rest → AllByRecursion (Finds (e ∷ es)) rest
    found_behind e [] es above h = tt
    found_behind e (f ∷ rest) es above h = (
      ap (λ (t : Bool). cond t (Some e.1) (lookup (is_at (cmp f.0)) es)) (apart (is_at (cmp f.0) e.0) refl) ∙ h.0,
      found_behind e rest es above.1 h.1,
    )
      where
        apart : (t : Bool) → is_at (cmp f.0) e.0 ≡ t → is_at (cmp f.0) e.0 ≡ false
        apart true t = absurd (not_less cmp order exact e.0 (subst (λ (k : K). cmp e.0 k ≡ Less) (at_is cmp order exact f.0 e.0 t) above.0))
        apart false t = t

    -- each entry is what a look-up finds
    pub each_found : (es : List (K × X)) → Sorted es → AllByRecursion (Finds es) es
    unfolding IsStrictlySortedBy
    each_found [] sorted = tt
    each_found (e ∷ es) sorted = (
      ap (λ (t : Bool). cond t (Some e.1) (lookup (is_at (cmp e.0)) es)) (at_self cmp order exact e.0),
      found_behind e es es sorted.0 (each_found es sorted.1),
    )

-- ---- the states of a store

same_keys : (es : Entries) → keys_of (states_of es) ≡ keys_of es
same_keys [] = refl
same_keys (e ∷ es) = ap (λ (keys : List KeyParts). e.0 ∷ keys) (same_keys es)

module _ (P : KeyParts → ShareState → Type 0) where
  abbrev pub AllAre : ShareStates → Type 0
  AllAre states = (key : KeyParts) (state : ShareState) → share_state_at states key ≡ Some state → P key state

  all_are : (states : ShareStates) → AllByRecursion (λ (e : KeyParts × ShareState). P e.0 e.1) states → AllAre states
  all_are [] all key state is = absurd (let clash : ⊥ = cc in clash)
  all_are (e ∷ states) all key state is = by_test (is_at (key_cmp key) e.0) refl is (all_are states all.1 key state)
    where
      by_test : (b : Bool) → is_at (key_cmp key) e.0 ≡ b → cond b (Some e.1) (share_state_at states key) ≡ Some state
          → (share_state_at states key ≡ Some state → P key state) → P key state
      by_test true at is ih =
          let same : e.1 ≡ state = cc in
          subst (P key) same (subst (λ (k : KeyParts). P k e.1) (sym (at_is key_cmp keys_total keys_exact key e.0 at)) all.0)
      by_test false at is ih = ih is

  -- A walk over the states of a store: those that are left are found, and where they are such, all are.
  pub record Walks (states rest : ShareStates) : Type 0 where
    pub found : AllByRecursion (λ (e : KeyParts × ShareState). share_state_at states e.0 ≡ Some e.1) rest
    pub whole : AllByRecursion (λ (e : KeyParts × ShareState). P e.0 e.1) rest → AllAre states

  pub walk_begins : (es : Entries) → IsStrictlySortedBy key_cmp (keys_of es) → (rest : ShareStates) → rest ≡ states_of es → Walks (states_of es) rest
  walk_begins es sorted rest is = subst (Walks (states_of es)) (sym is) (record {
    found = each_found key_cmp keys_total keys_exact (states_of es) (subst (IsStrictlySortedBy key_cmp) (sym (same_keys es)) sorted);
    whole = all_are (states_of es);
  })

  module _ (states rest : ShareStates) (walks : Walks states rest) where
    pub walk_on : (key : KeyParts) (state : ShareState) (more : ShareStates) → rest ≡ (key, state) ∷ more → P key state → Walks states more
    walk_on key state more is p =
        let w = subst (Walks states) is walks in record { found = w.found.1; whole = λ all. w.whole (p, all) }

    pub walk_ends : rest ≡ [] → AllAre states
    walk_ends is = (subst (Walks states) is walks).whole tt

    pub walk_meets : (key : KeyParts) (state : ShareState) (more : ShareStates) → rest ≡ (key, state) ∷ more → AllAre states → P key state
    walk_meets key state more is all = all key state (subst (Walks states) is walks).found.0

sorted_by : (old : Entries) (written : StateRecord) (new : Entries) → Follows old written new → Sorted key_cmp keys_total old → Sorted key_cmp keys_total new
sorted_by old (Snapshot state) new is sorted = subst (λ (es : Entries). Sorted key_cmp keys_total es) (sym is.is) (sorted_insert key_cmp keys_total state.key _ old sorted)
sorted_by old (Update state) new is sorted = subst (λ (es : Entries). Sorted key_cmp keys_total es) (sym is.is) (sorted_insert key_cmp keys_total state.key _ old sorted)
sorted_by old (Removal key) new is sorted = subst (λ (es : Entries). Sorted key_cmp keys_total es) (sym is.is) (sorted_remove key_cmp keys_total (is_at (key_cmp key)) old sorted)
sorted_by old (Head generation) new is sorted = absurd is
sorted_by old Seal new is sorted = absurd is

sorted_from : (old : Entries) (frames : List (List ℕ)) (new : Entries) → AreAccepted old frames new → Sorted key_cmp keys_total old → Sorted key_cmp keys_total new
sorted_from old [] new is sorted = subst (λ (es : Entries). Sorted key_cmp keys_total es) (sym is) sorted
sorted_from old (frame ∷ frames) new is sorted = sorted_from is.0 frames new is.2 (sorted_by old is.1.written is.0 is.1.follows sorted)

pub entries_sorted : (frames : List (List ℕ)) (es : Entries) → AreAccepted [] frames es → IsStrictlySortedBy key_cmp (keys_of es)
unfolding IsStrictlySortedBy
entries_sorted frames es is = sorted_from [] frames es is tt

-- ---- lists of groups

abbrev pub id_cmp : List ℕ → List ℕ → Ordering
id_cmp = slice_cmp nat_cmp

abbrev pub InOrder : List (List ℕ) → Type 0
InOrder groups = IsStrictlySortedBy id_cmp groups

-- the group is one of the list
abbrev pub IsIn : List (List ℕ) → List ℕ → Type 0
IsIn [] group = ⊥
IsIn (x ∷ xs) group = (x ≡ group) ⊎ IsIn xs group

below_in : (x group : List ℕ) (xs : List (List ℕ)) → AllByRecursion (λ y. id_cmp x y ≡ Less) xs → IsIn xs group → id_cmp x group ≡ Less
below_in x group [] all h = absurd h
below_in x group (y ∷ xs) all (inl is) = subst (λ (g : List ℕ). id_cmp x g ≡ Less) is all.0
below_in x group (y ∷ xs) all (inr h) = below_in x group xs all.1 h

not_below : (x : List ℕ) → id_cmp x x ≡ Less → ⊥
not_below x less = not_less id_cmp nat_list_cmp_total exact_bytes x less

-- lists in order with the same groups are one
module _ (x y : List ℕ) (xs ys : List (List ℕ)) (sx : AllByRecursion (λ g. id_cmp x g ≡ Less) xs) (sy : AllByRecursion (λ g. id_cmp y g ≡ Less) ys) where
  first_same : IsIn (y ∷ ys) x → IsIn (x ∷ xs) y → x ≡ y
  first_same (inl is) h = sym is
  first_same (inr less) (inl is) = is
  first_same (inr less) (inr more) = absurd (not_below x (nat_list_cmp_total.trans x y x (below_in x y xs sx more) (below_in y x ys sy less)))

  rest_same : x ≡ y → ((g : List ℕ) → IsIn (x ∷ xs) g → IsIn (y ∷ ys) g) → (g : List ℕ) → IsIn xs g → IsIn ys g
  rest_same is there g h = by_place (there g (inr h))
    where
      by_place : IsIn (y ∷ ys) g → IsIn ys g
      by_place (inl same) = absurd (not_below x (subst (λ (z : List ℕ). id_cmp x z ≡ Less) (sym (is ∙ same)) (below_in x g xs sx h)))
      by_place (inr more) = more

pub same_list : (xs ys : List (List ℕ)) → InOrder xs → InOrder ys → ((g : List ℕ) → IsIn xs g → IsIn ys g) → ((g : List ℕ) → IsIn ys g → IsIn xs g) → xs ≡ ys
unfolding IsStrictlySortedBy
same_list [] [] sx sy there back = refl
same_list [] (y ∷ ys) sx sy there back = absurd (back y (inl refl))
same_list (x ∷ xs) [] sx sy there back = absurd (there x (inl refl))
same_list (x ∷ xs) (y ∷ ys) sx sy there back =
    let is : x ≡ y = first_same x y xs ys sx.0 sy.0 (there x (inl refl)) (back y (inl refl)) in
    let rest : xs ≡ ys = same_list xs ys sx.1 sy.1 (rest_same x y xs ys sx.0 sy.0 is there) (rest_same y x ys xs sy.0 sx.0 (sym is) back) in
    λ i. is i ∷ rest i

module _ (p : List ℕ → Bool) where
  pub filter_in : (xs : List (List ℕ)) (g : List ℕ) → IsIn xs g → p g ≡ true → IsIn (filter p xs) g
  filter_in [] g h is = absurd h
  filter_in (x ∷ xs) g h is = by_test (p x) refl h (λ more. filter_in xs g more is)
    where
      by_test : (b : Bool) → p x ≡ b → (x ≡ g) ⊎ IsIn xs g → (IsIn xs g → IsIn (filter p xs) g) → IsIn (cond b (x ∷ filter p xs) (filter p xs)) g
      by_test true t (inl same) ih = inl same
      by_test true t (inr more) ih = inr (ih more)
      by_test false t (inl same) ih = absurd (let clash : false ≡ true = sym t ∙ (ap p same ∙ is) in let never : ⊥ = cc in never)
      by_test false t (inr more) ih = ih more

  pub in_filter : (xs : List (List ℕ)) (g : List ℕ) → IsIn (filter p xs) g → IsIn xs g × (p g ≡ true)
  in_filter [] g h = absurd h
  in_filter (x ∷ xs) g h = by_test (p x) refl h (λ more. in_filter xs g more)
    where
      by_test : (b : Bool) → p x ≡ b → IsIn (cond b (x ∷ filter p xs) (filter p xs)) g → (IsIn (filter p xs) g → IsIn xs g × (p g ≡ true)) → IsIn (x ∷ xs) g × (p g ≡ true)
      by_test true t (inl same) ih = (inl same, sym (ap p same) ∙ t)
      by_test true t (inr more) ih = let r = ih more in (inr r.0, r.1)
      by_test false t more ih = let r = ih more in (inr r.0, r.1)

  above_filter : (x : List ℕ) (xs : List (List ℕ)) → AllByRecursion (λ y. id_cmp x y ≡ Less) xs → AllByRecursion (λ y. id_cmp x y ≡ Less) (filter p xs)
  above_filter x [] all = tt
  above_filter x (y ∷ xs) all = by_test (p y) (above_filter x xs all.1)
    where
      by_test : (b : Bool) → AllByRecursion (λ z. id_cmp x z ≡ Less) (filter p xs) → AllByRecursion (λ z. id_cmp x z ≡ Less) (cond b (y ∷ filter p xs) (filter p xs))
      by_test true ih = (all.0, ih)
      by_test false ih = ih

  pub filter_order : (xs : List (List ℕ)) → InOrder xs → InOrder (filter p xs)
  unfolding IsStrictlySortedBy
  filter_order [] sorted = tt
  filter_order (x ∷ xs) sorted = by_test (p x) (filter_order xs sorted.1)
    where
      by_test : (b : Bool) → InOrder (filter p xs) → InOrder (cond b (x ∷ filter p xs) (filter p xs))
      by_test true ih = (above_filter x xs sorted.0, ih)
      by_test false ih = ih

-- ---- the groups that have a table

module _ (conf : PartConfParts) (log : List Batch) where
  -- the key of each is one of the partition
  abbrev AreOfPart : ShareStates → Type 0
  AreOfPart states = AllByRecursion (λ (e : KeyParts × ShareState). e.0 ≡ key_of conf e.0.group) states

  found_part : (es : Entries) → IsStrictlySortedBy key_cmp (keys_of es) → ((key : KeyParts) (state : ShareState) → share_state_at (states_of es) key ≡ Some state → key ≡ key_of conf key.group)
      → AreOfPart (states_of es)
  unfolding IsStrictlySortedBy
  found_part [] sorted h = tt
  found_part (e ∷ es) sorted h = (
    h e.0 e.1.view (ap (λ (b : Bool). cond b (Some e.1.view) (share_state_at (states_of es) e.0)) (at_self key_cmp keys_total keys_exact e.0)),
    found_part es sorted.1 (λ key state is. h key state (ap (λ (b : Bool). cond b (Some e.1.view) (share_state_at (states_of es) key)) (apart key state is (is_at (key_cmp key) e.0) refl) ∙ is)),
  )
    where
      key_in : (fs : Entries) (key : KeyParts) (state : ShareState) → AllByRecursion (λ k. key_cmp e.0 k ≡ Less) (keys_of fs) → share_state_at (states_of fs) key ≡ Some state → key_cmp e.0 key ≡ Less
      key_in [] key state all is = absurd (let clash : ⊥ = cc in clash)
      key_in (f ∷ fs) key state all is = by_test (is_at (key_cmp key) f.0) refl is (key_in fs key state all.1)
        where
          by_test : (b : Bool) → is_at (key_cmp key) f.0 ≡ b → cond b (Some f.1.view) (share_state_at (states_of fs) key) ≡ Some state
              → (share_state_at (states_of fs) key ≡ Some state → key_cmp e.0 key ≡ Less) → key_cmp e.0 key ≡ Less
          by_test true t is ih = subst (λ (k : KeyParts). key_cmp e.0 k ≡ Less) (sym (at_is key_cmp keys_total keys_exact key f.0 t)) all.0
          by_test false t is ih = ih is

      apart : (key : KeyParts) (state : ShareState) → share_state_at (states_of es) key ≡ Some state → (b : Bool) → is_at (key_cmp key) e.0 ≡ b → is_at (key_cmp key) e.0 ≡ false
      apart key state is true t = absurd (not_less key_cmp keys_total keys_exact key (subst (λ (k : KeyParts). key_cmp k key ≡ Less) (sym (at_is key_cmp keys_total keys_exact key e.0 t)) (key_in es key state sorted.0 is)))
      apart key state is false t = t

  -- keys of one partition lie as their groups do
  group_less : (a b : List ℕ) → key_cmp (key_of conf a) (key_of conf b) ≡ Less → id_cmp a b ≡ Less
  group_less a b less = by_group (id_cmp a b) (ordering_then (id_cmp conf.topic conf.topic) (nat_cmp conf.part conf.part)) refl less
    where
      same_rest : is_eq (ordering_then (id_cmp conf.topic conf.topic) (nat_cmp conf.part conf.part)) ≡ true
      same_rest =
          let topic = equal_is (id_cmp conf.topic conf.topic) (at_self id_cmp nat_list_cmp_total exact_bytes conf.topic) in
          let part = equal_is (nat_cmp conf.part conf.part) (at_self nat_cmp nat_cmp_total exact_unsigned conf.part) in
          λ i. is_eq (ordering_then (topic i) (part i))

      by_group : (o rest : Ordering) → rest ≡ ordering_then (id_cmp conf.topic conf.topic) (nat_cmp conf.part conf.part) → ordering_then o rest ≡ Less → o ≡ Less
      by_group Less rest is h = refl
      by_group Equal rest is h = absurd (let never : is_eq Less ≡ true = sym (ap is_eq h) ∙ (ap is_eq is ∙ same_rest) in let clash : ⊥ = cc in clash)
      by_group Greater rest is h = absurd (let clash : ⊥ = cc in clash)

  above_groups : (key : KeyParts) (states : ShareStates) → key ≡ key_of conf key.group → AllByRecursion (λ k. key_cmp key k ≡ Less) (keys_of states) → AreOfPart states
      → AllByRecursion (λ g. id_cmp key.group g ≡ Less) (groups_of states)
  above_groups key [] is all part = tt
  above_groups key (e ∷ states) is all part = (
    group_less key.group e.0.group (subst (λ (k : KeyParts). key_cmp (key_of conf key.group) k ≡ Less) part.0 (subst (λ (k : KeyParts). key_cmp k e.0 ≡ Less) is all.0)),
    above_groups key states is all.1 part.1,
  )

  in_order : (states : ShareStates) → IsStrictlySortedBy key_cmp (keys_of states) → AreOfPart states → InOrder (groups_of states)
  unfolding IsStrictlySortedBy
  in_order [] sorted part = tt
  in_order (e ∷ states) sorted part = (above_groups e.0 states part.0 sorted.0 part.1, in_order states sorted.1 part.1)

  -- they are in byte order
  pub groups_order : {from : ℕ} → (es : Entries) → IsStrictlySortedBy key_cmp (keys_of es) → AreHosted conf (starting log from) (states_of es)
      → InOrder (groups_of (states_of es))
  groups_order es sorted hosted = in_order (states_of es) (subst (IsStrictlySortedBy key_cmp) (sym (same_keys es)) sorted)
      (found_part es sorted (λ key state is. (hosted key state is).key_is))

  -- a group that has a table is one of them
  pub group_in : (states : ShareStates) (group : List ℕ) (state : ShareState) → share_state_at states (key_of conf group) ≡ Some state → IsIn (groups_of states) group
  group_in [] group state is = absurd (let clash : ⊥ = cc in clash)
  group_in (e ∷ states) group state is = by_test (is_at (key_cmp (key_of conf group)) e.0) refl is (group_in states group state)
    where
      by_test : (b : Bool) → is_at (key_cmp (key_of conf group)) e.0 ≡ b → cond b (Some e.1) (share_state_at states (key_of conf group)) ≡ Some state
          → (share_state_at states (key_of conf group) ≡ Some state → IsIn (groups_of states) group) → (e.0.group ≡ group) ⊎ IsIn (groups_of states) group
      by_test true t is ih = inl (sym (ap (λ (k : KeyParts). k.group) (at_is key_cmp keys_total keys_exact (key_of conf group) e.0 t)))
      by_test false t is ih = inr (ih is)

-- ---- the groups of which something is due

module _ {W : Type 0} (holding : W → Held) (clock : ℕ) where
  abbrev IsDue : List ℕ × W → Bool
  IsDue e = has_due clock (holding e.1)

  above_due : (low : List ℕ) (windows : List (List ℕ × W)) → AllByRecursion (λ g. id_cmp low g ≡ Less) (keys_of windows) → AllByRecursion (λ g. id_cmp low g ≡ Less) (due_groups holding clock windows)
  above_due low [] all = tt
  above_due low (e ∷ windows) all = by_test (IsDue e) (above_due low windows all.1)
    where
      by_test : (b : Bool) → AllByRecursion (λ g. id_cmp low g ≡ Less) (due_groups holding clock windows)
          → AllByRecursion (λ g. id_cmp low g ≡ Less) (map (λ (x : List ℕ × W). x.0) (cond b (e ∷ filter IsDue windows) (filter IsDue windows)))
      by_test true ih = (all.0, ih)
      by_test false ih = ih

  pub due_order : (windows : List (List ℕ × W)) → InOrder (keys_of windows) → InOrder (due_groups holding clock windows)
  unfolding IsStrictlySortedBy
  due_order [] sorted = tt
  due_order (e ∷ windows) sorted = by_test (IsDue e) (due_order windows sorted.1)
    where
      by_test : (b : Bool) → InOrder (due_groups holding clock windows) → InOrder (map (λ (x : List ℕ × W). x.0) (cond b (e ∷ filter IsDue windows) (filter IsDue windows)))
      by_test true ih = (above_due e.0 windows sorted.0, ih)
      by_test false ih = ih

  -- what a group holds, of which something is due
  abbrev IsDueOf : List (List ℕ × W) → List ℕ → Type 0
  IsDueOf windows group = has_due clock (held_in holding windows group) ≡ true

  due_in : (windows : List (List ℕ × W)) (group : List ℕ) → IsDueOf windows group → IsIn (due_groups holding clock windows) group
  due_in [] group due = absurd (let clash : ⊥ = cc in clash)
  due_in (e ∷ windows) group due = by_test (is_at (id_cmp group) e.0) refl due (IsDue e) refl (due_in windows group)
    where
      by_test : (t : Bool) → is_at (id_cmp group) e.0 ≡ t → has_due clock (held_of holding (cond t (Some e.1) (lookup (is_at (id_cmp group)) windows))) ≡ true
          → (b : Bool) → IsDue e ≡ b → (IsDueOf windows group → IsIn (due_groups holding clock windows) group)
          → IsIn (map (λ (x : List ℕ × W). x.0) (cond b (e ∷ filter IsDue windows) (filter IsDue windows))) group
      by_test true t due true b ih = inl (sym (at_is id_cmp nat_list_cmp_total exact_bytes group e.0 t))
      by_test true t due false b ih = absurd (let never : false ≡ true = sym b ∙ due in let clash : ⊥ = cc in clash)
      by_test false t due true b ih = inr (ih due)
      by_test false t due false b ih = ih due

  key_above : (low group : List ℕ) (windows : List (List ℕ × W)) → AllByRecursion (λ g. id_cmp low g ≡ Less) (keys_of windows) → IsIn (due_groups holding clock windows) group → id_cmp low group ≡ Less
  key_above low group windows all h = below_in low group (due_groups holding clock windows) (above_due low windows all) h

  in_due : (windows : List (List ℕ × W)) (group : List ℕ) → InOrder (keys_of windows) → IsIn (due_groups holding clock windows) group → IsDueOf windows group
  unfolding IsStrictlySortedBy
  in_due [] group sorted h = absurd h
  in_due (e ∷ windows) group sorted h = by_test (IsDue e) refl h (in_due windows group sorted.1)
    where
      passed : IsIn (due_groups holding clock windows) group → (t : Bool) → is_at (id_cmp group) e.0 ≡ t → has_due clock (held_in holding windows group) ≡ true
          → has_due clock (held_of holding (cond t (Some e.1) (lookup (is_at (id_cmp group)) windows))) ≡ true
      passed more true t due = absurd (not_below e.0 (subst (λ (g : List ℕ). id_cmp e.0 g ≡ Less) (at_is id_cmp nat_list_cmp_total exact_bytes group e.0 t) (key_above e.0 group windows sorted.0 more)))
      passed more false t due = due

      by_test : (b : Bool) → IsDue e ≡ b → IsIn (map (λ (x : List ℕ × W). x.0) (cond b (e ∷ filter IsDue windows) (filter IsDue windows))) group
          → (IsIn (due_groups holding clock windows) group → IsDueOf windows group)
          → has_due clock (held_of holding (cond (is_at (id_cmp group) e.0) (Some e.1) (lookup (is_at (id_cmp group)) windows))) ≡ true
      by_test true b (inl same) ih =
          let self : is_at (id_cmp group) e.0 ≡ true = subst (λ (g : List ℕ). is_at (id_cmp g) e.0 ≡ true) same (at_self id_cmp nat_list_cmp_total exact_bytes e.0) in
          ap (λ (t : Bool). has_due clock (held_of holding (cond t (Some e.1) (lookup (is_at (id_cmp group)) windows)))) self ∙ b
      by_test true b (inr more) ih = passed more (is_at (id_cmp group) e.0) refl (ih more)
      by_test false b more ih = passed more (is_at (id_cmp group) e.0) refl (ih more)

  -- each window is what a look-up finds
  pub found_all : (windows : List (List ℕ × W)) → InOrder (keys_of windows) → AllByRecursion (λ (e : List ℕ × W). lookup (is_at (id_cmp e.0)) windows ≡ Some e.1) windows
  found_all windows sorted = each_found id_cmp nat_list_cmp_total exact_bytes windows sorted

  -- where nothing is due, no window has anything due
  not_due : (held : Held) → IsRising held → NameNone (ending clock held) → has_due clock held ≡ false
  not_due held rises none = ap (λ (n : ℕ). not (nat_eq n 0)) (none_counted (is_chosen (Due clock)) held rises none)

  pub due_there : (windows : List (List ℕ × W)) (group : List ℕ) (w : W) → lookup (is_at (id_cmp group)) windows ≡ Some w → IsRising (holding w) → has_due clock (holding w) ≡ true
      → IsNothingDue holding windows clock → ⊥
  due_there windows group w found rises due nothing =
      let none : NameNone (ending clock (holding w)) = subst (λ (h : Held). NameNone (ending clock h)) (ap (held_of holding) found) (nothing group) in
      let never : false ≡ true = sym (not_due (holding w) rises none) ∙ due in let clash : ⊥ = cc in clash

  pub none_due : (windows rest : List (List ℕ × W)) → AllByRecursion (λ (e : List ℕ × W). lookup (is_at (id_cmp e.0)) windows ≡ Some e.1) rest
      → AllByRecursion (λ (e : List ℕ × W). IsRising (holding e.1)) rest → IsNothingDue holding windows clock → due_groups holding clock rest ≡ []
  none_due windows [] found rises nothing = refl
  none_due windows (e ∷ rest) found rises nothing =
      let none : NameNone (ending clock (holding e.1)) = subst (λ (h : Held). NameNone (ending clock h)) (ap (held_of holding) found.0) (nothing e.0) in
      ap (λ (b : Bool). map (λ (x : List ℕ × W). x.0) (cond b (e ∷ filter IsDue rest) (filter IsDue rest))) (not_due (holding e.1) rises.0 none)
      ∙ none_due windows rest found.1 rises.1 nothing

  -- they are those of the groups with a table, in byte order
  module _ {from : ℕ} (conf : PartConfParts) (log : List Batch) (es : Entries) (windows : List (List ℕ × W)) (by_key : IsStrictlySortedBy key_cmp (keys_of es)) (by_group : InOrder (keys_of windows))
      (hosted : AreHosted conf (starting log from) (states_of es)) (kept : AreKept conf log (states_of es) (held_in holding windows)) where
    abbrev pub all : List (List ℕ)
    all = groups_of (states_of es)

    abbrev pub DueOf : List ℕ → Bool
    DueOf group = has_due clock (held_in holding windows group)

    has_table : (group : List ℕ) → DueOf group ≡ true → (r : Option ShareState) → share_state_at (states_of es) (key_of conf group) ≡ r → IsIn all group
    has_table group due None is =
        let none : held_in holding windows group ≡ [] = (subst (λ (o : Option ShareState). KeepsHolds log o (held_in holding windows group)) is (kept group)).0 in
        absurd (let never : false ≡ true = sym (ap (has_due clock) none) ∙ due in let clash : ⊥ = cc in clash)
    has_table group due (Some state) is = group_in conf log (states_of es) group state is

    pub due_is_filter : due_groups holding clock windows ≡ filter DueOf all
    due_is_filter = same_list (due_groups holding clock windows) (filter DueOf all) (due_order windows by_group) (filter_order DueOf all (groups_order conf log es by_key hosted))
        (λ group h. let due = in_due windows group by_group h in
        filter_in DueOf all group (has_table group due (share_state_at (states_of es) (key_of conf group)) refl) due)
        (λ group h. due_in windows group (in_filter DueOf all group h).1)
