-- Entries, with a key more or less.
use Rattle.std.proofs.Common.{◌≡◌, ◌<◌, ◌≤◌, ◌+◌, ◌^◌, refl, sym, ap, ◌∙◌, subst, arith, rules, ℕ, List, [], ◌∷◌, length, Option, Some, None, Bool, true, false, cond}
use Rattle.std.specs.declared.cmp.Ordering.{Ordering}
use Rattle.std.specs.declared.cmp.Ordering.TheVariants.{Less, Equal, Greater}
use Rattle.std.specs.Ordering.{is_eq, is_lt, match_ordering, ordering_reverse}
use Rattle.std.specs.Option.{IsSome, option_map}
use Rattle.std.proofs.lemmas.Map.Made.{lookup-map_values}
use Rattle.std.specs.Cmp.{IsTotalOrder}
use Rattle.std.specs.Cmp.Rules.{comparing}
use Rattle.std.specs.List.{AllByRecursion}
use Rattle.std.specs.BTreeMap.{is_at}
use Rattle.share_model.specs.Keys.{KeyParts, key_cmp}
use Rattle.state_records.specs.declared.record.StateRecord.{StateRecord}
use Rattle.state_records.specs.declared.record.StateRecord.TheVariants.{Snapshot, Update, Removal, Head, Seal}
use Rattle.share_coord.specs.Stored.{Entries, Follows, AreAccepted, based, based_kept, kept_at, renewed, renewed_kept, with_kept, without_key, next_snapshot}
use Rattle.share_coord.specs.Calls.{IsForgotten}
use Rattle.share_coord.specs.Parts.{KeptState}

pub keys_total : IsTotalOrder key_cmp
keys_total = search (comparing, rules) depth 9

pub clash : true ≡ false → ⊥
clash e = absurd (subst (λ (b : Bool). if_true b) e tt)
  where
    if_true : Bool → Type 0
    if_true true = Unit {0}
    if_true false = ⊥

itself : (r : Ordering) → r ≡ ordering_reverse r → is_eq r ≡ true
itself Less e = absurd (clash (ap is_lt e))
itself Equal e = refl
itself Greater e = absurd (clash (ap is_lt (sym e)))

pub key_self : (k : KeyParts) → is_eq (key_cmp k k) ≡ true
key_self k = itself (key_cmp k k) (keys_total.antisymm k k)

is_some : {A : Type 0} → Option A → Type 0
is_some None = ⊥
is_some (Some x) = Unit {0}

pub some_none : {A : Type 0} (x : A) → Some x ≡ None → ⊥
unfolding is_some
some_none x e = subst is_some e tt

value_or : {A : Type 0} → A → Option A → A
value_or d None = d
value_or d (Some x) = x

pub some_is : {A : Type 0} (x y : A) → Some x ≡ Some y → x ≡ y
unfolding value_or
some_is x y e = ap (value_or x) e

-- ---- a key that was added is taken away again

module _ (k : KeyParts) (v : KeptState) where
  mutual_step : (r : Ordering) (e : KeyParts × KeptState) (es : Entries) → key_cmp k e.0 ≡ r → cond (is_eq r) (Some e.1) (kept_at es k) ≡ None
      → (kept_at es k ≡ None → without_key (with_kept es k v) k ≡ es)
      → without_key (match_ordering r ((k, v) ∷ e ∷ es) ((e.0, v) ∷ es) (e ∷ with_kept es k v)) k ≡ e ∷ es
  mutual_step Less e es is none again = ap (λ b. cond b (e ∷ es) ((k, v) ∷ without_key (e ∷ es) k)) (key_self k)
  mutual_step Equal e es is none again = absurd (some_none e.1 none)
  mutual_step Greater e es is none again =
      ap (λ r. cond (is_eq r) (with_kept es k v) (e ∷ without_key (with_kept es k v) k)) is ∙ ap (λ l. e ∷ l) (again none)

  pub removed_again : (es : Entries) → kept_at es k ≡ None → without_key (with_kept es k v) k ≡ es
  removed_again [] none = ap (λ b. cond b [] ((k, v) ∷ [])) (key_self k)
  removed_again (e ∷ es) none = mutual_step (key_cmp k e.0) e es refl none (removed_again es)

-- ---- what holds of all that is kept

module _ (P : KeptState → Type 0) where
  abbrev All : Entries → Type 0
  All es = AllByRecursion (λ e. P e.1) es

  by_order : (r : Ordering) (a b c : Entries) → All a → All b → All c → All (match_ordering r a b c)
  by_order Less a b c x y z = x
  by_order Equal a b c x y z = y
  by_order Greater a b c x y z = z

  pub all_with : (es : Entries) (k : KeyParts) (v : KeptState) → All es → P v → All (with_kept es k v)
  all_with [] k v h p = (p, tt)
  all_with (e ∷ es) k v h p =
      by_order (key_cmp k e.0) ((k, v) ∷ e ∷ es) ((e.0, v) ∷ es) (e ∷ with_kept es k v) (p, h) (p, h.1) (h.0, all_with es k v h.1 p)

  by_test : (b : Bool) (a c : Entries) → All a → All c → All (cond b a c)
  by_test true a c x y = x
  by_test false a c x y = y

  pub all_without : (es : Entries) (k : KeyParts) → All es → All (without_key es k)
  all_without [] k h = tt
  all_without (e ∷ es) k h = by_test (is_at (key_cmp k) e.0) es (e ∷ without_key es k) h.1 (h.0, all_without es k h.1)

  found : (b : Bool) (v w : KeptState) (rest : Option KeptState) → P v → (rest ≡ Some w → P w) → cond b (Some v) rest ≡ Some w → P w
  found true v w rest p f e = subst P (some_is v w e) p
  found false v w rest p f e = f e

  pub all_at : (es : Entries) (k : KeyParts) (v : KeptState) → All es → kept_at es k ≡ Some v → P v
  all_at [] k v h e = absurd (some_none v (sym e))
  all_at (e ∷ es) k v h is = found (is_at (key_cmp k) e.0) e.1 v (kept_at es k) h.0 (all_at es k v h.1) is

-- ---- a key has fewer snapshots than there are frames

abbrev Below : ℕ → KeptState → Type 0
Below n kept = kept.snapshot < n

more : (n m : ℕ) (es : Entries) → n ≤ m → AllByRecursion (λ e. Below n e.1) es → AllByRecursion (λ e. Below m e.1) es
more n m [] le h = tt
more n m (e ∷ es) le h = (omega (arith, le, h.0), more n m es le h.1)

next_below : (n : ℕ) (es : Entries) (k : KeyParts) (known : Option KeptState) → kept_at es k ≡ known → AllByRecursion (λ e. Below n e.1) es
    → next_snapshot known < n + 1
next_below n es k None is h = omega arith
next_below n es k (Some kept) is h = let lt = all_at (Below n) es k kept h is in omega (arith, lt)

step_below : (old : Entries) (r : StateRecord) (new : Entries) (n : ℕ) → Follows old r new → AllByRecursion (λ e. Below n e.1) old
    → AllByRecursion (λ e. Below (n + 1) e.1) new
step_below old (Snapshot state) new n f h =
    let lt = next_below n old state.key (kept_at old state.key) refl h in
    subst (λ es. AllByRecursion (λ e. Below (n + 1) e.1) es) (sym f.is)
    (all_with (Below (n + 1)) old state.key _ (more n (n + 1) old (omega arith) h) (omega (arith, lt, f.next)))
step_below old (Update state) new n f h =
    let lt = all_at (Below n) old state.key f.kept h f.known in
    subst (λ es. AllByRecursion (λ e. Below (n + 1) e.1) es) (sym f.is)
    (all_with (Below (n + 1)) old state.key _ (more n (n + 1) old (omega arith) h) (omega (arith, lt)))
step_below old (Removal key) new n f h =
    subst (λ es. AllByRecursion (λ e. Below (n + 1) e.1) es) (sym f.is)
    (all_without (Below (n + 1)) old key (more n (n + 1) old (omega arith) h))
step_below old (Head generation) new n f h = absurd f
step_below old Seal new n f h = absurd f

below : (frames : List (List ℕ)) (old new : Entries) (n : ℕ) → AreAccepted old frames new → AllByRecursion (λ e. Below n e.1) old
    → AllByRecursion (λ e. Below (n + length frames) e.1) new
below [] old new n is h = subst (λ es. AllByRecursion (λ e. Below (n + 0) e.1) es) (sym is) (more n (n + 0) old (omega arith) h)
below (f ∷ fs) old new n a h =
    more (n + 1 + length fs) (n + length (f ∷ fs)) new (omega arith) (below fs a.0 new (n + 1) a.2 (step_below old a.1.written a.0 n a.1.follows h))

pub next_few : (frames : List (List ℕ)) (entries : Entries) (key : KeyParts) → AreAccepted [] frames entries → length frames < 2 ^ 63
    → next_snapshot (kept_at entries key) < 2 ^ 64
next_few frames entries key a few =
    let all = below frames [] entries 0 a tt in
    let lt = next_below (0 + length frames) entries key (kept_at entries key) refl all in omega (arith, lt, few)

-- what is there
pub known_by : (o : Option KeptState) → IsSome o → (kept : KeptState) × (o ≡ Some kept)
known_by None h = absurd (clash (sym h))
known_by (Some kept) h = (kept, refl)

-- ---- as a checkpoint leaves it, or as it was

pub kept_renewed : (es : Entries) (key : KeyParts) → kept_at (renewed es) key ≡ option_map renewed_kept (kept_at es key)
kept_renewed es key = lookup-map_values renewed_kept (is_at (key_cmp key)) es

pub kept_based : (c : Bool) (es : Entries) (key : KeyParts) (kept : KeptState) → kept_at es key ≡ Some kept → kept_at (based c es) key ≡ Some (based_kept c kept)
kept_based false es key kept is = is
kept_based true es key kept is = kept_renewed es key ∙ ap (option_map renewed_kept) is

pub none_based : (c : Bool) (es : Entries) (key : KeyParts) → kept_at es key ≡ None → kept_at (based c es) key ≡ None
none_based false es key is = is
none_based true es key is = kept_renewed es key ∙ ap (option_map renewed_kept) is

pub forgets : (c : Bool) (es : Entries) (key : KeyParts) → IsSome (kept_at es key) → IsForgotten es key (without_key (based c es) key)
forgets c es key there = (known_by (kept_at es key) there, (c, refl))
