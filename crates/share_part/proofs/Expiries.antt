-- An expiry as a step of the shard: one due group after another.
use Rattle.std.proofs.Common.{◌≡◌, ◌⊎◌, ⊎_elim, ◌∙◌, inl, inr, refl, sym, ap, subst, arith, ℕ, zero, suc, max, min, ◌+◌, ◌-◌, ◌^◌, ◌<◌, ◌≤◌, List, [], ◌∷◌, ◌++◌, Option, Some, None, Bool, true, false, cond, nat_eq, not}
use Rattle.std.specs.Prelude.{filter}
use Rattle.std.specs.List.{AllByRecursion}
use Rattle.std.specs.List.Sorted.{IsStrictlySortedBy}
use Rattle.std.specs.BTreeMap.{is_at}
use Rattle.std.specs.Ordering.{is_eq}
use Rattle.std.specs.declared.cmp.Ordering.TheVariants.{Less}
use Rattle.std.proofs.lemmas.Bool.Decides.{nat_tests}
use Rattle.edge_io.specs.Views.{DiskView}
use Rattle.share_coord.specs.Parts.{StoreParts}
use Rattle.share_model.specs.Held.{Held}
use Rattle.share_model.specs.Logs.{Batch}
use Rattle.share_model.specs.declared.fault.StoreFault.{StoreFault}
use Rattle.share_model.specs.declared.fault.StoreFault.TheVariants.{Device, Full}
use Rattle.share_model.specs.declared.visit.ExpireAnswer.TheVariants.{Done, Store}
use Rattle.share_part.specs.Acknowledging.{NameNone, StoresActs}
use Rattle.share_part.specs.Expiring.{StepsGroup, StepsGroups, due_count, ending, more_freed}
use Rattle.share_part.specs.Failures.{AreQuiet}
use Rattle.share_part.specs.Hosting.{PartConfParts}
use Rattle.share_part.specs.Releasing.{has_due}
use Rattle.share_part.specs.Settling.{Acts, is_chosen}
use Rattle.share_part.specs.Shards.{IsStill, PartShardState, with_clock_raised}
use Rattle.share_part.specs.Writes.{WritesActs, WritesGroups}
use Rattle.share_part.specs.declared.settle.Whose.TheVariants.{Due}
use Rattle.share_part.proofs.Failing.{quiet_same}
use Rattle.share_part.proofs.Letting.{counted_none, none_named}
use Rattle.share_part.proofs.Ordered.{IsIn, InOrder, id_cmp}

-- ---- clocks

pub max_again : (a b : ℕ) → max (max a b) b ≡ max a b
max_again a b = omega arith

-- ---- acts do not see the clock

module _ (conf : PartConfParts) (rose : Type 0) (end : ℕ) (old new : PartShardState) (group : List ℕ) (acts : Acts) (now : ℕ) where
  still_as : IsStill old new → IsStill (with_clock_raised now old) new
  still_as h = record { states = h.states; pending = h.pending; held = h.held }

  pub stores_as : (fault : Option StoreFault) → StoresActs conf rose end old group acts new fault → StoresActs conf rose end (with_clock_raised now old) group acts new fault
  stores_as None (inl h) = inl (h.0, still_as h.1)
  stores_as None (inr h) = inr (h.0, record { states = record { state = h.1.states.state; next = h.1.states.next; known = h.1.states.known; settled = h.1.states.settled; is = h.1.states.is }; nothing = h.1.nothing; held = h.1.held })
  stores_as (Some Device) h = (
    h.0,
    h.1,
    record {
      states = h.2.states;
      held = h.2.held;
      pending = ⊎_elim (λ same. inl same) (λ other. inr (⊎_elim (λ none. inl none) (λ lost. inr (lost.0, lost.1, record { state = lost.2.state; next = lost.2.next; known = lost.2.known; settled = lost.2.settled; is = lost.2.is })) other)) h.2.pending;
    },
  )
  stores_as (Some (Full at)) h = (
    h.0,
    h.1,
    still_as h.2,
    record {
      before = h.3.before;
      state = h.3.state;
      change = h.3.change;
      one = h.3.one;
      is_before = h.3.is_before;
      known = h.3.known;
      is_change = h.3.is_change;
      is_one = h.3.is_one;
      past = h.3.past;
    },
  )

-- ---- groups that are done

module _ (conf : PartConfParts) where
  -- the groups are all done: so the faults, the end of the journal and the number freed are these
  abbrev pub StepsTo : (count end : ℕ) → List (List ℕ) → (freed : ℕ) → PartShardState → (later at more : ℕ) → PartShardState → Type 0
  StepsTo count end [] freed old later at more new = (later ≡ count) × (at ≡ end) × (more ≡ freed) × (new ≡ old)
  StepsTo count end (group ∷ groups) freed old later at more new =
      (between : PartShardState) × (counted : ℕ) × (mid : ℕ) × StepsGroup conf count counted end old group None between
      × (NameNone (ending old.clock (old.held group)) → mid ≡ end)
      × StepsTo counted mid groups (more_freed freed (due_count old.clock (old.held group))) between later at more new

  pub all_done : (count end : ℕ) (groups : List (List ℕ)) (freed : ℕ) (old : PartShardState) (later at more : ℕ) (new : PartShardState) → StepsTo count end groups freed old later at more new
      → (last : ℕ) → later ≤ last → StepsGroups conf count last end at groups freed old (Done more) new
  all_done count end [] freed old later at more new h last le =
      (ap (λ (n : ℕ). Done n) h.2, h.3, (let same = h.0 in omega (arith, same, le)), h.1)
  all_done count end (group ∷ groups) freed old later at more new h last le =
      inl (h.0, h.1, h.2, h.3, h.4, all_done h.1 h.2 groups (more_freed freed (due_count old.clock (old.held group))) h.0 later at more new h.5 last le)

  pub one_fails : (count end : ℕ) (groups : List (List ℕ)) (freed : ℕ) (old : PartShardState) (later at more : ℕ) (mid : PartShardState) → StepsTo count end groups freed old later at more mid
      → (group : List ℕ) (rest : List (List ℕ)) (last top : ℕ) (fault : StoreFault) (new : PartShardState) → StepsGroup conf later last at mid group (Some fault) new
      → StepsGroups conf count last end top (groups ++ (group ∷ rest)) freed old (Store more group fault) new
  one_fails count end [] freed old later at more mid h group rest last top fault new step = inr (
    fault,
    ap (λ (n : ℕ). Store n group fault) h.2,
    subst (λ (s : PartShardState). StepsGroup conf count last end s group (Some fault) new) h.3
        (subst (λ (n : ℕ). StepsGroup conf count last n mid group (Some fault) new) h.1
        (subst (λ (n : ℕ). StepsGroup conf n last at mid group (Some fault) new) h.0 step)),
  )
  one_fails count end (first ∷ groups) freed old later at more mid h group rest last top fault new step =
      inl (h.0, h.1, h.2, h.3, h.4, one_fails h.1 h.2 groups (more_freed freed (due_count old.clock (old.held first))) h.0 later at more mid h.5 group rest last top fault new step)

  pub one_more : (count end : ℕ) (groups : List (List ℕ)) (freed : ℕ) (old : PartShardState) (later at more : ℕ) (mid : PartShardState) → StepsTo count end groups freed old later at more mid
      → (group : List ℕ) (last next : ℕ) (new : PartShardState) → StepsGroup conf later last at mid group None new → (NameNone (ending mid.clock (mid.held group)) → next ≡ at)
      → StepsTo count end (groups ++ group ∷ []) freed old last next (more_freed more (due_count mid.clock (mid.held group))) new
  one_more count end [] freed old later at more mid h group last next new step same = (
    new,
    last,
    next,
    subst (λ (s : PartShardState). StepsGroup conf count last end s group None new) h.3
        (subst (λ (n : ℕ). StepsGroup conf count last n mid group None new) h.1
        (subst (λ (n : ℕ). StepsGroup conf n last at mid group None new) h.0 step)),
    subst (λ (s : PartShardState). NameNone (ending s.clock (s.held group)) → next ≡ end) h.3 (λ none. same none ∙ h.1),
    (
      refl,
      refl,
      (λ i. more_freed (h.2 i) (due_count (h.3 i).clock ((h.3 i).held group))),
      refl,
    ),
  )
  one_more count end (first ∷ groups) freed old later at more mid h group last next new step same =
      (h.0, h.1, h.2, h.3, h.4, one_more h.1 h.2 groups (more_freed freed (due_count old.clock (old.held first))) h.0 later at more mid h.5 group last next new step same)

  -- groups of which nothing is due are passed
  pub all_pass : (count end : ℕ) (groups : List (List ℕ)) (freed : ℕ) (old : PartShardState) (later at more : ℕ) (mid : PartShardState) → StepsTo count end groups freed old later at more mid
      → more ≤ 2 ^ 64 - 1 → (passed : List (List ℕ)) → ((g : List ℕ) → IsIn passed g → due_count mid.clock (mid.held g) ≡ 0)
      → StepsTo count end (groups ++ passed) freed old later at more mid
  all_pass count end [] freed old later at more mid h few [] none = h
  all_pass count end [] freed old later at more mid h few (g ∷ passed) none = (
    old,
    count,
    end,
    record { counts = omega arith; log = refl; clock = refl; stores = inl (nothing, record { states = refl; pending = refl; held = refl }) },
    (λ x. refl),
    all_pass count end [] (more_freed freed (due_count old.clock (old.held g))) old later at more mid (h.0, h.1, h.2 ∙ sym kept, h.3) few passed (λ other there. none other (inr there)),
  )
    where
      counted : due_count old.clock (old.held g) ≡ 0
      counted = subst (λ (s : PartShardState). due_count s.clock (s.held g) ≡ 0) h.3 (none g (inl refl))

      nothing : NameNone (ending old.clock (old.held g))
      nothing = none_named (is_chosen (Due old.clock)) (old.held g) (counted_none (is_chosen (Due old.clock)) (old.held g) counted)

      kept : more_freed freed (due_count old.clock (old.held g)) ≡ freed
      kept = let same = h.2 in ap (λ (n : ℕ). more_freed freed n) counted ∙ (let one : min (freed + 0) (2 ^ 64 - 1) ≡ freed = omega (arith, same, few) in one)
  all_pass count end (first ∷ groups) freed old later at more mid h few passed none =
      (h.0, h.1, h.2, h.3, h.4, all_pass h.1 h.2 groups (more_freed freed (due_count old.clock (old.held first))) h.0 later at more mid h.5 few passed none)

-- ---- the groups that are left

module _ (p : List ℕ → Bool) where
  -- up to the next that passes the test
  pub record NextIn (rest : List (List ℕ)) (group : List ℕ) (more : List (List ℕ)) : Type 0 where
    pub passed : List (List ℕ)
    pub behind : List (List ℕ)
    pub is : rest ≡ passed ++ (group ∷ behind)
    pub fail : (g : List ℕ) → IsIn passed g → p g ≡ false
    pub pass : p group ≡ true
    pub left : filter p behind ≡ more

  pub next_in : (rest : List (List ℕ)) (group : List ℕ) (more : List (List ℕ)) → filter p rest ≡ group ∷ more → NextIn rest group more
  next_in [] group more is = absurd (let clash : ⊥ = cc in clash)
  next_in (x ∷ rest) group more is = by_test (p x) refl is (next_in rest group more)
    where
      by_test : (b : Bool) → p x ≡ b → cond b (x ∷ filter p rest) (filter p rest) ≡ group ∷ more → (filter p rest ≡ group ∷ more → NextIn rest group more) → NextIn (x ∷ rest) group more
      by_test true t e ih =
          let same : x ≡ group = cc in
          let tail : filter p rest ≡ more = cc in
          record { passed = []; behind = rest; is = ap (λ (g : List ℕ). g ∷ rest) same; fail = λ g h. absurd h; pass = sym (ap p same) ∙ t; left = tail }
      by_test false t e ih =
          let n = ih e in
          record {
            passed = x ∷ n.passed;
            behind = n.behind;
            is = ap (λ (l : List (List ℕ)). x ∷ l) n.is;
            fail = λ g h. ⊎_elim (λ (same : x ≡ g). sym (ap p same) ∙ t) (λ more. n.fail g more) h;
            pass = n.pass;
            left = n.left;
          }

  pub none_in : (rest : List (List ℕ)) → filter p rest ≡ [] → (g : List ℕ) → IsIn rest g → p g ≡ false
  none_in [] is g h = absurd h
  none_in (x ∷ rest) is g h = by_test (p x) refl is h (λ none. none_in rest none g)
    where
      by_test : (b : Bool) → p x ≡ b → cond b (x ∷ filter p rest) (filter p rest) ≡ [] → (x ≡ g) ⊎ IsIn rest g → (filter p rest ≡ [] → IsIn rest g → p g ≡ false) → p g ≡ false
      by_test true t e h ih = absurd (let clash : ⊥ = cc in clash)
      by_test false t e (inl same) ih = sym (ap p same) ∙ t
      by_test false t e (inr more) ih = ih e more

-- ---- lists of groups in order

pub in_front : (xs ys : List (List ℕ)) (g : List ℕ) → IsIn xs g → IsIn (xs ++ ys) g
in_front [] ys g h = absurd h
in_front (x ∷ xs) ys g (inl same) = inl same
in_front (x ∷ xs) ys g (inr more) = inr (in_front xs ys g more)

pub in_back : (xs ys : List (List ℕ)) (g : List ℕ) → IsIn ys g → IsIn (xs ++ ys) g
in_back [] ys g h = h
in_back (x ∷ xs) ys g h = inr (in_back xs ys g h)

pub order_behind : (xs : List (List ℕ)) (x : List ℕ) (ys : List (List ℕ)) → InOrder (xs ++ (x ∷ ys)) → InOrder ys × AllByRecursion (λ y. id_cmp x y ≡ Less) ys
unfolding IsStrictlySortedBy
order_behind [] x ys sorted = (sorted.1, sorted.0)
order_behind (z ∷ xs) x ys sorted = order_behind xs x ys sorted.1

pub apart_from : (x : List ℕ) (ys : List (List ℕ)) (g : List ℕ) → AllByRecursion (λ y. id_cmp x y ≡ Less) ys → IsIn ys g → is_at (id_cmp x) g ≡ false
apart_from x [] g all h = absurd h
apart_from x (y ∷ ys) g all (inl same) = subst (λ (z : List ℕ). is_at (id_cmp x) z ≡ false) same (ap is_eq all.0)
apart_from x (y ∷ ys) g all (inr more) = apart_from x ys g all.1 more

-- nothing is due where none is counted
pub none_due_of : (clock : ℕ) (held : Held) → has_due clock held ≡ false → due_count clock held ≡ 0
none_due_of clock held none = by_count (due_count clock held) none
  where
    by_count : (n : ℕ) → not (nat_eq n 0) ≡ false → n ≡ 0
    by_count zero e = refl
    by_count (suc n) e = absurd (let apart : nat_eq (suc n) 0 ≡ false = grind (arith, nat_tests) in let never : true ≡ false = sym (ap not apart) ∙ e in let clash : ⊥ = cc in clash)

pub some_due_of : (clock : ℕ) (held : Held) → has_due clock held ≡ true → 0 < due_count clock held
some_due_of clock held some = by_count (due_count clock held) some
  where
    by_count : (n : ℕ) → not (nat_eq n 0) ≡ true → 0 < n
    by_count zero e = absurd (let clash : ⊥ = cc in clash)
    by_count (suc n) e = omega arith

-- ---- which records are stored

module _ {D : Type 0} (seen : D → DiskView) (conf : PartConfParts) (log : List Batch) (clock : ℕ) (held : List ℕ → Held) where
  abbrev Wrote : List (List ℕ) → StoreParts D → StoreParts D → Type 0
  Wrote groups old new = WritesGroups seen conf log clock held groups old new

  abbrev Acted : List ℕ → StoreParts D → StoreParts D → Type 0
  Acted group old new = WritesActs seen conf log group (ending clock (held group)) (held group) true old new None

  -- groups of which nothing is due store nothing
  pub wrote_past : (groups passed : List (List ℕ)) (old new : StoreParts D) → Wrote groups old new → ((g : List ℕ) → IsIn passed g → due_count clock (held g) ≡ 0)
      → Wrote (groups ++ passed) old new
  wrote_past [] [] old new h none = h
  wrote_past [] (g ∷ passed) old new h none = (
    old,
    inl (none_named (is_chosen (Due clock)) (held g) (counted_none (is_chosen (Due clock)) (held g) (none g (inl refl))), refl),
    quiet_same seen old old refl,
    wrote_past [] passed old new h (λ other there. none other (inr there)),
  )
  wrote_past (group ∷ groups) passed old new h none = (h.0, h.1, h.2, wrote_past groups passed h.0 new h.3 none)

  pub wrote_one : (groups : List (List ℕ)) (group : List ℕ) (old mid new : StoreParts D) → Wrote groups old mid → Acted group mid new → AreQuiet seen mid new
      → Wrote (groups ++ group ∷ []) old new
  wrote_one [] group old mid new h acted quiet =
      (new, subst (λ (s : StoreParts D). Acted group s new) h acted, subst (λ (s : StoreParts D). AreQuiet seen s new) h quiet, refl)
  wrote_one (first ∷ groups) group old mid new h acted quiet = (h.0, h.1, h.2, wrote_one groups group h.0 mid new h.3 acted quiet)
