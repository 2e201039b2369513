-- Where nothing may go and a step is left, its link waits for another one, and links that wait for each other in a row that returns make a cycle.
use Rattle.std.proofs.Common.{◌≡◌, ◌<◌, ◌≤◌, ◌+◌, ◌++◌, ◌⊎◌, ◌↔◌, ◌||◌, ◌∙◌, ℕ, true, false, min, nat_eq, eqb, IsTrue, zero, suc, List, [], ◌∷◌, length, slice_index, slice_index_or, Option, Some, None, Contains, refl, sym, ap, subst, inl, inr, arith}
use Rattle.std.specs.List.{AllByRecursion, IsDistinct, list_any}
use Rattle.std.proofs.lemmas.Bool.{cases_lt, cases_eq, cases_order, eq-eqb, eqb-true, false≢true, ne_eqb, or_cases, or_right}
use Rattle.std.proofs.lemmas.Option.{none-some, same_Some, slice_get_within, slice_get_past}
use Rattle.std.proofs.lemmas.List.Elements.{Contains-append_right, Contains-get_or}
use Rattle.std.proofs.lemmas.Map.Keys.{IsDistinct-from_apart}
use Rattle.share_model.specs.declared.visit.ShardId.{ShardId}
use Rattle.share_record.specs.declared.tag.Tag.{Tag}
use Rattle.share_record.specs.declared.tag.Tag.TheVariants.{Part, Expire, Tick, Offer}
use Rattle.share_record.specs.declared.tape.LinkStep.{LinkStep}
use Rattle.share_record.specs.declared.tape.LinkTape.{LinkTape}
use Rattle.share_record.specs.declared.tape.ShardTape.{ShardTape}
use Rattle.tape_merge.specs.declared.moves.Move.TheVariants.{Steps, Alone}
use Rattle.tape_merge.specs.declared.place.Place.{Place}
use Rattle.tape_merge.specs.Matching.{AreApart, AreMatched, Descend, IsBefore, IsLaterOnTape, IsLeastOfCycle, Names, shard_asked, shard_in, shard_of, steps_of, tags_of}
use Rattle.tape_merge.specs.Moves.{Counts, GoesAlone, IsAlone, IsDone, IsDueOn, next_step, next_tag}
use Rattle.tape_merge.specs.Readiness.{IsNamed}
use Rattle.tape_merge.specs.Waiting.{HasLeft, IsStuck, WaitInRow, WaitsFor, next_place}
use Rattle.tape_merge.proofs.Counting.{asked_by, none_past, tape_within}

-- ---- shards and tapes

-- no two tapes are of one shard
pub one_tape : (tapes : List ShardTape) → AreApart tapes → (t u : ℕ) (shard : ShardId) → shard_of tapes t ≡ Some shard → shard_of tapes u ≡ Some shard → t ≡ u
one_tape tapes apart t u shard h k = elim (cases_order t u) [
  | inl same ↦ same
  | inr other ↦ elim other [
    | inl lt ↦ absurd (differ tapes apart t u shard lt h k)
    | inr gt ↦ absurd (differ tapes apart u t shard gt k h)
  ]
]
  where
    shard_at : (xs : List ShardTape) (i : ℕ) (d : ShardTape) (shard : ShardId) → shard_of xs i ≡ Some shard → (i < length xs) × ((slice_index_or xs i d).shard ≡ shard)
    shard_at [] i d shard h = absurd (none-some shard h)
    shard_at (x ∷ xs) zero d shard h = (omega arith, same_Some x.shard shard h)
    shard_at (x ∷ xs) (suc i) d shard h = let more = shard_at xs i d shard h in (omega (arith, more.0), more.1)

    a_tape : (xs : List ShardTape) (i : ℕ) (shard : ShardId) → shard_of xs i ≡ Some shard → ShardTape
    a_tape [] i shard h = absurd (none-some shard h)
    a_tape (x ∷ xs) i shard h = x

    differ : (xs : List ShardTape) → AreApart xs → (i j : ℕ) (shard : ShardId) → i < j → shard_of xs i ≡ Some shard → shard_of xs j ≡ Some shard → ⊥
    differ xs apart i j shard lt h k =
        let d = a_tape xs i shard h in
        let at_i = shard_at xs i d shard h in
        let at_j = shard_at xs j d shard k in
        apart i j d lt at_j.0 (at_i.1 ∙ sym at_j.1)

-- a step that asks a shard is there
pub asking_within : (links : List LinkTape) (link step : ℕ) (shard : ShardId) → shard_asked links link step ≡ Some shard → step < length (steps_of links link)
asking_within links link step shard h = elim (cases_lt step (length (steps_of links link))) [
  | inl lt ↦ lt
  | inr ge ↦ absurd (none-some shard (sym (ap shard_in (slice_get_past (steps_of links link) step ge)) ∙ h))
]

module _ (tapes : List ShardTape) (links : List LinkTape) (c : Counts) (matched : AreMatched tapes links) (stuck : IsStuck tapes links c) where
  -- where no step is left no tag is
  pub no_tags : ((link : ℕ) → next_step links c link ≡ None) → (tape : ℕ) (o : Option Tag) → next_tag tapes c tape ≡ o → o ≡ None
  no_tags gone tape None h = refl
  no_tags gone tape (Some (Part l s)) h =
      let asked = (matched l s).asked tape (slice_index c.passed tape) h in
      absurd (omega (
        arith,
        asking_within links l s asked.0 asked.2,
        none_past (steps_of links l) (slice_index c.gone l) (gone l),
        stuck.left tape (slice_index c.passed tape) l s (omega arith) h,
      ))
  no_tags gone tape (Some (Expire now)) h = absurd (stuck.none (Alone tape) (Expire now, h, tt))
  no_tags gone tape (Some (Tick now)) h = absurd (stuck.none (Alone tape) (Tick now, h, tt))
  no_tags gone tape (Some Offer) h = absurd (stuck.none (Alone tape) (Offer, h, tt))

  pub done : ((link : ℕ) → next_step links c link ≡ None) → IsDone tapes links c
  done gone = record { steps = gone; tags = λ tape. no_tags gone tape (next_tag tapes c tape) refl }

  -- the next step of a link asks a shard
  pub asks_some : (link : ℕ) (step : LinkStep) → next_step links c link ≡ Some step → step.shard ≡ None → ⊥
  asks_some link step h none = stuck.none (Steps link None) (step, h, subst (λ o. IsDueOn tapes c link o None) (sym none) tt)

  module _ (apart : AreApart tapes) (link : ℕ) (step : LinkStep) (is : next_step links c link ≡ Some step) (shard : ShardId) (asks : step.shard ≡ Some shard) where
    its_tag : (tape : ℕ) × (at : ℕ) × Names tapes tape at link (slice_index c.gone link)
    its_tag = (matched link (slice_index c.gone link)).named shard (asked_by links link (slice_index c.gone link) step is ∙ asks)

    its_tape : shard_of tapes its_tag.0 ≡ Some shard
    its_tape =
        let asked = (matched link (slice_index c.gone link)).asked its_tag.0 its_tag.1 its_tag.2 in
        asked.1 ∙ (sym asked.2 ∙ (asked_by links link (slice_index c.gone link) step is ∙ asks))

    -- it has a tape
    pub has_tape : ((tape : ℕ) → shard_of tapes tape ≡ Some shard → ⊥) → ⊥
    has_tape none = none its_tag.0 its_tape

    module _ (tape : ℕ) (of : shard_of tapes tape ≡ Some shard) where
      on_it : its_tag.0 ≡ tape
      on_it = one_tape tapes apart its_tag.0 tape shard its_tape of

      stands : Names tapes tape its_tag.1 link (slice_index c.gone link)
      stands = subst (λ t. Names tapes t its_tag.1 link (slice_index c.gone link)) on_it its_tag.2

      not_passed : slice_index c.passed tape ≤ its_tag.1
      not_passed = elim (cases_lt its_tag.1 (slice_index c.passed tape)) [
        | inr ge ↦ ge
        | inl lt ↦ let passed = stuck.passed tape its_tag.1 link (slice_index c.gone link) lt stands in absurd (omega (arith, passed))
      ]

      pub has_tag : next_tag tapes c tape ≡ None → ⊥
      has_tag none =
          let within = slice_get_within (tags_of tapes tape) its_tag.1 (Part link (slice_index c.gone link)) stands in
          omega (arith, within, not_passed, none_past (tags_of tapes tape) (slice_index c.passed tape) none)

      pub of_a_step : (tag : Tag) → next_tag tapes c tape ≡ Some tag → IsAlone tag → ⊥
      of_a_step tag h alone = stuck.none (Alone tape) (tag, h, alone)

      named_by : (o : Option Tag) → next_tag tapes c tape ≡ o → ((k : ℕ) → IsNamed tapes c tape k → ⊥) → ⊥
      named_by None h none = has_tag h
      named_by (Some (Part k s)) h none = none k (s, h)
      named_by (Some (Expire now)) h none = of_a_step (Expire now) h tt
      named_by (Some (Tick now)) h none = of_a_step (Tick now) h tt
      named_by (Some Offer) h none = of_a_step Offer h tt

      pub has_named : ((k : ℕ) → IsNamed tapes c tape k → ⊥) → ⊥
      has_named none = named_by (next_tag tapes c tape) refl none

      later : (other s : ℕ) → next_tag tapes c tape ≡ Some (Part other s) → slice_index c.passed tape < its_tag.1
      later other s h = elim (cases_lt (slice_index c.passed tape) its_tag.1) [
        | inl lt ↦ lt
        | inr ge ↦
            let same : its_tag.1 ≡ slice_index c.passed tape = omega (arith, ge, not_passed) in
            let next : next_tag tapes c tape ≡ Some (Part link (slice_index c.gone link)) = subst (λ n. Names tapes tape n link (slice_index c.gone link)) same stands in
            absurd (stuck.none (Steps link (Some tape)) (step, is, subst (λ o. IsDueOn tapes c link o (Some tape)) (sym asks) (of, next)))
      ]

      pub waits : (other s : ℕ) → next_tag tapes c tape ≡ Some (Part other s) → WaitsFor tapes links c link other
      waits other s h =
          let asked = (matched other s).asked tape (slice_index c.passed tape) h in
          record {
            step = s;
            left = stuck.left tape (slice_index c.passed tape) other s (omega arith) h;
            within = asking_within links other s asked.0 asked.2;
            behind = record {
              tape = tape;
              at = slice_index c.passed tape;
              there = its_tag.1;
              behind = later other s h;
              first_is = h;
              later_is = stands;
            };
          }

pub left_of_other : (tapes : List ShardTape) (links : List LinkTape) (c : Counts) (link other : ℕ) → WaitsFor tapes links c link other → HasLeft links c other
left_of_other tapes links c link other w = omega (arith, w.left, w.within)

-- ---- steps that are left

pub left_within : (links : List LinkTape) (n link : ℕ) → n < length (steps_of links link) → link < length links
left_within [] n link h = absurd (omega (arith, h))
left_within (x ∷ xs) n zero h = omega arith
left_within (x ∷ xs) n (suc link) h = omega (arith, left_within xs n link h)

module _ (links : List LinkTape) (c : Counts) (link : ℕ) where
  pub left_there : HasLeft links c link → None ≡ next_step links c link → ⊥
  left_there left none = omega (arith, left, none_past (steps_of links link) (slice_index c.gone link) (sym none))

  pub left_if_some : (step : LinkStep) → Some step ≡ next_step links c link → IsTrue true ↔ HasLeft links c link
  left_if_some step is = ((λ holds. slice_get_within (steps_of links link) (slice_index c.gone link) step (sym is)), (λ left. refl))

  pub left_if_none : None ≡ next_step links c link → IsTrue false ↔ HasLeft links c link
  left_if_none none = ((λ fails. absurd (false≢true fails)), (λ left. absurd (left_there left none)))

pub none_next : (links : List LinkTape) (c : Counts) → ((link : ℕ) → HasLeft links c link → ⊥) → (link : ℕ) → next_step links c link ≡ None
none_next links c none link = elim (cases_lt (slice_index c.gone link) (length (steps_of links link))) [
  | inl lt ↦ absurd (none link lt)
  | inr ge ↦ slice_get_past (steps_of links link) (slice_index c.gone link) ge
]

pub none_left : (links : List LinkTape) (c : Counts) (n : ℕ) → length links ≤ n → ((link : ℕ) → link < n → HasLeft links c link → ⊥)
    → (link : ℕ) → HasLeft links c link → ⊥
none_left links c n all none link left = none link (omega (arith, all, left_within links (slice_index c.gone link) link left)) left

pub no_tape_of : (tapes : List ShardTape) (shard : ShardId) (n : ℕ) → length tapes ≤ n → ((t : ℕ) → t < n → shard_of tapes t ≡ Some shard → ⊥)
    → (t : ℕ) → shard_of tapes t ≡ Some shard → ⊥
no_tape_of tapes shard n all none t is = none t (omega (arith, all, of_within tapes t shard is)) is
  where
    of_within : (xs : List ShardTape) (t : ℕ) (shard : ShardId) → shard_of xs t ≡ Some shard → t < length xs
    of_within [] t shard h = absurd (none-some shard h)
    of_within (x ∷ xs) zero shard h = omega arith
    of_within (x ∷ xs) (suc t) shard h = omega (arith, of_within xs t shard h)

pub none_alone : (tapes : List ShardTape) (c : Counts) (n : ℕ) → length tapes ≤ n → ((t : ℕ) → t < n → GoesAlone tapes c t → ⊥)
    → (t : ℕ) → GoesAlone tapes c t → ⊥
none_alone tapes c n all none t goes = none t (omega (arith, all, tape_within tapes t (slice_index c.passed t) goes.0 goes.1)) goes

-- ---- rows

contains_tail : {X : Type 0} (x : X) (xs : List X) (y : X) → Contains xs y → Contains (x ∷ xs) y
contains_tail x xs y h = (suc h.0, omega (arith, h.1), h.2)

pub contains_head : {X : Type 0} (x : X) (xs : List X) (y : X) → x ≡ y → Contains (x ∷ xs) y
contains_head x xs y e = (zero, omega arith, e)

all_append : {X : Type 0} (P : X → Type 0) (xs ys : List X) → AllByRecursion P xs → AllByRecursion P ys → AllByRecursion P (xs ++ ys)
all_append P [] ys h k = k
all_append P (x ∷ xs) ys h k = (h.0, all_append P xs ys h.1 k)

module _ (tapes : List ShardTape) (links : List LinkTape) (c : Counts) where
  pub row_tail : (x : ℕ) (xs : List ℕ) (last : ℕ) → WaitInRow tapes links c (x ∷ xs) last → WaitInRow tapes links c xs last
  row_tail x [] last h = tt
  row_tail x (y ∷ ys) last h = h.1

  pub row_push : (xs : List ℕ) (x last : ℕ) → WaitInRow tapes links c xs x → WaitsFor tapes links c x last → WaitInRow tapes links c (xs ++ x ∷ []) last
  row_push [] x last h w = w
  row_push (y ∷ []) x last h w = (h, w)
  row_push (y ∷ z ∷ zs) x last h w = (h.0, row_push (z ∷ zs) x last h.1 w)

  join : (x : Place) (ys : List Place) (y : Place) (zs : List Place) (z : Place) → Descend tapes links x ys y → Descend tapes links y zs z → Descend tapes links x (ys ++ y ∷ zs) z
  join x [] y zs z h k = (h, k)
  join x (w ∷ ws) y zs z h k = (h.0, join w ws y zs z h.1 k)

  module _ (least : ℕ) where
    -- it isn't before the next step of the least link
    abbrev NotBefore : Place → Type 0
    NotBefore place = IsBefore place (next_place c least) → ⊥

    not_before : (link step : ℕ) → least ≤ link → slice_index c.gone link ≤ step → IsBefore (record { link = link; step = step }) (next_place c least) → ⊥
    not_before link step le left (inl lt) = omega (arith, le, lt)
    not_before link step le left (inr lt) = omega (arith, left, lt.1, ap (λ l. slice_index c.gone l) lt.0)

    abbrev Bridge : (link other : ℕ) → Type 0
    Bridge link other = (zs : List Place) × Descend tapes links (next_place c link) zs (next_place c other) × AllByRecursion NotBefore zs

    through : (link other : ℕ) → least ≤ other → WaitsFor tapes links c link other → Bridge link other
    through link other le w = elim (cases_eq w.step (slice_index c.gone other)) [
      | inl same ↦ ([], inr (subst (λ s. IsLaterOnTape tapes (next_place c link) (record { link = other; step = s })) same w.behind), tt)
      | inr differs ↦
          let place : Place = record { link = other; step = w.step } in
          (place ∷ [], (inr w.behind, inl (record { link = refl; behind = omega (arith, w.left, differs); within = w.within })), (not_before other w.step le w.left, tt))
    ]

    abbrev Row : (link : ℕ) → (others : List ℕ) → (last : ℕ) → Type 0
    Row link others last = (zs : List Place) × Descend tapes links (next_place c link) zs (next_place c last) × AllByRecursion NotBefore zs
        × ((x : ℕ) → Contains (link ∷ others) x → Contains (next_place c link ∷ zs) (next_place c x))

    only_head : (link x : ℕ) (zs : List Place) → Contains (link ∷ []) x → Contains (next_place c link ∷ zs) (next_place c x)
    only_head link x zs (zero, h, e) = contains_head (next_place c link) zs (next_place c x) (ap (λ l. next_place c l) e)
    only_head link x zs (suc k, h, e) = absurd (omega (arith, h))

    head_or_tail : (link : ℕ) (others : List ℕ) (x : ℕ) (zs : List Place) → Contains (link ∷ others) x → (Contains others x → Contains zs (next_place c x))
        → Contains (next_place c link ∷ zs) (next_place c x)
    head_or_tail link others x zs (zero, h, e) more = contains_head (next_place c link) zs (next_place c x) (ap (λ l. next_place c l) e)
    head_or_tail link others x zs (suc k, h, e) more = contains_tail (next_place c link) zs (next_place c x) (more (k, omega (arith, h), e))

    row : (link : ℕ) (others : List ℕ) (last : ℕ) → AllByRecursion (λ x. least ≤ x) others → least ≤ last → WaitInRow tapes links c (link ∷ others) last → Row link others last
    row link [] last all le h =
        let bridge = through link last le h in
        (bridge.0, bridge.1, bridge.2, λ x has. only_head link x bridge.0 has)
    row link (other ∷ others) last all le h =
        let bridge = through link other all.0 h.0 in
        let rest = row other others last all.1 le h.1 in
        let zs = bridge.0 ++ next_place c other ∷ rest.0 in (
          zs,
          join (next_place c link) bridge.0 (next_place c other) rest.0 (next_place c last) bridge.1 rest.1,
          all_append NotBefore bridge.0 (next_place c other ∷ rest.0) bridge.2 (not_before other (slice_index c.gone other) all.0 (omega arith), rest.2),
          λ x has. head_or_tail link (other ∷ others) x zs has (λ more. Contains-append_right bridge.0 (next_place c other ∷ rest.0) (next_place c x) (rest.3 x more)),
        )

  all_from_places : (least : ℕ) (xs : List ℕ) → ((k : ℕ) → k < length xs → least ≤ slice_index xs k) → AllByRecursion (λ x. least ≤ x) xs
  all_from_places least [] h = tt
  all_from_places least (x ∷ xs) h = (h 0 (omega arith), all_from_places least xs (λ k lt. h (suc k) (omega (arith, lt))))

  -- links that wait for each other in a round make a cycle of steps, and the least of these links has its least one
  pub cycle : (link : ℕ) (others : List ℕ) (least : ℕ) → WaitInRow tapes links c (link ∷ others) link → Contains (link ∷ others) least
      → ((k : ℕ) → k < length (link ∷ others) → least ≤ slice_index (link ∷ others) k) → IsLeastOfCycle tapes links (next_place c least)
  cycle link others least h has le =
      let all = all_from_places least (link ∷ others) le in
      let made = row least link others link all.1 all.0 h in
      record {
        start = next_place c link;
        others = made.0;
        round = made.1;
        on = made.3 least has;
        first = (not_before least link (slice_index c.gone link) all.0 (omega arith), made.2);
      }

  -- the same from the least of a row
  pub cycle_found : (row : List ℕ) (at least step : ℕ) → (others : List ℕ) × (row ≡ at ∷ others) → WaitInRow tapes links c row at → Contains row least
      → ((k : ℕ) → k < length row → least ≤ slice_index row k) → step ≡ slice_index c.gone least → IsLeastOfCycle tapes links (record { link = least; step = step })
  cycle_found row at least step is h has le same =
      subst (λ s. IsLeastOfCycle tapes links (record { link = least; step = s })) (sym same)
      (cycle at is.0 least (subst (λ x. WaitInRow tapes links c x at) is.1 h) (subst (λ x. Contains x least) is.1 has)
      (subst (λ x. (k : ℕ) → k < length x → least ≤ slice_index x k) is.1 le))

-- ---- a row of numbers

pub row_has : (rest others : List ℕ) (first at : ℕ) → rest ≡ first ∷ others → (first ≡ at → ⊥) → IsTrue (list_any (nat_eq at) rest) → IsTrue (list_any (nat_eq at) others)
row_has rest others first at is ne h =
    let all : (nat_eq at first || list_any (nat_eq at) others) ≡ true = subst (λ x. IsTrue (list_any (nat_eq at) x)) is h in
    sym (ap (λ b. b || list_any (nat_eq at) others) (ne_eqb at first (λ e. ne (sym e)))) ∙ all

pub contains_min : (xs : List ℕ) (m i : ℕ) → Contains xs m → i < length xs → Contains xs (min m (slice_index xs i))
contains_min xs m i has lt = elim (cases_lt m (slice_index xs i)) [
  | inl below ↦ let is : m ≡ min m (slice_index xs i) = omega (arith, below) in subst (λ x. Contains xs x) is has
  | inr above ↦ let is : slice_index xs i ≡ min m (slice_index xs i) = omega (arith, above) in subst (λ x. Contains xs x) is (Contains-get_or xs i 0 lt)
]

pub min_below : (xs : List ℕ) (m i : ℕ) → ((k : ℕ) → k < i → m ≤ slice_index xs k) → (k : ℕ) → k < i + 1 → min m (slice_index xs i) ≤ slice_index xs k
min_below xs m i all k lt = elim (cases_lt k i) [
  | inl below ↦ omega (arith, all k below)
  | inr above ↦ let same : i ≡ k = omega (arith, lt, above) in subst (λ x. min m (slice_index xs i) ≤ slice_index xs x) same (omega arith)
]

-- ---- numbers that differ

eqb_flip : (a b : ℕ) → eqb a b ≡ eqb b a
eqb_flip a b = elim (cases_eq a b) [
  | inl same ↦ eq-eqb a b same ∙ sym (eq-eqb b a (sym same))
  | inr apart ↦ ne_eqb a b apart ∙ sym (ne_eqb b a (λ e. apart (sym e)))
]

-- among those and one more
pub any_push : (xs : List ℕ) (y q : ℕ) → IsTrue (list_any (eqb q) (xs ++ y ∷ [])) → IsTrue (list_any (eqb q) xs) ⊎ (q ≡ y)
any_push [] y q h = elim (or_cases (eqb q y) false h) [
  | inl holds ↦ inr (eqb-true q y holds)
  | inr fails ↦ absurd (false≢true fails)
]
any_push (x ∷ xs) y q h = elim (or_cases (eqb q x) (list_any (eqb q) (xs ++ y ∷ [])) h) [
  | inl holds ↦ inl (ap (λ b. b || list_any (eqb q) xs) holds)
  | inr more ↦ elim (any_push xs y q more) [
    | inl old ↦ inl (or_right (eqb q x) (list_any (eqb q) xs) old)
    | inr new ↦ inr new
  ]
]

pub below_push : (xs : List ℕ) (y n : ℕ) → ((q : ℕ) → list_any (eqb q) xs ≡ true → q < n) → y < n → (q : ℕ) → list_any (eqb q) (xs ++ y ∷ []) ≡ true → q < n
below_push xs y n all lt q h = elim (any_push xs y q h) [
  | inl old ↦ all q old
  | inr new ↦ subst (λ x. x < n) (sym new) lt
]

pub distinct_nil : IsDistinct eqb []
distinct_nil = IsDistinct-from_apart eqb [] (λ i j d lt within. absurd (omega (arith, within)))
