-- One tag more is seen, and what is known once all tags are.
use Rattle.std.proofs.Common.{◌≡◌, ◌<◌, ◌+◌, ◌⊎◌, ◌∙◌, ℕ, zero, suc, is_some, Bool, true, false, cond, not, ◌&&◌, List, [], ◌∷◌, length, slice_get, Option, Some, None, IsTrue, IsSome, refl, sym, ap, ap₂, subst, inl, inr, arith, nat_cmp, eqb}
use Rattle.std.specs.List.{list_any}
use Rattle.std.specs.Ordering.{is_eq, ordering_then}
use Rattle.std.specs.BTreeMap.{is_at}
use Rattle.std.specs.declared.cmp.Ordering.{Ordering}
use Rattle.std.specs.declared.cmp.Ordering.TheVariants.{Less, Equal, Greater}
use Rattle.std.proofs.lemmas.Bool.{cases_lt, cases_order, cases_Bool, false≢true, and_parts, and_from, eq-eqb, eqb-true}
use Rattle.std.proofs.lemmas.Bool.Decides.{nat_tests}
use Rattle.std.proofs.lemmas.Option.{none-some, same_Some, slice_get_past, slice_get_within}
use Rattle.share_model.specs.declared.visit.ShardId.{ShardId}
use Rattle.share_record.specs.declared.tag.Tag.{Tag}
use Rattle.share_record.specs.declared.tag.Tag.TheVariants.{Part}
use Rattle.share_record.specs.declared.tape.LinkStep.{LinkStep}
use Rattle.share_record.specs.declared.tape.LinkTape.{LinkTape}
use Rattle.share_record.specs.declared.tape.ShardTape.{ShardTape}
use Rattle.tape_merge.specs.declared.place.Place.{Place}
use Rattle.tape_merge.specs.Matching.{IsBefore, IsMatched, Names, shard_asked, shard_in, shard_of, steps_in, steps_of, tags_of}
use Rattle.tape_merge.specs.Sightings.{AreAllNamed, AreNamed, Found, HasSeen, HasStep, IsFine, IsSeen, IsWrong, place_cmp}
use Rattle.tape_merge.proofs.Counting.{one_step, renamed, tape_within}

-- ---- sets of steps

eq_at : (a b : ℕ) → is_eq (nat_cmp a b) ≡ eqb a b
eq_at a b = let cases = cases_order a b in grind (arith, nat_tests)

then_eq : (o p : Ordering) → is_eq (ordering_then o p) ≡ (is_eq o && is_eq p)
then_eq Less p = refl
then_eq Equal p = refl
then_eq Greater p = refl

step_at : (k n l s : ℕ) → is_at (place_cmp (k, n)) (l, s) ≡ (eqb k l && eqb n s)
step_at k n l s = then_eq (nat_cmp k l) (nat_cmp n s) ∙ ap₂ (λ x y. x && y) (eq_at k l) (eq_at n s)

-- with the step n of the link k
module _ (k n : ℕ) (old new : List (ℕ × ℕ))
    (is : (q : ℕ × ℕ) → list_any (is_at (place_cmp q)) new ≡ cond (is_at (place_cmp (k, n)) q) true (list_any (is_at (place_cmp q)) old)) where
  kept : (l s : ℕ) → HasStep old l s → HasStep new l s
  kept l s h = elim (cases_Bool (is_at (place_cmp (k, n)) (l, s))) [
    | inl holds ↦ is (l, s) ∙ ap (λ b. cond b true (list_any (is_at (place_cmp (l, s))) old)) holds
    | inr fails ↦ is (l, s) ∙ (ap (λ b. cond b true (list_any (is_at (place_cmp (l, s))) old)) fails ∙ h)
  ]

  added : (l s : ℕ) → l ≡ k → s ≡ n → HasStep new l s
  added l s e f =
      is (l, s) ∙ ap (λ b. cond b true (list_any (is_at (place_cmp (l, s))) old))
      (step_at k n l s ∙ and_from (eqb k l) (eqb n s) (eq-eqb k l (sym e)) (eq-eqb n s (sym f)))

  only_added : (l s : ℕ) → HasStep new l s → HasStep old l s ⊎ ((l ≡ k) × (s ≡ n))
  only_added l s h = elim (cases_Bool (is_at (place_cmp (k, n)) (l, s))) [
    | inl holds ↦
        let both = and_parts (eqb k l) (eqb n s) (sym (step_at k n l s) ∙ holds) in
        inr (sym (eqb-true k l both.0), sym (eqb-true n s both.1))
    | inr fails ↦ inl (sym (is (l, s) ∙ ap (λ b. cond b true (list_any (is_at (place_cmp (l, s))) old)) fails) ∙ h)
  ]

-- ---- options

pub some_is : {X : Type 0} (o : Option X) (x : X) → o ≡ Some x → IsSome o
some_is o x h = ap (λ y. is_some y) h

some_value : {X : Type 0} (o : Option X) → IsSome o → (x : X) × (o ≡ Some x)
some_value None h = absurd (false≢true h)
some_value (Some x) h = (x, refl)

asked_link : (links : List LinkTape) (link step : ℕ) (shard : ShardId) → shard_asked links link step ≡ Some shard → link < length links
asked_link [] link step shard h = absurd (none-some shard h)
asked_link (x ∷ xs) zero step shard h = omega arith
asked_link (x ∷ xs) (suc link) step shard h = omega (arith, asked_link xs link step shard h)

-- ---- steps that are named

pub named_more : (steps : List LinkStep) (named : List (ℕ × ℕ)) (link at : ℕ) → AreNamed steps named link at
    → (IsSome (shard_in (slice_get steps at)) → HasStep named link at) → AreNamed steps named link (at + 1)
named_more steps named link at all here step lt some = elim (cases_lt step at) [
  | inl below ↦ all step below some
  | inr above ↦
      let same : step ≡ at = omega (arith, lt, above) in
      subst (λ s. HasStep named link s) (sym same) (here (subst (λ s. IsSome (shard_in (slice_get steps s))) same some))
]

pub all_named_more : (links : List LinkTape) (named : List (ℕ × ℕ)) (at : ℕ) → AreAllNamed links named at
    → ((step : ℕ) → IsSome (shard_asked links at step) → HasStep named at step) → AreAllNamed links named (at + 1)
all_named_more links named at all here link step lt some = elim (cases_lt link at) [
  | inl below ↦ all link step below some
  | inr above ↦
      let same : link ≡ at = omega (arith, lt, above) in
      subst (λ l. HasStep named l step) (sym same) (here step (subst (λ l. IsSome (shard_asked links l step)) same some))
]

pub named_all : (steps : List LinkStep) (named : List (ℕ × ℕ)) (link : ℕ) → AreNamed steps named link (length steps)
    → (step : ℕ) → IsSome (shard_in (slice_get steps step)) → HasStep named link step
named_all steps named link all step some = elim (cases_lt step (length steps)) [
  | inl lt ↦ all step lt some
  | inr ge ↦ absurd (false≢true (ap (λ o. is_some (shard_in o)) (sym (slice_get_past steps step ge)) ∙ some))
]

pub none_named : (links : List LinkTape) (named : List (ℕ × ℕ)) (link : ℕ) → None ≡ slice_get links link
    → (step : ℕ) → IsSome (shard_asked links link step) → HasStep named link step
none_named links named link none step some = absurd (false≢true (ap (λ o. is_some (shard_in (slice_get (steps_in o) step))) none ∙ some))

pub fresh_not : (fresh was : Bool) → fresh ≡ not was → fresh ≡ true → IsTrue was → ⊥
fresh_not fresh true e f h = false≢true (sym e ∙ f)
fresh_not fresh false e f h = false≢true h

pub stale_was : (fresh was : Bool) → fresh ≡ not was → fresh ≡ false → IsTrue was
stale_was fresh true e f = refl
stale_was fresh false e f = absurd (false≢true (sym f ∙ e))

-- ---- what is seen

seen_more : (upto count t at : ℕ) → IsSeen upto count t at → IsSeen upto (count + 1) t at
seen_more upto count t at (inl lt) = inl lt
seen_more upto count t at (inr h) = inr (h.0, omega (arith, h.1))

seen_split : (upto count t at : ℕ) → IsSeen upto (count + 1) t at → IsSeen upto count t at ⊎ ((t ≡ upto) × (at ≡ count))
seen_split upto count t at (inl lt) = inl (inl lt)
seen_split upto count t at (inr h) = elim (cases_lt at count) [
  | inl lt ↦ inl (inr (h.0, lt))
  | inr ge ↦ inr (h.0, omega (arith, h.1, ge))
]

not_itself : (upto count t at : ℕ) → IsSeen upto count t at → t ≡ upto → at ≡ count → ⊥
not_itself upto count t at (inl lt) e f = omega (arith, lt, e)
not_itself upto count t at (inr h) e f = omega (arith, h.1, f)

abbrev pub place_of : ℕ → ℕ → Place
place_of l s = record { link = l; step = s }

not_before_itself : (p : Place) → IsBefore p p → ⊥
not_before_itself p (inl lt) = omega (arith, lt)
not_before_itself p (inr h) = omega (arith, h.1)

module _ (tapes : List ShardTape) (links : List LinkTape) where
  -- where just the same tags are seen
  reseen : (upto count more shown : ℕ) → ((t at l s : ℕ) → Names tapes t at l s → IsSeen more shown t at → IsSeen upto count t at)
      → ((t at : ℕ) → IsSeen upto count t at → IsSeen more shown t at)
      → (named : List (ℕ × ℕ)) (least : Option Place) → HasSeen tapes links upto count named least → HasSeen tapes links more shown named least
  reseen upto count more shown to back named least h = record {
    wrong = h.wrong;
    asked = λ l s fine t at seen names. h.asked l s fine t at (to t at l s names seen) names;
    once = λ l s fine t at u there seen too names so. h.once l s fine t at u there (to t at l s names seen) (to u there l s so too) names so;
    has = λ l s t at seen names. h.has l s t at (to t at l s names seen) names;
    only = λ l s was. let it = h.only l s was in (it.0, it.1, back it.0 it.1 it.2, it.3);
  }

  -- nothing is seen at first
  none_seen : (t at : ℕ) → IsSeen 0 0 t at → ⊥
  none_seen t at (inl lt) = omega (arith, lt)
  none_seen t at (inr h) = omega (arith, h.1)

  pub seen_first : (named : List (ℕ × ℕ)) → named ≡ [] → HasSeen tapes links 0 0 named None
  seen_first named empty = record {
    wrong = tt;
    asked = λ l s fine t at seen names. absurd (none_seen t at seen);
    once = λ l s fine t at u there seen too names so. absurd (none_seen t at seen);
    has = λ l s t at seen names. absurd (none_seen t at seen);
    only = λ l s was. absurd (false≢true (subst (λ x. HasStep x l s) empty was));
  }

  module _ (upto count : ℕ) (named : List (ℕ × ℕ)) (least : Option Place) (h : HasSeen tapes links upto count named least) where
    -- a tag of no step
    pub seen_other : (tag : Tag) → slice_get (tags_of tapes upto) count ≡ Some tag → ((l s : ℕ) → tag ≡ Part l s → ⊥)
        → HasSeen tapes links upto (count + 1) named least
    seen_other tag is none =
        reseen upto count upto (count + 1)
        (λ t at l s names seen. elim (seen_split upto count t at seen) [
          | inl was ↦ was
          | inr new ↦
              let same = ap₂ (λ x y. slice_get (tags_of tapes x) y) new.0 new.1 in
              absurd (none l s (same_Some tag (Part l s) (sym is ∙ (sym same ∙ names))))
        ])
        (λ t at seen. seen_more upto count t at seen) named least h

    -- all tags of a tape
    pub seen_tape : count ≡ length (tags_of tapes upto) → HasSeen tapes links (upto + 1) 0 named least
    seen_tape all =
        reseen upto count (upto + 1) 0
        (λ t at l s names seen. elim seen [
          | inl lt ↦ elim (cases_lt t upto) [
            | inl below ↦ inl below
            | inr above ↦
                let same : t ≡ upto = omega (arith, lt, above) in
                let within : at < length (tags_of tapes upto) = subst (λ x. at < length (tags_of tapes x)) same (slice_get_within (tags_of tapes t) at (Part l s) names) in
                inr (same, omega (arith, all, within))
          ]
          | inr it ↦ absurd (omega (arith, it.1))
        ])
        (λ t at seen. elim seen [
          | inl lt ↦ inl (omega (arith, lt))
          | inr it ↦ inl (omega (arith, it.0))
        ]) named least h

    module _ (k n : ℕ) (shard : ShardId) (of : shard_of tapes upto ≡ Some shard) (is : Names tapes upto count k n) (new : List (ℕ × ℕ))
        (adds : (q : ℕ × ℕ) → list_any (is_at (place_cmp q)) new ≡ cond (is_at (place_cmp (k, n)) q) true (list_any (is_at (place_cmp q)) named)) where
      has_more : (l s t at : ℕ) → IsSeen upto (count + 1) t at → Names tapes t at l s → HasStep new l s
      has_more l s t at seen names = elim (seen_split upto count t at seen) [
        | inl was ↦ kept k n named new adds l s (h.has l s t at was names)
        | inr it ↦ let same = one_step tapes t upto at count l s k n it.0 it.1 names is in added k n named new adds l s same.0 same.1
      ]

      only_more : (l s : ℕ) → HasStep new l s → (t : ℕ) × (at : ℕ) × IsSeen upto (count + 1) t at × Names tapes t at l s
      only_more l s has = elim (only_added k n named new adds l s has) [
        | inl was ↦ let it = h.only l s was in (it.0, it.1, seen_more upto count it.0 it.1 it.2, it.3)
        | inr same ↦ (upto, count, inr (refl, omega arith), renamed tapes upto count k n l s (sym same.0) (sym same.1) is)
      ]

      -- the tag fits
      pub seen_fit : (HasStep named k n → ⊥) → shard_asked links k n ≡ Some shard → HasSeen tapes links upto (count + 1) new least
      seen_fit fresh asks = record {
        wrong = h.wrong;
        asked = λ l s fine t at seen names. elim (seen_split upto count t at seen) [
          | inl was ↦ h.asked l s fine t at was names
          | inr it ↦
              let same = one_step tapes t upto at count l s k n it.0 it.1 names is in
              (shard, ap (λ x. shard_of tapes x) it.0 ∙ of, ap₂ (λ x y. shard_asked links x y) same.0 same.1 ∙ asks)
        ];
        once = λ l s fine t at u there seen too names so. elim (seen_split upto count t at seen) [
          | inl was ↦ elim (seen_split upto count u there too) [
            | inl were ↦ h.once l s fine t at u there was were names so
            | inr it ↦
                let same = one_step tapes u upto there count l s k n it.0 it.1 so is in
                absurd (fresh (h.has k n t at was (renamed tapes t at l s k n same.0 same.1 names)))
          ]
          | inr it ↦
              let same = one_step tapes t upto at count l s k n it.0 it.1 names is in
              elim (seen_split upto count u there too) [
                | inl were ↦ absurd (fresh (h.has k n u there were (renamed tapes u there l s k n same.0 same.1 so)))
                | inr they ↦ (it.0 ∙ sym they.0, it.1 ∙ sym they.1)
              ]
        ];
        has = has_more;
        only = only_more;
      }

      -- a tag that doesn't fit: its step is named already, or asks another shard
      pub misfit : HasStep named k n ⊎ (shard_asked links k n ≡ Some shard → ⊥) → IsMatched tapes links k n → ⊥
      misfit (inl has) matched =
          let it = h.only k n has in
          let same = matched.once it.0 it.1 upto count it.3 is in
          not_itself upto count it.0 it.1 it.2 same.0 same.1
      misfit (inr apart) matched =
          let it = matched.asked upto count is in
          apart (it.2 ∙ (sym it.1 ∙ of))

      pub seen_misfit : HasStep named k n ⊎ (shard_asked links k n ≡ Some shard → ⊥) → (worst : Option Place)
          → ((p : Place) → IsFine worst p → IsFine least p × IsBefore p (place_of k n)) → (worst ≡ least) ⊎ (worst ≡ Some (place_of k n))
          → HasSeen tapes links upto (count + 1) new worst
      seen_misfit bad worst less which = record {
        wrong = elim which [
          | inl same ↦ subst (λ x. IsWrong tapes links x) (sym same) h.wrong
          | inr this ↦ subst (λ x. IsWrong tapes links x) (sym this) (misfit bad)
        ];
        asked = λ l s fine t at seen names. h.asked l s (less (record { link = l; step = s }) fine).0 t at (old_one l s fine t at seen names) names;
        once = λ l s fine t at u there seen too names so. h.once l s (less (record { link = l; step = s }) fine).0 t at u there
            (old_one l s fine t at seen names) (old_one l s fine u there too so) names so;
        has = has_more;
        only = only_more;
      }
        where
          old_one : (l s : ℕ) → IsFine worst (record { link = l; step = s }) → (t at : ℕ) → IsSeen upto (count + 1) t at → Names tapes t at l s → IsSeen upto count t at
          old_one l s fine t at seen names = elim (seen_split upto count t at seen) [
            | inl was ↦ was
            | inr it ↦
                let same = one_step tapes t upto at count l s k n it.0 it.1 names is in
                let before = (less (record { link = l; step = s }) fine).1 in
                absurd (not_before_itself (record { link = k; step = n })
                (subst (λ x. IsBefore (record { link = x; step = n }) (record { link = k; step = n })) same.0
                (subst (λ y. IsBefore (record { link = l; step = y }) (record { link = k; step = n })) same.1 before)))
          ]

  -- ---- once all are seen

  module _ (named : List (ℕ × ℕ)) (least : Option Place) (h : HasSeen tapes links (length tapes) 0 named least) where
    all_seen : (t at l s : ℕ) → Names tapes t at l s → IsSeen (length tapes) 0 t at
    all_seen t at l s names = inl (tape_within tapes t at (Part l s) names)

    matched_if : (l s : ℕ) → IsFine least (record { link = l; step = s }) → ((shard : ShardId) → shard_asked links l s ≡ Some shard → HasStep named l s) → IsMatched tapes links l s
    matched_if l s fine has = record {
      asked = λ t at names. h.asked l s fine t at (all_seen t at l s names) names;
      once = λ t at u there names so. h.once l s fine t at u there (all_seen t at l s names) (all_seen u there l s so) names so;
      named = λ shard asks. let it = h.only l s (has shard asks) in (it.0, it.1, it.3);
    }

    -- each step that asks a shard is named
    pub first_of_all : ((l s : ℕ) (shard : ShardId) → shard_asked links l s ≡ Some shard → HasStep named l s) → (o : Option Place) → o ≡ least → Found tapes links o
    first_of_all has None e = λ l s. matched_if l s (subst (λ x. IsFine x (record { link = l; step = s })) e tt) (has l s)
    first_of_all has (Some p) e = record {
      fails = subst (λ x. IsWrong tapes links x) (sym e) h.wrong;
      first = λ q before. matched_if q.link q.step (subst (λ x. IsFine x (record { link = q.link; step = q.step })) e before) (has q.link q.step);
    }

    -- this is the first one that isn't
    pub first_of_these : (p : Place) (shard : ShardId) → shard_asked links p.link p.step ≡ Some shard → (HasStep named p.link p.step → ⊥)
        → ((q : Place) → IsBefore q p → (shard : ShardId) → shard_asked links q.link q.step ≡ Some shard → HasStep named q.link q.step)
        → (o : Option Place) → ((q : Place) → IsFine o q → IsFine least q × IsBefore q p) → (o ≡ least) ⊎ (o ≡ Some p) → IsSome o → Found tapes links o
    first_of_these p shard asks none before None less which some = absurd (false≢true some)
    first_of_these p shard asks none before (Some r) less which some = record {
      fails = elim which [
        | inl same ↦ subst (λ x. IsWrong tapes links x) (sym same) h.wrong
        | inr this ↦ λ matched.
            let is : r ≡ p = same_Some r p this in
            let it = (subst (λ x. IsMatched tapes links x.link x.step) is matched).named shard asks in
            none (h.has p.link p.step it.0 it.1 (all_seen it.0 it.1 p.link p.step it.2) it.2)
      ];
      first = λ q lt. let fine = less q lt in matched_if q.link q.step fine.0 (before q fine.1);
    }

    pub all_found : AreAllNamed links named (length links) → (o : Option Place) → o ≡ least → Found tapes links o
    all_found all = first_of_all (λ l s shard asks. all l s (asked_link links l s shard asks) (some_is (shard_asked links l s) shard asks))

    before_named : (p q : Place) → AreAllNamed links named p.link → AreNamed (steps_of links p.link) named p.link p.step → IsBefore q p
        → (shard : ShardId) → shard_asked links q.link q.step ≡ Some shard → HasStep named q.link q.step
    before_named p q all these (inl lt) shard asks = all q.link q.step lt (some_is (shard_asked links q.link q.step) shard asks)
    before_named p q all these (inr lt) shard asks =
        subst (λ l. HasStep named l q.step) (sym lt.0)
        (these q.step lt.1 (some_is (shard_asked links p.link q.step) shard (subst (λ l. shard_asked links l q.step ≡ Some shard) lt.0 asks)))

    pub these_found : (p : Place) → IsSome (shard_asked links p.link p.step) × (HasStep named p.link p.step → ⊥) → AreAllNamed links named p.link
        → AreNamed (steps_of links p.link) named p.link p.step → (o : Option Place) → ((q : Place) → IsFine o q → IsFine least q × IsBefore q p)
        → (o ≡ least) ⊎ (o ≡ Some p) → IsSome o → Found tapes links o
    these_found p some all these o less which is =
        let asks = some_value (shard_asked links p.link p.step) some.0 in
        first_of_these p asks.0 asks.1 some.1 (λ q lt. before_named p q all these lt) o less which is
