-- Which links' next steps may go, behind a move.
use Rattle.std.proofs.Common.{◌≡◌, ◌<◌, ◌+◌, ◌⊎◌, ◌∙◌, ℕ, Bool, true, false, cond, List, [], ◌∷◌, length, slice_get, slice_index, Option, Some, None, IsTrue, refl, sym, ap, subst, inl, inr, arith, nat_cmp, is_gt, eqb}
use Rattle.std.specs.List.{list_any}
use Rattle.std.specs.BTreeMap.{is_at}
use Rattle.std.proofs.lemmas.Bool.{cases_lt, cases_eq, cases_order, cases_Bool, eq-eqb, eqb-true, false≢true, ne_eqb}
use Rattle.std.proofs.lemmas.Bool.Decides.{nat_tests}
use Rattle.std.proofs.lemmas.Option.{none-some, same_Some}
use Rattle.share_model.specs.declared.visit.ShardId.{ShardId}
use Rattle.share_record.specs.declared.tag.Tag.TheVariants.{Part}
use Rattle.share_record.specs.declared.tape.LinkTape.{LinkTape}
use Rattle.share_record.specs.declared.tape.ShardTape.{ShardTape}
use Rattle.tape_merge.specs.declared.moves.Move.{Move}
use Rattle.tape_merge.specs.declared.moves.Move.TheVariants.{Steps, Alone}
use Rattle.tape_merge.specs.Matching.{steps_of, tags_of}
use Rattle.tape_merge.specs.Moves.{CanGo, Counts, GoesAlone, GoesBefore, IsDueOn, IsNext, StepGoes, after, next_tag}
use Rattle.tape_merge.specs.Readiness.{Any, Gains, Has, IsNamed, IsOther, IsReadyIf, MayGo, Touched}
use Rattle.tape_merge.proofs.Counting.{alone_names, due_tag, link_within, more_other, one_step, one_tag, part_link}

-- ---- sets of numbers

eq_at : (a b : ℕ) → is_at (nat_cmp a) b ≡ eqb a b
eq_at a b = let cases = cases_order a b in grind (arith, nat_tests)

-- without the key k
module _ (k q : ℕ) (old new : Bool) (is : new ≡ cond (is_at (nat_cmp k) q) false old) where
  pub popped_has : IsTrue old → (q ≡ k → ⊥) → IsTrue new
  popped_has h ne =
      let apart : is_at (nat_cmp k) q ≡ false = eq_at k q ∙ ne_eqb k q (λ e. ne (sym e)) in
      is ∙ (ap (λ b. cond b false old) apart ∙ h)

  pub popped_only : IsTrue new → (q ≡ k → ⊥) × IsTrue old
  popped_only h = elim (cases_Bool (is_at (nat_cmp k) q)) [
    | inl holds ↦ absurd (false≢true (sym (is ∙ ap (λ b. cond b false old) holds) ∙ h))
    | inr fails ↦ (
      (λ e. false≢true (sym fails ∙ (eq_at k q ∙ eq-eqb k q (sym e)))),
      sym (is ∙ ap (λ b. cond b false old) fails) ∙ h,
    )
  ]

-- with the key k
module _ (k q : ℕ) (old new : Bool) (is : new ≡ cond (is_at (nat_cmp k) q) true old) where
  inserted_kept : IsTrue old → IsTrue new
  inserted_kept h = elim (cases_Bool (is_at (nat_cmp k) q)) [
    | inl holds ↦ is ∙ ap (λ b. cond b true old) holds
    | inr fails ↦ is ∙ (ap (λ b. cond b true old) fails ∙ h)
  ]

  inserted_new : q ≡ k → IsTrue new
  inserted_new e = is ∙ ap (λ b. cond b true old) (eq_at k q ∙ eq-eqb k q (sym e))

  inserted_only : IsTrue new → IsTrue old ⊎ (q ≡ k)
  inserted_only h = elim (cases_Bool (is_at (nat_cmp k) q)) [
    | inl holds ↦ inr (sym (eqb-true k q (sym (eq_at k q) ∙ holds)))
    | inr fails ↦ inl (sym (is ∙ ap (λ b. cond b true old) fails) ∙ h)
  ]

module _ (tapes : List ShardTape) (links : List LinkTape) where
  -- ---- a step that goes at some counts goes at others that are the same where it looks

  same_due : (c d : Counts) (k : ℕ) (o : Option ShardId) (u : Option ℕ) → slice_index d.gone k ≡ slice_index c.gone k
      → ((t : ℕ) → u ≡ Some t → slice_index d.passed t ≡ slice_index c.passed t) → IsDueOn tapes c k o u → IsDueOn tapes d k o u
  same_due c d k None None gone passed h = tt
  same_due c d k None (Some t) gone passed h = absurd h
  same_due c d k (Some s) None gone passed h = absurd h
  same_due c d k (Some s) (Some t) gone passed h =
      (h.0, ap (λ n. slice_get (tags_of tapes t) n) (passed t refl) ∙ (h.1 ∙ ap (λ n. Some (Part k n)) (sym gone)))

  same_goes : (c d : Counts) (k : ℕ) (u : Option ℕ) → slice_index d.gone k ≡ slice_index c.gone k
      → ((t : ℕ) → u ≡ Some t → slice_index d.passed t ≡ slice_index c.passed t) → StepGoes tapes links c k u → StepGoes tapes links d k u
  same_goes c d k u gone passed can = (can.0, ap (λ n. slice_get (steps_of links k) n) gone ∙ can.1, same_due c d k can.0.shard u gone passed can.2)

  other_gone : (c : Counts) (m : Move) (k : ℕ) → IsOther m k → slice_index (after c m).gone k ≡ slice_index c.gone k
  other_gone c (Steps l None) k ne = more_other c.gone l k ne
  other_gone c (Steps l (Some v)) k ne = more_other c.gone l k ne
  other_gone c (Alone v) k ne = refl

  due_there : (c : Counts) (k : ℕ) (u : Option ℕ) (t : ℕ) → StepGoes tapes links c k u → u ≡ Some t → next_tag tapes c t ≡ Some (Part k (slice_index c.gone k))
  due_there c k u t can e = due_tag tapes c k can.0.shard t (subst (λ x. IsDueOn tapes c k can.0.shard x) e can.2)

  -- the tape of another link's step isn't the one of which a tag passes
  tape_stays : (c : Counts) (m : Move) (k : ℕ) (u : Option ℕ) (t : ℕ) → CanGo tapes links c m → IsOther m k → StepGoes tapes links c k u → u ≡ Some t
      → slice_index (after c m).passed t ≡ slice_index c.passed t
  tape_stays c (Steps l None) k u t can other goes e = refl
  tape_stays c (Steps l (Some v)) k u t can other goes e = elim (cases_eq t v) [
    | inr ne ↦ more_other c.passed v t ne
    | inl same ↦
        let mine = due_there c l (Some v) v can refl in
        let its = due_there c k u t goes e in
        absurd (other (one_step tapes t v (slice_index c.passed t) (slice_index c.passed v) k (slice_index c.gone k) l (slice_index c.gone l)
        same (ap (λ x. slice_index c.passed x) same) its mine).0)
  ]
  tape_stays c (Alone v) k u t can other goes e = elim (cases_eq t v) [
    | inr ne ↦ more_other c.passed v t ne
    | inl same ↦
        let its = due_there c k u t goes e in
        absurd (alone_names can.0 k (slice_index c.gone k) can.2 (sym (one_tag tapes t v (slice_index c.passed t) (slice_index c.passed v)
        (Part k (slice_index c.gone k)) can.0 same (ap (λ x. slice_index c.passed x) same) its can.1)))
  ]

  still_ready : (c : Counts) (m : Move) → CanGo tapes links c m → (k : ℕ) → IsOther m k → MayGo tapes links c k → MayGo tapes links (after c m) k
  still_ready c m can k other may =
      (may.0, same_goes c (after c m) k may.0 (other_gone c m k other) (λ t e. tape_stays c m k may.0 t can other may.1 e) may.1)

  -- a step of another link that may go behind a move might go before, unless the tag that is next now names it
  was_ready : (c : Counts) (m : Move) (k : ℕ) (u : Option ℕ) → IsOther m k → ((t : ℕ) → u ≡ Some t → slice_index (after c m).passed t ≡ slice_index c.passed t)
      → StepGoes tapes links (after c m) k u → MayGo tapes links c k
  was_ready c m k u other stays goes = (u, same_goes (after c m) c k u (sym (other_gone c m k other)) (λ t e. sym (stays t e)) goes)

  module _ (c : Counts) (old new : List ℕ) where
    has_behind : (m : Move) → IsReadyIf (IsOther m) tapes links c old → Gains (Touched tapes (after c m) m) tapes links (after c m) old new
        → (k : ℕ) (u : Option ℕ) → StepGoes tapes links (after c m) k u → Has new k
    has_behind (Steps l None) ready gains k u goes = elim (cases_eq k l) [
      | inl same ↦ gains.gained k same (u, goes)
      | inr ne ↦ gains.kept k (ready.has k ne (was_ready c (Steps l None) k u ne (λ t e. refl) goes))
    ]
    has_behind (Steps l (Some v)) ready gains k None goes = elim (cases_eq k l) [
      | inl same ↦ gains.gained k (inl same) (None, goes)
      | inr ne ↦ gains.kept k (ready.has k ne (was_ready c (Steps l (Some v)) k None ne (λ t e. absurd (none-some t e)) goes))
    ]
    has_behind (Steps l (Some v)) ready gains k (Some u) goes = elim (cases_eq k l) [
      | inl same ↦ gains.gained k (inl same) (Some u, goes)
      | inr ne ↦ elim (cases_eq u v) [
        | inl same ↦
            let d = after c (Steps l (Some v)) in
            let named : next_tag tapes d v ≡ Some (Part k (slice_index d.gone k)) =
            subst (λ x. next_tag tapes d x ≡ Some (Part k (slice_index d.gone k))) same (due_there d k (Some u) u goes refl) in
            gains.gained k (inr (slice_index d.gone k, named)) (Some u, goes)
        | inr apart ↦
            gains.kept k (ready.has k ne (was_ready c (Steps l (Some v)) k (Some u) ne
            (λ t e. more_other c.passed v t (λ is. apart (same_Some u t e ∙ is))) goes))
      ]
    ]
    has_behind (Alone v) ready gains k None goes =
        gains.kept k (ready.has k tt (was_ready c (Alone v) k None tt (λ t e. absurd (none-some t e)) goes))
    has_behind (Alone v) ready gains k (Some u) goes = elim (cases_eq u v) [
      | inl same ↦
          let d = after c (Alone v) in
          let named : next_tag tapes d v ≡ Some (Part k (slice_index d.gone k)) =
          subst (λ x. next_tag tapes d x ≡ Some (Part k (slice_index d.gone k))) same (due_there d k (Some u) u goes refl) in
          gains.gained k (slice_index d.gone k, named) (Some u, goes)
      | inr apart ↦
          gains.kept k (ready.has k tt (was_ready c (Alone v) k (Some u) tt (λ t e. more_other c.passed v t (λ is. apart (same_Some u t e ∙ is))) goes))
    ]

    pub ready_behind : (m : Move) → CanGo tapes links c m → IsReadyIf (IsOther m) tapes links c old
        → Gains (Touched tapes (after c m) m) tapes links (after c m) old new → IsReadyIf Any tapes links (after c m) new
    ready_behind m can ready gains = record {
      has = λ k any may. has_behind m ready gains k may.0 may.1;
      only = λ k h. (
        tt,
        elim (gains.only k h) [
          | inl was ↦ let it = ready.only k was in still_ready c m can k it.0 it.1
          | inr touched ↦ touched.1
        ],
      );
    }

  -- ---- what a look gains

  module _ (d : Counts) where
    pub gains_insert : (link : ℕ) (old new : List ℕ) → MayGo tapes links d link
        → ((q : ℕ) → list_any (is_at (nat_cmp q)) new ≡ cond (is_at (nat_cmp link) q) true (list_any (is_at (nat_cmp q)) old))
        → Gains (λ k. k ≡ link) tapes links d old new
    gains_insert link old new may is = record {
      kept = λ q h. inserted_kept link q (list_any (is_at (nat_cmp q)) old) (list_any (is_at (nat_cmp q)) new) (is q) h;
      gained = λ q e _. inserted_new link q (list_any (is_at (nat_cmp q)) old) (list_any (is_at (nat_cmp q)) new) (is q) e;
      only = λ q h. elim (inserted_only link q (list_any (is_at (nat_cmp q)) old) (list_any (is_at (nat_cmp q)) new) (is q) h) [
        | inl was ↦ inl was
        | inr e ↦ inr (e, subst (λ x. MayGo tapes links d x) (sym e) may)
      ];
    }

    pub gains_nothing : (P : ℕ → Type 0) (keys : List ℕ) → ((k : ℕ) → P k → MayGo tapes links d k → ⊥) → Gains P tapes links d keys keys
    gains_nothing P keys none = record {
      kept = λ k h. h;
      gained = λ k p may. absurd (none k p may);
      only = λ k h. inl h;
    }

    pub gains_as : (P Q : ℕ → Type 0) (old new : List ℕ) → ((k : ℕ) → P k → Q k) → ((k : ℕ) → Q k → P k) → Gains P tapes links d old new → Gains Q tapes links d old new
    gains_as P Q old new to back g = record {
      kept = g.kept;
      gained = λ k q may. g.gained k (back k q) may;
      only = λ k h. elim (g.only k h) [ inl was ↦ inl was | inr new ↦ inr (to k new.0, new.1) ];
    }

    pub gains_both : (P Q : ℕ → Type 0) (old mid new : List ℕ) → Gains P tapes links d old mid → Gains Q tapes links d mid new → Gains (λ k. P k ⊎ Q k) tapes links d old new
    gains_both P Q old mid new g h = record {
      kept = λ k was. h.kept k (g.kept k was);
      gained = λ k either may. elim either [ inl p ↦ h.kept k (g.gained k p may) | inr q ↦ h.gained k q may ];
      only = λ k has. elim (h.only k has) [
        | inl mid ↦ elim (g.only k mid) [ inl was ↦ inl was | inr new ↦ inr (inl new.0, new.1) ]
        | inr new ↦ inr (inr new.0, new.1)
      ];
    }

    -- the link that the next tag names is one
    pub named_one : (tape link k : ℕ) → IsNamed tapes d tape link → IsNamed tapes d tape k → k ≡ link
    named_one tape link k h g = part_link k g.0 link h.0 (same_Some (Part k g.0) (Part link h.0) (sym g.1 ∙ h.1))

    pub ready_more : (i : ℕ) (old new : List ℕ) → IsReadyIf (λ k. k < i) tapes links d old → Gains (λ k. k ≡ i) tapes links d old new
        → IsReadyIf (λ k. k < i + 1) tapes links d new
    ready_more i old new ready gains = record {
      has = λ k lt may. elim (cases_lt k i) [
        | inl below ↦ gains.kept k (ready.has k below may)
        | inr above ↦ gains.gained k (omega (arith, lt, above)) may
      ];
      only = λ k h. elim (gains.only k h) [
        | inl was ↦ let it = ready.only k was in (omega (arith, it.0), it.1)
        | inr new ↦ (omega (arith, new.0), new.1)
      ];
    }

    pub ready_none : IsReadyIf (λ k. k < 0) tapes links d []
    ready_none = record {
      has = λ k lt may. absurd (omega (arith, lt));
      only = λ k h. absurd (false≢true h);
    }

    pub ready_all : (ready : List ℕ) → IsReadyIf (λ k. k < length links) tapes links d ready → IsReadyIf Any tapes links d ready
    ready_all ready it = record {
      has = λ k any may. it.has k (link_within links k (slice_index d.gone k) may.1.0 may.1.1) may;
      only = λ k h. (tt, (it.only k h).1);
    }

    -- ---- what is next

    below_least : (link k : ℕ) → is_gt (nat_cmp link k) ≡ false → k < link → ⊥
    below_least link k h lt = let gt : is_gt (nat_cmp link k) ≡ true = grind (arith, nat_tests) in false≢true (sym h ∙ gt)

    next_first : (ready : List ℕ) (link : ℕ) (tape : Option ℕ) → IsReadyIf Any tapes links d ready → ((q : ℕ) → Has ready q → is_gt (nat_cmp link q) ≡ false)
        → (other : Move) → CanGo tapes links d other → GoesBefore other (Steps link tape) → ⊥
    next_first ready link tape it least (Steps k u) can before = below_least link k (least k (it.has k tt (u, can))) before
    next_first ready link tape it least (Alone t) can before = before

    -- the least link that is ready goes next, and the others are ready still
    pub next_step_is : (ready rest : List ℕ) (link : ℕ) (tape : Option ℕ) → IsReadyIf Any tapes links d ready → ((q : ℕ) → Has ready q → is_gt (nat_cmp link q) ≡ false)
        → StepGoes tapes links d link tape → IsNext tapes links d (Steps link tape)
    next_step_is ready rest link tape it least goes = record { can = goes; first = next_first ready link tape it least }

    pub others_ready : (ready rest : List ℕ) (link : ℕ) (tape : Option ℕ) → IsReadyIf Any tapes links d ready
        → ((q : ℕ) → list_any (is_at (nat_cmp q)) rest ≡ cond (is_at (nat_cmp link) q) false (list_any (is_at (nat_cmp q)) ready))
        → IsReadyIf (IsOther (Steps link tape)) tapes links d rest
    others_ready ready rest link tape it is = record {
      has = λ k ne may. popped_has link k (list_any (is_at (nat_cmp k)) ready) (list_any (is_at (nat_cmp k)) rest) (is k) (it.has k tt may) ne;
      only = λ k h.
          let was = popped_only link k (list_any (is_at (nat_cmp k)) ready) (list_any (is_at (nat_cmp k)) rest) (is k) h in
          (was.0, (it.only k was.1).1);
    }

    none_has : (keys : List ℕ) → (0 < length keys → ⊥) → (k : ℕ) → Has keys k → ⊥
    none_has [] none k h = false≢true h
    none_has (x ∷ xs) none k h = none (omega arith)

    -- where none is ready no step may go
    pub none_may : (ready : List ℕ) → IsReadyIf Any tapes links d ready → (0 < length ready → ⊥) → (k : ℕ) → MayGo tapes links d k → ⊥
    none_may ready it none k may = none_has ready none k (it.has k tt may)

    alone_first : ((k : ℕ) → MayGo tapes links d k → ⊥) → (tape : ℕ) → ((t : ℕ) → t < tape → GoesAlone tapes d t → ⊥)
        → (other : Move) → CanGo tapes links d other → GoesBefore other (Alone tape) → ⊥
    alone_first none tape first (Steps k u) can before = none k (u, can)
    alone_first none tape first (Alone t) can before = first t before can

    pub next_alone_is : ((k : ℕ) → MayGo tapes links d k → ⊥) → (tape : ℕ) → GoesAlone tapes d tape → ((t : ℕ) → t < tape → GoesAlone tapes d t → ⊥)
        → IsNext tapes links d (Alone tape)
    next_alone_is none tape goes first = record { can = goes; first = alone_first none tape first }

    pub none_ready : ((k : ℕ) → MayGo tapes links d k → ⊥) → (ready : List ℕ) → (0 < length ready → ⊥) → (tape : ℕ) → IsReadyIf (IsOther (Alone tape)) tapes links d ready
    none_ready none ready empty tape = record {
      has = λ k any may. absurd (none k may);
      only = λ k h. absurd (none_has ready empty k h);
    }

    pub none_goes : ((k : ℕ) → MayGo tapes links d k → ⊥) → ((t : ℕ) → GoesAlone tapes d t → ⊥) → (other : Move) → CanGo tapes links d other → ⊥
    none_goes none alone (Steps k u) can = none k (u, can)
    none_goes none alone (Alone t) can = alone t can
