-- Steps that stand behind each other in a round keep each other from going.
use Rattle.std.proofs.Common.{◌≤◌, List, [], ◌∷◌, length, slice_index, ap, subst, inl, inr, arith}
use Rattle.std.specs.List.{AllByRecursion}
use Rattle.std.proofs.lemmas.Bool.{cases_lt}
use Rattle.std.proofs.lemmas.Option.{slice_get_within}
use Rattle.share_record.specs.declared.tag.Tag.TheVariants.{Part}
use Rattle.share_record.specs.declared.tape.LinkTape.{LinkTape}
use Rattle.share_record.specs.declared.tape.ShardTape.{ShardTape}
use Rattle.tape_merge.specs.declared.moves.Move.{Move}
use Rattle.tape_merge.specs.declared.place.Place.{Place}
use Rattle.tape_merge.specs.Matching.{Descend, IsBehind, IsLeastOfCycle, steps_of, tags_of}
use Rattle.tape_merge.specs.Moves.{Counts, GoOn, IsDone, IsSized, LeftAreLeft, PassedHaveGone, after, begin}
use Rattle.tape_merge.proofs.Counting.{gone_bound, left_from_done, none_past, passed_at_first, passed_bound, passed_more, sized_after, sized_at_first, zero_at}

module _ (tapes : List ShardTape) (links : List LinkTape) where
  abbrev Left : Counts → Place → Type 0
  Left c place = slice_index c.gone place.link ≤ place.step

  -- it stands behind a place of which this holds
  abbrev HasBefore : (Place → Type 0) → Place → Type 0
  HasBefore P place = (first : Place) × P first × IsBehind tapes links place first

  each_has : (P : Place → Type 0) (y : Place) (ys : List Place) (x : Place) → Descend tapes links y ys x → P x → AllByRecursion P ys → AllByRecursion (HasBefore P) (y ∷ ys)
  each_has P y [] x d px all = ((x, px, d), tt)
  each_has P y (z ∷ zs) x d px all = ((z, all.0, d.0), each_has P z zs x d.1 px all.1)

  -- a step that stands behind one that is left is left as well, whatever goes
  stays_left : (c : Counts) (m : Move) → PassedHaveGone tapes c → LeftAreLeft tapes (after c m) → (z : Place) → HasBefore (Left c) z → Left (after c m) z
  stays_left c m passed left z has = elim has.2 [
    | inl on ↦ omega (arith, gone_bound c m z.link, ap (λ l. slice_index c.gone l) on.link, has.1, on.behind)
    | inr on ↦ elim (cases_lt on.at (slice_index c.passed on.tape)) [
      | inl lt ↦ absurd (omega (arith, passed on.tape on.at has.0.link has.0.step lt on.first_is, has.1))
      | inr ge ↦ left on.tape on.there z.link z.step (omega (arith, passed_bound c m on.tape, ge, on.behind)) on.later_is
    ]
  ]

  all_stay : (c : Counts) (m : Move) → PassedHaveGone tapes c → LeftAreLeft tapes (after c m) → (zs : List Place)
      → AllByRecursion (HasBefore (Left c)) zs → AllByRecursion (Left (after c m)) zs
  all_stay c m passed left [] all = tt
  all_stay c m passed left (z ∷ zs) all = (stays_left c m passed left z all.0, all_stay c m passed left zs all.1)

  -- at the end no step is left that stands behind another
  none_at_end : (c : Counts) → IsDone tapes links c → PassedHaveGone tapes c → (z : Place) → Left c z → (first : Place) → IsBehind tapes links z first → ⊥
  none_at_end c done passed z left first behind = elim behind [
    | inl on ↦ omega (arith, none_past (steps_of links z.link) (slice_index c.gone z.link) (done.steps z.link), left, on.within)
    | inr on ↦
        let there = slice_get_within (tags_of tapes on.tape) on.there (Part z.link z.step) on.later_is in
        let all = none_past (tags_of tapes on.tape) (slice_index c.passed on.tape) (done.tags on.tape) in
        omega (arith, left, passed on.tape on.there z.link z.step (omega (arith, there, all)) on.later_is)
  ]

  no_round : (c last : Counts) (moves : List Move) → GoOn tapes links c moves last → IsDone tapes links last → IsSized tapes links c → PassedHaveGone tapes c
      → (start : Place) (others : List Place) → Descend tapes links start others start → AllByRecursion (Left c) (start ∷ others) → ⊥
  no_round c last [] go done z passed start others round all =
      let has = each_has (Left c) start others start round all.0 all.1 in
      none_at_end c (subst (λ x. IsDone tapes links x) go done) passed start all.0 has.0.0 has.0.2
  no_round c last (m ∷ moves) go done z passed start others round all =
      let has = each_has (Left c) start others start round all.0 all.1 in
      no_round (after c m) last moves go.1 done (sized_after tapes links c m z) (passed_more tapes links c m z go.0.can passed) start others round
      (all_stay c m passed (left_from_done tapes links (after c m) last moves go.1 done) (start ∷ others) has)

  all_left : (places : List Place) → AllByRecursion (Left (begin tapes links)) places
  all_left [] = tt
  all_left (z ∷ zs) = (omega (arith, zero_at (length links) z.link), all_left zs)

  pub untangled : (last : Counts) (moves : List Move) → GoOn tapes links (begin tapes links) moves last → IsDone tapes links last
      → (place : Place) → IsLeastOfCycle tapes links place → ⊥
  untangled last moves go done place cycle =
      no_round (begin tapes links) last moves go done (sized_at_first tapes links) (passed_at_first tapes (length links) (length tapes))
      cycle.start cycle.others cycle.round (all_left (cycle.start ∷ cycle.others))
