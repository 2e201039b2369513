-- A merge does each step of each link once, in order, and takes each tape, in order.
use Rattle.std.proofs.Common.{◌≡◌, ◌<◌, ◌≤◌, ◌+◌, ◌-◌, ◌++◌, ◌∙◌, ℕ, suc, cond, eqb, List, [], ◌∷◌, length, drop, slice_get, slice_index, Option, Some, None, option_to_list, refl, sym, ap, subst, inl, inr, arith}
use Rattle.std.specs.List.{range_with_len}
use Rattle.std.proofs.lemmas.Bool.{cases_eq, eq-eqb, ne_eqb}
use Rattle.std.proofs.lemmas.List.{drop_all, drop_more}
use Rattle.std.proofs.lemmas.Option.{get_or_from_slice_get, slice_get_within}
use Rattle.share_record.specs.declared.tag.Tag.{Tag}
use Rattle.share_record.specs.declared.tag.Tag.TheVariants.{Part}
use Rattle.share_record.specs.declared.tape.LinkTape.{LinkTape}
use Rattle.share_record.specs.declared.tape.ShardTape.{ShardTape}
use Rattle.tape_merge.specs.declared.moves.Move.{Move}
use Rattle.tape_merge.specs.declared.moves.Move.TheVariants.{Steps, Alone}
use Rattle.tape_merge.specs.Matching.{steps_of, tags_of}
use Rattle.tape_merge.specs.Moves.{CanGo, Counts, GoOn, IsDone, IsSized, after, begin, next_tag, one_more}
use Rattle.tape_merge.specs.Merges.{KeepsOrders, steps_by, steps_done, tags_taken}
use Rattle.tape_merge.proofs.Counting.{due_tag, goes_within, more_other, more_same, none_past, sized_after, sized_at_first, tag_within, zero_at}

-- ---- what is left of a list of numbers, and of a list

range_end : (g n : ℕ) → n ≤ g → [] ≡ range_with_len g (n - g)
range_end g n h = let none : 0 ≡ n - g = omega (arith, h) in ap (λ x. range_with_len g x) none

range_more : (g n : ℕ) → g < n → g ∷ range_with_len (g + 1) (n - (g + 1)) ≡ range_with_len g (n - g)
range_more g n h = let one : suc (n - (g + 1)) ≡ n - g = omega (arith, h) in ap (λ x. range_with_len g x) one

drop_step : {X : Type 0} (xs : List X) (n : ℕ) (x : X) → slice_get xs n ≡ Some x → x ∷ drop (n + 1) xs ≡ drop n xs
drop_step xs n x h =
    ap (λ y. y ∷ drop (n + 1) xs) (sym (get_or_from_slice_get xs n x x h)) ∙ sym (drop_more xs n x (slice_get_within xs n x h))

if_same : {X : Type 0} (a b : ℕ) (x y : X) → a ≡ b → cond (eqb a b) x y ≡ x
if_same a b x y e = ap (λ t. cond t x y) (eq-eqb a b e)

if_apart : {X : Type 0} (a b : ℕ) (x y : X) → (a ≡ b → ⊥) → cond (eqb a b) x y ≡ y
if_apart a b x y ne = ap (λ t. cond t x y) (ne_eqb a b ne)

module _ (tapes : List ShardTape) (links : List LinkTape) where
  abbrev StepsLeft : Counts → ℕ → List ℕ
  StepsLeft c link = range_with_len (slice_index c.gone link) (length (steps_of links link) - slice_index c.gone link)

  abbrev TagsLeft : Counts → ℕ → List Tag
  TagsLeft c tape = drop (slice_index c.passed tape) (tags_of tapes tape)

  -- a step of this link, and of another
  step_taken : (c : Counts) (k : ℕ) (t : Option ℕ) (link : ℕ) → IsSized tapes links c → CanGo tapes links c (Steps k t) → (rest : List ℕ)
      → rest ≡ StepsLeft (after c (Steps k t)) link → steps_by link c (Steps k t) ++ rest ≡ StepsLeft c link
  step_taken c k t link z can rest is = elim (cases_eq link k) [
    | inl same ↦
        let within = goes_within tapes links c k t z can in
        let there = slice_get_within (steps_of links k) (slice_index c.gone k) can.0 can.1 in
        let mine : rest ≡ range_with_len (slice_index c.gone k + 1) (length (steps_of links k) - (slice_index c.gone k + 1)) =
        is ∙ (ap (λ l. range_with_len (slice_index (one_more c.gone k) l) (length (steps_of links l) - slice_index (one_more c.gone k) l)) same
        ∙ ap (λ g. range_with_len g (length (steps_of links k) - g)) (more_same c.gone k within)) in
        ap (λ x. x ++ rest) (if_same link k (slice_index c.gone k ∷ []) [] same)
        ∙ (ap (λ x. slice_index c.gone k ∷ x) mine
        ∙ (range_more (slice_index c.gone k) (length (steps_of links k)) there
        ∙ ap (λ l. range_with_len (slice_index c.gone l) (length (steps_of links l) - slice_index c.gone l)) (sym same)))
    | inr apart ↦
        ap (λ x. x ++ rest) (if_apart link k (slice_index c.gone k ∷ []) [] apart)
        ∙ (is ∙ ap (λ g. range_with_len g (length (steps_of links link) - g)) (more_other c.gone k link apart))
  ]

  steps_left : (c last : Counts) (moves : List Move) (link : ℕ) → GoOn tapes links c moves last → IsDone tapes links last → IsSized tapes links c
      → steps_done link c moves ≡ StepsLeft c link
  steps_left c last [] link go done z =
      let end = subst (λ x. IsDone tapes links x) go done in
      range_end (slice_index c.gone link) (length (steps_of links link)) (none_past (steps_of links link) (slice_index c.gone link) (end.steps link))
  steps_left c last (Steps k t ∷ moves) link go done z =
      step_taken c k t link z go.0.can (steps_done link (after c (Steps k t)) moves)
      (steps_left (after c (Steps k t)) last moves link go.1 done (sized_after tapes links c (Steps k t) z))
  steps_left c last (Alone t ∷ moves) link go done z = steps_left (after c (Alone t)) last moves link go.1 done (sized_after tapes links c (Alone t) z)

  -- a tag of this tape, and of another
  tag_taken : (c : Counts) (u : ℕ) (tag : Tag) (tape : ℕ) → IsSized tapes links c → next_tag tapes c u ≡ Some tag → (taken rest : List Tag)
      → taken ≡ tag ∷ [] → rest ≡ drop (slice_index (one_more c.passed u) tape) (tags_of tapes tape) → cond (eqb tape u) taken [] ++ rest ≡ TagsLeft c tape
  tag_taken c u tag tape z next taken rest one is = elim (cases_eq tape u) [
    | inl same ↦
        let within = tag_within tapes links c u tag z next in
        let mine : rest ≡ drop (slice_index c.passed u + 1) (tags_of tapes u) =
        is ∙ (ap (λ t. drop (slice_index (one_more c.passed u) t) (tags_of tapes t)) same ∙ ap (λ n. drop n (tags_of tapes u)) (more_same c.passed u within)) in
        ap (λ x. x ++ rest) (if_same tape u taken [] same ∙ one)
        ∙ (ap (λ x. tag ∷ x) mine
        ∙ (drop_step (tags_of tapes u) (slice_index c.passed u) tag next
        ∙ ap (λ t. drop (slice_index c.passed t) (tags_of tapes t)) (sym same)))
    | inr apart ↦
        ap (λ x. x ++ rest) (if_apart tape u taken [] apart) ∙ (is ∙ ap (λ n. drop n (tags_of tapes tape)) (more_other c.passed u tape apart))
  ]

  tags_left : (c last : Counts) (moves : List Move) (tape : ℕ) → GoOn tapes links c moves last → IsDone tapes links last → IsSized tapes links c
      → tags_taken tapes tape c moves ≡ TagsLeft c tape
  tags_left c last [] tape go done z =
      let end = subst (λ x. IsDone tapes links x) go done in
      sym (drop_all (slice_index c.passed tape) (tags_of tapes tape) (none_past (tags_of tapes tape) (slice_index c.passed tape) (end.tags tape)))
  tags_left c last (Steps k None ∷ moves) tape go done z =
      tags_left (after c (Steps k None)) last moves tape go.1 done (sized_after tapes links c (Steps k None) z)
  tags_left c last (Steps k (Some u) ∷ moves) tape go done z =
      let part = Part k (slice_index c.gone k) in
      tag_taken c u part tape z (due_tag tapes c k go.0.can.0.shard u go.0.can.2) (part ∷ []) (tags_taken tapes tape (after c (Steps k (Some u))) moves) refl
      (tags_left (after c (Steps k (Some u))) last moves tape go.1 done (sized_after tapes links c (Steps k (Some u)) z))
  tags_left c last (Alone u ∷ moves) tape go done z =
      tag_taken c u go.0.can.0 tape z go.0.can.1 (option_to_list (next_tag tapes c u)) (tags_taken tapes tape (after c (Alone u)) moves)
      (ap (λ o. option_to_list o) go.0.can.1)
      (tags_left (after c (Alone u)) last moves tape go.1 done (sized_after tapes links c (Alone u) z))

  pub keeps_orders : (last : Counts) (moves : List Move) → GoOn tapes links (begin tapes links) moves last → IsDone tapes links last → KeepsOrders tapes links moves
  keeps_orders last moves go done = record {
    by_link = λ link.
        let none = zero_at (length links) link in
        let all : length (steps_of links link) - 0 ≡ length (steps_of links link) = omega arith in
        steps_left (begin tapes links) last moves link go done (sized_at_first tapes links)
        ∙ (ap (λ g. range_with_len g (length (steps_of links link) - g)) none ∙ ap (λ n. range_with_len 0 n) all);
    by_tape = λ tape.
        tags_left (begin tapes links) last moves tape go done (sized_at_first tapes links)
        ∙ ap (λ n. drop n (tags_of tapes tape)) (zero_at (length tapes) tape);
  }
