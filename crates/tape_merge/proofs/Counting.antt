-- What each move leaves of the counts: the tags that have passed are those of steps that have gone.
use Rattle.std.proofs.Common.{◌≡◌, ◌<◌, ◌≤◌, ◌+◌, ◌⊎◌, ◌∙◌, ℕ, zero, suc, List, [], ◌∷◌, length, replicate, slice_get, slice_index, Option, Some, None, refl, sym, ap, ap₂, subst, inl, inr, arith, length-set, get_or-set_same, get_or-set_other, le_trans}
use Rattle.std.proofs.lemmas.Bool.{cases_lt}
use Rattle.std.proofs.lemmas.List.{length-replicate}
use Rattle.std.proofs.lemmas.Option.{none-some, same_Some, slice_get_within}
use Rattle.share_model.specs.declared.visit.ShardId.{ShardId}
use Rattle.share_record.specs.declared.tag.Tag.{Tag}
use Rattle.share_record.specs.declared.tag.Tag.TheVariants.{Part}
use Rattle.share_record.specs.declared.tape.LinkStep.{LinkStep}
use Rattle.share_record.specs.declared.tape.LinkTape.{LinkTape}
use Rattle.share_record.specs.declared.tape.ShardTape.{ShardTape}
use Rattle.tape_merge.specs.declared.moves.Move.{Move}
use Rattle.tape_merge.specs.declared.moves.Move.TheVariants.{Steps, Alone}
use Rattle.tape_merge.specs.Matching.{AreMatched, Names, shard_asked, shard_in, steps_of, tags_of}
use Rattle.tape_merge.specs.Moves.{CanGo, Counts, GoOn, IsAlone, IsDone, IsDueOn, IsSized, LeftAreLeft, PassedHaveGone, after, next_tag, one_more}

-- ---- lists of counts

pub more_le : (xs : List ℕ) (i j : ℕ) → slice_index xs j ≤ slice_index (one_more xs i) j
more_le [] i j = omega arith
more_le (x ∷ xs) zero zero = omega arith
more_le (x ∷ xs) zero (suc j) = omega arith
more_le (x ∷ xs) (suc i) zero = omega arith
more_le (x ∷ xs) (suc i) (suc j) = more_le xs i j

pub more_bound : (xs : List ℕ) (i j : ℕ) → slice_index (one_more xs i) j ≤ slice_index xs j + 1
more_bound [] i j = omega arith
more_bound (x ∷ xs) zero zero = omega arith
more_bound (x ∷ xs) zero (suc j) = omega arith
more_bound (x ∷ xs) (suc i) zero = omega arith
more_bound (x ∷ xs) (suc i) (suc j) = more_bound xs i j

newest : (x n : ℕ) → n < x + 1 → (n < x) ⊎ ((zero ≡ zero) × (n ≡ x))
newest x n h = elim (cases_lt n x) [ inl l ↦ inl l | inr g ↦ inr (refl, omega arith) ]

further : (i j n x : ℕ) {P : Type 0} → (P ⊎ ((j ≡ i) × (n ≡ x))) → P ⊎ ((suc j ≡ suc i) × (n ≡ x))
further i j n x (inl l) = inl l
further i j n x (inr g) = inr (ap suc g.0, g.1)

-- what is counted newly is at the place that counts one more, and has that one's number
pub more_split : (xs : List ℕ) (i j n : ℕ) → n < slice_index (one_more xs i) j → (n < slice_index xs j) ⊎ ((j ≡ i) × (n ≡ slice_index xs i))
more_split [] i j n h = inl h
more_split (x ∷ xs) zero zero n h = newest x n h
more_split (x ∷ xs) zero (suc j) n h = inl h
more_split (x ∷ xs) (suc i) zero n h = inl h
more_split (x ∷ xs) (suc i) (suc j) n h = further i j n (slice_index xs i) (more_split xs i j n h)

pub more_same : (xs : List ℕ) (i : ℕ) → i < length xs → slice_index (one_more xs i) i ≡ slice_index xs i + 1
more_same xs i h = get_or-set_same xs i (slice_index xs i + 1) 0 h

pub more_other : (xs : List ℕ) (i j : ℕ) → (j ≡ i → ⊥) → slice_index (one_more xs i) j ≡ slice_index xs j
more_other xs i j ne = get_or-set_other xs i j (slice_index xs i + 1) 0 ne

pub zero_at : (n i : ℕ) → slice_index (replicate n 0) i ≡ 0
zero_at zero i = refl
zero_at (suc n) zero = refl
zero_at (suc n) (suc i) = zero_at n i

pub none_past : {X : Type 0} (xs : List X) (i : ℕ) → slice_get xs i ≡ None → length xs ≤ i
none_past [] i h = omega arith
none_past (x ∷ xs) zero h = absurd (none-some x (sym h))
none_past (x ∷ xs) (suc i) h = omega (arith, none_past xs i h)

-- ---- steps and tags that are there

pub link_within : (links : List LinkTape) (link at : ℕ) (step : LinkStep) → slice_get (steps_of links link) at ≡ Some step → link < length links
link_within [] link at step h = absurd (none-some step h)
link_within (x ∷ xs) zero at step h = omega arith
link_within (x ∷ xs) (suc link) at step h = omega (arith, link_within xs link at step h)

pub tape_within : (tapes : List ShardTape) (tape at : ℕ) (tag : Tag) → slice_get (tags_of tapes tape) at ≡ Some tag → tape < length tapes
tape_within [] tape at tag h = absurd (none-some tag h)
tape_within (x ∷ xs) zero at tag h = omega arith
tape_within (x ∷ xs) (suc tape) at tag h = omega (arith, tape_within xs tape at tag h)

pub part_link : (l s k n : ℕ) → Part l s ≡ Part k n → l ≡ k
part_link l s k n h = cc

part_step : (l s k n : ℕ) → Part l s ≡ Part k n → s ≡ n
part_step l s k n h = cc

-- one tag of one place
pub one_tag : (tapes : List ShardTape) (t u at n : ℕ) (a b : Tag) → t ≡ u → at ≡ n → slice_get (tags_of tapes t) at ≡ Some a → slice_get (tags_of tapes u) n ≡ Some b → a ≡ b
one_tag tapes t u at n a b e f g h =
    let same : slice_get (tags_of tapes t) at ≡ slice_get (tags_of tapes u) n = ap₂ (λ x y. slice_get (tags_of tapes x) y) e f in
    same_Some a b (sym g ∙ (same ∙ h))

pub one_step : (tapes : List ShardTape) (t u at n l s k g : ℕ) → t ≡ u → at ≡ n → Names tapes t at l s → Names tapes u n k g → (l ≡ k) × (s ≡ g)
one_step tapes t u at n l s k g e f a b =
    let same = one_tag tapes t u at n (Part l s) (Part k g) e f a b in
    (part_link l s k g same, part_step l s k g same)

pub renamed : (tapes : List ShardTape) (t at l s k g : ℕ) → l ≡ k → s ≡ g → Names tapes t at l s → Names tapes t at k g
renamed tapes t at l s k g e f h = h ∙ ap₂ (λ x y. Some (Part x y)) e f

-- a tag of no step names none
pub alone_names : (tag : Tag) (l s : ℕ) → IsAlone tag → tag ≡ Part l s → ⊥
alone_names tag l s h e = subst IsAlone e h

pub asked_by : (links : List LinkTape) (link at : ℕ) (step : LinkStep) → slice_get (steps_of links link) at ≡ Some step → shard_asked links link at ≡ step.shard
asked_by links link at step h = ap shard_in h

module _ (tapes : List ShardTape) (c : Counts) (link : ℕ) where
  pub due_free : (o : Option ShardId) → IsDueOn tapes c link o None → o ≡ None
  due_free None h = refl
  due_free (Some shard) h = absurd h

  pub due_tag : (o : Option ShardId) (tape : ℕ) → IsDueOn tapes c link o (Some tape) → next_tag tapes c tape ≡ Some (Part link (slice_index c.gone link))
  due_tag None tape h = absurd h
  due_tag (Some shard) tape h = h.1

-- ---- a move

gone_le : (c : Counts) (m : Move) (l : ℕ) → slice_index c.gone l ≤ slice_index (after c m).gone l
gone_le c (Steps link None) l = more_le c.gone link l
gone_le c (Steps link (Some tape)) l = more_le c.gone link l
gone_le c (Alone tape) l = omega arith

passed_le : (c : Counts) (m : Move) (t : ℕ) → slice_index c.passed t ≤ slice_index (after c m).passed t
passed_le c (Steps link None) t = omega arith
passed_le c (Steps link (Some tape)) t = more_le c.passed tape t
passed_le c (Alone tape) t = more_le c.passed tape t

pub gone_bound : (c : Counts) (m : Move) (l : ℕ) → slice_index (after c m).gone l ≤ slice_index c.gone l + 1
gone_bound c (Steps link None) l = more_bound c.gone link l
gone_bound c (Steps link (Some tape)) l = more_bound c.gone link l
gone_bound c (Alone tape) l = omega arith

pub passed_bound : (c : Counts) (m : Move) (t : ℕ) → slice_index (after c m).passed t ≤ slice_index c.passed t + 1
passed_bound c (Steps link None) t = omega arith
passed_bound c (Steps link (Some tape)) t = more_bound c.passed tape t
passed_bound c (Alone tape) t = more_bound c.passed tape t

module _ (tapes : List ShardTape) (links : List LinkTape) where
  pub sized_after : (c : Counts) (m : Move) → IsSized tapes links c → IsSized tapes links (after c m)
  sized_after c (Steps link None) z = record { gone = length-set c.gone link (slice_index c.gone link + 1) ∙ z.gone; passed = z.passed }
  sized_after c (Steps link (Some tape)) z = record {
    gone = length-set c.gone link (slice_index c.gone link + 1) ∙ z.gone;
    passed = length-set c.passed tape (slice_index c.passed tape + 1) ∙ z.passed;
  }
  sized_after c (Alone tape) z = record { gone = z.gone; passed = length-set c.passed tape (slice_index c.passed tape + 1) ∙ z.passed }

  -- the link of a step that goes, and the tape of a tag that passes
  pub goes_within : (c : Counts) (link : ℕ) (tape : Option ℕ) → IsSized tapes links c → CanGo tapes links c (Steps link tape) → link < length c.gone
  goes_within c link tape z can = omega (arith, z.gone, link_within links link (slice_index c.gone link) can.0 can.1)

  pub tag_within : (c : Counts) (tape : ℕ) (tag : Tag) → IsSized tapes links c → next_tag tapes c tape ≡ Some tag → tape < length c.passed
  tag_within c tape tag z h = omega (arith, z.passed, tape_within tapes tape (slice_index c.passed tape) tag h)

  -- the step at which a tag newly passes has newly gone
  just_gone : (c : Counts) (link l s : ℕ) → link < length c.gone → l ≡ link → s ≡ slice_index c.gone link → s < slice_index (one_more c.gone link) l
  just_gone c link l s within e f = subst (λ x. s < slice_index (one_more c.gone link) x) (sym e) (omega (arith, f, more_same c.gone link within))

  pub passed_more : (c : Counts) (m : Move) → IsSized tapes links c → CanGo tapes links c m → PassedHaveGone tapes c → PassedHaveGone tapes (after c m)
  passed_more c (Steps link None) z can h tape at l s lt names = omega (arith, h tape at l s lt names, more_le c.gone link l)
  passed_more c (Steps link (Some u)) z can h tape at l s lt names =
      let tag = due_tag tapes c link can.0.shard u can.2 in
      let within = goes_within c link (Some u) z can in
      elim (more_split c.passed u tape at lt) [
        | inl old ↦ omega (arith, h tape at l s old names, more_le c.gone link l)
        | inr new ↦
            let same = one_step tapes tape u at (slice_index c.passed u) l s link (slice_index c.gone link) new.0 new.1 names tag in
            just_gone c link l s within same.0 same.1
      ]
  passed_more c (Alone u) z can h tape at l s lt names =
      elim (more_split c.passed u tape at lt) [
        | inl old ↦ h tape at l s old names
        | inr new ↦
            absurd (alone_names can.0 l s can.2 (sym (one_tag tapes tape u at (slice_index c.passed u) (Part l s) can.0 new.0 new.1 names can.1)))
      ]

  -- where each step and each tag name each other, the tags that are left are of steps that are
  pub left_more : AreMatched tapes links → (c : Counts) (m : Move) → IsSized tapes links c → CanGo tapes links c m → LeftAreLeft tapes c → LeftAreLeft tapes (after c m)
  left_more matched c (Steps link None) z can h tape at l s le names =
      elim (cases_lt s (slice_index (one_more c.gone link) l)) [
        | inr ge ↦ ge
        | inl lt ↦ elim (more_split c.gone link l s lt) [
          | inl old ↦ absurd (omega (arith, old, h tape at l s le names))
          | inr new ↦
              let asked = (matched link (slice_index c.gone link)).asked tape at (renamed tapes tape at l s link (slice_index c.gone link) new.0 new.1 names) in
              absurd (none-some asked.0 (sym (due_free tapes c link can.0.shard can.2) ∙ (sym (asked_by links link (slice_index c.gone link) can.0 can.1) ∙ asked.2)))
        ]
      ]
  left_more matched c (Steps link (Some u)) z can h tape at l s le names =
      let tag = due_tag tapes c link can.0.shard u can.2 in
      let within = tag_within c u (Part link (slice_index c.gone link)) z tag in
      elim (cases_lt s (slice_index (one_more c.gone link) l)) [
        | inr ge ↦ ge
        | inl lt ↦ elim (more_split c.gone link l s lt) [
          | inl old ↦ absurd (omega (arith, old, h tape at l s (le_trans (more_le c.passed u tape) le) names))
          | inr new ↦
              let one = (matched link (slice_index c.gone link)).once tape at u (slice_index c.passed u)
              (renamed tapes tape at l s link (slice_index c.gone link) new.0 new.1 names) tag in
              let there : slice_index (one_more c.passed u) u ≤ at = subst (λ x. slice_index (one_more c.passed u) x ≤ at) one.0 le in
              absurd (omega (arith, there, one.1, more_same c.passed u within))
        ]
      ]
  left_more matched c (Alone u) z can h tape at l s le names = h tape at l s (le_trans (more_le c.passed u tape) le) names

  -- the same backwards, whatever names what
  pub left_before : (c : Counts) (m : Move) → CanGo tapes links c m → LeftAreLeft tapes (after c m) → LeftAreLeft tapes c
  left_before c (Steps link None) can h tape at l s le names = omega (arith, h tape at l s le names, more_le c.gone link l)
  left_before c (Steps link (Some u)) can h tape at l s le names =
      elim (cases_lt at (slice_index (one_more c.passed u) tape)) [
        | inr ge ↦ omega (arith, h tape at l s ge names, more_le c.gone link l)
        | inl lt ↦ elim (more_split c.passed u tape at lt) [
          | inl old ↦ absurd (omega (arith, old, le))
          | inr new ↦
              let same = one_step tapes tape u at (slice_index c.passed u) l s link (slice_index c.gone link) new.0 new.1 names (due_tag tapes c link can.0.shard u can.2) in
              subst (λ x. slice_index c.gone x ≤ s) (sym same.0) (omega (arith, same.1))
        ]
      ]
  left_before c (Alone u) can h tape at l s le names =
      elim (cases_lt at (slice_index (one_more c.passed u) tape)) [
        | inr ge ↦ h tape at l s ge names
        | inl lt ↦ elim (more_split c.passed u tape at lt) [
          | inl old ↦ absurd (omega (arith, old, le))
          | inr new ↦
              absurd (alone_names can.0 l s can.2 (sym (one_tag tapes tape u at (slice_index c.passed u) (Part l s) can.0 new.0 new.1 names can.1)))
        ]
      ]

  left_at_end : (c : Counts) → IsDone tapes links c → LeftAreLeft tapes c
  left_at_end c done tape at l s le names =
      absurd (omega (arith, none_past (tags_of tapes tape) (slice_index c.passed tape) (done.tags tape), slice_get_within (tags_of tapes tape) at (Part l s) names, le))

  pub left_from_done : (c last : Counts) (moves : List Move) → GoOn tapes links c moves last → IsDone tapes links last → LeftAreLeft tapes c
  left_from_done c last [] go done = subst (LeftAreLeft tapes) go (left_at_end last done)
  left_from_done c last (m ∷ moves) go done = left_before c m go.0.can (left_from_done (after c m) last moves go.1 done)

-- ---- at first

pub passed_at_first : (tapes : List ShardTape) (n k : ℕ) → PassedHaveGone tapes (record { gone = replicate n 0; passed = replicate k 0 })
passed_at_first tapes n k tape at l s lt names = absurd (omega (arith, zero_at k tape, lt))

pub left_at_first : (tapes : List ShardTape) (n k : ℕ) → LeftAreLeft tapes (record { gone = replicate n 0; passed = replicate k 0 })
left_at_first tapes n k tape at l s le names = omega (arith, zero_at n l)

pub sized_at_first : (tapes : List ShardTape) (links : List LinkTape) → IsSized tapes links (record { gone = replicate (length links) 0; passed = replicate (length tapes) 0 })
sized_at_first tapes links = record { gone = length-replicate (length links) 0; passed = length-replicate (length tapes) 0 }
