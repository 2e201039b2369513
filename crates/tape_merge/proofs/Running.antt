-- What a merge keeps from move to move, and that it ends.
use Rattle.std.proofs.Common.{◌≡◌, ◌<◌, ◌+◌, ◌-◌, ◌++◌, ◌∙◌, ℕ, zero, suc, List, [], ◌∷◌, length, map, slice_index, Option, Some, None, refl, sym, ap, subst, arith, append_assoc, append-nil}
use Rattle.std.proofs.lemmas.Option.{slice_get_within}
use Rattle.session_script.specs.declared.event.Event.{Event}
use Rattle.topic_conf.specs.declared.topic.Topic.{Topic}
use Rattle.share_record.specs.declared.tag.Tag.{Tag}
use Rattle.share_record.specs.declared.tag.Tag.TheVariants.{Part}
use Rattle.share_record.specs.declared.tape.LinkTape.{LinkTape}
use Rattle.share_record.specs.declared.tape.ShardTape.{ShardTape}
use Rattle.tape_merge.specs.declared.moves.Move.{Move}
use Rattle.tape_merge.specs.declared.moves.Move.TheVariants.{Steps, Alone}
use Rattle.tape_merge.specs.Matching.{AreMatched, steps_of, tags_of}
use Rattle.tape_merge.specs.Moves.{CanGo, Counts, GoOn, HasRoom, IsCounted, IsNext, IsSized, LeftAreLeft, PassedHaveGone, after, begin, next_tag, one_more}
use Rattle.tape_merge.specs.Readiness.{Any, IsReadyIf}
use Rattle.tape_merge.specs.Telling.{told, told_by}
use Rattle.tape_merge.specs.Waiting.{IsStuck}
use Rattle.tape_merge.proofs.Counting.{due_tag, goes_within, left_at_first, left_more, passed_at_first, passed_more, sized_after, sized_at_first, tag_within}

-- ---- how much is left

abbrev pub left_in : (sizes counts : List ℕ) → ℕ
left_in [] counts = 0
left_in (n ∷ sizes) [] = n + left_in sizes []
left_in (n ∷ sizes) (k ∷ counts) = (n - k) + left_in sizes counts

less_left : (sizes counts : List ℕ) (i : ℕ) → i < length counts → slice_index counts i < slice_index sizes i → left_in sizes (one_more counts i) < left_in sizes counts
less_left [] counts i h lt = absurd (omega (arith, lt))
less_left (n ∷ sizes) [] i h lt = absurd (omega (arith, h))
less_left (n ∷ sizes) (k ∷ counts) zero h lt = omega (arith, lt)
less_left (n ∷ sizes) (k ∷ counts) (suc i) h lt = omega (arith, less_left sizes counts i (omega (arith, h)) lt)

step_counts : List LinkTape → List ℕ
step_counts links = map (λ (link : LinkTape). length link.steps) links

tag_counts : List ShardTape → List ℕ
tag_counts tapes = map (λ (tape : ShardTape). length tape.tags) tapes

step_count : (links : List LinkTape) (link : ℕ) → slice_index (step_counts links) link ≡ length (steps_of links link)
unfolding step_counts
step_count [] link = refl
step_count (x ∷ xs) zero = refl
step_count (x ∷ xs) (suc link) = step_count xs link

tag_count : (tapes : List ShardTape) (tape : ℕ) → slice_index (tag_counts tapes) tape ≡ length (tags_of tapes tape)
unfolding tag_counts
tag_count [] tape = refl
tag_count (x ∷ xs) zero = refl
tag_count (x ∷ xs) (suc tape) = tag_count xs tape

-- the steps and the tags that are left
pub left_of : List ShardTape → List LinkTape → Counts → ℕ
left_of tapes links c = left_in (step_counts links) c.gone + left_in (tag_counts tapes) c.passed

module _ (tapes : List ShardTape) (links : List LinkTape) where
  step_less : (c : Counts) (link : ℕ) (tape : Option ℕ) → IsSized tapes links c → CanGo tapes links c (Steps link tape)
      → left_in (step_counts links) (one_more c.gone link) < left_in (step_counts links) c.gone
  step_less c link tape z can =
      less_left (step_counts links) c.gone link (goes_within tapes links c link tape z can)
      (omega (arith, step_count links link, slice_get_within (steps_of links link) (slice_index c.gone link) can.0 can.1))

  tag_less : (c : Counts) (tape : ℕ) (tag : Tag) → IsSized tapes links c → next_tag tapes c tape ≡ Some tag
      → left_in (tag_counts tapes) (one_more c.passed tape) < left_in (tag_counts tapes) c.passed
  tag_less c tape tag z h =
      less_left (tag_counts tapes) c.passed tape (tag_within tapes links c tape tag z h)
      (omega (arith, tag_count tapes tape, slice_get_within (tags_of tapes tape) (slice_index c.passed tape) tag h))

  -- a move leaves less
  pub leaves_less : (c : Counts) (m : Move) → IsSized tapes links c → CanGo tapes links c m → left_of tapes links (after c m) < left_of tapes links c
  unfolding left_of
  leaves_less c (Steps link None) z can = omega (arith, step_less c link None z can)
  leaves_less c (Steps link (Some tape)) z can =
      let tag = due_tag tapes c link can.0.shard tape can.2 in
      omega (arith, step_less c link (Some tape) z can, tag_less c tape (Part link (slice_index c.gone link)) z tag)
  leaves_less c (Alone tape) z can = omega (arith, tag_less c tape can.0 z can.1)

  -- a move that may go can be counted
  pub counted : (c : Counts) (m : Move) → IsSized tapes links c → CanGo tapes links c m → HasRoom c m → IsCounted c m
  counted c (Steps link None) z can room = (goes_within tapes links c link None z can, room.0)
  counted c (Steps link (Some tape)) z can room =
      let tag = due_tag tapes c link can.0.shard tape can.2 in
      ((goes_within tapes links c link (Some tape) z can, room.0), (tag_within tapes links c tape (Part link (slice_index c.gone link)) z tag, room.1))
  counted c (Alone tape) z can room = (tag_within tapes links c tape can.0 z can.1, room)

  -- ---- one move more

  pub one_move_more : (c d : Counts) (moves : List Move) (m : Move) → GoOn tapes links c moves d → IsNext tapes links d m → GoOn tapes links c (moves ++ m ∷ []) (after d m)
  one_move_more c d [] m go is = (subst (λ x. IsNext tapes links x m) go is, ap (λ x. after x m) go)
  one_move_more c d (k ∷ moves) m go is = (go.0, one_move_more (after c k) d moves m go.1 is)

  pub told_more : (topics : List Topic) (c d : Counts) (moves : List Move) (m : Move) → GoOn tapes links c moves d
      → told topics tapes links c (moves ++ m ∷ []) ≡ told topics tapes links c moves ++ told_by topics tapes links d m
  told_more topics c d [] m go = append-nil (told_by topics tapes links c m) ∙ ap (λ x. told_by topics tapes links x m) (sym go)
  told_more topics c d (k ∷ moves) m go =
      ap (λ x. told_by topics tapes links c k ++ x) (told_more topics (after c k) d moves m go.1)
      ∙ sym (append_assoc (told_by topics tapes links c k) (told topics tapes links (after c k) moves) (told_by topics tapes links d m))

  -- what a merge keeps: what went, and the events that it told behind those that were there at first
  pub record Keeps (topics : List Topic) (c : Counts) (ready : List ℕ) (first events : List Event) : Type 0 where
    pub is_ready : IsReadyIf Any tapes links c ready
    pub sized : IsSized tapes links c
    pub passed : PassedHaveGone tapes c
    pub left : AreMatched tapes links → LeftAreLeft tapes c
    pub moves : List Move
    pub go : GoOn tapes links (begin tapes links) moves c
    pub tells : events ≡ first ++ told topics tapes links (begin tapes links) moves

  pub keeps_first : (topics : List Topic) (c : Counts) (ready : List ℕ) (events : List Event) → c ≡ begin tapes links → IsReadyIf Any tapes links c ready
      → Keeps topics c ready events events
  keeps_first topics c ready events is it = record {
    is_ready = it;
    sized = subst (λ x. IsSized tapes links x) (sym is) (sized_at_first tapes links);
    passed = subst (λ x. PassedHaveGone tapes x) (sym is) (passed_at_first tapes (length links) (length tapes));
    left = λ matched. subst (λ x. LeftAreLeft tapes x) (sym is) (left_at_first tapes (length links) (length tapes));
    moves = [];
    go = is;
    tells = sym (append-nil events);
  }

  pub keeps_more : (topics : List Topic) (c d : Counts) (old rest new : List ℕ) (first events more : List Event) (m : Move) → Keeps topics c old first events
      → IsNext tapes links c m → d ≡ after c m → IsReadyIf Any tapes links d new → more ≡ events ++ told_by topics tapes links c m → Keeps topics d new first more
  keeps_more topics c d old rest new first events more m k is e it tells = record {
    is_ready = it;
    sized = subst (λ x. IsSized tapes links x) (sym e) (sized_after tapes links c m k.sized);
    passed = subst (λ x. PassedHaveGone tapes x) (sym e) (passed_more tapes links c m k.sized is.can k.passed);
    left = λ matched. subst (λ x. LeftAreLeft tapes x) (sym e) (left_more tapes links matched c m k.sized is.can (k.left matched));
    moves = k.moves ++ m ∷ [];
    go = subst (λ x. GoOn tapes links (begin tapes links) (k.moves ++ m ∷ []) x) (sym e) (one_move_more (begin tapes links) c k.moves m k.go is);
    tells =
        let all = told_more topics (begin tapes links) c k.moves m k.go in
        tells ∙ (ap (λ x. x ++ told_by topics tapes links c m) k.tells
        ∙ (append_assoc first (told topics tapes links (begin tapes links) k.moves) (told_by topics tapes links c m)
        ∙ ap (λ x. first ++ x) (sym all)));
  }

  pub stops : (topics : List Topic) (c : Counts) (ready : List ℕ) (first events : List Event) → Keeps topics c ready first events
      → ((m : Move) → CanGo tapes links c m → ⊥) → AreMatched tapes links → IsStuck tapes links c
  stops topics c ready first events k none matched = record { none = none; passed = k.passed; left = k.left matched }
