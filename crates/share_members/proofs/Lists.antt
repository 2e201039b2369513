-- What the loops over topics, partitions and groups keep.
use Rattle.std.proofs.Common.{◌≡◌, ℕ, ℤ, pos, zero, suc, ◌+◌, ◌-◌, ◌<◌, ◌≤◌, Bool, true, false, cond, List, [], ◌∷◌, ◌++◌, map, refl, sym, ap, ◌∙◌, append_assoc, arith}
use Rattle.std.specs.List.{All, filter, list_any, range_with_len}
use Rattle.std.specs.Str.{bytes_eq}
use Rattle.std.proofs.lemmas.List.{append-nil}
use Rattle.std.proofs.lemmas.List.Elements.{filter-append}
use Rattle.std.proofs.lemmas.List.Sums.{sum_by-cons}
use Rattle.topic_conf.specs.declared.topic.Topic.{Topic}
use Rattle.msgs_group.specs.declared.heartbeat_reply.AssignedTopic.{AssignedTopic}
use Rattle.topic_conf.specs.Topics.{IsTopic, partitions}
use Rattle.share_members.specs.Topics.{HaveFewParts}
use Rattle.share_members.specs.Groups.{GroupParts, Groups, Members, next_epoch}
use Rattle.share_members.specs.Assignments.{has_place, assigned, assigned_topic}
use Rattle.share_members.specs.Heartbeats.{places_named}
use Rattle.share_members.specs.Expiry.{later_epoch, due, removed}

-- ---- epochs

pub later_goes_on : (changes counter : ℕ) (epoch : ℤ) → counter < changes → later_epoch (changes - counter) epoch ≡ later_epoch (changes - (counter + 1)) (next_epoch epoch)
later_goes_on changes counter epoch lt =
    let next : changes - counter ≡ suc (changes - (counter + 1)) = omega arith in
    ap (λ n. later_epoch n epoch) next

-- ---- numbers that pass a test

range_more : (a n : ℕ) → range_with_len a (suc n) ≡ range_with_len a n ++ (a + n) ∷ []
range_more a zero = let e : a ≡ a + 0 = omega arith in ap (λ x. x ∷ []) e
range_more a (suc n) =
    let e : a + 1 + n ≡ a + suc n = omega arith in
    ap (λ l. a ∷ l) (range_more (a + 1) n ∙ ap (λ x. range_with_len (a + 1) n ++ x ∷ []) e)

map_append : (xs ys : List ℕ) → map pos (xs ++ ys) ≡ map pos xs ++ map pos ys
map_append [] ys = refl
map_append (x ∷ xs) ys = ap (λ l. pos x ∷ l) (map_append xs ys)

one_more : (b : Bool) (x : ℕ) → map pos (cond b (x ∷ []) []) ≡ cond b (pos x ∷ []) []
one_more true x = refl
one_more false x = refl

passing_more : (p : ℕ → Bool) (n : ℕ) → map pos (filter p (range_with_len 0 (n + 1))) ≡ map pos (filter p (range_with_len 0 n)) ++ cond (p n) (pos n ∷ []) []
passing_more p n =
    let s : n + 1 ≡ suc n = omega arith in
    let e : 0 + n ≡ n = omega arith in
    ap (λ k. map pos (filter p (range_with_len 0 k))) s
    ∙ ap (λ l. map pos (filter p l)) (range_more 0 n ∙ ap (λ x. range_with_len 0 n ++ x ∷ []) e)
    ∙ ap (map pos) (filter-append p (range_with_len 0 n) (n ∷ []))
    ∙ map_append (filter p (range_with_len 0 n)) (filter p (n ∷ []))
    ∙ ap (λ l. map pos (filter p (range_with_len 0 n)) ++ l) (one_more (p n) n)

-- one number more that passes, or doesn't
pub passing_yes : (p : ℕ → Bool) (n : ℕ) (old new : List ℤ) → old ≡ map pos (filter p (range_with_len 0 n)) → p n ≡ true → new ≡ old ++ pos n ∷ []
    → new ≡ map pos (filter p (range_with_len 0 (n + 1)))
passing_yes p n old new so_far here is = is ∙ ap (λ l. l ++ pos n ∷ []) so_far
    ∙ sym (passing_more p n ∙ ap (λ (b : Bool). map pos (filter p (range_with_len 0 n)) ++ cond {A = List ℤ} b (pos n ∷ []) []) here)

pub passing_no : (p : ℕ → Bool) (n : ℕ) (old new : List ℤ) → old ≡ map pos (filter p (range_with_len 0 n)) → p n ≡ false → new ≡ old
    → new ≡ map pos (filter p (range_with_len 0 (n + 1)))
passing_no p n old new so_far here is = is ∙ so_far
    ∙ sym (passing_more p n ∙ ap (λ (b : Bool). map pos (filter p (range_with_len 0 n)) ++ cond {A = List ℤ} b (pos n ∷ []) []) here ∙ append-nil _)

-- ---- topics from a place on

pub named_here : (names : List (List ℕ)) (place : ℕ) (topic : Topic) (topics : List Topic) (places : List ℕ)
    → list_any (λ name. bytes_eq name topic.name) names ≡ true
    → (places ++ place ∷ []) ++ places_named names (place + 1) topics ≡ places ++ places_named names place (topic ∷ topics)
named_here names place topic topics places at = append_assoc places (place ∷ []) (places_named names (place + 1) topics)
    ∙ sym (ap (λ b. places ++ cond b (place ∷ places_named names (place + 1) topics) (places_named names (place + 1) topics)) at)

pub not_named_here : (names : List (List ℕ)) (place : ℕ) (topic : Topic) (topics : List Topic) (places : List ℕ)
    → list_any (λ name. bytes_eq name topic.name) names ≡ false
    → places ++ places_named names (place + 1) topics ≡ places ++ places_named names place (topic ∷ topics)
not_named_here names place topic topics places none =
    sym (ap (λ b. places ++ cond b (place ∷ places_named names (place + 1) topics) (places_named names (place + 1) topics)) none)

pub assigned_here : (members : Members) (id subscription : List ℕ) (place : ℕ) (topic : Topic) (topics : List Topic) (done : List AssignedTopic)
    → has_place place subscription ≡ true
    → (done ++ assigned_topic members id place topic ∷ []) ++ assigned members id subscription (place + 1) topics
    ≡ done ++ assigned members id subscription place (topic ∷ topics)
assigned_here members id subscription place topic topics done at =
    append_assoc done (assigned_topic members id place topic ∷ []) (assigned members id subscription (place + 1) topics)
    ∙ sym (ap (λ b. done ++ cond b (assigned_topic members id place topic ∷ assigned members id subscription (place + 1) topics)
    (assigned members id subscription (place + 1) topics)) at)

pub not_assigned_here : (members : Members) (id subscription : List ℕ) (place : ℕ) (topic : Topic) (topics : List Topic) (done : List AssignedTopic)
    → has_place place subscription ≡ false
    → done ++ assigned members id subscription (place + 1) topics ≡ done ++ assigned members id subscription place (topic ∷ topics)
not_assigned_here members id subscription place topic topics done none =
    sym (ap (λ b. done ++ cond b (assigned_topic members id place topic ∷ assigned members id subscription (place + 1) topics)
    (assigned members id subscription (place + 1) topics)) none)

-- ---- groups

pub removed_cons : (moment : ℕ) (group : List ℕ × GroupParts) (groups : Groups) → removed moment (group ∷ groups) ≡ due moment group.1.members + removed moment groups
removed_cons moment group groups = sum_by-cons _ group groups

-- ---- topics

pub few_parts : (topics : List Topic) → All IsTopic topics → partitions topics ≤ 64 → HaveFewParts topics
few_parts [] all few = tt
few_parts (topic ∷ topics) all few =
    let whole : partitions (topic ∷ topics) ≡ topic.parts + partitions topics = sum_by-cons _ topic topics in
    let first : 1 ≤ topic.parts = (all 0 topic (omega arith)).parts in (
      record { some = first; few = omega (arith, whole) },
      few_parts topics (λ k d lt. all (suc k) d (omega arith)) (omega (arith, whole)),
    )
