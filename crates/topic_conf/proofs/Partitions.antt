-- Shards and their partitions, by the ids and by the names of topics.
use Rattle.std.proofs.Common.{◌≡◌, ◌≢◌, ◌≤◌, ◌<◌, ◌+◌, ◌-◌, ◌⊎◌, ◌↔◌, inl, inr, ℕ, suc, pos, Bool, true, false, cond}
use Rattle.std.proofs.Common.{List, [], ◌∷◌, Option, Some, None, All, AllPairs, Contains, get_or, nat_lt, refl, sym, ap, ◌∙◌, subst, arith}
use Rattle.std.specs.Option.{option_map}
use Rattle.std.specs.Str.{bytes_eq}
use Rattle.std.proofs.lemmas.Bool.{cases_lt}
use Rattle.std.proofs.lemmas.Bool.Decides.{nat_tests}
use Rattle.std.proofs.lemmas.Slice.Eq.{bytes_eq-Decides}
use Rattle.topic_conf.specs.declared.topic.Topic.{Topic}
use Rattle.topic_conf.specs.Topics.{AreApart, IsTopicList, partitions, partition_at, shard_at, shard_named, partition_at_shard}
use Rattle.topic_conf.proofs.Lists.{partitions_cons, all_cons, pairs_front, pairs_others}
use Rattle.topic_conf.proofs.Shards.{chosen, mapped, partition_found, is_false}

within : (n parts : ℕ) → n < parts → nat_lt n parts ≡ true
within n parts lt = grind (arith, nat_tests)

beyond : (n parts : ℕ) → parts ≤ n → nat_lt n parts ≡ false
beyond n parts le = grind (arith, nat_tests)

-- a shard of the front topic, and one of the others
front_shard : (topic : Topic) (topics : List Topic) (shard : ℕ) → shard < topic.parts
    → partition_at_shard (topic ∷ topics) shard ≡ Some (topic, shard)
front_shard topic topics shard lt =
    ap (λ (b : Bool). cond b (Some (topic, shard)) (partition_at_shard topics (shard - topic.parts))) (within shard topic.parts lt)

later_shard : (topic : Topic) (topics : List Topic) (shard : ℕ) → topic.parts ≤ shard
    → partition_at_shard (topic ∷ topics) shard ≡ partition_at_shard topics (shard - topic.parts)
later_shard topic topics shard le =
    ap (λ (b : Bool). cond b (Some (topic, shard)) (partition_at_shard topics (shard - topic.parts))) (beyond shard topic.parts le)

later_contains : (topic other : Topic) (topics : List Topic) → Contains topics other → Contains (topic ∷ topics) other
later_contains topic other topics (k, lt, at) = (suc k, omega arith, at)

abbrev topic_or : Topic → Option (Topic × ℕ) → Topic
topic_or other None = other
topic_or other (Some x) = x.0

abbrev number_or : ℕ → Option (Topic × ℕ) → ℕ
number_or other None = other
number_or other (Some x) = x.1

abbrev found : Topic → ℕ → Option (Topic × ℕ)
found topic part = Some (topic, part)

same_pair : (x y : Topic) (m n : ℕ) → found x m ≡ found y n → (x ≡ y) × (m ≡ n)
same_pair x y m n e = (ap (topic_or x) e, ap (number_or m) e)

pub hosted : (topics : List Topic) (topic : Topic) (part shard : ℕ) → partition_at_shard topics shard ≡ Some (topic, part)
    → Contains topics topic × (part < topic.parts)
hosted [] topic part shard e = absurd (cc)
hosted (front ∷ topics) topic part shard e = go (hosted topics topic part (shard - front.parts)) (cases_lt shard front.parts) where
  go : (partition_at_shard topics (shard - front.parts) ≡ Some (topic, part) → Contains topics topic × (part < topic.parts))
      → (shard < front.parts) ⊎ (front.parts ≤ shard) → Contains (front ∷ topics) topic × (part < topic.parts)
  go rest (inl lt) =
      let s = same_pair front topic shard part (sym (front_shard front topics shard lt) ∙ e) in
      ((0, omega arith, s.0), subst (λ (t : Topic). part < t.parts) s.0 (omega (arith, s.1)))
  go rest (inr le) =
      let h = rest (sym (later_shard front topics shard le) ∙ e) in
      (later_contains front topic topics h.0, h.1)

pub none_above : (topics : List Topic) (shard : ℕ) → (partition_at_shard topics shard ≡ None) ↔ (partitions topics ≤ shard)
none_above [] shard = (λ e. omega arith, λ le. refl)
none_above (front ∷ topics) shard = go (cases_lt shard front.parts) (none_above topics (shard - front.parts)) where
  go : (shard < front.parts) ⊎ (front.parts ≤ shard)
      → (partition_at_shard topics (shard - front.parts) ≡ None) ↔ (partitions topics ≤ shard - front.parts)
      → (partition_at_shard (front ∷ topics) shard ≡ None) ↔ (partitions (front ∷ topics) ≤ shard)
  go (inl lt) rest = (
    λ e. absurd (let f : found front shard ≡ None = sym (front_shard front topics shard lt) ∙ e in cc),
    λ le. absurd (omega (arith, partitions_cons front topics)),
  )
  go (inr le) rest = (
    λ e. (let few = rest.0 (sym (later_shard front topics shard le) ∙ e) in omega (arith, few, partitions_cons front topics)),
    λ few. later_shard front topics shard le ∙ rest.1 (omega (arith, few, partitions_cons front topics)),
  )

-- The number of the shard of a partition by some key of its topic, as its id or its name.
module _ (key : Topic → List ℕ) where
  abbrev pub shard_by : List ℕ → ℕ → List Topic → Option ℕ
  shard_by k part [] = None
  shard_by k part (topic ∷ topics) =
      cond (bytes_eq (key topic) k) (partition_at (pos part) topic.parts) (option_map (λ shard. topic.parts + shard) (shard_by k part topics))

  by_front : (k : List ℕ) (part : ℕ) (topic : Topic) (topics : List Topic) → key topic ≡ k
      → shard_by k part (topic ∷ topics) ≡ partition_at (pos part) topic.parts
  by_front k part topic topics same =
      ap (λ (b : Bool). cond b (partition_at (pos part) topic.parts) (option_map (λ shard. topic.parts + shard) (shard_by k part topics)))
      ((bytes_eq-Decides (key topic) k).1 same)

  by_later : (k : List ℕ) (part : ℕ) (topic : Topic) (topics : List Topic) → key topic ≢ k
      → shard_by k part (topic ∷ topics) ≡ option_map (λ shard. topic.parts + shard) (shard_by k part topics)
  by_later k part topic topics differ =
      ap (λ (b : Bool). cond b (partition_at (pos part) topic.parts) (option_map (λ shard. topic.parts + shard) (shard_by k part topics)))
      (is_false (bytes_eq (key topic) k) (λ e. differ ((bytes_eq-Decides (key topic) k).0 e)))

  -- the shard has the partition of which it is the shard
  pub by_has : (topics : List Topic) (k : List ℕ) (part shard : ℕ) → shard_by k part topics ≡ Some shard
      → (topic : Topic) × (partition_at_shard topics shard ≡ Some (topic, part)) × (key topic ≡ k)
  by_has [] k part shard e = absurd (cc)
  by_has (front ∷ topics) k part shard e = go (by_has topics k part) (chosen (bytes_eq (key front) k) _ _ _ e) where
    go : ((later : ℕ) → shard_by k part topics ≡ Some later
        → (topic : Topic) × (partition_at_shard topics later ≡ Some (topic, part)) × (key topic ≡ k))
        → ((bytes_eq (key front) k ≡ true) × (partition_at (pos part) front.parts ≡ Some shard))
        ⊎ ((bytes_eq (key front) k ≡ false) × (option_map (λ later. front.parts + later) (shard_by k part topics) ≡ Some shard))
        → (topic : Topic) × (partition_at_shard (front ∷ topics) shard ≡ Some (topic, part)) × (key topic ≡ k)
    go rest (inl h) =
        let here = partition_found (pos part) front.parts shard h.1 in
        let same : part ≡ shard = cc (here.1) in
        (front, front_shard front topics shard here.0 ∙ ap (found front) (sym same), (bytes_eq-Decides (key front) k).0 h.0)
    go rest (inr h) =
        let found = mapped (λ later. front.parts + later) (shard_by k part topics) shard h.1 in
        let there = rest found.0 found.1 in
        let back : shard - front.parts ≡ found.0 = omega (arith, found.2) in
        (there.0, later_shard front topics shard (omega (arith, found.2)) ∙ ap (partition_at_shard topics) back ∙ there.1, there.2)

  -- where no two topics have one key, the shard is that of the partition that it has
  pub by_of : (topics : List Topic) (topic : Topic) (part shard : ℕ) → AllPairs (λ one other. key one ≢ key other) topics
      → partition_at_shard topics shard ≡ Some (topic, part) → shard_by (key topic) part topics ≡ Some shard
  by_of [] topic part shard apart e = absurd (cc)
  by_of (front ∷ topics) topic part shard apart e =
      go (by_of topics topic part (shard - front.parts) (pairs_others (λ (one other : Topic). key one ≢ key other) front topics apart))
      (cases_lt shard front.parts) where
        go : (partition_at_shard topics (shard - front.parts) ≡ Some (topic, part) → shard_by (key topic) part topics ≡ Some (shard - front.parts))
            → (shard < front.parts) ⊎ (front.parts ≤ shard) → shard_by (key topic) part (front ∷ topics) ≡ Some shard
        go rest (inl lt) =
            let s = same_pair front topic shard part (sym (front_shard front topics shard lt) ∙ e) in
            by_front (key topic) part front topics (ap key s.0)
            ∙ ap (λ (b : Bool). cond b (Some part) None) (within part front.parts (omega (arith, s.1)))
            ∙ ap Some (sym s.1)
        go rest (inr le) =
            let later : partition_at_shard topics (shard - front.parts) ≡ Some (topic, part) = sym (later_shard front topics shard le) ∙ e in
            let at = (hosted topics topic part (shard - front.parts) later).0 in
            let differ : key front ≢ key topic =
            subst (λ (t : Topic). key front ≢ key t) at.2
            (pairs_front (λ (one other : Topic). key one ≢ key other) front topics apart at.0 topic at.1) in
            let number : front.parts + (shard - front.parts) ≡ shard = omega (arith, le) in
            by_later (key topic) part front topics differ ∙ ap (option_map (λ later. front.parts + later)) (rest later) ∙ ap Some number

pub by_id : (id : List ℕ) (part : ℕ) (topics : List Topic) → shard_by (λ (t : Topic). t.id) id part topics ≡ shard_at id (pos part) topics
by_id id part [] = refl
by_id id part (topic ∷ topics) =
    ap (λ (o : Option ℕ). cond (bytes_eq topic.id id) (partition_at (pos part) topic.parts) (option_map (λ shard. topic.parts + shard) o))
    (by_id id part topics)

pub by_name : (name : List ℕ) (part : ℕ) (topics : List Topic) → shard_by (λ (t : Topic). t.name) name part topics ≡ shard_named name part topics
by_name name part [] = refl
by_name name part (topic ∷ topics) =
    ap (λ (o : Option ℕ). cond (bytes_eq topic.name name) (partition_at (pos part) topic.parts) (option_map (λ shard. topic.parts + shard) o))
    (by_name name part topics)

ids_apart : (topics : List Topic) → AllPairs AreApart topics → AllPairs (λ one other. one.id ≢ other.id) topics
ids_apart topics apart = λ i j d lt few. (apart i j d lt few).ids

names_apart : (topics : List Topic) → AllPairs AreApart topics → AllPairs (λ one other. one.name ≢ other.name) topics
names_apart topics apart = λ i j d lt few. (apart i j d lt few).names

pub shard_by_id : (topics : List Topic) (id : List ℕ) (part shard : ℕ) → IsTopicList topics
    → (shard_at id (pos part) topics ≡ Some shard) ↔ ((topic : Topic) × (partition_at_shard topics shard ≡ Some (topic, part)) × (topic.id ≡ id))
shard_by_id topics id part shard list = (
  λ e. by_has (λ (t : Topic). t.id) topics id part shard (by_id id part topics ∙ e),
  λ has. sym (by_id id part topics) ∙ ap (λ (k : List ℕ). shard_by (λ (t : Topic). t.id) k part topics) (sym has.2)
      ∙ by_of (λ (t : Topic). t.id) topics has.0 part shard (ids_apart topics list.apart) has.1,
)

pub shard_by_name : (topics : List Topic) (name : List ℕ) (part shard : ℕ) → IsTopicList topics
    → (shard_named name part topics ≡ Some shard) ↔ ((topic : Topic) × (partition_at_shard topics shard ≡ Some (topic, part)) × (topic.name ≡ name))
shard_by_name topics name part shard list = (
  λ e. by_has (λ (t : Topic). t.name) topics name part shard (by_name name part topics ∙ e),
  λ has. sym (by_name name part topics) ∙ ap (λ (k : List ℕ). shard_by (λ (t : Topic). t.name) k part topics) (sym has.2)
      ∙ by_of (λ (t : Topic). t.name) topics has.0 part shard (names_apart topics list.apart) has.1,
)

-- by its name a topic's partition has the shard that it has by the topic's id
abbrev SameShards : List Topic → Topic → Type 0
SameShards topics topic = (part : ℕ) → shard_by (λ (t : Topic). t.name) topic.name part topics ≡ shard_by (λ (t : Topic). t.id) topic.id part topics

same_front : (topic : Topic) (topics : List Topic) → SameShards (topic ∷ topics) topic
same_front topic topics part =
    by_front (λ (t : Topic). t.name) topic.name part topic topics refl ∙ sym (by_front (λ (t : Topic). t.id) topic.id part topic topics refl)

same_later : (front topic : Topic) (topics : List Topic) → AreApart front topic → SameShards topics topic → SameShards (front ∷ topics) topic
same_later front topic topics apart same part =
    by_later (λ (t : Topic). t.name) topic.name part front topics apart.names ∙ ap (option_map (λ shard. front.parts + shard)) (same part)
    ∙ sym (by_later (λ (t : Topic). t.id) topic.id part front topics apart.ids)

same_shards : (topics : List Topic) → AllPairs AreApart topics → All (SameShards topics) topics
same_shards [] apart = λ k d lt. absurd (omega arith)
same_shards (front ∷ topics) apart =
    let rest = same_shards topics (pairs_others AreApart front topics apart) in
    all_cons (SameShards (front ∷ topics)) front topics (same_front front topics)
    (λ k d lt. same_later front (get_or topics k d) topics (pairs_front AreApart front topics apart k d lt) (rest k d lt))

pub named_as_by_id : (topics : List Topic) → IsTopicList topics
    → All (λ topic. (part : ℕ) → shard_named topic.name part topics ≡ shard_at topic.id (pos part) topics) topics
named_as_by_id topics list = λ k d lt. λ part.
    sym (by_name (get_or topics k d).name part topics) ∙ same_shards topics list.apart k d lt part ∙ by_id (get_or topics k d).id part topics
