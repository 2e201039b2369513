-- The numbers of shards: each below the number of partitions is that of one partition, and of no other.
use Rattle.std.proofs.Common.{◌≡◌, ◌≢◌, ◌≤◌, ◌<◌, ◌+◌, ◌-◌, ◌⊎◌, inl, inr, ℕ, ℤ, pos, negsuc, Bool, true, false, cond}
use Rattle.std.proofs.Common.{List, [], ◌∷◌, Option, Some, None, All, AllPairs, nat_lt, refl, sym, ap, ◌∙◌, arith}
use Rattle.std.specs.Option.{option_map}
use Rattle.std.specs.Str.{bytes_eq}
use Rattle.std.proofs.lemmas.Option.{cond_some}
use Rattle.std.proofs.lemmas.Bool.{cases_order}
use Rattle.std.proofs.lemmas.Bool.Decides.{nat_tests}
use Rattle.std.proofs.lemmas.Slice.Eq.{bytes_eq-Decides}
use Rattle.topic_conf.specs.declared.topic.Topic.{Topic}
use Rattle.topic_conf.specs.Topics.{AreApart, IsShard, partitions, partition_at, shard_at}
use Rattle.topic_conf.proofs.Lists.{partitions_cons, all_front, all_others, pairs_front, pairs_others}

pub chosen : {X : Type 0} (b : Bool) (x y z : X) → cond b x y ≡ z → ((b ≡ true) × (x ≡ z)) ⊎ ((b ≡ false) × (y ≡ z))
chosen true x y z e = inl (refl, e)
chosen false x y z e = inr (refl, e)

pub mapped : (f : ℕ → ℕ) (o : Option ℕ) (y : ℕ) → option_map f o ≡ Some y → (x : ℕ) × (o ≡ Some x) × (y ≡ f x)
mapped f None y e = absurd (cc)
mapped f (Some x) y e = (x, refl, cc)

-- the number of a partition among those of its topic
pub partition_found : (partition : ℤ) (parts shard : ℕ) → partition_at partition parts ≡ Some shard → (shard < parts) × (partition ≡ pos shard)
partition_found (pos n) parts shard e =
    let found = cond_some (nat_lt n parts) n shard e in
    let lt : n < parts = grind (arith, nat_tests, found.0) in
    (omega (arith, lt, found.1), ap pos found.1)
partition_found (negsuc n) parts shard e = absurd (cc)

-- the shard is one of the front topic's
record IsHere (id : List ℕ) (partition : ℤ) (topic : Topic) (shard : ℕ) : Type 0 where
  same : topic.id ≡ id
  few : shard < topic.parts
  number : partition ≡ pos shard

-- the shard is one of the others'
record IsLater (id : List ℕ) (partition : ℤ) (topic : Topic) (topics : List Topic) (shard : ℕ) : Type 0 where
  later : ℕ
  found : shard_at id partition topics ≡ Some later
  number : shard ≡ topic.parts + later

shard_cases : (id : List ℕ) (partition : ℤ) (topic : Topic) (topics : List Topic) (shard : ℕ) → shard_at id partition (topic ∷ topics) ≡ Some shard
    → IsHere id partition topic shard ⊎ IsLater id partition topic topics shard
shard_cases id partition topic topics shard e = go (chosen (bytes_eq topic.id id) _ _ _ e) where
  go : ((bytes_eq topic.id id ≡ true) × (partition_at partition topic.parts ≡ Some shard))
      ⊎ ((bytes_eq topic.id id ≡ false) × (option_map (λ later. topic.parts + later) (shard_at id partition topics) ≡ Some shard))
      → IsHere id partition topic shard ⊎ IsLater id partition topic topics shard
  go (inl h) =
      let found = partition_found partition topic.parts shard h.1 in
      inl (record { same = (bytes_eq-Decides topic.id id).0 h.0; few = found.0; number = found.1 })
  go (inr h) =
      let found = mapped (λ later. topic.parts + later) (shard_at id partition topics) shard h.1 in
      inr (record { later = found.0; found = found.1; number = found.2 })

pub shard_below : (topics : List Topic) (id : List ℕ) (partition : ℤ) (shard : ℕ) → shard_at id partition topics ≡ Some shard → shard < partitions topics
shard_below [] id partition shard e = absurd (cc)
shard_below (topic ∷ topics) id partition shard e = go (shard_below topics id partition) (shard_cases id partition topic topics shard e) where
  go : ((later : ℕ) → shard_at id partition topics ≡ Some later → later < partitions topics) → IsHere id partition topic shard ⊎ IsLater id partition topic topics shard
      → shard < partitions (topic ∷ topics)
  go below (inl here) = omega (arith, here.few, partitions_cons topic topics)
  go below (inr h) = omega (arith, h.number, below h.later h.found, partitions_cons topic topics)

-- one shard, one partition
pub shard_of_one : (topics : List Topic) (id other : List ℕ) (partition next : ℤ) (shard : ℕ) → shard_at id partition topics ≡ Some shard → shard_at other next topics ≡ Some shard
    → (id ≡ other) × (partition ≡ next)
shard_of_one [] id other partition next shard e f = absurd (cc)
shard_of_one (topic ∷ topics) id other partition next shard e f =
    go (shard_of_one topics id other partition next) (shard_cases id partition topic topics shard e) (shard_cases other next topic topics shard f) where
      go : ((later : ℕ) → shard_at id partition topics ≡ Some later → shard_at other next topics ≡ Some later → (id ≡ other) × (partition ≡ next))
          → IsHere id partition topic shard ⊎ IsLater id partition topic topics shard → IsHere other next topic shard ⊎ IsLater other next topic topics shard
          → (id ≡ other) × (partition ≡ next)
      go one (inl a) (inl b) = (sym a.same ∙ b.same, a.number ∙ sym b.number)
      go one (inl a) (inr b) = absurd (omega (arith, a.few, b.number))
      go one (inr a) (inl b) = absurd (omega (arith, b.few, a.number))
      go one (inr a) (inr b) =
          let same : a.later ≡ b.later = omega (arith, a.number, b.number) in
          one a.later a.found (b.found ∙ ap Some (sym same))

-- a topic that is apart from the others has none of their shards
found_apart : (topic : Topic) (topics : List Topic) (id : List ℕ) (partition : ℤ) (shard : ℕ) → All (AreApart topic) topics → shard_at id partition topics ≡ Some shard → topic.id ≢ id
found_apart topic [] id partition shard apart e = absurd (cc)
found_apart topic (other ∷ topics) id partition shard apart e =
    go (λ later. found_apart topic topics id partition later (all_others (AreApart topic) other topics apart)) (shard_cases id partition other topics shard e) where
      go : ((later : ℕ) → shard_at id partition topics ≡ Some later → topic.id ≢ id) → IsHere id partition other shard ⊎ IsLater id partition other topics shard → topic.id ≢ id
      go rest (inl here) = λ same. (all_front (AreApart topic) other topics apart).ids (same ∙ sym here.same)
      go rest (inr h) = rest h.later h.found

pub is_false : (b : Bool) → (b ≡ true → ⊥) → b ≡ false
is_false true h = absurd (h refl)
is_false false h = refl

here_found : (topic : Topic) (topics : List Topic) (shard : ℕ) → shard < topic.parts → shard_at topic.id (pos shard) (topic ∷ topics) ≡ Some shard
here_found topic topics shard few =
    let same : bytes_eq topic.id topic.id ≡ true = (bytes_eq-Decides topic.id topic.id).1 refl in
    let within : nat_lt shard topic.parts ≡ true = grind (arith, nat_tests) in
    ap (λ (b : Bool). cond b (cond (nat_lt shard topic.parts) (Some shard) None) (option_map (λ later. topic.parts + later) (shard_at topic.id (pos shard) topics))) same
    ∙ ap (λ (b : Bool). cond b (Some shard) None) within

later_found : (topic : Topic) (topics : List Topic) (id : List ℕ) (partition : ℤ) (later : ℕ) → topic.id ≢ id → shard_at id partition topics ≡ Some later
    → shard_at id partition (topic ∷ topics) ≡ Some (topic.parts + later)
later_found topic topics id partition later apart found =
    let differ : bytes_eq topic.id id ≡ false = is_false (bytes_eq topic.id id) (λ e. apart ((bytes_eq-Decides topic.id id).0 e)) in
    ap (λ (b : Bool). cond b (partition_at partition topic.parts) (option_map (λ later. topic.parts + later) (shard_at id partition topics))) differ
    ∙ ap (option_map (λ later. topic.parts + later)) found

pub each_shard : (topics : List Topic) (shard : ℕ) → AllPairs AreApart topics → shard < partitions topics → IsShard topics shard
each_shard [] shard apart lt = absurd (omega arith)
each_shard (topic ∷ topics) shard apart lt =
    go (each_shard topics (shard - topic.parts) (pairs_others AreApart topic topics apart)) (cases_order shard topic.parts) where
      behind : topic.parts ≤ shard → (shard - topic.parts < partitions topics → IsShard topics (shard - topic.parts)) → IsShard (topic ∷ topics) shard
      behind many rest =
          let later = rest (omega (arith, many, lt, partitions_cons topic topics)) in
          let differ = found_apart topic topics later.id later.partition (shard - topic.parts) (pairs_front AreApart topic topics apart) later.found in
          let number : topic.parts + (shard - topic.parts) ≡ shard = omega (arith, many) in
          record { id = later.id; partition = later.partition; found = later_found topic topics later.id later.partition (shard - topic.parts) differ later.found ∙ ap Some number }

      go : (shard - topic.parts < partitions topics → IsShard topics (shard - topic.parts)) → (shard ≡ topic.parts) ⊎ ((shard < topic.parts) ⊎ (topic.parts < shard))
          → IsShard (topic ∷ topics) shard
      go rest (inr (inl few)) = record { id = topic.id; partition = pos shard; found = here_found topic topics shard few }
      go rest (inl same) = behind (omega (arith, same)) rest
      go rest (inr (inr more)) = behind (omega (arith, more)) rest
