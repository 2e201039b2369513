-- The words of `load` are read in one way: of a partition's topic and number there is one shard.
use Rattle.std.proofs.Common.{◌≡◌, ◌≢◌, ◌≤◌, ◌<◌, ◌+◌, ℕ, List, [], ◌∷◌, ◌++◌, All, AllPairs, refl, sym, ap, ◌∙◌, subst, arith}
use Rattle.topic_conf.specs.declared.topic.Topic.{Topic}
use Rattle.topic_conf.specs.Topics.{AreApart, partitions}
use Rattle.topic_conf.proofs.Lists.{partitions_cons, all_front, all_others, pairs_front, pairs_others}
use Rattle.share_top.specs.Words.{IsPartitionOf}
use Rattle.share_top.specs.WordReading.{IsShardNamed, HasNoShardNamed}

-- what holds of each topic holds of one between others
all_mid : (P : Topic → Type 0) (before : List Topic) (topic : Topic) (after : List Topic) → All P (before ++ (topic ∷ after)) → P topic
all_mid P [] topic after h = all_front P topic after h
all_mid P (other ∷ before) topic after h = all_mid P before topic after (all_others P other (before ++ (topic ∷ after)) h)

apart_from : (first : Topic) (before : List Topic) (topic : Topic) (after : List Topic) → AllPairs AreApart (first ∷ (before ++ (topic ∷ after))) → first.name ≢ topic.name
apart_from first before topic after apart = (all_mid (AreApart first) before topic after (pairs_front AreApart first (before ++ (topic ∷ after)) apart)).names

-- topics of one name stand at one place
pub one_before : (before other : List Topic) (t u : Topic) (after later : List Topic) → AllPairs AreApart (before ++ (t ∷ after))
    → before ++ (t ∷ after) ≡ other ++ (u ∷ later) → t.name ≡ u.name → (before ≡ other) × (t ≡ u)
one_before [] [] t u after later apart e same = (refl, (let r : t ≡ u = cc in r))
one_before [] (y ∷ other) t u after later apart e same =
    let tail : after ≡ other ++ (u ∷ later) = cc in
    absurd (apart_from t other u later (subst (λ (l : List Topic). AllPairs AreApart (t ∷ l)) tail apart) same)
one_before (x ∷ before) [] t u after later apart e same =
    let head : x ≡ u = cc in
    absurd (apart_from x before t after apart (ap (λ (w : Topic). w.name) head ∙ sym same))
one_before (x ∷ before) (y ∷ other) t u after later apart e same =
    let tail : before ++ (t ∷ after) ≡ other ++ (u ∷ later) = cc in
    let head : x ≡ y = cc in
    let r = one_before before other t u after later (pairs_others AreApart x (before ++ (t ∷ after)) apart) tail same in
    let all : x ∷ before ≡ y ∷ other = cc (head, r.0) in
    (all, r.1)

-- one partition, one shard
pub one_shard : (topics : List Topic) (s z : ℕ) (t u : Topic) (n : ℕ) → AllPairs AreApart topics → IsPartitionOf topics s t n → IsPartitionOf topics z u n → t.name ≡ u.name → s ≡ z
one_shard topics s z t u n apart p q same =
    let b = one_before p.before q.before t u p.after q.after (subst (AllPairs AreApart) p.topics_are apart) (sym p.topics_are ∙ q.topics_are) same in
    p.shard_is ∙ ap (λ (l : List Topic). partitions l + n) b.0 ∙ sym q.shard_is

-- no topic has more partitions than all together
pub parts_within : (before : List Topic) (topic : Topic) (after : List Topic) → partitions before + topic.parts ≤ partitions (before ++ (topic ∷ after))
parts_within [] topic after = let e = partitions_cons topic after in omega (arith, e)
parts_within (other ∷ before) topic after =
    let r = parts_within before topic after in
    let e = partitions_cons other before in
    let f = partitions_cons other (before ++ (topic ∷ after)) in
    omega (arith, r, e, f)

pub few_numbers : (topics : List Topic) (s : ℕ) (t : Topic) (n : ℕ) → IsPartitionOf topics s t n → s < partitions topics
few_numbers topics s t n p =
    let r = parts_within p.before t p.after in
    let e = ap partitions p.topics_are in
    omega (arith, r, e, p.within, p.shard_is)

pub few_partitions : (topics : List Topic) (s : ℕ) (t : Topic) (n : ℕ) → IsPartitionOf topics s t n → n < partitions topics
few_partitions topics s t n p = omega (arith, few_numbers topics s t n p, p.shard_is)

-- ---- the front topic

pub few_others : (topics : List Topic) (topic : Topic) (others : List Topic) (most : ℕ) → topics ≡ topic ∷ others → partitions topics ≤ most → partitions others ≤ most
few_others topics topic others most split few = let e = ap partitions split in let f = partitions_cons topic others in omega (arith, few, e, f)

pub apart_others : (topics : List Topic) (topic : Topic) (others : List Topic) → topics ≡ topic ∷ others → AllPairs AreApart topics → AllPairs AreApart others
apart_others topics topic others split apart = pairs_others AreApart topic others (subst (AllPairs AreApart) split apart)

module _ (topics : List Topic) (topic : Topic) (others : List Topic) (name : List ℕ) (number : ℕ) (split : topics ≡ topic ∷ others) where
  pub here_named : topic.name ≡ name → number < topic.parts → IsShardNamed topics name number number
  here_named named lt = (topic, named, record { before = []; after = others; topics_are = split; within = lt; shard_is = omega arith })

  pub here_none : AllPairs AreApart topics → topic.name ≡ name → topic.parts ≤ number → HasNoShardNamed topics name number
  here_none apart named many shard found =
      let p = found.2 in
      let b = one_before [] p.before topic found.0 others p.after (subst (AllPairs AreApart) split apart) (sym split ∙ p.topics_are) (named ∙ sym found.1) in
      omega (arith, many, p.within, ap (λ (t : Topic). t.parts) b.1)

  pub later_named : (shard : ℕ) → IsShardNamed others name number shard → IsShardNamed topics name number (topic.parts + shard)
  later_named shard found =
      let p = found.2 in
      let e = partitions_cons topic p.before in (
        found.0,
        found.1,
        record {
          before = topic ∷ p.before;
          after = p.after;
          topics_are = split ∙ ap (λ (l : List Topic). topic ∷ l) p.topics_are;
          within = p.within;
          shard_is = omega (arith, e, p.shard_is);
        },
      )

  pub later_none : topic.name ≢ name → HasNoShardNamed others name number → HasNoShardNamed topics name number
  later_none apart none shard found = go found.2.before found.2.topics_are found.2.shard_is where
    go : (before : List Topic) → topics ≡ before ++ (found.0 ∷ found.2.after) → shard ≡ partitions before + number → ⊥
    go [] e s = let head : topic ≡ found.0 = (let f = sym split ∙ e in cc) in apart (ap (λ (t : Topic). t.name) head ∙ found.1)
    go (x ∷ before) e s =
        let tail : others ≡ before ++ (found.0 ∷ found.2.after) = (let f = sym split ∙ e in cc) in
        none (partitions before + number) (found.0, found.1, record { before = before; after = found.2.after; topics_are = tail; within = found.2.within; shard_is = refl })

-- ---- one shard, one partition

same_place : (before other : List Topic) (t u : Topic) (after later : List Topic) (n m : ℕ) → before ++ (t ∷ after) ≡ other ++ (u ∷ later)
    → n < t.parts → m < u.parts → partitions before + n ≡ partitions other + m → (t ≡ u) × (n ≡ m)
same_place [] [] t u after later n m e p q s = ((let r : t ≡ u = cc in r), omega (arith, s))
same_place [] (y ∷ other) t u after later n m e p q s =
    let head : t ≡ y = cc in
    let sum = partitions_cons y other in
    let parts = ap (λ (w : Topic). w.parts) head in
    absurd (omega (arith, sum, parts, p, s))
same_place (x ∷ before) [] t u after later n m e p q s =
    let head : x ≡ u = cc in
    let sum = partitions_cons x before in
    let parts = ap (λ (w : Topic). w.parts) head in
    absurd (omega (arith, sum, parts, q, s))
same_place (x ∷ before) (y ∷ other) t u after later n m e p q s =
    let tail : before ++ (t ∷ after) ≡ other ++ (u ∷ later) = cc in
    let head : x ≡ y = cc in
    let parts = ap (λ (w : Topic). w.parts) head in
    let one = partitions_cons x before in
    let two = partitions_cons y other in
    same_place before other t u after later n m tail p q (omega (arith, s, parts, one, two))

pub one_partition : (topics : List Topic) (s : ℕ) (t u : Topic) (n m : ℕ) → IsPartitionOf topics s t n → IsPartitionOf topics s u m → (t ≡ u) × (n ≡ m)
one_partition topics s t u n m p q =
    same_place p.before q.before t u p.after q.after n m (sym p.topics_are ∙ q.topics_are) p.within q.within (sym p.shard_is ∙ q.shard_is)
