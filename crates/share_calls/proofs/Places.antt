-- The partition of a shard.
use Rattle.std.proofs.Common.{◌≡◌, ◌∙◌, ◌-◌, ◌+◌, ◌⊎◌, inl, inr, ℕ, pos, Bool, true, false, cond, List, [], ◌∷◌, Option, Some, None, nat_lt, refl, sym, ap, arith}
use Rattle.std.specs.Option.{option_map}
use Rattle.std.specs.Str.{bytes_eq}
use Rattle.std.proofs.lemmas.Option.{cond_some}
use Rattle.std.proofs.lemmas.Bool.Decides.{nat_tests}
use Rattle.std.proofs.lemmas.Slice.Eq.{bytes_eq-Decides}
use Rattle.topic_conf.specs.declared.topic.Topic.{Topic}
use Rattle.topic_conf.specs.Topics.{partition_at, shard_at}
use Rattle.share_calls.specs.declared.partition.PartitionId.{PartitionId}
use Rattle.share_calls.specs.Partitions.{partition_of}

chosen : {X : Type 0} (b : Bool) (x y z : X) → cond b x y ≡ z → ((b ≡ true) × (x ≡ z)) ⊎ ((b ≡ false) × (y ≡ z))
chosen true x y z e = inl (refl, e)
chosen false x y z e = inr (refl, e)

mapped : (f : ℕ → ℕ) (o : Option ℕ) (y : ℕ) → option_map f o ≡ Some y → (x : ℕ) × (o ≡ Some x) × (y ≡ f x)
mapped f None y e = absurd cc
mapped f (Some x) y e = (x, refl, cc)

abbrev pub named : List ℕ → ℕ → PartitionId
named id index = record { topic_id = id; index = pos index }

pub of_shard : (topics : List Topic) (id : List ℕ) (index shard : ℕ) → shard_at id (pos index) topics ≡ Some shard → partition_of topics shard ≡ Some (named id index)
of_shard [] id index shard e = absurd cc
of_shard (topic ∷ topics) id index shard e = go (of_shard topics id index) (chosen (bytes_eq topic.id id) _ _ _ e) where
  go : ((later : ℕ) → shard_at id (pos index) topics ≡ Some later → partition_of topics later ≡ Some (named id index))
      → ((bytes_eq topic.id id ≡ true) × (partition_at (pos index) topic.parts ≡ Some shard))
      ⊎ ((bytes_eq topic.id id ≡ false) × (option_map (λ shard. topic.parts + shard) (shard_at id (pos index) topics) ≡ Some shard))
      → partition_of (topic ∷ topics) shard ≡ Some (named id index)
  go others (inl h) =
      let found = cond_some (nat_lt index topic.parts) index shard h.1 in
      let same : shard ≡ index = sym found.1 in
      let lt : nat_lt shard topic.parts ≡ true = ap (λ s. nat_lt s topic.parts) same ∙ found.0 in
      let id_same : topic.id ≡ id = (bytes_eq-Decides topic.id id).0 h.0 in
      ap (λ b. cond b (Some (named topic.id shard)) (partition_of topics (shard - topic.parts))) lt
      ∙ ap (λ s. Some (named topic.id s)) same ∙ ap (λ i. Some (named i index)) id_same
  go others (inr h) =
      let found = mapped (λ later. topic.parts + later) (shard_at id (pos index) topics) shard h.1 in
      let number : shard ≡ topic.parts + found.0 = found.2 in
      let lt : nat_lt shard topic.parts ≡ false = grind (arith, nat_tests, number) in
      let less : shard - topic.parts ≡ found.0 = omega (arith, number) in
      ap (λ b. cond b (Some (named topic.id shard)) (partition_of topics (shard - topic.parts))) lt
      ∙ ap (partition_of topics) less ∙ others found.0 found.1
