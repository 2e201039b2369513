-- Looking a shard's number up, one topic further.
use Rattle.std.proofs.Common.{◌≡◌, ◌+◌, ◌<◌, ℕ, suc, ℤ, pos, Bool, false, cond, List, ◌∷◌, Option, Some, None, length, drop, get_or, drop-cons, add-one, refl, sym, ap, ◌∙◌, arith}
use Rattle.std.specs.Option.{option_map}
use Rattle.std.specs.Str.{bytes_eq}
use Rattle.topic_conf.proofs.Lists.{partitions_cons}
use Rattle.topic_conf.specs.declared.topic.Topic.{Topic}
use Rattle.topic_conf.specs.Topics.{partitions, partition_at, shard_at, shard_named}

shifted : (first parts : ℕ) (o : Option ℕ) → option_map (λ shard. first + parts + shard) o ≡ option_map (λ shard. first + shard) (option_map (λ shard. parts + shard) o)
shifted first parts None = refl
shifted first parts (Some n) = let e : first + parts + n ≡ first + (parts + n) = omega arith in ap Some e

pub at_later : (id : List ℕ) (partition : ℤ) (first : ℕ) (topic : Topic) (topics rest : List Topic) (found : Option ℕ) → rest ≡ topic ∷ topics
    → bytes_eq topic.id id ≡ false → option_map (λ shard. first + shard) (shard_at id partition rest) ≡ found
    → option_map (λ shard. first + topic.parts + shard) (shard_at id partition topics) ≡ found
at_later id partition first topic topics rest found split other is =
    shifted first topic.parts (shard_at id partition topics)
    ∙ ap (λ (b : Bool). option_map (λ shard. first + shard) (cond b (partition_at partition topic.parts) (option_map (λ shard. topic.parts + shard) (shard_at id partition topics)))) (sym other)
    ∙ ap (λ (l : List Topic). option_map (λ shard. first + shard) (shard_at id partition l)) (sym split)
    ∙ is

pub named_later : (name : List ℕ) (part first : ℕ) (topic : Topic) (topics rest : List Topic) (found : Option ℕ) → rest ≡ topic ∷ topics
    → bytes_eq topic.name name ≡ false → option_map (λ shard. first + shard) (shard_named name part rest) ≡ found
    → option_map (λ shard. first + topic.parts + shard) (shard_named name part topics) ≡ found
named_later name part first topic topics rest found split other is =
    shifted first topic.parts (shard_named name part topics)
    ∙ ap (λ (b : Bool). option_map (λ shard. first + shard) (cond b (partition_at (pos part) topic.parts) (option_map (λ shard. topic.parts + shard) (shard_named name part topics)))) (sym other)
    ∙ ap (λ (l : List Topic). option_map (λ shard. first + shard) (shard_named name part l)) (sym split)
    ∙ is

pub counted_later : (first all : ℕ) (topic : Topic) (topics rest : List Topic) → rest ≡ topic ∷ topics → first + partitions rest ≡ all
    → first + topic.parts + partitions topics ≡ all
counted_later first all topic topics rest split is = omega (arith, ap partitions split, partitions_cons topic topics, is)

-- the topic at a place and those behind it
pub split_at_place : (topics : List Topic) (place : ℕ) (topic : Topic) → place < length topics → topic ≡ get_or topics place topic
    → drop place topics ≡ topic ∷ drop (place + 1) topics
split_at_place topics place topic within is =
    rw add-one (drop-cons topics place topic within ∙ ap (λ (t : Topic). t ∷ drop (suc place) topics) (sym is))
