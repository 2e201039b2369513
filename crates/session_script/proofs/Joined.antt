-- The parts of a line, one behind the other.
use Rattle.std.proofs.Common.{◌≡◌, ℕ, List, [], ◌∷◌, ◌++◌, Some, codes, sym, ap, ◌∙◌, append_assoc}
use Rattle.std.specs.Fmt.{decimal}
use Rattle.share_model.specs.declared.visit.ShardId.{ShardId}
use Rattle.share_model.specs.declared.visit.ShardId.TheVariants.{Part}
use Rattle.topic_conf.specs.declared.topic.Topic.{Topic}
use Rattle.topic_conf.specs.Topics.{partition_at_shard}
use Rattle.session_script.specs.Output.{partition_text, shard_text}

-- the line of a fault of a partition is that of its shard
pub fault_is : (topics : List Topic) (shard : ShardId) (number : ℕ) (topic : Topic) (part : ℕ) → shard ≡ Part number
    → partition_at_shard topics number ≡ Some (topic, part)
    → codes "fault" ++ 32 ∷ (topic.name ++ 47 ∷ (decimal part ++ 10 ∷ [])) ≡ codes "fault" ++ 32 ∷ (shard_text topics shard ++ 10 ∷ [])
fault_is topics shard number topic part is found =
    let text : shard_text topics shard ≡ topic.name ++ 47 ∷ decimal part = ap (shard_text topics) is ∙ ap partition_text found in
    ap (λ (l : List ℕ). codes "fault" ++ 32 ∷ l)
    (sym (ap (λ (l : List ℕ). l ++ 10 ∷ []) text ∙ append_assoc topic.name (47 ∷ decimal part) (10 ∷ [])))
