-- What a ShareFetch or a ShareAcknowledge says of partitions (KIP-932, ShareFetchRequest.json and ShareAcknowledgeRequest.json).
-- A partition is named by its topic's id and its number; where it is hosted, it is known by the number of its shard.
-- For example a request that names the partitions 1 and 0 of the only hosted topic wants the shards 1 and 0, in this order.
use Rattle.std.specs.Prelude.{ℕ, ℤ, nat_eq, nat_le, Bool, false, not, ◌&&◌, ◌||◌, Option, unwrap_or, if◌then◌else◌}
use Rattle.std.specs.Prelude.{List, [], ◌∷◌, ◌++◌, map, fold, length}
use Rattle.std.specs.Int.{w8, cast_unsigned}
use Rattle.std.specs.List.{flat_map, filter_map, list_any}
use Rattle.std.specs.Map.{lookup}
use Rattle.std.specs.Option.{option_map}
use Rattle.std.specs.Ordering.{int_eq}
use Rattle.std.specs.Str.{bytes_eq}
use Rattle.share_model.specs.declared.ack.AckBatch.{AckBatch}
use Rattle.topic_conf.specs.declared.topic.Topic.{Topic}
use Rattle.topic_conf.specs.Topics.{shard_at}
use Rattle.msgs_share.specs.declared.share_topic.AcknowledgementBatch.{AcknowledgementBatch}
use Rattle.msgs_share.specs.declared.share_topic.SharePartition.{SharePartition}
use Rattle.msgs_share.specs.declared.share_topic.ShareTopic.{ShareTopic}

-- a text that may be null, which counts as an empty one
abbrev pub text_of : Option (List ℕ) → List ℕ
text_of text = unwrap_or text []

-- a group and a member have 1 to 255 bytes
abbrev pub is_name : List ℕ → Bool
is_name text = nat_le 1 (length text) && nat_le (length text) 255

-- what is said of the partitions of a topic, each beside the topic's id
abbrev pub topic_entries : {P : Type 0} → ShareTopic P → List (List ℕ × P)
topic_entries topic = map (λ p. (topic.topic_id, p)) topic.partitions

-- those of all topics, in the order of the request
abbrev pub entries : {P : Type 0} → List (ShareTopic P) → List (List ℕ × P)
entries topics = flat_map topic_entries topics

-- whether both are of one partition
abbrev pub is_same : List ℕ × SharePartition → List ℕ × SharePartition → Bool
is_same a b = bytes_eq a.0 b.0 && int_eq a.1.partition_index b.1.partition_index

-- whether a partition stands twice, hosted or not
abbrev pub has_repeat : List (List ℕ × SharePartition) → Bool
has_repeat [] = false
has_repeat (e ∷ es) = list_any (is_same e) es || has_repeat es

-- whether there is an acknowledgement batch, for a hosted partition or another
abbrev pub has_batches : List (ShareTopic SharePartition) → Bool
has_batches topics = list_any (λ topic. list_any (λ p. not (nat_eq (length p.acknowledgement_batches) 0)) topic.partitions) topics

-- an acknowledgement batch as the partition judges it: a type is the byte of its number
abbrev pub ack_batch : AcknowledgementBatch → AckBatch
ack_batch b = record { first = b.first_offset; last = b.last_offset; types = map (cast_unsigned w8) b.acknowledge_types }

-- the shard of a hosted partition, and the acknowledgements for it
abbrev pub wanted_of : List Topic → List ℕ × SharePartition → Option (ℕ × List AckBatch)
wanted_of topics e = option_map (λ shard. (shard, map ack_batch e.1.acknowledgement_batches)) (shard_at e.0 e.1.partition_index topics)

-- those of the hosted partitions of Topics, in the order of the request
abbrev pub wanted_in : List Topic → List (ShareTopic SharePartition) → List (ℕ × List AckBatch)
wanted_in topics asked = filter_map (wanted_of topics) (entries asked)

-- the acknowledgements for the partition of a shard
abbrev pub acks_for : List (ℕ × List AckBatch) → ℕ → List AckBatch
acks_for wanted shard = unwrap_or (lookup (nat_eq shard) wanted) []

abbrev pub has : List ℕ → ℕ → Bool
has list shard = list_any (nat_eq shard) list

-- a partition that the list doesn't have joins it at its end
abbrev pub join : List ℕ → ℕ → List ℕ
join list shard = if has list shard then list else list ++ shard ∷ []

-- the list when each of these has joined it in turn
abbrev pub joined : List ℕ → List ℕ → List ℕ
joined list shards = fold join list shards

-- the shard of a hosted partition
abbrev pub forgotten_of : List Topic → List ℕ × ℤ → Option ℕ
forgotten_of topics e = shard_at e.0 e.1 topics

-- the shards of the hosted partitions of ForgottenTopicsData, each once
abbrev pub forgotten_in : List Topic → List (ShareTopic ℤ) → List ℕ
forgotten_in topics forgotten = joined [] (filter_map (forgotten_of topics) (entries forgotten))
