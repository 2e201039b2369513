-- What a state call is, and its entries (KIP-932, the share-group state calls; the codes of entries that are answered at once are
-- this project's own).
-- For example partitions -2, 0, -1 and 1 of a topic that isn't hosted are the code 42, a question, 42 and a question (row_tests,
-- `answers stand at their places, with known ones between them`).
use Rattle.std.specs.Prelude.{ℕ, ℤ, pos, nat_abs, int_lt, nat_le, Bool, ◌&&◌, if◌then◌else◌, Option, Some, None, is_some}
use Rattle.std.specs.Prelude.{List, map, length}
use Rattle.share_model.specs.Keys.{KeyParts}
use Rattle.share_model.specs.ForeignRules.{code_alone}
use Rattle.share_model.specs.declared.foreign.ForeignOp.{ForeignOp}
use Rattle.share_model.specs.declared.foreign.ForeignAnswer.{ForeignAnswer}
use Rattle.share_model.specs.ErrorCodes.{NONE, INVALID_GROUP_ID, INVALID_REQUEST, UNKNOWN_TOPIC_OR_PARTITION}
use Rattle.topic_conf.specs.declared.topic.Topic.{Topic}
use Rattle.topic_conf.specs.Topics.{place_by_id, shard_at}
use Rattle.msgs_state.specs.declared.state_message.StateTopic.{StateTopic}
use Rattle.call_fold.specs.declared.part.Looked.{Looked}
use Rattle.call_fold.specs.declared.part.Looked.TheVariants.{Absent, There}
use Rattle.call_fold.specs.declared.part.PartAnswer.{PartAnswer}
use Rattle.call_fold.specs.Parts.{foreign_answer, look_answer}
use Rattle.call_fold.specs.declared.call.Entry.{Entry}
use Rattle.call_fold.specs.declared.call.Entry.TheVariants.{Known, Ask}
use Rattle.state_calls.specs.declared.hosting.Hosting.{Hosting}
use Rattle.state_calls.specs.declared.hosting.Hosting.TheVariants.{Refuses, Looks}
use Rattle.state_calls.specs.declared.plan.Fate.{Fate}
use Rattle.state_calls.specs.declared.plan.Fate.TheVariants.{Refused, LookedAt, AskedAbroad}
use Rattle.state_calls.specs.declared.plan.Question.{Question}
use Rattle.state_calls.specs.declared.plan.Question.TheVariants.{Foreign, Hosted}
use Rattle.state_calls.specs.Places.{ShapeParts}

-- what a request says of a partition P, what is asked of its state W, and what a reply says of it R
pub record StateMeans (P W R : Type 0) : Type 0 where
  -- the partition's number, and what is asked of its state
  pub wish : P → ℤ × W
  -- what is done at a partition of a hosted topic
  pub hosted : Hosting
  -- the operation on the state of this key
  pub op : KeyParts → W → ForeignOp
  -- what is said of the partition of this number with this answer
  pub row : ℤ → ForeignAnswer → R

-- a group has 1 to 255 bytes
abbrev pub is_group : List ℕ → Bool
is_group group = nat_le 1 (length group) && nat_le (length group) 255

abbrev pub is_hosted : List Topic → List ℕ → Bool
is_hosted topics topic = is_some (place_by_id topic topics)

-- ---- what becomes of a partition

-- a partition of a hosted topic, by its shard, if it has one
abbrev pub hosted_fate : Hosting → Option ℕ → Fate
hosted_fate (Refuses code) shard = Refused code
hosted_fate Looks (Some shard) = LookedAt shard
hosted_fate Looks None = Refused UNKNOWN_TOPIC_OR_PARTITION

-- By the first that applies; `fits` says whether the group is one, and `hosted` whether the topic is hosted.
abbrev pub fate : Bool → Bool → Hosting → Option ℕ → ℤ → Fate
fate fits hosted hosting shard partition =
    if fits then (if int_lt partition (pos 0) then Refused INVALID_REQUEST else if hosted then hosted_fate hosting shard else AskedAbroad) else Refused INVALID_GROUP_ID

abbrev pub fate_of : {P W R : Type 0} → StateMeans P W R → List Topic → Bool → List ℕ → P → Fate
fate_of means topics fits topic p = fate fits (is_hosted topics topic) means.hosted (shard_at topic (means.wish p).0 topics) (means.wish p).0

-- ---- an answer of either kind

-- what is stored of a hosted partition, as a Read tells it: 3 where the group has no table
abbrev pub stored_answer : Looked → ForeignAnswer
stored_answer Absent = code_alone UNKNOWN_TOPIC_OR_PARTITION
stored_answer (There state_epoch leader_epoch start runs) = record { code = NONE; state_epoch = state_epoch; start = start; runs = runs }

abbrev pub question_answer : {W : Type 0} → Question W → PartAnswer → ForeignAnswer
question_answer (Foreign wished) answer = foreign_answer answer
question_answer (Hosted partition shard) answer = stored_answer (look_answer answer)

-- ---- the entries

abbrev pub entry_of : {P W R : Type 0} → StateMeans P W R → List ℕ → ℤ × W → Fate → Entry (Question W) R
entry_of means topic x (Refused code) = Known (means.row x.0 (code_alone code))
entry_of means topic x (LookedAt shard) = Ask (Hosted x.0 shard)
entry_of means topic x AskedAbroad = Ask (Foreign (record { place = record { topic = topic; part = nat_abs x.0 }; wish = x.1 }))

abbrev pub partition_entry : {P W R : Type 0} → StateMeans P W R → List Topic → Bool → List ℕ → P → Entry (Question W) R
partition_entry means topics fits topic p = entry_of means topic (means.wish p) (fate_of means topics fits topic p)

abbrev pub topic_entries : {P W R : Type 0} → StateMeans P W R → List Topic → Bool → StateTopic P → List (Entry (Question W) R)
topic_entries means topics fits t = map (partition_entry means topics fits t.topic_id) t.partitions

abbrev pub shape_of : {P : Type 0} → StateTopic P → ShapeParts
shape_of t = record { topic = t.topic_id; count = length t.partitions }
