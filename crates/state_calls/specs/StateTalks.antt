-- What a state call means by its request (KIP-932, the share-group state calls): a part for each partition that needs one, of the
-- foreign shard, or a look at the partition's own shard where it is hosted and read; in the order of the request. And a reply with the
-- topics and partitions of the request, in which each partition has the row of its own answer, or of the code that is known at once.
-- Answers belong to partitions by their place.
-- For example partitions -2, 0, -1 and 1 of a topic ask 0 and 1, and have 42, the first answer, 42 and the second (row_tests,
-- `answers stand at their places, with known ones between them`).
use Rattle.std.specs.Prelude.{◌≡◌, ℕ, ℤ, nat_abs, true, false, suc, Some, List, [], ◌∷◌, map, flat_map, take, length}
use Rattle.flex_fields.specs.Formats.{Format}
use Rattle.share_model.specs.ErrorCodes.{INVALID_GROUP_ID}
use Rattle.share_model.specs.declared.foreign.ForeignAnswer.{ForeignAnswer}
use Rattle.share_model.specs.ForeignRules.{code_alone}
use Rattle.topic_conf.specs.declared.topic.Topic.{Topic}
use Rattle.msgs_state.specs.declared.state_message.StateTopic.{StateTopic}
use Rattle.msgs_state.specs.declared.state_message.StateRequest.{StateRequest}
use Rattle.call_fold.specs.declared.part.Part.{Part}
use Rattle.call_fold.specs.declared.part.Part.TheVariants.{Foreign as PartForeign, Look as PartLook}
use Rattle.call_fold.specs.declared.part.PartAnswer.{PartAnswer}
use Rattle.call_fold.specs.Parts.{foreign_answer, look_answer}
use Rattle.call_fold.specs.Talks.{Talk, says, talk_of, stage_talk, talk_parts, talk_reply}
use Rattle.state_calls.specs.declared.plan.Fate.{Fate}
use Rattle.state_calls.specs.declared.plan.Fate.TheVariants.{Refused, LookedAt, AskedAbroad}
use Rattle.state_calls.specs.States.{StateMeans, is_group, fate_of, stored_answer}
use Rattle.state_calls.specs.StateCalls.{state_acts, state_stage, body_of}

-- ---- the parts

abbrev pub part_by : {P W R : Type 0} → Fate → StateMeans P W R → List ℕ → List ℕ → ℤ × W → List Part
part_by (Refused code) means group topic x = []
part_by (LookedAt shard) means group topic x = PartLook shard group ∷ []
part_by AskedAbroad means group topic x = PartForeign (means.op (record { group = group; topic = topic; part = nat_abs x.0 }) x.1) ∷ []

abbrev pub parts_in : {P W R : Type 0} → StateMeans P W R → List Topic → List ℕ → StateTopic P → List Part
parts_in means topics group t = flat_map (λ p. part_by (fate_of means topics true t.topic_id p) means group t.topic_id (means.wish p)) t.partitions

-- a part for each partition that needs one
abbrev pub parts_of : {P W R : Type 0} → StateMeans P W R → List Topic → StateRequest P → List Part
parts_of means topics request = flat_map (parts_in means topics request.group_id) request.topics

-- ---- the reply, where each partition stands beside the answer of its part

-- the topic as it is asked
abbrev pub request_topic : {P : Type 0} → StateTopic (P × PartAnswer) → StateTopic P
request_topic t = record { topic_id = t.topic_id; partitions = map (λ x. x.0) t.partitions }

-- a partition that needs no shard has no answer
abbrev pub answer_by : Fate → PartAnswer → List PartAnswer
answer_by (Refused code) answer = []
answer_by (LookedAt shard) answer = answer ∷ []
answer_by AskedAbroad answer = answer ∷ []

abbrev pub answers_in : {P W R : Type 0} → StateMeans P W R → List Topic → StateTopic (P × PartAnswer) → List PartAnswer
answers_in means topics t = flat_map (λ x. answer_by (fate_of means topics true t.topic_id x.0) x.1) t.partitions

abbrev pub own_answer : Fate → PartAnswer → ForeignAnswer
own_answer (Refused code) answer = code_alone code
own_answer (LookedAt shard) answer = stored_answer (look_answer answer)
own_answer AskedAbroad answer = foreign_answer answer

abbrev pub own_row : {P W R : Type 0} → StateMeans P W R → List Topic → List ℕ → P × PartAnswer → R
own_row means topics topic x = means.row (means.wish x.0).0 (own_answer (fate_of means topics true topic x.0) x.1)

abbrev pub own_topic : {P W R : Type 0} → StateMeans P W R → List Topic → StateTopic (P × PartAnswer) → StateTopic R
own_topic means topics t = record { topic_id = t.topic_id; partitions = map (own_row means topics t.topic_id) t.partitions }

-- where the group is none, each partition is refused
abbrev pub refused_topic : {P W R : Type 0} → StateMeans P W R → StateTopic P → StateTopic R
refused_topic means t = record { topic_id = t.topic_id; partitions = map (λ p. means.row (means.wish p).0 (code_alone INVALID_GROUP_ID)) t.partitions }

-- ---- the law

-- what the request asks and says as it is done
abbrev pub state_talk : {S P W R : Type 0} → StateMeans P W R → Format R → List Topic → S → StateRequest P → Talk
state_talk means f topics call request = stage_talk (talk_of (state_acts means f)) (state_stage means f topics call request)

-- S is what the call itself is
pub record TellsByItsPart (S : Type 0) {P W R : Type 0} (means : StateMeans P W R) (f : Format R) : Type 0 where
  -- the parts are those of the partitions, each asked once the answers to those before it have come
  pub asks : (topics : List Topic) (call : S) (request : StateRequest P) (answers : List PartAnswer) → is_group request.group_id ≡ true →
      talk_parts (state_talk means f topics call request) answers ≡ take (suc (length answers)) (parts_of means topics request)
  -- once all answers have come, the reply tells each partition by its own
  pub says_own : (topics : List Topic) (call : S) (group : List ℕ) (told : List (StateTopic (P × PartAnswer))) → is_group group ≡ true →
      talk_reply (state_talk means f topics call (record { group_id = group; topics = map request_topic told })) (flat_map (answers_in means topics) told)
      ≡ Some (body_of f (map (own_topic means topics) told))
  pub refuses : (topics : List Topic) (call : S) (request : StateRequest P) → is_group request.group_id ≡ false →
      state_talk means f topics call request ≡ says (body_of f (map (refused_topic means) request.topics))
