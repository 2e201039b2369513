-- A state call in hand (KIP-932, the share-group state calls: the reply has the topics and partitions of the request).
-- For example a reply to a Read of partitions 5 and 6 of a topic has that topic with two rows, in this order.
use Rattle.std.specs.Prelude.{ℕ, ℤ, pos, true, false, Option, Some, List, [], ◌∷◌, map, flat_map, take, drop, if◌then◌else◌}
use Rattle.flex_fields.specs.Formats.{Format}
use Rattle.topic_conf.specs.declared.topic.Topic.{Topic}
use Rattle.msgs_state.specs.declared.state_message.StateTopic.{StateTopic}
use Rattle.msgs_state.specs.declared.state_message.StateRequest.{StateRequest}
use Rattle.msgs_state.specs.StateMessage.{state_reply}
use Rattle.call_fold.specs.declared.part.Part.{Part}
use Rattle.call_fold.specs.declared.part.Part.TheVariants.{Foreign as PartForeign, Look as PartLook}
use Rattle.call_fold.specs.declared.call.Stage.{Stage}
use Rattle.call_fold.specs.declared.call.Stage.TheVariants.{Says}
use Rattle.call_fold.specs.Calls.{Acts, AskingParts}
use Rattle.call_fold.specs.Going.{stage_of, known_rows}
use Rattle.state_calls.specs.declared.plan.Question.{Question}
use Rattle.state_calls.specs.declared.plan.Question.TheVariants.{Foreign, Hosted}
use Rattle.state_calls.specs.declared.state.StateHand.{StateHand}
use Rattle.state_calls.specs.Places.{ShapeParts, key_at}
use Rattle.state_calls.specs.States.{StateMeans, is_group, question_answer, topic_entries, shape_of}

-- the rows under the topics of the request, in order
abbrev pub rows_by_topic : {R : Type 0} → List ShapeParts → List R → List (StateTopic R)
rows_by_topic [] rows = []
rows_by_topic (one ∷ shape) rows = record { topic_id = one.topic; partitions = take one.count rows } ∷ rows_by_topic shape (drop one.count rows)

abbrev pub body_of : {R : Type 0} → Format R → List (StateTopic R) → Option (List ℕ)
body_of f topics = Some ((state_reply f).bytes (record { results = topics }))

abbrev pub state_body : {R : Type 0} → Format R → List ShapeParts → List R → Option (List ℕ)
state_body f shape rows = body_of f (rows_by_topic shape rows)

-- the part that answers a question
abbrev pub question_part : {P W R : Type 0} → StateMeans P W R → List ℕ → Question W → Part
question_part means group (Foreign q) = PartForeign (means.op (key_at group q.place) q.wish)
question_part means group (Hosted partition shard) = PartLook shard group

-- the number of the partition that is asked about
abbrev pub question_number : {W : Type 0} → Question W → ℤ
question_number (Foreign q) = pos q.place.part
question_number (Hosted partition shard) = partition

-- each row is made of its own question and of the answer to it
abbrev pub state_acts : {S P W R : Type 0} → StateMeans P W R → Format R → Acts (StateHand S) (Question W) R
state_acts means f = record {
  part = λ hand q. question_part means hand.group q;
  row = λ hand q answer. means.row (question_number q) (question_answer q answer);
  next = λ hand q answer. hand;
  body = λ hand rows. state_body f hand.shape rows;
}

abbrev pub hand_of : {S P : Type 0} → S → StateRequest P → StateHand S
hand_of call request = record { call = call; group = request.group_id; shape = map shape_of request.topics }

-- a request begins; where its group is none, each entry has its code at once
abbrev pub state_stage : {S P W R : Type 0} → StateMeans P W R → Format R → List Topic → S → StateRequest P → Stage (AskingParts (StateHand S) (Question W) R)
state_stage means f topics call request =
    if is_group request.group_id
    then stage_of (state_acts means f) (hand_of call request) (flat_map (topic_entries means topics true) request.topics) []
    else Says (state_body f (map shape_of request.topics) (known_rows (flat_map (topic_entries means topics false) request.topics)))
