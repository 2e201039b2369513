-- The one form of the requests of version 0 of the share-group state calls, and the one form of their replies (KIP-932,
-- InitializeShareGroupStateRequest.json and the schemas of the other calls): topics by their id, each with its partitions.
-- For example `03 6731 01 00` is a request of group `g1` that asks nothing of any partition.
use Rattle.std.specs.Prelude.{ℕ, List, refl}
use Rattle.flex_fields.specs.Formats.{Format, Shape, structure, array, ◌▹◌, string, uuid}
use Rattle.msgs_state.specs.declared.state_message.StateTopic.{StateTopic}
use Rattle.msgs_state.specs.declared.state_message.StateRequest.{StateRequest}
use Rattle.msgs_state.specs.declared.state_message.StateReply.{StateReply}

abbrev pub state_topic_shape : {P : Type 0} → Shape (StateTopic P) (List ℕ × List P)
state_topic_shape = record {
  make = λ x. record { topic_id = x.0; partitions = x.1 };
  parts = λ s. (s.topic_id, s.partitions);
  back = λ _. refl;
  there = λ _. refl;
}

unfoldable pub state_topic : {P : Type 0} → Format P → Format (StateTopic P)
state_topic f = structure state_topic_shape (uuid ▹ array f)

abbrev pub state_request_shape : {P : Type 0} → Shape (StateRequest P) (List ℕ × List (StateTopic P))
state_request_shape = record {
  make = λ x. record { group_id = x.0; topics = x.1 };
  parts = λ s. (s.group_id, s.topics);
  back = λ _. refl;
  there = λ _. refl;
}

unfoldable pub state_request : {P : Type 0} → Format P → Format (StateRequest P)
state_request f = structure state_request_shape (string ▹ array (state_topic f))

abbrev pub state_reply_shape : {P : Type 0} → Shape (StateReply P) (List (StateTopic P))
state_reply_shape = record {
  make = λ x. record { results = x };
  parts = λ s. s.results;
  back = λ _. refl;
  there = λ _. refl;
}

unfoldable pub state_reply : {P : Type 0} → Format P → Format (StateReply P)
state_reply f = structure state_reply_shape (array (state_topic f))
