-- The DeleteShareGroupOffsets request of version 0 (KIP-932, DeleteShareGroupOffsetsRequest.json).
-- For example one of the group `g` and the topic `t` is `0267 02 0274 00 00`.
use Rattle.std.specs.Prelude.{ℕ, List, refl}
use Rattle.flex_fields.specs.Formats.{Format, Shape, structure, array, ◌▹◌, string}
use Rattle.msgs_admin.specs.declared.delete_offsets_request.DeleteOffsetsRequest.{DeleteOffsetsRequest}
use Rattle.msgs_admin.specs.declared.delete_offsets_request.TopicToDelete.{TopicToDelete}

abbrev pub topic_to_delete_shape : Shape TopicToDelete (List ℕ)
topic_to_delete_shape = record {
  make = λ x. record { topic_name = x };
  parts = λ s. s.topic_name;
  back = λ _. refl;
  there = λ _. refl;
}

unfoldable pub topic_to_delete : Format TopicToDelete
topic_to_delete = structure topic_to_delete_shape string

abbrev pub delete_offsets_request_shape : Shape DeleteOffsetsRequest (List ℕ × List TopicToDelete)
delete_offsets_request_shape = record {
  make = λ x. record { group_id = x.0; topics = x.1 };
  parts = λ s. (s.group_id, s.topics);
  back = λ _. refl;
  there = λ _. refl;
}

unfoldable pub delete_offsets_request : Format DeleteOffsetsRequest
delete_offsets_request = structure delete_offsets_request_shape (string ▹ array topic_to_delete)
