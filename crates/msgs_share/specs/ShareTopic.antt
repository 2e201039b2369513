-- What the messages of share groups say of topics, which they name by their ids, and of acknowledged records (KIP-932,
-- ShareFetchRequest.json and ShareAcknowledgeRequest.json; the types are 0 gap, 1 accept, 2 release, 3 reject).
-- For example an accept of the offsets 0 to 2 is `0000000000000000 0000000000000002 02 01 00`.
use Rattle.std.specs.Prelude.{ℕ, ℤ, List, refl}
use Rattle.flex_fields.specs.Formats.{Format, Shape, structure, array, ◌▹◌, uuid, int8, int32, int64}
use Rattle.msgs_share.specs.declared.share_topic.AcknowledgementBatch.{AcknowledgementBatch}
use Rattle.msgs_share.specs.declared.share_topic.SharePartition.{SharePartition}
use Rattle.msgs_share.specs.declared.share_topic.ShareTopic.{ShareTopic}

abbrev pub acknowledgement_batch_shape : Shape AcknowledgementBatch (ℤ × (ℤ × List ℤ))
acknowledgement_batch_shape = record {
  make = λ x. record { first_offset = x.0; last_offset = x.1.0; acknowledge_types = x.1.1 };
  parts = λ s. (s.first_offset, (s.last_offset, s.acknowledge_types));
  back = λ _. refl;
  there = λ _. refl;
}

unfoldable pub acknowledgement_batch : Format AcknowledgementBatch
acknowledgement_batch = structure acknowledgement_batch_shape (int64 ▹ int64 ▹ array int8)

abbrev pub share_partition_shape : Shape SharePartition (ℤ × List AcknowledgementBatch)
share_partition_shape = record {
  make = λ x. record { partition_index = x.0; acknowledgement_batches = x.1 };
  parts = λ s. (s.partition_index, s.acknowledgement_batches);
  back = λ _. refl;
  there = λ _. refl;
}

unfoldable pub share_partition : Format SharePartition
share_partition = structure share_partition_shape (int32 ▹ array acknowledgement_batch)

abbrev pub share_topic_shape : {P : Type 0} → Shape (ShareTopic P) (List ℕ × List P)
share_topic_shape = record {
  make = λ x. record { topic_id = x.0; partitions = x.1 };
  parts = λ s. (s.topic_id, s.partitions);
  back = λ _. refl;
  there = λ _. refl;
}

unfoldable pub share_topic : {P : Type 0} → Format P → Format (ShareTopic P)
share_topic f = structure share_topic_shape (uuid ▹ array f)
