-- The requests of the session, in the words of their schemas: Produce 9, ShareFetch 1 and ShareAcknowledge 1 (Kafka
-- message schemas; KIP-932), each in a frame with a request header of version 2 without a client id (KIP-482).
-- For example the second frame of the session of one round is `00000042 004e 0001 00000002 ffff 00 0267 0261 00000000
-- 00000000 00000001 00100000 000001f4 000001f4 02`, the topic's id, `02 00000000 01 00 00 01 00` (layer_rows, `a
-- session of one round`).
use Rattle.std.specs.Prelude.{ℕ, pos, negsuc, ◌+◌, ◌%◌, List, [], ◌∷◌, ◌++◌, length, replicate, codes, Some, None}
use Rattle.std.specs.Int.{w32, to_be_bytes}
use Rattle.std.specs.Fmt.{decimal}
use Rattle.req_head.specs.Heads.{HeadParts, request_head}
use Rattle.msgs_base.specs.declared.produce_request.ProduceRequest.{ProduceRequest}
use Rattle.msgs_share.specs.declared.share_topic.AcknowledgementBatch.{AcknowledgementBatch}
use Rattle.msgs_share.specs.declared.share_topic.SharePartition.{SharePartition}
use Rattle.msgs_share.specs.declared.share_topic.ShareTopic.{ShareTopic}
use Rattle.msgs_share.specs.declared.share_fetch_request.ShareFetchRequest.{ShareFetchRequest}
use Rattle.msgs_share.specs.declared.share_ack_request.ShareAckRequest.{ShareAckRequest}
use Rattle.rec_batch.specs.declared.rec.Rec.{Rec}
use Rattle.rec_batch.specs.Written.{batch_bytes}
use Rattle.share_model.specs.declared.ack.AckKind.{AckKind}
use Rattle.share_model.specs.declared.ack.AckKind.TheVariants.{Gap, Accept, Release, Reject}
use Rattle.gen_load.specs.declared.counts.Member.{Member}
use Rattle.gen_load.specs.declared.counts.Member.TheVariants.{A, B}

-- its size, the header and the body
abbrev pub frame_of : HeadParts → List ℕ → List ℕ
frame_of head body = to_be_bytes w32 (length (request_head.bytes head ++ body)) ++ (request_head.bytes head ++ body)

-- the header of this call and version
abbrev pub head_of : ℕ → ℕ → ℕ → HeadParts
head_of key version correlation =
    record { key = pos key; version = pos version; correlation = pos correlation; client = None }

-- a round's batch has one to five records
abbrev pub batch_size : ℕ → ℕ
batch_size round = 1 + round % 5

-- which have no keys, and the round's number in decimal as their value
abbrev pub records_of : ℕ → List Rec
records_of round = replicate (batch_size round) (record { key = None; value = Some (decimal round) })

-- acks -1 asks for an answer once the batch is stored
abbrev pub produce_message : ℕ → ProduceRequest
produce_message round = record {
  transactional_id = None;
  acks = negsuc 0;
  timeout_ms = pos 30000;
  topic_data = record {
    name = codes "orders";
    partition_data = record { index = pos 0; records = Some (batch_bytes (records_of round)) } ∷ [];
  } ∷ [];
}

abbrev pub member_id : Member → List ℕ
member_id A = codes "a"
member_id B = codes "b"

-- partition 0 of the topic `orders`, which has the id 22222222-2222-2222-2222-222222222222
abbrev pub partition_with : List AcknowledgementBatch → List (ShareTopic SharePartition)
partition_with batches =
    record {
      topic_id = replicate 16 34;
      partitions = record { partition_index = pos 0; acknowledgement_batches = batches } ∷ [];
    } ∷ []

-- a member of the group `g` asks for at most 500 records and 1048576 bytes, and waits for none
abbrev pub fetch_message : Member → ℕ → ShareFetchRequest
fetch_message member epoch = record {
  group_id = Some (codes "g");
  member_id = Some (member_id member);
  share_session_epoch = pos epoch;
  max_wait_ms = pos 0;
  min_bytes = pos 1;
  max_bytes = pos 1048576;
  max_records = pos 500;
  batch_size = pos 500;
  topics = partition_with [];
  forgotten_topics_data = [];
}

-- the number of an acknowledgement type
abbrev pub type_number : AckKind → ℕ
type_number Gap = 0
type_number Accept = 1
type_number Release = 2
type_number Reject = 3

-- one type for all offsets from the first to the last
abbrev pub ack_message : Member → ℕ → AckKind → ℕ → ℕ → ShareAckRequest
ack_message member epoch kind first last = record {
  group_id = Some (codes "g");
  member_id = Some (member_id member);
  share_session_epoch = pos epoch;
  topics = partition_with (record {
    first_offset = pos first;
    last_offset = pos last;
    acknowledge_types = pos (type_number kind) ∷ [];
  } ∷ []);
}
