-- What a taken reply to ShareFetch hands out: the granted offsets with their records, the lines of text, and how each offset is
-- acknowledged (KIP-932: type 1 accepts a record, type 0 says that an offset has none).
-- For example `0..1 x1` of partition 0 of the topic of twos over a batch with the record a at 0 and none at 1 gives the line
-- `record 22222222-2222-2222-2222-222222222222/0 0 1 61` and the types 1 and 0.
use Rattle.std.specs.Prelude.{ℕ, ℤ, pos, ◌+◌, ◌-◌, List, [], ◌∷◌, ◌++◌, codes, flat_map, map, Option, Some, None, if◌then◌else◌}
use Rattle.std.specs.Fmt.{decimal, signed_decimal}
use Rattle.std.specs.List.{range_with_len}
use Rattle.hex.specs.Hex.{encode_lower}
use Rattle.uuid.specs.Text.{hyphenated_text, lower}
use Rattle.msgs_share.specs.declared.share_fetch_reply.AcquiredRecords.{AcquiredRecords}
use Rattle.msgs_share.specs.declared.share_topic.AcknowledgementBatch.{AcknowledgementBatch}
use Rattle.msgs_share.specs.declared.share_topic.SharePartition.{SharePartition}
use Rattle.msgs_share.specs.declared.share_topic.ShareTopic.{ShareTopic}
use Rattle.rec_batch.specs.Batches.{at_least_zero}
use Rattle.share_client.specs.declared.fetched.LocatedFetch.{LocatedFetch}
use Rattle.share_client.specs.declared.fetched.LocatedPartition.{LocatedPartition}
use Rattle.share_client.specs.declared.located.Located.{Located}
use Rattle.share_client.specs.Grants.{Entry, Named, content_of, entries_of, is_passed, name_of}
use Rattle.share_client.specs.Records.{OffsetRecord, all_records, found_at}

-- a granted offset, and the value of its record, if it has one
pub record Slot : Type 0 where
  pub offset : ℕ
  pub found : Option (Option (List ℕ))

-- the offsets of a run, from this one on
abbrev pub slots_from : List OffsetRecord → ℕ → ℕ → List Slot
slots_from records first count = map (λ n. record { offset = n; found = found_at records n }) (range_with_len first count)

abbrev pub run_first : AcquiredRecords → ℕ
run_first a = at_least_zero a.first_offset

abbrev pub run_count : AcquiredRecords → ℕ
run_count a = at_least_zero a.last_offset + 1 - at_least_zero a.first_offset

-- the offsets that an element of AcquiredRecords grants
abbrev pub slots : List OffsetRecord → AcquiredRecords → List Slot
slots records a = slots_from records (run_first a) (run_count a)

-- ---- lines

-- a record that is handed out
pub record Delivery : Type 0 where
  pub name : Named
  pub offset : ℕ
  pub count : ℤ
  pub value : Option (List ℕ)

abbrev pub delivered : Named → ℤ → ℕ → Option (Option (List ℕ)) → List Delivery
delivered name count offset None = []
delivered name count offset (Some value) = record { name = name; offset = offset; count = count; value = value } ∷ []

abbrev pub slot_deliveries : Named → ℤ → List Slot → List Delivery
slot_deliveries name count found = flat_map (λ s. delivered name count s.offset s.found) found

abbrev pub run_deliveries : Named → List OffsetRecord → AcquiredRecords → List Delivery
run_deliveries name records a = slot_deliveries name a.delivery_count (slots records a)

abbrev pub runs_deliveries : Named → List OffsetRecord → List (Located AcquiredRecords) → List Delivery
runs_deliveries name records acquired = flat_map (λ a. run_deliveries name records a.item) acquired

-- a partition's, unless it has an error
abbrev pub entry_deliveries : Entry → List Delivery
entry_deliveries e = if is_passed e then [] else runs_deliveries (name_of e) (all_records (content_of e.1.item.records)) e.1.item.acquired_records

-- all that a reply hands out
abbrev pub deliveries : LocatedFetch → List Delivery
deliveries reply = flat_map entry_deliveries (flat_map entries_of reply.responses)

abbrev pub value_text : Option (List ℕ) → List ℕ
value_text None = codes "-"
value_text (Some value) = encode_lower value

-- the topic's id with hyphens and the partition, the offset, how often the record was delivered, and its value; 10 is a line feed
abbrev pub line : Delivery → List ℕ
line d = codes "record " ++ (hyphenated_text lower d.name.0 ++ (codes "/" ++ (signed_decimal d.name.1 ++ (codes " " ++ (decimal d.offset
    ++ (codes " " ++ (signed_decimal d.count ++ (codes " " ++ (value_text d.value ++ 10 ∷ [])))))))))

abbrev pub lines : List Delivery → List ℕ
lines ds = flat_map line ds

-- ---- acknowledgements

abbrev pub type_of : Option (Option (List ℕ)) → ℤ
type_of None = pos 0
type_of (Some value) = pos 1

-- a type for each offset
abbrev pub run_acknowledged : List OffsetRecord → AcquiredRecords → AcknowledgementBatch
run_acknowledged records a = record { first_offset = a.first_offset; last_offset = a.last_offset; acknowledge_types = map (λ s. type_of s.found) (slots records a) }

abbrev pub topic_acknowledged : Named → List AcknowledgementBatch → List (ShareTopic SharePartition)
topic_acknowledged name [] = []
topic_acknowledged name (a ∷ batches) =
    record { topic_id = name.0; partitions = record { partition_index = name.1; acknowledgement_batches = a ∷ batches } ∷ [] } ∷ []

-- a batch for each element of AcquiredRecords, where there is one and the partition has no error
abbrev pub entry_acknowledged : Entry → List (ShareTopic SharePartition)
entry_acknowledged e = if is_passed e then [] else
    topic_acknowledged (name_of e) (map (λ a. run_acknowledged (all_records (content_of e.1.item.records)) a.item) e.1.item.acquired_records)

-- how all that a reply granted is acknowledged
abbrev pub acknowledgements : LocatedFetch → List (ShareTopic SharePartition)
acknowledgements reply = flat_map entry_acknowledged (flat_map entries_of reply.responses)
