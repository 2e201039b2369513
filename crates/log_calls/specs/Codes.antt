-- The error codes of Produce (Kafka's protocol guide, "Error codes"; ProduceResponse.json). Which fault has which code, where the guide
-- leaves it open, is this project's own.
-- For example a batch whose checksum doesn't agree has code 2, and a compressed one 76 (row_tests, `each fault of a batch has its
-- code`).
use Rattle.std.specs.Prelude.{ℤ, pos, negsuc, ℕ, Bool, List, Option, Some, None, is_some, int_le, ◌&&◌, not, if◌then◌else◌}
use Rattle.std.specs.Ordering.{int_eq}
use Rattle.share_model.specs.declared.fault.Code.{Code}
use Rattle.share_model.specs.ErrorCodes.{CORRUPT_MESSAGE, MESSAGE_TOO_LARGE, INVALID_REQUIRED_ACKS, INVALID_REQUEST}
use Rattle.share_model.specs.ErrorCodes.{UNSUPPORTED_COMPRESSION_TYPE, INVALID_RECORD}
use Rattle.share_model.specs.declared.fault.BatchFault.{BatchFault}
use Rattle.share_model.specs.declared.fault.BatchFault.TheVariants.{TooLarge, Short, BadMagic, BadCrc, Compressed, Transactional, Control, HasProducer, BadRecord, BadDeltas}

abbrev pub batch_code : BatchFault → Code
batch_code TooLarge = MESSAGE_TOO_LARGE
batch_code Short = CORRUPT_MESSAGE
batch_code BadMagic = INVALID_RECORD
batch_code BadCrc = CORRUPT_MESSAGE
batch_code Compressed = UNSUPPORTED_COMPRESSION_TYPE
batch_code Transactional = INVALID_RECORD
batch_code Control = INVALID_RECORD
batch_code HasProducer = INVALID_RECORD
batch_code (BadRecord index) = INVALID_RECORD
batch_code BadDeltas = INVALID_RECORD

-- -1, 0 and 1: all replicas, none, or the leader is to acknowledge
abbrev pub is_acks : ℤ → Bool
is_acks acks = int_le (negsuc 0) acks && int_le acks (pos 1)

-- with 0 no reply is wanted
abbrev pub wants_reply : ℤ → Bool
wants_reply acks = not (int_eq acks (pos 0))

-- the code that all partitions of a request have, if there is one: 21 for other acks, and then 42 for a transaction
abbrev pub request_refusal : ℤ → Option (List ℕ) → Option Code
request_refusal acks transaction =
    if is_acks acks then (if is_some transaction then Some INVALID_REQUEST else None) else Some INVALID_REQUIRED_ACKS
