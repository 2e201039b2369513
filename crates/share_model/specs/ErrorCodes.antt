-- The error codes that a client sees, by the names and numbers of Kafka's list (Apache Kafka documentation, "Protocol", "Error
-- Codes"; 110 stands in KIP-848, those from 121 on in KIP-932). All that is said of a code cites one of these.
-- For example an offset that isn't held is acknowledged with 121, and a topic's name that nobody knows is told with 3.
use Rattle.std.specs.Prelude.{ℕ, pos}
use Rattle.share_model.specs.declared.fault.Code.{Code}

abbrev pub numbered : ℕ → Code
numbered number = record { 0 = pos number }

abbrev pub NONE : Code
NONE = numbered 0

abbrev pub OFFSET_OUT_OF_RANGE : Code
OFFSET_OUT_OF_RANGE = numbered 1

abbrev pub CORRUPT_MESSAGE : Code
CORRUPT_MESSAGE = numbered 2

abbrev pub UNKNOWN_TOPIC_OR_PARTITION : Code
UNKNOWN_TOPIC_OR_PARTITION = numbered 3

abbrev pub MESSAGE_TOO_LARGE : Code
MESSAGE_TOO_LARGE = numbered 10

abbrev pub INVALID_REQUIRED_ACKS : Code
INVALID_REQUIRED_ACKS = numbered 21

abbrev pub INVALID_GROUP_ID : Code
INVALID_GROUP_ID = numbered 24

abbrev pub UNKNOWN_MEMBER_ID : Code
UNKNOWN_MEMBER_ID = numbered 25

abbrev pub UNSUPPORTED_VERSION : Code
UNSUPPORTED_VERSION = numbered 35

abbrev pub INVALID_REQUEST : Code
INVALID_REQUEST = numbered 42

abbrev pub KAFKA_STORAGE_ERROR : Code
KAFKA_STORAGE_ERROR = numbered 56

abbrev pub FENCED_LEADER_EPOCH : Code
FENCED_LEADER_EPOCH = numbered 74

abbrev pub UNSUPPORTED_COMPRESSION_TYPE : Code
UNSUPPORTED_COMPRESSION_TYPE = numbered 76

abbrev pub GROUP_MAX_SIZE_REACHED : Code
GROUP_MAX_SIZE_REACHED = numbered 81

abbrev pub INVALID_RECORD : Code
INVALID_RECORD = numbered 87

abbrev pub UNKNOWN_TOPIC_ID : Code
UNKNOWN_TOPIC_ID = numbered 100

abbrev pub FENCED_MEMBER_EPOCH : Code
FENCED_MEMBER_EPOCH = numbered 110

abbrev pub INVALID_RECORD_STATE : Code
INVALID_RECORD_STATE = numbered 121

abbrev pub SHARE_SESSION_NOT_FOUND : Code
SHARE_SESSION_NOT_FOUND = numbered 122

abbrev pub INVALID_SHARE_SESSION_EPOCH : Code
INVALID_SHARE_SESSION_EPOCH = numbered 123

abbrev pub FENCED_STATE_EPOCH : Code
FENCED_STATE_EPOCH = numbered 124

abbrev pub SHARE_SESSION_LIMIT_REACHED : Code
SHARE_SESSION_LIMIT_REACHED = numbered 133
