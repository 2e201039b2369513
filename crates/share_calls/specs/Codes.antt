-- The error codes of share requests (Kafka's protocol guide, "Error codes"; ShareFetchResponse.json, ShareAcknowledgeResponse.json).
-- For example acknowledgements of a record that the member doesn't hold have code 121, and such as couldn't be stored 56.
use Rattle.std.specs.Prelude.{is_some, if◌then◌else◌}
use Rattle.std.specs.Prelude.{ℕ, List}
use Rattle.share_model.specs.declared.fault.Code.{Code}
use Rattle.share_model.specs.ErrorCodes.{NONE, UNKNOWN_TOPIC_OR_PARTITION, UNKNOWN_TOPIC_ID}
use Rattle.share_model.specs.ErrorCodes.{INVALID_REQUEST, KAFKA_STORAGE_ERROR, INVALID_RECORD_STATE}
use Rattle.share_model.specs.declared.visit.AckOutcome.{AckOutcome}
use Rattle.share_model.specs.declared.visit.AckOutcome.TheVariants.{Done, Malformed, NotHeld, Store}
use Rattle.share_model.specs.declared.visit.ThenOutcome.{ThenOutcome}
use Rattle.share_model.specs.declared.visit.ThenOutcome.TheVariants.{Done as then_done, Store as then_store}
use Rattle.topic_conf.specs.declared.topic.Topic.{Topic}
use Rattle.share_session.specs.declared.step.Purpose.{Purpose}
use Rattle.share_session.specs.declared.step.Purpose.TheVariants.{Nothing, Release, Fetch}
use Rattle.topic_conf.specs.Topics.{place_by_id}

-- what became of the acknowledgements of a partition
abbrev pub ack_code : AckOutcome → Code
ack_code Done = NONE
ack_code (Malformed fault) = INVALID_REQUEST
ack_code (NotHeld offset) = INVALID_RECORD_STATE
ack_code (Store fault) = KAFKA_STORAGE_ERROR

-- what became of the fetch behind them
abbrev pub then_code : ThenOutcome → Code
then_code then_done = NONE
then_code (then_store fault) = KAFKA_STORAGE_ERROR

-- the error code of a visit; a release that couldn't be stored isn't told by the reply
abbrev pub fetch_code : Purpose → ThenOutcome → Code
fetch_code Nothing outcome = NONE
fetch_code Release outcome = NONE
fetch_code Fetch outcome = then_code outcome

-- a partition that isn't hosted: its topic isn't, or it alone
abbrev pub unhosted_code : List Topic → List ℕ → Code
unhosted_code topics id = if is_some (place_by_id id topics) then UNKNOWN_TOPIC_OR_PARTITION else UNKNOWN_TOPIC_ID
