-- The codes of a store's refusals, as Kafka's protocol numbers them.
-- For example a fenced state epoch is told as 124, and a record that wasn't stored as 56.
use Rattle.std.specs.Prelude.{◌≡◌, Result, Ok, Err, IsErr}
use Rattle.flex_fields.specs.declared.fault.NoMemory.{NoMemory as want}
use Rattle.share_coord.specs.declared.fault.CoordFault.{CoordFault}
use Rattle.share_coord.specs.declared.fault.CoordFault.TheVariants.{Invalid, Unknown, FencedLeader, FencedState, TooMany, Store, NoMemory}
use Rattle.share_model.specs.ForeignRules.{code_alone}
use Rattle.share_model.specs.ErrorCodes.{NONE, INVALID_REQUEST, UNKNOWN_TOPIC_OR_PARTITION, FENCED_LEADER_EPOCH, FENCED_STATE_EPOCH, KAFKA_STORAGE_ERROR}
use Rattle.share_model.specs.declared.fault.Code.{Code}
use Rattle.share_model.specs.declared.foreign.ForeignAnswer.{ForeignAnswer}

-- want of memory has no code, and is no answer
abbrev pub code_in : CoordFault → Code
code_in Invalid = INVALID_REQUEST
code_in Unknown = UNKNOWN_TOPIC_OR_PARTITION
code_in (FencedLeader known) = FENCED_LEADER_EPOCH
code_in (FencedState known) = FENCED_STATE_EPOCH
code_in (TooMany runs) = INVALID_REQUEST
code_in (Store fault) = KAFKA_STORAGE_ERROR
code_in NoMemory = NONE

abbrev pub TellsFault : CoordFault → Result ForeignAnswer want → Type 0
TellsFault Invalid result = result ≡ Ok (code_alone INVALID_REQUEST)
TellsFault Unknown result = result ≡ Ok (code_alone UNKNOWN_TOPIC_OR_PARTITION)
TellsFault (FencedLeader known) result = result ≡ Ok (code_alone FENCED_LEADER_EPOCH)
TellsFault (FencedState known) result = result ≡ Ok (code_alone FENCED_STATE_EPOCH)
TellsFault (TooMany runs) result = result ≡ Ok (code_alone INVALID_REQUEST)
TellsFault (Store fault) result = result ≡ Ok (code_alone KAFKA_STORAGE_ERROR)
TellsFault NoMemory result = IsErr result

-- what a call is answered that the store has done or refused
abbrev pub Tells : {T : Type 0} → Result T CoordFault → Result ForeignAnswer want → Type 0
Tells (Ok done) result = result ≡ Ok (code_alone NONE)
Tells (Err fault) result = TellsFault fault result
