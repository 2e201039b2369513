-- Why a share request is refused as a whole (KIP-932, error handling of ShareFetch and ShareAcknowledge; the limit of 100 sessions
-- and the bound of 255 bytes are this project's own). The first row that applies counts.
-- For example a request of epoch 2 where the next epoch is 1 is refused with BadEpoch, 123; where there is no session, with
-- NotFound, 122.
use Rattle.std.specs.Prelude.{◌≡◌, ℕ, ℤ, pos, negsuc, nat_le, int_lt, Bool, false, ◌&&◌, ◌||◌, not, if◌then◌else◌}
use Rattle.std.specs.Prelude.{List, [], ◌∷◌, length, Option, is_none, Some, None}
use Rattle.std.specs.Option.{option_map_or}
use Rattle.std.specs.Ordering.{int_eq}
use Rattle.share_model.specs.declared.fault.Code.{Code}
use Rattle.share_model.specs.ErrorCodes.{INVALID_GROUP_ID, INVALID_REQUEST, INVALID_SHARE_SESSION_EPOCH}
use Rattle.share_model.specs.ErrorCodes.{SHARE_SESSION_LIMIT_REACHED, SHARE_SESSION_NOT_FOUND}
use Rattle.msgs_share.specs.declared.share_topic.SharePartition.{SharePartition}
use Rattle.msgs_share.specs.declared.share_topic.ShareTopic.{ShareTopic}
use Rattle.share_session.specs.declared.fault.SessionFault.{SessionFault}
use Rattle.share_session.specs.declared.fault.SessionFault.TheVariants.{BadGroup, BadMember, BadEpoch, Invalid, Limit, NotFound, NoMemory}
use Rattle.share_session.specs.declared.session.Session.{Session}
use Rattle.share_session.specs.SessionParts.{most_sessions}
use Rattle.share_session.specs.Sessions.{session_of}
use Rattle.share_session.specs.Requests.{is_name, entries, has_repeat, has_batches}

-- epoch 0 opens a session, and -1 closes it
abbrev pub opens : ℤ → Bool
opens epoch = int_eq epoch (pos 0)

abbrev pub closes : ℤ → Bool
closes epoch = int_eq epoch (negsuc 0)

-- the fault of the first row that applies
abbrev pub first_row : List (Bool × SessionFault) → Option SessionFault
first_row [] = None
first_row (row ∷ rows) = if row.0 then Some row.1 else first_row rows

abbrev pub is_next : ℤ → Option Session → Bool
is_next epoch session = option_map_or (λ s. int_eq epoch s.epoch) session false

-- how the epoch stands to the member's session, where `count` sessions are there
abbrev pub standing_rows : Option Session → ℕ → ℤ → List (Bool × SessionFault)
standing_rows session count epoch =
    (is_none session && opens epoch && nat_le most_sessions count, Limit)
    ∷ (is_none session && not (opens epoch), NotFound)
    ∷ (int_lt (pos 0) epoch && not (is_next epoch session), BadEpoch)
    ∷ []

-- `may_open` says whether epoch 0 is allowed
abbrev pub request_rows : Bool → ℤ → List (ShareTopic SharePartition) → Option Session → ℕ → List (Bool × SessionFault)
request_rows may_open epoch topics session count =
    (int_lt epoch (negsuc 0) || (opens epoch && not may_open), BadEpoch)
    ∷ (has_repeat (entries topics) || (opens epoch && has_batches topics), Invalid)
    ∷ standing_rows session count epoch

-- why a request is refused, where it is
abbrev pub refusal : Bool → List Session → List ℕ → List ℕ → ℤ → List (ShareTopic SharePartition) → Option SessionFault
refusal may_open sessions group member epoch topics = first_row (
    (not (is_name group), BadGroup)
    ∷ (not (is_name member), BadMember)
    ∷ request_rows may_open epoch topics (session_of group member sessions) (length sessions))

-- the fault is that refusal; want of memory may come at any time
abbrev pub IsRefusedBy : Option SessionFault → SessionFault → Type 0
IsRefusedBy why NoMemory = Unit {0}
IsRefusedBy why fault = why ≡ Some fault

-- the error code of a reply, where there is memory for one
abbrev pub code_of : SessionFault → Option Code
code_of BadGroup = Some INVALID_GROUP_ID
code_of BadMember = Some INVALID_REQUEST
code_of BadEpoch = Some INVALID_SHARE_SESSION_EPOCH
code_of Invalid = Some INVALID_REQUEST
code_of Limit = Some SHARE_SESSION_LIMIT_REACHED
code_of NotFound = Some SHARE_SESSION_NOT_FOUND
code_of NoMemory = None
