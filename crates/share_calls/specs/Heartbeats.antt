-- ShareGroupHeartbeat in hand (KIP-932, ShareGroupHeartbeatRequest.json and ShareGroupHeartbeatResponse.json of version 1): the members
-- of the groups are asked, and their answer is the reply.
-- For example a heartbeat of the member `a` of the group `g` asks just that heartbeat, and its reply is the body of what was answered.
use Rattle.std.specs.Prelude.{◌≡◌, ℕ, List, [], ◌∷◌, Option, Some, None}
use Rattle.msgs_group.specs.declared.heartbeat_request.HeartbeatRequest.{HeartbeatRequest}
use Rattle.msgs_group.specs.declared.heartbeat_reply.HeartbeatReply.{HeartbeatReply}
use Rattle.msgs_group.specs.HeartbeatReply.{heartbeat_reply}
use Rattle.call_fold.specs.declared.part.Part.TheVariants.{Heartbeat}
use Rattle.call_fold.specs.Parts.{heartbeat_answer}
use Rattle.call_fold.specs.declared.call.Entry.TheVariants.{Ask}
use Rattle.call_fold.specs.declared.call.Stage.{Stage}
use Rattle.call_fold.specs.Calls.{Acts, AskingParts}
use Rattle.call_fold.specs.Going.{stage_of}
use Rattle.call_fold.specs.Talks.{Talk, says, asks, talk_of, stage_talk}
use Rattle.share_calls.specs.declared.heartbeat.HeartbeatHand.{HeartbeatHand}

-- the one row is the reply
abbrev pub heartbeat_body : List HeartbeatReply → Option (List ℕ)
heartbeat_body [] = None
heartbeat_body (reply ∷ rows) = Some (heartbeat_reply.bytes reply)

abbrev pub heartbeat_acts : Acts HeartbeatHand HeartbeatRequest HeartbeatReply
heartbeat_acts = record {
  part = λ hand q. Heartbeat q;
  row = λ hand q answer. heartbeat_answer answer;
  next = λ hand q answer. hand;
  body = λ hand rows. heartbeat_body rows;
}

abbrev pub heartbeat_stage : HeartbeatRequest → Stage (AskingParts HeartbeatHand HeartbeatRequest HeartbeatReply)
heartbeat_stage request = stage_of heartbeat_acts (record {}) (Ask request ∷ []) []

-- ---- the law

-- it asks its own heartbeat, and says what was answered
abbrev pub heartbeat_talk : HeartbeatRequest → Talk
heartbeat_talk request = asks (Heartbeat request) (λ answer. says (Some (heartbeat_reply.bytes (heartbeat_answer answer))))

abbrev pub TellsItsHeartbeat : Type 0
TellsItsHeartbeat = (request : HeartbeatRequest) → stage_talk (talk_of heartbeat_acts) (heartbeat_stage request) ≡ heartbeat_talk request
