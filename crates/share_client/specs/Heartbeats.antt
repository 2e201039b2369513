-- The heartbeats of a member (KIP-932, ShareGroupHeartbeat of version 1): when one is due, what it says, and what its reply says.
-- For example a member that joins at moment 7 and is told the interval 5000 has its next heartbeat due at 5007.
use Rattle.std.specs.Prelude.{◌≡◌, ◌+◌, ◌^◌, ℕ, ℤ, pos, negsuc, Bool, true, false, not, ◌&&◌, ◌||◌, List, [], ◌∷◌, ◌++◌, Option, Some, None, Result, Ok, Err, if◌then◌else◌}
use Rattle.std.specs.Ordering.{int_eq}
use Rattle.std.specs.Option.{option_flatten, option_map_or, unwrap_or}
use Rattle.msgs_group.specs.declared.heartbeat_reply.Assignment.{Assignment}
use Rattle.msgs_group.specs.declared.heartbeat_reply.HeartbeatReply.{HeartbeatReply}
use Rattle.msgs_group.specs.declared.heartbeat_request.HeartbeatRequest.{HeartbeatRequest}
use Rattle.msgs_group.specs.HeartbeatReply.{heartbeat_reply}
use Rattle.msgs_group.specs.HeartbeatRequest.{heartbeat_request}
use Rattle.req_head.specs.Heads.{HeadParts, request_head}
use Rattle.rec_batch.specs.Batches.{at_least_zero}
use Rattle.share_model.specs.ErrorCodes.{UNKNOWN_MEMBER_ID, FENCED_MEMBER_EPOCH}
use Rattle.share_client.specs.declared.conf.ClientConf.{ClientConf}
use Rattle.share_client.specs.declared.step.ClientStep.TheVariants.{Heartbeat, Fetch, Write, Wait, Done}
use Rattle.share_client.specs.declared.step.LinkKind.TheVariants.{Group, Data}
use Rattle.share_client.specs.declared.step.Took.TheVariants.{Taken, Stray}
use Rattle.share_client.specs.declared.fault.ClientFault.{ClientFault}
use Rattle.share_client.specs.declared.fault.ClientFault.TheVariants.{Refused}
use Rattle.share_client.specs.Frames.{framed, reply_in, said}
use Rattle.share_client.specs.Traces.{Call, Trace, newest}
use Rattle.share_client.specs.Traces.Call.{Asked, Got, Lost, Wrote}

-- the topic's name where the member joins, and else null
abbrev pub topics_for : List ℕ → ℤ → Option (List (List ℕ))
topics_for topic epoch = if int_eq epoch (pos 0) then Some (topic ∷ []) else None

abbrev pub heartbeat : ClientConf → ℤ → HeartbeatRequest
heartbeat conf epoch = record {
  group_id = conf.group;
  member_id = conf.member;
  member_epoch = epoch;
  rack_id = None;
  subscribed_topic_names = topics_for conf.topic epoch;
}

abbrev pub heartbeat_head : ℤ → HeadParts
heartbeat_head number = record { key = pos 76; version = pos 1; correlation = number; client = None }

-- the frame of the heartbeat with this correlation id and this epoch
abbrev pub heartbeat_frame : ClientConf → ℤ → ℤ → List ℕ
heartbeat_frame conf number epoch = framed (request_head.bytes (heartbeat_head number) ++ heartbeat_request.bytes (heartbeat conf epoch))

-- with these codes the member is to join anew
abbrev pub rejoins : ℤ → Bool
rejoins code = int_eq code UNKNOWN_MEMBER_ID.0 || int_eq code FENCED_MEMBER_EPOCH.0

-- the member's epoch behind a reply with this code and this epoch
abbrev pub epoch_of : ℤ → ℤ → ℤ
epoch_of code epoch = if rejoins code then pos 0 else epoch

-- a code that ends a member
abbrev pub is_refusal : ℤ → Bool
is_refusal code = not (int_eq code (pos 0)) && not (rejoins code)

-- a reply, or its code where that ends the member
abbrev pub unless_refused : Result HeartbeatReply ClientFault → Result HeartbeatReply ClientFault
unless_refused (Ok reply) = if is_refusal reply.error_code then Err (Refused reply.error_code) else Ok reply
unless_refused (Err fault) = Err fault

-- what is heard by a frame that is the reply to a heartbeat
abbrev pub heard : List ℕ → Result HeartbeatReply ClientFault
heard frame = unless_refused (said (reply_in heartbeat_reply frame))

-- The moment of the request that awaits its reply, where one does: none does behind a taken reply or behind a loss.
abbrev pub awaited_by : Call → Trace → Option (Option ℕ)
awaited_by (Asked now (Ok (Heartbeat frame))) before = Some (Some now)
awaited_by (Got Group frame (Ok Taken)) before = Some None
awaited_by (Lost Group) before = Some None
awaited_by call before = None

abbrev pub awaited : Trace → Option ℕ
awaited trace = option_flatten (newest awaited_by trace)

abbrev pub interval_in : Result HeartbeatReply ClientFault → ℕ
interval_in (Err fault) = 0
interval_in (Ok reply) = at_least_zero reply.heartbeat_interval_ms

-- Behind a loss a heartbeat is due at once, and behind a taken reply when its interval has passed since the moment of its request.
abbrev pub due_by : Call → Trace → Option ℕ
due_by (Got Group frame (Ok Taken)) before = Some (unwrap_or (awaited before) 0 + interval_in (heard frame))
due_by (Lost Group) before = Some 0
due_by call before = None

-- the moment from which on a heartbeat is due, which at first is any
abbrev pub due_from : Trace → ℕ
due_from trace = unwrap_or (newest due_by trace) 0

abbrev pub epoch_in : Result HeartbeatReply ClientFault → ℤ
epoch_in (Err fault) = pos 0
epoch_in (Ok reply) = epoch_of reply.error_code reply.member_epoch

abbrev pub epoch_by : Call → Trace → Option ℤ
epoch_by (Got Group frame (Ok Taken)) before = Some (epoch_in (heard frame))
epoch_by call before = None

-- the member's epoch: 0 at first, and else what the last reply says
abbrev pub member_epoch : Trace → ℤ
member_epoch trace = unwrap_or (newest epoch_by trace) (pos 0)

abbrev pub assignment_in : Result HeartbeatReply ClientFault → Option Assignment
assignment_in (Err fault) = None
assignment_in (Ok reply) = reply.assignment

abbrev pub assigned_by : Call → Trace → Option Assignment
assigned_by (Got Group frame (Ok Taken)) before = assignment_in (heard frame)
assigned_by call before = None

-- what the member is to read, by the last reply that says it
abbrev pub assigned : Trace → Option Assignment
assigned trace = newest assigned_by trace

-- until when to wait: the moment at which a heartbeat is due, and without end where one awaits its reply
abbrev pub waits_until : Trace → ℕ
waits_until trace = option_map_or (λ now. 2 ^ 62) (awaited trace) (due_from trace)
