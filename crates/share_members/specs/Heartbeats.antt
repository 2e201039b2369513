-- What a ShareGroupHeartbeat does to a group, and what it is told (KIP-932, ShareGroupHeartbeat; the bounds on ids, the limit of
-- 200 members, the interval of 5000 ms and the session timeout are this project's own).
--
-- Worked example over a topic of three partitions: `a` joins: epoch 1, partitions 0, 1, 2. `b` joins: epoch 2, partition 1. `a` with
-- epoch 1: epoch 2, partitions 0, 2. `a` with epoch 2: epoch 2, null. `a` with epoch 1: epoch 2, partitions 0, 2. `a` with epoch 3: 110.
-- `c` with epoch 2: 25. `a` with epoch -1: epoch -1. `b` with epoch 2: epoch 3, partitions 0, 1, 2.
use Rattle.std.specs.Prelude.{ℕ, ℤ, pos, negsuc, ◌+◌, Bool, not, ◌&&◌, ◌||◌, nat_eq, nat_le, int_lt, max, List, [], ◌∷◌, length, Option, Some, None, is_some, if◌then◌else◌}
use Rattle.std.specs.Option.{unwrap_or}
use Rattle.std.specs.Ordering.{int_eq}
use Rattle.std.specs.Str.{bytes_eq}
use Rattle.std.specs.List.{list_any}
use Rattle.std.specs.Cmp.Lexicographic.{pointwise}
use Rattle.share_model.specs.declared.fault.Code.{Code}
use Rattle.share_model.specs.ErrorCodes.{NONE, INVALID_REQUEST, UNKNOWN_MEMBER_ID, GROUP_MAX_SIZE_REACHED, FENCED_MEMBER_EPOCH}
use Rattle.topic_conf.specs.declared.topic.Topic.{Topic}
use Rattle.msgs_group.specs.declared.heartbeat_request.HeartbeatRequest.{HeartbeatRequest}
use Rattle.msgs_group.specs.declared.heartbeat_reply.HeartbeatReply.{HeartbeatReply}
use Rattle.msgs_group.specs.declared.heartbeat_reply.Assignment.{Assignment}
use Rattle.share_members.specs.declared.member.Member.{Member}
use Rattle.share_members.specs.Groups.{GroupParts, Groups, Memberships, member_at, with_member, without_member, group_at, with_group, next_epoch}
use Rattle.share_members.specs.Assignments.{assignment}

-- the epochs by which a member joins and leaves
abbrev pub joining : ℤ
joining = pos 0

abbrev pub leaving : ℤ
leaving = negsuc 0

abbrev pub most_members : ℕ
most_members = 200

-- in milliseconds
abbrev pub heartbeat_interval : ℤ
heartbeat_interval = pos 5000

-- ---- refusals, the first of which that applies is told

-- the id of a group or of a member
abbrev pub is_id : List ℕ → Bool
is_id id = nat_le 1 (length id) && nat_le (length id) 255

-- an epoch below -1, and a join that names no topics
abbrev pub has_invalid_epoch : HeartbeatRequest → Bool
has_invalid_epoch request = int_lt request.member_epoch leaving
    || (int_eq request.member_epoch joining && not (is_some request.subscribed_topic_names))

abbrev pub is_invalid : HeartbeatRequest → Bool
is_invalid request = not (is_id request.group_id) || not (is_id request.member_id) || has_invalid_epoch request

-- an epoch that the member isn't in: one above its own, or one below that isn't the one before
abbrev pub is_fenced : ℤ → Member → Bool
is_fenced epoch member = int_lt member.epoch epoch
    || (int_lt joining epoch && int_lt epoch member.epoch && not (int_eq epoch member.previous_epoch))

-- of a request that is valid: by its epoch, the member, and how many there are
abbrev pub member_refusal : ℤ → Option Member → ℕ → Option Code
member_refusal epoch None members =
    if not (int_eq epoch joining) then Some UNKNOWN_MEMBER_ID else if nat_le most_members members then Some GROUP_MAX_SIZE_REACHED else None
member_refusal epoch (Some member) members = if is_fenced epoch member then Some FENCED_MEMBER_EPOCH else None

abbrev pub refusal : HeartbeatRequest → GroupParts → Option Code
refusal request group = if is_invalid request then Some INVALID_REQUEST
    else member_refusal request.member_epoch (member_at request.member_id group.members) (length group.members)

-- ---- replies

abbrev pub refused : Code → HeartbeatReply
refused code = record {
  throttle_time_ms = pos 0;
  error_code = code.0;
  error_message = None;
  member_id = None;
  member_epoch = pos 0;
  heartbeat_interval_ms = pos 0;
  assignment = None;
}

abbrev pub accepted : List ℕ → ℤ → ℤ → Option Assignment → HeartbeatReply
accepted id epoch interval assigned = record {
  throttle_time_ms = pos 0;
  error_code = NONE.0;
  error_message = None;
  member_id = Some id;
  member_epoch = epoch;
  heartbeat_interval_ms = interval;
  assignment = assigned;
}

-- what an accepted heartbeat is told, and the group after it
pub record Told : Type 0 where
  pub reply : HeartbeatReply
  pub group : GroupParts

-- ---- leaving

abbrev pub left : List ℕ → GroupParts → GroupParts
left id group = record { epoch = next_epoch group.epoch; members = without_member id group.members }

abbrev pub leaves : HeartbeatRequest → GroupParts → Told
leaves request group = record { reply = accepted request.member_id leaving (pos 0) None; group = left request.member_id group }

-- ---- joining, starting again and staying

-- the places, from this one on, of the hosted topics that are named; other names are passed over
abbrev pub places_named : List (List ℕ) → ℕ → List Topic → List ℕ
places_named names place [] = []
places_named names place (topic ∷ topics) =
    if list_any (λ name. bytes_eq name topic.name) names then place ∷ places_named names (place + 1) topics
    else places_named names (place + 1) topics

-- The subscription that changes the group: that of a new member, and one that isn't the member's. Without names it stays; a join
-- without names is refused before.
abbrev pub new_subscription : List Topic → Option (List (List ℕ)) → Option Member → Option (List ℕ)
new_subscription topics None None = Some []
new_subscription topics None (Some member) = None
new_subscription topics (Some names) None = Some (places_named names 0 topics)
new_subscription topics (Some names) (Some member) =
    if pointwise nat_eq (places_named names 0 topics) member.topics then None else Some (places_named names 0 topics)

-- a member that isn't there is in no epoch, and subscribes to nothing
abbrev pub no_member : Member
no_member = record { epoch = pos 0; previous_epoch = pos 0; topics = []; heartbeat = 0 }

-- the group's epoch rises with each change
abbrev pub epoch_after : Option (List ℕ) → ℤ → ℤ
epoch_after None epoch = epoch
epoch_after (Some topics) epoch = next_epoch epoch

-- the member as an accepted heartbeat leaves it in a group of this epoch; where that isn't its own, its own becomes the one before
abbrev pub member_after : ℤ → Option (List ℕ) → ℕ → Member → Member
member_after epoch topics moment member = record {
  epoch = epoch;
  previous_epoch = if int_eq member.epoch epoch then member.previous_epoch else member.epoch;
  topics = unwrap_or topics member.topics;
  heartbeat = moment;
}

-- whether its assignment is told: it has changed its epoch, has joined or started again, or doesn't know its epoch
abbrev pub tells_assignment : (asked before now : ℤ) → Bool
tells_assignment asked before now = not (int_eq before now) || int_eq asked joining || not (int_eq asked now)

abbrev pub stays_in : List Topic → ℕ → HeartbeatRequest → GroupParts → Member → Option (List ℕ) → Told
stays_in topics moment request group member change =
    let epoch = epoch_after change group.epoch in
    let after = member_after epoch change moment member in
    let members = with_member request.member_id after group.members in
    record {
      reply = accepted request.member_id epoch heartbeat_interval
          (if tells_assignment request.member_epoch member.epoch epoch
          then Some (assignment topics members request.member_id after.topics) else None);
      group = record { epoch = epoch; members = members };
    }

-- of a heartbeat that is accepted and is no leave: the member is in the group after it
unfoldable pub stays : List Topic → ℕ → HeartbeatRequest → GroupParts → Told
stays topics moment request group =
    let member = member_at request.member_id group.members in
    stays_in topics moment request group (unwrap_or member no_member) (new_subscription topics request.subscribed_topic_names member)

-- ---- the step

-- of a heartbeat that is accepted
abbrev pub does : List Topic → ℕ → HeartbeatRequest → GroupParts → Told
does topics moment request group = if int_eq request.member_epoch leaving then leaves request group else stays topics moment request group

-- what a heartbeat is told, and the groups after it
pub record Outcome : Type 0 where
  pub reply : HeartbeatReply
  pub groups : Groups

-- one that is refused changes no group
abbrev pub outcome : Option Code → List ℕ → Told → Groups → Outcome
outcome (Some code) id told groups = record { reply = refused code; groups = groups }
outcome None id told groups = record { reply = told.reply; groups = with_group id told.group groups }

abbrev pub heartbeat_in : List Topic → ℕ → HeartbeatRequest → Groups → Outcome
heartbeat_in topics moment request groups =
    let group = group_at request.group_id groups in
    outcome (refusal request group) request.group_id (does topics moment request group) groups

pub record Step : Type 0 where
  pub reply : HeartbeatReply
  pub after : Memberships

-- every heartbeat raises the clock, also one that is refused; its moment is the clock after that
abbrev pub heartbeat_step : ℕ → HeartbeatRequest → Memberships → Step
heartbeat_step now request old =
    let moment = max old.clock now in
    let done = heartbeat_in old.topics moment request old.groups in
    record { reply = done.reply; after = record { topics = old.topics; clock = moment; groups = done.groups } }
