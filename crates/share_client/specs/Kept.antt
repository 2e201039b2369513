-- What the consumer keeps of its data link, by the calls of a trace, and when it leaves its group. This project's own.
-- For example behind a first fetch and its reply, which grants records, there are lines to write, and no heartbeat leaves yet.
use Rattle.std.specs.Prelude.{ℕ, ℤ, negsuc, Bool, true, false, ◌&&◌, ◌||◌, List, [], ◌∷◌, Option, Some, None, is_none, is_some, Result, Ok, Err, nat_le, ◌==◌, if◌then◌else◌}
use Rattle.std.specs.Option.{unwrap_or}
use Rattle.msgs_group.specs.declared.heartbeat_reply.Assignment.{Assignment}
use Rattle.share_client.specs.declared.conf.ClientConf.{ClientConf}
use Rattle.share_client.specs.declared.data_link.DataLink.{DataLink}
use Rattle.share_client.specs.declared.step.ClientStep.TheVariants.{Heartbeat, Fetch, Write, Wait, Done}
use Rattle.share_client.specs.declared.step.LinkKind.TheVariants.{Group, Data}
use Rattle.share_client.specs.declared.step.Took.TheVariants.{Taken, Stray}
use Rattle.share_client.specs.DataLinks.{behind_loss, behind_reply, behind_request, behind_written, is_served, new_data}
use Rattle.share_client.specs.Heartbeats.{assigned, awaited, due_from, member_epoch}
use Rattle.share_client.specs.Traces.{Call, Trace, is_over, newest}
use Rattle.share_client.specs.Traces.Call.{Asked, Got, Lost, Wrote}

-- what a call leaves of what was kept before it
abbrev pub kept_by : Call → Option Assignment → DataLink → DataLink
kept_by (Asked now (Ok (Fetch frame))) assigned d = behind_request d assigned
kept_by (Got Data frame (Ok Taken)) assigned d = behind_reply d d.asked frame
kept_by (Lost Data) assigned d = behind_loss d
kept_by Wrote assigned d = behind_written d
kept_by call assigned d = d

abbrev pub kept : ClientConf → Trace → DataLink
kept conf [] = new_data conf.count
kept conf (call ∷ before) = kept_by call (assigned before) (kept conf before)

-- there are lines to write
abbrev pub is_pending : ClientConf → Trace → Bool
is_pending conf trace = is_some (kept conf trace).lines

-- the reply to the last request on the data link was taken
abbrev pub is_leaving : ClientConf → Trace → Bool
is_leaving conf trace = (kept conf trace).left

abbrev pub parting_by : ClientConf → Call → Trace → Option Bool
parting_by conf (Asked now (Ok (Heartbeat frame))) before = Some (is_leaving conf before)
parting_by conf call before = None

-- the last heartbeat leaves the group
abbrev pub is_parting : ClientConf → Trace → Bool
is_parting conf trace = unwrap_or (newest (parting_by conf) trace) false

-- the reply to a heartbeat was taken: it ends the consumer where the heartbeat left the group
abbrev pub ends_by : Call → Bool → Bool
ends_by (Got Group frame (Ok Taken)) parting = parting
ends_by call parting = false

abbrev pub has_left : ClientConf → Trace → Bool
has_left conf [] = false
has_left conf (call ∷ before) = ends_by call (is_parting conf before) || has_left conf before

-- there was a fault, or the consumer has left its group
abbrev pub is_done : ClientConf → Trace → Bool
is_done conf trace = is_over trace || has_left conf trace

-- A heartbeat is due, and none awaits its reply. One that leaves the group is due at once.
abbrev pub is_due : ClientConf → Trace → ℕ → Bool
is_due conf trace now = is_none (awaited trace) && (is_leaving conf trace || nat_le (due_from trace) now)

-- the epoch of the next heartbeat: the member's, or -1 to leave the group
abbrev pub beat_epoch : Bool → ℤ → ℤ
beat_epoch leaving epoch = if leaving then negsuc 0 else epoch

-- All records are written, and the data link was lost behind the reply with the last of them, before that of the last request.
abbrev pub unacknowledged : ClientConf → Trace → Bool
unacknowledged conf trace = is_served (kept conf trace) && (kept conf trace).cut
