-- The data link of a consumer (KIP-932, ShareFetch and ShareAcknowledge of version 1): what it keeps, and what becomes of that by what is
-- sent, taken, written and lost.
-- For example behind the reply to its first fetch, which grants three records, a consumer has three lines to write, and its next request
-- has the epoch 1 and acknowledges three offsets.
use Rattle.std.specs.Prelude.{◌≡◌, ◌+◌, ◌-◌, ℕ, ℤ, pos, negsuc, Bool, true, false, not, ◌&&◌, ◌||◌, List, [], ◌∷◌, ◌++◌, length, map, Option, Some, None, is_none, is_some, Result, Ok, Err, nat_lt, ◌==◌, if◌then◌else◌}
use Rattle.std.specs.Option.{option_map_or, unwrap_or}
use Rattle.msgs_group.specs.declared.heartbeat_reply.AssignedTopic.{AssignedTopic}
use Rattle.msgs_group.specs.declared.heartbeat_reply.Assignment.{Assignment}
use Rattle.msgs_share.specs.declared.share_ack_reply.ShareAckReply.{ShareAckReply}
use Rattle.msgs_share.specs.declared.share_ack_request.ShareAckRequest.{ShareAckRequest}
use Rattle.msgs_share.specs.declared.share_fetch_request.ShareFetchRequest.{ShareFetchRequest}
use Rattle.msgs_share.specs.declared.share_topic.SharePartition.{SharePartition}
use Rattle.msgs_share.specs.declared.share_topic.ShareTopic.{ShareTopic}
use Rattle.msgs_share.specs.ShareAckReply.{share_ack_reply}
use Rattle.msgs_share.specs.ShareAckRequest.{share_ack_request}
use Rattle.msgs_share.specs.ShareFetchRequest.{share_fetch_request}
use Rattle.req_head.specs.Heads.{HeadParts, request_head}
use Rattle.share_session.specs.Sessions.{next_epoch}
use Rattle.share_client.specs.declared.conf.ClientConf.{ClientConf}
use Rattle.share_client.specs.declared.data_link.DataAsk.{DataAsk}
use Rattle.share_client.specs.declared.data_link.DataAsk.TheVariants.{Fetching, Leaving}
use Rattle.share_client.specs.declared.data_link.DataLink.{DataLink}
use Rattle.share_client.specs.declared.data_link.Lines.{Lines}
use Rattle.share_client.specs.declared.data_link.OpenSession.{OpenSession}
use Rattle.share_client.specs.declared.fault.ClientFault.{ClientFault}
use Rattle.share_client.specs.declared.fault.ClientFault.TheVariants.{Refused, Strange, NoMemory}
use Rattle.share_client.specs.declared.fetched.LocatedFetch.{LocatedFetch}
use Rattle.share_client.specs.declared.step.Took.{Took}
use Rattle.share_client.specs.declared.step.Took.TheVariants.{Taken, Stray}
use Rattle.share_client.specs.Deliveries.{Delivery, acknowledgements, deliveries, lines}
use Rattle.share_client.specs.Fetches.{HearsFetch, ends_consumer, located_in, starts_anew}
use Rattle.share_client.specs.Frames.{IsAnswer, framed, has_correlation, reply_in, said}
use Rattle.share_client.specs.Partitions.{forgotten_topic, fresh_topic, outside, topics_in}

-- nothing was sent, and so many records are wanted
abbrev pub new_data : ℕ → DataLink
new_data count = record {
  number = pos 0;
  asked = None;
  session = None;
  wanted = count;
  lines = None;
  topics = None;
  closed = false;
  left = false;
  cut = false;
}

-- ---- requests

-- The epoch of a new session is 0, and else it is the one behind the last request's.
abbrev pub session_epoch : DataLink → ℤ
session_epoch d = option_map_or (λ s. next_epoch s.epoch) d.session (pos 0)

-- the partitions that the session has
abbrev pub session_topics : DataLink → List AssignedTopic
session_topics d = option_map_or (λ s. s.told) d.session []

-- what is to be acknowledged
abbrev pub acknowledged : DataLink → List (ShareTopic SharePartition)
acknowledged d = unwrap_or d.topics []

-- as many records as are still wanted, and 500 at most
abbrev pub most_records : DataLink → ℕ
most_records d = if nat_lt d.wanted 500 then d.wanted else 500

-- What is asked for: more records, what was granted is acknowledged, the session gains the partitions that it hasn't, and forgets those
-- that are not assigned any more.
abbrev pub fetch_request : ClientConf → DataLink → List AssignedTopic → ShareFetchRequest
fetch_request conf d assigned = record {
  group_id = Some conf.group;
  member_id = Some conf.member;
  share_session_epoch = session_epoch d;
  max_wait_ms = pos 500;
  min_bytes = pos 1;
  max_bytes = pos 1048576;
  max_records = pos (most_records d);
  batch_size = pos 500;
  topics = acknowledged d ++ map fresh_topic (outside assigned (session_topics d));
  forgotten_topics_data = map forgotten_topic (outside (session_topics d) assigned);
}

-- the request with other topics
abbrev pub with_topics : List (ShareTopic SharePartition) → ShareFetchRequest → ShareFetchRequest
with_topics topics r = record {
  group_id = r.group_id;
  member_id = r.member_id;
  share_session_epoch = r.share_session_epoch;
  max_wait_ms = r.max_wait_ms;
  min_bytes = r.min_bytes;
  max_bytes = r.max_bytes;
  max_records = r.max_records;
  batch_size = r.batch_size;
  topics = topics;
  forgotten_topics_data = r.forgotten_topics_data;
}

-- the last request: what was granted is acknowledged, and the session ends
abbrev pub last_request : ClientConf → DataLink → ShareAckRequest
last_request conf d = record { group_id = Some conf.group; member_id = Some conf.member; share_session_epoch = negsuc 0; topics = acknowledged d }

-- the request with other topics
abbrev pub with_acknowledged : List (ShareTopic SharePartition) → ShareAckRequest → ShareAckRequest
with_acknowledged topics r = record { group_id = r.group_id; member_id = r.member_id; share_session_epoch = r.share_session_epoch; topics = topics }

abbrev pub data_head : ℤ → ℤ → HeadParts
data_head key number = record { key = key; version = pos 1; correlation = number; client = None }

abbrev pub fetch_frame : ClientConf → DataLink → List AssignedTopic → List ℕ
fetch_frame conf d assigned = framed (request_head.bytes (data_head (pos 78) (next_epoch d.number)) ++ share_fetch_request.bytes (fetch_request conf d assigned))

abbrev pub last_frame : ClientConf → DataLink → List ℕ
last_frame conf d = framed (request_head.bytes (data_head (pos 79) (next_epoch d.number)) ++ share_ack_request.bytes (last_request conf d))

abbrev pub is_served : DataLink → Bool
is_served d = d.wanted == 0

-- the frame of the next request: where all records are written, it is the last one
abbrev pub data_frame : ClientConf → DataLink → Option Assignment → List ℕ
data_frame conf d assigned = if is_served d then last_frame conf d else fetch_frame conf d (topics_in assigned)

-- A request is sent where none awaits its reply, up to the last one: a fetch where there is an assignment, and the last one on a
-- session that stands.
abbrev pub sends : DataLink → Option Assignment → Bool
sends d assigned = is_none d.asked && (not d.closed && (if is_served d then is_some d.session else is_some assigned))

abbrev pub behind_fetch : DataLink → List AssignedTopic → DataLink
behind_fetch d assigned = record {
  number = next_epoch d.number;
  asked = Some (Fetching (most_records d));
  session = Some (record { epoch = session_epoch d; told = assigned });
  wanted = d.wanted;
  lines = d.lines;
  topics = None;
  closed = d.closed;
  left = d.left;
  cut = d.cut;
}

abbrev pub behind_last : DataLink → DataLink
behind_last d = record {
  number = next_epoch d.number;
  asked = Some Leaving;
  session = d.session;
  wanted = d.wanted;
  lines = d.lines;
  topics = None;
  closed = true;
  left = d.left;
  cut = d.cut;
}

abbrev pub behind_request : DataLink → Option Assignment → DataLink
behind_request d assigned = if is_served d then behind_last d else behind_fetch d (topics_in assigned)

-- ---- replies

-- the lines of a reply, where it has grants
abbrev pub granted_lines : List (ShareTopic SharePartition) → List Delivery → Option Lines
granted_lines [] ds = None
granted_lines (t ∷ topics) ds = Some (record { text = lines ds; count = length ds })

-- what is kept unless the session starts anew
abbrev pub unless_anew : {X : Type 0} → ℤ → X → X → X
unless_anew code x none = if starts_anew code then none else x

abbrev pub behind_fetched : DataLink → LocatedFetch → DataLink
behind_fetched d reply = record {
  number = d.number;
  asked = None;
  session = unless_anew reply.error_code d.session None;
  wanted = d.wanted;
  lines = granted_lines (acknowledgements reply) (deliveries reply);
  topics = unless_anew reply.error_code (Some (acknowledgements reply)) None;
  closed = d.closed;
  left = d.left;
  cut = false;
}

abbrev pub behind_left : DataLink → ℤ → DataLink
behind_left d code = record {
  number = d.number;
  asked = None;
  session = unless_anew code d.session None;
  wanted = d.wanted;
  lines = d.lines;
  topics = d.topics;
  closed = d.closed;
  left = true;
  cut = false;
}

-- what is heard by the reply to the last request
abbrev pub unless_ended : Result ShareAckReply ClientFault → Result ShareAckReply ClientFault
unless_ended (Ok reply) = if ends_consumer reply.error_code then Err (Refused reply.error_code) else Ok reply
unless_ended (Err fault) = Err fault

abbrev pub heard_last : List ℕ → Result ShareAckReply ClientFault
heard_last frame = unless_ended (said (reply_in share_ack_reply frame))

abbrev pub fetched_by : DataLink → Result LocatedFetch ClientFault → DataLink
fetched_by d (Ok reply) = behind_fetched d reply
fetched_by d (Err fault) = d

abbrev pub left_by : DataLink → Result ShareAckReply ClientFault → DataLink
left_by d (Ok reply) = behind_left d reply.error_code
left_by d (Err fault) = d

-- what a taken reply leaves, by the request that it answers
abbrev pub behind_reply : DataLink → Option DataAsk → List ℕ → DataLink
behind_reply d None frame = d
behind_reply d (Some (Fetching most)) frame = fetched_by d (said (located_in frame))
behind_reply d (Some Leaving) frame = left_by d (heard_last frame)

-- ---- what else happens

-- the link was lost: what stands is dropped
abbrev pub behind_loss : DataLink → DataLink
behind_loss d = record {
  number = d.number;
  asked = None;
  session = None;
  wanted = d.wanted;
  lines = d.lines;
  topics = None;
  closed = d.closed;
  left = d.left;
  cut = not d.left;
}

abbrev pub lines_count : Option Lines → ℕ
lines_count lines = option_map_or (λ l. l.count) lines 0

abbrev pub lines_text : Option Lines → List ℕ
lines_text lines = option_map_or (λ l. l.text) lines []

-- the lines are written
abbrev pub behind_written : DataLink → DataLink
behind_written d = record {
  number = d.number;
  asked = d.asked;
  session = d.session;
  wanted = d.wanted - lines_count d.lines;
  lines = None;
  topics = d.topics;
  closed = d.closed;
  left = d.left;
  cut = d.cut;
}

-- ---- what is to be said of a reply

-- a request awaits its reply, and the frame has its correlation id
abbrev pub data_awaits : List ℕ → DataLink → Bool
data_awaits frame d = is_some d.asked && has_correlation frame d.number

abbrev pub taken_last : Result ShareAckReply ClientFault → Result Took ClientFault
taken_last (Ok reply) = Ok Taken
taken_last (Err fault) = Err fault

-- what is to be said of the awaited reply to a fetch
abbrev pub TakesFetch : List ℕ → ℕ → Result Took ClientFault → Type 0
TakesFetch frame most (Ok Taken) = (reply : LocatedFetch) × HearsFetch frame most (Ok reply)
TakesFetch frame most (Ok Stray) = ⊥
TakesFetch frame most (Err fault) = HearsFetch frame most (Err fault)

abbrev pub TakesReply : List ℕ → Option DataAsk → Result Took ClientFault → Type 0
TakesReply frame None result = ⊥
TakesReply frame (Some (Fetching most)) result = TakesFetch frame most result
TakesReply frame (Some Leaving) result = IsAnswer result (taken_last (heard_last frame))

-- ---- what the code does; the clauses of private functions cite it, and no public one does

-- behind a fault nothing changed
abbrev pub data_after : DataLink → List ℕ → Result Took ClientFault → DataLink
data_after d frame (Ok Taken) = behind_reply d d.asked frame
data_after d frame (Ok Stray) = d
data_after d frame (Err fault) = d

abbrev pub fetched_after : DataLink → List ℕ → Result Took ClientFault → DataLink
fetched_after d frame (Ok Taken) = fetched_by d (said (located_in frame))
fetched_after d frame (Ok Stray) = d
fetched_after d frame (Err fault) = d

abbrev pub last_after : DataLink → List ℕ → Result Took ClientFault → DataLink
last_after d frame (Ok Taken) = left_by d (heard_last frame)
last_after d frame (Ok Stray) = d
last_after d frame (Err fault) = d

-- what a frame does to the link
pub record TakesData (frame : List ℕ) (old : DataLink) (result : Result Took ClientFault) (new : DataLink) : Type 0 where
  pub stray : data_awaits frame old ≡ false → result ≡ Ok Stray
  pub awaited : data_awaits frame old ≡ true → TakesReply frame old.asked result
  pub becomes : new ≡ data_after old frame result
