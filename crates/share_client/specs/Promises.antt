-- What a consumer keeps to over a whole trace. This project's own; the laws of `laws.rt` hold of each trace for which a consumer stands.
-- For example where the link is lost behind a reply that granted three records, these are written, and no request acknowledges them.
use Rattle.std.specs.Prelude.{◌≡◌, ◌≤◌, ◌<◌, ◌+◌, ℕ, ℤ, suc, Bool, true, false, List, [], ◌∷◌, ◌++◌, flat_map, length, map, Option, Some, None, Result, Ok, Err, if◌then◌else◌}
use Rattle.std.specs.Option.{option_flatten}
use Rattle.msgs_share.specs.declared.share_topic.AcknowledgementBatch.{AcknowledgementBatch}
use Rattle.msgs_share.specs.declared.share_topic.SharePartition.{SharePartition}
use Rattle.msgs_share.specs.declared.share_topic.ShareTopic.{ShareTopic}
use Rattle.rec_batch.specs.Batches.{at_least_zero}
use Rattle.share_client.specs.declared.conf.ClientConf.{ClientConf}
use Rattle.share_client.specs.declared.data_link.DataAsk.{DataAsk}
use Rattle.share_client.specs.declared.data_link.DataAsk.TheVariants.{Fetching, Leaving}
use Rattle.share_client.specs.declared.data_link.Lines.{Lines}
use Rattle.share_client.specs.declared.fault.ClientFault.{ClientFault}
use Rattle.share_client.specs.declared.fetched.LocatedFetch.{LocatedFetch}
use Rattle.share_client.specs.declared.step.ClientStep.TheVariants.{Fetch, Write}
use Rattle.share_client.specs.declared.step.LinkKind.TheVariants.{Data}
use Rattle.share_client.specs.declared.step.Took.TheVariants.{Taken}
use Rattle.share_client.specs.DataLinks.{acknowledged, granted_lines, heard_last, lines_count, lines_text}
use Rattle.share_client.specs.Deliveries.{acknowledgements, deliveries}
use Rattle.share_client.specs.Fetches.{located_in, starts_anew}
use Rattle.share_client.specs.Frames.{said}
use Rattle.share_client.specs.Grants.{Named, StandsIn}
use Rattle.share_client.specs.Kept.{kept}
use Rattle.share_client.specs.Traces.{Call, Trace, newest}
use Rattle.share_client.specs.Traces.Call.{Asked, Got, Lost, Wrote}

abbrev pub reply_of : Result LocatedFetch ClientFault → Option LocatedFetch
reply_of (Ok reply) = Some reply
reply_of (Err fault) = None

-- the reply to a fetch that a frame is, where a fetch awaits its reply
abbrev pub fetched_in : Option DataAsk → List ℕ → Option LocatedFetch
fetched_in None frame = None
fetched_in (Some Leaving) frame = None
fetched_in (Some (Fetching most)) frame = reply_of (said (located_in frame))

-- ---- grants that stand

-- A reply whose grants stand: what it says, how many calls came before it, and in which session it came.
pub record Grant : Type 0 where
  pub reply : LocatedFetch
  pub place : ℕ
  pub session : ℕ

-- a reply that starts the session anew leaves no grants
abbrev pub granted_at : ℕ → ℕ → LocatedFetch → Option Grant
granted_at place session reply = if starts_anew reply.error_code then None else Some (record { reply = reply; place = place; session = session })

abbrev pub stands_where : ℕ → ℕ → Option LocatedFetch → Option (Option Grant)
stands_where place session None = None
stands_where place session (Some reply) = Some (granted_at place session reply)

abbrev pub anew_in : {A : Type 0} → (A → ℤ) → Result A ClientFault → Bool
anew_in code_of (Ok reply) = starts_anew (code_of reply)
anew_in code_of (Err fault) = false

-- the reply starts the session anew
abbrev pub is_anew : Option DataAsk → List ℕ → Bool
is_anew None frame = false
is_anew (Some (Fetching most)) frame = anew_in (λ reply. reply.error_code) (said (located_in frame))
is_anew (Some Leaving) frame = anew_in (λ reply. reply.error_code) (heard_last frame)

-- A loss of the data link ends a session, and so does a reply that starts it anew.
abbrev pub ends_session : ClientConf → Call → Trace → Bool
ends_session conf (Lost Data) before = true
ends_session conf (Got Data frame (Ok Taken)) before = is_anew (kept conf before).asked frame
ends_session conf call before = false

-- how many sessions ended
abbrev pub sessions : ClientConf → Trace → ℕ
sessions conf [] = 0
sessions conf (call ∷ before) = if ends_session conf call before then suc (sessions conf before) else sessions conf before

abbrev pub stands_by : ClientConf → Call → Trace → Option (Option Grant)
stands_by conf (Got Data frame (Ok Taken)) before = stands_where (length before) (sessions conf before) (fetched_in (kept conf before).asked frame)
stands_by conf (Asked now (Ok (Fetch frame))) before = Some None
stands_by conf (Lost Data) before = Some None
stands_by conf call before = None

-- The reply whose grants stand: the last one, unless a request was sent since then, or its session ended.
abbrev pub standing : ClientConf → Trace → Option Grant
standing conf trace = option_flatten (newest (stands_by conf) trace)

abbrev pub grant_topics : Option Grant → List (ShareTopic SharePartition)
grant_topics None = []
grant_topics (Some g) = acknowledgements g.reply

-- Each request acknowledges all that stands, and nothing else: the frames of the requests are those of `data_frame`.
abbrev pub AcknowledgesWhatStands : ClientConf → Trace → Type 0
AcknowledgesWhatStands conf trace = acknowledged (kept conf trace) ≡ grant_topics (standing conf trace)

-- the places of the replies whose grants were acknowledged, the last one first
abbrev pub places : Option Grant → List ℕ
places None = []
places (Some g) = g.place ∷ []

abbrev pub acknowledged_places : ClientConf → Trace → List ℕ
acknowledged_places conf [] = []
acknowledged_places conf (Asked now (Ok (Fetch frame)) ∷ before) = places (standing conf before) ++ acknowledged_places conf before
acknowledged_places conf (call ∷ before) = acknowledged_places conf before

-- They fall: so no reply is acknowledged twice.
abbrev pub Fall : ℕ → List ℕ → Type 0
Fall bound [] = Unit {0}
Fall bound (place ∷ others) = (place < bound) × Fall place others

-- What stands wasn't acknowledged, and each reply was acknowledged once at most.
abbrev pub AcknowledgesOnce : ClientConf → Trace → Type 0
AcknowledgesOnce conf trace = Fall (length trace) (places (standing conf trace) ++ acknowledged_places conf trace)

abbrev pub IsOf : ℕ → Option Grant → Type 0
IsOf session None = Unit {0}
IsOf session (Some g) = g.session ≡ session

-- What stands, and so what a request acknowledges, came in the session that stands.
abbrev pub StandsInSession : ClientConf → Trace → Type 0
StandsInSession conf trace = IsOf (sessions conf trace) (standing conf trace)

-- Each batch begins above the last offset of the one before it, and doesn't end before it begins.
abbrev pub AreAbove : ℕ → List AcknowledgementBatch → Type 0
AreAbove next [] = Unit {0}
AreAbove next (b ∷ batches) = (next ≤ at_least_zero b.first_offset) × (at_least_zero b.first_offset ≤ at_least_zero b.last_offset)
    × AreAbove (at_least_zero b.last_offset + 1) batches

-- what is acknowledged of each partition
abbrev pub parts_of : ShareTopic SharePartition → List (Named × List AcknowledgementBatch)
parts_of t = map (λ p. ((t.topic_id, p.partition_index), p.acknowledgement_batches)) t.partitions

-- No partition stands twice, and none is one of those named: so an offset of a partition stands in one batch at most.
abbrev pub AreApart : List Named → List (Named × List AcknowledgementBatch) → Type 0
AreApart named [] = Unit {0}
AreApart named (p ∷ parts) = (StandsIn named p.0 → ⊥) × AreAbove 0 p.1 × AreApart (p.0 ∷ named) parts

-- Each request acknowledges each offset once at most.
abbrev pub GrantOnce : ClientConf → Trace → Type 0
GrantOnce conf [] = Unit {0}
GrantOnce conf (Asked now (Ok (Fetch frame)) ∷ before) = AreApart [] (flat_map parts_of (acknowledged (kept conf before))) × GrantOnce conf before
GrantOnce conf (call ∷ before) = GrantOnce conf before

-- ---- lines

abbrev pub waits_where : Option LocatedFetch → Option (Option LocatedFetch)
waits_where None = None
waits_where (Some reply) = Some (Some reply)

abbrev pub waits_by : ClientConf → Call → Trace → Option (Option LocatedFetch)
waits_by conf (Got Data frame (Ok Taken)) before = waits_where (fetched_in (kept conf before).asked frame)
waits_by conf Wrote before = Some None
waits_by conf call before = None

-- the reply whose lines are to be written: the last one, unless they are written
abbrev pub waiting : ClientConf → Trace → Option LocatedFetch
waiting conf trace = option_flatten (newest (waits_by conf) trace)

abbrev pub waiting_lines : Option LocatedFetch → Option Lines
waiting_lines None = None
waiting_lines (Some reply) = granted_lines (acknowledgements reply) (deliveries reply)

-- What is to be written is what the last taken reply hands out.
abbrev pub WritesWhatWasTaken : ClientConf → Trace → Type 0
WritesWhatWasTaken conf trace = (kept conf trace).lines ≡ waiting_lines (waiting conf trace)

-- Where a request is sent, the lines of every reply before it are written.
abbrev pub WritesFirst : ClientConf → Trace → Type 0
WritesFirst conf [] = Unit {0}
WritesFirst conf (Asked now (Ok (Fetch frame)) ∷ before) = (waiting_lines (waiting conf before) ≡ None) × WritesFirst conf before
WritesFirst conf (call ∷ before) = WritesFirst conf before

abbrev pub handed_by : Call → Trace → Option (Option (List ℕ))
handed_by (Asked now (Ok (Write lines))) before = Some (Some lines)
handed_by Wrote before = Some None
handed_by call before = None

-- the lines that were handed out, and aren't yet taken as written
abbrev pub handed : Trace → Option (List ℕ)
handed trace = option_flatten (newest handed_by trace)

-- What is taken as written is what was handed out: all lines of the reply that waits.
abbrev pub WritesWhatWasHanded : ClientConf → Trace → Type 0
WritesWhatWasHanded conf [] = Unit {0}
WritesWhatWasHanded conf (Wrote ∷ before) = (handed before ≡ Some (lines_text (waiting_lines (waiting conf before)))) × WritesWhatWasHanded conf before
WritesWhatWasHanded conf (call ∷ before) = WritesWhatWasHanded conf before

-- how many lines are written
abbrev pub written : ClientConf → Trace → ℕ
written conf [] = 0
written conf (Wrote ∷ before) = lines_count (kept conf before).lines + written conf before
written conf (call ∷ before) = written conf before

-- no more lines than were asked for, those with them that are yet to be written
abbrev pub IsBounded : ClientConf → Trace → Type 0
IsBounded conf trace = lines_count (kept conf trace).lines + written conf trace ≤ conf.count
