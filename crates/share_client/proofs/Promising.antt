-- What a consumer keeps to over a whole trace.
use Rattle.std.proofs.Common.{◌≡◌, ◌+◌, ◌∙◌, ◌∷◌, ◌++◌, [], ℕ, suc, Bool, true, false, List, Option, Some, None, Result, Ok, Err, refl, sym, subst, arith}
use Rattle.msgs_share.specs.declared.share_ack_reply.ShareAckReply.{ShareAckReply}
use Rattle.std.specs.Prelude.{◌≤◌, if◌then◌else◌, is_some, length}
use Rattle.std.specs.Option.{option_flatten, option_or, unwrap_or}
use Rattle.msgs_group.specs.declared.heartbeat_reply.AssignedTopic.{AssignedTopic}
use Rattle.share_client.specs.declared.conf.ClientConf.{ClientConf}
use Rattle.share_client.specs.declared.data_link.DataAsk.{DataAsk}
use Rattle.share_client.specs.declared.data_link.DataAsk.TheVariants.{Fetching, Leaving}
use Rattle.share_client.specs.declared.data_link.DataLink.{DataLink}
use Rattle.share_client.specs.declared.data_link.Lines.{Lines}
use Rattle.share_client.specs.declared.fault.ClientFault.{ClientFault}
use Rattle.share_client.specs.declared.fetched.LocatedFetch.{LocatedFetch}
use Rattle.share_client.specs.declared.step.ClientStep.TheVariants.{Heartbeat, Fetch, Write, Wait, Done}
use Rattle.share_client.specs.declared.step.LinkKind.TheVariants.{Group, Data}
use Rattle.share_client.specs.declared.step.Took.TheVariants.{Taken, Stray}
use Rattle.share_client.specs.DataLinks.{acknowledged, behind_fetch, behind_last, behind_reply, fetched_by, heard_last, is_served, left_by}
use Rattle.share_client.specs.Deliveries.{acknowledgements}
use Rattle.share_client.specs.Fetches.{located_in, starts_anew}
use Rattle.share_client.specs.Frames.{said}
use Rattle.share_client.specs.Heartbeats.{assigned}
use Rattle.share_client.specs.Kept.{kept}
use Rattle.share_client.specs.Partitions.{topics_in}
use Rattle.share_client.specs.Promises.{AcknowledgesOnce, AcknowledgesWhatStands, Fall, Grant, IsOf, StandsInSession, WritesFirst, WritesWhatWasTaken, acknowledged_places, anew_in, is_anew, places, waiting_lines, waits_by, waits_where, fetched_in, grant_topics, reply_of, sessions, stands_by, stands_where, standing}
use Rattle.share_client.specs.Rules.{AreAllowed}
use Rattle.share_client.specs.Traces.{Trace, newest}
use Rattle.share_client.specs.Traces.Call.{Asked, Got, Lost, Wrote}

-- ---- what stands is acknowledged

granted_topics : (place session : ℕ) (reply : LocatedFetch) (b : Bool)
    → unwrap_or (if b then None else Some (acknowledgements reply)) [] ≡ grant_topics (if b then None else Some (record { reply = reply; place = place; session = session }))
granted_topics place session reply true = refl
granted_topics place session reply false = refl

requested_topics : (conf : ClientConf) (d : DataLink) (b : Bool) (topics : List AssignedTopic) → acknowledged (if b then behind_last d else behind_fetch d topics) ≡ []
requested_topics conf d true topics = refl
requested_topics conf d false topics = refl

module _ (d : DataLink) (place session : ℕ) (before : Option (Option Grant)) (ih : acknowledged d ≡ grant_topics (option_flatten before)) where
  topics_fetched : (told : Result LocatedFetch ClientFault)
      → acknowledged (fetched_by d told) ≡ grant_topics (option_flatten (option_or (stands_where place session (reply_of told)) before))
  topics_fetched (Ok reply) = granted_topics place session reply (starts_anew reply.error_code)
  topics_fetched (Err fault) = ih

  topics_left : (told : Result ShareAckReply ClientFault) → acknowledged (left_by d told) ≡ grant_topics (option_flatten before)
  topics_left (Ok reply) = ih
  topics_left (Err fault) = ih

  topics_replied : (asked : Option DataAsk) (frame : List ℕ)
      → acknowledged (behind_reply d asked frame) ≡ grant_topics (option_flatten (option_or (stands_where place session (fetched_in asked frame)) before))
  topics_replied None frame = ih
  topics_replied (Some (Fetching most)) frame = topics_fetched (said (located_in frame))
  topics_replied (Some Leaving) frame = topics_left (heard_last frame)

pub acknowledges : (conf : ClientConf) (trace : Trace) → AcknowledgesWhatStands conf trace
acknowledges conf [] = refl
acknowledges conf (Asked now (Err none) ∷ t) = acknowledges conf t
acknowledges conf (Asked now (Ok Done) ∷ t) = acknowledges conf t
acknowledges conf (Asked now (Ok (Wait until)) ∷ t) = acknowledges conf t
acknowledges conf (Asked now (Ok (Write lines)) ∷ t) = acknowledges conf t
acknowledges conf (Asked now (Ok (Heartbeat frame)) ∷ t) = acknowledges conf t
acknowledges conf (Asked now (Ok (Fetch frame)) ∷ t) = requested_topics conf (kept conf t) (is_served (kept conf t)) (topics_in (assigned t))
acknowledges conf (Got Group frame (Ok Taken) ∷ t) = acknowledges conf t
acknowledges conf (Got Group frame (Ok Stray) ∷ t) = acknowledges conf t
acknowledges conf (Got Group frame (Err fault) ∷ t) = acknowledges conf t
acknowledges conf (Got Data frame (Ok Taken) ∷ t) =
    topics_replied (kept conf t) (length t) (sessions conf t) (newest (stands_by conf) t) (acknowledges conf t) (kept conf t).asked frame
acknowledges conf (Got Data frame (Ok Stray) ∷ t) = acknowledges conf t
acknowledges conf (Got Data frame (Err fault) ∷ t) = acknowledges conf t
acknowledges conf (Lost Group ∷ t) = acknowledges conf t
acknowledges conf (Lost Data ∷ t) = refl
acknowledges conf (Wrote ∷ t) = acknowledges conf t

-- ---- each reply is acknowledged once

fall_to : (low bound : ℕ) (places : List ℕ) → low ≤ bound → Fall low places → Fall bound places
fall_to low bound [] le h = tt
fall_to low bound (place ∷ others) le h = (omega (arith, le, h.0), h.1)

fall_next : (bound : ℕ) (places : List ℕ) → Fall bound places → Fall (suc bound) places
fall_next bound places h = fall_to bound (suc bound) places (omega (arith)) h

fall_rest : (bound : ℕ) (g : Option Grant) (others : List ℕ) → Fall bound (places g ++ others) → Fall bound others
fall_rest bound None others h = h
fall_rest bound (Some g) others h = fall_to g.place bound others (omega (arith, h.0)) h.1

module _ (place session : ℕ) (before : Option (Option Grant)) (others : List ℕ) (ih : Fall place (places (option_flatten before) ++ others)) where
  once_granted : (reply : LocatedFetch) (b : Bool)
      → Fall (suc place) (places (if b then None else Some (record { reply = reply; place = place; session = session })) ++ others)
  once_granted reply true = fall_next place others (fall_rest place (option_flatten before) others ih)
  once_granted reply false = (omega (arith), fall_rest place (option_flatten before) others ih)

  once_told : (told : Option LocatedFetch) → Fall (suc place) (places (option_flatten (option_or (stands_where place session told) before)) ++ others)
  once_told None = fall_next place (places (option_flatten before) ++ others) ih
  once_told (Some reply) = once_granted reply (starts_anew reply.error_code)

pub acknowledges_once : (conf : ClientConf) (trace : Trace) → AcknowledgesOnce conf trace
acknowledges_once conf [] = tt
acknowledges_once conf (Asked now (Err none) ∷ t) = fall_next (length t) (places (standing conf t) ++ acknowledged_places conf t) (acknowledges_once conf t)
acknowledges_once conf (Asked now (Ok Done) ∷ t) = fall_next (length t) (places (standing conf t) ++ acknowledged_places conf t) (acknowledges_once conf t)
acknowledges_once conf (Asked now (Ok (Wait until)) ∷ t) = fall_next (length t) (places (standing conf t) ++ acknowledged_places conf t) (acknowledges_once conf t)
acknowledges_once conf (Asked now (Ok (Write lines)) ∷ t) = fall_next (length t) (places (standing conf t) ++ acknowledged_places conf t) (acknowledges_once conf t)
acknowledges_once conf (Asked now (Ok (Heartbeat frame)) ∷ t) = fall_next (length t) (places (standing conf t) ++ acknowledged_places conf t) (acknowledges_once conf t)
acknowledges_once conf (Asked now (Ok (Fetch frame)) ∷ t) = fall_next (length t) (places (standing conf t) ++ acknowledged_places conf t) (acknowledges_once conf t)
acknowledges_once conf (Got Group frame (Ok Taken) ∷ t) = fall_next (length t) (places (standing conf t) ++ acknowledged_places conf t) (acknowledges_once conf t)
acknowledges_once conf (Got Group frame (Ok Stray) ∷ t) = fall_next (length t) (places (standing conf t) ++ acknowledged_places conf t) (acknowledges_once conf t)
acknowledges_once conf (Got Group frame (Err fault) ∷ t) = fall_next (length t) (places (standing conf t) ++ acknowledged_places conf t) (acknowledges_once conf t)
acknowledges_once conf (Got Data frame (Ok Taken) ∷ t) = once_told (length t) (sessions conf t) (newest (stands_by conf) t) (acknowledged_places conf t) (acknowledges_once conf t) (fetched_in (kept conf t).asked frame)
acknowledges_once conf (Got Data frame (Ok Stray) ∷ t) = fall_next (length t) (places (standing conf t) ++ acknowledged_places conf t) (acknowledges_once conf t)
acknowledges_once conf (Got Data frame (Err fault) ∷ t) = fall_next (length t) (places (standing conf t) ++ acknowledged_places conf t) (acknowledges_once conf t)
acknowledges_once conf (Lost Group ∷ t) = fall_next (length t) (places (standing conf t) ++ acknowledged_places conf t) (acknowledges_once conf t)
acknowledges_once conf (Lost Data ∷ t) = fall_next (length t) (acknowledged_places conf t) (fall_rest (length t) (standing conf t) (acknowledged_places conf t) (acknowledges_once conf t))
acknowledges_once conf (Wrote ∷ t) = fall_next (length t) (places (standing conf t) ++ acknowledged_places conf t) (acknowledges_once conf t)

-- ---- what stands came in the session that stands

-- where a request awaits its reply, nothing stands
abbrev StandsNot : Option DataAsk → Option Grant → Type 0
StandsNot None g = Unit {0}
StandsNot (Some ask) g = g ≡ None

module _ (d : DataLink) (place session : ℕ) (before : Option (Option Grant)) (ih : StandsNot d.asked (option_flatten before)) where
  not_fetched : (told : Result LocatedFetch ClientFault)
      → StandsNot (fetched_by d told).asked (option_flatten (option_or (stands_where place session (reply_of told)) before))
  not_fetched (Ok reply) = tt
  not_fetched (Err fault) = ih

  not_left : (told : Result ShareAckReply ClientFault) → StandsNot (left_by d told).asked (option_flatten before)
  not_left (Ok reply) = tt
  not_left (Err fault) = ih

  not_replied : (asked : Option DataAsk) (frame : List ℕ)
      → StandsNot (behind_reply d asked frame).asked (option_flatten (option_or (stands_where place session (fetched_in asked frame)) before))
  not_replied None frame = ih
  not_replied (Some (Fetching most)) frame = not_fetched (said (located_in frame))
  not_replied (Some Leaving) frame = not_left (heard_last frame)

not_requested : (d : DataLink) (b : Bool) (topics : List AssignedTopic) → StandsNot (if b then behind_last d else behind_fetch d topics).asked None
not_requested d true topics = refl
not_requested d false topics = refl

stands_not : (conf : ClientConf) (trace : Trace) → StandsNot (kept conf trace).asked (standing conf trace)
stands_not conf [] = tt
stands_not conf (Asked now (Err none) ∷ t) = stands_not conf t
stands_not conf (Asked now (Ok Done) ∷ t) = stands_not conf t
stands_not conf (Asked now (Ok (Wait until)) ∷ t) = stands_not conf t
stands_not conf (Asked now (Ok (Write lines)) ∷ t) = stands_not conf t
stands_not conf (Asked now (Ok (Heartbeat frame)) ∷ t) = stands_not conf t
stands_not conf (Asked now (Ok (Fetch frame)) ∷ t) = not_requested (kept conf t) (is_served (kept conf t)) (topics_in (assigned t))
stands_not conf (Got Group frame (Ok Taken) ∷ t) = stands_not conf t
stands_not conf (Got Group frame (Ok Stray) ∷ t) = stands_not conf t
stands_not conf (Got Group frame (Err fault) ∷ t) = stands_not conf t
stands_not conf (Got Data frame (Ok Taken) ∷ t) = not_replied (kept conf t) (length t) (sessions conf t) (newest (stands_by conf) t) (stands_not conf t) (kept conf t).asked frame
stands_not conf (Got Data frame (Ok Stray) ∷ t) = stands_not conf t
stands_not conf (Got Data frame (Err fault) ∷ t) = stands_not conf t
stands_not conf (Lost Group ∷ t) = stands_not conf t
stands_not conf (Lost Data ∷ t) = tt
stands_not conf (Wrote ∷ t) = stands_not conf t

module _ (place session : ℕ) (before : Option (Option Grant)) (ih : IsOf session (option_flatten before)) where
  of_granted : (reply : LocatedFetch) (b : Bool)
      → IsOf (if b then suc session else session) (if b then None else Some (record { reply = reply; place = place; session = session }))
  of_granted reply true = tt
  of_granted reply false = refl

  of_fetched : (told : Result LocatedFetch ClientFault) → IsOf (if anew_in (λ reply. reply.error_code) told then suc session else session)
      (option_flatten (option_or (stands_where place session (reply_of told)) before))
  of_fetched (Ok reply) = of_granted reply (starts_anew reply.error_code)
  of_fetched (Err fault) = ih

  of_replied : (asked : Option DataAsk) (frame : List ℕ) → StandsNot asked (option_flatten before)
      → IsOf (if is_anew asked frame then suc session else session) (option_flatten (option_or (stands_where place session (fetched_in asked frame)) before))
  of_replied None frame none = ih
  of_replied (Some (Fetching most)) frame none = of_fetched (said (located_in frame))
  of_replied (Some Leaving) frame none = subst (λ (g : Option Grant). IsOf (if is_anew (Some Leaving) frame then suc session else session) g) (sym none) tt

pub stands_in_session : (conf : ClientConf) (trace : Trace) → StandsInSession conf trace
stands_in_session conf [] = tt
stands_in_session conf (Asked now (Err none) ∷ t) = stands_in_session conf t
stands_in_session conf (Asked now (Ok Done) ∷ t) = stands_in_session conf t
stands_in_session conf (Asked now (Ok (Wait until)) ∷ t) = stands_in_session conf t
stands_in_session conf (Asked now (Ok (Write lines)) ∷ t) = stands_in_session conf t
stands_in_session conf (Asked now (Ok (Heartbeat frame)) ∷ t) = stands_in_session conf t
stands_in_session conf (Asked now (Ok (Fetch frame)) ∷ t) = tt
stands_in_session conf (Got Group frame (Ok Taken) ∷ t) = stands_in_session conf t
stands_in_session conf (Got Group frame (Ok Stray) ∷ t) = stands_in_session conf t
stands_in_session conf (Got Group frame (Err fault) ∷ t) = stands_in_session conf t
stands_in_session conf (Got Data frame (Ok Taken) ∷ t) = of_replied (length t) (sessions conf t) (newest (stands_by conf) t) (stands_in_session conf t) (kept conf t).asked frame (stands_not conf t)
stands_in_session conf (Got Data frame (Ok Stray) ∷ t) = stands_in_session conf t
stands_in_session conf (Got Data frame (Err fault) ∷ t) = stands_in_session conf t
stands_in_session conf (Lost Group ∷ t) = stands_in_session conf t
stands_in_session conf (Lost Data ∷ t) = tt
stands_in_session conf (Wrote ∷ t) = stands_in_session conf t

-- ---- lines

module _ (d : DataLink) (before : Option (Option LocatedFetch)) (ih : d.lines ≡ waiting_lines (option_flatten before)) where
  lines_fetched : (told : Result LocatedFetch ClientFault) → (fetched_by d told).lines ≡ waiting_lines (option_flatten (option_or (waits_where (reply_of told)) before))
  lines_fetched (Ok reply) = refl
  lines_fetched (Err fault) = ih

  lines_left : (told : Result ShareAckReply ClientFault) → (left_by d told).lines ≡ waiting_lines (option_flatten before)
  lines_left (Ok reply) = ih
  lines_left (Err fault) = ih

  lines_replied : (asked : Option DataAsk) (frame : List ℕ)
      → (behind_reply d asked frame).lines ≡ waiting_lines (option_flatten (option_or (waits_where (fetched_in asked frame)) before))
  lines_replied None frame = ih
  lines_replied (Some (Fetching most)) frame = lines_fetched (said (located_in frame))
  lines_replied (Some Leaving) frame = lines_left (heard_last frame)

  lines_requested : (b : Bool) (topics : List AssignedTopic) → (if b then behind_last d else behind_fetch d topics).lines ≡ waiting_lines (option_flatten before)
  lines_requested true topics = ih
  lines_requested false topics = ih

pub writes_taken : (conf : ClientConf) (trace : Trace) → WritesWhatWasTaken conf trace
writes_taken conf [] = refl
writes_taken conf (Asked now (Err none) ∷ t) = writes_taken conf t
writes_taken conf (Asked now (Ok Done) ∷ t) = writes_taken conf t
writes_taken conf (Asked now (Ok (Wait until)) ∷ t) = writes_taken conf t
writes_taken conf (Asked now (Ok (Write lines)) ∷ t) = writes_taken conf t
writes_taken conf (Asked now (Ok (Heartbeat frame)) ∷ t) = writes_taken conf t
writes_taken conf (Asked now (Ok (Fetch frame)) ∷ t) = lines_requested (kept conf t) (newest (waits_by conf) t) (writes_taken conf t) (is_served (kept conf t)) (topics_in (assigned t))
writes_taken conf (Got Group frame (Ok Taken) ∷ t) = writes_taken conf t
writes_taken conf (Got Group frame (Ok Stray) ∷ t) = writes_taken conf t
writes_taken conf (Got Group frame (Err fault) ∷ t) = writes_taken conf t
writes_taken conf (Got Data frame (Ok Taken) ∷ t) = lines_replied (kept conf t) (newest (waits_by conf) t) (writes_taken conf t) (kept conf t).asked frame
writes_taken conf (Got Data frame (Ok Stray) ∷ t) = writes_taken conf t
writes_taken conf (Got Data frame (Err fault) ∷ t) = writes_taken conf t
writes_taken conf (Lost Group ∷ t) = writes_taken conf t
writes_taken conf (Lost Data ∷ t) = writes_taken conf t
writes_taken conf (Wrote ∷ t) = refl

none_pending : (lines : Option Lines) → is_some lines ≡ false → lines ≡ None
none_pending None e = refl
none_pending (Some l) e = absurd cc

pub writes_first : (conf : ClientConf) (trace : Trace) → AreAllowed conf trace → WritesFirst conf trace
writes_first conf [] h = tt
writes_first conf (Asked now (Err none) ∷ t) h = writes_first conf t h.1
writes_first conf (Asked now (Ok Done) ∷ t) h = writes_first conf t h.1
writes_first conf (Asked now (Ok (Wait until)) ∷ t) h = writes_first conf t h.1
writes_first conf (Asked now (Ok (Write lines)) ∷ t) h = writes_first conf t h.1
writes_first conf (Asked now (Ok (Heartbeat frame)) ∷ t) h = writes_first conf t h.1
writes_first conf (Asked now (Ok (Fetch frame)) ∷ t) h = (sym (writes_taken conf t) ∙ none_pending (kept conf t).lines h.0.1, writes_first conf t h.1)
writes_first conf (Got Group frame (Ok Taken) ∷ t) h = writes_first conf t h.1
writes_first conf (Got Group frame (Ok Stray) ∷ t) h = writes_first conf t h.1
writes_first conf (Got Group frame (Err fault) ∷ t) h = writes_first conf t h.1
writes_first conf (Got Data frame (Ok Taken) ∷ t) h = writes_first conf t h.1
writes_first conf (Got Data frame (Ok Stray) ∷ t) h = writes_first conf t h.1
writes_first conf (Got Data frame (Err fault) ∷ t) h = writes_first conf t h.1
writes_first conf (Lost Group ∷ t) h = writes_first conf t h.1
writes_first conf (Lost Data ∷ t) h = writes_first conf t h.1
writes_first conf (Wrote ∷ t) h = writes_first conf t h.1
