-- What a request acknowledges are batches apart from each other.
use Rattle.std.proofs.Common.{inl, inr, ◌≡◌, ◌+◌, ◌∷◌, ◌++◌, [], ℕ, ℤ, Bool, true, false, List, Option, Some, None, Result, Ok, Err, sym, subst, map}
use Rattle.std.specs.Prelude.{◌⊎◌, if◌then◌else◌, flat_map}
use Rattle.std.specs.Bool.{MatchBool}
use Rattle.std.specs.Option.{unwrap_or}
use Rattle.msgs_group.specs.declared.heartbeat_reply.AssignedTopic.{AssignedTopic}
use Rattle.msgs_share.specs.declared.share_ack_reply.ShareAckReply.{ShareAckReply}
use Rattle.msgs_share.specs.declared.share_fetch_reply.AcquiredRecords.{AcquiredRecords}
use Rattle.msgs_share.specs.declared.share_topic.AcknowledgementBatch.{AcknowledgementBatch}
use Rattle.msgs_share.specs.declared.share_topic.SharePartition.{SharePartition}
use Rattle.msgs_share.specs.declared.share_topic.ShareTopic.{ShareTopic}
use Rattle.rec_batch.specs.Batches.{at_least_zero}
use Rattle.share_client.specs.declared.conf.ClientConf.{ClientConf}
use Rattle.share_client.specs.declared.data_link.DataAsk.{DataAsk}
use Rattle.share_client.specs.declared.data_link.DataAsk.TheVariants.{Fetching, Leaving}
use Rattle.share_client.specs.declared.data_link.DataLink.{DataLink}
use Rattle.share_client.specs.declared.fault.ClientFault.{ClientFault}
use Rattle.share_client.specs.declared.fetched.LocatedFetch.{LocatedFetch}
use Rattle.share_client.specs.declared.located.Located.{Located}
use Rattle.share_client.specs.declared.step.ClientStep.TheVariants.{Heartbeat, Fetch, Write, Wait, Done}
use Rattle.share_client.specs.declared.step.LinkKind.TheVariants.{Group, Data}
use Rattle.share_client.specs.declared.step.Took.{Took}
use Rattle.share_client.specs.declared.step.Took.TheVariants.{Taken, Stray}
use Rattle.share_client.specs.DataLinks.{TakesReply, acknowledged, behind_fetch, behind_last, behind_reply, fetched_by, heard_last, is_served, left_by}
use Rattle.share_client.specs.Deliveries.{acknowledgements, entry_acknowledged, run_acknowledged, topic_acknowledged}
use Rattle.share_client.specs.Fetches.{Tells, located_in, starts_anew}
use Rattle.share_client.specs.Frames.{said}
use Rattle.share_client.specs.Grants.{AreFetched, Entry, IsFetched, Named, StandsIn, content_of, entries_of, is_passed, name_of}
use Rattle.share_client.specs.Heartbeats.{assigned}
use Rattle.share_client.specs.Kept.{kept}
use Rattle.share_client.specs.Partitions.{topics_in}
use Rattle.share_client.specs.Promises.{AreAbove, AreApart, GrantOnce, parts_of}
use Rattle.share_client.specs.Readers.{Rise}
use Rattle.share_client.specs.Records.{OffsetRecord, all_records}
use Rattle.share_client.specs.Rules.{AreAllowed, awaits}
use Rattle.share_client.specs.Traces.{Trace}
use Rattle.share_client.specs.Traces.Call.{Asked, Got, Lost, Wrote}
use Rattle.share_client.proofs.Delivering.{Looked, fetched_sound}

-- ---- the batches of a reply

named_on : (p : Named) (named more : List Named) → ((q : Named) → StandsIn named q → StandsIn more q) → (q : Named) → StandsIn (p ∷ named) q → StandsIn (p ∷ more) q
named_on p named more sub q (inl e) = inl e
named_on p named more sub q (inr s) = inr (sub q s)

-- what is apart from more is apart from less
fewer_named : (named more : List Named) (parts : List (Named × List AcknowledgementBatch)) → ((q : Named) → StandsIn named q → StandsIn more q)
    → AreApart more parts → AreApart named parts
fewer_named named more [] sub h = tt
fewer_named named more (p ∷ parts) sub h =
    ((λ s. h.0 (sub p.0 s)), h.1, fewer_named (p.0 ∷ named) (p.0 ∷ more) parts (named_on p.0 named more sub) h.2)

runs_above : (records : List OffsetRecord) (next : ℕ) (acquired : List (Located AcquiredRecords)) → Rise next acquired
    → AreAbove next (map (λ a. run_acknowledged records a.item) acquired)
runs_above records next [] h = tt
runs_above records next (a ∷ others) h = (h.0, h.1, runs_above records (at_least_zero a.item.last_offset + 1) others h.2)

topic_apart : (named : List Named) (id : List ℕ) (n : ℤ) (records : List OffsetRecord) (acquired : List (Located AcquiredRecords)) (topics : List (ShareTopic SharePartition))
    → (StandsIn named (id, n) → ⊥) → Rise 0 acquired → AreApart ((id, n) ∷ named) (flat_map parts_of topics)
    → AreApart named (flat_map parts_of (topic_acknowledged (id, n) (map (λ a. run_acknowledged records a.item) acquired) ++ topics))
topic_apart named id n records [] topics new rise h = fewer_named named ((id, n) ∷ named) (flat_map parts_of topics) (λ q s. inr s) h
topic_apart named id n records (a ∷ others) topics new rise h = (new, runs_above records 0 (a ∷ others) rise, h)

apart_entries : (named : List Named) (left : ℕ) (es : List Entry) → AreFetched named left es None → AreApart named (flat_map parts_of (flat_map entry_acknowledged es))
apart_entries named left [] h = tt
apart_entries named left (e ∷ es) h =
    by (is_passed e) (λ k. apart_entries named left es k) (λ rest k. apart_entries (name_of e ∷ named) rest es k) h
  where
    looked : ((rest : ℕ) → AreFetched (name_of e ∷ named) rest es None → AreApart (name_of e ∷ named) (flat_map parts_of (flat_map entry_acknowledged es))) → Looked named left e es
        → AreApart named (flat_map parts_of (topic_acknowledged (name_of e) (map (λ a. run_acknowledged (all_records (content_of e.1.item.records)) a.item) e.1.item.acquired_records)
        ++ flat_map entry_acknowledged es))
    looked on (inl h) = absurd cc
    looked on (inr h) = inner h.1
      where
        inner : ((place : ℕ) × IsFetched left e.1.item (Err place) × (None ≡ Some place)) ⊎ ((rest : ℕ) × IsFetched left e.1.item (Ok rest) × AreFetched (name_of e ∷ named) rest es None)
            → AreApart named (flat_map parts_of (topic_acknowledged (name_of e) (map (λ a. run_acknowledged (all_records (content_of e.1.item.records)) a.item) e.1.item.acquired_records)
            ++ flat_map entry_acknowledged es))
        inner (inl k) = absurd cc
        inner (inr k) = topic_apart named e.0 e.1.item.partition_index (all_records (content_of e.1.item.records)) e.1.item.acquired_records (flat_map entry_acknowledged es)
            h.0 (fetched_sound left k.0 e.1.item k.1).1 (on k.0 k.2)

    by : (b : Bool) → (AreFetched named left es None → AreApart named (flat_map parts_of (flat_map entry_acknowledged es)))
        → ((rest : ℕ) → AreFetched (name_of e ∷ named) rest es None → AreApart (name_of e ∷ named) (flat_map parts_of (flat_map entry_acknowledged es)))
        → MatchBool b (AreFetched named left es None) (Looked named left e es)
        → AreApart named (flat_map parts_of ((if b then [] else topic_acknowledged (name_of e)
        (map (λ a. run_acknowledged (all_records (content_of e.1.item.records)) a.item) e.1.item.acquired_records)) ++ flat_map entry_acknowledged es))
    by true pass on h = pass h
    by false pass on h = looked on h

-- ---- what is kept

abbrev Keeps : DataLink → Type 0
Keeps d = AreApart [] (flat_map parts_of (acknowledged d))

apart_requested : (d : DataLink) (b : Bool) (topics : List AssignedTopic) → Keeps (if b then behind_last d else behind_fetch d topics)
apart_requested d true topics = tt
apart_requested d false topics = tt

apart_granted : (reply : LocatedFetch) (b : Bool) → AreApart [] (flat_map parts_of (acknowledgements reply))
    → AreApart [] (flat_map parts_of (unwrap_or (if b then None else Some (acknowledgements reply)) []))
apart_granted reply true h = tt
apart_granted reply false h = h

module _ (d : DataLink) (ih : Keeps d) where
  apart_fetched : (most : ℕ) (reply : LocatedFetch) (told : Result LocatedFetch ClientFault) → told ≡ Ok reply → Tells reply most None → Keeps (fetched_by d told)
  apart_fetched most reply told e h = subst (λ (r : Result LocatedFetch ClientFault). Keeps (fetched_by d r)) (sym e)
      (apart_granted reply (starts_anew reply.error_code) (apart_entries [] most (flat_map entries_of reply.responses) h))

  apart_left : (told : Result ShareAckReply ClientFault) → Keeps (left_by d told)
  apart_left (Ok reply) = ih
  apart_left (Err fault) = ih

  apart_replied : (asked : Option DataAsk) (frame : List ℕ) → TakesReply frame asked (Ok Taken) → Keeps (behind_reply d asked frame)
  apart_replied None frame h = absurd h
  apart_replied (Some (Fetching most)) frame h = apart_fetched most h.0 (said (located_in frame)) h.1.0 h.1.1
  apart_replied (Some Leaving) frame h = apart_left (heard_last frame)

  apart_awaited : (b : Bool) (frame : List ℕ) → MatchBool b (TakesReply frame d.asked (Ok Taken)) (◌≡◌ {A = Result Took ClientFault} (Ok Taken) (Ok Stray)) → Keeps (behind_reply d d.asked frame)
  apart_awaited true frame h = apart_replied d.asked frame h
  apart_awaited false frame h = absurd cc

keeps_apart : (conf : ClientConf) (trace : Trace) → AreAllowed conf trace → Keeps (kept conf trace)
keeps_apart conf [] h = tt
keeps_apart conf (Asked now (Err none) ∷ t) h = keeps_apart conf t h.1
keeps_apart conf (Asked now (Ok Done) ∷ t) h = keeps_apart conf t h.1
keeps_apart conf (Asked now (Ok (Wait until)) ∷ t) h = keeps_apart conf t h.1
keeps_apart conf (Asked now (Ok (Write lines)) ∷ t) h = keeps_apart conf t h.1
keeps_apart conf (Asked now (Ok (Heartbeat frame)) ∷ t) h = keeps_apart conf t h.1
keeps_apart conf (Asked now (Ok (Fetch frame)) ∷ t) h = apart_requested (kept conf t) (is_served (kept conf t)) (topics_in (assigned t))
keeps_apart conf (Got Group frame (Ok Taken) ∷ t) h = keeps_apart conf t h.1
keeps_apart conf (Got Group frame (Ok Stray) ∷ t) h = keeps_apart conf t h.1
keeps_apart conf (Got Group frame (Err fault) ∷ t) h = keeps_apart conf t h.1
keeps_apart conf (Got Data frame (Ok Taken) ∷ t) h = apart_awaited (kept conf t) (keeps_apart conf t h.1) (awaits conf t Data frame) frame h.0
keeps_apart conf (Got Data frame (Ok Stray) ∷ t) h = keeps_apart conf t h.1
keeps_apart conf (Got Data frame (Err fault) ∷ t) h = keeps_apart conf t h.1
keeps_apart conf (Lost Group ∷ t) h = keeps_apart conf t h.1
keeps_apart conf (Lost Data ∷ t) h = tt
keeps_apart conf (Wrote ∷ t) h = keeps_apart conf t h.1

pub grants_once : (conf : ClientConf) (trace : Trace) → AreAllowed conf trace → GrantOnce conf trace
grants_once conf [] h = tt
grants_once conf (Asked now (Err none) ∷ t) h = grants_once conf t h.1
grants_once conf (Asked now (Ok Done) ∷ t) h = grants_once conf t h.1
grants_once conf (Asked now (Ok (Wait until)) ∷ t) h = grants_once conf t h.1
grants_once conf (Asked now (Ok (Write lines)) ∷ t) h = grants_once conf t h.1
grants_once conf (Asked now (Ok (Heartbeat frame)) ∷ t) h = grants_once conf t h.1
grants_once conf (Asked now (Ok (Fetch frame)) ∷ t) h = (keeps_apart conf t h.1, grants_once conf t h.1)
grants_once conf (Got Group frame (Ok Taken) ∷ t) h = grants_once conf t h.1
grants_once conf (Got Group frame (Ok Stray) ∷ t) h = grants_once conf t h.1
grants_once conf (Got Group frame (Err fault) ∷ t) h = grants_once conf t h.1
grants_once conf (Got Data frame (Ok Taken) ∷ t) h = grants_once conf t h.1
grants_once conf (Got Data frame (Ok Stray) ∷ t) h = grants_once conf t h.1
grants_once conf (Got Data frame (Err fault) ∷ t) h = grants_once conf t h.1
grants_once conf (Lost Group ∷ t) h = grants_once conf t h.1
grants_once conf (Lost Data ∷ t) h = grants_once conf t h.1
grants_once conf (Wrote ∷ t) h = grants_once conf t h.1
