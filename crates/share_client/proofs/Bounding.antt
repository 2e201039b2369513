-- A consumer hands out no more lines than records were asked for, and takes as written only what it handed out.
use Rattle.std.proofs.Common.{inl, inr, ◌≡◌, ◌+◌, ◌-◌, ◌∙◌, ◌∷◌, ◌++◌, [], ℕ, ℤ, zero, suc, Bool, true, false, List, Option, Some, None, Result, Ok, Err, refl, sym, ap, subst, map, length, arith}
use Rattle.std.specs.Prelude.{◌≤◌, ◌⊎◌, if◌then◌else◌, flat_map, is_some, nat_lt}
use Rattle.std.specs.Bool.{MatchBool}
use Rattle.std.proofs.lemmas.Bool.Decides.{nat_tests}
use Rattle.std.proofs.lemmas.Int.{ints}
use Rattle.std.proofs.lemmas.List.{length-append}
use Rattle.msgs_group.specs.declared.heartbeat_reply.AssignedTopic.{AssignedTopic}
use Rattle.msgs_share.specs.declared.share_ack_reply.ShareAckReply.{ShareAckReply}
use Rattle.msgs_share.specs.declared.share_fetch_reply.AcquiredRecords.{AcquiredRecords}
use Rattle.msgs_share.specs.declared.share_topic.SharePartition.{SharePartition}
use Rattle.msgs_share.specs.declared.share_topic.ShareTopic.{ShareTopic}
use Rattle.share_client.specs.declared.batches.Span.{Span}
use Rattle.share_client.specs.declared.conf.ClientConf.{ClientConf}
use Rattle.share_client.specs.declared.data_link.DataAsk.{DataAsk}
use Rattle.share_client.specs.declared.data_link.DataAsk.TheVariants.{Fetching, Leaving}
use Rattle.share_client.specs.declared.data_link.DataLink.{DataLink}
use Rattle.share_client.specs.declared.data_link.Lines.{Lines}
use Rattle.share_client.specs.declared.fault.ClientFault.{ClientFault}
use Rattle.share_client.specs.declared.fetched.LocatedFetch.{LocatedFetch}
use Rattle.share_client.specs.declared.fetched.LocatedPartition.{LocatedPartition}
use Rattle.share_client.specs.declared.located.Located.{Located}
use Rattle.share_client.specs.declared.step.ClientStep.TheVariants.{Heartbeat, Fetch, Write, Wait, Done}
use Rattle.share_client.specs.declared.step.LinkKind.TheVariants.{Group, Data}
use Rattle.share_client.specs.declared.step.Took.{Took}
use Rattle.share_client.specs.declared.step.Took.TheVariants.{Taken, Stray}
use Rattle.share_client.specs.DataLinks.{TakesReply, behind_fetch, behind_last, behind_reply, behind_written, fetched_by, granted_lines, heard_last, is_served, left_by, lines_count, lines_text}
use Rattle.share_client.specs.Deliveries.{Delivery, acknowledgements, deliveries, delivered, entry_deliveries, run_deliveries, runs_deliveries, slot_deliveries, slots_from, run_first, run_count}
use Rattle.share_client.specs.Fetches.{Tells, located_in}
use Rattle.share_client.specs.Frames.{said}
use Rattle.share_client.specs.Grants.{AreFetched, AreGrants, Entry, Grants, IsFetched, Named, StandsIn, content_of, entries_of, is_passed, name_of, span_of}
use Rattle.share_client.specs.Heartbeats.{assigned}
use Rattle.share_client.specs.Kept.{kept}
use Rattle.share_client.specs.Partitions.{topics_in}
use Rattle.share_client.specs.Promises.{IsBounded, WritesWhatWasHanded, handed, written}
use Rattle.share_client.specs.Records.{OffsetRecord, all_records, found_at}
use Rattle.share_client.specs.Rules.{AreAllowed, awaits}
use Rattle.share_client.specs.Traces.{Trace, is_writing}
use Rattle.share_client.specs.Traces.Call.{Asked, Got, Lost, Wrote}
use Rattle.share_client.proofs.Promising.{writes_taken}

-- ---- a reply hands out as many records as it grants offsets, at most

one_each : (name : Named) (count : ℤ) (offset : ℕ) (found : Option (Option (List ℕ))) → length (delivered name count offset found) ≤ 1
one_each name count offset None = omega (arith)
one_each name count offset (Some value) = omega (arith)

module _ (name : Named) (count : ℤ) (records : List OffsetRecord) where
  few_slots : (first many : ℕ) → length (slot_deliveries name count (slots_from records first many)) ≤ many
  few_slots first zero = omega (arith)
  few_slots first (suc many) =
      let one = one_each name count first (found_at records first) in
      let more = few_slots (first + 1) many in
      let both = length-append (delivered name count first (found_at records first)) (slot_deliveries name count (slots_from records (first + 1) many)) in
      omega (arith, one, more, both)

few_run : (name : Named) (records : List OffsetRecord) (spans : List Span) (next left first last : ℕ) (a : AcquiredRecords) → Grants spans next left a first last
    → length (run_deliveries name records a) + (first + left - (last + 1)) ≤ left
few_run name records spans next left first last a g =
    let few = few_slots name a.delivery_count records (run_first a) (run_count a) in
    omega (arith, ints, few, g.first_is, g.last_is, g.order, g.few)

abbrev told_left : Result ℕ ℕ → ℕ
told_left (Ok left) = left
told_left (Err place) = 0

few_runs : (name : Named) (records : List OffsetRecord) (spans : List Span) (next left rest : ℕ) (acquired : List (Located AcquiredRecords))
    → AreGrants spans next left acquired (Ok rest) → length (runs_deliveries name records acquired) + rest ≤ left
few_runs name records spans next left rest [] h = let e : rest ≡ left = ap (λ (r : Result ℕ ℕ). told_left r) h in omega (arith, e)
few_runs name records spans next left rest (a ∷ others) (inl h) = absurd cc
few_runs name records spans next left rest (a ∷ others) (inr h) =
    let one = few_run name records spans next left h.0 h.1 a.item h.2 in
    let more = few_runs name records spans (h.1 + 1) (h.0 + left - (h.1 + 1)) rest others h.3 in
    let both = length-append (run_deliveries name records a.item) (runs_deliveries name records others) in
    omega (arith, one, more, both)

few_fetched : (name : Named) (records : List OffsetRecord) (left rest : ℕ) (p : LocatedPartition) → IsFetched left p (Ok rest)
    → length (runs_deliveries name records p.acquired_records) + rest ≤ left
few_fetched name records left rest p (inl h) = absurd cc
few_fetched name records left rest p (inr h) = few_runs name records (map (λ b. span_of b) h.0) 0 left rest p.acquired_records h.2

abbrev Looked : List Named → ℕ → Entry → List Entry → Type 0
Looked named left e others = (StandsIn named (name_of e) × (None ≡ Some e.1.place))
    ⊎ ((StandsIn named (name_of e) → ⊥)
    × (((place : ℕ) × IsFetched left e.1.item (Err place) × (None ≡ Some place))
    ⊎ ((rest : ℕ) × IsFetched left e.1.item (Ok rest) × AreFetched (name_of e ∷ named) rest others None)))

few_entries : (named : List Named) (left : ℕ) (es : List Entry) → AreFetched named left es None → length (flat_map entry_deliveries es) ≤ left
few_entries named left [] h = omega (arith)
few_entries named left (e ∷ es) h =
    by (is_passed e) (λ k. few_entries named left es k) (λ rest k. few_entries (name_of e ∷ named) rest es k) h
  where
    looked : ((rest : ℕ) → AreFetched (name_of e ∷ named) rest es None → length (flat_map entry_deliveries es) ≤ rest) → Looked named left e es
        → length (runs_deliveries (name_of e) (all_records (content_of e.1.item.records)) e.1.item.acquired_records ++ flat_map entry_deliveries es) ≤ left
    looked on (inl h) = absurd cc
    looked on (inr h) = inner h.1
      where
        inner : ((place : ℕ) × IsFetched left e.1.item (Err place) × (None ≡ Some place)) ⊎ ((rest : ℕ) × IsFetched left e.1.item (Ok rest) × AreFetched (name_of e ∷ named) rest es None)
            → length (runs_deliveries (name_of e) (all_records (content_of e.1.item.records)) e.1.item.acquired_records ++ flat_map entry_deliveries es) ≤ left
        inner (inl k) = absurd cc
        inner (inr k) =
            let one = few_fetched (name_of e) (all_records (content_of e.1.item.records)) left k.0 e.1.item k.1 in
            let more = on k.0 k.2 in
            let both = length-append (runs_deliveries (name_of e) (all_records (content_of e.1.item.records)) e.1.item.acquired_records) (flat_map entry_deliveries es) in
            omega (arith, one, more, both)

    by : (b : Bool) → (AreFetched named left es None → length (flat_map entry_deliveries es) ≤ left)
        → ((rest : ℕ) → AreFetched (name_of e ∷ named) rest es None → length (flat_map entry_deliveries es) ≤ rest)
        → MatchBool b (AreFetched named left es None) (Looked named left e es)
        → length ((if b then [] else runs_deliveries (name_of e) (all_records (content_of e.1.item.records)) e.1.item.acquired_records) ++ flat_map entry_deliveries es) ≤ left
    by true pass on h = pass h
    by false pass on h = looked on h

few_lines : (topics : List (ShareTopic SharePartition)) (ds : List Delivery) (most : ℕ) → length ds ≤ most → lines_count (granted_lines topics ds) ≤ most
few_lines [] ds most h = omega (arith)
few_lines (t ∷ topics) ds most h = h

-- ---- what is kept

-- where a fetch awaits its reply, no lines are to be written, and no more is asked for than is wanted
abbrev Asks : Option DataAsk → DataLink → Type 0
Asks None d = Unit {0}
Asks (Some Leaving) d = Unit {0}
Asks (Some (Fetching most)) d = (most ≤ d.wanted) × (d.lines ≡ None)

record Counts (conf : ClientConf) (d : DataLink) (done : ℕ) : Type 0 where
  asks : Asks d.asked d
  few : lines_count d.lines ≤ d.wanted
  sum : d.wanted + done ≡ conf.count

no_less : (m n : ℕ) → nat_lt m n ≡ false → n ≤ m
no_less m n e = grind (arith, nat_tests)

most_wanted : (d : DataLink) (b : Bool) → nat_lt d.wanted 500 ≡ b → (if b then d.wanted else 500) ≤ d.wanted
most_wanted d true e = omega (arith)
most_wanted d false e = no_less d.wanted 500 e

none_lines : (lines : Option Lines) → is_some lines ≡ false → lines ≡ None
none_lines None e = refl
none_lines (Some l) e = absurd cc

module _ (conf : ClientConf) (d : DataLink) (done : ℕ) (ih : Counts conf d done) where
  counts_requested : (b : Bool) (topics : List AssignedTopic) → is_some d.lines ≡ false → Counts conf (if b then behind_last d else behind_fetch d topics) done
  counts_requested true topics none = record { asks = tt; few = ih.few; sum = ih.sum }
  counts_requested false topics none = record { asks = (most_wanted d (nat_lt d.wanted 500) refl, none_lines d.lines none); few = ih.few; sum = ih.sum }

  counts_fetched : (most : ℕ) (reply : LocatedFetch) (told : Result LocatedFetch ClientFault) → most ≤ d.wanted → told ≡ Ok reply → Tells reply most None → Counts conf (fetched_by d told) done
  counts_fetched most reply told le e h = subst (λ (r : Result LocatedFetch ClientFault). Counts conf (fetched_by d r) done) (sym e) (record {
    asks = tt;
    few = few_lines (acknowledgements reply) (deliveries reply) d.wanted (omega (arith, le, few_entries [] most (flat_map entries_of reply.responses) h));
    sum = ih.sum;
  })

  counts_left : (told : Result ShareAckReply ClientFault) → Counts conf (left_by d told) done
  counts_left (Ok reply) = record { asks = tt; few = ih.few; sum = ih.sum }
  counts_left (Err fault) = ih

  counts_replied : (asked : Option DataAsk) (frame : List ℕ) → Asks asked d → TakesReply frame asked (Ok Taken) → Counts conf (behind_reply d asked frame) done
  counts_replied None frame a h = absurd h
  counts_replied (Some (Fetching most)) frame a h = counts_fetched most h.0 (said (located_in frame)) a.0 h.1.0 h.1.1
  counts_replied (Some Leaving) frame a h = counts_left (heard_last frame)

  counts_awaited : (b : Bool) (frame : List ℕ) → MatchBool b (TakesReply frame d.asked (Ok Taken)) (◌≡◌ {A = Result Took ClientFault} (Ok Taken) (Ok Stray)) → Counts conf (behind_reply d d.asked frame) done
  counts_awaited true frame h = counts_replied d.asked frame ih.asks h
  counts_awaited false frame h = absurd cc

  asks_written : (asked : Option DataAsk) → Asks asked d → Asks asked (behind_written d)
  asks_written None a = tt
  asks_written (Some Leaving) a = tt
  asks_written (Some (Fetching most)) a = (omega (arith, a.0, ap (λ (l : Option Lines). lines_count l) a.1), refl)

  counts_written : Counts conf (behind_written d) (lines_count d.lines + done)
  counts_written = record { asks = asks_written d.asked ih.asks; few = omega (arith); sum = omega (arith, ih.few, ih.sum) }

counts : (conf : ClientConf) (trace : Trace) → AreAllowed conf trace → Counts conf (kept conf trace) (written conf trace)
counts conf [] h = record { asks = tt; few = omega (arith); sum = omega (arith) }
counts conf (Asked now (Err none) ∷ t) h = counts conf t h.1
counts conf (Asked now (Ok Done) ∷ t) h = counts conf t h.1
counts conf (Asked now (Ok (Wait until)) ∷ t) h = counts conf t h.1
counts conf (Asked now (Ok (Write lines)) ∷ t) h = counts conf t h.1
counts conf (Asked now (Ok (Heartbeat frame)) ∷ t) h = counts conf t h.1
counts conf (Asked now (Ok (Fetch frame)) ∷ t) h = counts_requested conf (kept conf t) (written conf t) (counts conf t h.1) (is_served (kept conf t)) (topics_in (assigned t)) h.0.1
counts conf (Got Group frame (Ok Taken) ∷ t) h = counts conf t h.1
counts conf (Got Group frame (Ok Stray) ∷ t) h = counts conf t h.1
counts conf (Got Group frame (Err fault) ∷ t) h = counts conf t h.1
counts conf (Got Data frame (Ok Taken) ∷ t) h = counts_awaited conf (kept conf t) (written conf t) (counts conf t h.1) (awaits conf t Data frame) frame h.0
counts conf (Got Data frame (Ok Stray) ∷ t) h = counts conf t h.1
counts conf (Got Data frame (Err fault) ∷ t) h = counts conf t h.1
counts conf (Lost Group ∷ t) h = counts conf t h.1
counts conf (Lost Data ∷ t) h = (let c = counts conf t h.1 in record { asks = tt; few = c.few; sum = c.sum })
counts conf (Wrote ∷ t) h = counts_written conf (kept conf t) (written conf t) (counts conf t h.1)

pub bounded : (conf : ClientConf) (trace : Trace) → AreAllowed conf trace → IsBounded conf trace
bounded conf trace h = let c = counts conf trace h in omega (arith, c.few, c.sum)

-- ---- what is written was handed out

-- lines that were handed out and aren't yet taken as written are those that are kept
abbrev IsHanded : Bool → Option (List ℕ) → Option Lines → Type 0
IsHanded false text lines = Unit {0}
IsHanded true text lines = (text ≡ Some (lines_text lines)) × (is_some lines ≡ true)

module _ (b : Bool) (text : Option (List ℕ)) (d : DataLink) (ih : IsHanded b text d.lines) where
  handed_never : (writing : Bool) (lines : Option Lines) → lines ≡ None → IsHanded writing text lines → (other : Option Lines) → IsHanded writing text other
  handed_never false lines e h other = tt
  handed_never true None e h other = absurd cc
  handed_never true (Some l) e h other = absurd cc

  handed_requested : (served : Bool) (topics : List AssignedTopic) → IsHanded b text (if served then behind_last d else behind_fetch d topics).lines
  handed_requested true topics = ih
  handed_requested false topics = ih

  handed_fetched : (told : Result LocatedFetch ClientFault) → d.lines ≡ None → IsHanded b text (fetched_by d told).lines
  handed_fetched (Ok reply) none = handed_never b d.lines none ih (granted_lines (acknowledgements reply) (deliveries reply))
  handed_fetched (Err fault) none = ih

  handed_left : (told : Result ShareAckReply ClientFault) → IsHanded b text (left_by d told).lines
  handed_left (Ok reply) = ih
  handed_left (Err fault) = ih

  handed_replied : (asked : Option DataAsk) (frame : List ℕ) → Asks asked d → IsHanded b text (behind_reply d asked frame).lines
  handed_replied None frame a = ih
  handed_replied (Some (Fetching most)) frame a = handed_fetched (said (located_in frame)) a.1
  handed_replied (Some Leaving) frame a = handed_left (heard_last frame)

is_handed : (conf : ClientConf) (trace : Trace) → AreAllowed conf trace → IsHanded (is_writing trace) (handed trace) (kept conf trace).lines
is_handed conf [] h = tt
is_handed conf (Asked now (Err none) ∷ t) h = is_handed conf t h.1
is_handed conf (Asked now (Ok Done) ∷ t) h = is_handed conf t h.1
is_handed conf (Asked now (Ok (Wait until)) ∷ t) h = is_handed conf t h.1
is_handed conf (Asked now (Ok (Write lines)) ∷ t) h = (ap (λ (x : List ℕ). Some x) h.0.2, h.0.1)
is_handed conf (Asked now (Ok (Heartbeat frame)) ∷ t) h = is_handed conf t h.1
is_handed conf (Asked now (Ok (Fetch frame)) ∷ t) h = handed_requested (is_writing t) (handed t) (kept conf t) (is_handed conf t h.1) (is_served (kept conf t)) (topics_in (assigned t))
is_handed conf (Got Group frame (Ok Taken) ∷ t) h = is_handed conf t h.1
is_handed conf (Got Group frame (Ok Stray) ∷ t) h = is_handed conf t h.1
is_handed conf (Got Group frame (Err fault) ∷ t) h = is_handed conf t h.1
is_handed conf (Got Data frame (Ok Taken) ∷ t) h = handed_replied (is_writing t) (handed t) (kept conf t) (is_handed conf t h.1) (kept conf t).asked frame (counts conf t h.1).asks
is_handed conf (Got Data frame (Ok Stray) ∷ t) h = is_handed conf t h.1
is_handed conf (Got Data frame (Err fault) ∷ t) h = is_handed conf t h.1
is_handed conf (Lost Group ∷ t) h = is_handed conf t h.1
is_handed conf (Lost Data ∷ t) h = is_handed conf t h.1
is_handed conf (Wrote ∷ t) h = tt

handed_where : (writing : Bool) (text : Option (List ℕ)) (lines : Option Lines) → writing ≡ true → IsHanded writing text lines → text ≡ Some (lines_text lines)
handed_where true text lines e h = h.0
handed_where false text lines e h = absurd cc

pub writes_handed : (conf : ClientConf) (trace : Trace) → AreAllowed conf trace → WritesWhatWasHanded conf trace
writes_handed conf [] h = tt
writes_handed conf (Asked now (Err none) ∷ t) h = writes_handed conf t h.1
writes_handed conf (Asked now (Ok Done) ∷ t) h = writes_handed conf t h.1
writes_handed conf (Asked now (Ok (Wait until)) ∷ t) h = writes_handed conf t h.1
writes_handed conf (Asked now (Ok (Write lines)) ∷ t) h = writes_handed conf t h.1
writes_handed conf (Asked now (Ok (Heartbeat frame)) ∷ t) h = writes_handed conf t h.1
writes_handed conf (Asked now (Ok (Fetch frame)) ∷ t) h = writes_handed conf t h.1
writes_handed conf (Got Group frame (Ok Taken) ∷ t) h = writes_handed conf t h.1
writes_handed conf (Got Group frame (Ok Stray) ∷ t) h = writes_handed conf t h.1
writes_handed conf (Got Group frame (Err fault) ∷ t) h = writes_handed conf t h.1
writes_handed conf (Got Data frame (Ok Taken) ∷ t) h = writes_handed conf t h.1
writes_handed conf (Got Data frame (Ok Stray) ∷ t) h = writes_handed conf t h.1
writes_handed conf (Got Data frame (Err fault) ∷ t) h = writes_handed conf t h.1
writes_handed conf (Lost Group ∷ t) h = writes_handed conf t h.1
writes_handed conf (Lost Data ∷ t) h = writes_handed conf t h.1
writes_handed conf (Wrote ∷ t) h = (
  handed_where (is_writing t) (handed t) (kept conf t).lines h.0 (is_handed conf t h.1)
      ∙ ap (λ (l : Option Lines). Some (lines_text l)) (writes_taken conf t),
  writes_handed conf t h.1,
)
