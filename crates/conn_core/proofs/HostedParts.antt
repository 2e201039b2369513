-- Each call asks hosted shards alone.
use Rattle.std.proofs.Common.{◌≡◌, ◌<◌, ℕ, ℤ, pos, int_lt, Bool, true, false, List, [], ◌∷◌, ◌++◌, Option, Some, None, All, map, flat_map}
use Rattle.std.proofs.Common.{refl, sym, subst, if◌then◌else◌}
use Rattle.std.specs.List.{cons_option, slice_index_or}
use Rattle.std.proofs.lemmas.List.Elements.{All-nil, All-cons, All-head, All-tail, All-append, All-map, All-weaker}
use Rattle.flex_fields.specs.Formats.{Format}
use Rattle.share_model.specs.declared.fault.Code.{Code}
use Rattle.share_model.specs.ErrorCodes.{INVALID_REQUEST}
use Rattle.topic_conf.specs.Configs.{ConfigParts}
use Rattle.topic_conf.specs.declared.topic.Topic.{Topic}
use Rattle.topic_conf.specs.Topics.{shard_at, partitions}
use Rattle.topic_conf.proofs.Shards.{shard_below}
use Rattle.flex_fields.specs.declared.version.Version.{Version}
use Rattle.msgs_base.specs.declared.delete_records_request.DeleteRecordsPartition.{DeleteRecordsPartition}
use Rattle.msgs_base.specs.declared.delete_records_request.DeleteRecordsTopic.{DeleteRecordsTopic}
use Rattle.msgs_base.specs.declared.delete_records_request.DeleteRecordsRequest.{DeleteRecordsRequest}
use Rattle.msgs_base.specs.declared.produce_request.ProducePartition.{ProducePartition}
use Rattle.msgs_base.specs.declared.produce_request.ProduceTopic.{ProduceTopic}
use Rattle.msgs_base.specs.declared.produce_request.ProduceRequest.{ProduceRequest}
use Rattle.msgs_share.specs.declared.share_fetch_request.ShareFetchRequest.{ShareFetchRequest}
use Rattle.msgs_share.specs.declared.share_ack_request.ShareAckRequest.{ShareAckRequest}
use Rattle.msgs_share.specs.declared.share_topic.SharePartition.{SharePartition}
use Rattle.msgs_state.specs.declared.state_message.StateTopic.{StateTopic}
use Rattle.msgs_state.specs.declared.state_message.StateRequest.{StateRequest}
use Rattle.call_fold.specs.declared.call.Entry.{Entry}
use Rattle.call_fold.specs.declared.call.Entry.TheVariants.{Known, Ask}
use Rattle.call_fold.specs.declared.call.Stage.TheVariants.{Says}
use Rattle.call_fold.specs.Calls.{Acts}
use Rattle.call_fold.specs.Going.{stage_of, known_rows}
use Rattle.call_fold.specs.Talks.{talk, talk_of, stage_talk}
use Rattle.call_fold.proofs.Talked.{means_entries}
use Rattle.state_calls.specs.declared.hosting.Hosting.{Hosting}
use Rattle.state_calls.specs.declared.hosting.Hosting.TheVariants.{Refuses, Looks}
use Rattle.state_calls.specs.declared.plan.Fate.{Fate}
use Rattle.state_calls.specs.declared.plan.Fate.TheVariants.{Refused, LookedAt, AskedAbroad}
use Rattle.state_calls.specs.States.{StateMeans, is_group, is_hosted, hosted_fate, fate, fate_of, entry_of, partition_entry, topic_entries, shape_of}
use Rattle.state_calls.specs.StateCalls.{state_acts, state_body, hand_of}
use Rattle.state_calls.specs.StateTalks.{state_talk}
use Rattle.log_calls.specs.Produce.{Fate as ProduceFate, fate as produce_fate, fate_of as produce_fate_of, id_named, shard_in, entry_of as offer_of, topic_entries as offers_in, produce_acts, hand_of as produce_hand}
use Rattle.log_calls.specs.Delete.{delete_acts, target_entries, target_entry, target_shape}
use Rattle.log_calls.specs.DeleteTalks.{delete_talk}
use Rattle.log_calls.specs.Produce.Fate.{refuses, offers}
use Rattle.log_calls.specs.ProduceTalks.{produce_talk}
use Rattle.log_calls.specs.Codes.{request_refusal}
use Rattle.share_session.specs.declared.fault.SessionFault.{SessionFault}
use Rattle.share_session.specs.declared.step.PlanStep.{PlanStep}
use Rattle.share_session.specs.SessionParts.{SessionParts}
use Rattle.share_session.specs.Sessions.{session_of}
use Rattle.share_session.specs.Requests.{text_of, wanted_in, forgotten_in, entries}
use Rattle.share_session.specs.Refusals.{code_of}
use Rattle.share_session.specs.Plans.{caller_of, fetch_plan, ack_plan, fetch_refusal, ack_refusal}
use Rattle.share_calls.specs.declared.visiting.Visiting.{Visiting}
use Rattle.share_calls.specs.declared.fetch_rows.FetchRow.{FetchRow}
use Rattle.share_calls.specs.Changes.{changed}
use Rattle.share_calls.specs.Codes.{unhosted_code}
use Rattle.share_calls.specs.Visits.{untold}
use Rattle.share_calls.specs.Fetch.{told, known, unhosted, fetch_acts, fetch_entries, fetch_hand, refused_with, fetch_begins_by, fetch_begins}
use Rattle.share_calls.specs.Wishes.{wish_of}
use Rattle.share_calls.specs.FetchTalks.{request_talk}
use Rattle.share_calls.specs.Acknowledge.{AckEntry, acknowledged, next_entry, id_of, steps_behind, placed, ack_acts, ack_entries, ack_hand, ack_refused, ack_begins_by, ack_begins}
use Rattle.share_calls.specs.AckTalks.{ack_talk}
use Rattle.conn_core.specs.HostedShards.{IsHostedPart, AsksHosted, HasHosted}
use Rattle.conn_core.proofs.WithinShards.{StepBelow, PlanBelow, fetch_below, ack_below, sessions_below, wanted_below, applied_below}

abbrev FetchEntry : Type 0
FetchEntry = Entry Visiting (Option FetchRow)

-- ---- a talk asks what its entries ask

abbrev pub EntryHosted : {C Q R : Type 0} → Acts C Q R → ℕ → Entry Q R → Type 0
EntryHosted acts n (Known row) = Unit {0}
EntryHosted {C} acts n (Ask question) = (call : C) → IsHostedPart n (acts.part call question)

talk_hosted : {C Q R : Type 0} (acts : Acts C Q R) (n : ℕ) (call : C) (es : List (Entry Q R)) (rows : List R) → All (EntryHosted acts n) es →
    AsksHosted n (talk acts call es rows)
talk_hosted acts n call [] rows h = tt
talk_hosted acts n call (Known row ∷ es) rows h = talk_hosted acts n call es (rows ++ row ∷ []) (All-tail (EntryHosted acts n) (Known row) es h)
talk_hosted acts n call (Ask question ∷ es) rows h = (
  All-head (EntryHosted acts n) (Ask question) es h call,
  λ answer. talk_hosted acts n (acts.next call question answer) es (rows ++ acts.row call question answer ∷ []) (All-tail (EntryHosted acts n) (Ask question) es h),
)

pub stage_hosted : {C Q R : Type 0} (acts : Acts C Q R) (n : ℕ) (call : C) (es : List (Entry Q R)) → All (EntryHosted acts n) es →
    AsksHosted n (stage_talk (talk_of acts) (stage_of acts call es []))
stage_hosted acts n call es h = subst (AsksHosted n) (sym ((means_entries acts).begins call es)) (talk_hosted acts n call es [] h)

-- groups of entries
groups_hosted : {C Q R T : Type 0} (acts : Acts C Q R) (n : ℕ) (items : T → List (Entry Q R)) (ts : List T) → ((t : T) → All (EntryHosted acts n) (items t)) →
    All (EntryHosted acts n) (flat_map items ts)
groups_hosted acts n items [] each = All-nil (EntryHosted acts n)
groups_hosted acts n items (t ∷ ts) each = All-append (EntryHosted acts n) (items t) (flat_map items ts) (each t) (groups_hosted acts n items ts each)

-- ---- state calls

looked_shard : (hosted : Bool) (hosting : Hosting) (o : Option ℕ) (partition : ℤ) (shard : ℕ) → fate true hosted hosting o partition ≡ LookedAt shard → o ≡ Some shard
looked_shard hosted hosting o partition shard e = go (int_lt partition (pos 0)) hosted hosting o e
  where
    go : (below hosted : Bool) (hosting : Hosting) (o : Option ℕ) →
        (if below then Refused INVALID_REQUEST else if hosted then hosted_fate hosting o else AskedAbroad) ≡ LookedAt shard → o ≡ Some shard
    go true hosted hosting o e = absurd cc
    go false false hosting o e = absurd cc
    go false true (Refuses code) o e = absurd cc
    go false true Looks None e = absurd cc
    go false true Looks (Some s) e = let same : s ≡ shard = cc in cc

module _ (S : Type 0) {P W R : Type 0} (means : StateMeans P W R) (f : Format R) (topics : List Topic) where
  one_hosted : (topic : List ℕ) (x : ℤ × W) (o : Fate) → ((shard : ℕ) → o ≡ LookedAt shard → shard < partitions topics) →
      EntryHosted (state_acts {S = S} means f) (partitions topics) (entry_of means topic x o)
  one_hosted topic x (Refused code) h = tt
  one_hosted topic x (LookedAt shard) h = λ call. h shard refl
  one_hosted topic x AskedAbroad h = λ call. tt

  topic_hosted : (t : StateTopic P) → All (EntryHosted (state_acts {S = S} means f) (partitions topics)) (topic_entries means topics true t)
  topic_hosted t = All-map (EntryHosted (state_acts {S = S} means f) (partitions topics)) (partition_entry means topics true t.topic_id) t.partitions
      (λ k d within. own (slice_index_or t.partitions k d))
    where
      own : (p : P) → EntryHosted (state_acts {S = S} means f) (partitions topics) (partition_entry means topics true t.topic_id p)
      own p = one_hosted t.topic_id (means.wish p) (fate_of means topics true t.topic_id p) (λ shard e.
          shard_below topics t.topic_id (means.wish p).0 shard
          (looked_shard (is_hosted topics t.topic_id) means.hosted (shard_at t.topic_id (means.wish p).0 topics) (means.wish p).0 shard e))

  pub state_hosted : (call : S) (m : StateRequest P) → AsksHosted (partitions topics) (state_talk means f topics call m)
  state_hosted call m = go (is_group m.group_id)
    where
      go : (b : Bool) → AsksHosted (partitions topics) (stage_talk (talk_of (state_acts {S = S} means f))
          (if b then stage_of (state_acts means f) (hand_of call m) (flat_map (topic_entries means topics true) m.topics) []
          else Says (state_body f (map shape_of m.topics) (known_rows (flat_map (topic_entries means topics false) m.topics)))))
      go true = stage_hosted (state_acts means f) (partitions topics) (hand_of call m) (flat_map (topic_entries means topics true) m.topics)
          (groups_hosted (state_acts {S = S} means f) (partitions topics) (topic_entries means topics true) m.topics topic_hosted)
      go false = tt

-- ---- Produce

offered : (refusal : Option Code) (o : Option ℕ) (records : Option (List ℕ)) (shard : ℕ) (batch : List ℕ) → produce_fate refusal o records ≡ offers shard batch → o ≡ Some shard
offered (Some code) o records shard batch e = absurd cc
offered None None records shard batch e = absurd cc
offered None (Some s) None shard batch e = absurd cc
offered None (Some s) (Some b) shard batch e = let same : s ≡ shard = cc in cc

named_below : (topics : List Topic) (id : Option (List ℕ)) (index : ℤ) (shard : ℕ) → shard_in topics id index ≡ Some shard → shard < partitions topics
named_below topics None index shard e = absurd cc
named_below topics (Some id) index shard e = shard_below topics id index shard e

module _ (topics : List Topic) where
  offer_hosted : (index : ℤ) (o : ProduceFate) → ((shard : ℕ) (batch : List ℕ) → o ≡ offers shard batch → shard < partitions topics) →
      EntryHosted produce_acts (partitions topics) (offer_of index o)
  offer_hosted index (refuses code) h = tt
  offer_hosted index (offers shard batch) h = λ call. h shard batch refl

  offers_hosted : (refusal : Option Code) (t : ProduceTopic) → All (EntryHosted produce_acts (partitions topics)) (offers_in topics refusal t)
  offers_hosted refusal t = All-map (EntryHosted produce_acts (partitions topics)) (λ (p : ProducePartition). offer_of p.index (produce_fate_of topics refusal t.name p)) t.partition_data
      (λ k d within. own (slice_index_or t.partition_data k d))
    where
      own : (p : ProducePartition) → EntryHosted produce_acts (partitions topics) (offer_of p.index (produce_fate_of topics refusal t.name p))
      own p = offer_hosted p.index (produce_fate_of topics refusal t.name p) (λ shard batch e.
          named_below topics (id_named topics t.name) p.index shard (offered refusal (shard_in topics (id_named topics t.name) p.index) p.records shard batch e))

  pub produce_hosted : (version : Version) (m : ProduceRequest) → AsksHosted (partitions topics) (produce_talk version topics m)
  produce_hosted version m = stage_hosted produce_acts (partitions topics) (produce_hand version m) (flat_map (offers_in topics (request_refusal m.acks m.transactional_id)) m.topic_data)
      (groups_hosted produce_acts (partitions topics) (offers_in topics (request_refusal m.acks m.transactional_id)) m.topic_data
      (offers_hosted (request_refusal m.acks m.transactional_id)))

-- ---- DeleteRecords

module _ (topics : List Topic) where
  target_hosted : (p : DeleteRecordsPartition) (o : Option ℕ) → ((shard : ℕ) → o ≡ Some shard → shard < partitions topics) →
      EntryHosted delete_acts (partitions topics) (target_entry p o)
  target_hosted p None h = tt
  target_hosted p (Some shard) h = λ call. h shard refl

  targets_hosted : (t : DeleteRecordsTopic) → All (EntryHosted delete_acts (partitions topics)) (target_entries topics t)
  targets_hosted t = All-map (EntryHosted delete_acts (partitions topics)) (λ (p : DeleteRecordsPartition). target_entry p (shard_in topics (id_named topics t.name) p.partition_index)) t.partitions
      (λ k d within. own (slice_index_or t.partitions k d))
    where
      own : (p : DeleteRecordsPartition) → EntryHosted delete_acts (partitions topics) (target_entry p (shard_in topics (id_named topics t.name) p.partition_index))
      own p = target_hosted p (shard_in topics (id_named topics t.name) p.partition_index)
          (λ shard e. named_below topics (id_named topics t.name) p.partition_index shard e)

  pub delete_records_hosted : (m : DeleteRecordsRequest) → AsksHosted (partitions topics) (delete_talk topics m)
  delete_records_hosted m = stage_hosted delete_acts (partitions topics) (record { shape = map target_shape m.topics }) (flat_map (target_entries topics) m.topics)
      (groups_hosted delete_acts (partitions topics) (target_entries topics) m.topics targets_hosted)

-- ---- share requests

module _ (topics : List Topic) (sessions : List SessionParts) (all : All (HasHosted (partitions topics)) sessions) where
  fetch_plan_below : (m : ShareFetchRequest) → PlanBelow (partitions topics) (fetch_plan sessions topics m)
  fetch_plan_below m =
      fetch_below (partitions topics) (caller_of m.group_id m.member_id) (session_of (text_of m.group_id) (text_of m.member_id) sessions) m.share_session_epoch
      (wanted_in topics m.topics) (sessions_below (partitions topics) (text_of m.group_id) (text_of m.member_id) sessions all)
      (wanted_below topics (entries m.topics)) (forgotten_in topics m.forgotten_topics_data)

  ack_plan_below : (m : ShareAckRequest) → PlanBelow (partitions topics) (ack_plan sessions topics m)
  ack_plan_below m =
      ack_below (partitions topics) (caller_of m.group_id m.member_id) (session_of (text_of m.group_id) (text_of m.member_id) sessions) m.share_session_epoch
      (wanted_in topics m.topics) (sessions_below (partitions topics) (text_of m.group_id) (text_of m.member_id) sessions all)
      (wanted_below topics (entries m.topics))

  -- ---- a fetch

  abbrev FetchHosted : FetchEntry → Type 0
  FetchHosted = EntryHosted fetch_acts (partitions topics)

  untold_hosted : (steps : List PlanStep) → All (StepBelow (partitions topics)) steps → All FetchHosted (map untold steps)
  untold_hosted steps h = All-map FetchHosted untold steps
      (All-weaker (StepBelow (partitions topics)) (λ (s : PlanStep). FetchHosted (untold s)) (λ s below call. below) steps h)

  told_hosted : (steps : List PlanStep) → All (StepBelow (partitions topics)) steps → All FetchHosted (map (told topics) steps)
  told_hosted steps h = All-map FetchHosted (told topics) steps
      (All-weaker (StepBelow (partitions topics)) (λ (s : PlanStep). FetchHosted (told topics s)) (λ s below call. below) steps h)

  known_hosted : (rows : List FetchRow) → All FetchHosted (map known rows)
  known_hosted rows = All-map FetchHosted known rows (λ k d within. tt)

  fetch_entries_hosted : (m : ShareFetchRequest) → All FetchHosted (fetch_entries topics m (fetch_plan sessions topics m))
  fetch_entries_hosted m =
      let plan = fetch_plan sessions topics m in
      let below = fetch_plan_below m in
      let behind : List FetchEntry = map known (unhosted topics m) in
      let closed : List FetchEntry = map untold plan.closed in
      let middle : List FetchEntry = map (told topics) plan.told in
      All-append FetchHosted (map untold plan.released) (middle ++ (closed ++ behind)) (untold_hosted plan.released below.released)
      (All-append FetchHosted middle (closed ++ behind) (told_hosted plan.told below.told)
      (All-append FetchHosted closed behind (untold_hosted plan.closed below.closed) (known_hosted (unhosted topics m))))

-- what a request does to the sessions keeps them such
abbrev pub SessionsHosted : ℕ → List SessionParts → Type 0
SessionsHosted n sessions = All (HasHosted n) sessions

module _ (conf : ConfigParts) (sessions : List SessionParts) (all : All (HasHosted (partitions conf.topics)) sessions) where
  pub fetch_hosted : (m : ShareFetchRequest) → AsksHosted (partitions conf.topics) (request_talk conf sessions m)
  fetch_hosted m = go (fetch_refusal sessions m)
    where
      refused : (o : Option Code) → AsksHosted (partitions conf.topics) (stage_talk (talk_of fetch_acts) (refused_with conf o).stage)
      refused None = tt
      refused (Some code) = tt

      go : (o : Option SessionFault) → AsksHosted (partitions conf.topics) (stage_talk (talk_of fetch_acts) (fetch_begins_by conf sessions m o).stage)
      go None = stage_hosted fetch_acts (partitions conf.topics) (fetch_hand conf m (wish_of m (fetch_plan sessions conf.topics m).told)) (fetch_entries conf.topics m (fetch_plan sessions conf.topics m))
          (fetch_entries_hosted conf.topics sessions all m)
      go (Some fault) = refused (code_of fault)

  pub fetch_leaves : (m : ShareFetchRequest) → SessionsHosted (partitions conf.topics) (changed (fetch_begins conf sessions m).change sessions)
  fetch_leaves m = go (fetch_refusal sessions m)
    where
      refused : (o : Option Code) → SessionsHosted (partitions conf.topics) (changed (refused_with conf o).change sessions)
      refused None = all
      refused (Some code) = all

      go : (o : Option SessionFault) → SessionsHosted (partitions conf.topics) (changed (fetch_begins_by conf sessions m o).change sessions)
      go None = applied_below (partitions conf.topics) (fetch_plan sessions conf.topics m).change sessions (fetch_plan_below conf.topics sessions all m).change all
      go (Some fault) = refused (code_of fault)

-- ---- an acknowledgement

module _ (topics : List Topic) where
  abbrev AckHosted : AckEntry → Type 0
  AckHosted = EntryHosted ack_acts (partitions topics)

  abbrev AllBelow : List PlanStep → Type 0
  AllBelow steps = All (StepBelow (partitions topics)) steps

  placed_hosted : (steps : List PlanStep) (es : List (List ℕ × SharePartition)) → AllBelow steps → All AckHosted (placed topics steps es)
  placed_hosted steps [] h = All-nil AckHosted
  placed_hosted steps (e ∷ es) h = go (shard_at e.0 e.1.partition_index topics) steps h (λ later g. placed_hosted later es g)
    where
      go : (o : Option ℕ) (steps : List PlanStep) → AllBelow steps → ((later : List PlanStep) → AllBelow later → All AckHosted (placed topics later es)) →
          All AckHosted (cons_option (next_entry o (unhosted_code topics e.0) (id_of e) steps) (placed topics (steps_behind o steps) es))
      go None steps h rest = All-cons AckHosted (Known (Some (acknowledged e.1.partition_index (unhosted_code topics e.0)))) (placed topics steps es) tt (rest steps h)
      go (Some shard) [] h rest = rest [] h
      go (Some shard) (s ∷ steps) h rest =
          All-cons AckHosted (Ask (record { step = s; told = Some (id_of e) })) (placed topics steps es) (λ call. All-head (StepBelow (partitions topics)) s steps h)
          (rest steps (All-tail (StepBelow (partitions topics)) s steps h))

module _ (topics : List Topic) (sessions : List SessionParts) (all : All (HasHosted (partitions topics)) sessions) where
  ack_entries_hosted : (m : ShareAckRequest) → All (AckHosted topics) (ack_entries topics m (ack_plan sessions topics m))
  ack_entries_hosted m =
      let plan = ack_plan sessions topics m in
      let below = ack_plan_below topics sessions all m in
      All-append (AckHosted topics) (placed topics plan.told (entries m.topics)) (map untold plan.closed)
      (placed_hosted topics plan.told (entries m.topics) below.told)
      (All-map (AckHosted topics) untold plan.closed
      (All-weaker (StepBelow (partitions topics)) (λ (s : PlanStep). AckHosted topics (untold s)) (λ s here call. here) plan.closed below.closed))

  pub ack_hosted : (m : ShareAckRequest) → AsksHosted (partitions topics) (ack_talk topics sessions m)
  ack_hosted m = go (ack_refusal sessions m)
    where
      refused : (o : Option Code) → AsksHosted (partitions topics) (stage_talk (talk_of ack_acts) (ack_refused o).stage)
      refused None = tt
      refused (Some code) = tt

      go : (o : Option SessionFault) → AsksHosted (partitions topics) (stage_talk (talk_of ack_acts) (ack_begins_by topics sessions m o).stage)
      go None = stage_hosted ack_acts (partitions topics) (ack_hand m) (ack_entries topics m (ack_plan sessions topics m)) (ack_entries_hosted m)
      go (Some fault) = refused (code_of fault)

  pub ack_leaves : (m : ShareAckRequest) → SessionsHosted (partitions topics) (changed (ack_begins topics sessions m).change sessions)
  ack_leaves m = go (ack_refusal sessions m)
    where
      refused : (o : Option Code) → SessionsHosted (partitions topics) (changed (ack_refused o).change sessions)
      refused None = all
      refused (Some code) = all

      go : (o : Option SessionFault) → SessionsHosted (partitions topics) (changed (ack_begins_by topics sessions m o).change sessions)
      go None = applied_below (partitions topics) (ack_plan sessions topics m).change sessions (ack_plan_below topics sessions all m).change all
      go (Some fault) = refused (code_of fault)
