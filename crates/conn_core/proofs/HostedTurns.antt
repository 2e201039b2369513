-- A connection asks hosted shards alone.
use Rattle.std.proofs.Common.{◌≡◌, ℕ, ℤ, Bool, true, false, List, [], ◌∷◌, Option, Some, None, Result, Ok, Err, All}
use Rattle.std.proofs.Common.{refl, sym, subst, if◌then◌else◌}
use Rattle.std.proofs.lemmas.List.Elements.{All-nil, All-head, All-drop}
use Rattle.flex_fields.specs.declared.fault.WireFault.{WireFault}
use Rattle.flex_fields.specs.declared.version.Version.{Version}
use Rattle.flex_fields.specs.Reading.{At}
use Rattle.share_model.specs.declared.close_cause.CloseCause.{CloseCause}
use Rattle.share_model.specs.declared.close_cause.CloseCause.TheVariants.{TooLong as CauseTooLong, LongReply}
use Rattle.topic_conf.specs.Configs.{ConfigParts}
use Rattle.topic_conf.specs.Topics.{partitions}
use Rattle.req_head.specs.InTwo.{head_start, head_rest}
use Rattle.msgs_base.specs.ApiVersionsReply.{api_versions_reply}
use Rattle.msgs_base.specs.MetadataRequest.{metadata_request}
use Rattle.msgs_base.specs.FindCoordinatorRequest.{find_coordinator_request}
use Rattle.msgs_base.specs.DeleteRecordsRequest.{delete_records_request}
use Rattle.msgs_base.specs.ProduceRequest.{produce_request}
use Rattle.msgs_share.specs.ShareFetchRequest.{share_fetch_request}
use Rattle.msgs_share.specs.ShareAckRequest.{share_ack_request}
use Rattle.msgs_group.specs.HeartbeatRequest.{heartbeat_request}
use Rattle.msgs_state.specs.InitializeRequest.{initialize_share_group_state_request}
use Rattle.msgs_state.specs.ReadRequest.{read_share_group_state_request}
use Rattle.msgs_state.specs.WriteRequest.{write_share_group_state_request}
use Rattle.msgs_state.specs.DeleteRequest.{delete_share_group_state_request}
use Rattle.msgs_state.specs.StateReply.{partition_result}
use Rattle.msgs_state.specs.ReadReply.{read_partition_result}
use Rattle.call_fold.specs.declared.call.Stage.{Stage}
use Rattle.call_fold.specs.declared.call.Stage.TheVariants.{Asks, Says}
use Rattle.call_fold.specs.declared.part.PartAnswer.{PartAnswer}
use Rattle.call_fold.specs.Talks.{stage_talk}
use Rattle.state_calls.specs.declared.initialize.Initialize.{Initialize as InitializeCall}
use Rattle.state_calls.specs.declared.read.Read.{Read as ReadCall}
use Rattle.state_calls.specs.declared.write.Write.{Write as WriteCall}
use Rattle.state_calls.specs.declared.delete.Delete.{Delete as DeleteCall}
use Rattle.state_calls.specs.Initialize.{initialize_means}
use Rattle.state_calls.specs.Read.{read_means}
use Rattle.state_calls.specs.Write.{write_means}
use Rattle.state_calls.specs.Delete.{delete_means}
use Rattle.share_session.specs.declared.step.PlanStep.{PlanStep}
use Rattle.share_session.specs.SessionParts.{SessionParts}
use Rattle.share_calls.specs.Changes.{changed}
use Rattle.conn_core.specs.declared.api.Api.{Api}
use Rattle.conn_core.specs.declared.api.Api.TheVariants.{Produce, Metadata, FindCoordinator, ApiVersions, DeleteRecords}
use Rattle.conn_core.specs.declared.api.Api.TheVariants.{ShareGroupHeartbeat, ShareFetch, ShareAcknowledge, InitializeState, ReadState, WriteState, DeleteState}
use Rattle.conn_core.specs.declared.begun.Begun.{Begun}
use Rattle.conn_core.specs.declared.hand.Hand.{Hand}
use Rattle.conn_core.specs.declared.judge.Verdict.{Verdict}
use Rattle.conn_core.specs.declared.judge.Verdict.TheVariants.{Refused, Taken}
use Rattle.conn_core.specs.declared.sending.ReplyFrame.{ReplyFrame}
use Rattle.conn_core.specs.declared.sending.ReplyFrame.TheVariants.{Nothing, Frame, TooLong as FrameTooLong}
use Rattle.conn_core.specs.declared.stream.Front.{Front}
use Rattle.conn_core.specs.declared.stream.Front.TheVariants.{Partial, TooLong, Whole}
use Rattle.conn_core.specs.declared.work.Work.{Work}
use Rattle.conn_core.specs.declared.work.Work.TheVariants.{Free, Busy, Overlong, Closing}
use Rattle.conn_core.specs.Served.{overlooks, version_at, api_at}
use Rattle.conn_core.specs.Versions.{other_versions_answer, version_0}
use Rattle.conn_core.specs.Stream.{front_of, frame_at, behind_frame}
use Rattle.conn_core.specs.Frames.{reply_frame}
use Rattle.conn_core.specs.Hands.{hand_stage_after}
use Rattle.conn_core.specs.Beginning.{metadata_begins, coordinator_begins, versions_begins, produce_begins, delete_records_begins, fetch_begins, acknowledge_begins}
use Rattle.conn_core.specs.Beginning.{heartbeat_begins, initialize_begins, read_begins, write_begins, delete_begins}
use Rattle.conn_core.specs.Judging.{message_at, versions_request_at, message_verdict, reply_verdict, body_verdict, head_verdict, api_verdict, is_other_version, call_verdict, start_verdict, verdict}
use Rattle.conn_core.specs.Conns.{ConnParts, conn_after_bytes_at, conn_after_end_at, conn_after_end, taken_up}
use Rattle.conn_core.specs.Turning.{Turn, reply_turn, stage_turn, verdict_turn, front_turn, work_turn, turn, closing_turn, next_release}
use Rattle.conn_core.specs.Turning.{conn_with_reply, conn_at_stage, conn_after_answer_at}
use Rattle.conn_core.specs.Talking.{hand_talk}
use Rattle.conn_core.specs.Streams.{Act, conn_after}
use Rattle.conn_core.specs.Streams.Act.{feeds, asks, gives, ends, takes}
use Rattle.conn_core.specs.HostedShards.{AsksHosted, IsHostedWork, HasHosted, AreHostedIn, NextIsHosted, AsksHostedShards}
use Rattle.conn_core.proofs.Talking.{keeps_to_talk}
use Rattle.conn_core.proofs.WithinShards.{StepBelow, releases_below}
use Rattle.conn_core.proofs.HostedParts.{state_hosted, produce_hosted, delete_records_hosted, fetch_hosted, fetch_leaves, ack_hosted, ack_leaves, SessionsHosted}

module _ (conf : ConfigParts) where
  abbrev count : ℕ
  count = partitions conf.topics

  -- ---- with what a request begins

  record BegunHosted (sessions : List SessionParts) (begun : Begun) : Type 0 where
    stage : AsksHosted count (stage_talk hand_talk begun.stage)
    leaves : SessionsHosted count (changed begun.change sessions)

  abbrev VerdictHosted : List SessionParts → Verdict → Type 0
  VerdictHosted sessions (Refused cause) = Unit {0}
  VerdictHosted sessions (Taken tags correlation begun) = BegunHosted sessions begun

  module _ (sessions : List SessionParts) (all : SessionsHosted count sessions) where
    message_hosted : {A : Type 0} (begins : A → Begun) → ((m : A) → BegunHosted sessions (begins m)) → (tags : Bool) (correlation : ℤ) (r : Result A ℕ) →
        VerdictHosted sessions (message_verdict begins tags correlation r)
    message_hosted begins each tags correlation (Ok m) = each m
    message_hosted begins each tags correlation (Err place) = tt

    body_hosted : (api : Api) (version : Version) (correlation : ℤ) (at : At) → VerdictHosted sessions (body_verdict conf sessions api version correlation at)
    body_hosted Metadata version correlation at =
        message_hosted (metadata_begins version conf sessions) (λ m. record { stage = tt; leaves = all }) version.flexible correlation
        (message_at (overlooks conf.versions Metadata) (metadata_request version).format at)
    body_hosted FindCoordinator version correlation at =
        message_hosted (coordinator_begins conf sessions) (λ m. record { stage = tt; leaves = all }) true correlation (message_at false find_coordinator_request at)
    body_hosted ApiVersions version correlation at =
        message_hosted (versions_begins version conf sessions) (λ m. record { stage = tt; leaves = all }) false correlation (versions_request_at version.flexible at)
    body_hosted Produce version correlation at =
        message_hosted (produce_begins version conf sessions)
        (λ m. record { stage = subst (AsksHosted count) (sym (keeps_to_talk.produce version conf sessions m)) (produce_hosted conf.topics version m); leaves = all })
        version.flexible correlation (message_at false (produce_request version).format at)
    body_hosted DeleteRecords version correlation at =
        message_hosted (delete_records_begins conf sessions)
        (λ m. record { stage = subst (AsksHosted count) (sym (keeps_to_talk.delete_records conf sessions m)) (delete_records_hosted conf.topics m); leaves = all })
        true correlation (message_at false delete_records_request at)
    body_hosted ShareFetch version correlation at =
        message_hosted (fetch_begins conf sessions)
        (λ m. record { stage = subst (AsksHosted count) (sym (keeps_to_talk.fetch conf sessions m)) (fetch_hosted conf sessions all m); leaves = fetch_leaves conf sessions all m })
        true correlation (message_at false share_fetch_request at)
    body_hosted ShareAcknowledge version correlation at =
        message_hosted (acknowledge_begins conf sessions)
        (λ m. record { stage = subst (AsksHosted count) (sym (keeps_to_talk.acknowledge conf sessions m)) (ack_hosted conf.topics sessions all m); leaves = ack_leaves conf.topics sessions all m })
        true correlation (message_at false share_ack_request at)
    body_hosted ShareGroupHeartbeat version correlation at =
        message_hosted (heartbeat_begins conf sessions)
        (λ m. record { stage = subst (AsksHosted count) (sym (keeps_to_talk.heartbeat conf sessions m)) (tt, λ answer. tt); leaves = all })
        true correlation (message_at false heartbeat_request at)
    body_hosted InitializeState version correlation at =
        message_hosted (initialize_begins conf sessions)
        (λ m. record { stage = subst (AsksHosted count) (sym (keeps_to_talk.initialize conf sessions m)) (state_hosted InitializeCall initialize_means partition_result conf.topics (record {}) m); leaves = all })
        true correlation (message_at false initialize_share_group_state_request at)
    body_hosted ReadState version correlation at =
        message_hosted (read_begins conf sessions)
        (λ m. record { stage = subst (AsksHosted count) (sym (keeps_to_talk.read conf sessions m)) (state_hosted ReadCall read_means read_partition_result conf.topics (record {}) m); leaves = all })
        true correlation (message_at false read_share_group_state_request at)
    body_hosted WriteState version correlation at =
        message_hosted (write_begins conf sessions)
        (λ m. record { stage = subst (AsksHosted count) (sym (keeps_to_talk.write conf sessions m)) (state_hosted WriteCall write_means partition_result conf.topics (record {}) m); leaves = all })
        true correlation (message_at false write_share_group_state_request at)
    body_hosted DeleteState version correlation at =
        message_hosted (delete_begins conf sessions)
        (λ m. record { stage = subst (AsksHosted count) (sym (keeps_to_talk.delete conf sessions m)) (state_hosted DeleteCall delete_means partition_result conf.topics (record {}) m); leaves = all })
        true correlation (message_at false delete_share_group_state_request at)

    head_hosted : (api : Api) (version : Version) (correlation : ℤ) (r : Result (Option (List ℕ) × At) WireFault) → VerdictHosted sessions (head_verdict conf sessions api version correlation r)
    head_hosted api version correlation (Ok x) = body_hosted api version correlation x.1
    head_hosted api version correlation (Err fault) = tt

    api_hosted : (key version correlation : ℤ) (at : At) (o : Option Api) → VerdictHosted sessions (api_verdict conf sessions key version correlation at o)
    api_hosted key version correlation at (Some api) =
        head_hosted api (version_at api version) correlation ((head_rest (version_at api version).flexible).read at)
    api_hosted key version correlation at None = tt

    call_hosted : (key version correlation : ℤ) (at : At) → VerdictHosted sessions (call_verdict conf sessions key version correlation at)
    call_hosted key version correlation at = go (is_other_version conf.versions key version)
      where
        go : (b : Bool) → VerdictHosted sessions (if b then reply_verdict false correlation ((api_versions_reply version_0).format.bytes (other_versions_answer conf.versions))
            else api_verdict conf sessions key version correlation at (api_at conf.versions key version))
        go true = record { stage = tt; leaves = all }
        go false = api_hosted key version correlation at (api_at conf.versions key version)

    start_hosted : (r : Result ((ℤ × (ℤ × ℤ)) × At) WireFault) → VerdictHosted sessions (start_verdict conf sessions r)
    start_hosted (Ok x) = call_hosted x.0.0 x.0.1.0 x.0.1.1 x.1
    start_hosted (Err fault) = tt

    verdict_hosted : (frame : List ℕ) → VerdictHosted sessions (verdict conf sessions frame)
    verdict_hosted frame = start_hosted (head_start.read (record { place = 0; left = frame }))

  -- ---- a turn

  record TurnHosted (t : Turn) : Type 0 where
    next : NextIsHosted conf t.next
    conn : AreHostedIn conf t.conn

  ended_at : (work : Work) (conn : ConnParts) → conn.work ≡ work → AreHostedIn conf conn → AreHostedIn conf (conn_after_end_at work conn)
  ended_at Free conn is h = record { sessions = All-nil (HasHosted count); releases = releases_below count conn.sessions h.sessions; work = tt }
  ended_at (Busy tags correlation hand) conn is h = record { sessions = All-nil (HasHosted count); releases = releases_below count conn.sessions h.sessions; work = tt }
  ended_at Overlong conn is h = record { sessions = All-nil (HasHosted count); releases = releases_below count conn.sessions h.sessions; work = tt }
  ended_at Closing conn is h = h

  ended : (conn : ConnParts) → AreHostedIn conf conn → AreHostedIn conf (conn_after_end conn)
  ended conn h = ended_at conn.work conn refl h

  closed : (cause : CloseCause) (conn : ConnParts) → AreHostedIn conf conn → TurnHosted (closing_turn cause conn)
  closed cause conn h = record { next = tt; conn = ended conn h }

  replied : (conn : ConnParts) (f : ReplyFrame) → AreHostedIn conf conn → TurnHosted (reply_turn conn f)
  replied conn Nothing h = record { next = tt; conn = h }
  replied conn (Frame f) h = record { next = tt; conn = record { sessions = h.sessions; releases = h.releases; work = h.work } }
  replied conn FrameTooLong h = closed LongReply conn h

  begun : (conn : ConnParts) (tags : Bool) (correlation : ℤ) (stage : Stage Hand) → AreHostedIn conf conn → AsksHosted count (stage_talk hand_talk stage) →
      TurnHosted (stage_turn conn tags correlation stage)
  begun conn tags correlation (Says body) h a = replied conn (reply_frame tags correlation body) h
  begun conn tags correlation (Asks hand) h a = record { next = a.0; conn = record { sessions = h.sessions; releases = h.releases; work = a } }

  judged : (conn : ConnParts) (rest : List ℕ) (j : Verdict) → AreHostedIn conf conn → VerdictHosted conn.sessions j → TurnHosted (verdict_turn conn rest j)
  judged conn rest (Refused cause) h v = closed cause conn h
  judged conn rest (Taken tags correlation b) h v =
      begun (taken_up rest b.change conn) tags correlation b.stage (record { sessions = v.leaves; releases = h.releases; work = h.work }) v.stage

  front_hosted : (conn : ConnParts) (front : Front) → AreHostedIn conf conn → TurnHosted (front_turn conf conn front)
  front_hosted conn Partial h = record { next = tt; conn = h }
  front_hosted conn (TooLong size) h = closed (CauseTooLong size) conn h
  front_hosted conn (Whole size) h =
      judged conn (behind_frame size conn.unread) (verdict conf conn.sessions (frame_at size conn.unread)) h
      (verdict_hosted conn.sessions h.sessions (frame_at size conn.unread))

  released : (steps : List PlanStep) → All (StepBelow count) steps → NextIsHosted conf (next_release steps)
  released [] h = tt
  released (step ∷ steps) h = All-head (StepBelow count) step steps h

  work_hosted : (work : Work) (conn : ConnParts) → conn.work ≡ work → AreHostedIn conf conn → TurnHosted (work_turn conf conn work)
  work_hosted Free conn is h = front_hosted conn (front_of conn.unread) h
  work_hosted (Busy tags correlation hand) conn is h =
      let asked : AsksHosted count (hand_talk hand) = subst (IsHostedWork count) is h.work in
      record { next = asked.0; conn = h }
  work_hosted Overlong conn is h = closed LongReply conn h
  work_hosted Closing conn is h = record { next = released conn.releases h.releases; conn = h }

  turn_hosted : (conn : ConnParts) → AreHostedIn conf conn → TurnHosted (turn conf conn)
  turn_hosted conn h = work_hosted conn.work conn refl h

  -- ---- an answer

  finished : (conn : ConnParts) (f : ReplyFrame) → AreHostedIn conf conn → AreHostedIn conf (conn_with_reply conn f)
  finished conn Nothing h = record { sessions = h.sessions; releases = h.releases; work = tt }
  finished conn (Frame f) h = record { sessions = h.sessions; releases = h.releases; work = tt }
  finished conn FrameTooLong h = record { sessions = h.sessions; releases = h.releases; work = tt }

  staged : (conn : ConnParts) (tags : Bool) (correlation : ℤ) (stage : Stage Hand) → AreHostedIn conf conn → AsksHosted count (stage_talk hand_talk stage) →
      AreHostedIn conf (conn_at_stage conn tags correlation stage)
  staged conn tags correlation (Asks hand) h a = record { sessions = h.sessions; releases = h.releases; work = a }
  staged conn tags correlation (Says body) h a = finished conn (reply_frame tags correlation body) h

  given_at : (work : Work) (answer : PartAnswer) (conn : ConnParts) → conn.work ≡ work → AreHostedIn conf conn →
      AreHostedIn conf (conn_after_answer_at work answer conn)
  given_at Free answer conn is h = h
  given_at (Busy tags correlation hand) answer conn is h =
      let asked : AsksHosted count (hand_talk hand) = subst (IsHostedWork count) is h.work in
      staged conn tags correlation (hand_stage_after hand answer) h (subst (AsksHosted count) (sym (keeps_to_talk.goes hand answer)) (asked.1 answer))
  given_at Overlong answer conn is h = h
  given_at Closing answer conn is h = record { sessions = h.sessions; releases = All-drop (StepBelow count) 1 conn.releases h.releases; work = h.work }

  -- ---- bytes and replies

  fed_at : (work : Work) (piece : List ℕ) (conn : ConnParts) → AreHostedIn conf conn → AreHostedIn conf (conn_after_bytes_at work piece conn)
  fed_at Free piece conn h = record { sessions = h.sessions; releases = h.releases; work = h.work }
  fed_at (Busy tags correlation hand) piece conn h = record { sessions = h.sessions; releases = h.releases; work = h.work }
  fed_at Overlong piece conn h = record { sessions = h.sessions; releases = h.releases; work = h.work }
  fed_at Closing piece conn h = h

  kept : (act : Act) (conn : ConnParts) → AreHostedIn conf conn → AreHostedIn conf (conn_after conf act conn)
  kept (feeds piece) conn h = fed_at conn.work piece conn h
  kept asks conn h = (turn_hosted conn h).conn
  kept (gives answer) conn h = given_at conn.work answer conn refl h
  kept ends conn h = ended conn h
  kept takes conn h = record { sessions = h.sessions; releases = h.releases; work = h.work }

pub asks_hosted_shards : (conf : ConfigParts) → AsksHostedShards conf
asks_hosted_shards conf = record {
  begins = record { sessions = All-nil (HasHosted (partitions conf.topics)); releases = All-nil (StepBelow (partitions conf.topics)); work = tt };
  keeps = λ act conn h. kept conf act conn h;
  tells = λ conn h. (turn_hosted conf conn h).next;
}
