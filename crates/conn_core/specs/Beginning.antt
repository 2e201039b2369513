-- With what a request begins: its first part, or its reply, and what it does to the share sessions of its connection (KIP-932 and the
-- Kafka protocol guide; see each call's own definition).
-- For example ApiVersions has its reply at once, a Read of a partition that isn't hosted a part (row_tests, `a share group's state
-- is initialized and read`), and so has a Produce of a batch for one that is (`a batch is stored`).
use Rattle.std.specs.Prelude.{List, Some, None}
use Rattle.flex_fields.specs.declared.version.Version.{Version}
use Rattle.topic_conf.specs.Configs.{ConfigParts}
use Rattle.msgs_base.specs.declared.metadata_request.MetadataRequest.{MetadataRequest}
use Rattle.msgs_base.specs.declared.find_coordinator_request.FindCoordinatorRequest.{FindCoordinatorRequest}
use Rattle.msgs_base.specs.declared.api_versions_request.ApiVersionsRequest.{ApiVersionsRequest}
use Rattle.msgs_base.specs.declared.delete_records_request.DeleteRecordsRequest.{DeleteRecordsRequest}
use Rattle.msgs_base.specs.declared.produce_request.ProduceRequest.{ProduceRequest}
use Rattle.msgs_base.specs.ApiVersionsReply.{api_versions_reply}
use Rattle.msgs_base.specs.MetadataReply.{metadata_reply}
use Rattle.msgs_base.specs.FindCoordinatorReply.{find_coordinator_reply}
use Rattle.msgs_share.specs.declared.share_fetch_request.ShareFetchRequest.{ShareFetchRequest}
use Rattle.msgs_share.specs.declared.share_ack_request.ShareAckRequest.{ShareAckRequest}
use Rattle.msgs_group.specs.declared.heartbeat_request.HeartbeatRequest.{HeartbeatRequest}
use Rattle.msgs_state.specs.declared.state_message.StateRequest.{StateRequest}
use Rattle.msgs_state.specs.declared.initialize_request.InitializePartition.{InitializePartition}
use Rattle.msgs_state.specs.declared.read_request.ReadPartition.{ReadPartition}
use Rattle.msgs_state.specs.declared.write_request.WritePartition.{WritePartition}
use Rattle.msgs_state.specs.declared.delete_request.DeletePartition.{DeletePartition}
use Rattle.msgs_state.specs.StateReply.{partition_result}
use Rattle.msgs_state.specs.ReadReply.{read_partition_result}
use Rattle.call_fold.specs.declared.call.Stage.{Stage}
use Rattle.call_fold.specs.declared.call.Stage.TheVariants.{Says}
use Rattle.state_calls.specs.StateCalls.{state_stage}
use Rattle.state_calls.specs.Initialize.{initialize_means}
use Rattle.state_calls.specs.Read.{read_means}
use Rattle.state_calls.specs.Write.{write_means}
use Rattle.state_calls.specs.Delete.{delete_means}
use Rattle.log_calls.specs.Delete.{delete_stage}
use Rattle.log_calls.specs.Produce.{produce_stage}
use Rattle.share_session.specs.SessionParts.{SessionParts}
use Rattle.share_calls.specs.Fetch.{fetch_begins as begun_fetch}
use Rattle.share_calls.specs.Acknowledge.{ack_begins as begun_ack}
use Rattle.share_calls.specs.Heartbeats.{heartbeat_stage}
use Rattle.conn_core.specs.declared.hand.Hand.{Hand}
use Rattle.conn_core.specs.declared.hand.Hand.TheVariants.{Produce, DeleteRecords, Fetch, Acknowledge, Heartbeat, Initialize, Read, Write, Delete}
use Rattle.conn_core.specs.declared.begun.Begun.{Begun}
use Rattle.conn_core.specs.Versions.{versions_answer}
use Rattle.conn_core.specs.Metadata.{metadata_answer}
use Rattle.conn_core.specs.Coordinators.{coordinator_answer}
use Rattle.conn_core.specs.Hands.{hand_stage}

-- A is the request's message. Where a call has several versions, its reply has the version of its request.
abbrev pub Begins : Type 0 → Type 0
Begins A = ConfigParts → List SessionParts → A → Begun

-- a call without sessions
abbrev pub begun_at : Stage Hand → Begun
begun_at stage = record { stage = stage; change = None }

abbrev pub metadata_begins : Version → Begins MetadataRequest
metadata_begins version conf sessions m = begun_at (Says (Some ((metadata_reply version).format.bytes (metadata_answer version conf m))))

abbrev pub coordinator_begins : Begins FindCoordinatorRequest
coordinator_begins conf sessions m = begun_at (Says (Some (find_coordinator_reply.bytes (coordinator_answer conf m))))

abbrev pub versions_begins : Version → Begins ApiVersionsRequest
versions_begins version conf sessions m = begun_at (Says (Some ((api_versions_reply version).format.bytes (versions_answer conf.versions))))

abbrev pub produce_begins : Version → Begins ProduceRequest
produce_begins version conf sessions m = begun_at (hand_stage (λ a. Produce a) (produce_stage version conf.topics m))

abbrev pub delete_records_begins : Begins DeleteRecordsRequest
delete_records_begins conf sessions m = begun_at (hand_stage (λ a. DeleteRecords a) (delete_stage conf.topics m))

-- a share request is judged by the sessions as they are, and changes one of them
abbrev pub fetch_begins : Begins ShareFetchRequest
fetch_begins conf sessions m = record {
  stage = hand_stage (λ a. Fetch a) (begun_fetch conf sessions m).stage;
  change = (begun_fetch conf sessions m).change;
}

abbrev pub acknowledge_begins : Begins ShareAckRequest
acknowledge_begins conf sessions m = record {
  stage = hand_stage (λ a. Acknowledge a) (begun_ack conf.topics sessions m).stage;
  change = (begun_ack conf.topics sessions m).change;
}

abbrev pub heartbeat_begins : Begins HeartbeatRequest
heartbeat_begins conf sessions m = begun_at (hand_stage (λ a. Heartbeat a) (heartbeat_stage m))

abbrev pub initialize_begins : Begins (StateRequest InitializePartition)
initialize_begins conf sessions m =
    begun_at (hand_stage (λ a. Initialize a) (state_stage initialize_means partition_result conf.topics (record {}) m))

abbrev pub read_begins : Begins (StateRequest ReadPartition)
read_begins conf sessions m = begun_at (hand_stage (λ a. Read a) (state_stage read_means read_partition_result conf.topics (record {}) m))

abbrev pub write_begins : Begins (StateRequest WritePartition)
write_begins conf sessions m = begun_at (hand_stage (λ a. Write a) (state_stage write_means partition_result conf.topics (record {}) m))

abbrev pub delete_begins : Begins (StateRequest DeletePartition)
delete_begins conf sessions m = begun_at (hand_stage (λ a. Delete a) (state_stage delete_means partition_result conf.topics (record {}) m))
