-- What the calls in hand mean: the talk of each, under its name. This project's own.
-- For example a Read in hand asks the part of its question and goes on by the answer (row_tests, `a share group's state is
-- initialized and read`), and so does a Produce (`a batch is stored`).
use Rattle.std.specs.Prelude.{◌≡◌, List}
use Rattle.flex_fields.specs.declared.version.Version.{Version}
use Rattle.topic_conf.specs.Configs.{ConfigParts}
use Rattle.msgs_base.specs.declared.delete_records_request.DeleteRecordsRequest.{DeleteRecordsRequest}
use Rattle.msgs_base.specs.declared.produce_request.ProduceRequest.{ProduceRequest}
use Rattle.msgs_share.specs.declared.share_fetch_request.ShareFetchRequest.{ShareFetchRequest}
use Rattle.msgs_share.specs.declared.share_ack_request.ShareAckRequest.{ShareAckRequest}
use Rattle.msgs_group.specs.declared.heartbeat_request.HeartbeatRequest.{HeartbeatRequest}
use Rattle.msgs_state.specs.declared.state_message.StateRequest.{StateRequest}
use Rattle.msgs_state.specs.declared.initialize_request.InitializePartition.{InitializePartition}
use Rattle.msgs_state.specs.declared.read_request.ReadPartition.{ReadPartition}
use Rattle.msgs_state.specs.declared.write_request.WritePartition.{WritePartition}
use Rattle.msgs_state.specs.declared.delete_request.DeletePartition.{DeletePartition}
use Rattle.msgs_state.specs.StateReply.{partition_result}
use Rattle.msgs_state.specs.ReadReply.{read_partition_result}
use Rattle.call_fold.specs.declared.part.PartAnswer.{PartAnswer}
use Rattle.call_fold.specs.Talks.{Talk, asks, talk_after, stage_talk}
use Rattle.state_calls.specs.declared.initialize.Initialize.{Initialize as InitializeCall}
use Rattle.state_calls.specs.declared.read.Read.{Read as ReadCall}
use Rattle.state_calls.specs.declared.write.Write.{Write as WriteCall}
use Rattle.state_calls.specs.declared.delete.Delete.{Delete as DeleteCall}
use Rattle.state_calls.specs.StateCalls.{state_acts}
use Rattle.state_calls.specs.StateTalks.{state_talk}
use Rattle.state_calls.specs.Initialize.{initialize_means}
use Rattle.state_calls.specs.Read.{read_means}
use Rattle.state_calls.specs.Write.{write_means}
use Rattle.state_calls.specs.Delete.{delete_means}
use Rattle.log_calls.specs.Delete.{delete_acts}
use Rattle.log_calls.specs.DeleteTalks.{delete_talk}
use Rattle.log_calls.specs.Produce.{produce_acts}
use Rattle.log_calls.specs.ProduceTalks.{produce_talk}
use Rattle.share_session.specs.SessionParts.{SessionParts}
use Rattle.share_calls.specs.Fetch.{fetch_acts}
use Rattle.share_calls.specs.FetchTalks.{request_talk as fetch_talk}
use Rattle.share_calls.specs.Acknowledge.{ack_acts}
use Rattle.share_calls.specs.AckTalks.{ack_talk}
use Rattle.share_calls.specs.Heartbeats.{heartbeat_acts, heartbeat_talk}
use Rattle.conn_core.specs.declared.hand.Hand.{Hand}
use Rattle.conn_core.specs.declared.hand.Hand.TheVariants.{Produce, DeleteRecords, Fetch, Acknowledge, Heartbeat, Initialize, Read, Write, Delete}
use Rattle.conn_core.specs.Hands.{hand_part, hand_stage_after}
use Rattle.conn_core.specs.Beginning.{produce_begins, delete_records_begins, fetch_begins, acknowledge_begins, heartbeat_begins, initialize_begins, read_begins, write_begins, delete_begins}

abbrev pub hand_talk_after : Hand → PartAnswer → Talk
hand_talk_after (Produce a) answer = talk_after produce_acts a answer
hand_talk_after (DeleteRecords a) answer = talk_after delete_acts a answer
hand_talk_after (Fetch a) answer = talk_after fetch_acts a answer
hand_talk_after (Acknowledge a) answer = talk_after ack_acts a answer
hand_talk_after (Heartbeat a) answer = talk_after heartbeat_acts a answer
hand_talk_after (Initialize a) answer = talk_after (state_acts initialize_means partition_result) a answer
hand_talk_after (Read a) answer = talk_after (state_acts read_means read_partition_result) a answer
hand_talk_after (Write a) answer = talk_after (state_acts write_means partition_result) a answer
hand_talk_after (Delete a) answer = talk_after (state_acts delete_means partition_result) a answer

abbrev pub hand_talk : Hand → Talk
hand_talk hand = asks (hand_part hand) (hand_talk_after hand)

-- Under its name each call begins with the talk of its request, and keeps to it by each answer.
pub record KeepsToItsTalk : Type 0 where
  pub produce : (version : Version) (conf : ConfigParts) (sessions : List SessionParts) (m : ProduceRequest) →
      stage_talk hand_talk (produce_begins version conf sessions m).stage ≡ produce_talk version conf.topics m
  pub delete_records : (conf : ConfigParts) (sessions : List SessionParts) (m : DeleteRecordsRequest) →
      stage_talk hand_talk (delete_records_begins conf sessions m).stage ≡ delete_talk conf.topics m
  pub fetch : (conf : ConfigParts) (sessions : List SessionParts) (m : ShareFetchRequest) →
      stage_talk hand_talk (fetch_begins conf sessions m).stage ≡ fetch_talk conf sessions m
  pub acknowledge : (conf : ConfigParts) (sessions : List SessionParts) (m : ShareAckRequest) →
      stage_talk hand_talk (acknowledge_begins conf sessions m).stage ≡ ack_talk conf.topics sessions m
  pub heartbeat : (conf : ConfigParts) (sessions : List SessionParts) (m : HeartbeatRequest) →
      stage_talk hand_talk (heartbeat_begins conf sessions m).stage ≡ heartbeat_talk m
  pub initialize : (conf : ConfigParts) (sessions : List SessionParts) (m : StateRequest InitializePartition) →
      stage_talk hand_talk (initialize_begins conf sessions m).stage
      ≡ state_talk {S = InitializeCall} initialize_means partition_result conf.topics (record {}) m
  pub read : (conf : ConfigParts) (sessions : List SessionParts) (m : StateRequest ReadPartition) →
      stage_talk hand_talk (read_begins conf sessions m).stage ≡ state_talk {S = ReadCall} read_means read_partition_result conf.topics (record {}) m
  pub write : (conf : ConfigParts) (sessions : List SessionParts) (m : StateRequest WritePartition) →
      stage_talk hand_talk (write_begins conf sessions m).stage ≡ state_talk {S = WriteCall} write_means partition_result conf.topics (record {}) m
  pub delete : (conf : ConfigParts) (sessions : List SessionParts) (m : StateRequest DeletePartition) →
      stage_talk hand_talk (delete_begins conf sessions m).stage ≡ state_talk {S = DeleteCall} delete_means partition_result conf.topics (record {}) m
  pub goes : (hand : Hand) (answer : PartAnswer) → stage_talk hand_talk (hand_stage_after hand answer) ≡ hand_talk_after hand answer
