-- The calls in hand, each under its own name. This project's own.
-- For example a Read of two partitions that is in hand asks the part of its first one, and with the answer to that it asks the second one's.
use Rattle.call_fold.specs.declared.part.Part.{Part}
use Rattle.call_fold.specs.declared.part.PartAnswer.{PartAnswer}
use Rattle.call_fold.specs.declared.call.Stage.{Stage}
use Rattle.call_fold.specs.declared.call.Stage.TheVariants.{Asks, Says}
use Rattle.call_fold.specs.Calls.{question_part}
use Rattle.call_fold.specs.Going.{stage_after}
use Rattle.msgs_state.specs.StateReply.{partition_result}
use Rattle.msgs_state.specs.ReadReply.{read_partition_result}
use Rattle.state_calls.specs.StateCalls.{state_acts}
use Rattle.state_calls.specs.Initialize.{initialize_means}
use Rattle.state_calls.specs.Read.{read_means}
use Rattle.state_calls.specs.Write.{write_means}
use Rattle.state_calls.specs.Delete.{delete_means}
use Rattle.log_calls.specs.Delete.{delete_acts}
use Rattle.log_calls.specs.Produce.{produce_acts}
use Rattle.share_calls.specs.Fetch.{fetch_acts}
use Rattle.share_calls.specs.Acknowledge.{ack_acts}
use Rattle.share_calls.specs.Heartbeats.{heartbeat_acts}
use Rattle.conn_core.specs.declared.hand.Hand.{Hand}
use Rattle.conn_core.specs.declared.hand.Hand.TheVariants.{Produce, DeleteRecords, Fetch, Acknowledge, Heartbeat, Initialize, Read, Write, Delete}

-- the part that is asked
abbrev pub hand_part : Hand → Part
hand_part (Produce a) = question_part produce_acts a
hand_part (DeleteRecords a) = question_part delete_acts a
hand_part (Fetch a) = question_part fetch_acts a
hand_part (Acknowledge a) = question_part ack_acts a
hand_part (Heartbeat a) = question_part heartbeat_acts a
hand_part (Initialize a) = question_part (state_acts initialize_means partition_result) a
hand_part (Read a) = question_part (state_acts read_means read_partition_result) a
hand_part (Write a) = question_part (state_acts write_means partition_result) a
hand_part (Delete a) = question_part (state_acts delete_means partition_result) a

abbrev pub hand_stage : {A : Type 0} → (A → Hand) → Stage A → Stage Hand
hand_stage hold (Asks a) = Asks (hold a)
hand_stage hold (Says body) = Says body

-- it has this answer
abbrev pub hand_stage_after : Hand → PartAnswer → Stage Hand
hand_stage_after (Produce a) answer = hand_stage (λ b. Produce b) (stage_after produce_acts a answer)
hand_stage_after (DeleteRecords a) answer = hand_stage (λ b. DeleteRecords b) (stage_after delete_acts a answer)
hand_stage_after (Fetch a) answer = hand_stage (λ b. Fetch b) (stage_after fetch_acts a answer)
hand_stage_after (Acknowledge a) answer = hand_stage (λ b. Acknowledge b) (stage_after ack_acts a answer)
hand_stage_after (Heartbeat a) answer = hand_stage (λ b. Heartbeat b) (stage_after heartbeat_acts a answer)
hand_stage_after (Initialize a) answer = hand_stage (λ b. Initialize b) (stage_after (state_acts initialize_means partition_result) a answer)
hand_stage_after (Read a) answer = hand_stage (λ b. Read b) (stage_after (state_acts read_means read_partition_result) a answer)
hand_stage_after (Write a) answer = hand_stage (λ b. Write b) (stage_after (state_acts write_means partition_result) a answer)
hand_stage_after (Delete a) answer = hand_stage (λ b. Delete b) (stage_after (state_acts delete_means partition_result) a answer)
