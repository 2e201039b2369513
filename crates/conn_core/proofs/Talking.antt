-- Under its name each call keeps to its talk.
use Rattle.std.proofs.Common.{◌≡◌, ◌∙◌, refl}
use Rattle.call_fold.specs.declared.part.PartAnswer.{PartAnswer}
use Rattle.call_fold.specs.declared.call.Stage.{Stage}
use Rattle.call_fold.specs.declared.call.Stage.TheVariants.{Asks, Says}
use Rattle.call_fold.specs.Going.{stage_after}
use Rattle.call_fold.specs.Talks.{Talk, talk_of, stage_talk}
use Rattle.call_fold.proofs.Talked.{means_entries}
use Rattle.msgs_state.specs.StateReply.{partition_result}
use Rattle.msgs_state.specs.ReadReply.{read_partition_result}
use Rattle.log_calls.specs.Delete.{delete_acts, delete_stage}
use Rattle.log_calls.specs.Produce.{produce_acts, produce_stage}
use Rattle.share_calls.specs.Fetch.{fetch_acts, fetch_begins as begun_fetch}
use Rattle.share_calls.specs.Acknowledge.{ack_acts, ack_begins as begun_ack}
use Rattle.share_calls.specs.Heartbeats.{heartbeat_acts, heartbeat_stage}
use Rattle.state_calls.specs.StateCalls.{state_acts, state_stage}
use Rattle.state_calls.specs.Initialize.{initialize_means}
use Rattle.state_calls.specs.Read.{read_means}
use Rattle.state_calls.specs.Write.{write_means}
use Rattle.state_calls.specs.Delete.{delete_means}
use Rattle.conn_core.specs.declared.hand.Hand.{Hand}
use Rattle.conn_core.specs.declared.hand.Hand.TheVariants.{Produce, DeleteRecords, Fetch, Acknowledge, Heartbeat, Initialize, Read, Write, Delete}
use Rattle.conn_core.specs.Hands.{hand_stage, hand_stage_after}
use Rattle.conn_core.specs.Talking.{hand_talk_after, hand_talk, KeepsToItsTalk}

-- under its name a stage has the talk that it has alone
named : {A : Type 0} (f : A → Talk) (hold : A → Hand) (stage : Stage A) → ((a : A) → hand_talk (hold a) ≡ f a) →
    stage_talk hand_talk (hand_stage hold stage) ≡ stage_talk f stage
named f hold (Asks a) same = same a
named f hold (Says body) same = refl

goes_alone : (hand : Hand) (answer : PartAnswer) → stage_talk hand_talk (hand_stage_after hand answer) ≡ hand_talk_after hand answer
goes_alone (Produce a) answer =
    named (talk_of produce_acts) (λ b. Produce b) (stage_after produce_acts a answer) (λ b. refl) ∙ (means_entries produce_acts).goes_on a answer
goes_alone (DeleteRecords a) answer =
    named (talk_of delete_acts) (λ b. DeleteRecords b) (stage_after delete_acts a answer) (λ b. refl) ∙ (means_entries delete_acts).goes_on a answer
goes_alone (Fetch a) answer =
    named (talk_of fetch_acts) (λ b. Fetch b) (stage_after fetch_acts a answer) (λ b. refl) ∙ (means_entries fetch_acts).goes_on a answer
goes_alone (Acknowledge a) answer =
    named (talk_of ack_acts) (λ b. Acknowledge b) (stage_after ack_acts a answer) (λ b. refl) ∙ (means_entries ack_acts).goes_on a answer
goes_alone (Heartbeat a) answer =
    named (talk_of heartbeat_acts) (λ b. Heartbeat b) (stage_after heartbeat_acts a answer) (λ b. refl) ∙ (means_entries heartbeat_acts).goes_on a answer
goes_alone (Initialize a) answer =
    let acts = state_acts initialize_means partition_result in
    named (talk_of acts) (λ b. Initialize b) (stage_after acts a answer) (λ b. refl) ∙ (means_entries acts).goes_on a answer
goes_alone (Read a) answer =
    let acts = state_acts read_means read_partition_result in
    named (talk_of acts) (λ b. Read b) (stage_after acts a answer) (λ b. refl) ∙ (means_entries acts).goes_on a answer
goes_alone (Write a) answer =
    let acts = state_acts write_means partition_result in
    named (talk_of acts) (λ b. Write b) (stage_after acts a answer) (λ b. refl) ∙ (means_entries acts).goes_on a answer
goes_alone (Delete a) answer =
    let acts = state_acts delete_means partition_result in
    named (talk_of acts) (λ b. Delete b) (stage_after acts a answer) (λ b. refl) ∙ (means_entries acts).goes_on a answer

pub keeps_to_talk : KeepsToItsTalk
keeps_to_talk = record {
  produce = λ version conf sessions m. named (talk_of produce_acts) (λ b. Produce b) (produce_stage version conf.topics m) (λ b. refl);
  delete_records = λ conf sessions m. named (talk_of delete_acts) (λ b. DeleteRecords b) (delete_stage conf.topics m) (λ b. refl);
  fetch = λ conf sessions m. named (talk_of fetch_acts) (λ b. Fetch b) (begun_fetch conf sessions m).stage (λ b. refl);
  acknowledge = λ conf sessions m. named (talk_of ack_acts) (λ b. Acknowledge b) (begun_ack conf.topics sessions m).stage (λ b. refl);
  heartbeat = λ conf sessions m. named (talk_of heartbeat_acts) (λ b. Heartbeat b) (heartbeat_stage m) (λ b. refl);
  initialize = λ conf sessions m. named (talk_of (state_acts initialize_means partition_result)) (λ b. Initialize b)
      (state_stage initialize_means partition_result conf.topics (record {}) m) (λ b. refl);
  read = λ conf sessions m. named (talk_of (state_acts read_means read_partition_result)) (λ b. Read b)
      (state_stage read_means read_partition_result conf.topics (record {}) m) (λ b. refl);
  write = λ conf sessions m. named (talk_of (state_acts write_means partition_result)) (λ b. Write b)
      (state_stage write_means partition_result conf.topics (record {}) m) (λ b. refl);
  delete = λ conf sessions m. named (talk_of (state_acts delete_means partition_result)) (λ b. Delete b)
      (state_stage delete_means partition_result conf.topics (record {}) m) (λ b. refl);
  goes = λ hand answer. goes_alone hand answer;
}
