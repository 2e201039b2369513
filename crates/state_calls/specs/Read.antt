-- ReadShareGroupState (KIP-932). Of a hosted partition the stored part of the group's table is told.
-- For example an answer with state epoch 3, start 7 and two runs is told by both numbers and two batches (row_tests,
-- `a read tells the batches that were written`).
use Rattle.std.specs.Prelude.{None, map}
use Rattle.share_model.specs.declared.foreign.ForeignOp.TheVariants.{Read as ForeignRead}
use Rattle.msgs_state.specs.declared.read_request.ReadPartition.{ReadPartition}
use Rattle.msgs_state.specs.declared.read_reply.ReadPartitionResult.{ReadPartitionResult}
use Rattle.state_calls.specs.declared.read.Reading.{Reading}
use Rattle.state_calls.specs.declared.hosting.Hosting.TheVariants.{Looks}
use Rattle.state_calls.specs.States.{StateMeans}
use Rattle.state_calls.specs.Told.{batch_of}

abbrev pub read_means : StateMeans ReadPartition Reading ReadPartitionResult
read_means = record {
  wish = λ p. (p.partition, record { leader_epoch = p.leader_epoch });
  hosted = Looks;
  op = λ key wish. ForeignRead key wish.leader_epoch;
  row = λ partition answer. record {
    partition = partition;
    error_code = answer.code.0;
    error_message = None;
    state_epoch = answer.state_epoch;
    start_offset = answer.start;
    state_batches = map batch_of answer.runs;
  };
}
