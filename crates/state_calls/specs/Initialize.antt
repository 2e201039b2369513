-- InitializeShareGroupState (KIP-932). A hosted partition is refused with 42, which is this project's own.
-- For example partition 0 with state epoch 3 and start 7 asks an Init of its key with 3 and 7 (row_tests,
-- `a share group's state is initialized and read`).
use Rattle.share_model.specs.declared.foreign.ForeignOp.TheVariants.{Init}
use Rattle.share_model.specs.ErrorCodes.{INVALID_REQUEST}
use Rattle.msgs_state.specs.declared.initialize_request.InitializePartition.{InitializePartition}
use Rattle.msgs_state.specs.declared.state_reply.PartitionResult.{PartitionResult}
use Rattle.state_calls.specs.declared.initialize.Beginning.{Beginning}
use Rattle.state_calls.specs.declared.hosting.Hosting.TheVariants.{Refuses}
use Rattle.state_calls.specs.States.{StateMeans}
use Rattle.state_calls.specs.Told.{code_row}

abbrev pub initialize_means : StateMeans InitializePartition Beginning PartitionResult
initialize_means = record {
  wish = λ p. (p.partition, record { state_epoch = p.state_epoch; start = p.start_offset });
  hosted = Refuses INVALID_REQUEST;
  op = λ key wish. Init key wish.state_epoch wish.start;
  row = λ partition answer. code_row partition answer.code;
}
