-- DeleteShareGroupState (KIP-932). A hosted partition is refused with 42, which is this project's own.
-- For example partition 0 asks a Delete of its key.
use Rattle.share_model.specs.declared.foreign.ForeignOp.TheVariants.{Delete as ForeignDelete}
use Rattle.share_model.specs.ErrorCodes.{INVALID_REQUEST}
use Rattle.msgs_state.specs.declared.delete_request.DeletePartition.{DeletePartition}
use Rattle.msgs_state.specs.declared.state_reply.PartitionResult.{PartitionResult}
use Rattle.state_calls.specs.declared.delete.Deleting.{Deleting}
use Rattle.state_calls.specs.declared.hosting.Hosting.TheVariants.{Refuses}
use Rattle.state_calls.specs.States.{StateMeans}
use Rattle.state_calls.specs.Told.{code_row}

abbrev pub delete_means : StateMeans DeletePartition Deleting PartitionResult
delete_means = record {
  wish = λ p. (p.partition, record {});
  hosted = Refuses INVALID_REQUEST;
  op = λ key wish. ForeignDelete key;
  row = λ partition answer. code_row partition answer.code;
}
