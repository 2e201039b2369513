-- How a message tells the rows of a partition's state (KIP-932, ReadShareGroupStateResponse.json and
-- WriteShareGroupStateRequest.json).
-- For example the run of 7 to 9, acknowledged and counted once, is the batch 7, 9, 2, 1 (row_tests,
-- `a read tells the batches that were written`).
use Rattle.std.specs.Prelude.{ℤ, pos, None}
use Rattle.share_model.specs.Rows.{state_number}
use Rattle.share_model.specs.declared.fault.Code.{Code}
use Rattle.share_model.specs.declared.foreign.StateBatch.{StateBatch as Batch}
use Rattle.share_model.specs.declared.run.Run.{Run}
use Rattle.msgs_state.specs.declared.state_batch.StateBatch.{StateBatch}
use Rattle.msgs_state.specs.declared.state_reply.PartitionResult.{PartitionResult}

abbrev pub batch_of : Run → StateBatch
batch_of run = record {
  first_offset = pos run.first;
  last_offset = pos run.last;
  delivery_state = pos (state_number run.state);
  delivery_count = pos run.count;
}

-- a batch of a request, not yet judged
abbrev pub batch_in : StateBatch → Batch
batch_in batch = record { first = batch.first_offset; last = batch.last_offset; state = batch.delivery_state; count = batch.delivery_count }

-- what is told of a partition by its code alone; no message is ever told
abbrev pub code_row : ℤ → Code → PartitionResult
code_row partition code = record { partition = partition; error_code = code.0; error_message = None }
