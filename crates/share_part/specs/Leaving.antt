-- What a crash may leave of the three disks of a hosted partition. This project's own.
-- For example where a produced batch and a new table are both pending, there are four: the log with or without the batch, beside the
-- states with or without the table.
use Rattle.std.specs.Prelude.{◌≡◌, ◌⊎◌, ◌≤◌, List, ℕ, Option, Some}
use Rattle.share_model.specs.ForeignRules.{ShareStates}
use Rattle.part_log.specs.Logs.{and_pending}
use Rattle.part_log.specs.Shards.{log_at}
use Rattle.part_log.specs.Starts.{Log}
use Rattle.share_coord.specs.Raising.{raised_states}
use Rattle.share_part.specs.Hosting.{PartConfParts, ArePartText}
use Rattle.share_part.specs.Shards.{PartShardState}

-- what completed writes left, or that with the pending write
abbrev pub IsDoneOr : {S : Type 0} → S → Option S → S → Type 0
IsDoneOr done pending found = (found ≡ done) ⊎ (pending ≡ Some found)

-- contents of the three disks that a crash may leave of a shard
pub record IsLeftOf (conf : PartConfParts) (shard : PartShardState) (log first second : List ℕ) : Type 0 where
  pub is : Log
  pub states : ShareStates
  pub log_is : IsDoneOr (log_at shard.log) (and_pending (log_at shard.log) shard.log.pending) is
  pub later : shard.log.start ≤ is.start
  pub states_are : IsDoneOr shard.states shard.pending states
  -- each table that starts below the log's start has that: where a mark was pending, the states are raised to it
  pub text : ArePartText conf log first second is (raised_states is.start states)
