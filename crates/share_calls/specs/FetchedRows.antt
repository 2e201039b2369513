-- What is kept of a partition of the reply to ShareFetch until the reply is written (ShareFetchResponse.json; how it is kept is this
-- project's own).
-- For example a partition that isn't hosted has its number and two codes, and in the reply neither records nor a message.
use Rattle.std.specs.Prelude.{ℤ, pos, Some, None, []}
use Rattle.msgs_share.specs.declared.nodes.CurrentLeader.{CurrentLeader}
use Rattle.msgs_share.specs.declared.share_fetch_reply.FetchedPartition.{FetchedPartition}
use Rattle.share_calls.specs.declared.fetched_row.Kept.{Kept}
use Rattle.share_calls.specs.declared.fetched_row.Kept.TheVariants.{Refused, Visited}

-- the leader of each partition is this broker
abbrev pub leader : CurrentLeader
leader = record { leader_id = pos 1; leader_epoch = pos 0 }

-- one that isn't hosted
abbrev pub refused : ℤ → ℤ → ℤ → FetchedPartition
refused index code ack = record {
  partition_index = index;
  error_code = code;
  error_message = None;
  acknowledge_error_code = ack;
  acknowledge_error_message = None;
  current_leader = leader;
  records = Some [];
  acquired_records = [];
}

abbrev pub told_of : Kept → FetchedPartition
told_of (Refused index code ack) = refused index code ack
told_of (Visited told) = told.value
