-- What a share request asks for, as a contract sees it (KIP-932, share sessions).
-- For example a member that closes its session on the shards 2 and 0, and acknowledges records of shard 2, has one told step at
-- shard 2 and one release behind it, at shard 0.
use Rattle.std.specs.Prelude.{List}
use Rattle.share_session.specs.declared.step.PlanStep.{PlanStep}
use Rattle.share_session.specs.declared.change.SessionChange.{SessionChange}

-- The steps, in the order of the three lists: the releases of the list that a session had before it starts anew; the steps that
-- the reply tells; the releases of the other partitions of a session that is closed. And what becomes of the session.
pub record PlanParts : Type 0 where
  pub released : List PlanStep
  pub told : List PlanStep
  pub closed : List PlanStep
  pub change : SessionChange
