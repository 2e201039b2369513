-- A log that was only looked at.
use Rattle.std.proofs.Common.{◌≡◌, sym, ap, subst, ◌∙◌, Option, is_some}
use Rattle.std.specs.Prelude.{IfSome}
use Rattle.edge_io.specs.Disk.{IsTold}
use Rattle.edge_io.specs.Views.{DiskView}
use Rattle.part_log.specs.Starts.{Log, LogWrite}
use Rattle.part_log.specs.Logs.{IsAllowed, Keeps, Lead, LogParts, OnlyReads, frames_of, log_in, no_log}
use Rattle.part_log.specs.Shards.{CarriesLog, LogShardState}
use Rattle.part_log.proofs.Keeping.{keeps_by, pending_frame}

module _ {D : Type 0} (seen : D → DiskView) (old new : LogParts D) (only : OnlyReads seen old new) where
  pub same_log : log_in old ≡ log_in new
  same_log = λ i. record { batches = sym only.batches i; start = sym only.start i }

  -- it keeps what it kept
  pub keeps_on : (pending : Option LogWrite) → Keeps seen old pending → Keeps seen new pending
  keeps_on pending k = keeps_by seen new pending k.writes (subst (Lead no_log k.writes) same_log k.leads)
      (subst (λ (log : Log). IfSome pending (IsAllowed log)) same_log k.follows)
      (only.journal.stands (frames_of k.writes) (pending_frame pending) k.stands)

  -- and stands for the same shard
  pub carries_on : (shard : LogShardState) → CarriesLog seen old shard → CarriesLog seen new shard
  carries_on shard k =
      record { batches = k.batches ∙ sym only.batches; start = k.start ∙ sym only.start; keeps = keeps_on shard.pending k.keeps }

  -- a disk that tells its content still does
  pub told_on : IsTold (seen new.journal.disk).content → IsTold (seen old.journal.disk).content
  told_on told = ap is_some (sym only.journal.looks.stays.content) ∙ told
