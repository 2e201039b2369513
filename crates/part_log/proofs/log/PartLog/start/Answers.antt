use Rattle.std.proofs.Common.{◌≤◌, ap, arith, subst}
use Rattle.share_model.specs.Logs.{end_of}
use Rattle.part_log.specs.Holding.{log_of}
use Rattle.part_log.specs.Logs.{LogParts, no_log}
use Rattle.part_log.proofs.Writes.{lead_start}
use Rattle.part_log.proofs.log.PartLog.start.Goals as goal

pub returns-clause-value : goal.returns-clause-value
returns-clause-value g c = ap (λ (v : LogParts g.row.D.Denot). v.start) c.self.view_is

pub returns-clause-within : goal.returns-clause-within
returns-clause-within g c = subst (λ (v : LogParts g.row.D.Denot). c.self.inside.start ≤ end_of v.batches) c.self.view_is
    (lead_start no_log c.self.invariant.indexed.writes (log_of c.self.inside.seen.frames c.self.inside.start) (omega arith) c.self.invariant.indexed.leads)
