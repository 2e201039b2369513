use Rattle.std.proofs.Common.{ap, ◌∙◌, arith}
use Rattle.share_model.specs.Logs.{end_of}
use Rattle.part_log.specs.Holding.{batches_of}
use Rattle.part_log.specs.Logs.{LogParts}
use Rattle.part_log.proofs.Noting.{indexed_sound}
use Rattle.part_log.proofs.Rising.{end_bound}
use Rattle.part_log.proofs.log.PartLog.end.Goals as goal

pub returns-clause-end : goal.returns-clause-end
returns-clause-end g c = c.self.invariant.indexed.ends ∙ ap (λ (v : LogParts g.row.D.Denot). end_of v.batches) c.self.view_is

pub returns-clause-below : goal.returns-clause-below
returns-clause-below g c =
    omega (
      arith,
      c.self.invariant.indexed.ends,
      end_bound (batches_of c.self.inside.seen.frames)
          (indexed_sound c.self.inside.seen.frames c.self.inside.index c.self.inside.start c.self.inside.end c.self.invariant.indexed).stored,
    )
