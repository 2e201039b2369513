use Rattle.std.proofs.Common.{ap, sym, ◌∙◌, length, ℕ, List}
use Rattle.std.proofs.lemmas.List.{length-map}
use Rattle.part_log.specs.Batches.{batch_in}
use Rattle.part_log.specs.Holding.{entry_of, kept_in}
use Rattle.part_log.specs.Logs.{LogParts}
use Rattle.part_log.proofs.log.PartLog.len.Goals as goal

pub returns : goal.returns
returns g c =
    let frames = kept_in c.self.inside.seen.frames in
    c.len.ensures ∙ ap length c.self.invariant.indexed.entries ∙ length-map frames entry_of ∙ sym (length-map frames (λ (f : ℕ × List ℕ). batch_in f.1))
    ∙ ap (λ (v : LogParts g.row.D.Denot). length v.batches) c.self.view_is
