use Rattle.std.proofs.Common.{◌∙◌, pos, ap, subst, sym, ℕ, w64}
use Rattle.std.proofs.lemmas.Int.{to_z-of_z}
use Rattle.share_model.specs.ForeignRules.{size_of}
use Rattle.share_model.specs.ShareStates.{AreLaid}
use Rattle.share_coord.proofs.Spans.{laid_from, stored_ends}
use Rattle.share_coord.proofs.rows.complete_after.Goals as goal

pub complete_laid-requires-clause-low : goal.complete_laid-requires-clause-low
complete_laid-requires-clause-low c = stored_ends c.args.under.now.list c.requires.under.1

pub complete_laid-requires-clause-low_over : goal.complete_laid-requires-clause-low_over
complete_laid-requires-clause-low_over c = stored_ends c.args.over.now.list c.requires.over.1

pub returns : goal.returns
returns c = λ laid is.
    c.complete_laid.ensures laid
    (subst (λ (n : ℕ). AreLaid (pos n) c.args.under.now.list c.args.over.now.list laid)
    (sym (c.offset_of.ensures ∙ ap size_of (to_z-of_z w64 c.args.start c.ranges.start)))
    (laid_from c.args.start c.args.under.now.list c.args.over.now.list laid is))
