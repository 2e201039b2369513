use Rattle.std.proofs.Common.{◌∙◌, sym, ◌++◌}
use Rattle.std.proofs.lemmas.List.{take-append-drop}
use Rattle.share_coord.proofs.Written.{halves}
use Rattle.share_coord.proofs.rows.+written.Goals as goal

pub returns : goal.returns
returns t c = halves _ _ _ _ _ _ (sym (take-append-drop _ _) ∙ sym (λ i. c.split_at.ensures.front i ++ c.split_at.ensures.back i)) c.in_ok-out.ensures c.in_ok-behind.ensures c.in_ok-merge_from.ensures.ok c.canonical.ensures
