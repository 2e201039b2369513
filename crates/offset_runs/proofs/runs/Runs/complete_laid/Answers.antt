use Rattle.std.proofs.Common.{◌≡◌, ◌+◌, ◌^◌, ◌∙◌, ap, subst, ℕ, List}
use Rattle.share_model.specs.Runs.{IsCanonical}
use Rattle.share_model.specs.declared.run.Run.{Run}
use Rattle.offset_runs.specs.Changes.{RunsParts}
use Rattle.offset_runs.specs.Complete.{complete_between, complete_rows, complete_under}
use Rattle.offset_runs.proofs.Tallies.{laid_is}
use Rattle.offset_runs.proofs.runs.Runs.complete_laid.Goals as goal

pub returns : goal.returns
returns c = λ laid is.
    let s : ℕ = c.args.start in
    let count : ℕ = c.complete_laid.result in
    let under : List Run = c.args.self.now.list in
    let over : List Run = c.args.over.now.list in
    let seen_under : c.self.inside.list.items ≡ under = ap (λ (r : RunsParts). r.list) c.self.view_is in
    let seen_over : c.over.inside.list.items ≡ over = ap (λ (r : RunsParts). r.list) c.over.view_is in
    let u : c.deref.result.now ≡ under = c.deref.ensures.value ∙ seen_under in
    let o : c.deref-2.result.now ≡ over = c.deref-2.ensures.value ∙ seen_over in
    let counted : count + (complete_between under 0 s + complete_under under over s) ≡ complete_rows under + complete_between over s (2 ^ 63) =
    subst (λ (l : List Run). count + (complete_between l 0 s + complete_under l over s) ≡ c.args.complete + complete_between over s (2 ^ 63)) u
    (subst (λ (l : List Run). count + (complete_between c.deref.result.now 0 s + complete_under c.deref.result.now l s) ≡ c.args.complete + complete_between l s (2 ^ 63)) o c.complete_laid.ensures)
    ∙ ap (λ (n : ℕ). n + complete_between over s (2 ^ 63)) c.requires.now in
    laid_is under over laid s (2 ^ 63) count (subst IsCanonical seen_under c.self.invariant) c.requires.low (subst IsCanonical seen_over c.over.invariant) c.requires.low_over is counted
