use Rattle.std.proofs.Common.{◌^◌, ◌∙◌, sym, ap, subst, List, drop}
use Rattle.share_model.specs.Runs.{IsCanonical}
use Rattle.share_model.specs.declared.run.Run.{Run}
use Rattle.offset_runs.specs.Complete.{complete_between}
use Rattle.offset_runs.specs.Parts.{EndsBelow}
use Rattle.offset_runs.proofs.Tallies.{drop_canonical, drop_ended, drop_ends}
use Rattle.offset_runs.proofs.complete.complete_between.Goals as goal

pub complete_front-requires-clause-canonical : goal.complete_front-requires-clause-canonical
complete_front-requires-clause-canonical c = subst IsCanonical (sym c.split_at.ensures.back) (drop_canonical _ c.args.runs.now c.requires.canonical)

pub complete_front-requires-clause-low : goal.complete_front-requires-clause-low
complete_front-requires-clause-low c = subst (λ (l : List Run). EndsBelow l (2 ^ 63)) (sym c.split_at.ensures.back) (drop_ends _ c.args.runs.now (2 ^ 63) c.requires.low)

pub returns-clause-count : goal.returns-clause-count
returns-clause-count c =
    c.complete_front.ensures.count
    ∙ (ap (λ (l : List Run). complete_between l c.args.from c.args.to) (c.split_at.ensures.back ∙ ap (λ n. drop n c.args.runs.now) c.count_ended.ensures.count)
    ∙ drop_ended c.args.runs.now c.args.from c.args.to)
