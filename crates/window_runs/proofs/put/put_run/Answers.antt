use Rattle.std.proofs.Common.{◌∙◌, List, length, ap, sym, subst, arith}
use Rattle.std.specs.List.{slice_get}
use Rattle.lock_index.specs.Runs.{IsCanonical}
use Rattle.share_model.specs.Held.{Held}
use Rattle.lock_index.specs.declared.run.HoldRun.{HoldRun}
use Rattle.window_runs.proofs.Counting.{canonical_drop}
use Rattle.window_runs.proofs.Joins.{free_below, next_apart, put_count, put_whole}
use Rattle.window_runs.proofs.put.put_run.Goals as goal

pub put_behind-place-requires-clause-behind : goal.put_behind-place-requires-clause-behind
put_behind-place-requires-clause-behind g c = λ k x is hi.
    free_below c.args.list.now.runs k x c.args.run.first c.args.run.last c.requires.canonical is c.requires.free c.requires.order
    (c.count_ended-place.ensures.others k x (ap (λ (l : List HoldRun). slice_get l k) c.list.ensures ∙ is) hi)

pub join_next-requires-clause-few : goal.join_next-requires-clause-few
join_next-requires-clause-few g c = omega (arith, c.requires.few, c.put_behind-place.ensures.runs.few)

pub join_next-requires-clause-back : goal.join_next-requires-clause-back
join_next-requires-clause-back g c = subst IsCanonical (sym c.put_behind-place.ensures.runs.rest) (canonical_drop c.count_ended-place.result c.args.list.now.runs c.requires.canonical)

pub join_next-requires-clause-apart : goal.join_next-requires-clause-apart
join_next-requires-clause-apart g c = λ x y here next.
    next_apart c.args.list.now.runs c.put_behind-place.new.list.runs c.count_ended-place.result c.put_behind-place.result _ x y c.put_behind-place.ensures.runs
    (λ k z is hi. free_below c.args.list.now.runs k z c.args.run.first c.args.run.last c.requires.canonical is c.requires.free c.requires.order
    (c.count_ended-place.ensures.others k z (ap (λ (l : List HoldRun). slice_get l k) c.list.ensures ∙ is) hi)) here next

pub returns-clause-held : goal.returns-clause-held
returns-clause-held g c =
    c.join_next.ensures.held ∙ put_whole c.args.list.now.runs c.put_behind-place.new.list.runs c.count_ended-place.result c.put_behind-place.result c.args.run c.requires.canonical c.requires.order
    (λ k z is lo. c.count_ended-place.ensures.ended k z (ap (λ (l : List HoldRun). slice_get l k) c.list.ensures ∙ is) lo)
    (λ k z is hi. free_below c.args.list.now.runs k z c.args.run.first c.args.run.last c.requires.canonical is c.requires.free c.requires.order
    (c.count_ended-place.ensures.others k z (ap (λ (l : List HoldRun). slice_get l k) c.list.ensures ∙ is) hi)) c.put_behind-place.ensures.runs

pub returns-clause-more : goal.returns-clause-more
returns-clause-more g c =
    ap (λ (h : Held). length h) c.join_next.ensures.held
    ∙ put_count c.args.list.now.runs c.put_behind-place.new.list.runs c.count_ended-place.result c.put_behind-place.result c.args.run c.put_behind-place.ensures.runs
