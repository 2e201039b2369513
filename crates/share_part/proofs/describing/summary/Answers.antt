use Rattle.std.proofs.Common.{◌≡◌, ◌∙◌, ◌-◌, sym, ap, arith, ℕ, Option, ◌&&◌, nat_le}
use Rattle.offset_runs.specs.Complete.{complete_rows}
use Rattle.share_coord.specs.Views.{ViewParts}
use Rattle.share_model.specs.ForeignRules.{size_of}
use Rattle.share_model.specs.Logs.{end_of}
use Rattle.share_model.specs.Runs.{row_at}
use Rattle.share_model.specs.declared.row.RowState.TheVariants.{Acknowledged, Archived}
use Rattle.share_part.specs.Describing.{count_below, first_end, is_open, is_stored_as}
use Rattle.share_part.specs.Tallying.{count_runs}
use Rattle.share_part.proofs.Described.{told}
use Rattle.share_part.proofs.describing.summary.Goals as goal

pub overflow_sub-result-2 : goal.overflow_sub-result-2
overflow_sub-result-2 g c =
    let t = told c.args.view.now.state.runs (size_of c.args.view.now.state.start) (end_of c.args.log.now.batches) c.requires.runs in
    let start = c.start_of-start.ensures in
    let end = c.end-end.ensures.end in
    let complete : c.complete-complete.result ≡ complete_rows c.args.view.now.state.runs = c.complete-complete.ensures in
    omega (arith, t.lag, complete, start, end)

pub overflow_sub-result-3 : goal.overflow_sub-result-3
overflow_sub-result-3 g c =
    let t = told c.args.view.now.state.runs (size_of c.args.view.now.state.start) (end_of c.args.log.now.batches) c.requires.runs in
    let start = c.start_of-start.ensures in
    let end = c.end-end.ensures.end in
    let complete : c.complete-complete.result ≡ complete_rows c.args.view.now.state.runs = c.complete-complete.ensures in
    let acknowledged : c.acknowledged-acknowledged.result ≡ count_runs (is_stored_as Acknowledged) c.args.view.now.state.runs =
    c.acknowledged-acknowledged.ensures ∙ ap (count_runs (is_stored_as Acknowledged)) (c.list.ensures.same ∙ ap (λ (v : ViewParts). v.state.runs) c.view.view_is) in
    omega (arith, t.archived, complete, acknowledged)

pub returns : goal.returns
returns g c =
    let t = told c.args.view.now.state.runs (size_of c.args.view.now.state.start) (end_of c.args.log.now.batches) c.requires.runs in
    let start = c.start_of-start.ensures in
    let end = c.end-end.ensures.end in
    let complete : c.complete-complete.result ≡ complete_rows c.args.view.now.state.runs = c.complete-complete.ensures in
    let acknowledged : c.acknowledged-acknowledged.result ≡ count_runs (is_stored_as Acknowledged) c.args.view.now.state.runs =
    c.acknowledged-acknowledged.ensures ∙ ap (count_runs (is_stored_as Acknowledged)) (c.list.ensures.same ∙ ap (λ (v : ViewParts). v.state.runs) c.view.view_is) in
    let lag : (c.end-end.result - c.start_of-start.result) - c.complete-complete.result
    ≡ count_below (λ o. nat_le (size_of c.args.view.now.state.start) o && is_open (row_at c.args.view.now.state.runs o)) (end_of c.args.log.now.batches) =
    omega (arith, t.lag, complete, start, end) in
    let held = c.count.ensures in
    let first = c.first_lock_end.ensures ∙ ap first_end c.list-2.ensures.same in
    let accepted = acknowledged ∙ sym t.acknowledged in
    let archived : c.complete-complete.result - c.acknowledged-acknowledged.result
    ≡ count_below (λ o. nat_le (size_of c.args.view.now.state.start) o && is_stored_as Archived (row_at c.args.view.now.state.runs o)) (end_of c.args.log.now.batches) =
    omega (arith, t.archived, complete, acknowledged) in
    λ i. record { start = start i; end = end i; lag = lag i; held = held i; first_lock_end = first i; acknowledged = accepted i; archived = archived i }
