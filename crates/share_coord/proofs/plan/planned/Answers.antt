use Rattle.std.proofs.Common.{rules, ◌≡◌, ◌≤◌, ◌<◌, ◌+◌, ◌∙◌, ap, arith, ℤ, List, length, Some, false, to_z, of_z, w64}
use Rattle.offset_runs.specs.Complete.{complete_rows}
use Rattle.share_model.specs.ShareStates.{AreLaid, start_after}
use Rattle.share_model.specs.declared.run.Run.{Run}
use Rattle.state_records.specs.declared.record.StateRecord.TheVariants.{Snapshot, Update}
use Rattle.share_coord.specs.Calls.{counted}
use Rattle.share_coord.specs.Recorded.{start_told}
use Rattle.share_coord.specs.Tables.{shown}
use Rattle.share_coord.specs.Views.{IsKeptState}
use Rattle.share_coord.proofs.Owning.{after_sent, told_same, told_sent}
use Rattle.share_coord.proofs.Planning.{planned_snapshot, planned_update}
use Rattle.share_coord.proofs.Spans.{written_stored, laid_stored}
use Rattle.share_coord.proofs.Unwritten.{counted_low}
use Rattle.share_coord.proofs.plan.planned.Goals as goal

pub complete_after-complete-requires-clause-over : goal.complete_after-complete-requires-clause-over
complete_after-complete-requires-clause-over c = written_stored c.args.runs.now c.in-Ok.over.list c.requires.runs c.in-Ok.ensures

pub fresh_where-fresh-requires-clause-over : goal.fresh_where-fresh-requires-clause-over
fresh_where-fresh-requires-clause-over c = written_stored c.args.runs.now c.in-Ok.over.list c.requires.runs c.in-Ok.ensures

pub fresh_where-fresh-requires-clause-few : goal.fresh_where-fresh-requires-clause-few
fresh_where-fresh-requires-clause-few c =
    let one : length c.list.result.now ≡ length c.in-Ok.over.list = ap (λ (l : List Run). length l) c.list.ensures.same in
    omega (arith, one, c.max-count.ensures, c.if-count-gt-MAX_RUNS.false)

pub update-requires-clause-over : goal.update-requires-clause-over
update-requires-clause-over c = written_stored c.args.runs.now c.in-Ok.over.list c.requires.runs c.in-Ok.ensures

pub update-requires-clause-rows : goal.update-requires-clause-rows
update-requires-clause-rows c = laid_stored _ _ _ _ c.in-Ok-laid.ensures.laid c.kept.invariant.0.runs (written_stored c.args.runs.now c.in-Ok.over.list c.requires.runs c.in-Ok.ensures)

pub snapshot-requires-clause-rows : goal.snapshot-requires-clause-rows
snapshot-requires-clause-rows c = laid_stored _ _ _ _ c.in-Ok-laid.ensures.laid c.kept.invariant.0.runs (written_stored c.args.runs.now c.in-Ok.over.list c.requires.runs c.in-Ok.ensures)

pub fresh_where-fresh-requires-clause-ranges : goal.fresh_where-fresh-requires-clause-ranges
fresh_where-fresh-requires-clause-ranges c =
    let n = c.args.numbers.now in
    let known = shown c.args.kept.now in
    let fit : IsKeptState known.view = c.known.ensures in
    let told : c.start_told-told.result ≡ start_told known n.start = search rules in
    (c.requires.ranges.0, c.requires.ranges.1, told_sent known n.start c.start_told-told.result told fit.start c.requires.ranges.2)

pub update-requires-clause-ranges : goal.update-requires-clause-ranges
update-requires-clause-ranges c =
    let n = c.args.numbers.now in
    let known = shown c.args.kept.now in
    let fit : IsKeptState known.view = c.known.ensures in
    let told : c.start_told-told.result ≡ start_told known n.start = search rules in
    (c.requires.ranges.0, c.requires.ranges.1, told_sent known n.start c.start_told-told.result told fit.start c.requires.ranges.2)

pub update-requires-clause-updates : goal.update-requires-clause-updates
update-requires-clause-updates c =
    let n = c.args.numbers.now in
    let known = shown c.args.kept.now in
    let fit : IsKeptState known.view = c.known.ensures in
    let after : c.start_after-start.result ≡ start_after known.view.start n.start = search rules in
    let count : c.counted-updates.result ≡ (counted known (start_after known.view.start n.start)).updates = c.counted-updates.ensures
    ∙ ap (λ (z : ℤ). (counted known z).updates) (after_sent known n.start c.start_after-start.result after fit.start c.requires.ranges.2) in
    let low : (counted known (start_after known.view.start n.start)).updates < 500 = omega (arith, count, c.if-updates-lt500.true) in
    (counted_low known (start_after known.view.start n.start) low).low

pub returns-then-updates-lt500-clause-plan : goal.returns-then-updates-lt500-clause-plan
returns-then-updates-lt500-clause-plan c =
    let n = c.args.numbers.now in
    let known = shown c.args.kept.now in
    let over = c.in-Ok.over.list in
    let rows = c.in-Ok-laid.rows.list in
    let told = to_z w64 (of_z w64 c.start_told-told.result) in
    let fit : IsKeptState known.view = c.known.ensures in
    let told_by : c.start_told-told.result ≡ start_told known n.start = search rules in
    let told_is : told ≡ start_told known n.start = told_same known n.start c.start_told-told.result told_by fit.start c.requires.ranges.2 in
    let one : length c.list.result.now ≡ length over = ap (λ (l : List Run). length l) c.list.ensures.same in
    let two : length c.list-2.result.now ≡ length rows = ap (λ (l : List Run). length l) c.list-2.ensures.same in
    let few_over : length over ≤ 1000000 = omega (arith, one, c.max-count.ensures, c.if-count-gt-MAX_RUNS.false) in
    let few : length rows ≤ 1000000 = omega (arith, two, c.max-count.ensures, c.if-count-gt-MAX_RUNS.false) in
    let laid : AreLaid (start_after known.view.start n.start) known.view.runs over rows = search rules in
    let complete : c.complete_after-complete.result ≡ complete_rows rows = search rules in
    let after : c.start_after-start.result ≡ start_after known.view.start n.start = search rules in
    let count : c.counted-updates.result ≡ (counted known (start_after known.view.start n.start)).updates = c.counted-updates.ensures
    ∙ ap (λ (z : ℤ). (counted known z).updates) (after_sent known n.start c.start_after-start.result after fit.start c.requires.ranges.2) in
    let low : (counted known (start_after known.view.start n.start)).updates < 500 = omega (arith, count, c.if-updates-lt500.true) in
    let plain : c.update.result.written ≡ Update (record {
      key = n.key;
      snapshot = known.snapshot;
      state_epoch = n.state_epoch;
      leader_epoch = n.leader_epoch;
      start = told;
      complete = Some (complete_rows rows);
      runs = over;
    }) = search rules in
    let kept : shown c.update.result.kept ≡ record {
      view = record { state_epoch = n.state_epoch; leader_epoch = n.leader_epoch; start = start_after known.view.start n.start; runs = rows };
      snapshot = known.snapshot;
      updates = known.updates + 1;
      raised = false;
      tells = false;
    } = search rules in
    planned_update n.key known n.state_epoch n.leader_epoch n.start c.args.runs.now over rows c.key_fits.ensures c.in-Ok.ensures laid few_over few c.complete_after-complete.result complete
    told told_is c.update.result.written (shown c.update.result.kept) c.fresh_where-fresh.result c.fresh_where-fresh.ensures low plain kept

pub returns-in-Ok-snapshot-clause-plan : goal.returns-in-Ok-snapshot-clause-plan
returns-in-Ok-snapshot-clause-plan c =
    let n = c.args.numbers.now in
    let known = shown c.args.kept.now in
    let over = c.in-Ok.over.list in
    let rows = c.in-Ok-laid.rows.list in
    let told = to_z w64 (of_z w64 c.start_told-told.result) in
    let fit : IsKeptState known.view = c.known.ensures in
    let told_by : c.start_told-told.result ≡ start_told known n.start = search rules in
    let told_is : told ≡ start_told known n.start = told_same known n.start c.start_told-told.result told_by fit.start c.requires.ranges.2 in
    let one : length c.list.result.now ≡ length over = ap (λ (l : List Run). length l) c.list.ensures.same in
    let two : length c.list-2.result.now ≡ length rows = ap (λ (l : List Run). length l) c.list-2.ensures.same in
    let few_over : length over ≤ 1000000 = omega (arith, one, c.max-count.ensures, c.if-count-gt-MAX_RUNS.false) in
    let few : length rows ≤ 1000000 = omega (arith, two, c.max-count.ensures, c.if-count-gt-MAX_RUNS.false) in
    let laid : AreLaid (start_after known.view.start n.start) known.view.runs over rows = search rules in
    let complete : c.complete_after-complete.result ≡ complete_rows rows = search rules in
    let after : c.start_after-start.result ≡ start_after known.view.start n.start = search rules in
    let count : c.counted-updates.result ≡ (counted known (start_after known.view.start n.start)).updates = c.counted-updates.ensures
    ∙ ap (λ (z : ℤ). (counted known z).updates) (after_sent known n.start c.start_after-start.result after fit.start c.requires.ranges.2) in
    let high : 500 ≤ (counted known (start_after known.view.start n.start)).updates = omega (arith, count, c.if-updates-lt500.false) in
    let plain : c.in-Ok-snapshot.change.written ≡ Snapshot (record {
      key = n.key;
      snapshot = known.snapshot + 1;
      state_epoch = n.state_epoch;
      leader_epoch = n.leader_epoch;
      start = start_after known.view.start n.start;
      complete = Some (complete_rows rows);
      runs = rows;
    }) = search rules in
    let kept : shown c.in-Ok-snapshot.change.kept ≡ record {
      view = record { state_epoch = n.state_epoch; leader_epoch = n.leader_epoch; start = start_after known.view.start n.start; runs = rows };
      snapshot = known.snapshot + 1;
      updates = 0;
      raised = false;
      tells = false;
    } = search rules in
    planned_snapshot n.key known n.state_epoch n.leader_epoch n.start c.args.runs.now over rows c.key_fits.ensures c.in-Ok.ensures laid few_over few c.complete_after-complete.result complete
    told told_is c.in-Ok-snapshot.change.written (shown c.in-Ok-snapshot.change.kept) c.fresh_where-fresh.result c.fresh_where-fresh.ensures high plain kept
