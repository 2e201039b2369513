use Rattle.std.proofs.Common.{◌≡◌, ◌<◌, ◌≤◌, ◌+◌, ◌∙◌, sym, ap, subst, arith, ℤ, List, length, Some, to_z, of_z, w64}
use Rattle.std.specs.Prelude.{min}
use Rattle.share_model.specs.ShareStates.{AreLaid, start_after}
use Rattle.share_model.specs.declared.run.Run.{Run}
use Rattle.state_records.specs.States.{StateParts, IsStart}
use Rattle.share_coord.specs.Views.{IsKeptState}
use Rattle.share_coord.specs.Stored.{IsUpdated, kept_at}
use Rattle.share_coord.specs.Tables.{found, shown}
use Rattle.share_coord.specs.declared.view.Kept.{Kept}
use Rattle.share_coord.proofs.Spans.{laid_stored}
use Rattle.share_coord.proofs.Taken.{is_told, kept_state, laid_as, not_told, start_fit, too_many_update, untold_update, update_taken}
use Rattle.share_coord.proofs.replay.take_update.Goals as goal

pub returns-then-list-gt-MAX_RUNS-clause-refused : goal.returns-then-list-gt-MAX_RUNS-clause-refused
returns-then-list-gt-MAX_RUNS-clause-refused c = λ _ new is.
    let i = c.state.invariant in
    let seen : StateParts = record {
      key = c.state.inside.key;
      snapshot = c.state.inside.snapshot;
      state_epoch = c.state.inside.state_epoch;
      leader_epoch = c.state.inside.leader_epoch;
      start = c.state.inside.start;
      complete = c.state.inside.complete;
      runs = c.state.inside.runs;
    } in
    let known : kept_at c.args.table.now.entries seen.key ≡ Some (shown c.in-Some.kept.now) = sym c.get.ensures ∙ ap found c.in-Some.is in
    let fit : IsKeptState c.in-Some.kept.now.view.state = subst (λ (k : Kept). IsKeptState k.view.state) c.kept.view_is c.kept.invariant.0 in
    let one = ap (λ (l : List Run). length l) c.list.ensures.same in
    let many : 1000000 < length c.in_ok-rows.rows.list = omega (arith, one, c.if-list-gt-MAX_RUNS.true) in
    let laid = laid_as c.args.table.now.entries seen i.0 i.1 i.2 c.in-Some.kept.now.view.state c.start_after-start.result c.in_ok-rows.rows.list fit.start
    (subst (λ (k : Kept). c.start_after-start.result ≡ start_after (to_z w64 (of_z w64 k.view.state.start)) (to_z w64 (of_z w64 c.state.inside.start))) c.kept.view_is c.start_after-start.ensures)
    (subst (λ (l : List Run). AreLaid (to_z w64 (of_z w64 c.start_after-start.result)) c.in-Some.kept.now.view.state.runs l c.in_ok-rows.rows.list) c.from_list-over.ensures
    (subst (λ (k : Kept). AreLaid (to_z w64 (of_z w64 c.start_after-start.result)) k.view.state.runs c.from_list-over.result.list c.in_ok-rows.rows.list) c.kept.view_is c.in_ok-rows.ensures.laid)) in
    too_many_update c.args.table.now.entries seen (shown c.in-Some.kept.now) c.in_ok-rows.rows.list known laid.1 many new
    (subst (λ (x : StateParts). IsUpdated c.args.table.now.entries x new) (sym c.state.view_is) is)

pub invariant_of-kept : goal.invariant_of-kept
invariant_of-kept c =
    let i = c.state.invariant in
    let seen : StateParts = record {
      key = c.state.inside.key;
      snapshot = c.state.inside.snapshot;
      state_epoch = c.state.inside.state_epoch;
      leader_epoch = c.state.inside.leader_epoch;
      start = c.state.inside.start;
      complete = c.state.inside.complete;
      runs = c.state.inside.runs;
    } in
    let fit : IsKeptState c.in-Some.kept.now.view.state = subst (λ (k : Kept). IsKeptState k.view.state) c.kept.view_is c.kept.invariant.0 in
    let one = ap (λ (l : List Run). length l) c.list.ensures.same in
    let few : length c.in_ok-rows.rows.list ≤ 1000000 = omega (arith, one, c.if-list-gt-MAX_RUNS.false) in
    let laid = laid_as c.args.table.now.entries seen i.0 i.1 i.2 c.in-Some.kept.now.view.state c.start_after-start.result c.in_ok-rows.rows.list fit.start
    (subst (λ (k : Kept). c.start_after-start.result ≡ start_after (to_z w64 (of_z w64 k.view.state.start)) (to_z w64 (of_z w64 c.state.inside.start))) c.kept.view_is c.start_after-start.ensures)
    (subst (λ (l : List Run). AreLaid (to_z w64 (of_z w64 c.start_after-start.result)) c.in-Some.kept.now.view.state.runs l c.in_ok-rows.rows.list) c.from_list-over.ensures
    (subst (λ (k : Kept). AreLaid (to_z w64 (of_z w64 c.start_after-start.result)) k.view.state.runs c.from_list-over.result.list c.in_ok-rows.rows.list) c.kept.view_is c.in_ok-rows.ensures.laid)) in (
      kept_state c.state.inside.state_epoch c.state.inside.leader_epoch c.start_after-start.result c.in_ok-rows.rows.list i.0 i.1
          (subst (λ (z : ℤ). IsStart z) (sym laid.0) (start_fit c.in-Some.kept.now.view.state.start c.state.inside.start fit.start i.2))
          (laid_stored (start_after c.in-Some.kept.now.view.state.start c.state.inside.start) c.in-Some.kept.now.view.state.runs c.state.inside.runs c.in_ok-rows.rows.list laid.1 fit.runs i.3) few,
      c.complete_after-complete.ensures c.in_ok-rows.rows.list c.in_ok-rows.ensures.laid,
    )

pub returns-clause-taken : goal.returns-clause-taken
returns-clause-taken c = λ _.
    let i = c.state.invariant in
    let seen : StateParts = record {
      key = c.state.inside.key;
      snapshot = c.state.inside.snapshot;
      state_epoch = c.state.inside.state_epoch;
      leader_epoch = c.state.inside.leader_epoch;
      start = c.state.inside.start;
      complete = c.state.inside.complete;
      runs = c.state.inside.runs;
    } in
    let known : kept_at c.args.table.now.entries seen.key ≡ Some (shown c.in-Some.kept.now) = sym c.get.ensures ∙ ap found c.in-Some.is in
    let fit : IsKeptState c.in-Some.kept.now.view.state = subst (λ (k : Kept). IsKeptState k.view.state) c.kept.view_is c.kept.invariant.0 in
    let one = ap (λ (l : List Run). length l) c.list.ensures.same in
    let few : length c.in_ok-rows.rows.list ≤ 1000000 = omega (arith, one, c.if-list-gt-MAX_RUNS.false) in
    let laid = laid_as c.args.table.now.entries seen i.0 i.1 i.2 c.in-Some.kept.now.view.state c.start_after-start.result c.in_ok-rows.rows.list fit.start
    (subst (λ (k : Kept). c.start_after-start.result ≡ start_after (to_z w64 (of_z w64 k.view.state.start)) (to_z w64 (of_z w64 c.state.inside.start))) c.kept.view_is c.start_after-start.ensures)
    (subst (λ (l : List Run). AreLaid (to_z w64 (of_z w64 c.start_after-start.result)) c.in-Some.kept.now.view.state.runs l c.in_ok-rows.rows.list) c.from_list-over.ensures
    (subst (λ (k : Kept). AreLaid (to_z w64 (of_z w64 c.start_after-start.result)) k.view.state.runs c.from_list-over.result.list c.in_ok-rows.rows.list) c.kept.view_is c.in_ok-rows.ensures.laid)) in
    subst (λ (x : StateParts). IsUpdated c.args.table.now.entries x c.insert.new.self.entries) c.state.view_is
    (update_taken c.args.table.now.entries seen i.0 i.1 i.2 (shown c.in-Some.kept.now) c.start_after-start.result c.in_ok-rows.rows.list c.one_more-updates.result c.insert.new.self.entries
    known (sym c.if-kept-state.false ∙ ap (λ (k : Kept). k.snapshot) c.kept.view_is) fit.start laid.0 laid.1 few
    (is_told c.tells.result c.state.inside.complete c.in_ok-rows.rows.list c.complete_after-complete.result c.tells.ensures
    (c.complete_after-complete.ensures c.in_ok-rows.rows.list c.in_ok-rows.ensures.laid) c.if-not-tells.false) (c.one_more-updates.ensures ∙ ap (λ (k : Kept). min (k.updates + 1) 500) c.kept.view_is) c.in_ok-insert.ensures.entries)

pub returns-then-not-tells-clause-refused : goal.returns-then-not-tells-clause-refused
returns-then-not-tells-clause-refused c = λ _ new is.
    let i = c.state.invariant in
    let seen : StateParts = record {
      key = c.state.inside.key;
      snapshot = c.state.inside.snapshot;
      state_epoch = c.state.inside.state_epoch;
      leader_epoch = c.state.inside.leader_epoch;
      start = c.state.inside.start;
      complete = c.state.inside.complete;
      runs = c.state.inside.runs;
    } in
    let known : kept_at c.args.table.now.entries seen.key ≡ Some (shown c.in-Some.kept.now) = sym c.get.ensures ∙ ap found c.in-Some.is in
    let fit : IsKeptState c.in-Some.kept.now.view.state = subst (λ (k : Kept). IsKeptState k.view.state) c.kept.view_is c.kept.invariant.0 in
    let laid = laid_as c.args.table.now.entries seen i.0 i.1 i.2 c.in-Some.kept.now.view.state c.start_after-start.result c.in_ok-rows.rows.list fit.start
    (subst (λ (k : Kept). c.start_after-start.result ≡ start_after (to_z w64 (of_z w64 k.view.state.start)) (to_z w64 (of_z w64 c.state.inside.start))) c.kept.view_is c.start_after-start.ensures)
    (subst (λ (l : List Run). AreLaid (to_z w64 (of_z w64 c.start_after-start.result)) c.in-Some.kept.now.view.state.runs l c.in_ok-rows.rows.list) c.from_list-over.ensures
    (subst (λ (k : Kept). AreLaid (to_z w64 (of_z w64 c.start_after-start.result)) k.view.state.runs c.from_list-over.result.list c.in_ok-rows.rows.list) c.kept.view_is c.in_ok-rows.ensures.laid)) in
    untold_update c.args.table.now.entries seen (shown c.in-Some.kept.now) c.in_ok-rows.rows.list known laid.1
    (not_told c.tells.result c.state.inside.complete c.in_ok-rows.rows.list c.complete_after-complete.result c.tells.ensures
    (c.complete_after-complete.ensures c.in_ok-rows.rows.list c.in_ok-rows.ensures.laid) c.if-not-tells.true) new
    (subst (λ (x : StateParts). IsUpdated c.args.table.now.entries x new) (sym c.state.view_is) is)
