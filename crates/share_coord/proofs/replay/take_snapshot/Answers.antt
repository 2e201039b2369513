use Rattle.std.proofs.Common.{◌<◌, ◌≤◌, ◌∙◌, sym, ap, subst, arith, List, [], length, None, if◌then◌else◌, to_z, of_z, w64}
use Rattle.share_model.specs.Runs.{row_at}
use Rattle.share_model.specs.ShareStates.{is_below}
use Rattle.share_model.specs.declared.run.Run.{Run}
use Rattle.state_records.specs.States.{StateParts}
use Rattle.share_coord.specs.Stored.{IsSnapshotted, next_snapshot}
use Rattle.share_coord.proofs.Spans.{laid_stored}
use Rattle.share_coord.proofs.Taken.{kept_state, cut_as, is_told, not_told, snapshot_taken, too_many_snapshot, untold_snapshot}
use Rattle.share_coord.proofs.replay.take_snapshot.Goals as goal

pub returns-then-list-gt-MAX_RUNS-clause-refused : goal.returns-then-list-gt-MAX_RUNS-clause-refused
returns-then-list-gt-MAX_RUNS-clause-refused c = λ _ new is.
    let i = c.state.invariant in
    let seen : StateParts = record {
      key = c.state.inside.key;
      snapshot = c.state.inside.snapshot;
      state_epoch = c.state.inside.state_epoch;
      leader_epoch = c.state.inside.leader_epoch;
      start = c.state.inside.start;
      complete = c.state.inside.complete;
      runs = c.state.inside.runs;
    } in
    let one = ap (λ (l : List Run). length l) c.list.ensures.same in
    let many : 1000000 < length c.cut_at.new.runs.list = omega (arith, one, c.if-list-gt-MAX_RUNS.true) in
    too_many_snapshot c.args.table.now.entries seen c.cut_at.new.runs.list
    (cut_as c.args.table.now.entries seen i.0 i.1 i.2 c.cut_at.new.runs.list c.list.ensures.canonical
    (λ o. c.cut_at.ensures.rows o ∙ ap (λ (l : List Run). if is_below o (to_z w64 (of_z w64 c.state.inside.start)) then None else row_at l o) c.from_list-rows.ensures))
    many new (subst (λ (x : StateParts). IsSnapshotted c.args.table.now.entries x new) (sym c.state.view_is) is)

pub invariant_of-kept : goal.invariant_of-kept
invariant_of-kept c =
    let i = c.state.invariant in
    let seen : StateParts = record {
      key = c.state.inside.key;
      snapshot = c.state.inside.snapshot;
      state_epoch = c.state.inside.state_epoch;
      leader_epoch = c.state.inside.leader_epoch;
      start = c.state.inside.start;
      complete = c.state.inside.complete;
      runs = c.state.inside.runs;
    } in
    let one = ap (λ (l : List Run). length l) c.list.ensures.same in
    let few : length c.cut_at.new.runs.list ≤ 1000000 = omega (arith, one, c.if-list-gt-MAX_RUNS.false) in (
      kept_state c.state.inside.state_epoch c.state.inside.leader_epoch c.state.inside.start c.cut_at.new.runs.list i.0 i.1 i.2
          (laid_stored c.state.inside.start [] c.state.inside.runs c.cut_at.new.runs.list
          (cut_as c.args.table.now.entries seen i.0 i.1 i.2 c.cut_at.new.runs.list c.list.ensures.canonical
          (λ o. c.cut_at.ensures.rows o ∙ ap (λ (l : List Run). if is_below o (to_z w64 (of_z w64 c.state.inside.start)) then None else row_at l o) c.from_list-rows.ensures))
          (tt, tt) i.3) few,
      c.complete_of-complete.ensures,
    )

pub returns-clause-taken : goal.returns-clause-taken
returns-clause-taken c = λ _.
    let i = c.state.invariant in
    let seen : StateParts = record {
      key = c.state.inside.key;
      snapshot = c.state.inside.snapshot;
      state_epoch = c.state.inside.state_epoch;
      leader_epoch = c.state.inside.leader_epoch;
      start = c.state.inside.start;
      complete = c.state.inside.complete;
      runs = c.state.inside.runs;
    } in
    let one = ap (λ (l : List Run). length l) c.list.ensures.same in
    let few : length c.cut_at.new.runs.list ≤ 1000000 = omega (arith, one, c.if-list-gt-MAX_RUNS.false) in
    subst (λ (x : StateParts). IsSnapshotted c.args.table.now.entries x c.insert.new.self.entries) c.state.view_is
    (snapshot_taken c.args.table.now.entries seen i.0 i.1 i.2 c.cut_at.new.runs.list c.insert.new.self.entries
    (c.is_next.ensures.0 c.if-not-is_next.false ∙ ap next_snapshot c.get.ensures)
    (cut_as c.args.table.now.entries seen i.0 i.1 i.2 c.cut_at.new.runs.list c.list.ensures.canonical
    (λ o. c.cut_at.ensures.rows o ∙ ap (λ (l : List Run). if is_below o (to_z w64 (of_z w64 c.state.inside.start)) then None else row_at l o) c.from_list-rows.ensures))
    few (is_told c.tells.result c.state.inside.complete c.cut_at.new.runs.list c.complete_of-complete.result c.tells.ensures c.complete_of-complete.ensures c.if-not-tells.false)
    c.in_ok-insert.ensures.entries)

pub complete_of-complete-requires : goal.complete_of-complete-requires
complete_of-complete-requires c =
    let i = c.state.invariant in
    let seen : StateParts = record {
      key = c.state.inside.key;
      snapshot = c.state.inside.snapshot;
      state_epoch = c.state.inside.state_epoch;
      leader_epoch = c.state.inside.leader_epoch;
      start = c.state.inside.start;
      complete = c.state.inside.complete;
      runs = c.state.inside.runs;
    } in
    laid_stored c.state.inside.start [] c.state.inside.runs c.cut_at.new.runs.list
    (cut_as c.args.table.now.entries seen i.0 i.1 i.2 c.cut_at.new.runs.list c.list.ensures.canonical
    (λ o. c.cut_at.ensures.rows o ∙ ap (λ (l : List Run). if is_below o (to_z w64 (of_z w64 c.state.inside.start)) then None else row_at l o) c.from_list-rows.ensures))
    (tt, tt) i.3

pub returns-then-not-tells-clause-refused : goal.returns-then-not-tells-clause-refused
returns-then-not-tells-clause-refused c = λ _ new is.
    let i = c.state.invariant in
    let seen : StateParts = record {
      key = c.state.inside.key;
      snapshot = c.state.inside.snapshot;
      state_epoch = c.state.inside.state_epoch;
      leader_epoch = c.state.inside.leader_epoch;
      start = c.state.inside.start;
      complete = c.state.inside.complete;
      runs = c.state.inside.runs;
    } in
    untold_snapshot c.args.table.now.entries seen c.cut_at.new.runs.list
    (cut_as c.args.table.now.entries seen i.0 i.1 i.2 c.cut_at.new.runs.list c.list.ensures.canonical
    (λ o. c.cut_at.ensures.rows o ∙ ap (λ (l : List Run). if is_below o (to_z w64 (of_z w64 c.state.inside.start)) then None else row_at l o) c.from_list-rows.ensures))
    (not_told c.tells.result c.state.inside.complete c.cut_at.new.runs.list c.complete_of-complete.result c.tells.ensures c.complete_of-complete.ensures c.if-not-tells.true)
    new (subst (λ (x : StateParts). IsSnapshotted c.args.table.now.entries x new) (sym c.state.view_is) is)
