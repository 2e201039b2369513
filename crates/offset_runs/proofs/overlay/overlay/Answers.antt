use Rattle.std.proofs.Common.{◌≡◌, ◌++◌, suc, ap, arith, length, List, Option}
use Rattle.share_model.specs.declared.run.Run.{Run}
use Rattle.offset_runs.specs.Parts.{maybe_run}
use Rattle.offset_runs.proofs.Merges.{mine_done, theirs_done, next_of_mine, next_of_theirs}
use Rattle.offset_runs.proofs.overlay.overlay.Goals as goal

pub returns-in_default-clause-canonical : goal.returns-in_default-clause-canonical
returns-in_default-clause-canonical c =
    (mine_done c.args.mine.now c.args.theirs.now c.loop-head.out.items c.loop-head.head c.loop-head.rest.now c.loop-head.theirs.now c.loop-head.invariant.merging
    c.push_all.new.out.items c.loop-head.invariant.none c.in_default.is c.push_all.ensures.runs).canonical

pub returns-in_default-clause-rows : goal.returns-in_default-clause-rows
returns-in_default-clause-rows c =
    (mine_done c.args.mine.now c.args.theirs.now c.loop-head.out.items c.loop-head.head c.loop-head.rest.now c.loop-head.theirs.now c.loop-head.invariant.merging
    c.push_all.new.out.items c.loop-head.invariant.none c.in_default.is c.push_all.ensures.runs).rows

pub returns-in_default-split_first-clause-canonical : goal.returns-in_default-split_first-clause-canonical
returns-in_default-split_first-clause-canonical c =
    (theirs_done c.args.mine.now c.args.theirs.now c.loop-head.out.items c.loop-head.head c.loop-head.rest.now c.loop-head.theirs.now c.loop-head.invariant.merging
    c.push_apart.new.out.items c.push_joined.new.runs.items c.in-Some.x c.in-Some.is c.in_default-split_first.ensures.cases
    c.push_joined.ensures.runs c.push_apart.ensures.runs).canonical

pub returns-in_default-split_first-clause-rows : goal.returns-in_default-split_first-clause-rows
returns-in_default-split_first-clause-rows c =
    (theirs_done c.args.mine.now c.args.theirs.now c.loop-head.out.items c.loop-head.head c.loop-head.rest.now c.loop-head.theirs.now c.loop-head.invariant.merging
    c.push_apart.new.out.items c.push_joined.new.runs.items c.in-Some.x c.in-Some.is c.in_default-split_first.ensures.cases
    c.push_joined.ensures.runs c.push_apart.ensures.runs).rows

pub loop-head-preserved-then-x-y : goal.loop-head-preserved-then-x-y
loop-head-preserved-then-x-y c =
    let one : length (maybe_run c.loop-head.head ++ c.loop-head.rest.now) ≡ suc (length c.loop-head.rest.now) =
    ap (λ (h : Option Run). length (maybe_run h ++ c.loop-head.rest.now)) c.in-Some.is in
    let left : length (maybe_run c.first_and_rest.result.0 ++ c.first_and_rest.result.1.now) ≡ length c.loop-head.rest.now =
    ap (λ (l : List Run). length l) c.first_and_rest.ensures.parts in
    record {
      merging = next_of_mine c.args.mine.now c.args.theirs.now c.loop-head.out.items c.loop-head.head c.loop-head.rest.now c.loop-head.theirs.now c.loop-head.invariant.merging
          c.push_before.new.out.items c.in-Some.x c.in-Some-split_first.y.now c.in-Some-split_first.others.now c.first_and_rest.result.0 c.first_and_rest.result.1.now
          c.in-Some.is c.in-Some-split_first.ensures.cases.0 c.if-x-y.true c.push_before.ensures.runs c.first_and_rest.ensures.parts;
      none = c.first_and_rest.ensures.none;
      room = omega (arith, one, left, c.loop-head.invariant.room, c.push_before.ensures.len);
      few = omega (arith, one, left, c.loop-head.invariant.few, c.push_before.ensures.len);
      capacity = omega (arith, c.loop-head.invariant.capacity, c.push_before.ensures.capacity);
    }

pub loop-head-preserved : goal.loop-head-preserved
loop-head-preserved c =
    let one : length (maybe_run c.loop-head.head ++ c.loop-head.rest.now) ≡ suc (length c.loop-head.rest.now) =
    ap (λ (h : Option Run). length (maybe_run h ++ c.loop-head.rest.now)) c.in-Some.is in
    let fewer : length c.loop-head.theirs.now ≡ suc (length c.in-Some-split_first.others.now) =
    ap (λ (l : List Run). length l) c.in-Some-split_first.ensures.cases.0 in
    record {
      merging = next_of_theirs c.args.mine.now c.args.theirs.now c.loop-head.out.items c.loop-head.head c.loop-head.rest.now c.loop-head.theirs.now c.loop-head.invariant.merging
          c.push_joined-else-x-y.new.runs.items c.push_before.new.out.items c.in-Some.x c.in-Some-split_first.y.now c.run_behind.result c.in-Some-split_first.others.now
          c.in-Some.is c.in-Some-split_first.ensures.cases.0 (omega arith) c.push_before.ensures.runs c.push_joined-else-x-y.ensures.runs c.run_behind.ensures;
      none = tt;
      room = omega (arith, one, fewer, c.loop-head.invariant.room, c.push_before.ensures.len, c.push_joined-else-x-y.ensures.len);
      few = omega (arith, one, fewer, c.loop-head.invariant.few, c.push_before.ensures.len, c.push_joined-else-x-y.ensures.len);
      capacity = omega (arith, c.loop-head.invariant.capacity, c.push_before.ensures.capacity, c.push_joined-else-x-y.ensures.capacity);
    }
