use Rattle.std.proofs.Common.{arith}
use Rattle.offset_runs.proofs.Places.{begin_count-end_count}
use Rattle.offset_runs.proofs.Puts.{put_parts, pieces_joined, maybe_few}
use Rattle.offset_runs.proofs.change.put_over.Goals as goal

pub replace_by-requires-clause-order : goal.replace_by-requires-clause-order
replace_by-requires-clause-order c =
    let same = c.deref.ensures.value in
    let same2 = c.deref-2.ensures.value in
    let order = begin_count-end_count c.args.runs.now.items c.args.middle.first c.args.middle.last c.requires.canonical c.requires.order in
    omega (arith, order, rw same at c.part_before-start.ensures.place, rw same2 at c.part_behind-right.ensures.place)

pub replace_by-requires-clause-room : goal.replace_by-requires-clause-room
replace_by-requires-clause-room c =
    let same = c.deref.ensures.value in
    let same2 = c.deref-2.ensures.value in
    let order = begin_count-end_count c.args.runs.now.items c.args.middle.first c.args.middle.last c.requires.canonical c.requires.order in
    omega (
      arith,
      order,
      rw same at c.part_before-start.ensures.place,
      rw same2 at c.part_behind-right.ensures.place,
      maybe_few c.join_behind-left.result.0,
      maybe_few c.join_before-right.result.1,
      c.join_before-right.ensures.fewer,
      c.requires.room,
    )

pub returns-clause-runs : goal.returns-clause-runs
returns-clause-runs c =
    put_parts c.args.runs.now.items c.deref.result.now c.deref-2.result.now c.replace_by.new.runs.items _
    c.part_before-start.result.0 c.part_behind-right.result.1 c.part_before-start.result.1 c.part_behind-right.result.0 c.args.middle
    c.deref.ensures.value c.deref-2.ensures.value c.part_before-start.ensures.parts c.part_before-start.ensures.none
    c.part_behind-right.ensures.parts c.part_behind-right.ensures.none
    (pieces_joined c.part_before-start.result.1 c.join_behind-left.result.0 c.part_behind-right.result.0 c.join_before-right.result.1
    c.args.middle c.join_behind-left.result.1 c.join_before-right.result.0 c.join_behind-left.ensures.joined c.join_before-right.ensures.joined)
    c.replace_by.ensures.runs

pub returns-clause-len : goal.returns-clause-len
returns-clause-len c =
    let same = c.deref.ensures.value in
    let same2 = c.deref-2.ensures.value in
    let order = begin_count-end_count c.args.runs.now.items c.args.middle.first c.args.middle.last c.requires.canonical c.requires.order in
    omega (
      arith,
      order,
      rw same at c.part_before-start.ensures.place,
      rw same2 at c.part_behind-right.ensures.place,
      maybe_few c.join_behind-left.result.0,
      maybe_few c.join_before-right.result.1,
      c.join_before-right.ensures.fewer,
      c.replace_by.ensures.len,
    )
