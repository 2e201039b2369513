use Rattle.broker_locks.specs.Rows.{RowOf}
use Rattle.broker_locks.proofs.Lines.{all_weaker, new_passes, row_unused, row_whole}
use Rattle.broker_locks.proofs.shared.lock_shards.Goals as goal

pub make_rows-requires-clause-members : goal.make_rows-requires-clause-members
make_rows-requires-clause-members g c = new_passes c.in_ok-members.members 0 c.in_ok-members.member_passes.items c.in_ok-members.ensures.passes.0

pub make_rows-requires-clause-foreign : goal.make_rows-requires-clause-foreign
make_rows-requires-clause-foreign g c = new_passes c.in_ok-foreign.foreign 0 c.in_ok-foreign.foreign_passes.items c.in_ok-foreign.ensures.passes.0

pub returns-clause-passes : goal.returns-clause-passes
returns-clause-passes g c = record {
  each = all_weaker (RowOf c.in_ok-parts.parts.items c.in_ok-members.members c.in_ok-foreign.foreign) _ (row_whole _) c.in_ok-parts.rows.items
      c.in_ok-parts.ensures.each;
  count = c.in_ok-parts.ensures.count;
  parts = c.in_ok-parts.ensures.seats;
  members = c.in_ok-members.ensures.lock.1;
  foreign = c.in_ok-foreign.ensures.lock.1;
}

pub returns-clause-unused : goal.returns-clause-unused
returns-clause-unused g c = all_weaker (RowOf c.in_ok-parts.parts.items c.in_ok-members.members c.in_ok-foreign.foreign) _
    (row_unused (record { conf = c.args.conf; parts = c.in_ok-parts.parts.items; members = c.in_ok-members.members; foreign = c.in_ok-foreign.foreign }))
    c.in_ok-parts.rows.items c.in_ok-parts.ensures.each
