use Rattle.std.proofs.Common.{◌≡◌}
use Rattle.turn_lock.specs.Rule.{inner}
use Rattle.turn_lock.specs.declared.board.Desk.{Desk}
use Rattle.turn_lock.proofs.Begins.{IsLaid}
use Rattle.turn_lock.proofs.lock.set_up.Given as goal

abbrev pub invariant-loop-number : goal.invariant-loop-number
invariant-loop-number g l = (d : Desk g.row.S.Denot) × (inner d ≡ l.fn.shard) × IsLaid d l._number l.slots.items
