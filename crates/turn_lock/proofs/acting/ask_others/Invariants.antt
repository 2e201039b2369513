use Rattle.std.proofs.Common.{◌≡◌, []}
use Rattle.turn_lock.specs.declared.board.Role.TheVariants.{Asks}
use Rattle.turn_lock.specs.Rule.{asked_first, with_role}
use Rattle.turn_lock.proofs.acting.ask_others.Given as goal

abbrev pub ghosts-ask : goal.ghosts-ask
ghosts-ask g a = record { event = asked_first a.place.now.me.1 }

abbrev pub invariant-loop : goal.invariant-loop
invariant-loop g l = (l.place.table_id ≡ l.fn.place.table_id) × (l.place.id ≡ l.fn.place.id) × (l.place.me ≡ (with_role (Asks l.fn.event) l.fn.place.me.0, []))
