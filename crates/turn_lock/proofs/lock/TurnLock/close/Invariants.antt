use Rattle.std.proofs.Common.{◌≡◌, ℕ, ◌<◌, false, get_or}
use mathlib.Core.Option.{some}
use lib.ListN.{get_elem?}
use Rattle.std.specs.Slots.{slots_items, slots_filled, slots_len}
use Rattle.std.specs.Slots.Ownership.{Filled}
use Rattle.turn_lock.specs.declared.board.Cell.TheVariants.{Empty}
use Rattle.turn_lock.proofs.lock.TurnLock.close.Given as goal

abbrev pub invariant-loop-slot : goal.invariant-loop-slot
invariant-loop-slot g l = Filled (slots_filled l.closed.slots) l.slot l.words × ((k : ℕ) → k < l.slot → get_or (slots_filled l.closed.slots) k false ≡ false) × (slots_len l.closed.slots ≡ l.words)
    × ((k : ℕ) → 0 < k → k < l.words → get_elem? (slots_items l.closed.slots) k ≡ some Empty)
