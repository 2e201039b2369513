use Rattle.std.proofs.Common.{◌≡◌, ◌+◌, ℕ, length}
use Rattle.turn_lock.specs.Asking.{AreBelow, entries}
use Rattle.turn_lock.specs.Rule.{HasLeft}
use Rattle.turn_lock.proofs.leading.tell_all.Given as goal

abbrev pub invariant-loop-answer : goal.invariant-loop-answer
invariant-loop-answer g l = (l.place.table_id ≡ l.fn.place.table_id) × (l.place.id ≡ l.fn.place.id) × HasLeft l.fn.place.me l.place.me (entries l.rest l.answer-iterator.rest.items)
    × (length l.answer-iterator.rest.items ≡ length l.rest) × ((n : ℕ) → l.words ≡ 1 + n → AreBelow n l.rest)
