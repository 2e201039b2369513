use Rattle.std.proofs.Common.{◌≡◌, ◌+◌, ◌≤◌, ℕ, length}
use Rattle.std.specs.Prelude.{vec_capacity}
use Rattle.turn_lock.specs.Asking.{AreBelow}
use Rattle.turn_lock.specs.Rule.{HasBoxes, IsLeading}
use Rattle.turn_lock.proofs.leading.grab_all.Given as goal

abbrev pub invariant-loop-word : goal.invariant-loop-word
invariant-loop-word g l = (l.place.table_id ≡ l.fn.place.table_id) × (l.place.id ≡ l.fn.place.id) × HasBoxes l.fn.place.me l.place.me l.asks.items × ((n : ℕ) → l.words ≡ 1 + n → AreBelow n l.asks.items)
    × IsLeading l.place.me × (vec_capacity l.asks ≡ vec_capacity l.fn.asks) × (length l.asks.items ≤ l.most)
