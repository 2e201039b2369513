use Rattle.std.proofs.Common.{Some}
use Rattle.shard_lock.specs.History.{entry}
use Rattle.turn_lock.specs.Asking.{entries}
use Rattle.turn_lock.proofs.leading.do_all.Given as goal

abbrev pub ghosts-enter_turn : goal.ghosts-enter_turn
ghosts-enter_turn g a = record { entries = Some (entries a.asks.now.items a.answers.now.items, entry a.number a.done.now.0 a.done.now.1) }
