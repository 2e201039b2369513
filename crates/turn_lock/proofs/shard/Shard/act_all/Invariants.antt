use Rattle.std.proofs.Common.{◌≡◌, ◌≤◌, length, take}
use Rattle.std.specs.Prelude.{vec_capacity}
use Rattle.shard_lock.specs.History.{Leads}
use Rattle.turn_lock.specs.Asking.{entries}
use Rattle.turn_lock.proofs.shard.Shard.act_all.Given as goal

abbrev pub invariant-loop-ask : goal.invariant-loop-ask
invariant-loop-ask g l = (length l.answers.items ≡ l.ask-index) × (length l.asks.items ≤ vec_capacity l.answers) × Leads g.Self.Shard.acts l.fn.self (entries (take l.ask-index l.asks.items) l.answers.items) l.self
