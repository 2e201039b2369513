use Rattle.std.proofs.Common.{◌∙◌, sym, ap}
use mathlib.Core.Option.{none}
use Rattle.atomic_table.specs.Table.{step}
use Rattle.turn_lock.specs.Asking.{entries}
use Rattle.turn_lock.specs.Rule.{boxes}
use Rattle.turn_lock.specs.Turns.{IsTurn}
use Rattle.shard_lock.specs.History.{entry}
use Rattle.turn_lock.specs.declared.board.Role.TheVariants.{Leads}
use Rattle.turn_lock.proofs.Tops.{asked_entries, entered_so}
use Rattle.turn_lock.proofs.leading.enter_turn.Goals as goal

pub enter-requires-clause-can : goal.enter-requires-clause-can
enter-requires-clause-can g c = let can = c.requires.can in record {
  before = can.0;
  after = can.1;
  more = boxes c.args.asks.now.items;
  others = entries c.args.asks.now.items c.args.answers.now.items;
  own = entry c.args.number c.args.done.now.0 c.args.done.now.1;
  leads = ap (λ m. m.0.role) can.2 ∙ ap (λ l. Leads can.0 l) (sym (asked_entries c.args.asks.now.items c.args.answers.now.items c.requires.count));
  held = ap (λ m. m.1) can.2;
  told = c.requires.said;
  seat = c.requires.number;
  act = can.3;
}

pub returns-clause-left : goal.returns-clause-left
returns-clause-left g c = let can = c.requires.can in
    (entered_so (IsTurn g.S.Shard.acts g.S.Shard.together) _ _ _ (step 0 0 0 0 none) _ _ can.1 c.args.asks.now.items c.requires.said (ap (λ m. m.1) can.2) (asked_entries c.args.asks.now.items c.args.answers.now.items c.requires.count) c.enter.ensures.told).0

pub returns-clause-extends : goal.returns-clause-extends
returns-clause-extends g c = let can = c.requires.can in
    (entered_so (IsTurn g.S.Shard.acts g.S.Shard.together) _ _ _ (step 0 0 0 0 none) _ _ can.1 c.args.asks.now.items c.requires.said (ap (λ m. m.1) can.2) (asked_entries c.args.asks.now.items c.args.answers.now.items c.requires.count) c.enter.ensures.told).1
