use Rattle.std.proofs.Common.{rules, ◌≡◌, ap}
use mathlib.Core.Option.{none}
use Rattle.atomic_table.specs.Table.{step}
use Rattle.turn_lock.specs.declared.board.Cell.TheVariants.{Ask}
use Rattle.turn_lock.proofs.Tops.{top_of, grab_so}
use Rattle.turn_lock.proofs.leading.grab_one.Goals as goal

pub exchange-cell-requires : goal.exchange-cell-requires
exchange-cell-requires g c = let hit : c.grab.result ≡ 1 = search rules in let t = c.grab.ensures.told.0 hit in
    (search rules, (Ask t.1, top_of _ _ _ _ (ap (λ m. m.1) t.6)))

pub returns-then-grab-eq-ASKED-clause-some : goal.returns-then-grab-eq-ASKED-clause-some
returns-then-grab-eq-ASKED-clause-some g c = let hit : c.grab.result ≡ 1 = search rules in
    grab_so (step c.args.top.now.table_id.slots c.args.word 1 0 none) c.grab.result c.args.place.now.me c.grab.new.place.me c.exchange-cell.new.seat.me c.turn.new.self.me c.exchange-cell.result c.in-Ask.event hit c.grab.ensures.told
    c.exchange-cell.ensures.2 c.exchange-cell.ensures.3 c.in-Ask.is c.turn.ensures.2
