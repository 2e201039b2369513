use Rattle.std.proofs.Common.{rules, ◌∙◌, ◌+◌, ◌-◌, length, ap, subst, arith}
use mathlib.Core.Option.{none}
use Rattle.atomic_table.specs.Table as table
use Rattle.atomic_table.specs.Table.{step}
use Rattle.shard_lock.specs.History.{entry}
use Rattle.turn_lock.specs.declared.board.Cell.TheVariants.{Told}
use Rattle.turn_lock.specs.Asking.{AreBelow, entries}
use Rattle.turn_lock.proofs.Tops.{told_top, told_next}
use Rattle.turn_lock.proofs.leading.tell_all.Goals as goal

pub overflow_add-word : goal.overflow_add-word
overflow_add-word g c = let t = c.requires.table in
    let low = (subst (λ l. AreBelow (c.args.words - 1) l) c.in-Some-split_first.ensures.cases.0 (c.loop-answer.invariant.4 (c.args.words - 1) (omega arith))).0 in
    let fits = c.ranges.words.fits in omega arith

pub tell-requires-clause-table : goal.tell-requires-clause-table
tell-requires-clause-table g c = let t = c.requires.table in
    let low = (subst (λ l. AreBelow (c.args.words - 1) l) c.in-Some-split_first.ensures.cases.0 (c.loop-answer.invariant.4 (c.args.words - 1) (omega arith))).0 in
    (search rules, omega arith)

pub tell-requires-clause-can : goal.tell-requires-clause-can
tell-requires-clause-can g c = let ask = c.in-Some-split_first.ask.now in let others = c.in-Some-split_first.others.now in
    let top = told_top c.args.place.now.me c.loop-answer.place.me _ others _ c.next.new.self.rest.items ask c.in-Some.answer c.in-Some-split_first.ensures.cases.0 c.in-Some.ensures.steps.0 c.loop-answer.invariant.2 in record {
      first = entry ask.0 ask.1 c.in-Some.answer;
      others = entries others c.next.new.self.rest.items;
      more = table.rest c.loop-answer.place.me.1;
      tells = ap (λ m. m.0.role) c.exchange.ensures.3 ∙ ap (λ m. m.0.role) top;
      seat = omega arith;
      held = ap (λ m. m.1) c.exchange.ensures.3;
    }

pub loop-answer-preserved : goal.loop-answer-preserved
loop-answer-preserved g c = let ask = c.in-Some-split_first.ask.now in let others = c.in-Some-split_first.others.now in let i = c.loop-answer.invariant in
    let top = told_top c.args.place.now.me c.loop-answer.place.me _ others _ c.next.new.self.rest.items ask c.in-Some.answer c.in-Some-split_first.ensures.cases.0 c.in-Some.ensures.steps.0 i.2 in
    let one = ap length c.in-Some-split_first.ensures.cases.0 in let two = ap length c.in-Some.ensures.steps.0 in let same = i.3 in (
      search rules,
      search rules,
      told_next (step c.args.top.now.table_id.slots (ask.0 + 1) 2 0 none) c.args.place.now.me c.loop-answer.place.me c.exchange.new.seat.me c.tell.new.place.me
          (entry ask.0 ask.1 c.in-Some.answer) (entries others c.next.new.self.rest.items) (ask.0 + 1, Told c.in-Some.answer) top c.exchange.ensures.3 c.tell.ensures.told,
      omega arith,
      λ n is. (subst (λ l. AreBelow n l) c.in-Some-split_first.ensures.cases.0 (i.4 n is)).1,
    )
