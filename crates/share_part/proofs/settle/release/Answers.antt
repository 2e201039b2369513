use Rattle.std.proofs.Common.{◌≡◌, ◌∙◌, ap, sym, arith, length, false, true, List, rules}
use Rattle.share_model.specs.declared.run.Run.{Run}
use Rattle.share_part.specs.Settling.{is_chosen, releasing}
use Rattle.share_part.proofs.Doing.{released_none, released_one}
use Rattle.share_part.proofs.Fewer.{held_all}
use Rattle.share_part.proofs.settle.release.Goals as goal

pub returns-then-is_empty-clause-judged : goal.returns-then-is_empty-clause-judged
returns-then-is_empty-clause-judged g c =
    let none : length c.list.result.now ≡ 0 = search rules in
    released_none c.args.limit (is_chosen c.args.whose.now) (g.W.Window.held c.args.window.now) c.release_all.new.rows.list
    (sym (ap (λ (l : List Run). length l) c.list.ensures.same) ∙ none) c.release_all.ensures.rows

pub returns-clause-judged : goal.returns-clause-judged
returns-clause-judged g c = (
  released_one c.args.limit (is_chosen c.args.whose.now) (g.W.Window.held c.args.window.now) c.release_all.new.rows.list c.list.ensures.canonical
      (λ none. let has : length c.list.result.now ≡ 0 = ap (λ (l : List Run). length l) c.list.ensures.same ∙ none in
      let e : true ≡ false = search rules in let clash : ⊥ = cc in clash)
      c.release_all.ensures.rows,
  c.moved_by.ensures.is c.args.limit (releasing (is_chosen c.args.whose.now) (g.W.Window.held c.args.window.now)) (g.W.Window.held c.args.window.now) c.release_all.ensures.rows,
)

pub release_all-requires-clause-spare : goal.release_all-requires-clause-spare
release_all-requires-clause-spare g c = let room = c.requires.room in
    held_all (g.W.Window.held c.args.window.now) c.clear.new.self.spare (omega (arith, room, c.clear.ensures.room))
