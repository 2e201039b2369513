use Rattle.std.proofs.Common.{rules, ◌≡◌, sym, subst}
use Rattle.turn_lock.specs.Asking.{AreBelow}
use Rattle.turn_lock.specs.Rule.{HasBoxes}
use Rattle.turn_lock.proofs.Tops.{own_boxes}
use Rattle.turn_lock.proofs.leading.lead_all.Goals as goal

pub grab_all-requires-clause-leads : goal.grab_all-requires-clause-leads
grab_all-requires-clause-leads g c = let none = c.rooms-asks.ensures.none in (subst (λ l. HasBoxes c.args.place.now.me c.args.place.now.me l) (sym none.0) c.requires.leads, none.0)

pub do_all-answer-requires-clause-boxes : goal.do_all-answer-requires-clause-boxes
do_all-answer-requires-clause-boxes g c = own_boxes c.args.place.now.me c.grab_all.new.place.me c.grab_all.new.asks.items c.grab_all.ensures.boxes

pub tell_all-requires-clause-below : goal.tell_all-requires-clause-below
tell_all-requires-clause-below g c = λ n is. let same : c.grab_all.new.asks.items ≡ c.as_slice.result.now = search rules in subst (λ l. AreBelow n l) same (c.grab_all.ensures.below n is)
