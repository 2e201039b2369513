use Rattle.std.proofs.Common.{Some, None, ◌∙◌, sym, ap}
use Rattle.std.specs.List.{position}
use Rattle.share_session.proofs.Placed.{placed, own}
use Rattle.share_session.proofs.change.put.Goals as goal

pub returns-in-Some : goal.returns-in-Some
returns-in-Some c =
    sym (placed c.args.session c.args.list.now.items (Some c.in-Some.place)
    (c.in-Some.ensures.place ∙ ap (position (own c.args.session)) c.deref.ensures.value))

pub returns-in_default : goal.returns-in_default
returns-in_default c =
    sym (placed c.args.session c.args.list.now.items None
    (sym c.in_default.is ∙ c.place_of.ensures.place ∙ ap (position (own c.args.session)) c.deref.ensures.value))
