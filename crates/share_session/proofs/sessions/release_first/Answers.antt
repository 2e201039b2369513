use Rattle.std.proofs.Common.{◌∙◌, ap}
use Rattle.share_session.specs.Undone.{first_left}
use Rattle.share_session.proofs.Undone.{set_first, none_left}
use Rattle.share_session.proofs.sessions.release_first.Goals as goal

pub returns-in-Some : goal.returns-in-Some
returns-in-Some c =
    set_first c.drop_done.new.sessions.items c.in-Some.first.now c.leave_first.new.self c.in-Some.ensures.item.3.0 c.in-Some.ensures.item.1 c.leave_first.ensures
    ∙ ap first_left c.drop_done.ensures

pub returns-in_default : goal.returns-in_default
returns-in_default c = none_left c.drop_done.new.sessions.items c.in_default.ensures.item.3 ∙ ap first_left c.drop_done.ensures
