use Rattle.std.proofs.Common.{◌∙◌, ap, rules, w32}
use Rattle.std.proofs.lemmas.Int.{to_z-of_z}
use mir.Val.{SFits}
use Rattle.share_session.specs.Requests.{wanted_in, forgotten_in}
use Rattle.share_session.proofs.Asked.{fetch_is}
use Rattle.share_session.proofs.sessions.planned_fetch.Goals as goal

pub returns-clause-plan : goal.returns-clause-plan
returns-clause-plan c =
    let caller = c.in_ok-caller.caller in
    let topics = c.args.conf.now.topics in
    let fits : SFits w32 c.args.request.now.share_session_epoch = search rules in
    c.in_ok-fetch_by_epoch.ensures
    ∙ fetch_is c.args.sessions.now topics c.args.request.now caller _ _ c.in_ok-wanted.wanted.entries c.in_ok-forgotten.forgotten.keys
    c.in_ok-caller.ensures.caller
    c.session_of-session.ensures
    (to_z-of_z w32 _ fits)
    (c.in_ok-wanted.ensures ∙ ap (wanted_in topics) c.as_slice-topics.ensures.items)
    (c.in_ok-forgotten.ensures ∙ ap (forgotten_in topics) c.as_slice.ensures.items)
