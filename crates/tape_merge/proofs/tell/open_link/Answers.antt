use Rattle.std.proofs.Common.{sym}
use Rattle.std.proofs.lemmas.Option.{get_or_from_slice_get, slice_get_within}
use Rattle.tape_merge.proofs.Tellings.{link_opened}
use Rattle.tape_merge.proofs.tell.open_link.Goals as goal

pub returns : goal.returns
returns c = λ whole keeps.
    let is = sym c.in-Some.ensures.is in
    link_opened c.args.links.now c.args.id c.in-Some.link.now c.args.events.now.items c.tell_opening.new.events.items whole
    (slice_get_within c.args.links.now c.args.id c.in-Some.link.now is)
    (sym (get_or_from_slice_get c.args.links.now c.args.id c.in-Some.link.now c.in-Some.link.now is)) c.in_ok-tell_opening.ensures keeps
