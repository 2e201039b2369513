use Rattle.std.proofs.Common.{◌++◌, ◌∙◌, ap}
use Rattle.session_script.specs.declared.event.Event.TheVariants.{Open}
use Rattle.tape_merge.specs.Telling.{last_close}
use Rattle.tape_merge.proofs.Tellings.{bytes_told, told_opening}
use Rattle.tape_merge.proofs.tell.tell_opening.Goals as goal

pub returns : goal.returns
returns c =
    told_opening c.args.events.now.items c.tell.new.events.items c.tell_bytes.new.events.items c.tell_last_close.new.events.items
    (bytes_told c.args.id c.args.link.now.bytes) (last_close c.args.id c.args.link.now 0) (Open c.args.id) c.in_ok-tell.ensures
    (c.in_ok-tell_bytes.ensures ∙ ap (λ x. c.tell.new.events.items ++ bytes_told c.args.id x) c.as_slice.ensures) c.in_ok-tell_last_close.ensures
