use Rattle.std.proofs.Common.{◌≡◌, false, true, Ok, rules}
use Rattle.share_client.specs.Grants.{is_passed, name_of}
use Rattle.share_client.specs.Spans.{Notes}
use Rattle.share_client.proofs.Judging.{entry_done}
use Rattle.share_client.proofs.judge.judge_entry.Goals as goal

pub returns-in-Ok : goal.returns-in-Ok
returns-in-Ok c =
    let looked : is_passed (c.args.topic, c.args.located.now) ≡ false = search rules in
    let notes : Notes c.args.tally.now.names (name_of (c.args.topic, c.args.located.now)) (Ok true) c.note.new.names = search rules in
    entry_done (c.args.topic, c.args.located.now) c.args.tally.now looked (record { names = c.note.new.names; left = c.in-Ok.left }) notes c.in-Ok.ensures
