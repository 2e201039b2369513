use Rattle.share_client.proofs.Judging.{noted}
use Rattle.share_client.proofs.judge.note.Goals as goal

pub returns-in-Ok : goal.returns-in-Ok
returns-in-Ok c = noted c.args.names.now c.insert.new.self c.args.name c.in-Ok.added c.in-Ok.ensures.added c.in-Ok.ensures.updates.0 c.in-Ok.ensures.updates.1
