use Rattle.msgs_admin.proofs.Tags.{none_writes}
use Rattle.msgs_admin.proofs.held_records.put_none.Goals as goal

pub returns-clause-ok : goal.returns-clause-ok
returns-clause-ok c = none_writes c.args.out.now c.put_uvarint.new.self c.put_uvarint.result c.put_uvarint.ensures.ok
