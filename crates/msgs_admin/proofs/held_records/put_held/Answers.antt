use Rattle.msgs_admin.proofs.Tags.{held_writes}
use Rattle.msgs_admin.proofs.held_records.put_held.Goals as goal

pub returns-clause-ok : goal.returns-clause-ok
returns-clause-ok c =
    held_writes _ _ _ _ _ c.args.held c.put.result c.in_ok-put_uvarint.ensures.ok c.in_ok-put_uvarint-2.ensures.ok
    c.in_ok-put_uvarint-3.ensures.ok c.put.ensures.ok
