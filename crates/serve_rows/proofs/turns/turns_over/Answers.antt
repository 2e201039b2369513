use Rattle.broker_locks.proofs.Whole.{hosts_all, whole_of}
use Rattle.serve_rows.proofs.turns.turns_over.Goals as goal

pub turns_of_row-requires-clause-hosts : goal.turns_of_row-requires-clause-hosts
turns_of_row-requires-clause-hosts g c =
    hosts_all c.in-Ok.opened.0 (whole_of c.in-Ok.opened.0 c.args.conf c.in-Ok.ensures.opens.0 c.in-Ok.ensures.opens.1.whole)
