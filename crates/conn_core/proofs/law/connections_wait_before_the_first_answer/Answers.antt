use Rattle.conn_core.proofs.Wishing.{waits_before}
use Rattle.conn_core.proofs.law.connections_wait_before_the_first_answer.Goals as goal

pub returns : goal.returns
returns c = waits_before
