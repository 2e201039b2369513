use Rattle.std.proofs.Common.{◌≡◌, ◌++◌, length}
use Rattle.conn_core.specs.Conns.{without_replies}
use Rattle.broker_model.specs.Steps.{replies_to}
use Rattle.broker_core.proofs.client.replies.Given as goal

abbrev pub invariant-loop-frame : goal.invariant-loop-frame
invariant-loop-frame l = record {
  told : l.outcomes.items ++ replies_to l.id l.conn ≡ l.fn.outcomes.items ++ replies_to l.id l.fn.conn;
  rest : without_replies l.conn ≡ without_replies l.fn.conn;
}

abbrev pub decreases-loop-frame : goal.decreases-loop-frame
decreases-loop-frame l = length l.conn.replies
