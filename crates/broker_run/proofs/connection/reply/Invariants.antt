use Rattle.std.proofs.Common.{◌≡◌, ◌≤◌, length}
use Rattle.topic_conf.specs.Configs.{ConfigParts}
use Rattle.broker_run.specs.Serving.{Replied}
use Rattle.broker_run.proofs.connection.reply.Given as goal

abbrev pub invariant-loop-frame : goal.invariant-loop-frame
invariant-loop-frame g l = record {
  replied : (conf : ConfigParts) → Replied conf l.fn.conn l.conn (g.K.Link.held l.fn.link) (g.K.Link.held l.link);
  left : g.K.Link.left l.link ≡ g.K.Link.left l.fn.link;
  ended : g.K.Link.ended l.link ≡ g.K.Link.ended l.fn.link;
  later : g.K.Link.faults l.fn.link ≤ g.K.Link.faults l.link;
}

abbrev pub decreases-loop-frame : goal.decreases-loop-frame
decreases-loop-frame g l = length l.conn.replies
