use Rattle.std.proofs.Common.{subst, List}
use Rattle.share_coord.specs.States.{states_of}
use Rattle.share_model.specs.ForeignRules.{share_state_at}
use Rattle.share_model.specs.declared.ack.AckBatch.{AckBatch}
use Rattle.share_part.specs.Foreseeing.{JudgesGiven}
use Rattle.share_part.specs.Hosting.{key_of}
use Rattle.share_part.specs.Shards.{held_in}
use Rattle.share_part.proofs.acks.judge_acks.Goals as goal

pub returns-clause-judged : goal.returns-clause-judged
returns-clause-judged g c = subst (λ (l : List AckBatch). JudgesGiven c.args.conf.now.limit c.args.log.now.start c.args.visit.now.member l c.args.log.now.batches
    (held_in g.W.Window.held c.args.windows.now.entries c.args.visit.now.group)
    (share_state_at (states_of c.args.states.now.entries) (key_of c.args.conf.now c.args.visit.now.group)) c.judge_given.new.rows.list c.judge_given.result)
    c.as_slice.ensures.items c.judge_given.ensures.judged
