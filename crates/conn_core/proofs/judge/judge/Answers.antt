use Rattle.std.proofs.Common.{◌≡◌, ◌∙◌, ap, sym, Ok, IfOk, rules}
use Rattle.req_head.specs.InTwo.{head_start}
use Rattle.conn_core.specs.Judging.{call_verdict}
use Rattle.conn_core.proofs.Starting.{started_by}
use Rattle.conn_core.proofs.judge.judge.Goals as goal

pub returns-in-Ok-clause-verdict : goal.returns-in-Ok-clause-verdict
returns-in-Ok-clause-verdict c =
    let x = c.in-Ok in
    let after = c.take_head_start.new.cursor in
    let read : head_start.read (record { place = 0; left = c.args.frame.now }) ≡ Ok ((x.key, (x.version, x.correlation)), after) =
    ap (λ at. head_start.read at) (sym c.new-cursor.ensures) ∙ c.in-Ok.ensures.read in
    let told : IfOk c.judge_call.result (λ j. j ≡ call_verdict c.args.conf.now c.args.sessions.now x.key x.version x.correlation after) = search rules in
    started_by c.args.conf.now c.args.sessions.now c.args.frame.now x.key x.version x.correlation after c.judge_call.result read told
