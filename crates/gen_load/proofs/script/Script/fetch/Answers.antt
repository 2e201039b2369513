use Rattle.std.proofs.Common.{ap, ◌∙◌}
use Rattle.gen_load.specs.declared.counts.Member.{Member}
use Rattle.gen_load.specs.Session.{asked_again}
use Rattle.gen_load.specs.Session.Act.{fetches}
use Rattle.gen_load.proofs.Adding.{adds_one}
use Rattle.gen_load.proofs.script.Script.fetch.Goals as goal

pub returns : goal.returns
returns c = adds_one _ _ (fetches c.args.round)
    (rw (c.as_slice.ensures, c.in_ok-body.ensures.spelled, c.in_ok-message.ensures, c.conn.ensures, c.head_of-head.ensures, c.asked_by.ensures, c.of_round-member.ensures) at c.in_ok-put_sent.ensures)
    (c.asked_again-self.ensures ∙ ap (λ (m : Member). asked_again m c.args.self.now.counts) c.of_round-member.ensures)
