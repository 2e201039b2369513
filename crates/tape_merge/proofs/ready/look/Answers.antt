use Rattle.std.proofs.Common.{◌≡◌}
use Rattle.tape_merge.proofs.Readies.{gains_insert, gains_nothing}
use Rattle.tape_merge.proofs.Steadies.{may_by, none_by}
use Rattle.tape_merge.proofs.ready.look.Goals as goal

pub returns-in_default : goal.returns-in_default
returns-in_default c =
    gains_nothing c.args.tapes.now c.args.links.now c.args.counts.now (λ k. k ≡ c.args.link) c.args.ready.now.keys
    (none_by c.args.tapes.now c.args.links.now c.args.counts.now c.args.link c.in_default.ensures.none)

pub returns : goal.returns
returns c =
    gains_insert c.args.tapes.now c.args.links.now c.args.counts.now c.args.link c.args.ready.now.keys c.insert.new.self.keys
    (may_by c.args.tapes.now c.args.links.now c.args.counts.now c.args.link c.in-Some._goes c.in-Some.ensures.some) c.in_ok-insert.ensures.updates.0
