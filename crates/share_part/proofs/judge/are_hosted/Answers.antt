use Rattle.std.proofs.Common.{◌∙◌, refl}
use Rattle.std.proofs.lemmas.Map.Iter.{rest_all, rest_more}
use Rattle.part_log.specs.Logs.{log_in}
use Rattle.share_part.specs.Hosting.{IsHosted}
use Rattle.share_coord.specs.States.{state_pair, states_of}
use Rattle.share_part.proofs.Ordered.{walk_begins, walk_ends, walk_meets, walk_on}
use Rattle.share_part.proofs.judge.are_hosted.Goals as goal

pub loop-key-init : goal.loop-key-init
loop-key-init g c = walk_begins (IsHosted c.args.conf.now (log_in c.args.log.now)) c.args.states.now.entries c.states-key-items.ensures.ordered _
    (c.into_iter-key-iterator.ensures.into_iter_gives ∙ c.states-key-items.ensures.rest)

pub returns-then-not-is_hosted : goal.returns-then-not-is_hosted
returns-then-not-is_hosted g c = (
  λ e. absurd (let clash : ⊥ = cc in clash),
  λ h. absurd (let is = c.is_hosted.ensures.1 (walk_meets (IsHosted c.args.conf.now (log_in c.args.log.now)) (states_of c.args.states.now.entries)
      c.loop-key.key-iterator c.loop-key.invariant _ _ _ (rest_more state_pair _ _ _ _ c.in-Some.is c.next.ensures.steps) h) in
      let clash : ⊥ = cc in clash),
)

pub loop-key-preserved : goal.loop-key-preserved
loop-key-preserved g c = walk_on (IsHosted c.args.conf.now (log_in c.args.log.now)) (states_of c.args.states.now.entries) c.loop-key.key-iterator c.loop-key.invariant
    _ _ c.next.new.self (rest_more state_pair _ _ _ _ c.in-Some.is c.next.ensures.steps) (c.is_hosted.ensures.0 c.if-not-is_hosted.false)

pub returns : goal.returns
returns g c = (
  λ e. walk_ends (IsHosted c.args.conf.now (log_in c.args.log.now)) (states_of c.args.states.now.entries) c.loop-key.key-iterator c.loop-key.invariant
      (rest_all state_pair _ _ _ c.in-None.is c.next.ensures.steps),
  λ h. refl,
)
