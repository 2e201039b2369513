use Rattle.std.proofs.Common.{rules, ◌∷◌, ◌++◌, [], subst, ◌∙◌, ℕ}
use Rattle.futures.specs.declared.task.Poll.TheVariants.{Pending}
use Rattle.fetch_wait.specs.Polls.{Polls}
use Rattle.fetch_wait.proofs.Chains.{polls_snoc}
use Rattle.fetch_wait.proofs.run.block_on.Goals as goal

pub loop-preserved : goal.loop-preserved
loop-preserved g c =
    let i = c.loop.invariant in
    let p : Polls g.W.Watch.acts g.W.Watch.told c.loop.wait.places c.loop.wait.deadline c.loop.wait.watch Pending c.poll-polled.new.self.watch = search rules in
    let q = subst (λ (n : ℕ). Polls g.W.Watch.acts g.W.Watch.told n c.loop.wait.deadline c.loop.wait.watch Pending c.poll-polled.new.self.watch) i.2 p in
    let r = subst (λ (n : ℕ). Polls g.W.Watch.acts g.W.Watch.told c.args.wait.now.places n c.loop.wait.watch Pending c.poll-polled.new.self.watch) i.3 q in
    let s = c.poll-polled.ensures.stays in (
      i.0 ++ c.poll-polled.new.self.watch ∷ [],
      polls_snoc g.W.Watch.acts g.W.Watch.told c.args.wait.now.places c.args.wait.now.deadline i.0 _ _ _ i.1 r,
      s.0 ∙ i.2,
      s.1 ∙ i.3,
    )
