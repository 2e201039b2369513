use Rattle.std.proofs.Common.{rules, ◌++◌, ◌∷◌, [], refl}
use Rattle.fetch_wait.specs.declared.watch.WatchCall.TheVariants.{Asks}
use Rattle.fetch_wait.specs.Calls.{Calls}
use Rattle.fetch_wait.specs.Polls.{nothing_at}
use Rattle.fetch_wait.proofs.Chains.{calls_snoc}
use Rattle.fetch_wait.proofs.wait.looked.Goals as goal

pub returns-then-now-deadline : goal.returns-then-now-deadline
returns-then-now-deadline g c =
    let none : Calls g.W.Watch.acts g.W.Watch.told (nothing_at c.args.places) c.args.watch.now c.first_found.new.watch = search rules in
    let now = c.now_ms-now in (
      nothing_at c.args.places ++ Asks now.result ∷ [],
      (now.result, c.if-now-deadline.true, refl),
      calls_snoc g.W.Watch.acts g.W.Watch.told _ _ _ _ _ none now.ensures.acts now.ensures.told,
    )

pub returns-else-now-deadline : goal.returns-else-now-deadline
returns-else-now-deadline g c =
    let none : Calls g.W.Watch.acts g.W.Watch.told (nothing_at c.args.places) c.args.watch.now c.first_found.new.watch = search rules in
    let now = c.now_ms-now in (
      nothing_at c.args.places ++ Asks now.result ∷ [],
      (c.if-now-deadline.false, refl),
      calls_snoc g.W.Watch.acts g.W.Watch.told _ _ _ _ _ none now.ensures.acts now.ensures.told,
    )
