use Rattle.std.proofs.Common.{rules, ◌≡◌, ◌+◌, ◌∷◌, [], ℕ, suc, subst, arith}
use Rattle.share_model.specs.declared.offer.Offer.TheVariants.{Nothing}
use Rattle.fetch_wait.specs.declared.watch.WatchCall.TheVariants.{Looks}
use Rattle.fetch_wait.specs.Calls.{Calls, TellsMore}
use Rattle.fetch_wait.specs.Polls.{nothing_at}
use Rattle.fetch_wait.proofs.Chains.{calls_snoc}
use Rattle.fetch_wait.proofs.wait.first_found.Goals as goal

pub loop-place-preserved : goal.loop-place-preserved
loop-place-preserved g c =
    let done : g.W.Watch.acts c.loop-place.watch (Looks c.loop-place.place Nothing) c.look.new.self = search rules in
    let tells : TellsMore (g.W.Watch.told c.loop-place.watch) (g.W.Watch.told c.look.new.self) (Looks c.loop-place.place Nothing ∷ []) = search rules in
    let more : suc c.loop-place.place ≡ c.loop-place.place + 1 = omega arith in
    subst (λ (n : ℕ). Calls g.W.Watch.acts g.W.Watch.told (nothing_at n) c.args.watch.now c.look.new.self) more
    (calls_snoc g.W.Watch.acts g.W.Watch.told _ _ _ _ _ c.loop-place.invariant done tells)

pub returns-in_default : goal.returns-in_default
returns-in_default g c = record {
  found = (
    c.loop-place-test.true,
    c.in_default.not-Nothing,
    calls_snoc g.W.Watch.acts g.W.Watch.told _ _ _ _ _ c.loop-place.invariant c.look.ensures.acts c.look.ensures.told,
  );
  none = tt;
}
