use Rattle.std.proofs.Common.{rules, ◌≡◌, ◌+◌, ◌++◌, ◌∷◌, [], ℕ, suc, subst, refl, inl, inr, arith}
use Rattle.fetch_wait.specs.declared.watch.WatchCall.TheVariants.{Registers, RegistersTimer, Refuses, RefusesTimer}
use Rattle.fetch_wait.specs.Calls.{Calls, TellsMore}
use Rattle.fetch_wait.specs.Polls.{registered}
use Rattle.fetch_wait.proofs.Chains.{calls_snoc}
use Rattle.fetch_wait.proofs.wait.register_all.Goals as goal

pub loop-place-preserved : goal.loop-place-preserved
loop-place-preserved g c =
    let i = c.loop-place.invariant in
    let done : g.W.Watch.acts c.loop-place.watch (Registers c.loop-place.place) c.register.new.self = search rules in
    let tells : TellsMore (g.W.Watch.told c.loop-place.watch) (g.W.Watch.told c.register.new.self) (Registers c.loop-place.place ∷ []) = search rules in
    let more : suc c.loop-place.place ≡ c.loop-place.place + 1 = omega arith in
    record {
      each = subst (λ (n : ℕ). Calls g.W.Watch.acts g.W.Watch.told (registered n) c.args.watch.now c.register.new.self) more
          (calls_snoc g.W.Watch.acts g.W.Watch.told _ _ _ _ _ i.each done tells);
      kept = λ fact h. c.register.ensures.kept fact (i.kept fact h);
    }

pub returns-in-Err-clause-err : goal.returns-in-Err-clause-err
returns-in-Err-clause-err g c =
    let done : g.W.Watch.acts c.loop-place.watch (Refuses c.loop-place.place) c.register.new.self = search rules in
    let tells : TellsMore (g.W.Watch.told c.loop-place.watch) (g.W.Watch.told c.register.new.self) (Refuses c.loop-place.place ∷ []) = search rules in (
      registered c.loop-place.place ++ Refuses c.loop-place.place ∷ [],
      inl (c.loop-place.place, c.loop-place-test.true, refl),
      calls_snoc g.W.Watch.acts g.W.Watch.told _ _ _ _ _ c.loop-place.invariant.each done tells,
    )

pub returns-in-Ok-clause-ok : goal.returns-in-Ok-clause-ok
returns-in-Ok-clause-ok g c =
    let all : c.loop-place.place ≡ c.args.places = omega arith in
    let done : g.W.Watch.acts c.loop-place.watch (RegistersTimer c.args.deadline) c.register_timer.new.self = search rules in
    let tells : TellsMore (g.W.Watch.told c.loop-place.watch) (g.W.Watch.told c.register_timer.new.self) (RegistersTimer c.args.deadline ∷ []) = search rules in
    subst (λ (n : ℕ). Calls g.W.Watch.acts g.W.Watch.told (registered n ++ RegistersTimer c.args.deadline ∷ []) c.args.watch.now c.register_timer.new.self) all
    (calls_snoc g.W.Watch.acts g.W.Watch.told _ _ _ _ _ c.loop-place.invariant.each done tells)

pub returns-in-Err-register_timer-clause-err : goal.returns-in-Err-register_timer-clause-err
returns-in-Err-register_timer-clause-err g c =
    let all : c.loop-place.place ≡ c.args.places = omega arith in
    let done : g.W.Watch.acts c.loop-place.watch (RefusesTimer c.args.deadline) c.register_timer.new.self = search rules in
    let tells : TellsMore (g.W.Watch.told c.loop-place.watch) (g.W.Watch.told c.register_timer.new.self) (RefusesTimer c.args.deadline ∷ []) = search rules in (
      registered c.args.places ++ RefusesTimer c.args.deadline ∷ [],
      inr refl,
      subst (λ (n : ℕ). Calls g.W.Watch.acts g.W.Watch.told (registered n ++ RefusesTimer c.args.deadline ∷ []) c.args.watch.now c.register_timer.new.self) all
          (calls_snoc g.W.Watch.acts g.W.Watch.told _ _ _ _ _ c.loop-place.invariant.each done tells),
    )
