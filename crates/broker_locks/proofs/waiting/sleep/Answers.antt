use Rattle.std.proofs.Common.{◌≡◌, ◌∙◌, ◌++◌, ◌∷◌, [], ℕ, None, rules, subst, refl, true}
use Rattle.futures.specs.declared.task.Poll.TheVariants.{Ready}
use Rattle.fetch_wait.specs.Polls.{Polls}
use Rattle.fetch_wait.specs.declared.watch.WatchCall.TheVariants.{Asks}
use Rattle.broker_locks.specs.Looking.{looker_acts}
use Rattle.broker_locks.specs.Waiting.{HasLeft}
use Rattle.broker_locks.proofs.Waits.{calls_then, slept_to_peer, slept_to_poll}
use Rattle.broker_locks.proofs.waiting.sleep.Goals as goal

pub returns-then-has_ended : goal.returns-then-has_ended
returns-then-has_ended g c =
    let ended : c.look_at_peer-has_ended.result ≡ true = c.if-has_ended.true in
    let asks = c.look_at_peer-has_ended.ensures.asks in
    record {
      sleeps = slept_to_peer g.D.Disk.seen g.C.Clock.told (g.K.Link.left c.args.link.now) c.args.since c.args.wait.now.places c.args.wait.now.deadline
          asks.0 c.loop.invariant.calls.0 _ _ _ c.loop.invariant.calls.1 asks.1
          (subst (λ x. HasLeft (g.K.Link.left c.args.link.now) c.args.since asks.0 x) ended asks.2);
    }

pub loop-preserved-else-has_ended : goal.loop-preserved-else-has_ended
loop-preserved-else-has_ended g c =
    let asks = c.look_at_peer-has_ended.ensures.asks in
    record {
      calls = (
        c.loop.invariant.calls.0 ++ Asks asks.0 ∷ [],
        calls_then (looker_acts g.D.Disk.seen g.C.Clock.told) c.loop.invariant.calls.0 (Asks asks.0 ∷ []) _ _ _ c.loop.invariant.calls.1 (_, asks.1, refl),
      );
      deadline = c.loop.invariant.deadline;
    }

pub returns-in-Ready : goal.returns-in-Ready
returns-in-Ready g c =
    let Acts = looker_acts g.D.Disk.seen g.C.Clock.told in
    let p : Polls Acts (λ l. None) c.loop.wait.places c.loop.wait.deadline c.loop.wait.watch (Ready c.in-Ready.end) c.poll-polled.new.self.watch = search rules in
    let q = subst (λ (n : ℕ). Polls Acts (λ l. None) c.loop.wait.places n c.loop.wait.watch (Ready c.in-Ready.end) c.poll-polled.new.self.watch) c.loop.invariant.deadline p in
    record {
      sleeps = slept_to_poll g.D.Disk.seen g.C.Clock.told (g.K.Link.left c.args.link.now) c.args.since c.loop.wait.places c.args.wait.now.deadline
          (λ l. None) c.in-Ready.end c.loop.invariant.calls.0 _ _ _ c.loop.invariant.calls.1 q;
    }

pub loop-preserved : goal.loop-preserved
loop-preserved g c =
    let p = c.poll-polled.ensures.polls in
    record {
      calls = (
        c.loop.invariant.calls.0 ++ p.calls,
        calls_then (looker_acts g.D.Disk.seen g.C.Clock.told) c.loop.invariant.calls.0 p.calls _ _ _ c.loop.invariant.calls.1 p.does.acts_so,
      );
      deadline = c.poll-polled.ensures.stays.1 ∙ c.loop.invariant.deadline;
    }
