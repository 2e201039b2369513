use Rattle.std.proofs.Common.{rules, refl, ◌≡◌, ◌<◌, ◌≤◌, ◌+◌, ℕ, suc, arith, subst}
use Rattle.broker_locks.specs.Expiring.{Expires}
use Rattle.broker_locks.proofs.Places.{stay_none, stay_on}
use Rattle.broker_locks.proofs.Turns.{expires_few, expires_none, expires_then}
use Rattle.broker_locks.proofs.expiry.expire_parts.Goals as goal

pub loop-shard-init : goal.loop-shard-init
loop-shard-init g c = record {
  stay = stay_none c.args.shared.now c.args.passes.now c.requires.of;
  done = expires_none g.D.Disk.seen c.args.shared.now _ _ _ refl refl;
}

pub counted-answer-requires-clause-faults : goal.counted-answer-requires-clause-faults
counted-answer-requires-clause-faults g c =
    let few : c.hosted_partitions-shard-end.result ≤ 64 = c.hosted_partitions-shard-end.ensures.few in
    let lt : c.loop-shard.shard < c.hosted_partitions-shard-end.result = search rules in
    let n = (expires_few g.D.Disk.seen c.args.shared.now _ _ _ _ _ _ c.loop-shard.invariant.done).0 in
    omega (arith, few, lt, n)

pub counted-answer-requires-clause-no_memory : goal.counted-answer-requires-clause-no_memory
counted-answer-requires-clause-no_memory g c =
    let few : c.hosted_partitions-shard-end.result ≤ 64 = c.hosted_partitions-shard-end.ensures.few in
    let lt : c.loop-shard.shard < c.hosted_partitions-shard-end.result = search rules in
    let n = (expires_few g.D.Disk.seen c.args.shared.now _ _ _ _ _ _ c.loop-shard.invariant.done).1 in
    omega (arith, few, lt, n)

pub loop-shard-preserved : goal.loop-shard-preserved
loop-shard-preserved g c =
    let i = c.loop-shard.invariant in
    let e = c.counted-answer.ensures in
    let next : Expires g.D.Disk.seen c.args.shared.now (suc c.loop-shard.shard) c.counted-answer.result c.args.passes.now c.expire_part-told.new.passes
    (g.C.Clock.told c.args.clock.now) (g.C.Clock.told c.now_ms-now.new.self) =
    expires_then g.D.Disk.seen c.args.shared.now c.loop-shard.shard _ _ c.now_ms-now.result c.expire_part-told.result _ _ _ _ _ _ i.done
    c.expire_part-told.ensures.acts c.now_ms-now.ensures.told e.faults e.no_memory in
    let more : suc c.loop-shard.shard ≡ c.loop-shard.shard + 1 = omega arith in
    record {
      stay = stay_on c.args.shared.now _ _ _ i.stay c.expire_part-told.ensures.stay;
      done = subst (λ (n : ℕ). Expires g.D.Disk.seen c.args.shared.now n c.counted-answer.result c.args.passes.now c.expire_part-told.new.passes
          (g.C.Clock.told c.args.clock.now) (g.C.Clock.told c.now_ms-now.new.self)) more next;
    }

pub returns-clause-few : goal.returns-clause-few
returns-clause-few g c =
    let few : c.hosted_partitions-shard-end.result ≤ 64 = c.hosted_partitions-shard-end.ensures.few in
    let le : c.loop-shard.shard ≤ c.hosted_partitions-shard-end.result = search rules in
    let n = expires_few g.D.Disk.seen c.args.shared.now _ _ _ _ _ _ c.loop-shard.invariant.done in
    let f : c.loop-shard.answer.faults ≤ 64 = let a = n.0 in omega (arith, few, le, a) in
    let m : c.loop-shard.answer.no_memory ≤ 64 = let a = n.1 in omega (arith, few, le, a) in
    (f, m)
