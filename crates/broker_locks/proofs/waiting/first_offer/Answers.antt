use Rattle.std.proofs.Common.{◌≡◌, ◌≢◌, ◌∙◌, ◌+◌, ℕ, List, suc, take, ap, arith, subst, sym}
use Rattle.std.proofs.Math.Seq.{take-suc}
use Rattle.std.proofs.lemmas.List.{take_all}
use Rattle.std.proofs.lemmas.List.Elements.{Contains-get_or}
use Rattle.share_model.specs.declared.offer.Offer.TheVariants.{Nothing}
use Rattle.broker_locks.proofs.Places.{stay_none, stay_on}
use Rattle.broker_locks.proofs.Waits.{LookedSoFar, looked_found, looked_more, looked_none, looked_through}
use Rattle.broker_locks.proofs.waiting.first_offer.Goals as goal

pub loop-shard-init : goal.loop-shard-init
loop-shard-init g c = record {
  stay = stay_none c.args.shared.now c.args.passes.now c.requires.of;
  looks = looked_none g.D.Disk.seen c.args.shared.now c.args.group c.args.shards.now c.args.passes.now;
}

pub returns-in_default : goal.returns-in_default
returns-in_default g c =
    let some : c.glance.result ≢ Nothing = c.in_default.not-Nothing in
    record {
      stay = stay_on c.args.shared.now _ _ _ c.loop-shard.invariant.stay c.glance.ensures.stay;
      looks = looked_found g.D.Disk.seen c.args.shared.now c.args.group c.args.shards.now _ _ _ _ _ _ c.loop-shard.invariant.looks c.glance.ensures.looks
          (Contains-get_or c.args.shards.now c.loop-shard.shard-index 0 c.loop-shard-test.true) some;
    }

pub loop-shard-preserved : goal.loop-shard-preserved
loop-shard-preserved g c =
    let shards = c.args.shards.now in
    let n : ℕ = c.loop-shard.shard-index in
    let is : c.glance.result ≡ Nothing = c.in-Nothing.is in
    let up : n + 1 ≡ suc n = omega (arith) in
    let more = sym (ap (λ k. take k shards) up ∙ take-suc shards n 0 c.loop-shard-test.true) in
    let there = Contains-get_or shards n 0 c.loop-shard-test.true in
    record {
      stay = stay_on c.args.shared.now _ _ _ c.loop-shard.invariant.stay c.glance.ensures.stay;
      looks = subst (λ (l : List ℕ). LookedSoFar g.D.Disk.seen c.args.shared.now c.args.group shards l c.args.passes.now c.glance.new.passes) more
          (looked_more g.D.Disk.seen c.args.shared.now c.args.group shards _ _ _ _ _ _ c.loop-shard.invariant.looks c.glance.ensures.looks there is);
    }

pub returns-clause-looks : goal.returns-clause-looks
returns-clause-looks g c =
    looked_through g.D.Disk.seen c.args.shared.now c.args.group c.args.shards.now _ _ _ (take_all c.loop-shard.shard-index c.args.shards.now c.loop-shard-test.false) c.loop-shard.invariant.looks
