use Rattle.std.proofs.Common.{◌≡◌, ◌<◌, length, arith, rules}
use Rattle.shard_lock.specs.Passes.{IsOf}
use Rattle.broker_locks.specs.Acting.{ActsOn}
use Rattle.broker_locks.proofs.Lines.{zip_length}
use Rattle.broker_locks.proofs.Places.{changes_set, zip_at}
use Rattle.broker_locks.proofs.parts.act_at.Goals as goal

pub index_mut-requires : goal.index_mut-requires
index_mut-requires g c =
    let same : length c.args.locks.now.items ≡ length c.args.passes.now.items = zip_length IsOf c.args.locks.now.items c.args.passes.now.items c.requires.of in
    let there = c.requires.there in
    let long : length c.args.passes.now.items ≡ c.args.passes.now.len = search rules in
    omega (arith, same, there, long)

pub act-requires : goal.act-requires
act-requires g c =
    let same : length c.args.locks.now.items ≡ length c.args.passes.now.items = zip_length IsOf c.args.locks.now.items c.args.passes.now.items c.requires.of in
    let there = c.requires.there in
    let lp : c.args.place < length c.args.passes.now.items = omega (arith, same, there) in
    record {
      of = zip_at IsOf c.args.place c.args.locks.now.items c.args.passes.now.items c.index.result.now c.index_mut.result.now c.requires.of c.requires.there c.index.ensures
          lp c.index_mut.ensures.value;
    }

pub returns : goal.returns
returns g c =
    let same : length c.args.locks.now.items ≡ length c.args.passes.now.items = zip_length IsOf c.args.locks.now.items c.args.passes.now.items c.requires.of in
    let there = c.requires.there in
    let lp : c.args.place < length c.args.passes.now.items = omega (arith, same, there) in
    let e = c.act.ensures in
    record {
      lock = c.index.result.now;
      there = c.requires.there;
      is = c.index.ensures;
      changes = changes_set (ActsOn g.S.Shard.acts c.index.result.now c.args.event c.act.result) c.args.place c.args.passes.now.items c.index_mut.result.now c.act.new.pass lp
          c.index_mut.ensures.value (record { of = e.of; same = e.same; own = e.own; history = e.history; legal = e.legal; exact = e.exact });
    }
