use Rattle.std.proofs.Common.{◌≡◌, ◌<◌, inr, length, get_or, rules}
use Rattle.broker_shards.specs.Acts.{asked_by}
use Rattle.broker_shards.specs.Acts.PartDeed.{Calls}
use Rattle.broker_core.specs.Calls.{HaltsSlot, LeadsSlot}
use Rattle.broker_core.proofs.Stepping.{ok_weaker, on_err_weaker}
use Rattle.broker_hosts.proofs.Places.{changes_set}
use Rattle.broker_core.proofs.calls.act_among.Goals as goal

pub returns-clause-ok : goal.returns-clause-ok
returns-clause-ok g c =
    let lt : c.args.shard < length c.args.parts.now.items = search rules in
    let is : c.in-Some.slot.now ≡ get_or c.args.parts.now.items c.args.shard c.in-Some.slot.now = search rules in
    ok_weaker _ _ c.act_in.result
    (λ told p. (
      p.0,
      p.1,
      changes_set (LeadsSlot g.D.Disk.seen c.args.now p.0)
          c.args.shard c.args.parts.now.items c.in-Some.slot.now c.act_in.new.slot lt is p.2,
    ))
    c.act_in.ensures.ok

pub returns-clause-stopped : goal.returns-clause-stopped
returns-clause-stopped g c =
    let lt : c.args.shard < length c.args.parts.now.items = search rules in
    let is : c.in-Some.slot.now ≡ get_or c.args.parts.now.items c.args.shard c.in-Some.slot.now = search rules in
    on_err_weaker c.act_in.result
    (λ p. inr (changes_set (HaltsSlot g.D.Disk.seen c.args.now (λ did. c.args.ask.now ≡ asked_by (Calls did)))
    c.args.shard c.args.parts.now.items c.in-Some.slot.now c.act_in.new.slot lt is p))
    c.act_in.ensures.stopped
