use Rattle.std.proofs.Common.{◌≡◌}
use Rattle.broker_shards.specs.Acts.{asked_by}
use Rattle.broker_shards.specs.Acts.PartDeed.{Calls}
use Rattle.broker_core.specs.Calls.{LeadsSlot}
use Rattle.broker_hosts.specs.Hosts.{parts_of}
use Rattle.broker_core.proofs.Calling.{act_turns, may_stay, part_halts, part_leads}
use Rattle.broker_core.proofs.Parting.{call_fits}
use Rattle.broker_hosts.proofs.Places.{changes_within}
use Rattle.broker_core.proofs.Stepping.{ok_gives, ok_weaker, on_err_weaker}
use Rattle.broker_core.proofs.calls.act_at.Goals as goal

pub returns-clause-ok : goal.returns-clause-ok
returns-clause-ok g c = ok_weaker _ _ c.act_among.result
    (λ told p. (
      p.0,
      p.1,
      λ s k. part_leads g.D.Disk.seen (parts_of c.args.hosts.now) c.act_among.new.parts.items c.args.shard c.args.now p.0 p.2 c.requires.apart s k,
    ))
    c.act_among.ensures.ok

pub returns-clause-stopped : goal.returns-clause-stopped
returns-clause-stopped g c = on_err_weaker c.act_among.result
    (λ m s k. part_halts g.D.Disk.seen (parts_of c.args.hosts.now) c.act_among.new.parts.items c.args.shard c.args.now
    (λ did. c.args.ask.now ≡ asked_by (Calls did)) m c.requires.apart s k)
    c.act_among.ensures.stopped

pub returns-clause-fits : goal.returns-clause-fits
returns-clause-fits g c = ok_weaker _ _ c.act_among.result (λ told p. call_fits c.args.ask.now told p.0 p.1) c.act_among.ensures.ok

pub returns-clause-there : goal.returns-clause-there
returns-clause-there g c = ok_gives _ c.act_among.result
    (λ told p. changes_within (LeadsSlot g.D.Disk.seen c.args.now p.0) c.args.shard c.args.hosts.now.parts.items c.act_among.new.parts.items p.2)
    c.act_among.ensures.ok

pub returns-clause-stays : goal.returns-clause-stays
returns-clause-stays g c = may_stay g.D.Disk.seen (parts_of c.args.hosts.now) c.act_among.new.parts.items c.args.shard c.requires.open
    (act_turns g.D.Disk.seen c.act_among.result c.args.ask.now c.args.shard c.args.now (λ did. c.args.ask.now ≡ asked_by (Calls did))
    c.args.hosts.now.parts.items c.act_among.new.parts.items c.act_among.ensures.ok c.act_among.ensures.stopped)
