use Rattle.std.proofs.Common.{◌≡◌, Some, None, rules}
use Rattle.topic_conf.specs.Topics.{shard_named}
use Rattle.broker_core.specs.Calls.{counts_in, ends_over}
use Rattle.broker_hosts.specs.Hosts.{disks_in, parts_of}
use Rattle.broker_core.proofs.Clients.{expired_at, none_told, not_expired}
use Rattle.broker_core.proofs.Leading.{halts_so, leads_to, stays, stays_same}
use Rattle.broker_core.proofs.Stepping.{ok_weaker, on_err_weaker}
use Rattle.broker_core.proofs.timers.expire.Goals as goal

pub returns-in-Some-clause-ok : goal.returns-in-Some-clause-ok
returns-in-Some-clause-ok g c =
    let found : shard_named c.args.topic.now c.args.part c.args.conf.now.topics ≡ Some c.in-Some.shard = search rules in
    ok_weaker _ _ c.expire_shard.result
    (λ outcomes h s k. leads_to g.D.Disk.seen
    (parts_of c.args.hosts.now) (parts_of c.expire_shard.new.hosts) s _ _
    (expired_at (counts_in g.D.Disk.seen (disks_in (parts_of c.args.hosts.now)) (disks_in (parts_of c.expire_shard.new.hosts))) (ends_over (parts_of c.args.hosts.now) (parts_of c.expire_shard.new.hosts)) c.args.now c.in-Some.shard outcomes.items _ found)
    (h s k))
    c.expire_shard.ensures.ok

pub returns-in-Some-clause-stopped : goal.returns-in-Some-clause-stopped
returns-in-Some-clause-stopped g c =
    let found : shard_named c.args.topic.now c.args.part c.args.conf.now.topics ≡ Some c.in-Some.shard = search rules in
    on_err_weaker c.expire_shard.result
    (λ h s k. halts_so g.D.Disk.seen
    (parts_of c.expire_shard.new.hosts) s _ _
    (λ a call b d. (d.0, expired_at (counts_in g.D.Disk.seen (disks_in (parts_of c.args.hosts.now)) (disks_in (parts_of c.expire_shard.new.hosts))) (ends_over (parts_of c.args.hosts.now) (parts_of c.expire_shard.new.hosts)) c.args.now c.in-Some.shard d.0 _ found a call b d.1))
    (h s k))
    c.expire_shard.ensures.stopped

pub returns-in-Some-clause-told : goal.returns-in-Some-clause-told
returns-in-Some-clause-told g c = ok_weaker _ _ c.expire_shard.result (λ outcomes t. t c.args.conf.now.topics c.requires.hosted) c.expire_shard.ensures.told

pub returns-in-None-clause-ok : goal.returns-in-None-clause-ok
returns-in-None-clause-ok g c =
    let none : shard_named c.args.topic.now c.args.part c.args.conf.now.topics ≡ None = search rules in
    λ s k. stays g.D.Disk.seen (parts_of c.args.hosts.now) s _ k (not_expired (counts_in g.D.Disk.seen (disks_in (parts_of c.args.hosts.now)) (disks_in (parts_of c.args.hosts.now))) (ends_over (parts_of c.args.hosts.now) (parts_of c.args.hosts.now)) c.args.now c.new.result.items _ none c.new.ensures.items s)

pub returns-in-None-clause-stays : goal.returns-in-None-clause-stays
returns-in-None-clause-stays g c = stays_same g.D.Disk.seen (parts_of c.args.hosts.now) c.requires.open

pub returns-in-None-clause-told : goal.returns-in-None-clause-told
returns-in-None-clause-told g c = none_told c.args.conf.now.topics c.new.result.items c.new.ensures.items
