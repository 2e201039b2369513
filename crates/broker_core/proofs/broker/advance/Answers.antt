use Rattle.std.proofs.Common.{◌≡◌, [], refl, ap, ◌∙◌, Err, rules}
use Rattle.session_script.specs.declared.event.Event.TheVariants.{Open, Bytes, Close, Step, Expire, Tick, Arm, Power}
use Rattle.conn_core.specs.Conns.{conn_after_bytes}
use Rattle.broker_model.specs.Machine.{at_connection}
use Rattle.broker_core.specs.Causes.{no_memory}
use Rattle.broker_hosts.specs.Hosts.{disks_in, parts_of}
use Rattle.broker_core.specs.Cores.{core_of}
use Rattle.broker_core.proofs.Leading.{go_on_same}
use Rattle.broker_core.proofs.Events.{opens, sends, closes, steps, expires, ticks, arms_one, restarts, stops_still, stops_step, stops_expire, advances_at, memory_stops, power_stops, open_held, moment_at}
use Rattle.broker_core.proofs.broker.advance.Goals as goal

pub returns-in_err-connect-in-Open-clause-stopped : goal.returns-in_err-connect-in-Open-clause-stopped
returns-in_err-connect-in-Open-clause-stopped g c =
    let err : c.from_residual.result ≡ Err no_memory = search rules in
    memory_stops g.D.Disk.seen c.from_residual.result (core_of c.args.conf.now c.args.clients.now.entries (parts_of c.args.hosts.now)) (Open c.in-Open.conn) c.args.event.now _ err c.in-Open.is
    (λ m k. stops_still g.D.Disk.seen (core_of c.args.conf.now c.args.clients.now.entries (parts_of c.args.hosts.now)) _ m _ refl k)

pub returns-in_err-connect-in-Open-clause-disks : goal.returns-in_err-connect-in-Open-clause-disks
returns-in_err-connect-in-Open-clause-disks g c = go_on_same g.D.Disk.seen (disks_in (parts_of c.args.hosts.now))

pub returns-in_err-send-in-Bytes-clause-stopped : goal.returns-in_err-send-in-Bytes-clause-stopped
returns-in_err-send-in-Bytes-clause-stopped g c =
    let err : c.from_residual-in_err-send-in-Bytes.result ≡ Err no_memory = search rules in
    memory_stops g.D.Disk.seen c.from_residual-in_err-send-in-Bytes.result (core_of c.args.conf.now c.args.clients.now.entries (parts_of c.args.hosts.now)) (Bytes c.in-Bytes.conn c.in-Bytes.bytes) c.args.event.now _ err c.in-Bytes.is
    (λ m k. stops_still g.D.Disk.seen (core_of c.args.conf.now c.args.clients.now.entries (parts_of c.args.hosts.now)) _ m _ refl k)

pub returns-in_err-send-in-Bytes-clause-disks : goal.returns-in_err-send-in-Bytes-clause-disks
returns-in_err-send-in-Bytes-clause-disks g c = go_on_same g.D.Disk.seen (disks_in (parts_of c.args.hosts.now))

pub returns-in_err-outcomes-in-Step-clause-held : goal.returns-in_err-outcomes-in-Step-clause-held
returns-in_err-outcomes-in-Step-clause-held g c = open_held (parts_of c.serve.new.hosts) c.serve.ensures.stays.are_open

pub returns-in_err-outcomes-in-Step-clause-stopped : goal.returns-in_err-outcomes-in-Step-clause-stopped
returns-in_err-outcomes-in-Step-clause-stopped g c =
    let err : c.from_residual-in_err-outcomes-in-Step.result ≡ Err no_memory = search rules in
    memory_stops g.D.Disk.seen c.from_residual-in_err-outcomes-in-Step.result (core_of c.args.conf.now c.args.clients.now.entries (parts_of c.args.hosts.now)) (Step c.in-Step.conn c.in-Step.now) c.args.event.now _ err c.in-Step.is
    (λ m k. stops_step g.D.Disk.seen (core_of c.args.conf.now c.args.clients.now.entries (parts_of c.args.hosts.now)) _ m c.in-Step.conn c.in-Step.now k (c.in_err-outcomes-in-Step.ensures.stopped m.shards k.shards))

pub returns-in_err-outcomes-in-Power-clause-stopped : goal.returns-in_err-outcomes-in-Power-clause-stopped
returns-in_err-outcomes-in-Power-clause-stopped g c =
    let err : c.from_residual-in_err-outcomes-in-Power.result ≡ Err no_memory = search rules in
    memory_stops g.D.Disk.seen c.from_residual-in_err-outcomes-in-Power.result (core_of c.args.conf.now c.args.clients.now.entries (parts_of c.args.hosts.now)) c.args.event.now c.args.event.now _ err refl
    (λ m k. stops_still g.D.Disk.seen (core_of c.args.conf.now c.args.clients.now.entries (parts_of c.args.hosts.now)) _ m c.args.event.now refl k)

pub returns-in_err-outcomes-in-Power-clause-disks : goal.returns-in_err-outcomes-in-Power-clause-disks
returns-in_err-outcomes-in-Power-clause-disks g c = go_on_same g.D.Disk.seen (disks_in (parts_of c.args.hosts.now))

pub returns-in_err-lose_power-in-Power-clause-stopped : goal.returns-in_err-lose_power-in-Power-clause-stopped
returns-in_err-lose_power-in-Power-clause-stopped g c =
    let err : c.from_residual-in_err-lose_power-in-Power.result ≡ Err c.in_err-lose_power-in-Power.field-0.0 = search rules in
    power_stops g.D.Disk.seen c.from_residual-in_err-lose_power-in-Power.result c.in_err-lose_power-in-Power.field-0.0 (core_of c.args.conf.now c.args.clients.now.entries (parts_of c.args.hosts.now)) c.in-Power.choice c.args.event.now _ err
    c.in-Power.is c.in_err-lose_power-in-Power.ensures.stopped

pub returns-in_ok-connect-in-Open-clause-ok : goal.returns-in_ok-connect-in-Open-clause-ok
returns-in_ok-connect-in-Open-clause-ok g c = advances_at g.D.Disk.seen (core_of c.args.conf.now c.args.clients.now.entries (parts_of c.args.hosts.now)) (Open c.in-Open.conn) c.args.event.now [] c.new.result.items _ c.in-Open.is c.new.ensures.items
    (opens g.D.Disk.seen (core_of c.args.conf.now c.args.clients.now.entries (parts_of c.args.hosts.now)) _ c.in-Open.conn c.requires.whole refl c.in_ok-connect-in-Open.ensures)

pub returns-in_ok-connect-in-Open-clause-disks : goal.returns-in_ok-connect-in-Open-clause-disks
returns-in_ok-connect-in-Open-clause-disks g c = go_on_same g.D.Disk.seen (disks_in (parts_of c.args.hosts.now))

pub returns-in_ok-send-in-Bytes-clause-ok : goal.returns-in_ok-send-in-Bytes-clause-ok
returns-in_ok-send-in-Bytes-clause-ok g c = advances_at g.D.Disk.seen (core_of c.args.conf.now c.args.clients.now.entries (parts_of c.args.hosts.now)) (Bytes c.in-Bytes.conn c.in-Bytes.bytes) c.args.event.now [] c.new-in-Bytes.result.items _ c.in-Bytes.is c.new-in-Bytes.ensures.items
    (sends g.D.Disk.seen (core_of c.args.conf.now c.args.clients.now.entries (parts_of c.args.hosts.now)) _ c.in-Bytes.conn c.in-Bytes.bytes c.requires.whole refl
    (c.in_ok-send-in-Bytes.ensures ∙ ap (λ b. at_connection c.in-Bytes.conn (conn_after_bytes b) c.args.clients.now.entries) c.as_slice.ensures))

pub returns-in_ok-send-in-Bytes-clause-disks : goal.returns-in_ok-send-in-Bytes-clause-disks
returns-in_ok-send-in-Bytes-clause-disks g c = go_on_same g.D.Disk.seen (disks_in (parts_of c.args.hosts.now))

pub returns-in-Close-clause-ok : goal.returns-in-Close-clause-ok
returns-in-Close-clause-ok g c = advances_at g.D.Disk.seen (core_of c.args.conf.now c.args.clients.now.entries (parts_of c.args.hosts.now)) (Close c.in-Close.conn) c.args.event.now [] c.new-in-Close.result.items _ c.in-Close.is c.new-in-Close.ensures.items
    (closes g.D.Disk.seen (core_of c.args.conf.now c.args.clients.now.entries (parts_of c.args.hosts.now)) _ c.in-Close.conn c.requires.whole refl c.disconnect.ensures)

pub returns-in-Close-clause-disks : goal.returns-in-Close-clause-disks
returns-in-Close-clause-disks g c = go_on_same g.D.Disk.seen (disks_in (parts_of c.args.hosts.now))

pub returns-in_ok-outcomes-in-Step-clause-ok : goal.returns-in_ok-outcomes-in-Step-clause-ok
returns-in_ok-outcomes-in-Step-clause-ok g c = advances_at g.D.Disk.seen (core_of c.args.conf.now c.args.clients.now.entries (parts_of c.args.hosts.now)) (Step c.in-Step.conn c.in-Step.now) c.args.event.now c.in_ok-outcomes-in-Step.outcomes.items c.in_ok-outcomes-in-Step.outcomes.items _
    c.in-Step.is refl
    (steps g.D.Disk.seen (core_of c.args.conf.now c.args.clients.now.entries (parts_of c.args.hosts.now)) _ c.in-Step.conn c.in-Step.now c.in_ok-outcomes-in-Step.outcomes.items c.requires.whole c.serve.ensures.stays.disks c.in_ok-outcomes-in-Step.ensures.ok)

pub returns-in_ok-outcomes-in-Step-clause-held : goal.returns-in_ok-outcomes-in-Step-clause-held
returns-in_ok-outcomes-in-Step-clause-held g c = open_held (parts_of c.serve.new.hosts) c.serve.ensures.stays.are_open

pub returns-in-Arm-clause-ok : goal.returns-in-Arm-clause-ok
returns-in-Arm-clause-ok g c = advances_at g.D.Disk.seen (core_of c.args.conf.now c.args.clients.now.entries (parts_of c.args.hosts.now)) (Arm c.in-Arm.disk c.in-Arm.after c.in-Arm.mode) c.args.event.now [] c.new-in-Arm.result.items _ c.in-Arm.is c.new-in-Arm.ensures.items
    (arms_one g.D.Disk.seen (core_of c.args.conf.now c.args.clients.now.entries (parts_of c.args.hosts.now)) _ c.in-Arm.disk c.in-Arm.after c.in-Arm.mode c.requires.whole refl c.arm.ensures.stays.disks c.arm.ensures.ok)

pub returns-in-Arm-clause-held : goal.returns-in-Arm-clause-held
returns-in-Arm-clause-held g c = open_held (parts_of c.arm.new.hosts) c.arm.ensures.stays.are_open

pub returns-in_ok-lose_power-in-Power-clause-ok : goal.returns-in_ok-lose_power-in-Power-clause-ok
returns-in_ok-lose_power-in-Power-clause-ok g c = advances_at g.D.Disk.seen (core_of c.args.conf.now c.args.clients.now.entries (parts_of c.args.hosts.now)) (Power c.in-Power.choice) c.args.event.now c.in_ok-outcomes-in-Power.outcomes.items c.in_ok-outcomes-in-Power.outcomes.items _
    c.in-Power.is refl
    (restarts g.D.Disk.seen (core_of c.args.conf.now c.args.clients.now.entries (parts_of c.args.hosts.now)) _ c.in-Power.choice c.in_ok-outcomes-in-Power.outcomes.items c.requires.whole c.in_ok-outcomes-in-Power.ensures c.new-in-Power.ensures.empty c.lose_power.ensures.disks
    c.in_ok-lose_power-in-Power.ensures.ok)

pub returns-in_err-outcomes-in-Expire-clause-stopped : goal.returns-in_err-outcomes-in-Expire-clause-stopped
returns-in_err-outcomes-in-Expire-clause-stopped g c =
    let err : c.from_residual-in_err-outcomes-in-Expire.result ≡ Err no_memory = search rules in
    memory_stops g.D.Disk.seen c.from_residual-in_err-outcomes-in-Expire.result (core_of c.args.conf.now c.args.clients.now.entries (parts_of c.args.hosts.now)) (Expire c.in-Expire.topic c.in-Expire.part c.in-Expire.now) c.args.event.now _ err c.in-Expire.is
    (λ m k. stops_expire g.D.Disk.seen (core_of c.args.conf.now c.args.clients.now.entries (parts_of c.args.hosts.now)) _ m c.in-Expire.topic c.in-Expire.part c.in-Expire.now k (c.in_err-outcomes-in-Expire.ensures.stopped m.shards k.shards))

pub returns-in_err-outcomes-in-Expire-clause-held : goal.returns-in_err-outcomes-in-Expire-clause-held
returns-in_err-outcomes-in-Expire-clause-held g c = open_held (parts_of c.expire.new.hosts) c.expire.ensures.stays.are_open

pub returns-in_ok-outcomes-in-Expire-clause-held : goal.returns-in_ok-outcomes-in-Expire-clause-held
returns-in_ok-outcomes-in-Expire-clause-held g c = open_held (parts_of c.expire.new.hosts) c.expire.ensures.stays.are_open

pub returns-in_ok-outcomes-in-Expire-clause-ok : goal.returns-in_ok-outcomes-in-Expire-clause-ok
returns-in_ok-outcomes-in-Expire-clause-ok g c = advances_at g.D.Disk.seen (core_of c.args.conf.now c.args.clients.now.entries (parts_of c.args.hosts.now)) (Expire c.in-Expire.topic c.in-Expire.part c.in-Expire.now) c.args.event.now c.in_ok-outcomes-in-Expire.outcomes.items c.in_ok-outcomes-in-Expire.outcomes.items _ c.in-Expire.is refl
    (expires g.D.Disk.seen (core_of c.args.conf.now c.args.clients.now.entries (parts_of c.args.hosts.now)) _ c.in-Expire.topic c.in-Expire.part c.in-Expire.now c.in_ok-outcomes-in-Expire.outcomes.items c.requires.whole refl c.expire.ensures.stays.disks c.in_ok-outcomes-in-Expire.ensures.ok)

pub returns-in-Tick-clause-ok : goal.returns-in-Tick-clause-ok
returns-in-Tick-clause-ok g c = advances_at g.D.Disk.seen (core_of c.args.conf.now c.args.clients.now.entries (parts_of c.args.hosts.now)) (Tick c.in-Tick.now) c.args.event.now [] c.new-in-Tick.result.items _ c.in-Tick.is c.new-in-Tick.ensures.items
    (ticks g.D.Disk.seen (core_of c.args.conf.now c.args.clients.now.entries (parts_of c.args.hosts.now)) _ c.in-Tick.now c.requires.whole refl c.tick.ensures.stays.disks c.tick.ensures.ok)

pub returns-in-Tick-clause-held : goal.returns-in-Tick-clause-held
returns-in-Tick-clause-held g c = open_held (parts_of c.tick.new.hosts) c.tick.ensures.stays.are_open

pub serve-requires-clause-now : goal.serve-requires-clause-now
serve-requires-clause-now g c = moment_at c.args.event.now (Step c.in-Step.conn c.in-Step.now) c.in-Step.is c.requires.moment

pub expire-requires-clause-now : goal.expire-requires-clause-now
expire-requires-clause-now g c = moment_at c.args.event.now (Expire c.in-Expire.topic c.in-Expire.part c.in-Expire.now) c.in-Expire.is c.requires.moment
