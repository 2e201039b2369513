use Rattle.broker_hosts.specs.Hosts.{parts_of}
use Rattle.broker_hosts.specs.declared.fault.CoreOpen.TheVariants as open_fault
use Rattle.broker_locks.specs.Shared.{first_shards}
use Rattle.broker_locks.proofs.Openings.{both_ok, err_is, no_memory_found, opening_of}
use Rattle.broker_locks.proofs.open.open_shared.Goals as goal

pub returns-in-Ok-clause-opens : goal.returns-in-Ok-clause-opens
returns-in-Ok-clause-opens g c =
    both_ok c.lock_hosts.result _ _ _ (λ r is whole. (
      whole.0,
      opening_of g.B.Bay.seen g.D.Disk.seen c.args.conf c.args.bay.now c.open_hosts.new.bay (parts_of c.in-Ok.hosts) (first_shards r.0) is c.in-Ok.ensures.opened,
    )) c.lock_hosts.ensures.locks c.lock_hosts.ensures.whole

pub returns-in-Ok-clause-refused : goal.returns-in-Ok-clause-refused
returns-in-Ok-clause-refused g c =
    err_is c.lock_hosts.result open_fault.NoMemory _ c.lock_hosts.ensures.memory
    (no_memory_found g.B.Bay.seen g.D.Disk.seen c.args.conf c.args.bay.now c.open_hosts.new.bay)

pub returns-in-Err-clause-refused : goal.returns-in-Err-clause-refused
returns-in-Err-clause-refused g c =
    let e = c.in-Err.ensures.refused in
    record {
      back = λ other. e.back;
      stays = λ other. e.stays;
      fed = e.fed;
      damaged = e.damaged;
      recovers = e.recovers;
      bay = e.bay;
      device = e.device;
      sound = e.sound;
    }
