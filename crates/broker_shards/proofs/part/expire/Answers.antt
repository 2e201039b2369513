use Rattle.broker_shards.specs.Hosts.{holding}
use Rattle.broker_shards.proofs.Finding.{expiry_found}
use Rattle.broker_shards.proofs.Parting.{call_refused, expired, states_go, still_ends, still_runs}
use Rattle.broker_shards.proofs.part.expire.Goals as goal

pub returns-in-Ok-clause-acts : goal.returns-in-Ok-clause-acts
returns-in-Ok-clause-acts g c = expired g.D.Disk.seen holding c.args.part.now c.expire.new.self c.args.now c.in-Ok.answer c.in-Ok.ensures.once.log c.in-Ok.ensures.once.steps

pub returns-in-Ok-clause-goes_on : goal.returns-in-Ok-clause-goes_on
returns-in-Ok-clause-goes_on g c = let once = c.in-Ok.ensures.once in
    states_go g.D.Disk.seen holding c.args.part.now c.expire.new.self once.conf (still_runs g.D.Disk.seen holding c.args.part.now c.expire.new.self once.log)
    (still_ends g.D.Disk.seen holding c.args.part.now c.expire.new.self once.log) c.in-Ok.ensures.runs

pub returns-in-Err-clause-acts : goal.returns-in-Err-clause-acts
returns-in-Err-clause-acts g c = (tt, call_refused g.D.Disk.seen holding c.args.part.now c.expire.new.self c.in-Err.ensures.once.memory)

pub returns-in-Err-clause-goes_on : goal.returns-in-Err-clause-goes_on
returns-in-Err-clause-goes_on g c = let once = c.in-Err.ensures.once in
    states_go g.D.Disk.seen holding c.args.part.now c.expire.new.self once.conf (still_runs g.D.Disk.seen holding c.args.part.now c.expire.new.self once.log)
    (still_ends g.D.Disk.seen holding c.args.part.now c.expire.new.self once.log) c.in-Err.ensures.runs

pub returns-in-Ok-clause-within : goal.returns-in-Ok-clause-within
returns-in-Ok-clause-within g c = expiry_found g.D.Disk.seen holding g.met.D.Disk.only_now c.args.part.now c.expire.new.self c.args.now _ c.in-Ok.ensures.once

pub returns-in-Err-clause-within : goal.returns-in-Err-clause-within
returns-in-Err-clause-within g c = expiry_found g.D.Disk.seen holding g.met.D.Disk.only_now c.args.part.now c.expire.new.self c.args.now _ c.in-Err.ensures.once

pub returns-in-Ok-clause-unused : goal.returns-in-Ok-clause-unused
returns-in-Ok-clause-unused g c = c.in-Ok.ensures.once.log

pub returns-in-Err-clause-unused : goal.returns-in-Err-clause-unused
returns-in-Err-clause-unused g c = c.in-Err.ensures.once.log
