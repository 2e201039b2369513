use Rattle.broker_shards.specs.Hosts.{holding}
use Rattle.broker_shards.proofs.Finding.{visit_found}
use Rattle.broker_shards.proofs.Parting.{read_ends, states_go, visit_refused, visit_unused, visited}
use Rattle.broker_shards.proofs.part.visit.Goals as goal

pub returns-in-Ok-clause-acts : goal.returns-in-Ok-clause-acts
returns-in-Ok-clause-acts g c = visited g.D.Disk.seen holding c.args.part.now c.visit.new.self c.args.now c.args.visit.now c.in-Ok.answer
    c.in-Ok.ensures.once.unread c.in-Ok.ensures.once.log c.in-Ok.ensures.once.steps c.in-Ok.ensures.ranges

pub returns-in-Ok-clause-goes_on : goal.returns-in-Ok-clause-goes_on
returns-in-Ok-clause-goes_on g c = let once = c.in-Ok.ensures.once in
    states_go g.D.Disk.seen holding c.args.part.now c.visit.new.self once.conf once.log.calls.runs
    (read_ends g.D.Disk.seen holding c.args.part.now c.visit.new.self once.log.reads) c.in-Ok.ensures.runs

pub returns-in-Err-clause-acts : goal.returns-in-Err-clause-acts
returns-in-Err-clause-acts g c = (tt, visit_refused g.D.Disk.seen holding c.args.part.now c.visit.new.self c.in-Err.ensures.once.memory)

pub returns-in-Err-clause-goes_on : goal.returns-in-Err-clause-goes_on
returns-in-Err-clause-goes_on g c = let once = c.in-Err.ensures.once in
    states_go g.D.Disk.seen holding c.args.part.now c.visit.new.self once.conf once.log.calls.runs
    (read_ends g.D.Disk.seen holding c.args.part.now c.visit.new.self once.log.reads) c.in-Err.ensures.runs

pub returns-in-Ok-clause-within : goal.returns-in-Ok-clause-within
returns-in-Ok-clause-within g c = visit_found g.D.Disk.seen holding g.met.D.Disk.only_now c.args.part.now c.visit.new.self c.args.now c.args.visit.now
    _ c.in-Ok.ensures.once

pub returns-in-Err-clause-within : goal.returns-in-Err-clause-within
returns-in-Err-clause-within g c = visit_found g.D.Disk.seen holding g.met.D.Disk.only_now c.args.part.now c.visit.new.self c.args.now c.args.visit.now
    _ c.in-Err.ensures.once

pub returns-in-Ok-clause-unused : goal.returns-in-Ok-clause-unused
returns-in-Ok-clause-unused g c = let once = c.in-Ok.ensures.once in
    visit_unused g.D.Disk.seen holding c.args.part.now c.visit.new.self c.args.visit.now once.others once.log.reads

pub returns-in-Err-clause-unused : goal.returns-in-Err-clause-unused
returns-in-Err-clause-unused g c = let once = c.in-Err.ensures.once in
    visit_unused g.D.Disk.seen holding c.args.part.now c.visit.new.self c.args.visit.now once.others once.log.reads
