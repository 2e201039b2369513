use Rattle.std.proofs.Common.{ap}
use Rattle.share_coord.specs.Parts.{StoreParts}
use Rattle.broker_shards.specs.Hosts.{holding}
use Rattle.broker_shards.proofs.Finding.{batch_found}
use Rattle.broker_shards.proofs.Parting.{added, call_refused, log_goes}
use Rattle.broker_shards.proofs.part.produce.Goals as goal

pub returns-in-Ok-clause-acts : goal.returns-in-Ok-clause-acts
returns-in-Ok-clause-acts g c = added g.D.Disk.seen holding c.args.part.now c.produce-added.new.self c.args.now c.args.batch.now
    c.produce-added.result c.in-Ok.told c.in-Ok.ensures.ok c.in-Ok.ensures.tellable c.produce-added.ensures.once.quiet c.produce-added.ensures.once.steps

pub returns-in-Ok-clause-goes_on : goal.returns-in-Ok-clause-goes_on
returns-in-Ok-clause-goes_on g c = let once = c.produce-added.ensures.once in
    log_goes g.D.Disk.seen holding c.args.part.now c.produce-added.new.self once.conf c.produce-added.ensures.runs (ap (λ (t : StoreParts _). t.journal) once.states) once.ends

pub returns-in-Err-clause-acts : goal.returns-in-Err-clause-acts
returns-in-Err-clause-acts g c = (
  tt,
  call_refused g.D.Disk.seen holding c.args.part.now c.produce-added.new.self
      (c.produce-added.ensures.once.memory c.in-Err.ensures.memory),
)

pub returns-in-Err-clause-goes_on : goal.returns-in-Err-clause-goes_on
returns-in-Err-clause-goes_on g c = let once = c.produce-added.ensures.once in
    log_goes g.D.Disk.seen holding c.args.part.now c.produce-added.new.self once.conf c.produce-added.ensures.runs (ap (λ (t : StoreParts _). t.journal) once.states) once.ends

pub returns-in-Ok-clause-within : goal.returns-in-Ok-clause-within
returns-in-Ok-clause-within g c = batch_found g.D.Disk.seen holding g.met.D.Disk.only_now c.args.part.now c.produce-added.new.self c.args.now
    c.args.batch.now c.produce-added.result c.produce-added.ensures.once

pub returns-in-Err-clause-within : goal.returns-in-Err-clause-within
returns-in-Err-clause-within g c = batch_found g.D.Disk.seen holding g.met.D.Disk.only_now c.args.part.now c.produce-added.new.self c.args.now
    c.args.batch.now c.produce-added.result c.produce-added.ensures.once

pub returns-in-Ok-clause-unused : goal.returns-in-Ok-clause-unused
returns-in-Ok-clause-unused g c = ap (λ (t : StoreParts _). t.journal) c.produce-added.ensures.once.states

pub returns-in-Err-clause-unused : goal.returns-in-Err-clause-unused
returns-in-Err-clause-unused g c = ap (λ (t : StoreParts _). t.journal) c.produce-added.ensures.once.states
