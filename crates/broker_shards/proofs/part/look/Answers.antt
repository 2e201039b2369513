use Rattle.std.proofs.Common.{refl}
use Rattle.broker_shards.specs.Hosts.{holding}
use Rattle.broker_shards.proofs.Finding.{look_found}
use Rattle.broker_shards.proofs.Parting.{look_told}
use Rattle.broker_shards.proofs.part.look.Goals as goal

pub returns-in-Ok-clause-acts : goal.returns-in-Ok-clause-acts
returns-in-Ok-clause-acts g c = look_told g.D.Disk.seen holding c.args.part.now c.args.group.now c.in-Ok.told c.in-Ok.ensures.ok c.in-Ok.ensures.tellable

pub returns-in-Ok-clause-within : goal.returns-in-Ok-clause-within
returns-in-Ok-clause-within g c = λ now. look_found g.D.Disk.seen holding g.met.D.Disk.only_now c.args.part.now c.args.part.now now c.args.group.now refl

pub returns-in-Err-clause-within : goal.returns-in-Err-clause-within
returns-in-Err-clause-within g c = λ now. look_found g.D.Disk.seen holding g.met.D.Disk.only_now c.args.part.now c.args.part.now now c.args.group.now refl

pub returns-in-Err-clause-acts : goal.returns-in-Err-clause-acts
returns-in-Err-clause-acts g c = λ now. (tt, λ s k. k)
