use Rattle.std.proofs.Common.{refl}
use Rattle.broker_shards.specs.Hosts.{holding}
use Rattle.broker_shards.proofs.Finding.{offer_found}
use Rattle.broker_shards.proofs.Parting.{offer_told}
use Rattle.broker_shards.proofs.part.offer.Goals as goal

pub returns-clause-acts : goal.returns-clause-acts
returns-clause-acts g c = offer_told g.D.Disk.seen holding c.args.part.now c.args.group.now c.offer.result c.offer.ensures

pub returns-clause-within : goal.returns-clause-within
returns-clause-within g c = λ now. offer_found g.D.Disk.seen holding g.met.D.Disk.only_now c.args.part.now c.args.part.now now c.args.group.now refl
