use Rattle.broker_shards.specs.Hosts.{holding}
use Rattle.broker_shards.proofs.Legal.{told_of}
use Rattle.broker_shards.proofs.law.a_partition_tells_what_is_asked.Goals as goal

pub returns : goal.returns
returns g c = told_of g.D.Disk.seen holding
