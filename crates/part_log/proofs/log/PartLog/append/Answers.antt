use Rattle.part_log.proofs.Stepping.{steps}
use Rattle.part_log.proofs.log.PartLog.append.Goals as goal

pub returns-clause-steps : goal.returns-clause-steps
returns-clause-steps g c = λ fed shard k. steps g.D.Disk.seen
    c.args.self.now c.add.new.self c.args.batch.now c.add.result c.add.ensures.batch c.add.ensures.behind c.add.ensures.base c.add.ensures.once fed shard k
