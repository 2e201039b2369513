use Rattle.part_log.proofs.Stepping.{raises}
use Rattle.part_log.proofs.log.PartLog.raise.Goals as goal

pub mark-requires : goal.mark-requires
mark-requires g c = record { follows = record { above = c.requires.above; within = c.requires.within } }

pub returns-clause-once : goal.returns-clause-once
returns-clause-once g c = record {
  ok = c.mark.ensures.ok;
  quiet = c.mark.ensures.quiet;
  device = c.mark.ensures.device;
  full = c.mark.ensures.full;
  unchanged = c.mark.ensures.unchanged;
  any_moment = c.mark.ensures.any_moment;
}

pub returns-clause-steps : goal.returns-clause-steps
returns-clause-steps g c = λ shard k. raises g.D.Disk.seen c.args.self.now c.mark.new.self c.args.to c.mark.result (record {
  ok = c.mark.ensures.ok;
  quiet = c.mark.ensures.quiet;
  device = c.mark.ensures.device;
  full = c.mark.ensures.full;
  unchanged = c.mark.ensures.unchanged;
  any_moment = c.mark.ensures.any_moment;
}) shard k
