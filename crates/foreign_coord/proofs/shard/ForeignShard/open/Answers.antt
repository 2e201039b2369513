use Rattle.std.proofs.Common.{refl, None}
use Rattle.foreign_coord.proofs.shard.ForeignShard.open.Goals as goal

pub returns-in-Ok-clause-carries : goal.returns-in-Ok-clause-carries
returns-in-Ok-clause-carries g c = record {
  pending = None;
  holds = c.in-Ok.ensures.opened.holds;
  states = refl;
  pending_is = refl;
  unraised = (c.in-Ok.ensures.opened.unraised, tt);
}
