use Rattle.std.proofs.Common.{subst, sym}
use Rattle.share_coord.specs.Opening.{IsOpened}
use Rattle.share_part.proofs.Opens.{with_room}
use Rattle.share_part.proofs.shard.open_states.Goals as goal

pub returns-clause-opened : goal.returns-clause-opened
returns-clause-opened g c = subst (IsOpened g.D.Disk.seen c.args.a c.args.b) (sym c.reserve.ensures.same)
    (with_room g.D.Disk.seen c.args.a c.args.b c.in-Ok.states c.reserve.new.self.room c.in-Ok.ensures.opened)
