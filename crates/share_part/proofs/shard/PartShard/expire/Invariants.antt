use Rattle.share_part.proofs.Expired.{SoFar}
use Rattle.share_part.proofs.shard.PartShard.expire.Given as goal

abbrev pub invariant-loop-group : goal.invariant-loop-group
invariant-loop-group g l = SoFar g.D.Disk.seen g.W.Window.held l.now l.fn.self l.group-items
    l.self l.group-index l.freed
