use Rattle.std.proofs.Common.{◌∙◌, ap, max}
use Rattle.share_part.specs.Shards.{PartParts}
use Rattle.share_part.proofs.Freeing.{let_go}
use Rattle.share_part.proofs.Looked.{same_read}
use Rattle.share_part.proofs.shard.PartShard.let_go.Goals as goal

pub returns-clause-once : goal.returns-clause-once
returns-clause-once g c = let_go g.D.Disk.seen g.W.Window.held c.args.now c.max-clock.result c.args.visit.now c.args.self.now c.release-released.new.self c.requires.release
    (same_read g.D.Disk.seen g.met.D.Disk.only_now c.args.self.now.log c.release-released.new.self.log)
    c.release-released.result
    (c.max-clock.ensures ∙ ap (λ (p : PartParts g.row.D.Denot g.row.W.Denot). max p.clock c.args.now) c.self.view_is)
    c.release-released.ensures.once c.empty.result c.outcome_of.result c.empty.ensures.ack c.empty.ensures.answer c.outcome_of.ensures
