use Rattle.std.proofs.Common.{ap, subst, sym}
use Rattle.share_part.specs.Following.{IsFetch}
use Rattle.share_part.specs.Shards.{PartParts}
use Rattle.share_part.proofs.Failing.{run_same}
use Rattle.share_part.proofs.Looked.{same_read}
use Rattle.share_part.proofs.Visiting.{idly}
use Rattle.share_part.proofs.shard.PartShard.follow.Goals as goal

pub returns-in-Nothing-clause-once : goal.returns-in-Nothing-clause-once
returns-in-Nothing-clause-once g c = idly g.D.Disk.seen g.W.Window.held c.args.now c.args.visit.now c.args.self.now c.pass.new.self
    (ap (λ (p : PartParts g.row.D.Denot g.row.W.Denot). p.conf) c.pass.ensures.clock)
    (same_read g.D.Disk.seen g.met.D.Disk.only_now c.args.self.now.log c.pass.new.self.log
    (ap (λ (p : PartParts g.row.D.Denot g.row.W.Denot). p.log) c.pass.ensures.clock))
    (run_same g.D.Disk.seen c.args.self.now.states c.pass.new.self.states (ap (λ (p : PartParts g.row.D.Denot g.row.W.Denot). p.states) c.pass.ensures.clock)) c.pass.result c.pass.ensures.ack c.pass.ensures.answer c.in-Nothing.is
    (ap (λ (p : PartParts g.row.D.Denot g.row.W.Denot). p.log) c.pass.ensures.clock)
    (ap (λ (p : PartParts g.row.D.Denot g.row.W.Denot). p.states) c.pass.ensures.clock) (ap (λ (p : PartParts g.row.D.Denot g.row.W.Denot). p.windows) c.pass.ensures.clock)
    (ap (λ (p : PartParts g.row.D.Denot g.row.W.Denot). p.clock) c.pass.ensures.clock)

pub returns-in-Fetch-clause-spared : goal.returns-in-Fetch-clause-spared
returns-in-Fetch-clause-spared g c = λ none. subst IsFetch (sym c.in-Fetch.is) tt
