use Rattle.std.proofs.Common.{◌≡◌, ◌≤◌, ℕ, None, arith, subst, sym}
use Rattle.std.specs.Prelude.{Ok, Err, true}
use Rattle.share_coord.specs.States.{states_of}
use Rattle.share_model.specs.ForeignRules.{share_state_at}
use Rattle.share_model.specs.declared.visit.VisitAnswer.{VisitAnswer}
use Rattle.share_part.specs.Following.{IsFetch}
use Rattle.share_part.specs.Hosting.{key_of}
use Rattle.share_part.specs.Once.{VisitsOnce}
use Rattle.share_part.specs.Shards.{PartParts}
use Rattle.share_part.proofs.Acked.{stands, unfollowed, unheld_by, visited}
use Rattle.share_part.proofs.Failing.{run_then}
use Rattle.share_part.proofs.Visiting.{err_is}
use Rattle.share_part.proofs.shard.PartShard.visit_plain.Goals as goal

pub invariant_of-self : goal.invariant_of-self
invariant_of-self g c =
    let s = stands true g.D.Disk.seen g.W.Window.held c.args.visit.now
    (record { conf = c.self.inside.conf; log = c.self.inside.log; states = c.self.inside.states; windows = c.self.inside.windows.entries; clock = c.self.inside.clock })
    c.settle_acks-ack.new.states c.settle_acks-ack.new.windows.entries c.self.invariant.log_is c.settle_acks-ack.ensures.range.few c.self.invariant.hosted c.self.invariant.holds c.settle_acks-ack.result c.settle_acks-ack.ensures.once in
    record { log_is = c.self.invariant.log_is; within = c.self.invariant.within; hosted = s.0; holds = s.1; moment = c.self.invariant.moment; scratch = let scratch = c.self.invariant.scratch in omega (arith, scratch, c.judge_acks-acks.ensures.room); room = subst (λ (n : ℕ). 6000 ≤ n) (sym c.settle_acks-ack.ensures.room) c.self.invariant.room }

pub returns-in-Err-clause-once : goal.returns-in-Err-clause-once
returns-in-Err-clause-once g c = rw (← c.self.view_is) (unfollowed true g.D.Disk.seen g.W.Window.held c.args.visit.now
    (record { conf = c.self.inside.conf; log = c.self.inside.log; states = c.self.inside.states; windows = c.self.inside.windows.entries; clock = c.self.inside.clock })
    c.settle_acks-ack.new.states c.settle_acks-ack.new.windows.entries c.self.invariant.log_is c.settle_acks-ack.ensures.range.few c.self.invariant.hosted c.self.invariant.holds c.args.now c.follow.new.self c.settle_acks-ack.result c.settle_acks-ack.ensures.once c.settle_acks-ack.ensures.runs c.follow.ensures.runs
    _ c.follow.result c.in-Err.is c.follow.ensures.once
    (unheld_by true g.D.Disk.seen g.W.Window.held c.args.visit.now
    (record { conf = c.self.inside.conf; log = c.self.inside.log; states = c.self.inside.states; windows = c.self.inside.windows.entries; clock = c.self.inside.clock })
    c.settle_acks-ack.new.states c.settle_acks-ack.new.windows.entries c.self.invariant.log_is c.settle_acks-ack.ensures.range.few c.self.invariant.hosted c.self.invariant.holds
    c.settle_acks-ack.result c.settle_acks-ack.ensures.once
    (subst (λ (p : PartParts g.row.D.Denot g.row.W.Denot). IsFetch c.args.visit.now.then → share_state_at (states_of p.states.entries) (key_of p.conf c.args.visit.now.group) ≡ None)
    (sym c.self.view_is) c.requires.table (c.follow.ensures.spared (err_is c.follow.result _ c.in-Err.is)))) c.in-Err.fault)

pub returns-in-Ok-clause-once : goal.returns-in-Ok-clause-once
returns-in-Ok-clause-once g c = rw (← c.self.view_is) (subst (λ (a : VisitAnswer). VisitsOnce g.D.Disk.seen g.W.Window.held c.args.now true c.args.visit.now
    (record { conf = c.self.inside.conf; log = c.self.inside.log; states = c.self.inside.states; windows = c.self.inside.windows.entries; clock = c.self.inside.clock }) c.follow.new.self (Ok a)) (sym c.with_ack.ensures)
    (visited true g.D.Disk.seen g.W.Window.held c.args.visit.now
    (record { conf = c.self.inside.conf; log = c.self.inside.log; states = c.self.inside.states; windows = c.self.inside.windows.entries; clock = c.self.inside.clock })
    c.settle_acks-ack.new.states c.settle_acks-ack.new.windows.entries c.self.invariant.log_is c.settle_acks-ack.ensures.range.few c.self.invariant.hosted c.self.invariant.holds c.args.now c.follow.new.self c.settle_acks-ack.result c.settle_acks-ack.ensures.once c.settle_acks-ack.ensures.runs c.follow.ensures.runs
    _ c.follow.result c.in-Ok.is c.follow.ensures.once))

pub returns-in-Ok-clause-runs : goal.returns-in-Ok-clause-runs
returns-in-Ok-clause-runs g c = rw (← c.self.view_is) (run_then g.D.Disk.seen
    c.self.inside.states c.settle_acks-ack.new.states c.follow.new.self.states c.settle_acks-ack.ensures.runs c.follow.ensures.runs)
