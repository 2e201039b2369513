use Rattle.std.proofs.Common.{◌≤◌, ℕ, ap, arith, refl, subst, sym}
use Rattle.std.specs.Prelude.{Ok, false}
use Rattle.share_model.specs.declared.visit.AckOutcome.TheVariants.{Done}
use Rattle.share_part.specs.Shards.{spare_in}
use Rattle.share_part.specs.Visits.{acks_alone, told_alone}
use Rattle.share_part.proofs.Acked.{moments, stands, visited}
use Rattle.share_part.proofs.Failing.{run_none}
use Rattle.share_part.proofs.Looked.{nothing_read}
use Rattle.share_part.proofs.Visiting.{idly}
use Rattle.share_part.proofs.shard.PartShard.ack_reserved.Goals as goal

pub invariant_of-self : goal.invariant_of-self
invariant_of-self g c =
    let s = stands false g.D.Disk.seen g.W.Window.held (acks_alone c.args.group.now c.args.member.now c.args.acks.now)
    (record { conf = c.self.inside.conf; log = c.self.inside.log; states = c.self.inside.states; windows = c.self.inside.windows.entries; clock = c.self.inside.clock })
    c.settle_given-ack.new.states c.settle_given-ack.new.windows.entries c.self.invariant.log_is c.settle_given-ack.ensures.range.few c.self.invariant.hosted c.self.invariant.holds c.settle_given-ack.result c.settle_given-ack.ensures.once in
    record { log_is = c.self.invariant.log_is; within = c.self.invariant.within; hosted = s.0; holds = s.1; moment = omega (arith, c.self.invariant.moment, c.requires.now, c.max-self-inside.ensures); scratch = let scratch = c.self.invariant.scratch in omega (arith, scratch, c.judge_given-judged.ensures.room); room = subst (λ (n : ℕ). 6000 ≤ n) (sym c.settle_given-ack.ensures.room) c.self.invariant.room }

pub returns-clause-once : goal.returns-clause-once
returns-clause-once g c = rw (← c.self.view_is) (visited false g.D.Disk.seen g.W.Window.held (acks_alone c.args.group.now c.args.member.now c.args.acks.now)
    (record { conf = c.self.inside.conf; log = c.self.inside.log; states = c.self.inside.states; windows = c.self.inside.windows.entries; clock = c.self.inside.clock })
    c.settle_given-ack.new.states c.settle_given-ack.new.windows.entries c.self.invariant.log_is c.settle_given-ack.ensures.range.few c.self.invariant.hosted c.self.invariant.holds c.args.now
    (record { conf = c.self.inside.conf; log = c.self.inside.log; states = c.settle_given-ack.new.states; windows = c.settle_given-ack.new.windows.entries; clock = c.max-self-inside.result })
    c.settle_given-ack.result c.settle_given-ack.ensures.once c.settle_given-ack.ensures.runs (run_none g.D.Disk.seen c.settle_given-ack.new.states)
    (told_alone Done) (Ok (told_alone Done)) refl
    (idly g.D.Disk.seen g.W.Window.held c.args.now (acks_alone c.args.group.now c.args.member.now c.args.acks.now)
    (record { conf = c.self.inside.conf; log = c.self.inside.log; states = c.settle_given-ack.new.states; windows = c.settle_given-ack.new.windows.entries; clock = c.self.inside.clock })
    (record { conf = c.self.inside.conf; log = c.self.inside.log; states = c.settle_given-ack.new.states; windows = c.settle_given-ack.new.windows.entries; clock = c.max-self-inside.result })
    refl (nothing_read g.D.Disk.seen g.met.D.Disk.only_now c.self.inside.log) (run_none g.D.Disk.seen c.settle_given-ack.new.states)
    (told_alone Done) refl (record { outcome_is = refl; grants = refl; batches = refl }) refl refl refl refl c.max-self-inside.ensures))

pub returns-clause-any_moment : goal.returns-clause-any_moment
returns-clause-any_moment g c = rw (← c.self.view_is) (moments false g.D.Disk.seen g.W.Window.held (acks_alone c.args.group.now c.args.member.now c.args.acks.now)
    (record { conf = c.self.inside.conf; log = c.self.inside.log; states = c.self.inside.states; windows = c.self.inside.windows.entries; clock = c.self.inside.clock })
    c.settle_given-ack.new.states c.settle_given-ack.new.windows.entries c.self.invariant.log_is c.settle_given-ack.ensures.range.few c.self.invariant.hosted c.self.invariant.holds
    (c.settle_given-ack.ensures.moments refl))

pub returns-clause-spare : goal.returns-clause-spare
returns-clause-spare g c = rw (← c.self.view_is) (ap spare_in c.settle_given-ack.ensures.room)

pub returns-clause-alone : goal.returns-clause-alone
returns-clause-alone g c = rw (← c.self.view_is) (c.settle_given-ack.ensures.alone refl)
