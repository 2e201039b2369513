use Rattle.std.proofs.Common.{◌≤◌, arith, subst, sym, ℕ}
use Rattle.share_part.proofs.Freeing.{released, released_stand}
use Rattle.share_part.proofs.shard.PartShard.release.Goals as goal

pub invariant_of-self : goal.invariant_of-self
invariant_of-self g c =
    let s = released_stand g.D.Disk.seen g.W.Window.held c.args.group.now c.args.whose.now
    (record { conf = c.self.inside.conf; log = c.self.inside.log; states = c.self.inside.states; windows = c.self.inside.windows.entries; clock = c.self.inside.clock })
    c.release_held-released.new.states c.release_held-released.new.windows.entries c.self.invariant.log_is c.release_held-released.ensures.range.few c.self.invariant.hosted c.self.invariant.holds c.release_held-released.result c.release_held-released.ensures.once in
    record { log_is = c.self.invariant.log_is; within = c.self.invariant.within; hosted = s.0; holds = s.1; moment = c.requires.clock; scratch = let scratch = c.self.invariant.scratch in omega (arith, scratch, c.release_held-released.ensures.scratch); room = subst (λ (n : ℕ). 6000 ≤ n) (sym c.release_held-released.ensures.room) c.self.invariant.room }

pub returns-clause-once : goal.returns-clause-once
returns-clause-once g c = rw (← c.self.view_is) (released g.D.Disk.seen g.W.Window.held c.args.group.now c.args.whose.now
    (record { conf = c.self.inside.conf; log = c.self.inside.log; states = c.self.inside.states; windows = c.self.inside.windows.entries; clock = c.self.inside.clock })
    c.release_held-released.new.states c.release_held-released.new.windows.entries c.self.invariant.log_is c.release_held-released.ensures.range.few c.self.invariant.hosted c.self.invariant.holds c.release_held-released.ensures.runs c.args.clock c.release_held-released.result c.release_held-released.ensures.once
    c.release_held-released.ensures.count)
