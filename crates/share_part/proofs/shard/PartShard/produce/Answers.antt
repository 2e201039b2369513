use Rattle.std.proofs.Common.{◌≡◌, ◌≤◌, ◌^◌, ◌∙◌, refl, sym, subst, arith, true, false}
use Rattle.std.specs.Prelude.{IfOk, Result}
use Rattle.part_log.proofs.Rising.{end_bound}
use Rattle.share_model.specs.declared.delete.Placed.{Placed}
use Rattle.share_model.specs.declared.fault.LogFault.{LogFault}
use Rattle.share_coord.specs.States.{states_of}
use Rattle.share_part.specs.Once.{ProducesOnce}
use Rattle.share_part.specs.Shards.{held_in}
use Rattle.share_part.proofs.Holding.{all_later}
use Rattle.share_part.proofs.Producing.{has_grown, hungry, produced, stays_hosted, stays_sound, stays_within, told_below}
use Rattle.share_part.proofs.shard.PartShard.produce.Goals as goal

pub returns-then-has_no_memory-clause-once : goal.returns-then-has_no_memory-clause-once
returns-then-has_no_memory-clause-once g c = rw (← c.self.view_is) (hungry g.D.Disk.seen g.W.Window.held c.args.now c.args.batch.now (record { conf = c.self.inside.conf; log = c.self.inside.log; states = c.self.inside.states; windows = c.self.inside.windows.entries; clock = c.self.inside.clock }) c.append-result.new.self c.self.inside.clock c.append-result.result c.append-result.ensures.once (c.has_no_memory.ensures.0 c.if-has_no_memory.true) refl)

pub invariant_of-self-2 : goal.invariant_of-self-2
invariant_of-self-2 g c = record {
  log_is = stays_sound g.D.Disk.seen g.W.Window.held c.args.now c.args.batch.now (record { conf = c.self.inside.conf; log = c.self.inside.log; states = c.self.inside.states; windows = c.self.inside.windows.entries; clock = c.self.inside.clock }) c.append-result.new.self c.max-self-inside.result c.append-result.result c.append-result.ensures.once c.self.invariant.log_is;
  within = stays_within g.D.Disk.seen g.W.Window.held c.args.now c.args.batch.now (record { conf = c.self.inside.conf; log = c.self.inside.log; states = c.self.inside.states; windows = c.self.inside.windows.entries; clock = c.self.inside.clock }) c.append-result.new.self c.max-self-inside.result c.append-result.result c.append-result.ensures.once c.self.invariant.within;
  hosted = stays_hosted g.D.Disk.seen g.W.Window.held c.args.now c.args.batch.now (record { conf = c.self.inside.conf; log = c.self.inside.log; states = c.self.inside.states; windows = c.self.inside.windows.entries; clock = c.self.inside.clock }) c.append-result.new.self c.max-self-inside.result c.append-result.result c.append-result.ensures.once _ c.self.invariant.hosted;
  holds = all_later c.self.inside.conf c.self.inside.log.batches c.append-result.new.self.batches (states_of c.self.inside.states.entries) (held_in g.W.Window.held c.self.inside.windows.entries)
      (has_grown g.D.Disk.seen g.W.Window.held c.args.now c.args.batch.now (record { conf = c.self.inside.conf; log = c.self.inside.log; states = c.self.inside.states; windows = c.self.inside.windows.entries; clock = c.self.inside.clock }) c.append-result.new.self c.max-self-inside.result c.append-result.result c.append-result.ensures.once) c.self.invariant.holds;
  moment = omega (arith, c.self.invariant.moment, c.requires, c.max-self-inside.ensures);
  scratch = c.self.invariant.scratch;
  room = c.self.invariant.room;
}

pub returns-clause-once : goal.returns-clause-once
returns-clause-once g c = rw (← c.self.view_is) (subst (ProducesOnce g.D.Disk.seen g.W.Window.held c.args.now c.args.batch.now
    (record { conf = c.self.inside.conf; log = c.self.inside.log; states = c.self.inside.states; windows = c.self.inside.windows.entries; clock = c.self.inside.clock })
    (record { conf = c.self.inside.conf; log = c.append-result.new.self; states = c.self.inside.states; windows = c.self.inside.windows.entries; clock = c.max-self-inside.result })) (sym c.placed.ensures)
    (produced g.D.Disk.seen g.W.Window.held c.args.now c.args.batch.now (record { conf = c.self.inside.conf; log = c.self.inside.log; states = c.self.inside.states; windows = c.self.inside.windows.entries; clock = c.self.inside.clock }) c.append-result.new.self c.max-self-inside.result c.append-result.result c.append-result.ensures.once
    c.start.result c.start.ensures.value
    (λ is. let clash : true ≡ false = sym (c.has_no_memory.ensures.1 is) ∙ c.if-has_no_memory.false in let never : ⊥ = cc in never)
    c.max-self-inside.ensures c.append-result.ensures.steps))

pub returns-clause-below : goal.returns-clause-below
returns-clause-below g c =
    let sound = stays_sound g.D.Disk.seen g.W.Window.held c.args.now c.args.batch.now (record { conf = c.self.inside.conf; log = c.self.inside.log; states = c.self.inside.states; windows = c.self.inside.windows.entries; clock = c.self.inside.clock }) c.append-result.new.self c.max-self-inside.result c.append-result.result c.append-result.ensures.once c.self.invariant.log_is in
    let bound = end_bound c.append-result.new.self.batches sound.stored in
    let within = c.start.ensures.within in
    subst (λ (r : Result Placed LogFault). IfOk r (λ placed. (placed.base ≤ 2 ^ 62) × (placed.start ≤ 2 ^ 62))) (sym c.placed.ensures)
    (told_below c.start.result c.append-result.result c.append-result.ensures.below (omega (arith, within, bound)))
