use Rattle.std.proofs.Common.{refl, [], ◌∙◌}
use Rattle.std.specs.List.{flat_map}
use Rattle.text_pieces.proofs.Going.{begun}
use Rattle.share_top.specs.Slots.{slot_text}
use Rattle.share_top.proofs.Dumps.{others_open, slot_failed, slot_more, slots_end}
use Rattle.share_top.proofs.dump.write_parts.Goals as goal

pub loop-slot-init : goal.loop-slot-init
loop-slot-init g c = record {
  so_far = begun (g.O.Sink.held c.args.output.now) [] (flat_map slot_text c.args.slots.now);
  counted = refl;
  are_open = c.requires;
}

pub loop-slot-preserved : goal.loop-slot-preserved
loop-slot-preserved g c = record {
  so_far = slot_more (g.O.Sink.held c.args.output.now) (g.O.Sink.held c.loop-slot.output) (g.O.Sink.held c.write_tables.new.output)
      (g.O.Sink.faults c.args.output.now) (g.O.Sink.faults c.loop-slot.output) (g.O.Sink.faults c.write_tables.new.output)
      (flat_map slot_text c.args.slots.now) c.loop-slot.invariant.counted
      c.loop-slot.rest.now c.in-Some.others.now c.in-Some.slot.now c.part.result c.states.result c.loop-slot.invariant.so_far c.in-Some.ensures.cases.0
      c.part.ensures.same c.states.ensures c.in-Ok.field-0 c.in-Ok.ensures;
  counted = c.in-Ok.ensures.counted (λ e. absurd (let never : ⊥ = cc in never)) ∙ c.loop-slot.invariant.counted;
  are_open = others_open c.loop-slot.rest.now c.in-Some.others.now c.in-Some.slot.now c.in-Some.ensures.cases.0 c.loop-slot.invariant.are_open;
}

pub returns-in-Err : goal.returns-in-Err
returns-in-Err g c = slot_failed (g.O.Sink.held c.args.output.now) (g.O.Sink.held c.loop-slot.output) (g.O.Sink.held c.write_tables.new.output)
    (g.O.Sink.faults c.args.output.now) (g.O.Sink.faults c.loop-slot.output) (g.O.Sink.faults c.write_tables.new.output)
    (flat_map slot_text c.args.slots.now) c.loop-slot.invariant.counted
    c.loop-slot.rest.now c.in-Some.others.now c.in-Some.slot.now c.part.result c.states.result c.loop-slot.invariant.so_far c.in-Some.ensures.cases.0
    c.part.ensures.same c.states.ensures c.in-Err.fault c.in-Err.ensures

pub returns : goal.returns
returns g c = slots_end (g.O.Sink.held c.args.output.now) (g.O.Sink.held c.loop-slot.output) (g.O.Sink.faults c.args.output.now)
    (g.O.Sink.faults c.loop-slot.output) c.loop-slot.rest.now (flat_map slot_text c.args.slots.now) c.loop-slot.invariant.so_far c.in_default.ensures.cases
    c.loop-slot.invariant.counted
