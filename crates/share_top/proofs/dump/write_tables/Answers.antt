use Rattle.std.proofs.Common.{ap, ◌∙◌}
use Rattle.share_model.specs.Keys.{KeyParts}
use Rattle.share_top.specs.Dumping.{tables_text}
use Rattle.share_top.proofs.Dumps.{table_failed, table_more}
use Rattle.share_top.proofs.dump.write_tables.Goals as goal

pub loop-key-preserved : goal.loop-key-preserved
loop-key-preserved g c = record {
  so_far = table_more (g.O.Sink.held c.args.output.now) (g.O.Sink.held c.loop-key.output) (g.O.Sink.held c.write_table.new.output)
      (g.O.Sink.faults c.args.output.now) (g.O.Sink.faults c.loop-key.output) (g.O.Sink.faults c.write_table.new.output) (tables_text c.args.topic.now c.args.part c.args.states) c.loop-key.invariant.counted
      c.args.topic.now c.args.part c.loop-key.states c.next.new.self c.in-Some.key.now c.in-Some.view.now.state _ c.as_str.result.now
      c.loop-key.invariant.so_far c.in-Some.ensures.steps (ap (λ (k : KeyParts). k.group) c.key.view_is) c.as_str.ensures.same c.in-Ok.field-0 c.in-Ok.ensures;
  counted = c.in-Ok.ensures.counted (λ e. absurd (let never : ⊥ = cc in never)) ∙ c.loop-key.invariant.counted;
}

pub returns-in-Err : goal.returns-in-Err
returns-in-Err g c = table_failed (g.O.Sink.held c.args.output.now) (g.O.Sink.held c.loop-key.output) (g.O.Sink.held c.write_table.new.output)
    (g.O.Sink.faults c.args.output.now) (g.O.Sink.faults c.loop-key.output) (g.O.Sink.faults c.write_table.new.output) (tables_text c.args.topic.now c.args.part c.args.states) c.loop-key.invariant.counted
    c.args.topic.now c.args.part c.loop-key.states c.next.new.self c.in-Some.key.now c.in-Some.view.now.state _ c.as_str.result.now
    c.loop-key.invariant.so_far c.in-Some.ensures.steps (ap (λ (k : KeyParts). k.group) c.key.view_is) c.as_str.ensures.same c.in-Err.fault c.in-Err.ensures
