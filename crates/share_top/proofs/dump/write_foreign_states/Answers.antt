use Rattle.std.proofs.Common.{◌∙◌}
use Rattle.share_top.specs.Dumping.{foreign_texts}
use Rattle.share_top.proofs.Dumps.{key_failed, key_more}
use Rattle.share_top.proofs.dump.write_foreign_states.Goals as goal

pub loop-key-preserved : goal.loop-key-preserved
loop-key-preserved g c = record {
  so_far = key_more (g.O.Sink.held c.args.output.now) (g.O.Sink.held c.loop-key.output) (g.O.Sink.held c.write_foreign.new.output)
      (g.O.Sink.faults c.args.output.now) (g.O.Sink.faults c.loop-key.output) (g.O.Sink.faults c.write_foreign.new.output) (foreign_texts c.args.states) c.loop-key.invariant.counted
      c.loop-key.states c.next.new.self c.in-Some.key.now c.in-Some.view.now.state c.loop-key.invariant.so_far c.in-Some.ensures.steps c.in-Ok.field-0 c.in-Ok.ensures;
  counted = c.in-Ok.ensures.counted (λ e. absurd (let never : ⊥ = cc in never)) ∙ c.loop-key.invariant.counted;
}

pub returns-in-Err : goal.returns-in-Err
returns-in-Err g c = key_failed (g.O.Sink.held c.args.output.now) (g.O.Sink.held c.loop-key.output) (g.O.Sink.held c.write_foreign.new.output)
    (g.O.Sink.faults c.args.output.now) (g.O.Sink.faults c.loop-key.output) (g.O.Sink.faults c.write_foreign.new.output) (foreign_texts c.args.states) c.loop-key.invariant.counted
    c.loop-key.states c.next.new.self c.in-Some.key.now c.in-Some.view.now.state c.loop-key.invariant.so_far c.in-Some.ensures.steps c.in-Err.fault c.in-Err.ensures
