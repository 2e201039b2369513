use Rattle.std.proofs.Common.{◌∷◌, ◌++◌, [], codes}
use Rattle.broker_hosts.specs.Hosts.{states_at}
use Rattle.share_top.specs.Dumping.{foreign_texts}
use Rattle.share_top.proofs.Dumps.{both, first_failed}
use Rattle.share_top.proofs.dump.write_rest.Goals as goal

pub returns-in-Ok : goal.returns-in-Ok
returns-in-Ok g c = both (g.O.Sink.held c.args.output.now) (g.O.Sink.held c.write_foreign_states.new.output) (g.O.Sink.held c.write_end.new.output)
    (g.O.Sink.faults c.args.output.now) (g.O.Sink.faults c.write_foreign_states.new.output) (g.O.Sink.faults c.write_end.new.output)
    (foreign_texts (states_at c.args.foreign.now)) (codes "end" ++ 10 ∷ []) c.write_end.result (rw c.states.ensures at c.in-Ok.ensures) c.write_end.ensures

pub returns-in-Err : goal.returns-in-Err
returns-in-Err g c = first_failed (g.O.Sink.held c.args.output.now) (g.O.Sink.held c.write_foreign_states.new.output)
    (g.O.Sink.faults c.args.output.now) (g.O.Sink.faults c.write_foreign_states.new.output)
    (foreign_texts (states_at c.args.foreign.now)) (codes "end" ++ 10 ∷ []) c.in-Err.fault (rw c.states.ensures at c.in-Err.ensures)
