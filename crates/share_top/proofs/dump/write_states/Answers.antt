use Rattle.std.proofs.Common.{◌∷◌, ◌++◌, [], codes}
use Rattle.std.specs.List.{flat_map}
use Rattle.broker_hosts.specs.Hosts.{states_at}
use Rattle.share_top.specs.Dumping.{foreign_texts}
use Rattle.share_top.specs.Slots.{slot_text}
use Rattle.share_top.proofs.Dumps.{both, first_failed}
use Rattle.share_top.proofs.dump.write_states.Goals as goal

pub returns-in-Ok : goal.returns-in-Ok
returns-in-Ok g c = both (g.O.Sink.held c.args.output.now) (g.O.Sink.held c.write_parts.new.output) (g.O.Sink.held c.write_rest.new.output)
    (g.O.Sink.faults c.args.output.now) (g.O.Sink.faults c.write_parts.new.output) (g.O.Sink.faults c.write_rest.new.output)
    (flat_map slot_text c.args.core.now.hosts.parts) (foreign_texts (states_at c.args.core.now.hosts.foreign) ++ (codes "end" ++ 10 ∷ [])) c.write_rest.result (rw c.parts.ensures at c.in-Ok.ensures) (rw c.foreign.ensures at c.write_rest.ensures)

pub returns-in-Err : goal.returns-in-Err
returns-in-Err g c = first_failed (g.O.Sink.held c.args.output.now) (g.O.Sink.held c.write_parts.new.output)
    (g.O.Sink.faults c.args.output.now) (g.O.Sink.faults c.write_parts.new.output)
    (flat_map slot_text c.args.core.now.hosts.parts) (foreign_texts (states_at c.args.core.now.hosts.foreign) ++ (codes "end" ++ 10 ∷ [])) c.in-Err.fault (rw c.parts.ensures at c.in-Err.ensures)
