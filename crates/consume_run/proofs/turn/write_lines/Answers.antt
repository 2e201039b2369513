use Rattle.std.proofs.Common.{◌∷◌, Ok, refl}
use Rattle.share_client.specs.declared.step.ClientStep.TheVariants.{Write}
use Rattle.share_client.specs.Traces.Call.{Asked}
use Rattle.consume_run.proofs.Turning.{failed_stops, wrote_goes}
use Rattle.consume_run.proofs.turn.write_lines.Goals as goal

pub returns-in-Ok-clause-goes : goal.returns-in-Ok-clause-goes
returns-in-Ok-clause-goes g c = λ conf start o.
    wrote_goes conf start _ _ c.args.core.now c.args.lines.now o c.wrote.new.self
    (c.wrote.ensures conf (Asked o.now (Ok (Write c.args.lines.now)) ∷ o.before) o.stands refl)
    (rw c.as_slice.ensures at c.in-Ok.ensures.ok)

pub returns-in-Err-clause-stops : goal.returns-in-Err-clause-stops
returns-in-Err-clause-stops g c = λ conf start o.
    let f = rw c.as_slice.ensures at c.in-Err.ensures.front in
    failed_stops conf start _ _ c.args.core.now c.args.lines.now o f.0 f.1
