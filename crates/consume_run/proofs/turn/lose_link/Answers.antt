use Rattle.std.proofs.Common.{◌∷◌, sym, ◌∙◌}
use Rattle.share_client.specs.Traces.Call.{Lost}
use Rattle.consume_run.proofs.Turning.{lost_goes, lost_stops, on_none}
use Rattle.consume_run.proofs.turn.lose_link.Goals as goal

pub returns-clause-goes : goal.returns-clause-goes
returns-clause-goes g c = on_none c.take_link.result (λ conf start held p.
    let s = c.lost.ensures conf p.trace p.stands in
    lost_goes conf start held c.args.core.now c.lost.new.self c.args.on p s
    (sym (c.unacknowledged.ensures conf (Lost c.args.on ∷ p.trace) s) ∙ c.if-unacknowledged.false))

pub returns-then-unacknowledged-clause-stops : goal.returns-then-unacknowledged-clause-stops
returns-then-unacknowledged-clause-stops g c = λ conf start held p.
    let s = c.lost.ensures conf p.trace p.stands in
    lost_stops conf start held c.args.core.now c.lost.new.self c.args.on p s
    (sym (c.unacknowledged.ensures conf (Lost c.args.on ∷ p.trace) s) ∙ c.if-unacknowledged.true)
