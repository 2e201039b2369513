use Rattle.std.proofs.Common.{◌∙◌}
use Rattle.session_script.proofs.Tellings.{missing_lines}
use Rattle.session_script.proofs.telling.put_outcomes.Goals as goal

pub returns-in-Err-clause-err : goal.returns-in-Err-clause-err
returns-in-Err-clause-err c = missing_lines c.args.conf.now.topics c.args.outcomes.now c.loop-outcome.outcome-index c.args.text.now
    c.put_outcome.new.text (c.in-Err.ensures.err ∙ c.loop-outcome.invariant)
