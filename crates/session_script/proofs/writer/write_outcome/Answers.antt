use Rattle.session_script.proofs.writer.write_outcome.Goals as goal

pub returns : goal.returns
returns g c = c.write_line.ensures _ c.outcome_line.ensures
