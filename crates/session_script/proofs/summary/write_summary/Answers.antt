use Rattle.session_script.proofs.summary.write_summary.Goals as goal

pub returns : goal.returns
returns g c = c.write_line.ensures _ c.summary_line.ensures
