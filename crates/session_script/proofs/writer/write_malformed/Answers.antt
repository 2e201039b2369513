use Rattle.session_script.proofs.writer.write_malformed.Goals as goal

pub returns : goal.returns
returns g c = c.write_line.ensures _ c.number_line.ensures
