use Rattle.session_script.proofs.writer.write_damaged.Goals as goal

pub returns : goal.returns
returns g c = c.write_line.ensures _ c.damaged_line.ensures
