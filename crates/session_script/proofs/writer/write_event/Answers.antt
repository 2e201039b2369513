use Rattle.session_script.proofs.writer.write_event.Goals as goal

pub returns : goal.returns
returns g c = c.write_line.ensures _ c.event_line.ensures
