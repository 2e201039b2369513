use Rattle.session_script.proofs.Tellings.{failed_lines, told_lines, told_numbers}
use Rattle.session_script.proofs.telling.Telling.tell.Goals as goal

pub returns-in-Lines-clause-told : goal.returns-in-Lines-clause-told
returns-in-Lines-clause-told g c = told_lines c.args.conf.now.topics (g.O.Sink.held c.args.output.now) (g.O.Sink.held c.tell_lines.new.output)
    c.args.self.now c.in-Lines.text c.tell_lines.new.text c.in-Lines.is c.tell_lines.result _ _ c.args.outcomes.now c.tell_lines.ensures.handed

pub returns-in-Lines-clause-write : goal.returns-in-Lines-clause-write
returns-in-Lines-clause-write g c = failed_lines c.args.conf.now.topics (g.O.Sink.held c.args.output.now) (g.O.Sink.held c.tell_lines.new.output)
    c.args.self.now c.in-Lines.text c.tell_lines.new.text c.in-Lines.is c.tell_lines.result _ _ c.args.outcomes.now c.tell_lines.ensures.handed

pub returns-in-Numbers-clause-told : goal.returns-in-Numbers-clause-told
returns-in-Numbers-clause-told g c = told_numbers c.args.conf.now.topics (g.O.Sink.held c.args.output.now) c.args.self.now c.in-Numbers.numbers
    c.tell_numbers.new.numbers c.tell_numbers.result c.args.outcomes.now c.in-Numbers.is c.tell_numbers.ensures.ok
