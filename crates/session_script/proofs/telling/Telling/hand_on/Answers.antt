use Rattle.session_script.proofs.Tellings.{front_lines, still_lines}
use Rattle.session_script.proofs.telling.Telling.hand_on.Goals as goal

pub returns-in-Lines-clause-still : goal.returns-in-Lines-clause-still
returns-in-Lines-clause-still g c = still_lines (g.O.Sink.held c.args.output.now) (g.O.Sink.held c.hand_on.new.output) c.args.self.now
    c.in-Lines.text c.hand_on.new.self c.in-Lines.is c.hand_on.result _ _ c.hand_on.ensures.written c.hand_on.ensures.ok

pub returns-in-Lines-clause-front : goal.returns-in-Lines-clause-front
returns-in-Lines-clause-front g c = λ topics start outcomes t.
    front_lines topics (g.O.Sink.held c.args.output.now) (g.O.Sink.held c.hand_on.new.output) c.args.self.now
    c.in-Lines.text c.hand_on.new.self c.in-Lines.is c.hand_on.result _ _ c.hand_on.ensures.written start outcomes t
