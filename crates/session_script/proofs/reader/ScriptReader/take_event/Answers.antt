use Rattle.std.proofs.Common.{◌≤◌, length, inl, rules}
use Rattle.session_script.specs.Script.{longest_line}
use Rattle.session_script.specs.Lines.{HasNone, IsUnfinished}
use Rattle.session_script.proofs.Refusals.{unfinished_refused}
use Rattle.session_script.proofs.reader.ScriptReader.take_event.Goals as goal

pub returns-in-Ok-None-clause-answer : goal.returns-in-Ok-None-clause-answer
returns-in-Ok-None-clause-answer g c =
    let open_line : IsUnfinished c.line.new.self.pending (g.S.Source.left c.line.new.source) = search rules in
    unfinished_refused c.line.new.self.place _ c.line.new.self.pending (g.S.Source.left c.line.new.source) c.place.ensures.value open_line

pub returns-in-Err-Failed-clause-answer : goal.returns-in-Err-Failed-clause-answer
returns-in-Err-Failed-clause-answer g c =
    let open_line : HasNone 10 c.line.new.self.pending × (length c.line.new.self.pending ≤ longest_line) = search rules in
    inl open_line
