use Rattle.std.proofs.Common.{arith}
use Rattle.session_script.proofs.Refusals.{behind_refused}
use Rattle.session_script.proofs.reader.ScriptReader.end.Goals as goal

pub returns-then-pending-gt4-clause-answer : goal.returns-then-pending-gt4-clause-answer
returns-then-pending-gt4-clause-answer g c =
    behind_refused c.args.self.now.place _ c.args.self.now.pending c.requires.is.0 (g.S.Source.left c.args.source.now)
    (omega (arith, c.place-behind.ensures.value)) c.requires.is.1 c.requires.is.2
    (omega (arith, c.pending.ensures, c.if-pending-gt4.true))
