use Rattle.std.proofs.Common.{arith, sym, ap, ◌∙◌, rules, take}
use Rattle.std.specs.Cmp.Lexicographic.{other_text}
use Rattle.session_script.specs.Lines.{Says, SaysNothing}
use Rattle.session_script.proofs.Refusals.{full_refused, nothing_refused}
use Rattle.session_script.proofs.Takings.{takes_line}
use Rattle.session_script.proofs.reader.ScriptReader.take_line.Goals as goal

pub returns-then-length-place-clause-answer : goal.returns-then-length-place-clause-answer
returns-then-length-place-clause-answer g c =
    full_refused c.args.self.now.place _ c.args.length c.args.self.now.pending
    (g.S.Source.left c.args.source.now) c.place.ensures.value c.requires.is (omega (arith, c.place.ensures.value, c.if-length-place.true))

pub returns-in-Some-clause-taken : goal.returns-in-Some-clause-taken
returns-in-Some-clause-taken g c =
    let words = c.split_at.ensures.front ∙ ap (take c.args.length) c.bytes.ensures in
    let says : Says c.split_at.result.0.now c.in-Some.event = search rules in
    takes_line c.args.self.now.place c.args.length c.args.self.now.pending c.skip.new.self
    (g.S.Source.left c.args.source.now) c.in-Some.event c.requires.is (rw words at says) c.skip.ensures

pub returns-clause-answer : goal.returns-clause-answer
returns-clause-answer g c =
    let words = c.split_at.ensures.front ∙ ap (take c.args.length) c.bytes.ensures in
    let says : SaysNothing c.split_at.result.0.now = search rules in
    nothing_refused c.args.self.now.place _ c.args.length c.args.self.now.pending
    (g.S.Source.left c.args.source.now) c.place.ensures.value c.requires.is (rw words at says)
    (λ e. other_text c.split_at.result.0.now c.as_slice.result.now c.if-eq.ensures (words ∙ e ∙ sym c.as_slice.ensures))
