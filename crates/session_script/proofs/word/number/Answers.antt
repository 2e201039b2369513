use Rattle.std.proofs.Common.{◌≡◌, sym, ap, ◌∙◌, arith}
use Rattle.std.specs.Fmt.{decimal}
use Rattle.std.proofs.lemmas.Fmt.{parse-decimal}
use Rattle.std.specs.Cmp.Lexicographic.{other_text}
use Rattle.session_script.proofs.word.number.Goals as goal

pub returns-in_default : goal.returns-in_default
returns-in_default c =
    λ n p. c.in_default.not-Ok n (parse-decimal 64 n c.args.word.now c.parse.result (omega (arith, p.0)) (omega (arith, p.0)) p.1 c.parse.ensures.value.0)

pub returns-then-number-limit : goal.returns-then-number-limit
returns-then-number-limit c = λ n p.
    let e = parse-decimal 64 n c.args.word.now c.parse.result (omega (arith, p.0)) (omega (arith, p.0)) p.1 c.parse.ensures.value.0 in
    let f : c.in-Ok.number ≡ n = cc (e, c.in-Ok.is) in
    absurd (omega (arith, p.0, f))

pub returns-else-eq : goal.returns-else-eq
returns-else-eq c = λ n p.
    let e = parse-decimal 64 n c.args.word.now c.parse.result (omega (arith, p.0)) (omega (arith, p.0)) p.1 c.parse.ensures.value.0 in
    let f : c.in-Ok.number ≡ n = cc (e, c.in-Ok.is) in
    absurd (other_text c.format.result.now c.args.word.now c.if-eq.ensures (c.format.ensures.text ∙ ap decimal f ∙ sym p.1))
