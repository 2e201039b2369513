use Rattle.std.proofs.Common.{◌≡◌, ◌++◌, ◌∙◌, ℕ, List, Ok, sym, ap, subst, arith}
use Rattle.std.proofs.lemmas.Result.{err_from_is_err_and}
use Rattle.flex_fields.specs.Reading.{str_at, many_at}
use Rattle.flex_fields.specs.Writing.{sized_bytes}
use Rattle.msgs_base.specs.Texts.{AreSpelled, texts_in}
use Rattle.msgs_base.proofs.Spelled.{kept, taken_more, taken_fails, taken_spelled, taken_read}
use Rattle.msgs_base.proofs.texts.take_texts.Goals as goal

pub returns-in_err-text : goal.returns-in_err-text
returns-in_err-text c =
    let p = err_from_is_err_and c.from_residual.result c.from_residual.ensures.1 in
    rw (p.1, p.2)
    (taken_fails c.in_err-text.field-0.0 c.args.count c.loop.counter c.args.cursor.now c.loop.cursor c.loop.out c.loop-test.true
    c.in_err-text.ensures.read.0 c.loop.invariant)

pub loop-preserved : goal.loop-preserved
loop-preserved c =
    taken_more c.args.count c.loop.counter c.args.cursor.now c.loop.cursor c.take_str.new.self c.loop.out c.put_str.new.self c.in_ok-text.text
    c.loop-test.true (c.as_str.ensures.few, c.as_str.ensures.utf8) c.in_ok-text.ensures.read
    (c.in-Ok.ensures.ok.appended ∙ ap (λ (text : List ℕ). c.loop.out ++ sized_bytes text) c.as_str.ensures.bytes) c.loop.invariant

pub invariant_of-result : goal.invariant_of-result
invariant_of-result c =
    let all : c.loop.counter ≡ c.args.count = omega (arith, c.loop-test.false, c.loop.auto.counter-end) in
    let here = taken_spelled c.args.count c.loop.counter c.args.cursor.now c.loop.cursor c.loop.out all c.loop.invariant in
    kept c.args.count c.into_bytes.result c.loop.invariant.texts c.requires.few
    (subst (λ (bytes : List ℕ). AreSpelled c.args.count bytes c.loop.invariant.texts) (sym c.into_bytes.ensures) here)

pub returns : goal.returns
returns c =
    let all : c.loop.counter ≡ c.args.count = omega (arith, c.loop-test.false, c.loop.auto.counter-end) in
    subst (λ (bytes : List ℕ). many_at str_at c.args.count c.args.cursor.now ≡ Ok (texts_in c.args.count bytes, c.loop.cursor)) (sym c.into_bytes.ensures)
    (taken_read c.args.count c.loop.counter c.args.cursor.now c.loop.cursor c.loop.out all c.loop.invariant)
