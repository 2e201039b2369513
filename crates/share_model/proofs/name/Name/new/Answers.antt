use Rattle.std.proofs.Common.{arith, ◌∙◌, ap, sym, List, ℕ, ◌++◌, ◌-◌, length, replicate, take, length-append, ◌≡◌, refl}
use Rattle.std.proofs.lemmas.List.{take_at, length-replicate}
use Rattle.std.proofs.lemmas.Bool.{eqb-false}
use Rattle.std.proofs.lemmas.Str.{is_utf8-from_IsUtf8}
use Rattle.std.specs.Str.{is_utf8}
use Rattle.share_model.proofs.name.Name.new.Goals as goal

pub invariant_of-result : goal.invariant_of-result
invariant_of-result c =
    let n = length c.args.text.now in
    let zeros : List ℕ = replicate (255 - n) 0 in
    let all : c.padded.result ≡ c.args.text.now ++ zeros = c.padded.ensures ∙ ap (λ (l : List ℕ). l ++ replicate (255 - length l) 0) c.as_bytes.ensures.value in
    let front : take n c.padded.result ≡ c.args.text.now = ap (λ (l : List ℕ). take n l) all ∙ take_at c.args.text.now zeros n refl in
    let some = eqb-false _ 0 (sym c.if-is_empty.ensures) in (
      record {
        some = omega (arith, some, ap length front);
        few = omega (arith, ap length front);
        utf8 = ap is_utf8 (front ∙ sym c.as_bytes.ensures.value) ∙ is_utf8-from_IsUtf8 c.as_bytes.result.now c.as_bytes.ensures.utf8;
      },
      record {
        few = omega arith;
        room = omega (arith, ap length all, length-append c.args.text.now zeros, length-replicate {A = ℕ} (255 - n) 0);
        zeros = all ∙ ap (λ (l : List ℕ). l ++ zeros) (sym front);
      },
    )
