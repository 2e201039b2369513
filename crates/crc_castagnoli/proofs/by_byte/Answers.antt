use Rattle.std.proofs.Common.{◌≡◌, ℕ, [], ◌+◌, ◌/◌, ◌<◌, ◌∷◌, length, get_or, drop, refl, sym, ap, ◌∙◌, add-one, arith}
use Rattle.std.proofs.Math.Seq.{drop-cons}
use Rattle.std.proofs.lemmas.List.{drop_all}
use Rattle.std.proofs.lemmas.Nat.{and_mask}
use Rattle.std.specs.Int.Bits.{bit_xor}
use Rattle.crc_castagnoli.specs.Division.{remainder_after, bits_of, steps}
use Rattle.crc_castagnoli.proofs.Bytes.{remainder_after-byte, steps-next}
use Rattle.crc_castagnoli.proofs.by_byte.Goals as goal

pub loop-byte-preserved : goal.loop-byte-preserved
loop-byte-preserved c =
    let i : ℕ = c.loop-byte.byte-index in
    let bytes = c.args.bytes.now in
    let byte : ℕ = get_or bytes i 0 in
    let left : ℕ = c.loop-byte.left in
    let next : bit_xor c.byte_steps.result (left / 256) ≡ steps 8 (bit_xor left byte) =
    ap (λ (x : ℕ). bit_xor x (left / 256)) (c.byte_steps.ensures
    ∙ ap (λ (x : ℕ). steps 8 (bit_xor x byte)) (and_mask left 8))
    ∙ sym (steps-next left byte (omega (arith, c.type_inv.bytes i))) in
    let within : i < length bytes = omega arith in
    let front : drop i bytes ≡ byte ∷ drop (i + 1) bytes = rw (add-one, drop-cons bytes i 0) refl in
    ap (λ (x : ℕ). remainder_after x (bits_of (drop (i + 1) bytes))) next
    ∙ sym (remainder_after-byte left byte (drop (i + 1) bytes) (omega (arith, c.type_inv.bytes i)))
    ∙ sym (ap (λ xs. remainder_after left (bits_of xs)) front)
    ∙ c.loop-byte.invariant

pub returns : goal.returns
unfolding remainder_after bits_of
returns c =
    let none : drop c.loop-byte.byte-index c.args.bytes.now ≡ [] = drop_all c.loop-byte.byte-index c.args.bytes.now (omega arith) in
    sym (ap (λ xs. remainder_after c.loop-byte.left (bits_of xs)) none) ∙ c.loop-byte.invariant
