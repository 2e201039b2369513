-- Text that ends with its last gate.
use Rattle.std.proofs.Common.{◌≡◌, ◌<◌, ◌≤◌, ◌+◌, inr, sym, ap, ◌∙◌, arith, ℕ, List, [], ◌∷◌, length, length-append}
use Rattle.gate_journal.specs.Frames.{IsRead, blocks}
use Rattle.gate_journal.specs.Journals.{EndsWithGate}
use Rattle.gate_journal.proofs.Once.{once}

-- is read to its end
pub whole_end : (c : List ℕ) (frames : List (List ℕ)) (len size end : ℕ) → IsRead frames len end c → EndsWithGate c → size ≡ len → (1 < size) × (size ≤ end)
whole_end c frames len size end read w is =
    let r = w.rests in
    let same : frames ≡ w.frames = once c frames w.frames read.stands (inr (r.0, [], r.1, r.2, w.fit)) in
    let long : length c ≡ length (blocks frames) + 1 =
    ap length r.2 ∙ length-append (blocks w.frames) (r.0 ∷ []) ∙ ap (λ (fs : List (List ℕ)). length (blocks fs) + 1) (sym same) in
    (omega (arith, is, read.len_is, w.long), omega (arith, is, long, read.len_is, read.end_is))
