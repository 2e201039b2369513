-- A run that is put behind the others.
use Rattle.std.proofs.Common.{◌≡◌, ℕ, zero, suc, Bool, true, false, cond, List, [], ◌∷◌, ◌++◌, length, get_or, set, refl, ap, ◌∙◌, sym, arith}
use Rattle.std.specs.Prelude.{Result, Ok, Err, IsOk, is_ok, if◌then◌else◌}
use Rattle.share_model.specs.declared.run.Run.{Run}
use Rattle.offset_runs.specs.Parts.{touches, join}

-- the last run `z`, which is read as `x` where it is written
pub push-touching : (xs : List Run) (k : ℕ) (y x z : Run) → length xs ≡ suc k → x ≡ get_or xs k x → z ≡ get_or xs k z → touches z y ≡ true
    → set xs k (record x { last = y.last }) ≡ join xs (y ∷ [])
push-touching [] k y x z count at_x at_z touch = absurd (omega arith)
push-touching (w ∷ []) zero y x z count at_x at_z touch =
    let here : touches w y ≡ true = ap (λ (r : Run). touches r y) (sym at_z) ∙ touch in
    ap (λ (r : Run). (record r { last = y.last }) ∷ []) at_x ∙ ap (λ (b : Bool). cond b ((record w { last = y.last }) ∷ []) (w ∷ y ∷ [])) (sym here)
push-touching (w ∷ []) (suc k) y x z count at_x at_z touch = absurd (omega arith)
push-touching (w ∷ w2 ∷ xs) zero y x z count at_x at_z touch = absurd (omega arith)
push-touching (w ∷ w2 ∷ xs) (suc k) y x z count at_x at_z touch = ap (λ (l : List Run). w ∷ l) (push-touching (w2 ∷ xs) k y x z (omega arith) at_x at_z touch)

pub push-apart : (xs : List Run) (k : ℕ) (y z : Run) → length xs ≡ suc k → z ≡ get_or xs k z → touches z y ≡ false → xs ++ y ∷ [] ≡ join xs (y ∷ [])
push-apart [] k y z count at_z apart = refl
push-apart (w ∷ []) zero y z count at_z apart =
    let here : touches w y ≡ false = ap (λ (r : Run). touches r y) (sym at_z) ∙ apart in
    ap (λ (b : Bool). cond b ((record w { last = y.last }) ∷ []) (w ∷ y ∷ [])) (sym here)
push-apart (w ∷ []) (suc k) y z count at_z apart = absurd (omega arith)
push-apart (w ∷ w2 ∷ xs) zero y z count at_z apart = absurd (omega arith)
push-apart (w ∷ w2 ∷ xs) (suc k) y z count at_z apart = ap (λ (l : List Run). w ∷ l) (push-apart (w2 ∷ xs) k y z (omega arith) at_z apart)

pub push-empty : (xs : List Run) (y : Run) → length xs ≡ 0 → xs ++ y ∷ [] ≡ join xs (y ∷ [])
push-empty [] y count = refl
push-empty (w ∷ xs) y count = absurd (omega arith)

-- a push that didn't fail
pub pushed : {T E : Type 0} (result : Result T E) (new old more : List Run) → IsOk result → new ≡ (if is_ok result then more else old) → new ≡ more
pushed (Ok x) new old more ok e = e
pushed (Err x) new old more ok e = let never : false ≡ true = ok in absurd cc
