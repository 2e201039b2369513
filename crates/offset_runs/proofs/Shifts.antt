-- Runs that are moved within their list.
use Rattle.std.proofs.Common.{◌≡◌, ℕ, suc, ◌+◌, ◌-◌, ◌<◌, ◌≤◌, max, true, false, cond, set, List}
use Rattle.std.proofs.Common.{[], ◌∷◌, ◌++◌, length, get_or, take, drop, refl, ap, ◌∙◌, sym, arith, append_assoc}
use Rattle.std.proofs.lemmas.List.{drop_at, drop-set-lt, length-append, length-drop, length-take, nil_from_length, take_at, take_more_set, take_rest}
use Rattle.std.specs.List.{copy_within, insert}
use Rattle.std.specs.Prelude.{nat_lt}
use Rattle.share_model.specs.declared.run.Run.{Run}
use Rattle.offset_runs.specs.Parts.{end_count, from_on, run_from}

-- what stands there once the runs between two places are gone
pub removed : (xs : List Run) (start end n : ℕ) → start ≤ end → end ≤ length xs → n ≡ length xs - (end - start)
    → take n (copy_within xs end (length xs) start) ≡ take start xs ++ drop end xs
removed xs start end n order within count =
    let back = take (length xs - end) (drop end xs) in
    let at : length (take start xs ++ back) ≡ n =
    omega (arith, length-append (take start xs) back, length-take start xs, length-take (length xs - end) (drop end xs), length-drop end xs) in
    take_at (take start xs ++ back) (drop (start + (length xs - end)) xs) n at ∙ ap (λ (l : List Run). take start xs ++ l) (take_rest xs end)

-- a run takes the place of another, and the others are put behind it
pub put_first : (xs rest : List Run) (x : Run) (start end : ℕ) → start < end → end ≤ length xs
    → take (start + 1) (set xs start x) ++ (rest ++ drop end (set xs start x)) ≡ take start xs ++ ((x ∷ rest) ++ drop end xs)
put_first xs rest x start end order within =
    ap (λ (l : List Run). l ++ (rest ++ drop end (set xs start x))) (take_more_set xs start x (omega (arith)))
    ∙ ap (λ (l : List Run). (take start xs ++ x ∷ []) ++ (rest ++ l)) (drop-set-lt end xs start x order)
    ∙ append_assoc (take start xs) (x ∷ []) (rest ++ drop end xs)

-- a run comes between others, and the rest is put behind it
pub insert_first : (xs rest : List Run) (x : Run) (start end : ℕ) → start ≡ end → end ≤ length xs
    → take (start + 1) (insert xs start x) ++ (rest ++ drop (end + 1) (insert xs start x)) ≡ take start xs ++ ((x ∷ rest) ++ drop end xs)
insert_first xs rest x start end same within =
    let p = take start xs ++ x ∷ [] in
    let parts : insert xs start x ≡ p ++ drop start xs = sym (append_assoc (take start xs) (x ∷ []) (drop start xs)) in
    let at : length p ≡ start + 1 = omega (arith, length-append (take start xs) (x ∷ []), length-take start xs) in
    let at2 : length p ≡ end + 1 = omega (arith, at, same) in
    ap (λ (l : List Run). take (start + 1) l ++ (rest ++ drop (end + 1) l)) parts
    ∙ ap (λ (l : List Run). l ++ (rest ++ drop (end + 1) (p ++ drop start xs))) (take_at p (drop start xs) (start + 1) at)
    ∙ ap (λ (l : List Run). p ++ (rest ++ l)) (drop_at p (drop start xs) (end + 1) at2)
    ∙ append_assoc (take start xs) (x ∷ []) (rest ++ drop start xs)
    ∙ ap (λ (n : ℕ). take start xs ++ ((x ∷ rest) ++ drop n xs)) same

abbrev first_cut : List Run → ℕ → List Run
first_cut [] f = []
first_cut (x ∷ xs) f = run_from x f ∷ xs

from_on-drop : (xs : List Run) (f : ℕ) → first_cut (drop (end_count xs f) xs) f ≡ from_on xs f
from_on-drop [] f = refl
from_on-drop (x ∷ xs) f =
    elim (nat_lt x.last f) as (λ b. first_cut (drop (cond b (suc (end_count xs f)) 0) (x ∷ xs)) f ≡ cond b (from_on xs f) (run_from x f ∷ xs)) [
      | true ↦ from_on-drop xs f
      | false ↦ refl
    ]

-- the first run is read as `z` and written as `x`
cut_set : (zs : List Run) (f m : ℕ) (x z : Run) → z ≡ get_or zs 0 z → x ≡ get_or zs 0 x → m ≡ max z.first f → (length zs ≡ 0 → ⊥) → set zs 0 (record x { first = m }) ≡ first_cut zs f
cut_set [] f m x z at_z at_x max_is some = absurd (some refl)
cut_set (w ∷ zs) f m x z at_z at_x max_is some =
    let first : m ≡ max w.first f = max_is ∙ ap (λ (r : Run). max r.first f) at_z in
    (λ i. (record (at_x i) { first = m }) ∷ zs) ∙ ap (λ (k : ℕ). (record w { first = k }) ∷ zs) first

-- the rest from an offset on, where the first run of it is cut
pub cut_some : (xs front zs : List Run) (f n m : ℕ) (x z : Run) → front ≡ xs → n ≡ end_count front f → zs ≡ drop n xs → z ≡ get_or zs 0 z → x ≡ get_or zs 0 x → m ≡ max z.first f
    → (length zs ≡ 0 → ⊥) → set zs 0 (record x { first = m }) ≡ from_on xs f
cut_some xs front zs f n m x z same count rest at_z at_x max_is some =
    cut_set zs f m x z at_z at_x max_is some ∙ ap (λ (l : List Run). first_cut l f) (rest ∙ ap (λ (k : ℕ). drop k xs) (count ∙ ap (λ (l : List Run). end_count l f) same)) ∙ from_on-drop xs f

-- the rest from an offset on, where nothing is left
pub cut_none : (xs front zs : List Run) (f n : ℕ) → front ≡ xs → n ≡ end_count front f → zs ≡ drop n xs → length zs ≡ 0 → zs ≡ from_on xs f
cut_none xs front zs f n same count rest none =
    nil_from_length zs none ∙ ap (λ (l : List Run). first_cut l f) (sym (nil_from_length zs none))
    ∙ ap (λ (l : List Run). first_cut l f) (rest ∙ ap (λ (k : ℕ). drop k xs) (count ∙ ap (λ (l : List Run). end_count l f) same)) ∙ from_on-drop xs f
