-- Reading items one after the other, as a loop does.
use Rattle.std.proofs.Common.{◌≡◌, ℕ, suc, ◌-◌, ◌+◌, ◌≤◌, ◌<◌, List, [], ◌∷◌, ◌++◌, Result, Ok, Err, refl, sym, ap, ◌∙◌, append_assoc, arith}
use Rattle.std.proofs.lemmas.List.{append-nil}
use Rattle.flex_fields.specs.declared.fault.WireFault.{WireFault}
use Rattle.flex_fields.specs.declared.fault.WireFault.TheVariants.{Short, BadVarint, BadLength, NotUtf8, Trailing, NoMemory}
use Rattle.flex_fields.specs.Cursors.{Fails}
use Rattle.flex_fields.specs.Reading.{At, ◌>>=◌, many_at, tag_at, some_tags_at}

-- the two sides say the same where reading failed
pub fails_along : {A B : Type 0} (e : WireFault) (r : Result A WireFault) (s : Result B WireFault)
    → ((f : WireFault) → r ≡ Err f → s ≡ Err f) → Fails e r → Fails e s
fails_along (Short p) r s h f = h (Short p) f
fails_along (BadVarint p) r s h f = h (BadVarint p) f
fails_along (BadLength p) r s h f = h (BadLength p) f
fails_along (NotUtf8 p) r s h f = h (NotUtf8 p) f
fails_along (Trailing p) r s h f = h (Trailing p) f
fails_along NoMemory r s h f = tt

-- what was read before, and what is still read
abbrev pub with_front : {A : Type 0} → List A → Result (List A × At) WireFault → Result (List A × At) WireFault
with_front front read = read >>= λ x. Ok (front ++ x.0, x.1)

regroup : {A : Type 0} (front : List A) (x : A) (read : Result (List A × At) WireFault)
    → with_front front (read >>= λ xs. Ok (x ∷ xs.0, xs.1)) ≡ with_front (front ++ x ∷ []) read
regroup {A} front x (Ok xs) = ap (λ (l : List A). Ok (l, xs.1)) (simp append_assoc)
regroup front x (Err f) = refl

pub many_goes_on : {A : Type 0} (item : At → Result (A × At) WireFault) (front : List A) (count i : ℕ) (at after : At) (x : A)
    (total : Result (List A × At) WireFault) → i < count → item at ≡ Ok (x, after)
    → with_front front (many_at item (count - i) at) ≡ total → with_front (front ++ x ∷ []) (many_at item (count - (i + 1)) after) ≡ total
unfolding many_at
many_goes_on item front count i at after x total lt h so_far =
    let k : count - i ≡ suc (count - (i + 1)) = omega arith in
    let one : with_front front (many_at item (count - i) at) ≡ with_front (front ++ x ∷ []) (many_at item (count - (i + 1)) after) =
    rw (k, h) (regroup front x (many_at item (count - (i + 1)) after)) in
    sym one ∙ so_far

pub many_ends : {A : Type 0} (item : At → Result (A × At) WireFault) (e : WireFault) (front : List A) (count i : ℕ) (at : At)
    (total : Result (List A × At) WireFault) → i < count → Fails e (item at)
    → with_front front (many_at item (count - i) at) ≡ total → Fails e total
unfolding many_at
many_ends item e front count i at total lt fails so_far =
    let k : count - i ≡ suc (count - (i + 1)) = omega arith in
    fails_along e (item at) total (λ f h. let one : with_front front (many_at item (count - i) at) ≡ Err f = rw (k, h) refl in sym so_far ∙ one) fails

pub many_done : {A : Type 0} (item : At → Result (A × At) WireFault) (front : List A) (count i : ℕ) (at : At)
    (total : Result (List A × At) WireFault) → count ≤ i → with_front front (many_at item (count - i) at) ≡ total → total ≡ Ok (front, at)
unfolding many_at
many_done {A} item front count i at total le so_far =
    let k : count - i ≡ 0 = omega arith in
    let one : with_front front (many_at item (count - i) at) ≡ Ok (front, at) = rw k (ap (λ (l : List A). Ok (l, at)) (append-nil front)) in
    sym so_far ∙ one

pub tags_go_on : (count i : ℕ) (at after : At) (total : Result At WireFault) → i < count → tag_at at ≡ Ok after
    → some_tags_at (count - i) at ≡ total → some_tags_at (count - (i + 1)) after ≡ total
unfolding some_tags_at
tags_go_on count i at after total lt h so_far =
    let k : count - i ≡ suc (count - (i + 1)) = omega arith in
    let one : some_tags_at (count - i) at ≡ some_tags_at (count - (i + 1)) after = rw (k, h) refl in
    sym one ∙ so_far

pub tags_end : (e : WireFault) (count i : ℕ) (at : At) (total : Result At WireFault) → i < count → Fails e (tag_at at)
    → some_tags_at (count - i) at ≡ total → Fails e total
unfolding some_tags_at
tags_end e count i at total lt fails so_far =
    let k : count - i ≡ suc (count - (i + 1)) = omega arith in
    fails_along e (tag_at at) total (λ f h. let one : some_tags_at (count - i) at ≡ Err f = rw (k, h) refl in sym so_far ∙ one) fails

pub tags_done : (count i : ℕ) (at : At) (total : Result At WireFault) → count ≤ i → some_tags_at (count - i) at ≡ total → total ≡ Ok at
unfolding some_tags_at
tags_done count i at total le so_far =
    let k : count - i ≡ 0 = omega arith in
    let one : some_tags_at (count - i) at ≡ Ok at = rw k refl in
    sym so_far ∙ one
