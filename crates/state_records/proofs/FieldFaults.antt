-- How readers of single fields fail: at the field's first byte.
use Rattle.std.proofs.Common.{◌≡◌, ℕ, suc, ◌+◌, ◌≤◌, Bool, true, false, cond, inl, inr, List, ◌∷◌, [], length, take, drop, Option, Some, None}
use Rattle.std.proofs.Common.{Result, Ok, Err, sym, ap, subst, ◌∙◌, arith}
use Rattle.std.specs.Prelude.{nat_lt}
use Rattle.std.specs.Int.{Width, byte_len, from_be_bytes}
use Rattle.std.proofs.lemmas.Bool.{ltb-false}
use Rattle.std.proofs.lemmas.List.{take-append-drop, length-append, length-take}
use Rattle.flex_fields.specs.Reading.{At, past}
use Rattle.state_records.specs.Reading.{◌>>=◌, as_at, only_at, byte_in, byte_at, raw_at, number_at, found_at, is_name, name_at}
use Rattle.std.specs.Int.{w16}
use Rattle.state_records.proofs.Spells.{bind_ok, guard_else, guard_then, ok_is, found_ok}
use Rattle.state_records.proofs.Stored.{test_of}
use Rattle.state_records.proofs.Begins.{bind_err}

-- a reader fails at the place where it stands
abbrev pub FailsHere : {A : Type 0} → (At → Result (A × At) ℕ) → Type 0
FailsHere read = (at : At) (place : ℕ) → read at ≡ Err place → place ≡ at.place

-- a reader moves by what it takes
abbrev pub Moving : {A : Type 0} → (At → Result (A × At) ℕ) → Type 0
Moving {A} read = (at : At) (x : A) (after : At) → read at ≡ Ok (x, after) → after.place + length after.left ≡ at.place + length at.left

err_else : {A : Type 0} (b : Bool) (d : ℕ) (x : A) (place : ℕ) → cond b (Err d) (Ok x) ≡ Err place → place ≡ d
err_else true d x place e = let same : d ≡ place = cc in sym same
err_else false d x place e = absurd cc

err_then : {A : Type 0} (b : Bool) (d : ℕ) (x : A) (place : ℕ) → cond b (Ok x) (Err d) ≡ Err place → place ≡ d
err_then true d x place e = absurd cc
err_then false d x place e = let same : d ≡ place = cc in sym same

past_moves : (k : ℕ) (at : At) → k ≤ length at.left → at.place + k + length (drop k at.left) ≡ at.place + length at.left
past_moves k at le = omega (arith, ap length (take-append-drop k at.left), length-append (take k at.left) (drop k at.left), length-take k at.left)

pub number_here : (w : Width) → FailsHere (number_at w)
number_here w at place e = err_else (nat_lt (length at.left) (byte_len w)) at.place (from_be_bytes w (take (byte_len w) at.left), past (byte_len w) at) place e

pub number_moves : (w : Width) → Moving (number_at w)
number_moves w at x after e =
    let whole : ℕ × At = (from_be_bytes w (take (byte_len w) at.left), past (byte_len w) at) in
    let g = guard_else (nat_lt (length at.left) (byte_len w)) at.place (Ok whole) (x, after) e in
    let long : byte_len w ≤ length at.left = ltb-false _ _ g.0 in
    subst (λ (z : At). z.place + length z.left ≡ at.place + length at.left) (ap (λ (z : ℕ × At). z.1) (ok_is whole (x, after) g.1)) (past_moves (byte_len w) at long)

pub raw_here : (n : ℕ) → FailsHere (raw_at n)
raw_here n at place e = err_else (nat_lt (length at.left) n) at.place (take n at.left, past n at) place e

pub raw_moves : (n : ℕ) → Moving (raw_at n)
raw_moves n at x after e =
    let whole : List ℕ × At = (take n at.left, past n at) in
    let g = guard_else (nat_lt (length at.left) n) at.place (Ok whole) (x, after) e in
    let long : n ≤ length at.left = ltb-false _ _ g.0 in
    subst (λ (z : At). z.place + length z.left ≡ at.place + length at.left) (ap (λ (z : List ℕ × At). z.1) (ok_is whole (x, after) g.1)) (past_moves n at long)

pub only_here : {A : Type 0} (test : A → Bool) (read : At → Result (A × At) ℕ) → FailsHere read → FailsHere (only_at test read)
only_here {A} test read here at place e = elim (bind_err (read at) (λ x. cond (test x.0) (Ok x) (Err at.place)) place e) [
  | inl h ↦ here at place h
  | inr h ↦ err_then (test h.0.0) at.place h.0 place h.2
]

pub only_moves : {A : Type 0} (test : A → Bool) (read : At → Result (A × At) ℕ) → Moving read → Moving (only_at test read)
only_moves {A} test read moves at x after e = moves at x after (test_of test read at x after e).1

pub as_here : {A B : Type 0} (f : A → B) (read : At → Result (A × At) ℕ) → FailsHere read → FailsHere (as_at f read)
as_here {A} {B} f read here at place e = elim (bind_err (read at) (λ x. Ok (f x.0, x.1)) place e) [
  | inl h ↦ here at place h
  | inr h ↦ absurd cc
]

pub as_moves : {A B : Type 0} (f : A → B) (read : At → Result (A × At) ℕ) → Moving read → Moving (as_at f read)
as_moves {A} {B} f read moves at y after e =
    let a = bind_ok (read at) (λ x. Ok (f x.0, x.1)) (y, after) e in
    let whole : B × At = (f a.0.0, a.0.1) in
    subst (λ (z : At). z.place + length z.left ≡ at.place + length at.left) (ap (λ (z : B × At). z.1) (ok_is whole (y, after) a.2)) (moves at a.0.0 a.0.1 a.1)

found_err : {A : Type 0} (d : ℕ) (o : Option A) (at : At) (place : ℕ) → found_at d o at ≡ Err place → place ≡ d
found_err d None at place e = let same : d ≡ place = cc in sym same
found_err d (Some x) at place e = absurd cc

pub found_here : {A : Type 0} (decode : ℕ → Option A) (read : At → Result (ℕ × At) ℕ) → FailsHere read → FailsHere (λ at. read at >>= λ n. found_at at.place (decode n.0) n.1)
found_here {A} decode read here at place e = elim (bind_err (read at) (λ n. found_at at.place (decode n.0) n.1) place e) [
  | inl h ↦ here at place h
  | inr h ↦ found_err at.place (decode h.0.0) h.0.1 place h.2
]

pub found_moves : {A : Type 0} (decode : ℕ → Option A) (read : At → Result (ℕ × At) ℕ) → Moving read → Moving (λ at. read at >>= λ n. found_at at.place (decode n.0) n.1)
found_moves {A} decode read moves at x after e =
    let a = bind_ok (read at) (λ n. found_at at.place (decode n.0) n.1) (x, after) e in
    let f = found_ok at.place (decode a.0.0) a.0.1 x after a.2 in
    subst (λ (z : At). z.place + length z.left ≡ at.place + length at.left) f.1 (moves at a.0.0 a.0.1 a.1)

byte_err : (d : ℕ) (left : List ℕ) (place : ℕ) → byte_in d left ≡ Err place → place ≡ d
byte_err d [] place e = let same : d ≡ place = cc in sym same
byte_err d (b ∷ left) place e = absurd cc

pub byte_here : FailsHere byte_at
byte_here at place e = elim (bind_err (byte_in at.place at.left) (λ b. Ok (b.0, record { place = at.place + 1; left = b.1 })) place e) [
  | inl h ↦ byte_err at.place at.left place h
  | inr h ↦ absurd cc
]

byte_taken : (d : ℕ) (left : List ℕ) (b : ℕ × List ℕ) → byte_in d left ≡ Ok b → length left ≡ suc (length b.1)
byte_taken d [] b e = absurd cc
byte_taken d (c ∷ left) b e = let whole : ℕ × List ℕ = (c, left) in ap (λ (z : ℕ × List ℕ). suc (length z.1)) (ok_is whole b e)

pub byte_moves : Moving byte_at
byte_moves at x after e =
    let a = bind_ok (byte_in at.place at.left) (λ b. Ok (b.0, record { place = at.place + 1; left = b.1 })) (x, after) e in
    let whole : ℕ × At = (a.0.0, record { place = at.place + 1; left = a.0.1 }) in
    let taken : at.place + 1 + length a.0.1 ≡ at.place + length at.left = omega (arith, byte_taken at.place at.left a.0 a.1) in
    subst (λ (z : At). z.place + length z.left ≡ at.place + length at.left) (ap (λ (z : ℕ × At). z.1) (ok_is whole (x, after) a.2)) taken

name_rest : ℕ → ℕ × At → Result (List ℕ × At) ℕ
name_rest place n = cond (nat_lt (length n.1.left) n.0) (Err place) (cond (is_name (take n.0 n.1.left)) (Ok (take n.0 n.1.left, past n.0 n.1)) (Err place))

err_two : {A : Type 0} (b c : Bool) (d : ℕ) (x : A) (place : ℕ) → cond b (Err d) (cond c (Ok x) (Err d)) ≡ Err place → place ≡ d
err_two true c d x place e = let same : d ≡ place = cc in sym same
err_two false c d x place e = err_then c d x place e

pub name_here : FailsHere name_at
unfolding name_at name_rest
name_here at place e = elim (bind_err (number_at w16 at) (name_rest at.place) place e) [
  | inl h ↦ number_here w16 at place h
  | inr h ↦ err_two (nat_lt (length h.0.1.left) h.0.0) (is_name (take h.0.0 h.0.1.left)) at.place (take h.0.0 h.0.1.left, past h.0.0 h.0.1) place h.2
]

pub name_moves : Moving name_at
unfolding name_at name_rest
name_moves at x after e =
    let a = bind_ok (number_at w16 at) (name_rest at.place) (x, after) e in
    let n = a.0.0 in
    let rest = a.0.1 in
    let whole : List ℕ × At = (take n rest.left, past n rest) in
    let g = guard_else (nat_lt (length rest.left) n) at.place (cond (is_name (take n rest.left)) (Ok whole) (Err at.place)) (x, after) a.2 in
    let h = guard_then (is_name (take n rest.left)) at.place (Ok whole) (x, after) g.1 in
    let long : n ≤ length rest.left = ltb-false _ _ g.0 in
    let one = number_moves w16 at n rest a.1 in
    subst (λ (z : At). z.place + length z.left ≡ at.place + length at.left) (ap (λ (z : List ℕ × At). z.1) (ok_is whole (x, after) h.1)) (past_moves n rest long ∙ one)
