-- Proof that a client id is read just where bytes stand for it. There is nothing to believe here.
use Rattle.std.proofs.Common.{◌≡◌, ℕ, ℤ, pos, negsuc, zero, suc, ◌+◌, ◌<◌, false, cond, ltb, List, ◌++◌, length, take, Option, Some, None}
use Rattle.std.proofs.Common.{Ok, Err, refl, sym, ap, subst, ◌∙◌, append_assoc, arith, length-append}
use Rattle.std.specs.Int.{w16}
use Rattle.std.specs.Str.{is_utf8}
use Rattle.std.proofs.lemmas.Bool.{ltb-false, le-ltb}
use Rattle.std.proofs.lemmas.List.{take_at, drop_at}
use Rattle.flex_fields.specs.declared.fault.WireFault.TheVariants.{Short, NotUtf8}
use Rattle.flex_fields.specs.Reading.{At, past, int_at}
use Rattle.flex_fields.specs.Grammar.{IsInt}
use Rattle.flex_fields.specs.Laws.{Takes, IsReader}
use Rattle.flex_fields.specs.Sound.Fields.{bind_ok, guard_ok, ok_is, int16_reads}
use Rattle.flex_fields.specs.Sound.Readers.{Takes-then}
use Rattle.flex_fields.specs.Sound.Counted.{kept, took}
use Rattle.req_head.specs.Client.{IsClient, string_at, behind_length, client_at}

abbrev at_place : ℕ → List ℕ → At
at_place place left = record { place = place; left = left }

-- a string behind its length
string_takes : (place n : ℕ) (at : At) (x : Option (List ℕ)) (after : At) (start : At) → Takes start at (λ front. IsInt w16 front (pos n))
    → string_at place n at ≡ Ok (x, after) → Takes start after (λ front. IsClient front x)
string_takes place n at x after start t e =
    let text = take n at.left in
    let g = guard_ok (ltb (length at.left) n) (Short place) (cond (is_utf8 text) (Ok (Some text, past n at)) (Err (NotUtf8 place))) (x, after) e in
    let k = kept (is_utf8 text) (NotUtf8 place) (Some text, past n at) (x, after) g.1 in
    let u = took n at (ltb-false _ _ g.0) in
    subst (λ (y : Option (List ℕ) × At). Takes start y.1 (λ front. IsClient front y.0)) k.1
    (Takes-then {R = λ front. IsClient front (Some text)} start at (past n at) t u (λ f d s w.
    let len : n ≡ length text = sym w.1 ∙ ap length w.0 in
    (f, subst (λ (j : ℕ). IsInt w16 f (pos j)) len s, k.0, ap (λ (l : List ℕ). f ++ l) w.0)))

behind_takes : (place : ℕ) (n : ℤ) (at : At) (x : Option (List ℕ)) (after : At) (start : At) → Takes start at (λ front. IsInt w16 front n)
    → behind_length place n at ≡ Ok (x, after) → Takes start after (λ front. IsClient front x)
behind_takes place (pos n) at x after start t e = string_takes place n at x after start t e
behind_takes place (negsuc zero) at x after start t e =
    subst (λ (y : Option (List ℕ) × At). Takes start y.1 (λ front. IsClient front y.0)) (ok_is (None, at) (x, after) e)
    (record { front = t.front; parts = t.parts; moved = t.moved; spelled = t.spelled })
behind_takes place (negsuc (suc n)) at x after start t e = absurd cc

client_gives : (front tail : List ℕ) (place : ℕ) (x : Option (List ℕ)) → IsClient front x
    → client_at (at_place place (front ++ tail)) ≡ Ok (x, at_place (place + length front) tail)
unfolding client_at
client_gives front tail place None c = rw (int16_reads.gives front tail place (negsuc 0) c) refl
client_gives front tail place (Some text) c =
    let f = c.0 in
    let first = int16_reads.gives f (text ++ tail) place (pos (length text)) c.1 in
    let long : ltb (length (text ++ tail)) (length text) ≡ false = le-ltb _ _ (omega (arith, length-append text tail)) in
    let len : place + length f + length text ≡ place + length (f ++ text) = omega (arith, length-append f text) in
    subst (λ (l : List ℕ). client_at (at_place place (l ++ tail)) ≡ Ok (Some text, at_place (place + length l) tail)) (sym c.3)
    (ap (λ (l : List ℕ). client_at (at_place place l)) (append_assoc f text tail)
    ∙ rw (first, long, take_at text tail (length text) refl, c.2, drop_at text tail (length text) refl)
    (λ i. Ok (Some text, at_place (len i) tail)))

client_some : (front : List ℕ) (x : Option (List ℕ)) → IsClient front x → 0 < length front
client_some front None c = int16_reads.some front (negsuc 0) c
client_some front (Some text) c = omega (arith, ap length c.3, length-append c.0 text, int16_reads.some c.0 (pos (length text)) c.1)

pub client_reads : IsReader IsClient client_at
unfolding client_at
client_reads = record {
  takes = λ at x after fits e.
      let m = bind_ok (int_at w16 at) (λ n. behind_length at.place n.0 n.1) (x, after) e in
      behind_takes at.place m.0.0 m.0.1 x after at (int16_reads.takes at m.0.0 m.0.1 fits m.1) m.2;
  gives = client_gives;
  some = client_some;
}
