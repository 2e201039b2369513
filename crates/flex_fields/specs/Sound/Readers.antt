-- What is made of readers is a reader.
use Rattle.std.proofs.Common.{◌≡◌, ℕ, ◌+◌, ◌<◌, ◌≤◌, List, [], ◌∷◌, ◌++◌, length, take, Result, Ok, refl, sym, ap, subst, ◌∙◌, append_assoc}
use Rattle.std.proofs.Common.{arith, length-append}
use Rattle.std.proofs.lemmas.List.{drop_at, take-append-drop, length-take}
use Rattle.flex_fields.specs.declared.fault.WireFault.{WireFault}
use Rattle.flex_fields.specs.Reading.{At, past, ◌>>=◌, limit, groups_at, uvarint_at, long_uvarint_at, bool_at, bool_of, varint_at}
use Rattle.flex_fields.specs.Reading.{varlong_at, unzigzag, then_at, as_at}
use Rattle.flex_fields.specs.Grammar.{IsGroups, IsUvarint, IsLongUvarint, IsBool, IsVarint, IsVarlong, Then, As}
use Rattle.flex_fields.specs.Laws.{Takes, IsReader}
use Rattle.flex_fields.specs.Sound.Fields.{bind_ok, ok_is, IsBytes-rest, groups_take, groups_give, raw_reads}

abbrev at_place : ℕ → List ℕ → At
at_place place left = record { place = place; left = left }

groups_some : (bytes : List ℕ) (n : ℕ) → IsGroups bytes n → 0 < length bytes
groups_some [] n s = absurd s
groups_some (b ∷ bytes) n s = omega arith

-- numbers in groups, up to a limit
groups_reads : (top more : ℕ) → top < 128
    → IsReader (λ bytes n. IsGroups bytes n × (length bytes ≤ more + 1) × (n < limit top more))
    (λ at. groups_at at.place top more at.left >>= λ n. Ok (n.0, past n.1 at))
groups_reads top more low = record {
  takes = λ at x after fits e.
      let r = bind_ok (groups_at at.place top more at.left) (λ n. Ok (n.0, past n.1 at)) (x, after) e in
      let t = groups_take at.place top more at.left r.0.0 r.0.1 low fits r.1 in
      let len : length (take r.0.1 at.left) ≡ r.0.1 = omega (arith, length-take r.0.1 at.left, t.within) in
      subst (λ (p : ℕ × At). Takes at p.1 (λ front. IsGroups front p.0 × (length front ≤ more + 1) × (p.0 < limit top more)))
      (ok_is (r.0.0, past r.0.1 at) (x, after) r.2) (record {
        front = take r.0.1 at.left;
        parts = sym (take-append-drop r.0.1 at.left);
        moved = ap (λ (k : ℕ). at.place + k) (sym len);
        spelled = (t.spelled, omega (arith, len, t.few), t.small);
      });
  gives = λ front tail place x s.
      let g = groups_give place top more front tail x s.0 s.1 s.2 in
      rw (g, drop_at front tail (length front) refl) refl;
  some = λ front x s. groups_some front x s.0;
}

pub uvarint_reads : IsReader IsUvarint uvarint_at
unfolding uvarint_at
uvarint_reads = groups_reads 15 4 (omega arith)

pub long_uvarint_reads : IsReader IsLongUvarint long_uvarint_at
unfolding long_uvarint_at
long_uvarint_reads = groups_reads 1 9 (omega arith)

-- a front of a front
pub Takes-then : {P Q R : List ℕ → Type 0} (a b c : At) (p : Takes a b P) (q : Takes b c Q) → ((x y : List ℕ) → P x → Q y → R (x ++ y)) → Takes a c R
Takes-then a b c p q both = record {
  front = p.front ++ q.front;
  parts = p.parts ∙ ap (λ (l : List ℕ). p.front ++ l) q.parts ∙ sym (append_assoc p.front q.front c.left);
  moved = omega (arith, p.moved, q.moved, length-append p.front q.front);
  spelled = both p.front q.front p.spelled q.spelled;
}

-- where two parts follow one another, the second is read after the first
pub gives_then : {A B : Type 0} (first : At → Result (A × At) WireFault) (second : At → Result (B × At) WireFault) (f g tail : List ℕ)
    (place : ℕ) (a : A) (b : B)
    → first (at_place place (f ++ (g ++ tail))) ≡ Ok (a, at_place (place + length f) (g ++ tail))
    → second (at_place (place + length f) (g ++ tail)) ≡ Ok (b, at_place (place + length f + length g) tail)
    → then_at first second (at_place place ((f ++ g) ++ tail)) ≡ Ok ((a, b), at_place (place + length (f ++ g)) tail)
gives_then {A} {B} first second f g tail place a b p q =
    let len : place + length f + length g ≡ place + length (f ++ g) = omega (arith, length-append f g) in
    ap (λ (l : List ℕ). then_at first second (at_place place l)) (append_assoc f g tail) ∙ rw (p, q) (λ i. Ok ((a, b), at_place (len i) tail))

pub then_reads : {A B : Type 0} (P : List ℕ → A → Type 0) (Q : List ℕ → B → Type 0) (r : At → Result (A × At) WireFault)
    (s : At → Result (B × At) WireFault) → IsReader P r → IsReader Q s → IsReader (Then P Q) (then_at r s)
then_reads {A} {B} P Q r s p q = record {
  takes = λ at x after fits e.
      let m = bind_ok (r at) (λ a. s a.1 >>= λ b. Ok ((a.0, b.0), b.1)) (x, after) e in
      let n = bind_ok (s m.0.1) (λ b. Ok ((m.0.0, b.0), b.1)) (x, after) m.2 in
      let t = p.takes at m.0.0 m.0.1 fits m.1 in
      let u = q.takes m.0.1 n.0.0 n.0.1 (IsBytes-rest at m.0.1 _ fits t) n.1 in
      subst (λ (y : (A × B) × At). Takes at y.1 (λ front. Then P Q front y.0)) (ok_is ((m.0.0, n.0.0), n.0.1) (x, after) n.2)
      (Takes-then at m.0.1 n.0.1 t u (λ f g h k. (f, g, h, k, refl)));
  gives = λ front tail place x c.
      subst (λ (f : List ℕ). then_at r s (at_place place (f ++ tail)) ≡ Ok (x, at_place (place + length f) tail)) (sym c.4)
      (gives_then r s c.0 c.1 tail place x.0 x.1 (p.gives c.0 (c.1 ++ tail) place x.0 c.2) (q.gives c.1 tail (place + length c.0) x.1 c.3));
  some = λ front x c. omega (arith, ap length c.4, length-append c.0 c.1, p.some c.0 x.0 c.2);
}

pub as_reads : {A B : Type 0} (f : A → B) (P : List ℕ → A → Type 0) (r : At → Result (A × At) WireFault) → IsReader P r
    → IsReader (As f P) (as_at f r)
as_reads {A} {B} f P r p = record {
  takes = λ at x after fits e.
      let m = bind_ok (r at) (λ a. Ok (f a.0, a.1)) (x, after) e in
      let t = p.takes at m.0.0 m.0.1 fits m.1 in
      subst (λ (y : B × At). Takes at y.1 (λ front. As f P front y.0)) (ok_is (f m.0.0, m.0.1) (x, after) m.2)
      (record { front = t.front; parts = t.parts; moved = t.moved; spelled = (m.0.0, t.spelled, refl) });
  gives = λ front tail place x c. rw (p.gives front tail place c.0 c.1) (λ i. Ok (c.2 i, at_place (place + length front) tail));
  some = λ front x c. p.some front c.0 c.1;
}

pub bool_reads : IsReader IsBool bool_at
unfolding bool_at
bool_reads = as_reads bool_of _ _ (raw_reads 1 (omega arith))

pub varint_reads : IsReader IsVarint varint_at
unfolding varint_at
varint_reads = as_reads unzigzag _ _ uvarint_reads

pub varlong_reads : IsReader IsVarlong varlong_at
unfolding varlong_at
varlong_reads = as_reads unzigzag _ _ long_uvarint_reads
