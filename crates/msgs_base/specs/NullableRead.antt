-- Proof that what is never null is read just where bytes stand for it. There is nothing to believe here.
use Rattle.std.proofs.Common.{◌≡◌, ◌+◌, ◌<◌, ℕ, List, ◌++◌, length, Result, Ok, Option, Some, None, refl, subst}
use Rattle.flex_fields.specs.declared.fault.WireFault.{WireFault}
use Rattle.flex_fields.specs.Reading.{At, as_at}
use Rattle.flex_fields.specs.Laws.{Takes, IsReader}
use Rattle.flex_fields.specs.Sound.Fields.{bind_ok, ok_is}

abbrev pub IsSome : {A : Type 0} → (List ℕ → A → Type 0) → List ℕ → Option A → Type 0
IsSome P bytes (Some x) = P bytes x
IsSome P bytes None = ⊥

abbrev at_place : ℕ → List ℕ → At
at_place place left = record { place = place; left = left }

module _ {A : Type 0} (P : List ℕ → A → Type 0) (r : At → Result (A × At) WireFault) (p : IsReader P r) where
  some_gives : (front tail : List ℕ) (place : ℕ) (x : Option A) → IsSome P front x
      → as_at Some r (at_place place (front ++ tail)) ≡ Ok (x, at_place (place + length front) tail)
  some_gives front tail place (Some x) c = rw (p.gives front tail place x c) refl
  some_gives front tail place None c = absurd c

  some_long : (front : List ℕ) (x : Option A) → IsSome P front x → 0 < length front
  some_long front (Some x) c = p.some front x c
  some_long front None c = absurd c

  pub some_reads : IsReader (IsSome P) (as_at Some r)
  some_reads = record {
    takes = λ at x after fits e.
        let m = bind_ok (r at) (λ a. Ok (Some a.0, a.1)) (x, after) e in
        let t = p.takes at m.0.0 m.0.1 fits m.1 in
        subst (λ (y : Option A × At). Takes at y.1 (λ front. IsSome P front y.0)) (ok_is (Some m.0.0, m.0.1) (x, after) m.2)
        (record { front = t.front; parts = t.parts; moved = t.moved; spelled = t.spelled });
    gives = some_gives;
    some = some_long;
  }
