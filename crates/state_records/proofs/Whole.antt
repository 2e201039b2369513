-- A whole record: the one spelling of each, and the reader's two laws.
use Rattle.std.proofs.Common.{◌≡◌, ℕ, zero, suc, ◌<◌, ◌^◌, true, cond, List, [], ◌∷◌, ◌++◌, length, Option, Some, None, Result, Ok, Err, refl, sym, ap, subst, ◌∙◌, append-nil, arith}
use Rattle.std.specs.Prelude.{nat_lt, ◌==◌, IfOk}
use Rattle.std.specs.Int.{w64, to_be_bytes}
use Rattle.std.proofs.lemmas.Bool.{eqb-true}
use Rattle.std.proofs.lemmas.List.{nil_from_length}
use Rattle.state_records.specs.declared.fault.RecordFault.{RecordFault}
use Rattle.state_records.specs.declared.record.StateRecord.{StateRecord}
use Rattle.state_records.specs.declared.record.StateRecord.TheVariants.{Snapshot, Update, Removal, Head, Seal}
use Rattle.state_records.specs.Spelling.{key_bytes, version_of, state_bytes, record_bytes, IsRecord}
use Rattle.flex_fields.specs.Reading.{At}
use Rattle.state_records.specs.Reading.{◌>>=◌, Gives, only_at, byte_at, number_at, key_at, state_at, fields_at, record_at, versions}
use Rattle.state_records.proofs.Spells.{IsBytes, bind_ok, guard_then, ok_is, Takes, Takes-then, Again, Spells, only_spells, byte_spells, number_spells, wide64}
use Rattle.state_records.proofs.Stored.{lt_yes, yes_lt}
use Rattle.state_records.proofs.Records.{key_spells, state_spells}

unfoldable pub kind_of : StateRecord → ℕ
kind_of (Snapshot s) = 0
kind_of (Update s) = 1
kind_of (Removal k) = 2
kind_of (Head g) = 3
kind_of Seal = 4

unfoldable pub body_of : StateRecord → List ℕ
body_of (Snapshot s) = state_bytes s
body_of (Update s) = state_bytes s
body_of (Removal k) = key_bytes k
body_of (Head g) = to_be_bytes w64 g
body_of Seal = []

-- the version of a record
unfoldable pub version_in : StateRecord → ℕ
version_in (Snapshot s) = version_of s.complete
version_in (Update s) = version_of s.complete
version_in (Removal k) = 0
version_in (Head g) = 0
version_in Seal = 0

pub version_two : (c : Option ℕ) → version_of c < 2
version_two None = omega arith
version_two (Some n) = omega arith

pub version_low : (r : StateRecord) → version_in r < versions (kind_of r)
unfolding version_in versions kind_of
version_low (Snapshot s) = version_two s.complete
version_low (Update s) = version_two s.complete
version_low (Removal k) = omega arith
version_low (Head g) = omega arith
version_low Seal = omega arith

pub spelled : (r : StateRecord) → record_bytes r ≡ kind_of r ∷ version_in r ∷ body_of r
unfolding kind_of version_in body_of
spelled (Snapshot s) = refl
spelled (Update s) = refl
spelled (Removal k) = refl
spelled (Head g) = refl
spelled Seal = refl

generation_spells : Spells (number_at w64) (to_be_bytes w64) (λ n. n < 2 ^ 64)
generation_spells = number_spells w64 (2 ^ 64) wide64

-- the fields of a record that is read
pub record FieldsTaken (kind version : ℕ) (at : At) (r : StateRecord) (after : At) : Type 0 where
  pub takes : Takes at.left (body_of r) after.left
  pub good : IsRecord r
  pub kind_is : kind_of r ≡ kind
  pub version_is : version_in r ≡ version

-- one version alone
pub only_zero : (version : ℕ) → version < 1 → 0 ≡ version
only_zero zero low = refl
only_zero (suc n) low = absurd (omega (arith, low))

pub fields_take : (kind version : ℕ) (at : At) (r : StateRecord) (after : At) → kind < 5 → version < versions kind → IsBytes at.left
    → fields_at kind version at ≡ Ok (r, after) → FieldsTaken kind version at r after
unfolding fields_at versions kind_of version_in body_of
fields_take zero version at r after low few fits e =
    let a = bind_ok (state_at version at) (λ s. Ok (Snapshot s.0, s.1)) (r, after) e in
    let t = (state_spells version few).takes at a.0.0 a.0.1 fits a.1 in
    let made : StateRecord × At = (Snapshot a.0.0, a.0.1) in
    subst (λ (z : StateRecord × At). FieldsTaken 0 version at z.0 z.1) (ok_is made (r, after) a.2) (record { takes = t.0; good = t.1.0; kind_is = refl; version_is = t.1.1 })
fields_take (suc zero) version at r after low few fits e =
    let a = bind_ok (state_at version at) (λ s. Ok (Update s.0, s.1)) (r, after) e in
    let t = (state_spells version few).takes at a.0.0 a.0.1 fits a.1 in
    let made : StateRecord × At = (Update a.0.0, a.0.1) in
    subst (λ (z : StateRecord × At). FieldsTaken 1 version at z.0 z.1) (ok_is made (r, after) a.2) (record { takes = t.0; good = t.1.0; kind_is = refl; version_is = t.1.1 })
fields_take (suc (suc zero)) version at r after low few fits e =
    let a = bind_ok (key_at at) (λ k. Ok (Removal k.0, k.1)) (r, after) e in
    let t = key_spells.takes at a.0.0 a.0.1 fits a.1 in
    let made : StateRecord × At = (Removal a.0.0, a.0.1) in
    subst (λ (z : StateRecord × At). FieldsTaken 2 version at z.0 z.1) (ok_is made (r, after) a.2)
    (record { takes = t.0; good = t.1; kind_is = refl; version_is = only_zero version few })
fields_take (suc (suc (suc zero))) version at r after low few fits e =
    let a = bind_ok (number_at w64 at) (λ n. Ok (Head n.0, n.1)) (r, after) e in
    let t = generation_spells.takes at a.0.0 a.0.1 fits a.1 in
    let made : StateRecord × At = (Head a.0.0, a.0.1) in
    subst (λ (z : StateRecord × At). FieldsTaken 3 version at z.0 z.1) (ok_is made (r, after) a.2)
    (record { takes = t.0; good = t.1; kind_is = refl; version_is = only_zero version few })
fields_take (suc (suc (suc (suc n)))) version at r after low few fits e =
    let four : 4 ≡ suc (suc (suc (suc n))) = omega (arith, low) in
    let made : StateRecord × At = (Seal, at) in
    subst (λ (z : StateRecord × At). FieldsTaken (suc (suc (suc (suc n)))) version at z.0 z.1) (ok_is made (r, after) e)
    (record { takes = record { parts = refl; rest_fits = fits }; good = tt; kind_is = four; version_is = only_zero version few })

pub fields_again : (r : StateRecord) (at : At) (rest : List ℕ) → IsRecord r → at.left ≡ body_of r ++ rest → Again (fields_at (kind_of r) (version_in r)) at r rest
unfolding fields_at kind_of version_in body_of
fields_again (Snapshot s) at rest good e =
    let g = (state_spells (version_of s.complete) (version_two s.complete)).again at s rest (good, refl) e in
    record { after = g.after; is = rw g.is refl; left = g.left }
fields_again (Update s) at rest good e =
    let g = (state_spells (version_of s.complete) (version_two s.complete)).again at s rest (good, refl) e in
    record { after = g.after; is = rw g.is refl; left = g.left }
fields_again (Removal k) at rest good e = let g = key_spells.again at k rest good e in record { after = g.after; is = rw g.is refl; left = g.left }
fields_again (Head n) at rest good e = let g = generation_spells.again at n rest good e in record { after = g.after; is = rw g.is refl; left = g.left }
fields_again Seal at rest good e = record { after = at; is = refl; left = e }

pub byte_below : (limit : ℕ) → Spells (only_at (λ n. nat_lt n limit) byte_at) (λ b. b ∷ []) (λ b. b < limit)
byte_below limit = only_spells (λ n. nat_lt n limit) byte_at (λ b. b ∷ []) (λ b. Unit {0}) (λ b. b < limit)
    (λ n fits e. lt_yes n limit e) (λ n h. (tt, yes_lt n limit h)) byte_spells

pub record_takes : (bytes : List ℕ) (r : StateRecord) → IsBytes bytes → record_at bytes ≡ Ok r → IsRecord r × (bytes ≡ record_bytes r)
unfolding record_at
record_takes bytes r fits e =
    let start : At = record { place = 0; left = bytes } in
    let a = bind_ok (only_at (λ n. nat_lt n 5) byte_at start)
    (λ kind. only_at (λ n. nat_lt n (versions kind.0)) byte_at kind.1 >>= λ version. fields_at kind.0 version.0 version.1 >>= λ x. cond (length x.1.left == 0) (Ok x.0) (Err x.1.place)) r e in
    let b = bind_ok (only_at (λ n. nat_lt n (versions a.0.0)) byte_at a.0.1)
    (λ version. fields_at a.0.0 version.0 version.1 >>= λ x. cond (length x.1.left == 0) (Ok x.0) (Err x.1.place)) r a.2 in
    let c = bind_ok (fields_at a.0.0 b.0.0 b.0.1) (λ x. cond (length x.1.left == 0) (Ok x.0) (Err x.1.place)) r b.2 in
    let g = guard_then (length c.0.1.left == 0) c.0.1.place (Ok c.0.0) r c.2 in
    let t1 = (byte_below 5).takes start a.0.0 a.0.1 fits a.1 in
    let t2 = (byte_below (versions a.0.0)).takes a.0.1 b.0.0 b.0.1 t1.0.rest_fits b.1 in
    let t3 = fields_take a.0.0 b.0.0 b.0.1 c.0.0 c.0.1 t1.1 t2.1 t2.0.rest_fits c.1 in
    let nothing : c.0.1.left ≡ [] = nil_from_length c.0.1.left (eqb-true _ _ g.0) in
    let e23 = Takes-then a.0.1.left (b.0.0 ∷ []) b.0.1.left (body_of c.0.0) c.0.1.left t2.0 t3.takes in
    let e13 = (Takes-then bytes (a.0.0 ∷ []) a.0.1.left ((b.0.0 ∷ []) ++ body_of c.0.0) c.0.1.left t1.0 e23).parts in
    let whole : bytes ≡ a.0.0 ∷ b.0.0 ∷ body_of c.0.0 =
    e13 ∙ ap (λ (l : List ℕ). (a.0.0 ∷ b.0.0 ∷ body_of c.0.0) ++ l) nothing ∙ append-nil (a.0.0 ∷ b.0.0 ∷ body_of c.0.0) in
    let spelling : bytes ≡ record_bytes c.0.0 = whole ∙ (λ i. sym t3.kind_is i ∷ sym t3.version_is i ∷ body_of c.0.0) ∙ sym (spelled c.0.0) in
    subst (λ (z : StateRecord). IsRecord z × (bytes ≡ record_bytes z)) (ok_is c.0.0 r g.1) (t3.good, spelling)

pub kind_low : (r : StateRecord) → kind_of r < 5
unfolding kind_of
kind_low (Snapshot s) = omega arith
kind_low (Update s) = omega arith
kind_low (Removal k) = omega arith
kind_low (Head g) = omega arith
kind_low Seal = omega arith

pub record_again : (r : StateRecord) → IsRecord r → record_at (record_bytes r) ≡ Ok r
unfolding record_at
record_again r good =
    let start : At = record { place = 0; left = record_bytes r } in
    let g1 = (byte_below 5).again start (kind_of r) (version_in r ∷ body_of r) (kind_low r) (spelled r) in
    let g2 = (byte_below (versions (kind_of r))).again g1.after (version_in r) (body_of r) (version_low r) g1.left in
    let g3 = fields_again r g2.after [] good (g2.left ∙ sym (append-nil (body_of r))) in
    let none : (length g3.after.left == 0) ≡ true = ap (λ (l : List ℕ). length l == 0) g3.left in
    rw (g1.is, g2.is, g3.is, none) refl

pub is_found : (bytes : List ℕ) (r : Result StateRecord RecordFault) → IsBytes bytes → Gives (λ x. x) r (record_at bytes) → IfOk r (λ x. IsRecord x × (bytes ≡ record_bytes x))
is_found bytes (Ok r) fits given = record_takes bytes r fits given
is_found bytes (Err e) fits given = tt

-- records with the same bytes are one
pub one_record : (r s : StateRecord) → IsRecord r → IsRecord s → record_bytes r ≡ record_bytes s → r ≡ s
one_record r s good_r good_s same = ok_is r s (sym (record_again r good_r) ∙ ap record_at same ∙ record_again s good_s)
