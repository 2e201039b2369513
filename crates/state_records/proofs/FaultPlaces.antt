-- Where a record is wrong: the bytes before its first fault begin some record, and no record has the field there.
use Rattle.std.proofs.Common.{◌≡◌, ℕ, zero, suc, ◌+◌, ◌-◌, ◌^◌, ◌<◌, ◌≤◌, ◌⊎◌, inl, inr, Bool, true, false, cond, List, [], ◌∷◌, ◌++◌}
use Rattle.std.proofs.Common.{length, take, Result, Ok, Err, refl, sym, ap, subst, ◌∙◌, append_assoc, append-nil, arith}
use Rattle.std.specs.Prelude.{nat_lt, ◌==◌}
use Rattle.std.specs.Int.{w64, to_be_bytes}
use Rattle.std.specs.List.{AllByRecursion}
use Rattle.std.proofs.lemmas.List.{length-append}
use Rattle.state_records.specs.declared.record.StateRecord.{StateRecord}
use Rattle.state_records.specs.declared.record.StateRecord.TheVariants.{Snapshot, Update, Removal, Head, Seal}
use Rattle.state_records.specs.States.{StateParts, IsKey, IsState}
use Rattle.state_records.specs.Spelling.{key_bytes, version_of, counted_state, state_bytes, record_bytes, IsRecord}
use Rattle.state_records.specs.Faults.{runs_of, counted_bytes, IsFieldIn, body_sizes, IsField, Begins, IsWrongAt}
use Rattle.flex_fields.specs.Reading.{At}
use Rattle.state_records.specs.Reading.{◌>>=◌, only_at, byte_at, number_at, key_at, state_at, fields_at, record_at, versions}
use Rattle.state_records.proofs.Spells.{IsBytes, ok_is}
use Rattle.state_records.proofs.Whole.{kind_of, version_in, version_two, version_low, body_of, spelled, only_zero, fields_take, fields_again, byte_below, kind_low}
use Rattle.state_records.proofs.Begins.{bind_err, not_both, agrees, take-behind, Front}
use Rattle.state_records.proofs.FieldFaults.{Moving, only_here, only_moves, as_moves, byte_here, byte_moves}
use Rattle.state_records.proofs.RecordFaults.{IsCounted, key_fails, key_inside, state_good, state_shown, state_fails, state_inside, of_state_field, of_key_field}
use Rattle.state_records.proofs.RecordFaults.{snapshot_fails, snapshot_inside, of_number_field}

all_bytes : (bytes : List ℕ) → AllByRecursion (λ b. b < 256) bytes → IsBytes bytes
all_bytes [] h i = omega arith
all_bytes (b ∷ bytes) h zero = h.0
all_bytes (b ∷ bytes) h (suc i) = all_bytes bytes h.1 i

-- ---- the fields behind the kind and the version

counted_body : ℕ → StateRecord → List ℕ
counted_body count (Snapshot s) = counted_state count s
counted_body count (Update s) = counted_state count s
counted_body count (Removal k) = key_bytes k
counted_body count (Head g) = to_be_bytes w64 g
counted_body count Seal = []

counted_is : (count : ℕ) (r : StateRecord) → counted_bytes count r ≡ kind_of r ∷ version_in r ∷ counted_body count r
unfolding counted_body kind_of version_in
counted_is count (Snapshot s) = refl
counted_is count (Update s) = refl
counted_is count (Removal k) = refl
counted_is count (Head g) = refl
counted_is count Seal = refl

own_count : (r : StateRecord) → counted_bytes (length (runs_of r)) r ≡ record_bytes r
own_count (Snapshot s) = refl
own_count (Update s) = refl
own_count (Removal k) = refl
own_count (Head g) = refl
own_count Seal = refl

abbrev Shown : Type 0
Shown = StateRecord × ℕ

abbrev shown : Shown → List ℕ
shown x = counted_body x.1 x.0

abbrev Good : ℕ → ℕ → Shown → Type 0
Good kind version x = IsRecord x.0 × (IsCounted x.1 (runs_of x.0) × ((kind_of x.0 ≡ kind) × (version_in x.0 ≡ version)))

seen_by : {A B : Type 0} (f : A → B) → A × At → Result (B × At) ℕ
seen_by f x = Ok (f x.0, x.1)

as_err : {A B : Type 0} (f : A → B) (read : Result (A × At) ℕ) (place : ℕ) → (read >>= seen_by f) ≡ Err place → read ≡ Err place
unfolding seen_by
as_err {A} {B} f read place e = elim (bind_err read (seen_by f) place e) [
  | inl h ↦ h
  | inr h ↦ absurd cc
]

removal_front : (version : ℕ) (at : At) (place : ℕ) → 0 ≡ version → Front key_bytes IsKey at place → Front shown (Good 2 version) at place
unfolding counted_body kind_of version_in
removal_front version at place none f = record {
  taken = f.taken;
  place_is = f.place_is;
  within = f.within;
  whole = (Removal f.whole, 0);
  is = (f.is, ((omega arith, inl refl), (refl, none)));
  rest = f.rest;
  bytes = f.bytes;
}

snapshot_front : (version : ℕ) (at : At) (place : ℕ) → Front state_shown (state_good version) at place → Front shown (Good 0 version) at place
unfolding counted_body kind_of version_in
snapshot_front version at place f = record {
  taken = f.taken;
  place_is = f.place_is;
  within = f.within;
  whole = (Snapshot f.whole.0, f.whole.1);
  is = (f.is.0.0, (f.is.1, (refl, f.is.0.1)));
  rest = f.rest;
  bytes = f.bytes;
}

update_front : (version : ℕ) (at : At) (place : ℕ) → Front state_shown (state_good version) at place → Front shown (Good 1 version) at place
unfolding counted_body kind_of version_in
update_front version at place f = record {
  taken = f.taken;
  place_is = f.place_is;
  within = f.within;
  whole = (Update f.whole.0, f.whole.1);
  is = (f.is.0.0, (f.is.1, (refl, f.is.0.1)));
  rest = f.rest;
  bytes = f.bytes;
}

body_front : (kind version : ℕ) (at : At) (place : ℕ) → kind < 5 → version < versions kind → IsBytes at.left → fields_at kind version at ≡ Err place
    → Front shown (Good kind version) at place
unfolding fields_at versions counted_body kind_of version_in seen_by
body_front zero version at place low few bytes e =
    snapshot_front version at place ((state_fails version few).front at place bytes (as_err Snapshot (state_at version at) place e))
body_front (suc zero) version at place low few bytes e =
    update_front version at place ((state_fails version few).front at place bytes (as_err Update (state_at version at) place e))
body_front (suc (suc zero)) version at place low few bytes e =
    removal_front version at place (only_zero version few) (key_fails.front at place bytes (as_err (λ k. Removal k) (key_at at) place e))
body_front (suc (suc (suc zero))) version at place low few bytes e =
    let f = snapshot_fails.front at place bytes (as_err (λ g. Head g) (number_at w64 at) place e) in
    record {
      taken = f.taken;
      place_is = f.place_is;
      within = f.within;
      whole = (Head f.whole, 0);
      is = (f.is, ((omega arith, inl refl), (refl, only_zero version few)));
      rest = f.rest;
      bytes = f.bytes;
    }
body_front (suc (suc (suc (suc n)))) version at place low few bytes e = absurd cc

abbrev IsBodyField : StateRecord → ℕ → ℕ → Type 0
IsBodyField r p e = IsFieldIn (body_sizes r) (length (runs_of r)) p e

-- a state, of its own version
state_err : (s : StateParts) (at : At) (place : ℕ) → IsBytes at.left → state_at (version_of s.complete) at ≡ Err place → (e : ℕ) (rest : List ℕ) → IsState s
    → IsBodyField (Snapshot s) (place - at.place) e → e ≤ length at.left → state_bytes s ≡ take e at.left ++ rest → ⊥
state_err s at place bytes err e rest good field within same =
    (state_fails (version_of s.complete) (version_two s.complete)).none at place bytes err s e [] rest (good, refl) (of_state_field s (place - at.place) e field) within
    (append-nil (state_bytes s) ∙ same)

-- the fields of a record's own kind and version
body_err : (r : StateRecord) (at : At) (place : ℕ) → IsBytes at.left → fields_at (kind_of r) (version_in r) at ≡ Err place → (e : ℕ) (rest : List ℕ) → IsRecord r
    → IsBodyField r (place - at.place) e → e ≤ length at.left → body_of r ≡ take e at.left ++ rest → ⊥
unfolding fields_at body_of kind_of version_in seen_by
body_err (Snapshot s) at place bytes err e rest good field within same =
    state_err s at place bytes (as_err Snapshot (state_at (version_of s.complete) at) place err) e rest good field within same
body_err (Update s) at place bytes err e rest good field within same =
    state_err s at place bytes (as_err Update (state_at (version_of s.complete) at) place err) e rest good field within same
body_err (Removal k) at place bytes err e rest good field within same =
    key_fails.none at place bytes (as_err (λ key. Removal key) (key_at at) place err) k e [] rest good (of_key_field k _ e field) within (append-nil (key_bytes k) ∙ same)
body_err (Head g) at place bytes err e rest good field within same =
    snapshot_fails.none at place bytes (as_err (λ n. Head n) (number_at w64 at) place err) g e [] rest good (of_number_field g _ e field) within
    (append-nil (to_be_bytes w64 g) ∙ same)
body_err Seal at place bytes err e rest good field within same = absurd field

body_none : (kind version : ℕ) (at : At) (place : ℕ) → IsBytes at.left → fields_at kind version at ≡ Err place → (r : StateRecord) (e : ℕ) (rest : List ℕ) → IsRecord r
    → kind_of r ≡ kind → version_in r ≡ version → IsBodyField r (place - at.place) e → e ≤ length at.left → body_of r ≡ take e at.left ++ rest → ⊥
body_none kind version at place bytes err r e rest good is of field within same =
    body_err r at place bytes (ap (λ (k : ℕ). fields_at k (version_in r) at) is ∙ ap (λ (v : ℕ). fields_at kind v at) of ∙ err) e rest good field within same

seal_moves : Moving (λ at. Ok (Seal, at))
seal_moves at found after e = let same : at ≡ after = ap behind e in ap (λ (a : At). a.place + length a.left) (sym same) where
  behind : Result (StateRecord × At) ℕ → At
  behind (Ok x) = x.1
  behind (Err place) = at

fields_moves : (kind version : ℕ) → version < versions kind → Moving (fields_at kind version)
unfolding fields_at versions
fields_moves zero version few = as_moves Snapshot (state_at version) (state_fails version few).moves
fields_moves (suc zero) version few = as_moves Update (state_at version) (state_fails version few).moves
fields_moves (suc (suc zero)) version few = as_moves (λ k. Removal k) key_at key_fails.moves
fields_moves (suc (suc (suc zero))) version few = as_moves (λ g. Head g) (number_at w64) snapshot_fails.moves
fields_moves (suc (suc (suc (suc n)))) version few = seal_moves

state_within : (s : StateParts) (p e : ℕ) → IsState s → IsBodyField (Snapshot s) p e → (p < length (state_bytes s)) × (p ≤ e)
state_within s p e good f =
    let h = of_state_field s p e f in
    let v = version_of s.complete in
    let low = version_two s.complete in
    (state_inside v low s p e (good, refl) h, (state_fails v low).ahead s p e h)

body_inside : (r : StateRecord) (p e : ℕ) → IsRecord r → IsBodyField r p e → (p < length (body_of r)) × (p ≤ e)
unfolding body_of
body_inside (Snapshot s) p e good f = state_within s p e good f
body_inside (Update s) p e good f = state_within s p e good f
body_inside (Removal k) p e good f = let h = of_key_field k p e f in (key_inside k p e good h, key_fails.ahead k p e h)
body_inside (Head g) p e good f = let h = of_number_field g p e f in (snapshot_inside g p e good h, snapshot_fails.ahead g p e h)
body_inside Seal p e good f = absurd f

-- ---- the record

sample : (kind : ℕ) → kind < 5 → (r : StateRecord) × IsRecord r × (kind_of r ≡ kind)
unfolding kind_of
sample zero low = let x = state_fails 0 (omega arith) in (Snapshot x.some.0, x.some_good.0.0, refl)
sample (suc zero) low = let x = state_fails 0 (omega arith) in (Update x.some.0, x.some_good.0.0, refl)
sample (suc (suc zero)) low = (Removal key_fails.some, key_fails.some_good, refl)
sample (suc (suc (suc zero))) low = (Head snapshot_fails.some, snapshot_fails.some_good, refl)
sample (suc (suc (suc (suc n)))) low = (Seal, tt, (let four : 4 ≡ suc (suc (suc (suc n))) = omega (arith, low) in four))

-- the bytes of a record begin so
few_runs : (r : StateRecord) → IsRecord r → length (runs_of r) < 2 ^ 32
few_runs (Snapshot s) good = good.few
few_runs (Update s) good = good.few
few_runs (Removal k) good = omega arith
few_runs (Head g) good = omega arith
few_runs Seal good = omega arith

begins_record : (r : StateRecord) (front rest : List ℕ) → IsRecord r → record_bytes r ≡ front ++ rest → Begins front
begins_record r front rest good same = record { found = r; count = length (runs_of r); rest = rest; is = good; few = few_runs r good; counted = inl refl; bytes = own_count r ∙ same }

module _ (bytes : List ℕ) (place : ℕ) (fits : IsBytes bytes) where
  abbrev start : At
  start = record { place = 0; left = bytes }

  -- what stands there is wrong as a kind
  wrong_kind : only_at (λ n. nat_lt n 5) byte_at start ≡ Err place → IsWrongAt bytes place
  wrong_kind err =
      let here : place ≡ 0 = only_here (λ n. nat_lt n 5) byte_at byte_here start place err in
      let r = sample 0 (omega arith) in
      record {
        within = omega (arith, here);
        before = subst (λ (p : ℕ). Begins (take p bytes)) (sym here) (begins_record r.0 [] (record_bytes r.0) r.1 refl);
        none = λ found to rest good field within same. elim field [
          | inl f ↦
              let a = agrees (kind_of found ∷ []) (version_in found ∷ body_of found) bytes rest to (omega (arith, f.1)) within (sym (spelled found) ∙ same) in
              let g = (byte_below 5).again start (kind_of found) a.behind (kind_low found) a.whole in
              not_both (only_at (λ n. nat_lt n 5) byte_at start) place (kind_of found, g.after) err g.is
          | inr f ↦ omega (arith, f.0, here)
        ];
      }

  module _ (kind : ℕ) (mid : At) (low : kind < 5) (split : bytes ≡ kind ∷ mid.left) (at_one : mid.place ≡ 1) where
    same_kind : (found : StateRecord) (to : ℕ) (rest : List ℕ) → 2 ≤ to → to ≤ length bytes → record_bytes found ≡ take to bytes ++ rest
        → (behind : List ℕ) × (mid.left ≡ version_in found ∷ behind) × (kind_of found ≡ kind) × (body_of found ≡ take (to - 2) behind ++ rest)
    same_kind found to rest le within same =
        let a = agrees (kind_of found ∷ version_in found ∷ []) (body_of found) bytes rest to (omega (arith, le)) within (sym (spelled found) ∙ same) in
        let whole : kind ∷ mid.left ≡ kind_of found ∷ version_in found ∷ a.behind = sym split ∙ a.whole in
        let head : kind ≡ kind_of found = cc in
        let tail : mid.left ≡ version_in found ∷ a.behind = cc in
        (a.behind, tail, sym head, a.others)

    wrong_version : only_at (λ n. nat_lt n (versions kind)) byte_at mid ≡ Err place → IsWrongAt bytes place
    wrong_version err =
        let here : place ≡ 1 = only_here (λ n. nat_lt n (versions kind)) byte_at byte_here mid place err ∙ at_one in
        let r = sample kind low in
        let text : List ℕ = version_in r.0 ∷ body_of r.0 in
        let front : record_bytes r.0 ≡ take 1 bytes ++ text =
        spelled r.0 ∙ ap (λ (k : ℕ). k ∷ text) r.2 ∙ ap (λ (l : List ℕ). take 1 l ++ text) (sym split) in
        record {
          within = omega (arith, here, ap length split);
          before = subst (λ (p : ℕ). Begins (take p bytes)) (sym here) (begins_record r.0 (take 1 bytes) text r.1 front);
          none = λ found to rest good field within same. elim field [
            | inl f ↦ omega (arith, f.0, here)
            | inr f ↦ elim f.2 [
              | inl h ↦
                  let s = same_kind found to rest (omega (arith, h.1, f.1)) within same in
                  let few : version_in found < versions kind = subst (λ (k : ℕ). version_in found < versions k) s.2 (version_low found) in
                  let g = (byte_below (versions kind)).again mid (version_in found) s.0 few s.1 in
                  not_both (only_at (λ n. nat_lt n (versions kind)) byte_at mid) place (version_in found, g.after) err g.is
              | inr h ↦ omega (arith, h.0, here)
            ]
          ];
        }

    module _ (version : ℕ) (few : version < versions kind) (next : At) (split2 : mid.left ≡ version ∷ next.left) (at_two : next.place ≡ 2) (fits2 : IsBytes next.left) where
      whole_split : bytes ≡ kind ∷ version ∷ next.left
      whole_split = split ∙ ap (λ (l : List ℕ). kind ∷ l) split2

      same_body : (found : StateRecord) (to : ℕ) (rest : List ℕ) → 2 ≤ to → to ≤ length bytes → record_bytes found ≡ take to bytes ++ rest
          → (kind_of found ≡ kind) × (version_in found ≡ version) × (body_of found ≡ take (to - 2) next.left ++ rest)
      same_body found to rest le within same =
          let s = same_kind found to rest le within same in
          let e : version_in found ∷ s.0 ≡ version ∷ next.left = sym s.1 ∙ split2 in
          let head : version_in found ≡ version = cc in
          let tail : s.0 ≡ next.left = cc in
          (s.2, head, s.3 ∙ ap (λ (l : List ℕ). take (to - 2) l ++ rest) tail)

      -- a field of the record, seen from behind the version
      behind_version : (found : StateRecord) (to : ℕ) → 2 ≤ place → IsField found place to → (2 ≤ to) × IsBodyField found (place - 2) (to - 2)
      behind_version found to le (inl f) = absurd (omega (arith, f.0, le))
      behind_version found to le (inr f) = elim f.2 [
        | inl h ↦ absurd (omega (arith, h.0, le))
        | inr h ↦
            let from : place - 1 - 1 ≡ place - 2 = omega arith in
            let till : to - 1 - 1 ≡ to - 2 = omega arith in
            (omega (arith, f.1, h.1), subst (λ (q : ℕ). IsBodyField found (place - 2) q) till (subst (λ (q : ℕ). IsBodyField found q (to - 1 - 1)) from h.2))
      ]

      wrong_fields : fields_at kind version next ≡ Err place → IsWrongAt bytes place
      wrong_fields err =
          let f = body_front kind version next place low few fits2 err in
          let here : place ≡ 2 + f.taken = omega (arith, f.place_is, at_two) in
          let body : List ℕ = counted_body f.whole.1 f.whole.0 in
          let front : counted_bytes f.whole.1 f.whole.0 ≡ take (2 + f.taken) bytes ++ f.rest =
          counted_is f.whole.1 f.whole.0 ∙ ap (λ (k : ℕ). k ∷ version_in f.whole.0 ∷ body) f.is.1.1.0 ∙ ap (λ (v : ℕ). kind ∷ v ∷ body) f.is.1.1.1
          ∙ ap (λ (l : List ℕ). kind ∷ version ∷ l) f.bytes
          ∙ ap (λ (l : List ℕ). l ++ f.rest) (sym (take-behind (kind ∷ version ∷ []) next.left f.taken)) ∙ ap (λ (l : List ℕ). take (2 + f.taken) l ++ f.rest) (sym whole_split) in
          record {
            within = omega (arith, here, f.within, ap length whole_split);
            before = subst (λ (p : ℕ). Begins (take p bytes)) (sym here)
                (record { found = f.whole.0; count = f.whole.1; rest = f.rest; is = f.is.0; few = f.is.1.0.0; counted = f.is.1.0.1; bytes = front });
            none = λ found to rest good field within same.
                let b = behind_version found to (omega (arith, here)) field in
                let s = same_body found to rest b.0 within same in
                body_none kind version next place fits2 err found (to - 2) rest good s.0 s.1 (subst (λ (q : ℕ). IsBodyField found (place - q) (to - 2)) (sym at_two) b.1)
                (omega (arith, within, ap length whole_split)) s.2;
          }

      -- bytes stand behind the record
      wrong_end : (r : StateRecord) (after : At) → fields_at kind version next ≡ Ok (r, after) → place ≡ after.place → IsWrongAt bytes place
      wrong_end r after ok here =
          let t = fields_take kind version next r after low few fits2 ok in
          let size : length next.left ≡ length (body_of r) + length after.left = ap length t.takes.parts ∙ length-append (body_of r) after.left in
          let far : place ≡ 2 + length (body_of r) = omega (arith, here, fields_moves kind version few next r after ok, size, at_two) in
          let own : List ℕ = kind ∷ version ∷ body_of r in
          let text : record_bytes r ≡ own ++ [] =
          spelled r ∙ ap (λ (k : ℕ). k ∷ version_in r ∷ body_of r) t.kind_is ∙ ap (λ (v : ℕ). kind ∷ v ∷ body_of r) t.version_is ∙ sym (append-nil own) in
          let all : bytes ≡ own ++ after.left = whole_split ∙ ap (λ (l : List ℕ). kind ∷ version ∷ l) t.takes.parts in
          let front : take (2 + length (body_of r)) bytes ≡ own =
          ap (take (2 + length (body_of r))) all
          ∙ ap (λ (n : ℕ). take n (own ++ after.left)) (let q : 2 + length (body_of r) ≡ length own + 0 = omega arith in q)
          ∙ take-behind own after.left 0 ∙ append-nil own in
          record {
            within = omega (arith, far, size, ap length whole_split);
            before = subst (λ (p : ℕ). Begins (take p bytes)) (sym far) (begins_record r (take (2 + length (body_of r)) bytes) [] t.good (text ∙ ap (λ (l : List ℕ). l ++ []) (sym front)));
            none = λ found to rest good field within same.
                let b = behind_version found to (omega (arith, far)) field in
                let s = same_body found to rest b.0 within same in
                let i = body_inside found (place - 2) (to - 2) good b.1 in
                let cut : take (to - 2) next.left ≡ body_of r ++ take (to - 2 - length (body_of r)) after.left =
                ap (take (to - 2)) t.takes.parts
                ∙ ap (λ (n : ℕ). take n (body_of r ++ after.left)) (let q : to - 2 ≡ length (body_of r) + (to - 2 - length (body_of r)) = omega (arith, i.1, far) in q)
                ∙ take-behind (body_of r) after.left (to - 2 - length (body_of r)) in
                let one : body_of found ≡ body_of r ++ (take (to - 2 - length (body_of r)) after.left ++ rest) =
                s.2 ∙ ap (λ (l : List ℕ). l ++ rest) cut ∙ append_assoc (body_of r) (take (to - 2 - length (body_of r)) after.left) rest in
                let at : At = record { place = 0; left = body_of found } in
                let g = fields_again found at [] good (sym (append-nil (body_of found))) in
                let h = fields_again r at (take (to - 2 - length (body_of r)) after.left ++ rest) t.good one in
                let kinds : kind_of found ≡ kind_of r = s.0 ∙ sym t.kind_is in
                let versions_same : version_in found ≡ version_in r = s.1 ∙ sym t.version_is in
                let again : fields_at (kind_of found) (version_in found) at ≡ fields_at (kind_of r) (version_in r) at =
                ap (λ (k : ℕ). fields_at k (version_in found) at) kinds ∙ ap (λ (v : ℕ). fields_at (kind_of r) v at) versions_same in
                let left : (found, g.after) ≡ (r, h.after) = ok_is (found, g.after) (r, h.after) (sym g.is ∙ again ∙ h.is) in
                let len : length (body_of found) ≡ length (body_of r) = ap (λ (z : StateRecord × At). length (body_of z.0)) left in
                omega (arith, i.0, len, far);
          }

pub wrong_at : (bytes : List ℕ) (place : ℕ) → AllByRecursion (λ b. b < 256) bytes → record_at bytes ≡ Err place → IsWrongAt bytes place
unfolding record_at
wrong_at bytes place each err = go (bind_err (only_at (λ n. nat_lt n 5) byte_at at) with_kind place err) where
  fits : IsBytes bytes
  fits = all_bytes bytes each

  at : At
  at = record { place = 0; left = bytes }

  with_fields : StateRecord × At → Result StateRecord ℕ
  with_fields x = cond (length x.1.left == 0) (Ok x.0) (Err x.1.place)

  with_version : ℕ → ℕ × At → Result StateRecord ℕ
  with_version kind version = fields_at kind version.0 version.1 >>= with_fields

  with_kind : ℕ × At → Result StateRecord ℕ
  with_kind kind = only_at (λ n. nat_lt n (versions kind.0)) byte_at kind.1 >>= with_version kind.0

  at_end : (x : StateRecord × At) → with_fields x ≡ Err place → place ≡ x.1.place
  at_end x e = guarded (length x.1.left == 0) e where
    guarded : (b : Bool) → cond b (Ok x.0) (Err x.1.place) ≡ Err place → place ≡ x.1.place
    guarded true f = absurd cc
    guarded false f = let same : x.1.place ≡ place = cc in sym same

  byte_place : (limit : ℕ) (from : At) (n : ℕ) (to : At) → only_at (λ k. nat_lt k limit) byte_at from ≡ Ok (n, to) → from.left ≡ n ∷ to.left → to.place ≡ from.place + 1
  byte_place limit from n to e split = omega (arith, only_moves (λ k. nat_lt k limit) byte_at byte_moves from n to e, ap length split)

  go : (only_at (λ n. nat_lt n 5) byte_at at ≡ Err place) ⊎ ((kind : ℕ × At) × (only_at (λ n. nat_lt n 5) byte_at at ≡ Ok kind) × (with_kind kind ≡ Err place)) → IsWrongAt bytes place
  go (inl h) = wrong_kind bytes place fits h
  go (inr k) =
      let t1 = (byte_below 5).takes at k.0.0 k.0.1 fits k.1 in
      let one : k.0.1.place ≡ 1 = byte_place 5 at k.0.0 k.0.1 k.1 t1.0.parts in
      elim (bind_err (only_at (λ n. nat_lt n (versions k.0.0)) byte_at k.0.1) (with_version k.0.0) place k.2) [
        | inl h ↦ wrong_version bytes place fits k.0.0 k.0.1 t1.1 t1.0.parts one h
        | inr v ↦
            let t2 = (byte_below (versions k.0.0)).takes k.0.1 v.0.0 v.0.1 t1.0.rest_fits v.1 in
            let two : v.0.1.place ≡ 2 = omega (arith, byte_place (versions k.0.0) k.0.1 v.0.0 v.0.1 v.1 t2.0.parts, one) in
            elim (bind_err (fields_at k.0.0 v.0.0 v.0.1) with_fields place v.2) [
              | inl h ↦ wrong_fields bytes place fits k.0.0 k.0.1 t1.1 t1.0.parts one v.0.0 t2.1 v.0.1 t2.0.parts two t2.0.rest_fits h
              | inr r ↦ wrong_end bytes place fits k.0.0 k.0.1 t1.1 t1.0.parts one v.0.0 t2.1 v.0.1 t2.0.parts two t2.0.rest_fits r.0.0 r.0.1 r.1 (at_end r.0 r.2)
            ]
      ]
