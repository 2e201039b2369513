-- How the readers of a state and of a record fail.
use Rattle.std.proofs.Common.{◌≡◌, ℕ, ℤ, pos, zero, suc, ◌+◌, ◌-◌, ◌^◌, ◌<◌, ◌≤◌, ◌⊎◌, inl, inr, List, [], ◌∷◌, ◌++◌}
use Rattle.std.proofs.Common.{length, take, get_or, Option, Some, None, Result, Ok, Err, refl, sym, ap, subst, ◌∙◌, append_assoc, arith}
use Rattle.std.specs.Prelude.{nat_lt}
use Rattle.std.specs.Int.{w16, w32, w64, to_be_bytes}
use Rattle.std.specs.List.{flat_map}
use Rattle.std.proofs.lemmas.List.{length-append}
use Rattle.std.proofs.lemmas.Str.{is_utf8-from_IsUtf8, IsUtf8-from_ascii}
use Rattle.share_model.specs.Keys.{KeyParts}
use Rattle.share_model.specs.Names.{IsName}
use Rattle.share_model.specs.declared.run.Run.{Run}
use Rattle.state_records.specs.States.{StateParts, IsEpoch, IsStart, IsKey, IsState}
use Rattle.state_records.specs.Spelling.{name_bytes, key_bytes, version_of, complete_bytes, epoch_number, start_number, run_bytes, counted_runs, runs_bytes, counted_state}
use Rattle.state_records.specs.Spelling.{state_bytes}
use Rattle.state_records.specs.Faults.{LeavesTooFew, IsRunsField, IsFieldIn, key_sizes, complete_sizes, state_sizes}
use Rattle.flex_fields.specs.Reading.{At}
use Rattle.state_records.specs.Reading.{then_at, raw_at, number_at, below_at, name_at, key_of, key_at, epoch_at, start_of, start_at}
use Rattle.state_records.specs.Reading.{runs_at, complete_at, all_runs_at, state_of_parts, state_at}
use Rattle.state_records.proofs.Spells.{IsBytes, bind_ok, ok_is, Spells, then_spells, raw_spells, number_spells, wide64}
use Rattle.state_records.proofs.Stored.{low32, all32, AreAllRuns, all_runs_spells}
use Rattle.state_records.proofs.Records.{Parts, FitsVersion, FitsState, name_spells, key_spells, epoch_spells, start_spells, complete_spells}
use Rattle.state_records.proofs.Begins.{bind_err, not_both, agrees, take-behind, Front, Fails, Inside, then_field, whole_field, one_reading, then_fails, field_fails, as_fails}
use Rattle.state_records.proofs.FieldFaults.{FailsHere, Moving, number_here, number_moves, raw_here, raw_moves, only_here, only_moves, as_here, as_moves}
use Rattle.state_records.proofs.FieldFaults.{found_here, found_moves, name_here, name_moves}
use Rattle.state_records.proofs.RunFaults.{runs_front, runs_none, runs_ahead, runs_moves, runs_inside, sized}

-- ---- the number of runs, and the runs

abbrev pub all_field : List Run → ℕ → ℕ → Type 0
all_field runs p e = ((p ≡ 0) × (e ≡ 4)) ⊎ ((4 ≤ p) × (4 ≤ e) × IsRunsField (length runs) (p - 4) (e - 4))

abbrev pub IsCounted : ℕ → List Run → Type 0
IsCounted count runs = (count < 2 ^ 32) × ((count ≡ length runs) ⊎ LeavesTooFew runs (count - length runs))

abbrev pub all_shown : ℕ × List Run → List ℕ
all_shown x = counted_runs x.0 x.1

abbrev pub all_good : ℕ × List Run → Type 0
all_good x = AreAllRuns x.1 × IsCounted x.0 x.1

count_here : FailsHere (number_at w32)
count_here = number_here w32

counted_err : (at : At) (place : ℕ) → all_runs_at at ≡ Err place → (number_at w32 at ≡ Err place) ⊎ ((n : ℕ × At) × (number_at w32 at ≡ Ok n) × (runs_at n.0 None n.1 ≡ Err place))
unfolding all_runs_at
counted_err at place e = bind_err (number_at w32 at) (λ n. runs_at n.0 None n.1) place e

count_split : (at : At) (n : ℕ) (mid : At) → number_at w32 at ≡ Ok (n, mid) → at.left ≡ to_be_bytes w32 n ++ mid.left → mid.place ≡ at.place + 4
count_split at n mid e split = omega (arith, number_moves w32 at n mid e, ap length split, sized (to_be_bytes w32 n) mid.left 4 refl)

all_front : (at : At) (place : ℕ) → IsBytes at.left → all_runs_at at ≡ Err place → Front all_shown all_good at place
all_front at place bytes err = elim (counted_err at place err) [
  | inl h ↦ record {
    taken = 0;
    place_is = omega (arith, count_here at place h);
    within = omega arith;
    whole = (0, []);
    is = (record { stored = (tt, tt); few = omega arith }, (omega arith, inl refl));
    rest = to_be_bytes w32 0;
    bytes = refl;
  }
  | inr h ↦
      let n = h.0.0 in
      let mid = h.0.1 in
      let t = all32.takes at n mid bytes h.1 in
      let f = runs_front n None mid place t.0.rest_fits h.2 in
      let few = f.is.few in
      let low = t.1 in
      record {
        taken = 4 + f.taken;
        place_is = omega (arith, f.place_is, count_split at n mid h.1 t.0.parts);
        within = omega (arith, f.within, ap length t.0.parts, sized (to_be_bytes w32 n) mid.left 4 refl);
        whole = (n, f.whole);
        is = (record { stored = f.is.next.stored; few = omega (arith, few, low) }, (low, f.is.counted));
        rest = f.rest;
        bytes = ap (λ (l : List ℕ). to_be_bytes w32 n ++ l) f.bytes ∙ sym (append_assoc (to_be_bytes w32 n) (take f.taken mid.left) f.rest)
            ∙ ap (λ (l : List ℕ). l ++ f.rest) (sym (take-behind (to_be_bytes w32 n) mid.left f.taken)) ∙ ap (λ (l : List ℕ). take (4 + f.taken) l ++ f.rest) (sym t.0.parts);
      }
]

all_none : (at : At) (place : ℕ) → IsBytes at.left → all_runs_at at ≡ Err place → (runs : List Run) (e : ℕ) (more rest : List ℕ) → AreAllRuns runs
    → all_field runs (place - at.place) e → e ≤ length at.left → runs_bytes runs ++ more ≡ take e at.left ++ rest → ⊥
all_none at place bytes err runs e more rest all field within same = elim (counted_err at place err) [
  | inl h ↦ elim field [
    | inl f ↦
        let a = agrees (to_be_bytes w32 (length runs)) (flat_map run_bytes runs ++ more) at.left rest e (omega (arith, f.1)) within same in
        let g = all32.again at (length runs) a.behind all.few a.whole in
        not_both (number_at w32 at) place (length runs, g.after) h g.is
    | inr f ↦ omega (arith, count_here at place h, f.0)
  ]
  | inr h ↦
      let n = h.0.0 in
      let mid = h.0.1 in
      let t = all32.takes at n mid bytes h.1 in
      let front = runs_front n None mid place t.0.rest_fits h.2 in
      let place_is = count_split at n mid h.1 t.0.parts in
      let on = front.place_is in
      elim field [
        | inl f ↦ omega (arith, f.0, on, place_is)
        | inr f ↦
            let cut : take e at.left ++ rest ≡ to_be_bytes w32 n ++ (take (e - 4) mid.left ++ rest) =
            ap (λ (l : List ℕ). take e l ++ rest) t.0.parts ∙ ap (λ (k : ℕ). take k (to_be_bytes w32 n ++ mid.left) ++ rest) (let q : e ≡ 4 + (e - 4) = omega (arith, f.1) in q)
            ∙ ap (λ (l : List ℕ). l ++ rest) (take-behind (to_be_bytes w32 n) mid.left (e - 4)) ∙ append_assoc (to_be_bytes w32 n) (take (e - 4) mid.left) rest in
            let one = one_reading (number_at w32) (to_be_bytes w32) (λ k. k < 2 ^ 32) all32 (length runs) n (flat_map run_bytes runs ++ more) (take (e - 4) mid.left ++ rest)
            all.few t.1 (same ∙ cut) in
            let from : place - at.place - 4 ≡ place - mid.place = omega (arith, place_is, f.0) in
            runs_none n None mid place t.0.rest_fits h.2 runs (e - 4) more rest (record { count = one.0; behind = tt; stored = all.stored })
            (subst (λ (k : ℕ). IsRunsField (length runs) k (e - 4)) from f.2)
            (omega (arith, within, ap length t.0.parts, sized (to_be_bytes w32 n) mid.left 4 refl)) one.1
      ]
]

all_moves : Moving all_runs_at
unfolding all_runs_at
all_moves at runs after e =
    let a = bind_ok (number_at w32 at) (λ n. runs_at n.0 None n.1) (runs, after) e in
    runs_moves a.0.0 None a.0.1 runs after a.2 ∙ number_moves w32 at a.0.0 a.0.1 a.1

pub all_fails : Fails all_runs_at runs_bytes AreAllRuns all_field all_shown all_good
all_fails = record {
  some = (0, []);
  some_good = (record { stored = (tt, tt); few = omega arith }, (omega arith, inl refl));
  ahead = λ runs p e f. elim f [
    | inl g ↦ omega (arith, g.0)
    | inr g ↦ omega (arith, runs_ahead (length runs) (p - 4) (e - 4) g.2, g.0, g.1)
  ];
  moves = all_moves;
  front = all_front;
  none = all_none;
}

-- ---- fields in front of the runs

abbrev epoch_bytes : ℤ → List ℕ
epoch_bytes z = to_be_bytes w32 (epoch_number z)

abbrev start_bytes : ℤ → List ℕ
start_bytes z = to_be_bytes w64 (start_number z)

below32_here : (limit : ℕ) → FailsHere (below_at w32 limit)
below32_here limit = only_here (λ n. nat_lt n limit) (number_at w32) (number_here w32)

below32_moves : (limit : ℕ) → Moving (below_at w32 limit)
below32_moves limit = only_moves (λ n. nat_lt n limit) (number_at w32) (number_moves w32)

epoch_fails : Fails epoch_at epoch_bytes IsEpoch (whole_field epoch_bytes) epoch_bytes IsEpoch
unfolding epoch_at
epoch_fails = field_fails epoch_at epoch_bytes IsEpoch epoch_spells (pos 0) (omega arith)
    (as_here pos (below_at w32 (2 ^ 31)) (below32_here (2 ^ 31))) (as_moves pos (below_at w32 (2 ^ 31)) (below32_moves (2 ^ 31)))

start_fails : Fails start_at start_bytes IsStart (whole_field start_bytes) start_bytes IsStart
unfolding start_at
start_fails = field_fails start_at start_bytes IsStart start_spells (pos 0) (omega arith)
    (found_here start_of (number_at w64) (number_here w64)) (found_moves start_of (number_at w64) (number_moves w64))

pub snapshot_fails : Fails (number_at w64) (to_be_bytes w64) (λ n. n < 2 ^ 64) (whole_field (to_be_bytes w64)) (to_be_bytes w64) (λ n. n < 2 ^ 64)
snapshot_fails = field_fails (number_at w64) (to_be_bytes w64) (λ n. n < 2 ^ 64) (number_spells w64 (2 ^ 64) wide64) 0 (omega arith) (number_here w64) (number_moves w64)

abbrev raw_bytes : List ℕ → List ℕ
raw_bytes x = x

abbrev zeros : List ℕ
zeros = 0 ∷ 0 ∷ 0 ∷ 0 ∷ 0 ∷ 0 ∷ 0 ∷ 0 ∷ 0 ∷ 0 ∷ 0 ∷ 0 ∷ 0 ∷ 0 ∷ 0 ∷ 0 ∷ []

small : (i : ℕ) → get_or (103 ∷ []) i 0 < 128
small zero = omega arith
small (suc i) = omega arith

some_name : IsName (103 ∷ [])
some_name = record { some = omega arith; few = omega arith; utf8 = is_utf8-from_IsUtf8 (103 ∷ []) (IsUtf8-from_ascii (103 ∷ []) small) }

name_fails : Fails name_at name_bytes IsName (whole_field name_bytes) name_bytes IsName
name_fails = field_fails name_at name_bytes IsName name_spells (103 ∷ []) some_name name_here name_moves

topic_fails : Fails (raw_at 16) raw_bytes (λ x. length x ≡ 16) (whole_field raw_bytes) raw_bytes (λ x. length x ≡ 16)
topic_fails = field_fails (raw_at 16) raw_bytes (λ x. length x ≡ 16) (raw_spells 16) zeros refl (raw_here 16) (raw_moves 16)

partition_fails : Fails (below_at w32 (2 ^ 31)) (to_be_bytes w32) (λ n. n < 2 ^ 31) (whole_field (to_be_bytes w32)) (to_be_bytes w32) (λ n. n < 2 ^ 31)
partition_fails = field_fails (below_at w32 (2 ^ 31)) (to_be_bytes w32) (λ n. n < 2 ^ 31) (low32 (2 ^ 31) (omega arith)) 0 (omega arith) (below32_here (2 ^ 31)) (below32_moves (2 ^ 31))

pub then_inside : {A B : Type 0} (s1 : A → List ℕ) (s2 : B → List ℕ) (f1 : A → Type 0) (f2 : B → Type 0) (field1 : A → ℕ → ℕ → Type 0) (field2 : B → ℕ → ℕ → Type 0)
    → Inside s1 f1 field1 → Inside s2 f2 field2 → Inside (λ (x : A × B). s1 x.0 ++ s2 x.1) (λ x. f1 x.0 × f2 x.1) (then_field s1 field1 field2)
then_inside {A} {B} s1 s2 f1 f2 field1 field2 a b x p e fits f = elim f [
  | inl g ↦ omega (arith, a x.0 p e fits.0 g, length-append (s1 x.0) (s2 x.1))
  | inr g ↦ omega (arith, b x.1 _ _ fits.1 g.1.1, g.0, length-append (s1 x.0) (s2 x.1))
]

epoch_inside : Inside epoch_bytes IsEpoch (whole_field epoch_bytes)
epoch_inside z p e fits f = let size : length (epoch_bytes z) ≡ 4 = refl in omega (arith, f.0, size)

start_inside : Inside start_bytes IsStart (whole_field start_bytes)
start_inside z p e fits f = let size : length (start_bytes z) ≡ 8 = refl in omega (arith, f.0, size)

pub snapshot_inside : Inside (to_be_bytes w64) (λ n. n < 2 ^ 64) (whole_field (to_be_bytes w64))
snapshot_inside n p e fits f = let size : length (to_be_bytes w64 n) ≡ 8 = refl in omega (arith, f.0, size)

name_inside : Inside name_bytes IsName (whole_field name_bytes)
name_inside x p e fits f = omega (arith, f.0, sized (to_be_bytes w16 (length x)) x 2 refl)

topic_inside : Inside raw_bytes (λ x. length x ≡ 16) (whole_field raw_bytes)
topic_inside x p e fits f = omega (arith, f.0, fits)

partition_inside : Inside (to_be_bytes w32) (λ n. n < 2 ^ 31) (whole_field (to_be_bytes w32))
partition_inside n p e fits f = let size : length (to_be_bytes w32 n) ≡ 4 = refl in omega (arith, f.0, size)

all_inside : Inside runs_bytes AreAllRuns all_field
all_inside runs p e fits f =
    let size : length (runs_bytes runs) ≡ 4 + length (flat_map run_bytes runs) = sized (to_be_bytes w32 (length runs)) (flat_map run_bytes runs) 4 refl in
    elim f [
      | inl g ↦ omega (arith, g.0, size)
      | inr g ↦ omega (arith, g.0, runs_inside runs (p - 4) (e - 4) g.2, size)
    ]

-- ---- a key

abbrev Triple : Type 0
Triple = List ℕ × (List ℕ × ℕ)

abbrev triple_of : KeyParts → Triple
triple_of k = (k.group, (k.topic, k.part))

abbrev topic_field : List ℕ × ℕ → ℕ → ℕ → Type 0
topic_field = then_field raw_bytes (whole_field raw_bytes) (whole_field (to_be_bytes w32))

abbrev triple_field : Triple → ℕ → ℕ → Type 0
triple_field = then_field name_bytes (whole_field name_bytes) topic_field

abbrev pub key_field : KeyParts → ℕ → ℕ → Type 0
key_field k = triple_field (triple_of k)

abbrev topic_bytes : List ℕ × ℕ → List ℕ
topic_bytes x = raw_bytes x.0 ++ to_be_bytes w32 x.1

abbrev TopicFits : List ℕ × ℕ → Type 0
TopicFits x = (length x.0 ≡ 16) × (x.1 < 2 ^ 31)

abbrev triple_bytes : Triple → List ℕ
triple_bytes x = name_bytes x.0 ++ topic_bytes x.1

abbrev TripleFits : Triple → Type 0
TripleFits x = IsName x.0 × TopicFits x.1

abbrev topic_at : At → Result ((List ℕ × ℕ) × At) ℕ
topic_at = then_at (raw_at 16) (below_at w32 (2 ^ 31))

triple_fails : Fails (then_at name_at topic_at) triple_bytes TripleFits triple_field triple_bytes TripleFits
triple_fails =
    then_fails name_at topic_at name_bytes topic_bytes IsName TopicFits (whole_field name_bytes) topic_field topic_bytes TopicFits name_spells name_inside name_fails
    (then_fails (raw_at 16) (below_at w32 (2 ^ 31)) raw_bytes (to_be_bytes w32) (λ x. length x ≡ 16) (λ n. n < 2 ^ 31) (whole_field raw_bytes) (whole_field (to_be_bytes w32))
    (to_be_bytes w32) (λ n. n < 2 ^ 31) (raw_spells 16) topic_inside topic_fails partition_fails)

pub key_inside : Inside key_bytes IsKey key_field
key_inside k p e fits f =
    then_inside name_bytes topic_bytes IsName TopicFits (whole_field name_bytes) topic_field name_inside
    (then_inside raw_bytes (to_be_bytes w32) (λ x. length x ≡ 16) (λ n. n < 2 ^ 31) (whole_field raw_bytes) (whole_field (to_be_bytes w32)) topic_inside partition_inside)
    (triple_of k) p e (fits.group, (fits.topic, fits.part)) f

-- the front that is shown, seen otherwise
pub shown_as : {C D : Type 0} (h : C → D) (show : C → List ℕ) (show2 : D → List ℕ) (good : C → Type 0) (good2 : D → Type 0) → ((c : C) → show2 (h c) ≡ show c) → ((c : C) → good c → good2 (h c))
    → (at : At) (place : ℕ) → Front show good at place → Front show2 good2 at place
shown_as {C} {D} h show show2 good good2 same fits at place f = record {
  taken = f.taken;
  place_is = f.place_is;
  within = f.within;
  whole = h f.whole;
  is = fits f.whole f.is;
  rest = f.rest;
  bytes = same f.whole ∙ f.bytes;
}

key_triple : Fails key_at key_bytes IsKey key_field triple_bytes TripleFits
unfolding key_at
key_triple = as_fails key_of triple_of (then_at name_at topic_at) triple_bytes key_bytes TripleFits IsKey triple_field triple_bytes TripleFits
    (λ k h. ((h.group, (h.topic, h.part)), refl)) triple_fails

pub key_fails : Fails key_at key_bytes IsKey key_field key_bytes IsKey
key_fails = record {
  some = key_of key_triple.some;
  some_good = (let h = key_triple.some_good in record { group = h.0; topic = h.1.0; part = h.1.1 });
  ahead = key_triple.ahead;
  moves = key_triple.moves;
  front = λ at place bytes err. shown_as key_of triple_bytes key_bytes TripleFits IsKey (λ c. refl) (λ c h. record { group = h.0; topic = h.1.0; part = h.1.1 }) at place
      (key_triple.front at place bytes err);
  none = key_triple.none;
}

-- ---- the number of complete rows

-- it is a field of eight bytes where it is told
abbrev pub complete_field : Option ℕ → ℕ → ℕ → Type 0
complete_field None p e = ⊥
complete_field (Some n) p e = whole_field (to_be_bytes w64) n p e

complete_whole : (c : Option ℕ) (p e : ℕ) → complete_field c p e → whole_field complete_bytes c p e
complete_whole None p e f = absurd f
complete_whole (Some n) p e f = f

complete_ahead : (c : Option ℕ) (p e : ℕ) → complete_field c p e → p ≤ e
complete_ahead None p e f = absurd f
complete_ahead (Some n) p e f = omega (arith, f.0)

nothing_moves : Moving (complete_at 0)
unfolding complete_at
nothing_moves at x after ok =
    let made : Option ℕ × At = (None, at) in
    ap (λ (z : Option ℕ × At). z.1.place + length z.1.left) (sym (ok_is made (x, after) ok))

nothing_stays : (at : At) (place : ℕ) → complete_at 0 at ≡ Err place → ⊥
unfolding complete_at
nothing_stays at place err = absurd cc

told_fails : Fails (complete_at 1) complete_bytes (FitsVersion 1) (whole_field complete_bytes) complete_bytes (FitsVersion 1)
unfolding complete_at
told_fails = field_fails (complete_at 1) complete_bytes (FitsVersion 1) (complete_spells 1 (omega arith)) (Some 0) (omega arith, refl)
    (as_here (λ k. Some k) (number_at w64) (number_here w64)) (as_moves (λ k. Some k) (number_at w64) (number_moves w64))

complete_fails : (version : ℕ) → version < 2 → Fails (complete_at version) complete_bytes (FitsVersion version) complete_field complete_bytes (FitsVersion version)
complete_fails zero low = record {
  some = None;
  some_good = (tt, refl);
  ahead = complete_ahead;
  moves = nothing_moves;
  front = λ at place bytes err. absurd (nothing_stays at place err);
  none = λ at place bytes err x e more rest fits field within same. nothing_stays at place err;
}
complete_fails (suc zero) low = record {
  some = told_fails.some;
  some_good = told_fails.some_good;
  ahead = complete_ahead;
  moves = told_fails.moves;
  front = told_fails.front;
  none = λ at place bytes err x e more rest fits field within same. told_fails.none at place bytes err x e more rest fits (complete_whole x _ e field) within same;
}
complete_fails (suc (suc n)) low = absurd (omega (arith, low))

complete_inside : (version : ℕ) → Inside complete_bytes (FitsVersion version) complete_field
complete_inside version None p e fits f = absurd f
complete_inside version (Some n) p e fits f = let size : length (to_be_bytes w64 n) ≡ 8 = refl in omega (arith, f.0, size)

-- ---- a state

abbrev Kept6 : Type 0
Kept6 = Option ℕ × List Run

abbrev S6 : Kept6 → List ℕ
S6 x = complete_bytes x.0 ++ runs_bytes x.1

abbrev F6 : ℕ → Kept6 → Type 0
F6 version x = FitsVersion version x.0 × AreAllRuns x.1

abbrev field6 : Kept6 → ℕ → ℕ → Type 0
field6 = then_field complete_bytes complete_field all_field

abbrev Shown6 : Type 0
Shown6 = Option ℕ × (ℕ × List Run)

abbrev show6 : Shown6 → List ℕ
show6 x = complete_bytes x.0 ++ all_shown x.1

abbrev good6 : ℕ → Shown6 → Type 0
good6 version x = FitsVersion version x.0 × all_good x.1

abbrev Kept5 : Type 0
Kept5 = ℤ × Kept6

abbrev S5 : Kept5 → List ℕ
S5 x = start_bytes x.0 ++ S6 x.1

abbrev F5 : ℕ → Kept5 → Type 0
F5 version x = IsStart x.0 × F6 version x.1

abbrev field5 : Kept5 → ℕ → ℕ → Type 0
field5 = then_field start_bytes (whole_field start_bytes) field6

abbrev Shown5 : Type 0
Shown5 = ℤ × Shown6

abbrev show5 : Shown5 → List ℕ
show5 x = start_bytes x.0 ++ show6 x.1

abbrev good5 : ℕ → Shown5 → Type 0
good5 version x = IsStart x.0 × good6 version x.1

abbrev Kept4 : Type 0
Kept4 = ℤ × Kept5

abbrev S4 : Kept4 → List ℕ
S4 x = epoch_bytes x.0 ++ S5 x.1

abbrev F4 : ℕ → Kept4 → Type 0
F4 version x = IsEpoch x.0 × F5 version x.1

abbrev field4 : Kept4 → ℕ → ℕ → Type 0
field4 = then_field epoch_bytes (whole_field epoch_bytes) field5

abbrev Shown4 : Type 0
Shown4 = ℤ × Shown5

abbrev show4 : Shown4 → List ℕ
show4 x = epoch_bytes x.0 ++ show5 x.1

abbrev good4 : ℕ → Shown4 → Type 0
good4 version x = IsEpoch x.0 × good5 version x.1

abbrev Kept3 : Type 0
Kept3 = ℤ × Kept4

abbrev S3 : Kept3 → List ℕ
S3 x = epoch_bytes x.0 ++ S4 x.1

abbrev F3 : ℕ → Kept3 → Type 0
F3 version x = IsEpoch x.0 × F4 version x.1

abbrev field3 : Kept3 → ℕ → ℕ → Type 0
field3 = then_field epoch_bytes (whole_field epoch_bytes) field4

abbrev Shown3 : Type 0
Shown3 = ℤ × Shown4

abbrev show3 : Shown3 → List ℕ
show3 x = epoch_bytes x.0 ++ show4 x.1

abbrev good3 : ℕ → Shown3 → Type 0
good3 version x = IsEpoch x.0 × good4 version x.1

abbrev Kept2 : Type 0
Kept2 = ℕ × Kept3

abbrev IsSnapshot : ℕ → Type 0
IsSnapshot n = n < 2 ^ 64

abbrev S2 : Kept2 → List ℕ
S2 x = to_be_bytes w64 x.0 ++ S3 x.1

abbrev F2 : ℕ → Kept2 → Type 0
F2 version x = IsSnapshot x.0 × F3 version x.1

abbrev field2 : Kept2 → ℕ → ℕ → Type 0
field2 = then_field (to_be_bytes w64) (whole_field (to_be_bytes w64)) field3

abbrev Shown2 : Type 0
Shown2 = ℕ × Shown3

abbrev show2 : Shown2 → List ℕ
show2 x = to_be_bytes w64 x.0 ++ show3 x.1

abbrev good2 : ℕ → Shown2 → Type 0
good2 version x = IsSnapshot x.0 × good3 version x.1

abbrev S1 : Parts → List ℕ
S1 x = key_bytes x.0 ++ S2 x.1

abbrev F1 : ℕ → Parts → Type 0
F1 version x = IsKey x.0 × F2 version x.1

abbrev field1 : Parts → ℕ → ℕ → Type 0
field1 = then_field key_bytes key_field field2

abbrev Shown1 : Type 0
Shown1 = KeyParts × Shown2

abbrev show1 : Shown1 → List ℕ
show1 x = key_bytes x.0 ++ show2 x.1

abbrev good1 : ℕ → Shown1 → Type 0
good1 version x = IsKey x.0 × good2 version x.1

module _ (version : ℕ) (low : version < 2) where
  abbrev read6 : At → Result (Kept6 × At) ℕ
  read6 = then_at (complete_at version) all_runs_at

  spells6 : Spells read6 S6 (F6 version)
  spells6 = then_spells (complete_at version) all_runs_at complete_bytes runs_bytes (FitsVersion version) AreAllRuns (complete_spells version low) all_runs_spells

  fails6 : Fails read6 S6 (F6 version) field6 show6 (good6 version)
  fails6 = then_fails (complete_at version) all_runs_at complete_bytes runs_bytes (FitsVersion version) AreAllRuns complete_field all_field all_shown all_good
      (complete_spells version low) (complete_inside version) (complete_fails version low) all_fails

  inside6 : Inside S6 (F6 version) field6
  inside6 = then_inside complete_bytes runs_bytes (FitsVersion version) AreAllRuns complete_field all_field (complete_inside version) all_inside

  abbrev read5 : At → Result (Kept5 × At) ℕ
  read5 = then_at start_at read6

  spells5 : Spells read5 S5 (F5 version)
  spells5 = then_spells start_at read6 start_bytes S6 IsStart (F6 version) start_spells spells6

  fails5 : Fails read5 S5 (F5 version) field5 show5 (good5 version)
  fails5 = then_fails start_at read6 start_bytes S6 IsStart (F6 version) (whole_field start_bytes) field6 show6 (good6 version) start_spells start_inside start_fails fails6

  inside5 : Inside S5 (F5 version) field5
  inside5 = then_inside start_bytes S6 IsStart (F6 version) (whole_field start_bytes) field6 start_inside inside6

  abbrev read4 : At → Result (Kept4 × At) ℕ
  read4 = then_at epoch_at read5

  spells4 : Spells read4 S4 (F4 version)
  spells4 = then_spells epoch_at read5 epoch_bytes S5 IsEpoch (F5 version) epoch_spells spells5

  fails4 : Fails read4 S4 (F4 version) field4 show4 (good4 version)
  fails4 = then_fails epoch_at read5 epoch_bytes S5 IsEpoch (F5 version) (whole_field epoch_bytes) field5 show5 (good5 version) epoch_spells epoch_inside epoch_fails fails5

  inside4 : Inside S4 (F4 version) field4
  inside4 = then_inside epoch_bytes S5 IsEpoch (F5 version) (whole_field epoch_bytes) field5 epoch_inside inside5

  abbrev read3 : At → Result (Kept3 × At) ℕ
  read3 = then_at epoch_at read4

  fails3 : Fails read3 S3 (F3 version) field3 show3 (good3 version)
  fails3 = then_fails epoch_at read4 epoch_bytes S4 IsEpoch (F4 version) (whole_field epoch_bytes) field4 show4 (good4 version) epoch_spells epoch_inside epoch_fails fails4

  inside3 : Inside S3 (F3 version) field3
  inside3 = then_inside epoch_bytes S4 IsEpoch (F4 version) (whole_field epoch_bytes) field4 epoch_inside inside4

  abbrev read2 : At → Result (Kept2 × At) ℕ
  read2 = then_at (number_at w64) read3

  fails2 : Fails read2 S2 (F2 version) field2 show2 (good2 version)
  fails2 = then_fails (number_at w64) read3 (to_be_bytes w64) S3 IsSnapshot (F3 version) (whole_field (to_be_bytes w64)) field3 show3 (good3 version)
      (number_spells w64 (2 ^ 64) wide64) snapshot_inside snapshot_fails fails3

  inside2 : Inside S2 (F2 version) field2
  inside2 = then_inside (to_be_bytes w64) S3 IsSnapshot (F3 version) (whole_field (to_be_bytes w64)) field3 snapshot_inside inside3

  abbrev pub read1 : At → Result (Parts × At) ℕ
  read1 = then_at key_at read2

  pub fails1 : Fails read1 S1 (F1 version) field1 show1 (good1 version)
  fails1 = then_fails key_at read2 key_bytes S2 IsKey (F2 version) key_field field2 show2 (good2 version) key_spells key_inside key_fails fails2

  pub inside1 : Inside S1 (F1 version) field1
  inside1 = then_inside key_bytes S2 IsKey (F2 version) key_field field2 key_inside inside2

-- a state, and a number of runs that stands before its runs
abbrev pub state_shown : StateParts × ℕ → List ℕ
state_shown x = counted_state x.1 x.0

abbrev pub state_good : ℕ → StateParts × ℕ → Type 0
state_good version x = FitsState version x.0 × IsCounted x.1 x.0.runs

shown_state : Shown1 → StateParts × ℕ
shown_state x = (
  record {
    key = x.0;
    snapshot = x.1.0;
    state_epoch = x.1.1.0;
    leader_epoch = x.1.1.1.0;
    start = x.1.1.1.1.0;
    complete = x.1.1.1.1.1.0;
    runs = x.1.1.1.1.1.1.1;
  },
  x.1.1.1.1.1.1.0,
)

good_state : (version : ℕ) (x : Shown1) → good1 version x → state_good version (shown_state x)
unfolding shown_state
good_state version x h =
    let told = h.1.1.1.1.1.0 in
    let all = h.1.1.1.1.1.1 in (
      (
        record {
          key = h.0;
          snapshot = h.1.0;
          state_epoch = h.1.1.0;
          leader_epoch = h.1.1.1.0;
          start = h.1.1.1.1.0;
          complete = told.0;
          runs = all.0.stored;
          few = all.0.few;
        },
        told.1,
      ),
      all.1,
    )

same_state : (x : Shown1) → state_shown (shown_state x) ≡ show1 x
unfolding shown_state
same_state x = refl

abbrev pub state_fields : StateParts → Parts
state_fields s = (s.key, (s.snapshot, (s.state_epoch, (s.leader_epoch, (s.start, (s.complete, s.runs))))))

abbrev pub state_field : StateParts → ℕ → ℕ → Type 0
state_field s = field1 (state_fields s)

parts_fit : (version : ℕ) (s : StateParts) → FitsState version s → F1 version (state_fields s)
parts_fit version s h =
    (h.0.key, (h.0.snapshot, (h.0.state_epoch, (h.0.leader_epoch, (h.0.start, ((h.0.complete, h.1), record { stored = h.0.runs; few = h.0.few }))))))

state_parts : (version : ℕ) → version < 2 → Fails (state_at version) state_bytes (FitsState version) state_field show1 (good1 version)
unfolding state_at
state_parts version low = as_fails state_of_parts state_fields (read1 version low) S1 state_bytes (F1 version) (FitsState version) field1 show1 (good1 version)
    (λ s h. (parts_fit version s h, refl)) (fails1 version low)

pub state_fails : (version : ℕ) → version < 2 → Fails (state_at version) state_bytes (FitsState version) state_field state_shown (state_good version)
state_fails version low =
    let parts = state_parts version low in
    record {
      some = shown_state parts.some;
      some_good = good_state version parts.some parts.some_good;
      ahead = parts.ahead;
      moves = parts.moves;
      front = λ at place bytes err. shown_as shown_state show1 state_shown (good1 version) (state_good version) same_state (good_state version) at place (parts.front at place bytes err);
      none = parts.none;
    }

pub state_inside : (version : ℕ) → version < 2 → Inside state_bytes (FitsState version) state_field
state_inside version low s p e h f = inside1 version low (state_fields s) p e (parts_fit version s h) f

-- ---- fields told by their sizes

key_split : (key : KeyParts) (sizes : List ℕ) (n p e : ℕ) → IsFieldIn (key_sizes key sizes) n p e
    → key_field key p e ⊎ ((length (key_bytes key) ≤ p) × ((length (key_bytes key) ≤ e) × IsFieldIn sizes n (p - length (key_bytes key)) (e - length (key_bytes key))))
key_split key sizes n p e field =
    let a : ℕ = length (name_bytes key.group) in
    let b : ℕ = length key.topic in
    let k : ℕ = length (key_bytes key) in
    let name : 2 + length key.group ≡ a = sym (sized (to_be_bytes w16 (length key.group)) key.group 2 refl) in
    let four : length (to_be_bytes w32 key.part) ≡ 4 = refl in
    let whole : k ≡ a + (b + 4) =
    omega (arith, length-append (name_bytes key.group) (key.topic ++ to_be_bytes w32 key.part), length-append key.topic (to_be_bytes w32 key.part), four) in
    elim field [
      | inl f ↦ inl (inl (f.0, f.1 ∙ name))
      | inr f ↦
          let le : a ≤ p = omega (arith, f.0, name) in
          let le2 : a ≤ e = omega (arith, f.1, name) in
          elim f.2 [
            | inl g ↦ inl (inr (le, (le2, inl (omega (arith, g.0, name), omega (arith, g.1, name)))))
            | inr g ↦ elim g.2 [
              | inl h ↦ inl (inr (le, (le2, inr (omega (arith, g.0, name), (omega (arith, g.1, name), (omega (arith, h.0, name), omega (arith, h.1, name, four)))))))
              | inr h ↦
                  let from : p - (2 + length key.group) - b - 4 ≡ p - k = omega (arith, whole, name) in
                  let to : e - (2 + length key.group) - b - 4 ≡ e - k = omega (arith, whole, name) in
                  inr (
                    omega (arith, whole, name, f.0, g.0, h.0),
                    (
                      omega (arith, whole, name, f.1, g.1, h.1),
                      subst (λ (q : ℕ). IsFieldIn sizes n (p - k) q) to (subst (λ (q : ℕ). IsFieldIn sizes n q (e - (2 + length key.group) - b - 4)) from h.2),
                    ),
                  )
            ]
          ]
    ]

-- the number of complete rows, if it is told, and the runs
complete_tail : (c : Option ℕ) (runs : List Run) (p e : ℕ) → IsFieldIn (complete_sizes c (4 ∷ [])) (length runs) p e → field6 (c, runs) p e
complete_tail None runs p e field =
    let from : p ≡ p - 0 = omega arith in
    let to : e ≡ e - 0 = omega arith in
    inr (omega arith, (omega arith, subst (λ (q : ℕ). all_field runs (p - 0) q) to (subst (λ (q : ℕ). all_field runs q e) from field)))
complete_tail (Some n) runs p e (inl f) = inl f
complete_tail (Some n) runs p e (inr f) = inr (f.0, (f.1, f.2))

tail_field : (s : StateParts) (p e : ℕ) → IsFieldIn (8 ∷ 4 ∷ 4 ∷ 8 ∷ complete_sizes s.complete (4 ∷ [])) (length s.runs) p e
    → field2 (s.snapshot, (s.state_epoch, (s.leader_epoch, (s.start, (s.complete, s.runs))))) p e
tail_field s p e (inl f) = inl f
tail_field s p e (inr f) = inr (
  f.0,
  (
    f.1,
    elim f.2 [
      | inl g ↦ inl g
      | inr g ↦ inr (
        g.0,
        (
          g.1,
          elim g.2 [
            | inl h ↦ inl h
            | inr h ↦ inr (
              h.0,
              (
                h.1,
                elim h.2 [
                  | inl i ↦ inl i
                  | inr i ↦ inr (i.0, (i.1, complete_tail s.complete s.runs (p - 8 - 4 - 4 - 8) (e - 8 - 4 - 4 - 8) i.2))
                ],
              ),
            )
          ],
        ),
      )
    ],
  ),
)

pub of_state_field : (s : StateParts) (p e : ℕ) → IsFieldIn (state_sizes s) (length s.runs) p e → state_field s p e
of_state_field s p e field = elim (key_split s.key (8 ∷ 4 ∷ 4 ∷ 8 ∷ complete_sizes s.complete (4 ∷ [])) (length s.runs) p e field) [
  | inl f ↦ inl f
  | inr f ↦ inr (f.0, (f.1.0, tail_field s (p - length (key_bytes s.key)) (e - length (key_bytes s.key)) f.1.1))
]

pub of_key_field : (key : KeyParts) (p e : ℕ) → IsFieldIn (key_sizes key []) 0 p e → key_field key p e
of_key_field key p e field = elim (key_split key [] 0 p e field) [
  | inl f ↦ f
  | inr f ↦ absurd f.1.1
]

pub of_number_field : (n p e : ℕ) → IsFieldIn (8 ∷ []) 0 p e → whole_field (to_be_bytes w64) n p e
of_number_field n p e (inl f) = (f.0, (let size : length (to_be_bytes w64 n) ≡ 8 = refl in omega (arith, f.1, size)))
of_number_field n p e (inr f) = absurd f.2
