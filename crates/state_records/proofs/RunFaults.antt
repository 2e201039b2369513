-- How the reader of runs fails: what was read before the fault begins some list of so many runs, unless no offset is left.
use Rattle.std.proofs.Common.{◌≡◌, ℕ, zero, suc, ◌+◌, ◌-◌, ◌^◌, ◌<◌, ◌≤◌, ◌⊎◌, inl, inr, Bool, true, false, cond, List, [], ◌∷◌, ◌++◌}
use Rattle.std.proofs.Common.{length, take, Option, Some, None, Result, Ok, Err, refl, sym, ap, subst, ◌∙◌, append_assoc, arith}
use Rattle.std.specs.Prelude.{nat_lt}
use Rattle.std.specs.Int.{Width, w16, w64, byte_len, from_be_bytes, to_be_bytes}
use Rattle.std.specs.List.{flat_map}
use Rattle.std.proofs.lemmas.Bool.{cases_order}
use Rattle.std.proofs.lemmas.List.{length-append, take_at}
use Rattle.std.proofs.lemmas.List.Concat.{flat_map-cons}
use Rattle.share_model.specs.Rows.{state_number, state_of}
use Rattle.share_model.specs.declared.row.Row.{Row}
use Rattle.share_model.specs.declared.row.RowState.{RowState}
use Rattle.share_model.specs.declared.row.RowState.TheVariants.{Available, Acknowledged, Archived}
use Rattle.share_model.specs.declared.run.Run.{Run}
use Rattle.state_records.specs.Spelling.{run_bytes}
use Rattle.state_records.specs.Faults.{LeavesTooFew, IsRunField, IsRunsField}
use Rattle.flex_fields.specs.Reading.{At, past}
use Rattle.state_records.specs.Reading.{◌>>=◌, only_at, byte_at, number_at, below_at, row_state_at, is_behind, is_backward, could_join, run_at, runs_at}
use Rattle.state_records.proofs.Spells.{IsBytes, bind_ok, ok_is}
use Rattle.state_records.proofs.Stored.{all64, row_state_spells, InOrder, IsNext, AreNext, run_read, run_spells, run_in_order, next_runs, lt_yes, first_spells, forward}
use Rattle.state_records.proofs.Begins.{bind_err, not_both, agrees, take-behind, Front, one_reading}
use Rattle.state_records.proofs.FieldFaults.{FailsHere, Moving, number_here, number_moves, only_here, only_moves, byte_moves, byte_here, found_here, found_moves}

-- ---- lists of so many runs, as far as there are offsets

abbrev pub TooFew : Option Run → List Run → ℕ → Type 0
TooFew None runs more = LeavesTooFew runs more
TooFew (Some run) runs more = LeavesTooFew (run ∷ runs) more

pub record Ends (n : ℕ) (before : Option Run) (runs : List Run) : Type 0 where
  pub next : AreNext (length runs) before runs
  pub few : length runs ≤ n
  pub counted : (n ≡ length runs) ⊎ TooFew before runs (n - length runs)

too_few-cons : (before : Option Run) (run : Run) (runs : List Run) (more : ℕ) → TooFew (Some run) runs more → TooFew before (run ∷ runs) more
too_few-cons None run runs more h = h
too_few-cons (Some other) run runs more h = h

ends_cons : (n : ℕ) (before : Option Run) (run : Run) (runs : List Run) → IsNext before run → Ends n (Some run) runs → Ends (suc n) before (run ∷ runs)
ends_cons n before run runs next ends = record {
  next = next_runs (length runs) before run runs next ends.next;
  few = let f = ends.few in omega (arith, f);
  counted = elim ends.counted [
    | inl e ↦ inl (ap suc e)
    | inr h ↦ inr (too_few-cons before run runs (suc n - suc (length runs))
        (subst (λ (k : ℕ). TooFew (Some run) runs k) (let e : n - length runs ≡ suc n - suc (length runs) = omega arith in e) h))
  ];
}

nothing : (before : Option Run) → AreNext 0 before []
nothing None = record { count = refl; behind = tt; stored = (tt, tt) }
nothing (Some run) = record { count = refl; behind = tt; stored = (tt, tt) }

other_state : RowState → RowState
other_state Available = Acknowledged
other_state Acknowledged = Available
other_state Archived = Available

differs : (s : RowState) → other_state s ≡ s → ⊥
unfolding other_state
differs Available e = absurd cc
differs Acknowledged e = absurd cc
differs Archived e = absurd cc

other_count : ℕ → ℕ
other_count zero = 1
other_count (suc n) = 0

differ_counts : (n : ℕ) → other_count n ≡ n → ⊥
unfolding other_count
differ_counts zero e = absurd (omega (arith, e))
differ_counts (suc n) e = absurd (omega (arith, e))

low_count : (n : ℕ) → other_count n < 2 ^ 15
unfolding other_count
low_count zero = omega arith
low_count (suc n) = omega arith

-- a run of these offsets that may stand behind another
state_behind : Option Run → RowState
state_behind None = Available
state_behind (Some run) = other_state run.state

count_behind : Option Run → ℕ
count_behind None = 0
count_behind (Some run) = other_count run.count

IsAfter : Option Run → ℕ → Type 0
IsAfter None first = Unit {0}
IsAfter (Some run) first = run.last < first

after_test : (before : Option Run) (first : ℕ) → is_behind before first ≡ true → IsAfter before first
unfolding IsAfter
after_test None first e = tt
after_test (Some run) first e = lt_yes run.last first e

pub of_offsets : Option Run → ℕ → ℕ → Run
of_offsets before first last = record { first = first; last = last; state = state_behind before; count = 0 }

pub of_state : Option Run → ℕ → ℕ → RowState → Run
of_state before first last state = record { first = first; last = last; state = state; count = count_behind before }

of_offsets_order : (before : Option Run) (first last : ℕ) → IsAfter before first → InOrder before (of_offsets before first last)
unfolding of_offsets state_behind IsAfter
of_offsets_order None first last h = tt
of_offsets_order (Some run) first last h = (h, λ e f. differs run.state (ap (λ (row : Row). row.state) f))

of_state_order : (before : Option Run) (first last : ℕ) (state : RowState) → IsAfter before first → InOrder before (of_state before first last state)
unfolding of_state count_behind IsAfter
of_state_order None first last state h = tt
of_state_order (Some run) first last state h = (h, λ e f. differ_counts run.count (ap (λ (row : Row). row.count) f))

count_low : (before : Option Run) → count_behind before < 2 ^ 15
unfolding count_behind
count_low None = omega arith
count_low (Some run) = low_count run.count

of_offsets_next : (before : Option Run) (first last : ℕ) → IsAfter before first → first ≤ last → last < 2 ^ 63 → IsNext before (of_offsets before first last)
unfolding of_offsets
of_offsets_next before first last h le low = record { order = le; stored = (low, omega arith); behind = of_offsets_order before first last h }

of_state_next : (before : Option Run) (first last : ℕ) (state : RowState) → IsAfter before first → first ≤ last → last < 2 ^ 63 → IsNext before (of_state before first last state)
unfolding of_state
of_state_next before first last state h le low = record { order = le; stored = (low, count_low before); behind = of_state_order before first last state h }

-- the least offset behind
least : Option Run → ℕ
least None = 0
least (Some run) = suc run.last

after_least : (before : Option Run) → IsAfter before (least before)
unfolding least IsAfter
after_least None = tt
after_least (Some run) = omega arith

too_few-least : (before : Option Run) (n : ℕ) → 2 ^ 63 ≤ least before → TooFew before [] (suc n - length {A = Run} [])
unfolding least
too_few-least None n h = absurd (omega (arith, h))
too_few-least (Some run) n h = omega (arith, h)

pub completed : (n : ℕ) (before : Option Run) → (runs : List Run) × Ends n before runs
completed zero before = ([], record { next = nothing before; few = omega arith; counted = inl refl })
completed (suc n) before = go (completed n (Some (of_offsets before (least before) (least before)))) (cases_order (least before) (2 ^ 63)) where
  run : Run
  run = of_offsets before (least before) (least before)

  full : 2 ^ 63 ≤ least before → (runs : List Run) × Ends (suc n) before runs
  full h = ([], record { next = nothing before; few = omega arith; counted = inr (too_few-least before n h) })

  go : ((runs : List Run) × Ends n (Some run) runs) → (least before ≡ 2 ^ 63) ⊎ ((least before < 2 ^ 63) ⊎ (2 ^ 63 < least before)) → (runs : List Run) × Ends (suc n) before runs
  go rest (inl e) = full (omega (arith, e))
  go rest (inr (inr h)) = full (omega (arith, h))
  go rest (inr (inl h)) =
      (run ∷ rest.0, ends_cons n before run rest.0 (of_offsets_next before (least before) (least before) (after_least before) (omega arith) h) rest.1)

-- ---- one run

abbrev Rest : Type 0
Rest = Result (Run × At) ℕ

abbrev pub first_at : Option Run → At → Result (ℕ × At) ℕ
first_at before at = only_at (is_behind before) (below_at w64 (2 ^ 63)) at

first_here : (before : Option Run) → FailsHere (first_at before)
first_here before = only_here (is_behind before) (below_at w64 (2 ^ 63)) (only_here (λ n. nat_lt n (2 ^ 63)) (number_at w64) (number_here w64))

first_moves : (before : Option Run) → Moving (first_at before)
first_moves before = only_moves (is_behind before) (below_at w64 (2 ^ 63)) (only_moves (λ n. nat_lt n (2 ^ 63)) (number_at w64) (number_moves w64))

-- the three ways to fail behind the first byte
pub record FailsAtLast (before : Option Run) (at : At) (place : ℕ) : Type 0 where
  pub first : ℕ
  pub mid1 : At
  pub one : first_at before at ≡ Ok (first, mid1)
  pub err : number_at w64 mid1 ≡ Err place

pub record FailsAtState (before : Option Run) (at : At) (place : ℕ) : Type 0 where
  pub first : ℕ
  pub last : ℕ
  pub mid1 : At
  pub mid2 : At
  pub one : first_at before at ≡ Ok (first, mid1)
  pub two : number_at w64 mid1 ≡ Ok (last, mid2)
  pub order : is_backward first last ≡ false
  pub err : row_state_at mid2 ≡ Err place

pub record FailsAtCount (before : Option Run) (at : At) (place : ℕ) : Type 0 where
  pub first : ℕ
  pub last : ℕ
  pub state : RowState
  pub mid1 : At
  pub mid2 : At
  pub mid3 : At
  pub one : first_at before at ≡ Ok (first, mid1)
  pub two : number_at w64 mid1 ≡ Ok (last, mid2)
  pub order : is_backward first last ≡ false
  pub three : row_state_at mid2 ≡ Ok (state, mid3)
  pub err : below_at w16 (2 ^ 15) mid3 ≡ Err place

abbrev pub RunFault : Option Run → At → ℕ → Type 0
RunFault before at place = (place ≡ at.place) ⊎ (FailsAtLast before at place ⊎ (FailsAtState before at place ⊎ FailsAtCount before at place))

made : ℕ → ℕ → RowState → ℕ → Run
made first last state count = record { first = first; last = last; state = state; count = count }

with_count : Option Run → ℕ → ℕ → ℕ → RowState → ℕ × At → Rest
with_count before place first last state count =
    cond (could_join before (made first last state count.0)) (Err place) (Ok (made first last state count.0, count.1))

with_state : Option Run → ℕ → ℕ → ℕ → RowState × At → Rest
with_state before place first last state = below_at w16 (2 ^ 15) state.1 >>= with_count before place first last state.0

with_last : Option Run → ℕ → ℕ → ℕ × At → Rest
with_last before place first last = cond (is_backward first last.0) (Err place) (row_state_at last.1 >>= with_state before place first last.0)

with_first : Option Run → ℕ → ℕ × At → Rest
with_first before place first = number_at w64 first.1 >>= with_last before place first.0

guard_err : {A : Type 0} (b : Bool) (d : ℕ) (r : Result A ℕ) (place : ℕ) → cond b (Err d) r ≡ Err place → (place ≡ d) ⊎ ((b ≡ false) × (r ≡ Err place))
guard_err true d r place e = inl (let same : d ≡ place = cc in sym same)
guard_err false d r place e = inr (refl, e)

pub run_fault : (before : Option Run) (at : At) (place : ℕ) → run_at before at ≡ Err place → RunFault before at place
unfolding run_at with_first with_last with_state with_count made
run_fault before at place e = elim (bind_err (first_at before at) (with_first before at.place) place e) [
  | inl h ↦ inl (first_here before at place h)
  | inr a ↦ elim (bind_err (number_at w64 a.0.1) (with_last before at.place a.0.0) place a.2) [
    | inl h ↦ inr (inl (record { first = a.0.0; mid1 = a.0.1; one = a.1; err = h }))
    | inr b ↦ elim (guard_err (is_backward a.0.0 b.0.0) at.place (row_state_at b.0.1 >>= with_state before at.place a.0.0 b.0.0) place b.2) [
      | inl h ↦ inl h
      | inr g ↦ elim (bind_err (row_state_at b.0.1) (with_state before at.place a.0.0 b.0.0) place g.1) [
        | inl h ↦ inr (inr (inl (record { first = a.0.0; last = b.0.0; mid1 = a.0.1; mid2 = b.0.1; one = a.1; two = b.1; order = g.0; err = h })))
        | inr c ↦ elim (bind_err (below_at w16 (2 ^ 15) c.0.1) (with_count before at.place a.0.0 b.0.0 c.0.0) place c.2) [
          | inl h ↦ inr (inr (inr (record {
            first = a.0.0;
            last = b.0.0;
            state = c.0.0;
            mid1 = a.0.1;
            mid2 = b.0.1;
            mid3 = c.0.1;
            one = a.1;
            two = b.1;
            order = g.0;
            three = c.1;
            err = h;
          })))
          | inr d ↦ elim (guard_err (could_join before (made a.0.0 b.0.0 c.0.0 d.0.0)) at.place (Ok (made a.0.0 b.0.0 c.0.0 d.0.0, d.0.1)) place d.2) [
            | inl h ↦ inl h
            | inr k ↦ absurd cc
          ]
        ]
      ]
    ]
  ]
]

-- ---- where a run fails

pub sized : (x y : List ℕ) (k : ℕ) → length x ≡ k → length (x ++ y) ≡ k + length y
sized x y k e = omega (arith, length-append x y, e)

below16_here : FailsHere (below_at w16 (2 ^ 15))
below16_here = only_here (λ n. nat_lt n (2 ^ 15)) (number_at w16) (number_here w16)

below16_moves : Moving (below_at w16 (2 ^ 15))
below16_moves = only_moves (λ n. nat_lt n (2 ^ 15)) (number_at w16) (number_moves w16)

state_here : FailsHere row_state_at
unfolding row_state_at
state_here = found_here state_of byte_at byte_here

state_moves : Moving row_state_at
unfolding row_state_at
state_moves = found_moves state_of byte_at byte_moves

run_moves : (before : Option Run) → Moving (run_at before)
run_moves before at run after e =
    let r = run_read before at run after e in
    omega (
      arith,
      first_moves before at run.first r.mid1 r.first,
      number_moves w64 r.mid1 run.last r.mid2 r.last,
      state_moves r.mid2 run.state r.mid3 r.state,
      below16_moves r.mid3 run.count after r.count,
    )

-- the first offset that was read
record FirstTaken (before : Option Run) (at : At) (first : ℕ) (mid : At) : Type 0 where
  split : at.left ≡ to_be_bytes w64 first ++ mid.left
  rest_fits : IsBytes mid.left
  place : mid.place ≡ at.place + 8
  low : first < 2 ^ 63
  after : IsAfter before first

first_taken : (before : Option Run) (at : At) (first : ℕ) (mid : At) → IsBytes at.left → first_at before at ≡ Ok (first, mid) → FirstTaken before at first mid
first_taken before at first mid bytes e =
    let t = (first_spells before).takes at first mid bytes e in
    let size : length (to_be_bytes w64 first ++ mid.left) ≡ 8 + length mid.left = sized (to_be_bytes w64 first) mid.left 8 refl in
    record {
      split = t.0.parts;
      rest_fits = t.0.rest_fits;
      place = omega (arith, first_moves before at first mid e, ap length t.0.parts, size);
      low = t.1.0;
      after = after_test before first t.1.1;
    }

-- both offsets that were read
record OffsetsTaken (before : Option Run) (at : At) (first last : ℕ) (mid : At) : Type 0 where
  split : at.left ≡ (to_be_bytes w64 first ++ to_be_bytes w64 last) ++ mid.left
  rest_fits : IsBytes mid.left
  place : mid.place ≡ at.place + 16
  order : first ≤ last
  low : last < 2 ^ 63
  after : IsAfter before first

offsets_taken : (before : Option Run) (at : At) (first last : ℕ) (mid1 mid2 : At) → IsBytes at.left → first_at before at ≡ Ok (first, mid1)
    → number_at w64 mid1 ≡ Ok (last, mid2) → is_backward first last ≡ false → OffsetsTaken before at first last mid2
offsets_taken before at first last mid1 mid2 bytes e f order =
    let one = first_taken before at first mid1 bytes e in
    let t = all64.takes mid1 last mid2 one.rest_fits f in
    let size : length (to_be_bytes w64 last ++ mid2.left) ≡ 8 + length mid2.left = sized (to_be_bytes w64 last) mid2.left 8 refl in
    record {
      split = one.split ∙ ap (λ (l : List ℕ). to_be_bytes w64 first ++ l) t.0.parts;
      rest_fits = t.0.rest_fits;
      place = omega (arith, one.place, number_moves w64 mid1 last mid2 f, ap length t.0.parts, size);
      order = (forward first last order).0;
      low = (forward first last order).1;
      after = one.after;
    }

record StateTaken (before : Option Run) (at : At) (first last : ℕ) (state : RowState) (mid : At) : Type 0 where
  split : at.left ≡ (to_be_bytes w64 first ++ (to_be_bytes w64 last ++ (state_number state ∷ []))) ++ mid.left
  place : mid.place ≡ at.place + 17

state_taken : (before : Option Run) (at : At) (first last : ℕ) (state : RowState) (mid2 mid3 : At) → OffsetsTaken before at first last mid2
    → row_state_at mid2 ≡ Ok (state, mid3) → StateTaken before at first last state mid3
state_taken before at first last state mid2 mid3 two e =
    let t = row_state_spells.takes mid2 state mid3 two.rest_fits e in
    let size : length ((state_number state ∷ []) ++ mid3.left) ≡ 1 + length mid3.left = sized ((state_number state ∷ [])) mid3.left 1 refl in
    record {
      split = two.split ∙ ap (λ (l : List ℕ). (to_be_bytes w64 first ++ to_be_bytes w64 last) ++ l) t.0.parts;
      place = omega (arith, two.place, state_moves mid2 state mid3 e, ap length t.0.parts, size);
    }

-- how far behind its first byte
run_place : (before : Option Run) (at : At) (place : ℕ) → IsBytes at.left → RunFault before at place → (at.place ≤ place) × (place ≤ at.place + 17)
run_place before at place bytes (inl e) = (omega (arith, e), omega (arith, e))
run_place before at place bytes (inr (inl f)) =
    let h = number_here w64 f.mid1 place f.err in
    let t = first_taken before at f.first f.mid1 bytes f.one in
    (omega (arith, h, t.place), omega (arith, h, t.place))
run_place before at place bytes (inr (inr (inl f))) =
    let h = state_here f.mid2 place f.err in
    let t = offsets_taken before at f.first f.last f.mid1 f.mid2 bytes f.one f.two f.order in
    (omega (arith, h, t.place), omega (arith, h, t.place))
run_place before at place bytes (inr (inr (inr f))) =
    let h = below16_here f.mid3 place f.err in
    let t = offsets_taken before at f.first f.last f.mid1 f.mid2 bytes f.one f.two f.order in
    let s = state_taken before at f.first f.last f.state f.mid2 f.mid3 t f.three in
    (omega (arith, h, s.place), omega (arith, h, s.place))

-- ---- what stands before the fault

text_front : (text tail left more others : List ℕ) (k : ℕ) → left ≡ text ++ tail → length text ≡ k → (text ++ more) ++ others ≡ take k left ++ (more ++ others)
text_front text tail left more others k split size =
    append_assoc text more others ∙ ap (λ (l : List ℕ). l ++ (more ++ others)) (sym (ap (take k) split ∙ take_at text tail k size))

abbrev pub RunsFront : ℕ → Option Run → At → ℕ → Type 0
RunsFront n before at place = Front (λ (runs : List Run). flat_map run_bytes runs) (λ runs. Ends n before runs) at place

module _ (n : ℕ) (before : Option Run) (at : At) (place : ℕ) where
  -- this text stands there, and begins a run that may stand there
  begun : (run : Run) (text tail more : List ℕ) (k : ℕ) → IsNext before run → place ≡ at.place + k → at.left ≡ text ++ tail → length text ≡ k → run_bytes run ≡ text ++ more
      → RunsFront (suc n) before at place
  begun run text tail more k next is split size bytes =
      let rest = completed n (Some run) in
      record {
        taken = k;
        place_is = is;
        within = omega (arith, ap length split, length-append text tail, size);
        whole = run ∷ rest.0;
        is = ends_cons n before run rest.0 next rest.1;
        rest = more ++ flat_map run_bytes rest.0;
        bytes = flat_map-cons run_bytes run rest.0 ∙ ap (λ (l : List ℕ). l ++ flat_map run_bytes rest.0) bytes
            ∙ text_front text tail at.left more (flat_map run_bytes rest.0) k split size;
      }

  run_front : IsBytes at.left → RunFault before at place → RunsFront (suc n) before at place
  unfolding of_offsets of_state
  run_front bytes (inl e) =
      let all = completed (suc n) before in
      record { taken = 0; place_is = omega (arith, e); within = omega arith; whole = all.0; is = all.1; rest = flat_map run_bytes all.0; bytes = refl }
  run_front bytes (inr (inl f)) =
      let t = first_taken before at f.first f.mid1 bytes f.one in
      let run = of_offsets before f.first f.first in
      begun run (to_be_bytes w64 f.first) f.mid1.left (to_be_bytes w64 f.first ++ ((state_number run.state ∷ []) ++ to_be_bytes w16 run.count)) 8
      (of_offsets_next before f.first f.first t.after (omega arith) t.low) (number_here w64 f.mid1 place f.err ∙ t.place) t.split refl refl
  run_front bytes (inr (inr (inl f))) =
      let t = offsets_taken before at f.first f.last f.mid1 f.mid2 bytes f.one f.two f.order in
      let run = of_offsets before f.first f.last in
      begun run (to_be_bytes w64 f.first ++ to_be_bytes w64 f.last) f.mid2.left ((state_number run.state ∷ []) ++ to_be_bytes w16 run.count) 16
      (of_offsets_next before f.first f.last t.after t.order t.low) (state_here f.mid2 place f.err ∙ t.place) t.split refl refl
  run_front bytes (inr (inr (inr f))) =
      let t = offsets_taken before at f.first f.last f.mid1 f.mid2 bytes f.one f.two f.order in
      let s = state_taken before at f.first f.last f.state f.mid2 f.mid3 t f.three in
      let run = of_state before f.first f.last f.state in
      begun run (to_be_bytes w64 f.first ++ (to_be_bytes w64 f.last ++ (state_number f.state ∷ []))) f.mid3.left (to_be_bytes w16 run.count) 17
      (of_state_next before f.first f.last f.state t.after t.order t.low) (below16_here f.mid3 place f.err ∙ s.place) s.split refl refl

-- ---- no run has what stands at the fault

number_short : (w : Width) (at : At) (place : ℕ) → number_at w at ≡ Err place → length at.left < byte_len w
number_short w at place e = short (nat_lt (length at.left) (byte_len w)) refl e where
  short : (b : Bool) → nat_lt (length at.left) (byte_len w) ≡ b → cond {A = Result (ℕ × At) ℕ} b (Err at.place) (Ok (from_be_bytes w (take (byte_len w) at.left), past (byte_len w) at)) ≡ Err place
      → length at.left < byte_len w
  short true t f = lt_yes _ _ t
  short false t f = absurd cc

module _ (before : Option Run) (at : At) (place : ℕ) (bytes : IsBytes at.left) (err : run_at before at ≡ Err place) where
  whole_run : (run : Run) (e : ℕ) (more rest : List ℕ) → IsNext before run → 19 ≤ e → e ≤ length at.left → run_bytes run ++ more ≡ take e at.left ++ rest → ⊥
  whole_run run e more rest next le within same =
      let h = agrees (run_bytes run) more at.left rest e le within same in
      let g = (run_spells before).again at run h.behind next h.whole in
      not_both (run_at before at) place (run, g.after) err g.is

  last_cut : (e : ℕ) → place - at.place ≡ 8 → e ≡ 16 → e ≤ length at.left → RunFault before at place → ⊥
  last_cut e p to within (inl h) = absurd (omega (arith, p, h))
  last_cut e p to within (inr (inl f)) =
      let t = first_taken before at f.first f.mid1 bytes f.one in
      let size : length (to_be_bytes w64 f.first ++ f.mid1.left) ≡ 8 + length f.mid1.left = sized (to_be_bytes w64 f.first) f.mid1.left 8 refl in
      omega (arith, number_short w64 f.mid1 place f.err, ap length t.split, size, to, within)
  last_cut e p to within (inr (inr (inl f))) =
      let t = offsets_taken before at f.first f.last f.mid1 f.mid2 bytes f.one f.two f.order in
      omega (arith, p, state_here f.mid2 place f.err, t.place)
  last_cut e p to within (inr (inr (inr f))) =
      let t = offsets_taken before at f.first f.last f.mid1 f.mid2 bytes f.one f.two f.order in
      let s = state_taken before at f.first f.last f.state f.mid2 f.mid3 t f.three in
      omega (arith, p, below16_here f.mid3 place f.err, s.place)

  state_wrong : (run : Run) (e : ℕ) (more rest : List ℕ) → IsNext before run → place - at.place ≡ 16 → e ≡ 17 → e ≤ length at.left → run_bytes run ++ more ≡ take e at.left ++ rest
      → RunFault before at place → ⊥
  state_wrong run e more rest next p to within same (inl h) = absurd (omega (arith, p, h))
  state_wrong run e more rest next p to within same (inr (inl f)) =
      let t = first_taken before at f.first f.mid1 bytes f.one in
      omega (arith, p, number_here w64 f.mid1 place f.err, t.place)
  state_wrong run e more rest next p to within same (inr (inr (inl f))) =
      let t = offsets_taken before at f.first f.last f.mid1 f.mid2 bytes f.one f.two f.order in
      let text : List ℕ = to_be_bytes w64 run.first ++ (to_be_bytes w64 run.last ++ (state_number run.state ∷ [])) in
      let size : length text ≡ 17 = refl in
      let h = agrees text (to_be_bytes w16 run.count ++ more) at.left rest e (omega (arith, size, to)) within same in
      let order = next.order in
      let low = next.stored.0 in
      let one = one_reading (number_at w64) (to_be_bytes w64) (λ n. n < 2 ^ 64) all64 run.first f.first
      (to_be_bytes w64 run.last ++ ((state_number run.state ∷ []) ++ h.behind)) (to_be_bytes w64 f.last ++ f.mid2.left)
      (omega (arith, order, low)) (omega (arith, t.order, t.low)) (sym h.whole ∙ t.split) in
      let two = one_reading (number_at w64) (to_be_bytes w64) (λ n. n < 2 ^ 64) all64 run.last f.last
      ((state_number run.state ∷ []) ++ h.behind) f.mid2.left (omega (arith, low)) (omega (arith, t.low)) one.1 in
      let g = row_state_spells.again f.mid2 run.state h.behind tt (sym two.1) in
      not_both (row_state_at f.mid2) place (run.state, g.after) f.err g.is
  state_wrong run e more rest next p to within same (inr (inr (inr f))) =
      let t = offsets_taken before at f.first f.last f.mid1 f.mid2 bytes f.one f.two f.order in
      let s = state_taken before at f.first f.last f.state f.mid2 f.mid3 t f.three in
      omega (arith, p, below16_here f.mid3 place f.err, s.place)

  run_none : (run : Run) (e : ℕ) (more rest : List ℕ) → IsNext before run → IsRunField (place - at.place) e → e ≤ length at.left → run_bytes run ++ more ≡ take e at.left ++ rest → ⊥
  run_none run e more rest next (inl f) within same = whole_run run e more rest next (omega (arith, f.1)) within same
  run_none run e more rest next (inr (inl f)) within same = last_cut e f.0 f.1 within (run_fault before at place err)
  run_none run e more rest next (inr (inr (inl f))) within same = state_wrong run e more rest next f.0 f.1 within same (run_fault before at place err)
  run_none run e more rest next (inr (inr (inr f))) within same = whole_run run e more rest next (omega (arith, f.1)) within same

run_field_few : (p e : ℕ) → IsRunField p e → (p ≤ 17) × (p < e)
run_field_few p e (inl f) = (omega (arith, f.0), omega (arith, f.0, f.1))
run_field_few p e (inr (inl f)) = (omega (arith, f.0), omega (arith, f.0, f.1))
run_field_few p e (inr (inr (inl f))) = (omega (arith, f.0), omega (arith, f.0, f.1))
run_field_few p e (inr (inr (inr f))) = (omega (arith, f.0), omega (arith, f.0, f.1))

pub runs_ahead : (n p e : ℕ) → IsRunsField n p e → p < e
runs_ahead zero p e f = absurd f
runs_ahead (suc n) p e (inl f) = (run_field_few p e f).1
runs_ahead (suc n) p e (inr f) = omega (arith, runs_ahead n (p - 19) (e - 19) f.2, f.0, f.1)

-- ---- runs one after the other

cons_run : Run × At → List Run × At → Result (List Run × At) ℕ
cons_run run others = Ok (run.0 ∷ others.0, others.1)

with_run : ℕ → Run × At → Result (List Run × At) ℕ
with_run n run = runs_at n (Some run.0) run.1 >>= cons_run run

others_err : (n : ℕ) (run : Run × At) (place : ℕ) → with_run n run ≡ Err place → runs_at n (Some run.0) run.1 ≡ Err place
unfolding with_run cons_run
others_err n run place e = elim (bind_err (runs_at n (Some run.0) run.1) (cons_run run) place e) [
  | inl h ↦ h
  | inr h ↦ absurd cc
]

run_split : (before : Option Run) (at : At) (run : Run) (mid : At) → run_at before at ≡ Ok (run, mid) → at.left ≡ run_bytes run ++ mid.left → mid.place ≡ at.place + 19
run_split before at run mid e split =
    let size : length (run_bytes run ++ mid.left) ≡ 19 + length mid.left = sized (run_bytes run) mid.left 19 refl in
    omega (arith, run_moves before at run mid e, ap length split, size)

pub runs_front : (n : ℕ) (before : Option Run) (at : At) (place : ℕ) → IsBytes at.left → runs_at n before at ≡ Err place → RunsFront n before at place
unfolding runs_at with_run cons_run
runs_front zero before at place bytes e = absurd cc
runs_front (suc n) before at place bytes e = go (λ run. runs_front n (Some run.0) run.1 place) (bind_err (run_at before at) (with_run n) place e) where
  go : ((run : Run × At) → IsBytes run.1.left → runs_at n (Some run.0) run.1 ≡ Err place → RunsFront n (Some run.0) run.1 place)
      → (run_at before at ≡ Err place) ⊎ ((run : Run × At) × (run_at before at ≡ Ok run) × (with_run n run ≡ Err place)) → RunsFront (suc n) before at place
  go others (inl h) = run_front n before at place bytes (run_fault before at place h)
  go others (inr h) =
      let run = h.0.0 in
      let mid = h.0.1 in
      let t = (run_spells before).takes at run mid bytes h.1 in
      let f = others h.0 t.0.rest_fits (others_err n h.0 place h.2) in
      record {
        taken = 19 + f.taken;
        place_is = omega (arith, f.place_is, run_split before at run mid h.1 t.0.parts);
        within = (let size : length (run_bytes run ++ mid.left) ≡ 19 + length mid.left = sized (run_bytes run) mid.left 19 refl in omega (arith, f.within, ap length t.0.parts, size));
        whole = run ∷ f.whole;
        is = ends_cons n before run f.whole t.1 f.is;
        rest = f.rest;
        bytes = flat_map-cons run_bytes run f.whole ∙ ap (λ (l : List ℕ). run_bytes run ++ l) f.bytes ∙ sym (append_assoc (run_bytes run) (take f.taken mid.left) f.rest)
            ∙ ap (λ (l : List ℕ). l ++ f.rest) (sym (take-behind (run_bytes run) mid.left f.taken)) ∙ ap (λ (l : List ℕ). take (19 + f.taken) l ++ f.rest) (sym t.0.parts);
      }

pub runs_moves : (n : ℕ) (before : Option Run) → Moving (runs_at n before)
unfolding runs_at with_run cons_run
runs_moves zero before at runs after e =
    let whole : List Run × At = ([], at) in
    subst (λ (z : At). z.place + length z.left ≡ at.place + length at.left) (ap (λ (z : List Run × At). z.1) (ok_is whole (runs, after) e)) refl
runs_moves (suc n) before at runs after e =
    let a = bind_ok (run_at before at) (with_run n) (runs, after) e in
    let b = bind_ok (runs_at n (Some a.0.0) a.0.1) (cons_run a.0) (runs, after) a.2 in
    let whole : List Run × At = (a.0.0 ∷ b.0.0, b.0.1) in
    subst (λ (z : At). z.place + length z.left ≡ at.place + length at.left) (ap (λ (z : List Run × At). z.1) (ok_is whole (runs, after) b.2))
    (runs_moves n (Some a.0.0) a.0.1 b.0.0 b.0.1 b.1 ∙ run_moves before at a.0.0 a.0.1 a.1)

-- a field of a run begins within the runs
pub runs_inside : (runs : List Run) (p e : ℕ) → IsRunsField (length runs) p e → p < length (flat_map run_bytes runs)
runs_inside [] p e f = absurd f
runs_inside (run ∷ runs) p e f =
    let size : length (flat_map run_bytes (run ∷ runs)) ≡ 19 + length (flat_map run_bytes runs) =
    ap length (flat_map-cons run_bytes run runs) ∙ sized (run_bytes run) (flat_map run_bytes runs) 19 refl in
    elim f [
      | inl g ↦ omega (arith, size, (run_field_few p e g).0)
      | inr g ↦ omega (arith, size, runs_inside runs (p - 19) (e - 19) g.2, g.0)
    ]

-- the first of the runs, and the others
first_next : (n : ℕ) (before : Option Run) (run : Run) (runs : List Run) → AreNext (suc n) before (run ∷ runs) → IsNext before run × AreNext n (Some run) runs
first_next n before run runs next =
    let canonical = next.stored.0 in (
      record { order = canonical.0; stored = next.stored.1.0; behind = run_in_order before run runs next.behind },
      record { count = let c = next.count in omega arith; behind = canonical.1; stored = (canonical.2, next.stored.1.1) },
    )

pub runs_none : (n : ℕ) (before : Option Run) (at : At) (place : ℕ) → IsBytes at.left → runs_at n before at ≡ Err place → (runs : List Run) (e : ℕ) (more rest : List ℕ)
    → AreNext n before runs → IsRunsField (length runs) (place - at.place) e → e ≤ length at.left → flat_map run_bytes runs ++ more ≡ take e at.left ++ rest → ⊥
unfolding runs_at with_run cons_run
runs_none zero before at place bytes err runs e more rest next field within same = absurd cc
runs_none (suc n) before at place bytes err [] e more rest next field within same = absurd field
runs_none (suc n) before at place bytes err (run ∷ runs) e more rest next field within same =
    go (λ first. runs_none n (Some first.0) first.1 place) (bind_err (run_at before at) (with_run n) place err) field where
      both : IsNext before run × AreNext n (Some run) runs
      both = first_next n before run runs next

      text : run_bytes run ++ (flat_map run_bytes runs ++ more) ≡ take e at.left ++ rest
      text = sym (append_assoc (run_bytes run) (flat_map run_bytes runs) more) ∙ ap (λ (l : List ℕ). l ++ more) (sym (flat_map-cons run_bytes run runs)) ∙ same

      far : run_at before at ≡ Err place → 19 ≤ place - at.place → ⊥
      far h f = let r = run_place before at place bytes (run_fault before at place h) in omega (arith, r.1, f)

      Field : Type 0
      Field = IsRunField (place - at.place) e ⊎ ((19 ≤ place - at.place) × (19 ≤ e) × IsRunsField (length runs) (place - at.place - 19) (e - 19))

      behind : (first : Run × At) → run_at before at ≡ Ok first → runs_at n (Some first.0) first.1 ≡ Err place
          → (IsBytes first.1.left → runs_at n (Some first.0) first.1 ≡ Err place → (others : List Run) (to : ℕ) (past left : List ℕ) → AreNext n (Some first.0) others
          → IsRunsField (length others) (place - first.1.place) to → to ≤ length first.1.left → flat_map run_bytes others ++ past ≡ take to first.1.left ++ left → ⊥)
          → (19 ≤ e) → (19 ≤ place - at.place) → IsRunsField (length runs) (place - at.place - 19) (e - 19) → ⊥
      behind first ok wrong others long far_on f =
          let mid = first.1 in
          let t = (run_spells before).takes at first.0 mid bytes ok in
          let place_is = run_split before at first.0 mid ok t.0.parts in
          let size : length (run_bytes first.0 ++ mid.left) ≡ 19 + length mid.left = sized (run_bytes first.0) mid.left 19 refl in
          let cut : take e at.left ++ rest ≡ run_bytes first.0 ++ (take (e - 19) mid.left ++ rest) =
          ap (λ (l : List ℕ). take e l ++ rest) t.0.parts ∙ ap (λ (k : ℕ). take k (run_bytes first.0 ++ mid.left) ++ rest) (let q : e ≡ 19 + (e - 19) = omega (arith, long) in q)
          ∙ ap (λ (l : List ℕ). l ++ rest) (take-behind (run_bytes first.0) mid.left (e - 19)) ∙ append_assoc (run_bytes first.0) (take (e - 19) mid.left) rest in
          let one = one_reading (run_at before) run_bytes (IsNext before) (run_spells before) run first.0 (flat_map run_bytes runs ++ more) (take (e - 19) mid.left ++ rest) both.0 t.1 (text ∙ cut) in
          let from : place - at.place - 19 ≡ place - mid.place = omega (arith, place_is, far_on) in
          others t.0.rest_fits wrong runs (e - 19) more rest (subst (λ (r : Run). AreNext n (Some r) runs) one.0 both.1)
          (subst (λ (k : ℕ). IsRunsField (length runs) k (e - 19)) from f) (omega (arith, within, ap length t.0.parts, size)) one.1

      go : ((first : Run × At) → IsBytes first.1.left → runs_at n (Some first.0) first.1 ≡ Err place → (others : List Run) (to : ℕ) (past left : List ℕ) → AreNext n (Some first.0) others
          → IsRunsField (length others) (place - first.1.place) to → to ≤ length first.1.left → flat_map run_bytes others ++ past ≡ take to first.1.left ++ left → ⊥)
          → (run_at before at ≡ Err place) ⊎ ((first : Run × At) × (run_at before at ≡ Ok first) × (with_run n first ≡ Err place)) → Field → ⊥
      go others (inl h) (inl f) = run_none before at place bytes h run e (flat_map run_bytes runs ++ more) rest both.0 f within text
      go others (inl h) (inr f) = far h f.0
      go others (inr h) (inl f) =
          let t = (run_spells before).takes at h.0.0 h.0.1 bytes h.1 in
          let front = runs_front n (Some h.0.0) h.0.1 place t.0.rest_fits (others_err n h.0 place h.2) in
          let p : place ≡ h.0.1.place + front.taken = front.place_is in
          omega (arith, p, run_split before at h.0.0 h.0.1 h.1 t.0.parts, (run_field_few (place - at.place) e f).0)
      go others (inr h) (inr f) = behind h.0 h.1 (others_err n h.0 place h.2) (others h.0) f.1 f.0 f.2
