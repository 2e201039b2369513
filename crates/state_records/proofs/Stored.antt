-- The runs of a record: what each that is read keeps, and the bytes that it has.
use Rattle.std.proofs.Common.{◌≡◌, ◌≢◌, ℕ, zero, suc, ◌+◌, ◌^◌, ◌<◌, ◌≤◌, Bool, true, false, cond, List, [], ◌∷◌, ◌++◌}
use Rattle.std.proofs.Common.{length, Option, Some, None, Result, Ok, Err, refl, sym, ap, subst, ◌∙◌, append_assoc, arith}
use Rattle.std.specs.Prelude.{nat_lt}
use Rattle.std.specs.Int.{w16, w32, w64, to_be_bytes}
use Rattle.std.specs.List.{flat_map}
use Rattle.std.proofs.lemmas.Bool.Decides.{nat_tests}
use Rattle.std.proofs.lemmas.List.Concat.{flat_map-cons}
use Rattle.share_model.specs.Rows.{state_number, state_of}
use Rattle.share_model.specs.Runs.{row_of, Follows}
use Rattle.share_model.specs.declared.row.RowState.{RowState}
use Rattle.share_model.specs.declared.row.RowState.TheVariants.{Available, Acknowledged, Archived}
use Rattle.share_model.specs.declared.run.Run.{Run}
use Rattle.offset_runs.specs.Parts.{touches}
use Rattle.offset_runs.proofs.Joins.{touches_true, touches_false}
use Rattle.state_records.specs.States.{IsStoredRun, AreStoredRuns}
use Rattle.state_records.specs.Spelling.{run_bytes, runs_bytes}
use Rattle.flex_fields.specs.Reading.{At}
use Rattle.state_records.specs.Reading.{◌>>=◌, only_at, byte_at, number_at, below_at, row_state_at, is_behind, is_backward, could_join, run_at, runs_at, all_runs_at}
use Rattle.state_records.proofs.Spells.{IsBytes, bind_ok, guard_else, guard_then, ok_is, Takes, Takes-then, Again, Spells}
use Rattle.state_records.proofs.Spells.{only_spells, found_spells, number_spells, byte_spells, wide16, wide32, wide64}

pub lt_yes : (m n : ℕ) → nat_lt m n ≡ true → m < n
lt_yes m n e = grind (arith, nat_tests)

pub lt_no : (m n : ℕ) → nat_lt m n ≡ false → n ≤ m
lt_no m n e = grind (arith, nat_tests)

pub yes_lt : (m n : ℕ) → m < n → nat_lt m n ≡ true
yes_lt m n h = grind (arith, nat_tests)

pub no_lt : (m n : ℕ) → n ≤ m → nat_lt m n ≡ false
no_lt m n h = grind (arith, nat_tests)

pub low64 : Spells (below_at w64 (2 ^ 63)) (to_be_bytes w64) (λ n. n < 2 ^ 63)
low64 = only_spells (λ n. nat_lt n (2 ^ 63)) (number_at w64) (to_be_bytes w64) (λ n. n < 2 ^ 64) (λ n. n < 2 ^ 63)
    (λ n fits e. lt_yes n (2 ^ 63) e) (λ n h. (omega arith, yes_lt n (2 ^ 63) h)) (number_spells w64 (2 ^ 64) wide64)

pub low32 : (limit : ℕ) → limit ≤ 2 ^ 32 → Spells (below_at w32 limit) (to_be_bytes w32) (λ n. n < limit)
low32 limit small = only_spells (λ n. nat_lt n limit) (number_at w32) (to_be_bytes w32) (λ n. n < 2 ^ 32) (λ n. n < limit)
    (λ n fits e. lt_yes n limit e) (λ n h. (omega arith, yes_lt n limit h)) (number_spells w32 (2 ^ 32) wide32)

pub low16 : Spells (below_at w16 (2 ^ 15)) (to_be_bytes w16) (λ n. n < 2 ^ 15)
low16 = only_spells (λ n. nat_lt n (2 ^ 15)) (number_at w16) (to_be_bytes w16) (λ n. n < 2 ^ 16) (λ n. n < 2 ^ 15)
    (λ n fits e. lt_yes n (2 ^ 15) e) (λ n h. (omega arith, yes_lt n (2 ^ 15) h)) (number_spells w16 (2 ^ 16) wide16)

pub all64 : Spells (number_at w64) (to_be_bytes w64) (λ n. n < 2 ^ 64)
all64 = number_spells w64 (2 ^ 64) wide64

pub forward : (first last : ℕ) → is_backward first last ≡ false → (first ≤ last) × (last < 2 ^ 63)
forward first last e = grind (arith, nat_tests)

is_forward : (first last : ℕ) → first ≤ last → last < 2 ^ 63 → is_backward first last ≡ false
is_forward first last le low = grind (arith, nat_tests)

-- ---- states of rows

coded_state : (s : RowState) → state_of (state_number s) ≡ Some s
coded_state Available = refl
coded_state Acknowledged = refl
coded_state Archived = refl

state_back : (n : ℕ) (s : RowState) → state_of n ≡ Some s → state_number s ≡ n
state_back n Available e = grind (arith, nat_tests)
state_back n Acknowledged e = grind (arith, nat_tests)
state_back n Archived e = grind (arith, nat_tests)

pub row_state_spells : Spells row_state_at (λ s. state_number s ∷ []) (λ s. Unit {0})
unfolding row_state_at
row_state_spells =
    found_spells state_of state_number byte_at (λ b. b ∷ []) (λ b. Unit {0}) (λ s. Unit {0}) (λ n s e. (state_back n s e, tt)) (λ s h. (tt, coded_state s)) byte_spells

-- ---- one run

-- behind the run before it, and not to be joined to it
abbrev pub InOrder : Option Run → Run → Type 0
InOrder None run = Unit {0}
InOrder (Some before) run = (before.last < run.first) × (run.first ≡ before.last + 1 → row_of run ≢ row_of before)

pub record IsNext (before : Option Run) (run : Run) : Type 0 where
  pub order : run.first ≤ run.last
  pub stored : IsStoredRun run
  pub behind : InOrder before run

-- the fields of a run that is read
pub record RunRead (before : Option Run) (at : At) (run : Run) (after : At) : Type 0 where
  pub mid1 : At
  pub mid2 : At
  pub mid3 : At
  pub first : only_at (is_behind before) (below_at w64 (2 ^ 63)) at ≡ Ok (run.first, mid1)
  pub last : number_at w64 mid1 ≡ Ok (run.last, mid2)
  pub order : run.first ≤ run.last
  pub low : run.last < 2 ^ 63
  pub state : row_state_at mid2 ≡ Ok (run.state, mid3)
  pub count : below_at w16 (2 ^ 15) mid3 ≡ Ok (run.count, after)
  pub apart : could_join before run ≡ false

pub run_read : (before : Option Run) (at : At) (run : Run) (after : At) → run_at before at ≡ Ok (run, after) → RunRead before at run after
unfolding run_at
run_read before at run after e =
    let made = λ (f l : ℕ) (s : RowState) (c : ℕ). let r : Run = record { first = f; last = l; state = s; count = c } in r in
    let a = bind_ok (only_at (is_behind before) (below_at w64 (2 ^ 63)) at)
    (λ first. number_at w64 first.1 >>= λ last. cond (is_backward first.0 last.0) (Err at.place) (row_state_at last.1 >>= λ state. below_at w16 (2 ^ 15) state.1 >>= λ count.
    cond (could_join before (made first.0 last.0 state.0 count.0)) (Err at.place) (Ok (made first.0 last.0 state.0 count.0, count.1)))) (run, after) e in
    let b = bind_ok (number_at w64 a.0.1)
    (λ last. cond (is_backward a.0.0 last.0) (Err at.place) (row_state_at last.1 >>= λ state. below_at w16 (2 ^ 15) state.1 >>= λ count.
    cond (could_join before (made a.0.0 last.0 state.0 count.0)) (Err at.place) (Ok (made a.0.0 last.0 state.0 count.0, count.1)))) (run, after) a.2 in
    let g = guard_else (is_backward a.0.0 b.0.0) at.place (row_state_at b.0.1 >>= λ state. below_at w16 (2 ^ 15) state.1 >>= λ count.
    cond (could_join before (made a.0.0 b.0.0 state.0 count.0)) (Err at.place) (Ok (made a.0.0 b.0.0 state.0 count.0, count.1))) (run, after) b.2 in
    let c = bind_ok (row_state_at b.0.1) (λ state. below_at w16 (2 ^ 15) state.1 >>= λ count.
    cond (could_join before (made a.0.0 b.0.0 state.0 count.0)) (Err at.place) (Ok (made a.0.0 b.0.0 state.0 count.0, count.1))) (run, after) g.1 in
    let d = bind_ok (below_at w16 (2 ^ 15) c.0.1) (λ count.
    cond (could_join before (made a.0.0 b.0.0 c.0.0 count.0)) (Err at.place) (Ok (made a.0.0 b.0.0 c.0.0 count.0, count.1))) (run, after) c.2 in
    let h = guard_else (could_join before (made a.0.0 b.0.0 c.0.0 d.0.0)) at.place (Ok (made a.0.0 b.0.0 c.0.0 d.0.0, d.0.1)) (run, after) d.2 in
    let whole : Run × At = (made a.0.0 b.0.0 c.0.0 d.0.0, d.0.1) in
    subst (λ (z : Run × At). RunRead before at z.0 z.1) (ok_is whole (run, after) h.1)
    (record { mid1 = a.0.1; mid2 = b.0.1; mid3 = c.0.1; first = a.1; last = b.1; order = (forward a.0.0 b.0.0 g.0).0; low = (forward a.0.0 b.0.0 g.0).1; state = c.1; count = d.1; apart = h.0 })

pub test_of : {A : Type 0} (test : A → Bool) (read : At → Result (A × At) ℕ) (at : At) (x : A) (after : At) → only_at test read at ≡ Ok (x, after) → (test x ≡ true) × (read at ≡ Ok (x, after))
test_of {A} test read at x after e =
    let a = bind_ok (read at) (λ u. cond (test u.0) (Ok u) (Err at.place)) (x, after) e in
    let g = guard_then (test a.0.0) at.place (Ok a.0) (x, after) a.2 in
    let same : a.0 ≡ (x, after) = ok_is a.0 (x, after) g.1 in
    (subst (λ (z : A × At). test z.0 ≡ true) same g.0, a.1 ∙ ap (λ (z : A × At). Ok z) same)

in_order : (before : Option Run) (run : Run) → is_behind before run.first ≡ true → could_join before run ≡ false → InOrder before run
in_order None run behind apart = tt
in_order (Some other) run behind apart = (lt_yes other.last run.first behind, touches_false other run apart)

pub run_sound : (before : Option Run) (at : At) (run : Run) (after : At) → run_at before at ≡ Ok (run, after) → IsNext before run
run_sound before at run after e =
    let r = run_read before at run after e in
    let first = test_of (is_behind before) (below_at w64 (2 ^ 63)) at run.first r.mid1 r.first in
    let count = test_of (λ n. nat_lt n (2 ^ 15)) (number_at w16) r.mid3 run.count after r.count in
    record {
      order = r.order;
      stored = (r.low, lt_yes run.count (2 ^ 15) count.0);
      behind = in_order before run first.0 r.apart;
    }

behind_test : (before : Option Run) (run : Run) → InOrder before run → is_behind before run.first ≡ true
behind_test None run order = refl
behind_test (Some other) run order = yes_lt other.last run.first order.0

pub not_true : (b : Bool) → (b ≡ true → ⊥) → b ≡ false
not_true true h = absurd (h refl)
not_true false h = refl

apart_test : (before : Option Run) (run : Run) → InOrder before run → could_join before run ≡ false
apart_test None run order = refl
apart_test (Some other) run order =
    not_true (touches other run) (λ e. let t = touches_true other run e in order.1 t.0 (sym t.1))

pub first_spells : (before : Option Run) → Spells (only_at (is_behind before) (below_at w64 (2 ^ 63))) (to_be_bytes w64) (λ n. (n < 2 ^ 63) × (is_behind before n ≡ true))
first_spells before = only_spells (is_behind before) (below_at w64 (2 ^ 63)) (to_be_bytes w64) (λ n. n < 2 ^ 63) (λ n. (n < 2 ^ 63) × (is_behind before n ≡ true))
    (λ n fits e. (fits, e)) (λ n h. h) low64

pub run_spells : (before : Option Run) → Spells (run_at before) run_bytes (IsNext before)
unfolding run_at
run_spells before =
    record {
      takes = λ at run after fits e.
          let r = run_read before at run after e in
          let t1 = (first_spells before).takes at run.first r.mid1 fits r.first in
          let t2 = all64.takes r.mid1 run.last r.mid2 t1.0.rest_fits r.last in
          let t3 = row_state_spells.takes r.mid2 run.state r.mid3 t2.0.rest_fits r.state in
          let t4 = low16.takes r.mid3 run.count after t3.0.rest_fits r.count in
          let e34 = Takes-then r.mid2.left (state_number run.state ∷ []) r.mid3.left (to_be_bytes w16 run.count) after.left t3.0 t4.0 in
          let e24 = Takes-then r.mid1.left (to_be_bytes w64 run.last) r.mid2.left ((state_number run.state ∷ []) ++ to_be_bytes w16 run.count) after.left t2.0 e34 in (
            Takes-then at.left (to_be_bytes w64 run.first) r.mid1.left (to_be_bytes w64 run.last ++ ((state_number run.state ∷ []) ++ to_be_bytes w16 run.count)) after.left t1.0 e24,
            run_sound before at run after e,
          );
      again = λ at run rest next e.
          let s4 = to_be_bytes w16 run.count in
          let s3 = (state_number run.state ∷ []) ++ s4 in
          let s2 = to_be_bytes w64 run.last ++ s3 in
          let g1 = (first_spells before).again at run.first (s2 ++ rest) (omega (arith, next.order, next.stored.0), behind_test before run next.behind) (e ∙ append_assoc (to_be_bytes w64 run.first) s2 rest) in
          let g2 = all64.again g1.after run.last (s3 ++ rest) (omega (arith, next.stored.0)) (g1.left ∙ append_assoc (to_be_bytes w64 run.last) s3 rest) in
          let g3 = row_state_spells.again g2.after run.state (s4 ++ rest) tt (g2.left ∙ append_assoc (state_number run.state ∷ []) s4 rest) in
          let g4 = low16.again g3.after run.count rest next.stored.1 g3.left in
          let order : is_backward run.first run.last ≡ false = is_forward run.first run.last next.order next.stored.0 in
          let apart : could_join before run ≡ false = apart_test before run next.behind in
          record {
            after = g4.after;
            is = rw (g1.is, g2.is, order, g3.is, g4.is, apart) refl;
            left = g4.left;
          };
    }

-- ---- runs one after the other

-- the runs stand behind the one before them
abbrev pub AreBehind : Option Run → List Run → Type 0
AreBehind None runs = Unit {0}
AreBehind (Some before) runs = Follows before runs

pub record AreNext (n : ℕ) (before : Option Run) (runs : List Run) : Type 0 where
  pub count : length runs ≡ n
  pub behind : AreBehind before runs
  pub stored : AreStoredRuns runs

behind_none : (before : Option Run) → AreBehind before []
behind_none None = tt
behind_none (Some run) = tt

behind_run : (before : Option Run) (run : Run) (runs : List Run) → InOrder before run → AreBehind before (run ∷ runs)
behind_run None run runs order = tt
behind_run (Some other) run runs order = order

pub run_in_order : (before : Option Run) (run : Run) (runs : List Run) → AreBehind before (run ∷ runs) → InOrder before run
run_in_order None run runs behind = tt
run_in_order (Some other) run runs behind = behind

pub next_runs : (n : ℕ) (before : Option Run) (run : Run) (runs : List Run) → IsNext before run → AreNext n (Some run) runs → AreNext (suc n) before (run ∷ runs)
next_runs n before run runs next rest = record {
  count = ap suc rest.count;
  behind = behind_run before run runs next.behind;
  stored = ((next.order, rest.behind, rest.stored.0), (next.stored, rest.stored.1));
}

no_runs : (before : Option Run) → AreNext 0 before []
no_runs before = record { count = refl; behind = behind_none before; stored = (tt, tt) }

pub runs_sound : (n : ℕ) (before : Option Run) (at : At) (runs : List Run) (after : At) → runs_at n before at ≡ Ok (runs, after) → AreNext n before runs
unfolding runs_at
runs_sound zero before at runs after e =
    let made : List Run × At = ([], at) in
    subst (λ (z : List Run × At). AreNext 0 before z.0) (ok_is made (runs, after) e) (no_runs before)
runs_sound (suc n) before at runs after e =
    let a = bind_ok (run_at before at) (λ run. runs_at n (Some run.0) run.1 >>= λ others. Ok (run.0 ∷ others.0, others.1)) (runs, after) e in
    let b = bind_ok (runs_at n (Some a.0.0) a.0.1) (λ others. Ok (a.0.0 ∷ others.0, others.1)) (runs, after) a.2 in
    let made : List Run × At = (a.0.0 ∷ b.0.0, b.0.1) in
    subst (λ (z : List Run × At). AreNext (suc n) before z.0) (ok_is made (runs, after) b.2)
    (next_runs n before a.0.0 b.0.0 (run_sound before at a.0.0 a.0.1 a.1) (runs_sound n (Some a.0.0) a.0.1 b.0.0 b.0.1 b.1))

runs_take : (n : ℕ) (before : Option Run) (at : At) (runs : List Run) (after : At) → IsBytes at.left → runs_at n before at ≡ Ok (runs, after) → Takes at.left (flat_map run_bytes runs) after.left
unfolding runs_at
runs_take zero before at runs after fits e =
    let made : List Run × At = ([], at) in
    subst (λ (z : List Run × At). Takes at.left (flat_map run_bytes z.0) z.1.left) (ok_is made (runs, after) e) (record { parts = refl; rest_fits = fits })
runs_take (suc n) before at runs after fits e =
    let a = bind_ok (run_at before at) (λ run. runs_at n (Some run.0) run.1 >>= λ others. Ok (run.0 ∷ others.0, others.1)) (runs, after) e in
    let b = bind_ok (runs_at n (Some a.0.0) a.0.1) (λ others. Ok (a.0.0 ∷ others.0, others.1)) (runs, after) a.2 in
    let first = (run_spells before).takes at a.0.0 a.0.1 fits a.1 in
    let others = runs_take n (Some a.0.0) a.0.1 b.0.0 b.0.1 first.0.rest_fits b.1 in
    let both = Takes-then at.left (run_bytes a.0.0) a.0.1.left (flat_map run_bytes b.0.0) b.0.1.left first.0 others in
    let made : List Run × At = (a.0.0 ∷ b.0.0, b.0.1) in
    subst (λ (z : List Run × At). Takes at.left (flat_map run_bytes z.0) z.1.left) (ok_is made (runs, after) b.2) (rw flat_map-cons both)

runs_again : (n : ℕ) (before : Option Run) (at : At) (runs : List Run) (rest : List ℕ) → AreNext n before runs → at.left ≡ flat_map run_bytes runs ++ rest → Again (runs_at n before) at runs rest
unfolding runs_at
runs_again zero before at [] rest next e = record { after = at; is = refl; left = e }
runs_again zero before at (run ∷ runs) rest next e = let none = next.count in absurd (omega arith)
runs_again (suc n) before at [] rest next e = let none = next.count in absurd (omega arith)
runs_again (suc n) before at (run ∷ runs) rest next e =
    let canonical = next.stored.0 in
    let one : IsNext before run = record { order = canonical.0; stored = next.stored.1.0; behind = run_in_order before run runs next.behind } in
    let others : AreNext n (Some run) runs = record { count = let c = next.count in omega arith; behind = canonical.1; stored = (canonical.2, next.stored.1.1) } in
    let split : at.left ≡ run_bytes run ++ (flat_map run_bytes runs ++ rest) =
    e ∙ ap (λ (l : List ℕ). l ++ rest) (flat_map-cons run_bytes run runs) ∙ append_assoc (run_bytes run) (flat_map run_bytes runs) rest in
    let g1 = (run_spells before).again at run (flat_map run_bytes runs ++ rest) one split in
    let g2 = runs_again n (Some run) g1.after runs rest others g1.left in
    record {
      after = g2.after;
      is = rw (g1.is, g2.is) refl;
      left = g2.left;
    }

pub record AreAllRuns (runs : List Run) : Type 0 where
  pub stored : AreStoredRuns runs
  pub few : length runs < 2 ^ 32

pub all32 : Spells (number_at w32) (to_be_bytes w32) (λ n. n < 2 ^ 32)
all32 = number_spells w32 (2 ^ 32) wide32

pub all_runs_spells : Spells all_runs_at runs_bytes AreAllRuns
unfolding all_runs_at
all_runs_spells = record {
  takes = λ at runs after fits e.
      let a = bind_ok (number_at w32 at) (λ n. runs_at n.0 None n.1) (runs, after) e in
      let t1 = all32.takes at a.0.0 a.0.1 fits a.1 in
      let t2 = runs_take a.0.0 None a.0.1 runs after t1.0.rest_fits a.2 in
      let next = runs_sound a.0.0 None a.0.1 runs after a.2 in (
        subst (λ (n : ℕ). Takes at.left (to_be_bytes w32 n ++ flat_map run_bytes runs) after.left) (sym next.count)
            (Takes-then at.left (to_be_bytes w32 a.0.0) a.0.1.left (flat_map run_bytes runs) after.left t1.0 t2),
        record { stored = next.stored; few = omega (arith, next.count, t1.1) },
      );
  again = λ at runs rest all e.
      let g1 = all32.again at (length runs) (flat_map run_bytes runs ++ rest) all.few
      (e ∙ append_assoc (to_be_bytes w32 (length runs)) (flat_map run_bytes runs) rest) in
      let g2 = runs_again (length runs) None g1.after runs rest (record { count = refl; behind = tt; stored = all.stored }) g1.left in
      record {
        after = g2.after;
        is = rw (g1.is, g2.is) refl;
        left = g2.left;
      };
}
