-- Acts, run by run.
use Rattle.std.proofs.Common.{◌≡◌, ◌∙◌, inl, inr, refl, sym, ap, subst, arith, ℕ, ◌+◌, ◌<◌, ◌≤◌, max, List, [], ◌∷◌, length, Option, Some, None, Bool, true, false}
use Rattle.std.proofs.lemmas.Bool.{cases_lt}
use Rattle.std.proofs.lemmas.Bool.Decides.{nat_tests}
use Rattle.std.specs.Prelude.{nat_le, nat_lt, ◌&&◌, is_some, IsSome, unwrap_or, if◌then◌else◌}
use Rattle.std.specs.Option.{option_or}
use Rattle.std.specs.BTreeMap.{is_at}
use Rattle.std.specs.Cmp.Lexicographic.{slice_cmp, nat_list_cmp_total}
use Rattle.std.specs.Ordering.{nat_cmp}
use Rattle.std.proofs.lemmas.Map.Lookups.{exact_bytes}
use Rattle.ack_ranges.specs.Pieces.{Follows, IsCanonical, piece_at}
use Rattle.ack_ranges.specs.declared.piece.Piece.{Piece}
use Rattle.ack_ranges.proofs.Looks.{here, beyond, begins_at}
use Rattle.offset_runs.specs.Changes.{PutsRange, CutsBelow}
use Rattle.share_model.specs.Held.{Held, hold_at}
use Rattle.share_model.specs.Runs.{row_at, row_of, IsCanonical as AreCanonical}
use Rattle.share_model.specs.declared.ack.AckKind.{AckKind}
use Rattle.share_model.specs.declared.hold.Hold.{Hold}
use Rattle.share_model.specs.declared.row.Row.{Row}
use Rattle.share_model.specs.declared.run.Run.{Run}
use Rattle.share_model.specs.Logs.{Batch}
use Rattle.lock_index.specs.Windows.{IsRunAt, IsRunFrom}
use Rattle.lock_index.specs.declared.run.HoldRun.{HoldRun}
use Rattle.share_part.specs.Acknowledging.{NameNone, NameOne}
use Rattle.share_part.specs.Tables.{Table}
use Rattle.share_part.specs.Settling.{Acts, Change, IsChange, IsHeldBy, IsLeastMissing, IsNextStart, Settles, acted, act_row, settled, release_of, releases_if, releasing, stored_after}
use Rattle.share_part.specs.Acting.{AreDone, AreDoneTo, AreHeldSo, AreRows, AreRowsTo, Comes, Ends, HasSpareFrom, IsHeldTo, IsHeldWith, IsSaid, laid}
use Rattle.share_part.proofs.Fewer.{held_later}
use Rattle.share_part.proofs.Mapping.{at_is, at_self}

-- ---- one more row

below_yes : (m n : ℕ) → m < n → nat_lt m n ≡ true
below_yes m n h = grind (arith, nat_tests)

below_no : (m n : ℕ) → n ≤ m → nat_lt m n ≡ false
below_no m n h = grind (arith, nat_tests)

-- what is put in a range
put_here : (was now : List Run) (first last : ℕ) (row : Row) → PutsRange was now first last row → (o : ℕ) → first ≤ o → o ≤ last → row_at now o ≡ Some row
put_here was now first last row h o lo hi =
    let at : nat_le first o && nat_le o last ≡ true = grind (arith, nat_tests) in
    h o ∙ ap (λ (b : Bool). if b then Some row else row_at was o) at

put_other : (was now : List Run) (first last : ℕ) (row : Row) → PutsRange was now first last row → (other : ℕ) → nat_le first other && nat_le other last ≡ false → row_at now other ≡ row_at was other
put_other was now first last row h other apart = h other ∙ ap (λ (b : Bool). if b then Some row else row_at was other) apart

module _ (limit : ℕ) (acts : Acts) (held : Held) where
  -- what the rows are up to an offset
  abbrev upto : ℕ → ℕ → Option Row
  upto end other = if nat_lt other end then acted limit acts held other else None

  upto_below : (end other : ℕ) → other < end → upto end other ≡ acted limit acts held other
  upto_below end other lt = ap (λ (b : Bool). if b then acted limit acts held other else None) (below_yes other end lt)

  upto_beyond : (end other : ℕ) → end ≤ other → upto end other ≡ None
  upto_beyond end other le = ap (λ (b : Bool). if b then acted limit acts held other else None) (below_no other end le)

  -- from where nothing is done between
  pub rows_further : (end next : ℕ) (rows : List Run) → AreRowsTo limit acts held end rows → end ≤ next
      → ((o : ℕ) → end ≤ o → o < next → acted limit acts held o ≡ None) → AreRowsTo limit acts held next rows
  rows_further end next rows h le none o = elim (cases_lt o end) [
    | inl lt ↦ h o ∙ upto_below end o lt ∙ sym (upto_below next o (omega (arith, lt, le)))
    | inr ge ↦ elim (cases_lt o next) [
      | inl under ↦ h o ∙ upto_beyond end o ge ∙ sym (none o ge under) ∙ sym (upto_below next o under)
      | inr over ↦ h o ∙ upto_beyond end o ge ∙ sym (upto_beyond next o over)
    ]
  ]

  -- more rows, where the same is done
  pub rows_more : (first last : ℕ) (rows next : List Run) (row : Row) → first ≤ last → AreRowsTo limit acts held first rows → PutsRange rows next first last row
      → ((o : ℕ) → first ≤ o → o ≤ last → acted limit acts held o ≡ Some row) → AreRowsTo limit acts held (last + 1) next
  rows_more first last rows next row order h put is other = elim (cases_lt other first) [
    | inl lt ↦ put_other rows next first last row put other (grind (arith, nat_tests)) ∙ h other ∙ upto_below first other lt
        ∙ sym (upto_below (last + 1) other (omega (arith, lt, order)))
    | inr ge ↦ elim (cases_lt last other) [
      | inl past ↦ put_other rows next first last row put other (grind (arith, nat_tests)) ∙ h other ∙ upto_beyond first other ge
          ∙ sym (upto_beyond (last + 1) other (omega (arith, past)))
      | inr le ↦ put_here rows next first last row put other ge le ∙ sym (is other ge le) ∙ sym (upto_below (last + 1) other (omega (arith, le)))
    ]
  ]

  pub all_rows : (end : ℕ) (rows : List Run) → AreRowsTo limit acts held end rows → ((o : ℕ) → end ≤ o → acted limit acts held o ≡ None) → (o : ℕ) → row_at rows o ≡ acted limit acts held o
  all_rows end rows h none o = elim (cases_lt o end) [
    | inl lt ↦ h o ∙ upto_below end o lt
    | inr ge ↦ h o ∙ upto_beyond end o ge ∙ sym (none o ge)
  ]

  pub no_act : (o : ℕ) → acts o ≡ None → acted limit acts held o ≡ None
  no_act o none = ap (λ (k : Option AckKind). act_row limit k (hold_at held o)) none

-- ---- acts on what a member holds

module _ (limit : ℕ) (member : List ℕ) (acts : Acts) (held : Held) where
  row_by : (kind : AckKind) (count : ℕ) (hold : Option Hold) → IsHeldWith member count hold → act_row limit (Some kind) hold ≡ Some (settled limit kind count)
  row_by kind count None h = absurd h
  row_by kind count (Some hold) h = ap (λ (n : ℕ). Some (settled limit kind n)) h.1

  theirs_by : (count : ℕ) (hold : Option Hold) → IsHeldWith member count hold → IsHeldBy member hold
  theirs_by count None h = absurd h
  theirs_by count (Some hold) h = h.0

  pub done_more : (first last : ℕ) (kind : AckKind) (count : ℕ) (rows next : List Run) → AreDoneTo limit member acts held first rows
      → ((o : ℕ) → first ≤ o → o ≤ last → acts o ≡ Some kind) → IsHeldTo member held first last count
      → PutsRange rows next first last (settled limit kind count) → AreDoneTo limit member acts held (last + 1) next
  done_more first last kind count rows next h says theirs put = record {
    rows_are = rows_more limit acts held first last rows next (settled limit kind count) theirs.order h.rows_are put
        (λ o lo hi. ap (λ (k : Option AckKind). act_row limit k (hold_at held o)) (says o lo hi) ∙ row_by kind count (hold_at held o) (theirs.theirs o lo hi));
    theirs = λ other lt some. elim (cases_lt other first) [
      | inl below ↦ h.theirs other below some
      | inr ge ↦ theirs_by count (hold_at held other) (theirs.theirs other ge (omega (arith, lt)))
    ];
  }

  some_is : (o : Option AckKind) (kind : AckKind) → o ≡ Some kind → IsSome o
  some_is o kind is = subst (λ (k : Option AckKind). IsSome k) (sym is) refl

  pub missing_at : (o : ℕ) (kind : AckKind) (rows : List Run) → AreDoneTo limit member acts held o rows → acts o ≡ Some kind → (IsHeldBy member (hold_at held o) → ⊥)
      → IsLeastMissing member acts held o
  missing_at o kind rows h says not = record { named = some_is (acts o) kind says; missing = not; below = h.theirs }

-- ---- pieces

-- the pieces begin at this offset or behind it
abbrev pub BeginFrom : ℕ → List Piece → Type 0
BeginFrom end [] = Unit {0}
BeginFrom end (p ∷ ps) = end ≤ p.first

begin_behind : (p : Piece) (ps : List Piece) → Follows p ps → BeginFrom (p.last + 1) ps
begin_behind p [] follows = tt
begin_behind p (next ∷ ps) follows = omega (arith, follows.0)

-- the spare number of runs is enough for the rows of what is held from the first of the pieces on
abbrev pub HasSpareAhead : Held → List Piece → (spare : ℕ) → Type 0
HasSpareAhead held [] spare = Unit {0}
HasSpareAhead held (p ∷ ps) spare = HasSpareFrom held p.first spare

spare_later : (held : Held) (from : ℕ) (pieces : List Piece) (spare : ℕ) → BeginFrom from pieces → HasSpareFrom held from spare → HasSpareAhead held pieces spare
spare_later held from [] spare begin enough = tt
spare_later held from (p ∷ ps) spare begin enough = omega (arith, enough, held_later from p.first held begin)

pub spare_ahead : (held : Held) (left : List Piece) (spare : ℕ) (p : Piece) (rest : List Piece) → left ≡ p ∷ rest → HasSpareAhead held left spare → HasSpareFrom held p.first spare
spare_ahead held left spare p rest is ahead = subst (λ (l : List Piece). HasSpareAhead held l spare) is ahead

-- the acts below an offset are done, and these pieces say what is left to do
pub record AreLeft (limit : ℕ) (member : List ℕ) (acts : Acts) (held : Held) (rows : List Run) (left : List Piece) : Type 0 where
  pub end : ℕ
  pub done : AreDoneTo limit member acts held end rows
  pub ahead : (o : ℕ) → end ≤ o → acts o ≡ piece_at left o
  pub canonical : IsCanonical left
  pub begin : BeginFrom end left

from_zero : (ps : List Piece) → BeginFrom 0 ps
from_zero [] = tt
from_zero (p ∷ ps) = omega arith

pub left_first : (limit : ℕ) (member : List ℕ) (held : Held) (rows : List Run) (pieces : List Piece) → IsCanonical pieces → rows ≡ []
    → AreLeft limit member (piece_at pieces) held rows pieces
left_first limit member held rows pieces canonical none = record {
  end = 0;
  done = record {
    rows_are = λ o. ap (λ (l : List Run). row_at l o) none ∙ sym (upto_beyond limit (piece_at pieces) held 0 o (omega arith));
    theirs = λ o lt some. absurd (omega (arith, lt));
  };
  ahead = λ o le. refl;
  canonical = canonical;
  begin = from_zero pieces;
}

pub spare_first : (held : Held) (pieces : List Piece) (spare : ℕ) → HasSpareFrom held 0 spare → HasSpareAhead held pieces spare
spare_first held pieces spare enough = spare_later held 0 pieces spare (from_zero pieces) enough

module _ (limit : ℕ) (member : List ℕ) (acts : Acts) (held : Held) (rows : List Run) (left : List Piece) (h : AreLeft limit member acts held rows left) where
  pub all_done : left ≡ [] → AreDone limit member acts held rows
  all_done none =
      let nothing : (o : ℕ) → h.end ≤ o → acts o ≡ None = λ o le. h.ahead o le ∙ ap (λ (l : List Piece). piece_at l o) none in record {
        rows_are = all_rows limit acts held h.end rows h.done.rows_are (λ o le. no_act limit acts held o (nothing o le));
        theirs = λ o some. elim (cases_lt o h.end) [
          | inl lt ↦ h.done.theirs o lt some
          | inr ge ↦ absurd (nothing_some (acts o) (nothing o ge) some)
        ];
      }
    where
      nothing_some : (k : Option AckKind) → k ≡ None → IsSome k → ⊥
      nothing_some None e some = let clash : ⊥ = cc in clash
      nothing_some (Some k) e some = let clash : ⊥ = cc in clash

  module _ (p : Piece) (rest : List Piece) (is : left ≡ p ∷ rest) where
    whole : IsCanonical (p ∷ rest)
    whole = subst IsCanonical is h.canonical

    starts : h.end ≤ p.first
    starts = subst (BeginFrom h.end) is h.begin

    pub order : p.first ≤ p.last
    order = whole.0

    says : (o : ℕ) → h.end ≤ o → acts o ≡ piece_at (p ∷ rest) o
    says o le = h.ahead o le ∙ ap (λ (l : List Piece). piece_at l o) is

    pub said : IsSaid p acts
    said o from to = says o (omega (arith, starts, from)) ∙ here p rest o from to

    -- nothing is said up to the piece
    pub reached : AreDoneTo limit member acts held p.first rows
    reached =
        let none : (o : ℕ) → h.end ≤ o → o < p.first → acts o ≡ None = λ o le lt. says o le ∙ begins_at p rest o whole lt in record {
          rows_are = rows_further limit acts held h.end p.first rows h.done.rows_are starts (λ o le lt. no_act limit acts held o (none o le lt));
          theirs = λ o lt some. elim (cases_lt o h.end) [
            | inl low ↦ h.done.theirs o low some
            | inr ge ↦ absurd (nothing_some (acts o) (none o ge lt) some)
          ];
        }
      where
        nothing_some : (k : Option AckKind) → k ≡ None → IsSome k → ⊥
        nothing_some None e some = let clash : ⊥ = cc in clash
        nothing_some (Some k) e some = let clash : ⊥ = cc in clash

    pub left_more : (next : List Run) → AreDoneTo limit member acts held (p.last + 1) next → AreLeft limit member acts held next rest
    left_more next done = record {
      end = p.last + 1;
      done = done;
      ahead = λ o le. says o (omega (arith, starts, whole.0, le)) ∙ beyond p rest o (omega (arith, le));
      canonical = whole.2;
      begin = begin_behind p rest whole.1;
    }

    pub spare_behind : (spare : ℕ) → HasSpareFrom held (p.last + 1) spare → HasSpareAhead held rest spare
    spare_behind spare enough = spare_later held (p.last + 1) rest spare (begin_behind p rest whole.1) enough

-- ---- what ends

pub missing_ends : (limit : ℕ) (member : List ℕ) (acts : Acts) (held : Held) (end : ℕ) (rows : List Run) (missing : Option ℕ) → is_some missing ≡ true
    → Comes limit member acts held end rows missing → Ends limit member acts held rows missing
missing_ends limit member acts held end rows None some comes = absurd (let clash : ⊥ = cc in clash)
missing_ends limit member acts held end rows (Some least) some comes = comes

pub none_missing : (limit : ℕ) (member : List ℕ) (acts : Acts) (held : Held) (end : ℕ) (rows : List Run) (missing : Option ℕ) → is_some missing ≡ false
    → Comes limit member acts held end rows missing → AreDoneTo limit member acts held end rows
none_missing limit member acts held end rows None some comes = comes
none_missing limit member acts held end rows (Some least) some comes = absurd (let clash : ⊥ = cc in clash)

pub is_none_of : (o : Option ℕ) → is_some o ≡ false → o ≡ None
is_none_of None is = refl
is_none_of (Some n) is = absurd (let clash : ⊥ = cc in clash)

pub ended : (limit : ℕ) (member : List ℕ) (acts : Acts) (held : Held) (rows : List Run) (missing : Option ℕ) → missing ≡ None → Ends limit member acts held rows missing
    → AreDone limit member acts held rows
ended limit member acts held rows None is ends = ends
ended limit member acts held rows (Some least) is ends = absurd (let clash : ⊥ = cc in clash)

-- ---- releases

pub same_member : (b : Bool) (x y : List ℕ) → (b ≡ true → y ≡ x) → (y ≡ x → b ≡ true) → b ≡ is_at (slice_cmp nat_cmp x) y
same_member true x y there back = sym (ap (is_at (slice_cmp nat_cmp x)) (there refl) ∙ at_self (slice_cmp nat_cmp) nat_list_cmp_total exact_bytes x)
same_member false x y there back = by_test (is_at (slice_cmp nat_cmp x) y) refl
  where
    by_test : (t : Bool) → is_at (slice_cmp nat_cmp x) y ≡ t → false ≡ t
    by_test true is = back (sym (at_is (slice_cmp nat_cmp) nat_list_cmp_total exact_bytes x y is))
    by_test false is = refl

module _ (limit : ℕ) (chosen : Hold → Bool) (held : Held) where
  abbrev acts : Acts
  acts = releasing chosen held

  act_at : (o : ℕ) (hold : Option Hold) → hold_at held o ≡ hold → acted limit acts held o ≡ act_row limit (releases_if chosen hold) hold
  act_at o hold is = ap (λ (h : Option Hold). act_row limit (releases_if chosen h) h) is

  unheld : (o : ℕ) → hold_at held o ≡ None → acted limit acts held o ≡ None
  unheld o none = act_at o None none

  by_choice : (o : ℕ) (hold : Hold) → hold_at held o ≡ Some hold → (b : Bool) → chosen hold ≡ b → acted limit acts held o ≡ act_row limit (release_of b) (Some hold)
  by_choice o hold is b e = act_at o (Some hold) is ∙ ap (λ (t : Bool). act_row limit (release_of t) (Some hold)) e

  -- holds that aren't chosen
  pub left_out : (first last : ℕ) (hold : Hold) (rows : List Run) → first ≤ last → AreHeldSo held first last hold → chosen hold ≡ false
      → AreRowsTo limit acts held first rows → AreRowsTo limit acts held (last + 1) rows
  left_out first last hold rows order is not h = rows_further limit acts held first (last + 1) rows h (omega (arith, order))
      (λ other le lt. by_choice other hold (is other le (omega (arith, lt))) false not)

  -- and holds that are
  pub let_go : (first last : ℕ) (hold : Hold) (rows next : List Run) (row : Row) → first ≤ last → AreHeldSo held first last hold → chosen hold ≡ true
      → Some row ≡ act_row limit (release_of true) (Some hold) → PutsRange rows next first last row → AreRowsTo limit acts held first rows
      → AreRowsTo limit acts held (last + 1) next
  let_go first last hold rows next row order is picked row_is put h =
      rows_more limit acts held first last rows next row order h put (λ o lo hi. by_choice o hold (is o lo hi) true picked ∙ sym row_is)

  -- up to the next run
  pub up_to_next : (from : ℕ) (run : HoldRun) (rows : List Run) → IsRunAt held from run → AreRowsTo limit acts held from rows
      → AreRowsTo limit acts held (max run.first from) rows
  up_to_next from run rows is h = rows_further limit acts held from (max run.first from) rows h (omega arith) (λ o le lt. unheld o (is.free o le (omega (arith, le, lt))))

  -- the offsets of a run from one on are held in its way
  pub run_so : (from : ℕ) (run : HoldRun) → IsRunAt held from run → AreHeldSo held (max run.first from) run.last run.hold
  run_so from run is o lo hi = is.holds o (omega (arith, lo)) hi

  pub all_released : (from : ℕ) (rows : List Run) → IsRunFrom held from None → AreRowsTo limit acts held from rows → AreRows limit acts held rows
  all_released from rows is h = all_rows limit acts held from rows h (λ o le. unheld o (is o le))

  pub none_released : (rows : List Run) → rows ≡ [] → AreRowsTo limit acts held 0 rows
  none_released rows none o = ap (λ (l : List Run). row_at l o) none ∙ sym (upto_beyond limit acts held 0 o (omega arith))

  released_row : (r : Option Hold) → act_row limit (releases_if chosen r) r ≡ None → releases_if chosen r ≡ None
  released_row None none = refl
  released_row (Some hold) none = by_row (chosen hold) none
    where
      by_row : (b : Bool) → act_row limit (release_of b) (Some hold) ≡ None → release_of b ≡ None
      by_row true none = absurd (let clash : ⊥ = cc in clash)
      by_row false none = refl

  -- with no rows, nothing is released
  pub released_none : (rows : List Run) → length rows ≡ 0 → AreRows limit acts held rows → NameNone acts
  released_none [] none are o = released_row (hold_at held o) (sym (are o))
  released_none (run ∷ rows) none are o = absurd (omega (arith, none))

  named_row : (kind : Option AckKind) (hold : Option Hold) (row : Row) → act_row limit kind hold ≡ Some row → IsSome kind
  named_row None hold row some = absurd (let clash : ⊥ = cc in clash)
  named_row (Some kind) hold row some = refl

  -- and with rows something is
  pub released_one : (rows : List Run) → AreCanonical rows → (length rows ≡ 0 → ⊥) → AreRows limit acts held rows → NameOne acts
  released_one [] canonical not are = absurd (not refl)
  released_one (run ∷ rows) canonical not are =
      let from : nat_le run.first run.first ≡ true = grind (arith, nat_tests) in
      let to : nat_le run.first run.last ≡ true = (let le = canonical.0 in grind (arith, nat_tests)) in
      let there : row_at (run ∷ rows) run.first ≡ Some (row_of run) = (λ i. if from i && to i then Some (row_of run) else row_at rows run.first) in
      (run.first, named_row (acts run.first) (hold_at held run.first) (row_of run) (sym (are run.first) ∙ there))

-- ---- what is stored

module _ (log : List Batch) (start : ℕ) (stored rows : List Run) (limit : ℕ) (acts : Acts) (held : Held) (are : AreRows limit acts held rows) where
  abbrev table : Table
  table = record { start = start; rows = stored; held = held }

  laid_is : laid rows stored ≡ stored_after limit acts table
  laid_is = λ i. λ o. option_or (are o i) (row_at stored o)

  settles : (next : ℕ) (runs : List Run) → IsNextStart log (laid rows stored) start next → CutsBelow rows runs next → AreCanonical runs → Settles limit acts log table next runs
  settles next runs is cut canonical = record {
    start_is = subst (λ (s : ℕ → Option Row). IsNextStart log s start next) laid_is is;
    canonical = canonical;
    rows = λ o. cut o ∙ ap (λ (r : Option Row). if nat_lt o next then None else r) (are o);
  }

  pub unmoved : (change : Change) (next : ℕ) → change.start ≡ None → next ≡ start → IsNextStart log (laid rows stored) start next → CutsBelow rows change.runs next
      → AreCanonical change.runs → IsChange limit acts log table change
  unmoved change next none same is cut canonical = record {
    settles = subst (λ (n : ℕ). Settles limit acts log table n change.runs) (same ∙ ap (λ (o : Option ℕ). unwrap_or o start) (sym none)) (settles next change.runs is cut canonical);
    moves = λ e. let clash : ⊥ = cc in clash;
  }

  pub moved : (change : Change) (next : ℕ) → change.start ≡ Some next → (next ≡ start → ⊥) → IsNextStart log (laid rows stored) start next → CutsBelow rows change.runs next
      → AreCanonical change.runs → IsChange limit acts log table change
  moved change next some other is cut canonical = record {
    settles = subst (λ (n : ℕ). Settles limit acts log table n change.runs) (ap (λ (o : Option ℕ). unwrap_or o start) (sym some)) (settles next change.runs is cut canonical);
    moves = λ e. other (let same : next ≡ start = ap (λ (o : Option ℕ). unwrap_or o start) (sym some ∙ e) in same);
  }
