-- Runs whose offsets and counts fit, by their rows.
use Rattle.std.proofs.Common.{◌≡◌, ◌<◌, ◌≤◌, ◌^◌, ⊎_elim, refl, sym, ap, ◌∙◌, subst, arith, ℕ, ℤ, pos, negsuc, List, [], ◌∷◌}
use Rattle.std.proofs.Common.{Option, Some, None, Bool, true, false, nat_le, ◌&&◌, if◌then◌else◌}
use Rattle.std.proofs.lemmas.Bool.{cases_lt}
use Rattle.std.proofs.lemmas.Bool.Decides.{nat_tests}
use Rattle.std.specs.List.{AllByRecursion, list_all}
use Rattle.std.specs.Option.{option_or}
use Rattle.share_model.specs.ForeignRules.{size_of}
use Rattle.share_model.specs.Runs.{IsCanonical, row_at, row_of}
use Rattle.share_model.specs.ShareStates.{is_writable, last_row, AreWritten, AreLaid, is_below}
use Rattle.share_model.specs.declared.row.Row.{Row}
use Rattle.share_model.specs.declared.run.Run.{Run}
use Rattle.share_model.proofs.Lookups.{row_at-here, row_at-beyond, row_at-none}
use Rattle.share_model.proofs.OneList.{one_list}
use Rattle.offset_runs.specs.Complete.{complete_rows}
use Rattle.offset_runs.specs.Parts.{EndsBelow}
use Rattle.offset_runs.proofs.Cuts.{no_lt}
use Rattle.offset_runs.proofs.Tallies.{between_fits, rows_between}
use Rattle.state_records.specs.States.{IsStoredRun, AreStoredRuns}
use Rattle.share_coord.proofs.Keys.{some_none, some_is}
use Rattle.share_coord.proofs.Written.{or_none}

-- an offset and its row fit
abbrev pub Fits : ℕ → Row → Type 0
Fits o r = (o < 2 ^ 63) × (r.count < 2 ^ 15)

abbrev pub AllFit : (ℕ → Option Row) → Type 0
AllFit rows = (o : ℕ) (r : Row) → rows o ≡ Some r → Fits o r

covers : Run → ℕ → Bool
covers run o = nat_le run.first o && nat_le o run.last

covered : (run : Run) (o : ℕ) → (nat_le run.first o && nat_le o run.last) ≡ true → o ≤ run.last
covered run o e = grind (arith, nat_tests)

in_run : (run : Run) (o : ℕ) (r : Row) (b : Bool) (rest : Option Row) → (nat_le run.first o && nat_le o run.last) ≡ b → run.last < 2 ^ 63 → run.count < 2 ^ 15
    → (rest ≡ Some r → Fits o r) → (if b then Some (row_of run) else rest) ≡ Some r → Fits o r
in_run run o r true rest is last count f e =
    let le = covered run o is in
    let same : row_of run ≡ r = some_is (row_of run) r e in
    (omega (arith, le, last), subst (λ (x : Row). x.count < 2 ^ 15) same count)
in_run run o r false rest is last count f e = f e

pub row_fits : (runs : List Run) → AllByRecursion IsStoredRun runs → AllFit (row_at runs)
row_fits [] h o r e = absurd (some_none r (sym e))
row_fits (x ∷ xs) h o r e = in_run x o r (nat_le x.first o && nat_le o x.last) (row_at xs o) refl h.0.0 h.0.1 (row_fits xs h.1 o r) e

pub fits_row : (runs : List Run) → IsCanonical runs → AllFit (row_at runs) → AllByRecursion IsStoredRun runs
fits_row [] canonical f = tt
fits_row (x ∷ xs) canonical f =
    let here = f x.last (row_of x) (row_at-here x xs x.last canonical.0 (omega arith)) in (
      here,
      fits_row xs canonical.2 (λ o r e. ⊎_elim (λ lt. f o r (row_at-beyond x xs o lt ∙ e))
          (λ le. absurd (some_none r (sym e ∙ row_at-none x xs o canonical.1 canonical.2 le))) (cases_lt x.last o)),
    )

either_fits : (o : ℕ) (r : Row) (a b : Option Row) → (a ≡ Some r → Fits o r) → (b ≡ Some r → Fits o r) → option_or a b ≡ Some r → Fits o r
either_fits o r None b f g e = g e
either_fits o r (Some x) b f g e = f e

writable : (run : Run) (b : Bool) → (is_writable run && b) ≡ true → (run.last < 2 ^ 63) × (run.count < 2 ^ 15) × (b ≡ true)
writable run true e = (grind (arith, nat_tests), grind (arith, nat_tests), refl)
writable run false e = grind (arith, nat_tests)

pub last_fits : (runs : List Run) → list_all is_writable runs ≡ true → AllFit (last_row runs)
last_fits [] h o r e = absurd (some_none r (sym e))
last_fits (x ∷ xs) h o r e =
    let w = writable x (list_all is_writable xs) h in
    either_fits o r (last_row xs o) (if nat_le x.first o && nat_le o x.last then Some (row_of x) else None) (last_fits xs w.2 o r)
    (in_run x o r (nat_le x.first o && nat_le o x.last) None refl w.0 w.1 (λ none. absurd (some_none r (sym none)))) e

pub written_stored : (runs written : List Run) → list_all is_writable runs ≡ true → AreWritten runs written → AreStoredRuns written
written_stored runs written all is = (is.canonical, fits_row written is.canonical (λ o r e. last_fits runs all o r (sym (is.rows o) ∙ e)))

cut_fits : (o : ℕ) (r : Row) (b : Bool) (rows : Option Row) → (rows ≡ Some r → Fits o r) → (if b then None else rows) ≡ Some r → Fits o r
cut_fits o r true rows f e = absurd (some_none r (sym e))
cut_fits o r false rows f e = f e

pub laid_stored : (start : ℤ) (under over laid : List Run) → AreLaid start under over laid → AreStoredRuns under → AreStoredRuns over → AreStoredRuns laid
laid_stored start under over laid is u v = (
  is.canonical,
  fits_row laid is.canonical (λ o r e.
      cut_fits o r (is_below o start) (option_or (row_at over o) (row_at under o))
      (either_fits o r (row_at over o) (row_at under o) (row_fits over v.1 o r) (row_fits under u.1 o r)) (sym (is.rows o) ∙ e)),
)

-- ---- what is laid

-- these runs, cut at the start
pub cut_laid : (start : ℤ) (runs laid : List Run) → IsCanonical laid → ((o : ℕ) → row_at laid o ≡ (if is_below o start then None else row_at runs o))
    → AreLaid start [] runs laid
cut_laid start runs laid canonical rows = record {
  canonical = canonical;
  rows = λ o. rows o ∙ ap (λ (a : Option Row). if is_below o start then None else a) (sym (or_none (row_at runs o)));
}

cut_again : (b : Bool) (a l : Option Row) → l ≡ (if b then None else a) → l ≡ (if b then None else option_or l None)
cut_again true a l e = e
cut_again false a l e = sym (or_none l)

-- what was laid, cut again
pub laid_again : (start : ℤ) (under over laid : List Run) → AreLaid start under over laid → AreLaid start [] laid laid
laid_again start under over laid is = record {
  canonical = is.canonical;
  rows = λ o. cut_again (is_below o start) (option_or (row_at over o) (row_at under o)) (row_at laid o) (is.rows o);
}

pub laid_once : (start : ℤ) (under over l m : List Run) → AreLaid start under over l → AreLaid start under over m → l ≡ m
laid_once start under over l m p q = one_list l m p.canonical q.canonical (λ o. p.rows o ∙ sym (q.rows o))

-- no rows, cut anywhere
pub nothing_laid : (start : ℤ) → AreLaid start [] [] []
nothing_laid start = record { canonical = tt; rows = λ o. none (is_below o start) }
  where
    none : (b : Bool) → ◌≡◌ {A = Option Row} None (if b then None else None)
    none true = refl
    none false = refl

-- ---- complete rows

pub stored_ends : (runs : List Run) → AllByRecursion IsStoredRun runs → EndsBelow runs (2 ^ 63)
stored_ends [] stored = tt
stored_ends (x ∷ xs) stored = (stored.0.0, stored_ends xs stored.1)

pub complete_low : (runs : List Run) → AreStoredRuns runs → complete_rows runs < 2 ^ 64
complete_low runs stored =
    let ends = stored_ends runs stored.1 in
    let few = between_fits runs 0 (2 ^ 63) (2 ^ 63) stored.0 ends in
    omega (arith, few, rows_between runs (2 ^ 63) ends)

-- from an offset, and not below where no start was given
pub laid_from : (start : ℤ) (under over laid : List Run) → AreLaid start under over laid → AreLaid (pos (size_of start)) under over laid
laid_from (pos n) under over laid is = is
laid_from (negsuc n) under over laid is = record {
  canonical = is.canonical;
  rows = λ o. is.rows o ∙ ap (λ (b : Bool). if b then None else option_or (row_at over o) (row_at under o)) (sym (no_lt o 0 (omega arith)));
}
