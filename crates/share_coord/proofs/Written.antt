-- Rows that are written one run after another, and laid over others.
use Rattle.std.proofs.Common.{◌≡◌, ◌∙◌, refl, sym, ap, ℕ, List, [], ◌∷◌, ◌++◌}
use Rattle.std.proofs.Common.{Option, Some, None, Bool, true, false, nat_le, ◌&&◌, if◌then◌else◌}
use Rattle.std.specs.Option.{option_or}
use Rattle.share_model.specs.Runs.{IsCanonical, row_at, row_of}
use Rattle.share_model.specs.ShareStates.{last_row, AreWritten}
use Rattle.share_model.specs.declared.row.Row.{Row}
use Rattle.share_model.specs.declared.run.Run.{Run}
use Rattle.offset_runs.specs.Changes.{PutsRange, Overlays}

pub or_none : (a : Option Row) → option_or a None ≡ a
or_none None = refl
or_none (Some r) = refl

or_then : (a : Option Row) (b : Bool) (r : Row) (c : Option Row) → option_or a (if b then Some r else c) ≡ option_or (option_or a (if b then Some r else None)) c
or_then None true r c = refl
or_then None false r c = refl
or_then (Some x) true r c = refl
or_then (Some x) false r c = refl

or_assoc : (a b c : Option Row) → option_or (option_or a b) c ≡ option_or a (option_or b c)
or_assoc None b c = refl
or_assoc (Some x) b c = refl

-- one run more is put over the rows so far
pub puts_next : (run : Run) (rest old new : List Run) (o : ℕ) → PutsRange old new run.first run.last (row_of run)
    → option_or (last_row rest o) (row_at new o) ≡ option_or (last_row (run ∷ rest) o) (row_at old o)
puts_next run rest old new o puts = ap (option_or (last_row rest o)) (puts o)
    ∙ or_then (last_row rest o) (nat_le run.first o && nat_le o run.last) (row_of run) (row_at old o)

-- the runs behind win over those in front
pub last_row-append : (xs ys : List Run) (o : ℕ) → last_row (xs ++ ys) o ≡ option_or (last_row ys o) (last_row xs o)
last_row-append [] ys o = sym (or_none (last_row ys o))
last_row-append (x ∷ xs) ys o =
    ap (λ a. option_or a (if nat_le x.first o && nat_le o x.last then Some (row_of x) else None)) (last_row-append xs ys o)
    ∙ or_assoc (last_row ys o) (last_row xs o) (if nat_le x.first o && nat_le o x.last then Some (row_of x) else None)

pub halves : (xs front back out behind new : List Run) → xs ≡ front ++ back → AreWritten front out → AreWritten back behind
    → Overlays out new behind → IsCanonical new → AreWritten xs new
halves xs front back out behind new parts f b over canonical = record {
  canonical = canonical;
  rows = λ o. over o ∙ ap (λ a. option_or a (row_at out o)) (b.rows o) ∙ ap (option_or (last_row back o)) (f.rows o)
      ∙ sym (last_row-append front back o) ∙ ap (λ l. last_row l o) (sym parts);
}
