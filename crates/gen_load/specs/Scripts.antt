-- The script of a number: the lines of its session, as docs/SCRIPT.md has them.
-- For example that of 7 has 57 lines (layer_rows, `a session of seven rounds`).
use Rattle.std.specs.Prelude.{◌≡◌, ℕ, List, [], ◌∷◌, ◌++◌}
use Rattle.std.specs.List.{flat_map}
use Rattle.session_script.specs.Script.{line_of, end_line}
use Rattle.gen_load.specs.declared.counts.Counts.{Counts}
use Rattle.gen_load.specs.declared.script.Script.{Script}
use Rattle.gen_load.specs.Session.{Act, counted, events_of, opened, none_yet, rounds_from}

-- the lines of acts, one after another
unfoldable pub lines_from : Counts → List Act → List ℕ
lines_from counts [] = []
lines_from counts (act ∷ acts) = flat_map line_of (events_of counts act) ++ lines_from (counted counts act) acts

-- what is counted behind them
unfoldable pub counted_from : Counts → List Act → Counts
counted_from counts [] = counts
counted_from counts (act ∷ acts) = counted_from (counted counts act) acts

abbrev pub script_of : ℕ → List ℕ
script_of n = flat_map line_of opened ++ (lines_from none_yet (rounds_from 1 n) ++ end_line)

-- these acts were written, and counted
pub record Adds (old new : Script) (acts : List Act) : Type 0 where
  pub text : new.text ≡ old.text ++ lines_from old.counts acts
  pub counts : new.counts ≡ counted_from old.counts acts
