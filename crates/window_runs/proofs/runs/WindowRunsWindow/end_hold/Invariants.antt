use Rattle.window_runs.proofs.runs.WindowRunsWindow.end_hold.Given as goal

abbrev pub ghosts-end_uncounted : goal.ghosts-end_uncounted
ghosts-end_uncounted a = record { name = a.blank.name; parts = a.blank.parts }
