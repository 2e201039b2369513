use Rattle.layer_rows.proofs.windows.end_line.Given as goal

abbrev pub ghosts-end_in_ledger : goal.ghosts-end_in_ledger
ghosts-end_in_ledger a = record { name = a.blank.name; parts = a.blank.parts }
