use Rattle.share_part.proofs.delete.end_up_to.Given as goal

abbrev pub ghosts-end_in_ledger : goal.ghosts-end_in_ledger
ghosts-end_in_ledger g a = record { name = a.blank.name; parts = a.blank.parts }
