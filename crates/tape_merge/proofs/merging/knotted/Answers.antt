use Rattle.tape_merge.proofs.merging.knotted.Goals as goal

pub returns : goal.returns
returns c = λ topics. (c.requires.matched, c.in_ok-place.ensures)
