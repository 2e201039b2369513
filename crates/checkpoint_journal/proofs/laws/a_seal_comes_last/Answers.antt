use Rattle.checkpoint_journal.proofs.Marks.{begun, made, one_more}
use Rattle.checkpoint_journal.proofs.laws.a_seal_comes_last.Goals as goal

pub returns-clause-begun : goal.returns-clause-begun
returns-clause-begun c = begun

pub returns-clause-made : goal.returns-clause-made
returns-clause-made c = made

pub returns-clause-more : goal.returns-clause-more
returns-clause-more c = one_more
