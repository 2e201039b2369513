use Rattle.checkpoint_journal.proofs.Marks.{kept, overtaken}
use Rattle.checkpoint_journal.proofs.laws.the_next_generation_is_live.Goals as goal

pub returns-clause-stays : goal.returns-clause-stays
returns-clause-stays c = kept

pub returns-clause-passes : goal.returns-clause-passes
returns-clause-passes c = overtaken
