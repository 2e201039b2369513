use Rattle.checkpoint_journal.proofs.OneWay.{one_list, not_listed, one_fault, one_or_other}
use Rattle.checkpoint_journal.proofs.laws.stores_are_read_one_way.Goals as goal

pub returns-clause-either : goal.returns-clause-either
returns-clause-either c = one_or_other c.journal_text_is_read_one_way.ensures.either

pub returns-clause-frames : goal.returns-clause-frames
returns-clause-frames c = one_list c.journal_text_is_read_one_way.ensures.frames c.journal_text_is_read_one_way.ensures.damaged c.journal_text_is_read_one_way.ensures.place

pub returns-clause-damaged : goal.returns-clause-damaged
returns-clause-damaged c = not_listed c.journal_text_is_read_one_way.ensures.frames c.journal_text_is_read_one_way.ensures.damaged c.journal_text_is_read_one_way.ensures.place

pub returns-clause-place : goal.returns-clause-place
returns-clause-place c = one_fault c.journal_text_is_read_one_way.ensures.frames c.journal_text_is_read_one_way.ensures.damaged c.journal_text_is_read_one_way.ensures.place
