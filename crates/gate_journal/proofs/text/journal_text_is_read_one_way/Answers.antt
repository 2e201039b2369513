use Rattle.gate_journal.proofs.Once.{once, not_both, place_once}
use Rattle.gate_journal.proofs.Total.{text_or_damaged}
use Rattle.gate_journal.proofs.text.journal_text_is_read_one_way.Goals as goal

pub returns-clause-either : goal.returns-clause-either
returns-clause-either c = text_or_damaged

pub returns-clause-frames : goal.returns-clause-frames
returns-clause-frames c = once

pub returns-clause-damaged : goal.returns-clause-damaged
returns-clause-damaged c = not_both

pub returns-clause-place : goal.returns-clause-place
returns-clause-place c = place_once
