use Rattle.gate_journal.proofs.FrameReads.{word_is}
use Rattle.std.proofs.Common.{◌∙◌}
use Rattle.gate_journal.proofs.reading.frame_len.Goals as goal

pub returns-clause-is : goal.returns-clause-is
returns-clause-is g c = λ x frame told is.
    word_is x c.args.place frame is c.word.result c.word.ensures.range (c.word.ensures.is ∙ c.in_ok-read_at.ensures.bytes x told)
