use Rattle.part_log.proofs.FrameReads.{no_third, place_once_more, text_sound}
use Rattle.part_log.proofs.Keeping.{logs_once}
use Rattle.part_log.proofs.laws.log_text_is_read_one_way.Goals as goal

pub returns : goal.returns
returns c = record { either = no_third; logs = logs_once; damaged = text_sound; place = place_once_more }
