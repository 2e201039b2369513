use Rattle.part_log.proofs.Writes.{text_batches, text_is_sound, text_start, text_within}
use Rattle.part_log.proofs.laws.a_log_is_its_batches_and_its_last_mark.Goals as goal

pub returns : goal.returns
returns c = record {
  batches = λ content frames log stands text. text_batches content log text frames stands;
  start = λ content frames log stands text. text_start content log text frames stands;
  sound = text_is_sound;
  within = text_within;
}
