use Rattle.part_log.proofs.Frames.{only_by, stored_by}
use Rattle.part_log.proofs.laws.a_frame_is_one_batch.Goals as goal

pub returns : goal.returns
returns c = record { stored = stored_by; only = only_by }
