use Rattle.share_part.proofs.Stepping.{next, now_settled, now_states}
use Rattle.share_part.proofs.laws.stored_changes_settle_a_table.Goals as goal

pub returns : goal.returns
returns c = λ conf log old new group state held acts change was known is w. (
  next conf log.batches old new group state held acts change was known is w,
  now_settled conf log.batches old new group state held acts change was known is w,
  now_states conf log.batches old new group state held acts change was known is w,
)
