use Rattle.std.proofs.Common.{arith}
use Rattle.share_session.proofs.change.open_last.Goals as goal

pub returns-in_err-push-clause-kept : goal.returns-in_err-push-clause-kept
returns-in_err-push-clause-kept c = absurd (omega (arith, c.in_err-push.ensures.full, c.leave.ensures.room, c.leave.ensures.few, c.in_ok-reserve.ensures.ok, c.reserve.ensures.len))
