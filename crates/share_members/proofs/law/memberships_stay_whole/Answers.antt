use Rattle.share_members.proofs.Whole.{nothing_is_whole, whole_after_heartbeat, whole_after_expiry}
use Rattle.share_members.proofs.law.memberships_stay_whole.Goals as goal

pub returns : goal.returns
returns c = record { first = nothing_is_whole; heartbeat = whole_after_heartbeat; expire = whole_after_expiry }
