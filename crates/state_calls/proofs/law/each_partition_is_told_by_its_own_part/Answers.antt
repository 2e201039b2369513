use Rattle.state_calls.proofs.StateTalked.{tells_by_part}
use Rattle.state_calls.proofs.law.each_partition_is_told_by_its_own_part.Goals as goal

pub returns : goal.returns
returns g c = tells_by_part g.S.StateCall.means g.S.Row.Wire.format
