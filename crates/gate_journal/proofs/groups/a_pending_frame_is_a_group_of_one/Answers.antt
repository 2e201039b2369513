use Rattle.gate_journal.proofs.Grouped.{all_as_stands, none_behind, none_pends, stands_as_all}
use Rattle.gate_journal.proofs.groups.a_pending_frame_is_a_group_of_one.Goals as goal

pub returns-clause-one : goal.returns-clause-one
returns-clause-one g c = λ writer frames pending.
    (stands_as_all g.D.Disk.seen writer frames pending, all_as_stands g.D.Disk.seen writer frames pending)

pub returns-clause-mended : goal.returns-clause-mended
returns-clause-mended g c = λ writer frames pending. none_pends g.D.Disk.seen writer frames pending

pub returns-clause-behind : goal.returns-clause-behind
returns-clause-behind g c = λ writer frames pending. none_behind g.D.Disk.seen writer frames pending
