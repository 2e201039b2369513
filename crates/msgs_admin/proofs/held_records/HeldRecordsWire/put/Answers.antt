use Rattle.flex_fields.proofs.Puts.{structure_put}
use Rattle.msgs_admin.specs.HeldRecords.{held_records_shape, held_records}
use Rattle.msgs_admin.proofs.held_records.HeldRecordsWire.put.Goals as goal

pub returns-clause-ok : goal.returns-clause-ok
unfolding held_records
returns-clause-ok c = structure_put held_records_shape _ _ _ _ c.put_structure.result c.put_structure.ensures.ok
