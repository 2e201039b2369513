-- The faults of an opening, by those of the log and of the states. Private clauses cite this alone.
-- For example the second state disk that is damaged at byte 0 is told so.
use Rattle.std.specs.Prelude.{Bool, true, false}
use Rattle.edge_io.specs.declared.name.DiskPlace.{DiskPlace}
use Rattle.edge_io.specs.declared.name.DiskPlace.TheVariants.{Log, StateA, StateB}
use Rattle.coord_checkpoint.specs.declared.fault.CoordOpen.{CoordOpen}
use Rattle.coord_checkpoint.specs.declared.fault.CoordOpen.TheVariants.{Damaged as states_damaged, Device as states_device, NoMemory as states_memory}
use Rattle.part_log.specs.declared.fault.OpenFault.{OpenFault}
use Rattle.part_log.specs.declared.fault.OpenFault.TheVariants.{Damaged as log_damaged, Device as log_device, NoMemory as log_memory}
use Rattle.share_part.specs.declared.opening.PartFault.{PartFault}
use Rattle.share_part.specs.declared.opening.PartFault.TheVariants.{Damaged, Device, NoMemory}

abbrev pub fault_of_log : OpenFault → PartFault
fault_of_log (log_damaged place) = Damaged Log place
fault_of_log log_device = Device Log
fault_of_log log_memory = NoMemory

abbrev pub state_disk : Bool → DiskPlace
state_disk false = StateA
state_disk true = StateB

abbrev pub fault_of_states : CoordOpen → PartFault
fault_of_states (states_damaged second place) = Damaged (state_disk second) place
fault_of_states (states_device second) = Device (state_disk second)
fault_of_states states_memory = NoMemory
