-- The want of memory of a broker's events (this project's own). For example an event for whose outcomes there is no memory has it.
use Rattle.broker_core.specs.declared.fault.CoreFault.{CoreFault}
use Rattle.broker_core.specs.declared.fault.CoreFault.TheVariants.{NoMemory}

abbrev pub no_memory : CoreFault
no_memory = NoMemory
