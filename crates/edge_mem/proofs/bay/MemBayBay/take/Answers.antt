use Rattle.std.proofs.Common.{refl}
use Rattle.edge_mem.proofs.Slots.{still_in}
use Rattle.edge_mem.proofs.bay.MemBayBay.take.Goals as goal

pub take_named-requires : goal.take_named-requires
take_named-requires c = (still_in _ _ _ _ c.self.view_is refl c.requires).1
