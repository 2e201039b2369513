use Rattle.edge_real.proofs.Places.{joined}
use Rattle.edge_real.proofs.bay.FolderBay.take_named.Goals as goal

pub returns-in-Err-clause-others : goal.returns-in-Err-clause-others
returns-in-Err-clause-others g c = λ m away. joined _ _ _ _ m c.self.view_is (c.in_ok-disk.ensures.slots m) (c.set_out.ensures.others m away)

pub returns-clause-others : goal.returns-clause-others
returns-clause-others g c = λ m away. joined _ _ _ _ m c.self.view_is (c.in_ok-disk.ensures.slots m) (c.set_out.ensures.others m away)
