use Rattle.std.proofs.Common.{rules}
use Rattle.edge_mem.proofs.Fresh.{fresh}
use Rattle.edge_mem.proofs.history.History.new.Goals as goal

pub invariant_of-result : goal.invariant_of-result
invariant_of-result c = fresh _ _ _ _ (search rules) (search rules) c.new.ensures.items
