use Rattle.edge_mem.proofs.Fresh.{fresh_content}
use Rattle.edge_mem.proofs.disk.MemDisk.new.Goals as goal

pub returns-clause-content : goal.returns-clause-content
returns-clause-content c = fresh_content _ _ c.in_ok-new.ensures
