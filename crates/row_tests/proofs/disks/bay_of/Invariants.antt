use Rattle.edge_mem.specs.Seen.{bay_view}
use Rattle.share_top.specs.Loading.{NoneIsOut}
use Rattle.row_tests.proofs.disks.bay_of.Given as goal

abbrev pub invariant-loop-line : goal.invariant-loop-line
invariant-loop-line l = NoneIsOut bay_view l.bay

abbrev pub invariant-loop-fault : goal.invariant-loop-fault
invariant-loop-fault l = NoneIsOut bay_view l.bay
