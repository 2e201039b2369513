use Rattle.share_coord.specs.Tables.{AreRoomy}
use Rattle.share_coord.proofs.table.are_roomy.Given as goal

abbrev pub invariant-loop-kept : goal.invariant-loop-kept
invariant-loop-kept l = AreRoomy l.room l.kept-iterator → AreRoomy l.room l.map.entries
