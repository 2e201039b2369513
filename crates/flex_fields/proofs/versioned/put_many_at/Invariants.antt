use Rattle.flex_fields.proofs.Told.{FurtherTold}
use Rattle.flex_fields.proofs.versioned.put_many_at.Given as goal

abbrev pub invariant-loop-item : goal.invariant-loop-item
invariant-loop-item g l = FurtherTold (g.T.Versioned.schema l.version) l.items l.item-index l.fn.out l.out
