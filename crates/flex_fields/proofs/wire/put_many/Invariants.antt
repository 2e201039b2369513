use Rattle.std.proofs.Common.{◌≡◌, ◌++◌, take}
use Rattle.std.specs.List.{flat_map}
use Rattle.flex_fields.specs.Grammar.{AreMany}
use Rattle.flex_fields.proofs.wire.put_many.Given as goal

abbrev pub invariant-loop-item : goal.invariant-loop-item
invariant-loop-item g l = record {
  written : l.out ≡ l.fn.out ++ flat_map g.T.Wire.format.bytes (take l.item-index l.items);
  stands : AreMany g.T.Wire.format.is (flat_map g.T.Wire.format.bytes (take l.item-index l.items)) (take l.item-index l.items);
}
