use Rattle.std.proofs.Common.{◌≡◌, map}
use Rattle.std.specs.List.{flat_map}
use Rattle.describe_calls.specs.Offsets.{offset_entries, offsets_shape}
use Rattle.describe_calls.proofs.offsets.plan_offsets.Given as goal

abbrev pub invariant-loop-topic : goal.invariant-loop-topic
invariant-loop-topic l = record {
  shape : l.shape.items ≡ map offsets_shape l.yielded;
  left : l.left.items ≡ flat_map (offset_entries l.conf.topics) l.yielded;
}
