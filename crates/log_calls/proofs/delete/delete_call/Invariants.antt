use Rattle.std.proofs.Common.{◌≡◌, map}
use Rattle.std.specs.List.{flat_map}
use Rattle.log_calls.specs.Delete.{target_entries, target_shape}
use Rattle.log_calls.proofs.delete.delete_call.Given as goal

abbrev pub invariant-loop-topic : goal.invariant-loop-topic
invariant-loop-topic l = record {
  shape : l.shape.items ≡ map target_shape l.yielded;
  left : l.left.items ≡ flat_map (target_entries l.conf.topics) l.yielded;
}
