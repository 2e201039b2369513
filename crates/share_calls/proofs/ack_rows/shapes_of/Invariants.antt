use Rattle.std.proofs.Common.{◌≡◌, ◌≤◌, map, take}
use Rattle.std.specs.Vec.{vec_len}
use Rattle.share_calls.specs.Acknowledge.{shape_of}
use Rattle.share_calls.proofs.ack_rows.shapes_of.Given as goal

abbrev pub invariant-loop-topic : goal.invariant-loop-topic
invariant-loop-topic l = record {
  shape : l.shape.items ≡ map shape_of (take l.topic-index l.topics);
  few : vec_len l.shape ≤ l.topic-index;
}
