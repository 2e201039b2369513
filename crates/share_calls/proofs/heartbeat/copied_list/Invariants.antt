use Rattle.std.proofs.Common.{◌≡◌, take}
use Rattle.std.specs.Vec.{vec_len}
use Rattle.share_calls.proofs.heartbeat.copied_list.Given as goal

abbrev pub invariant-loop-text : goal.invariant-loop-text
invariant-loop-text l = record {
  copies : l.copies.items ≡ take l.text-index l.texts;
  count : vec_len l.copies ≡ l.text-index;
}
