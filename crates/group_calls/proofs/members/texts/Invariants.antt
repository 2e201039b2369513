use Rattle.std.proofs.Common.{◌≡◌, take}
use Rattle.std.specs.Vec.{vec_len}
use Rattle.group_calls.proofs.members.texts.Given as goal

abbrev pub invariant-loop-name : goal.invariant-loop-name
invariant-loop-name l = record {
  texts : l.texts.items ≡ take l.name-index l.names;
  count : vec_len l.texts ≡ l.name-index;
}
