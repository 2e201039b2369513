use Rattle.std.proofs.Common.{◌≡◌, ◌<◌, ◌-◌, ℕ, true, eqb, length}
use Rattle.std.specs.List.{IsDistinct, list_any}
use Rattle.tape_merge.specs.Waiting.{HasLeft, WaitInRow}
use Rattle.tape_merge.proofs.tangle.cycle_from.Given as goal

abbrev pub invariant-walk : goal.invariant-walk
invariant-walk l = record {
  row : WaitInRow l.tapes l.links l.counts l.path.items l.at;
  distinct : IsDistinct eqb l.path.items;
  below : (q : ℕ) → list_any (eqb q) l.path.items ≡ true → q < length l.links;
  left : HasLeft l.links l.counts l.at;
}

abbrev pub decreases-walk : goal.decreases-walk
decreases-walk l = length l.links - length l.path.items
