use Rattle.std.proofs.Common.{◌≡◌, ◌≤◌, ◌-◌, ◌++◌, take, drop}
use Rattle.std.specs.Vec.{vec_len}
use Rattle.call_fold.proofs.rows.next_rows.Given as goal

abbrev pub invariant-loop : goal.invariant-loop
invariant-loop g l = record {
  first : l.first.items ++ take (l.count - l.counter) l.rows.items ≡ take l.count l.fn.rows.items;
  left : drop (l.count - l.counter) l.rows.items ≡ drop l.count l.fn.rows.items;
  few : vec_len l.first ≤ l.counter;
}
