use Rattle.std.proofs.Common.{◌≡◌, ◌≤◌, map, take}
use Rattle.std.specs.Vec.{vec_len}
use Rattle.share_calls.specs.Fetch.{acquired}
use Rattle.share_calls.proofs.fetch_rows.all_acquired.Given as goal

abbrev pub invariant-loop-grant : goal.invariant-loop-grant
invariant-loop-grant l = record {
  records : l.records.items ≡ map acquired (take l.grant-index l.grants);
  few : vec_len l.records ≤ l.grant-index;
}
