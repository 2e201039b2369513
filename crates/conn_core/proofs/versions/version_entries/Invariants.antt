use Rattle.std.proofs.Common.{◌≡◌, map, take}
use Rattle.std.specs.Vec.{vec_len}
use Rattle.conn_core.specs.Versions.{version_entry}
use Rattle.conn_core.proofs.versions.version_entries.Given as goal

abbrev pub invariant-loop-api : goal.invariant-loop-api
invariant-loop-api l = record {
  entries : l.entries.items ≡ map (version_entry l.versions) (take l.api-index l.apis);
  count : vec_len l.entries ≡ l.api-index;
}
