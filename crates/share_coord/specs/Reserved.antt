-- The record and the numbers of a write that takes no memory. This project's own; private clauses cite it.
-- For example a key with 500 updates is stored as a snapshot, and has none since then.
use Rattle.std.specs.Prelude.{◌+◌, ℕ, ℤ, List, Bool, true, false, Some, nat_lt, if◌then◌else◌}
use Rattle.share_model.specs.Keys.{KeyParts}
use Rattle.share_model.specs.declared.run.Run.{Run}
use Rattle.state_records.specs.States.{StateParts}
use Rattle.state_records.specs.declared.record.StateRecord.{StateRecord}
use Rattle.state_records.specs.declared.record.StateRecord.TheVariants.{Snapshot, Update}
use Rattle.share_coord.specs.Calls.{counted}
use Rattle.share_coord.specs.Parts.{KeptState}
use Rattle.share_coord.specs.declared.reserved.After.{After}
use Rattle.share_coord.specs.declared.reserved.Own.{Own}

-- the record of a state as an update, or as a snapshot
abbrev pub lent_record : Bool → StateParts → StateRecord
lent_record true state = Update state
lent_record false state = Snapshot state

-- its numbers, where so many updates count before it
abbrev pub own_with : KeptState → After → ℕ → Own
own_with kept after count = record {
  state_epoch = kept.view.state_epoch;
  leader_epoch = kept.view.leader_epoch;
  start = after.start;
  complete = after.complete;
  snapshot = if nat_lt count 500 then kept.snapshot else kept.snapshot + 1;
  updates = if nat_lt count 500 then count + 1 else 0;
  is_update = nat_lt count 500;
}

abbrev pub own_of : KeptState → After → Own
own_of kept after = own_with kept after (counted kept after.start).updates

abbrev pub own_record : KeyParts → Own → ℤ → (written rows : List Run) → StateRecord
own_record key own told written rows = lent_record own.is_update (record {
  key = key;
  snapshot = own.snapshot;
  state_epoch = own.state_epoch;
  leader_epoch = own.leader_epoch;
  start = if own.is_update then told else own.start;
  complete = Some own.complete;
  runs = if own.is_update then written else rows;
})
