-- Whether a share group is there, and how far it has come, as shards tell it (KIP-932: a group is there without members too, while its
-- state on a partition is kept). A group is asked for in the members' shard, and in the shard of each hosted partition; it is there
-- where it has members or a table. How far it has come is told in the numbers of a reply; what is held stands in a field of this
-- project's own, where a number above 2^63 - 1 is told as that.
-- For example of two partitions a group without members and with a table on the second one has the rows no members, no table and a
-- table, and is there (layer_rows, `a group without members that has a table is there`).
use Rattle.std.specs.Prelude.{◌+◌, ◌<◌, ◌^◌, ℕ, ℤ, pos, negsuc, min, Bool, ◌&&◌, Option, Some, None, is_some, List, [], ◌∷◌, map, length, nat_le, if◌then◌else◌}
use Rattle.std.specs.List.{list_any, range_with_len}
use Rattle.share_model.specs.declared.fault.Code.{Code}
use Rattle.share_model.specs.ErrorCodes.{numbered}
use Rattle.share_model.specs.declared.table_summary.TableSummary.{TableSummary}
use Rattle.msgs_admin.specs.declared.held_records.HeldRecords.{HeldRecords}
use Rattle.call_fold.specs.declared.call.Entry.{Entry}
use Rattle.call_fold.specs.declared.call.Entry.TheVariants.{Ask}
use Rattle.log_calls.specs.Shapes.{NamedShapeParts}
use Rattle.describe_calls.specs.declared.looks.GroupAsk.{GroupAsk}
use Rattle.describe_calls.specs.declared.looks.GroupAsk.TheVariants.{Members as AskMembers, Table as AskTable}
use Rattle.describe_calls.specs.declared.looks.GroupRow.{GroupRow}
use Rattle.describe_calls.specs.declared.looks.GroupRow.TheVariants.{Members, Table}
use Rattle.describe_calls.specs.declared.looks.TableRow.{TableRow}

-- Kafka's code for a group that isn't there
abbrev pub GROUP_ID_NOT_FOUND : Code
GROUP_ID_NOT_FOUND = numbered 69

-- ---- the questions

-- a group's id has 1 to 255 bytes; one that has others is nowhere, and nobody is asked
abbrev pub is_group : List ℕ → Bool
is_group id = nat_le 1 (length id) && nat_le (length id) 255

abbrev pub table_entry : List ℕ → ℕ → Entry GroupAsk GroupRow
table_entry id shard = Ask (AskTable shard id)

abbrev pub group_entries : ℕ → List ℕ → List (Entry GroupAsk GroupRow)
group_entries shards id = if is_group id then Ask (AskMembers id) ∷ map (table_entry id) (range_with_len 0 shards) else []

-- the group, and how many they are
abbrev pub group_count : ℕ → List ℕ → ℕ
group_count shards id = if is_group id then shards + 1 else 0

abbrev pub group_shape : ℕ → List ℕ → NamedShapeParts
group_shape shards id = record { name = id; count = group_count shards id }

-- ---- the rows

abbrev pub capped : ℕ → ℕ
capped number = min number 9223372036854775807

abbrev pub lock_end : Option ℕ → ℤ
lock_end (Some end) = pos (capped end)
lock_end None = negsuc 0

abbrev pub held_told : TableSummary → HeldRecords
held_told summary = record {
  held = pos (capped summary.held);
  first_lock_end_ms = lock_end summary.first_lock_end;
  archived = pos (capped summary.archived);
}

-- a table whose start and lag a reply can say
pub record IsTellableTable (summary : TableSummary) : Type 0 where
  pub start : summary.start < 2 ^ 63
  pub lag : summary.lag < 2 ^ 63

abbrev pub table_row : TableSummary → TableRow
table_row summary = record { start = pos summary.start; lag = pos summary.lag; held = Some (held_told summary) }

-- ---- what they tell

abbrev pub says_there : GroupRow → Bool
says_there (Members members) = is_some members
says_there (Table table) = is_some table

abbrev pub is_there : List GroupRow → Bool
is_there rows = list_any says_there rows
