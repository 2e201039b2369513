-- Each partition of a DescribeShareGroupOffsets is told by its own shard.
use Rattle.std.proofs.Common.{◌≡◌, ◌+◌, ◌∙◌, ℕ, ℤ, zero, suc, Bool, true, false, List, [], ◌∷◌, ◌++◌, Option, Some, drop, map, refl, ap, arith}
use Rattle.std.specs.Prelude.{slice_get}
use Rattle.std.specs.Bool.{if◌then◌else◌}
use Rattle.std.specs.List.{flat_map}
use Rattle.std.specs.Option.{unwrap_or}
use Rattle.topic_conf.specs.declared.topic.Topic.{Topic}
use Rattle.msgs_admin.specs.declared.named_topic.NamedTopic.{NamedTopic}
use Rattle.describe_calls.specs.declared.group_offsets.AskedTopic.{AskedTopic}
use Rattle.describe_calls.specs.declared.looks.GroupRow.TheVariants.{Members, Table}
use Rattle.describe_calls.specs.declared.looks.TableRow.{TableRow}
use Rattle.describe_calls.specs.declared.summary.GroupSummary.{GroupSummary}
use Rattle.describe_calls.specs.Groups.{is_group, group_count}
use Rattle.describe_calls.specs.GroupsTold.{AreAsked, GroupBeside, rows_in}
use Rattle.describe_calls.specs.GroupOffsets.{no_table, offsets_by_rows, offsets_of, row_table, table_at}
use Rattle.describe_calls.specs.GroupOffsetsTold.{TellsItsTable, asked_of, own_offsets}
use Rattle.describe_calls.proofs.GroupRows.{take_front, drop_front, own_rows}

abbrev Beside : Type 0
Beside = GroupBeside × Option (List (NamedTopic ℤ))

says_own : (all : List AskedTopic) (topics : List Topic) (shards : ℕ) (told : List Beside) → AreAsked shards (map (λ (x : Beside). x.0) told) →
    offsets_by_rows all (map (asked_of topics shards) told) (flat_map (λ (x : Beside). rows_in x.0) told) ≡ map (own_offsets all topics shards) told
says_own all topics shards [] asked = refl
says_own all topics shards (x ∷ told) asked =
    let rest = flat_map (λ (y : Beside). rows_in y.0) told in
    let others = map (asked_of topics shards) told in
    let n = own_rows shards x.0 asked.0 in
    let count = group_count shards x.0.id in
    ap (λ l. offsets_of all (asked_of topics shards x) l ∷ offsets_by_rows all others (drop count (rows_in x.0 ++ rest))) (take_front count (rows_in x.0) rest n)
    ∙ ap (λ l. own_offsets all topics shards x ∷ offsets_by_rows all others l) (drop_front count (rows_in x.0) rest n)
    ∙ ap (λ l. own_offsets all topics shards x ∷ l) (says_own all topics shards told asked.1)

among : (tables : List (Option TableRow)) (shard : ℕ) (table : Option TableRow) → slice_get tables shard ≡ Some table →
    row_table (slice_get (map (λ (t : Option TableRow). Table t) tables) shard) ≡ unwrap_or table no_table
among [] shard table e = absurd (grind (arith, e))
among (t ∷ tables) zero table e = grind (arith, e)
among (t ∷ tables) (suc shard) table e = among tables shard table e

behind : (members : Option GroupSummary) (tables : List (Option TableRow)) (is : Bool) (shard : ℕ) (table : Option TableRow) → is ≡ true → slice_get tables shard ≡ Some table →
    table_at (if is then Members members ∷ map (λ (t : Option TableRow). Table t) tables else []) shard ≡ unwrap_or table no_table
behind members tables true shard table is e =
    let next : shard + 1 ≡ suc shard = omega arith in
    ap (λ (n : ℕ). row_table (slice_get (Members members ∷ map (λ (t : Option TableRow). Table t) tables) n)) next ∙ among tables shard table e
behind members tables false shard table is e = absurd (grind (arith, is))

pub tells_table : TellsItsTable
tells_table = record {
  says_own = λ all topics shards told asked. says_own all topics shards told asked;
  own_table = λ g shard table is e. behind g.members g.tables (is_group g.id) shard table is e;
}
