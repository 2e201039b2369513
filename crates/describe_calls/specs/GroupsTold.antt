-- A group beside what the shards tell of it (this project's own): the rows of its questions, of which there are as many as were asked.
-- For example of `g` on two partitions the rows are its members, its table on the first and that on the second (layer_rows,
-- `a group without members that has a table is there`).
use Rattle.std.specs.Prelude.{◌≡◌, ℕ, Option, List, [], ◌∷◌, length, map, if◌then◌else◌}
use Rattle.describe_calls.specs.declared.looks.GroupRow.{GroupRow}
use Rattle.describe_calls.specs.declared.looks.GroupRow.TheVariants.{Members, Table}
use Rattle.describe_calls.specs.declared.looks.TableRow.{TableRow}
use Rattle.describe_calls.specs.declared.summary.GroupSummary.{GroupSummary}
use Rattle.describe_calls.specs.Groups.{is_group}

-- what the shards tell of a group: who is in it, and how far it has come, partition by partition
pub record GroupBeside : Type 0 where
  pub id : List ℕ
  pub members : Option GroupSummary
  pub tables : List (Option TableRow)

-- the rows of its questions
abbrev pub rows_in : GroupBeside → List GroupRow
rows_in g = if is_group g.id then Members g.members ∷ map (λ t. Table t) g.tables else []

-- so many shards have told of it
abbrev pub AreAsked : ℕ → List GroupBeside → Type 0
AreAsked shards [] = Unit {0}
AreAsked shards (g ∷ told) = (length g.tables ≡ shards) × AreAsked shards told
