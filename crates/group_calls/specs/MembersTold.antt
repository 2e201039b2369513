-- What a ShareGroupDescribe means by its request (KIP-932, ShareGroupDescribeRequest.json): of each group the members' shard and the
-- shard of each hosted partition are asked, in the order of the request, and the reply has its groups in order, each told by the
-- answers to its own questions alone. An id that no group can have asks nobody, and is told as a group that isn't there.
-- For example `g` and `h` on two partitions ask six times, and `g` is told by the first three answers, `h` by the others (layer_rows,
-- `a group with its member, and one that is not there`).
use Rattle.std.specs.Prelude.{◌≡◌, ℕ, List, map, flat_map}
use Rattle.msgs_admin.specs.declared.group_describe_reply.DescribedGroup.{DescribedGroup}
use Rattle.describe_calls.specs.Groups.{group_shape}
use Rattle.describe_calls.specs.GroupsTold.{AreAsked, GroupBeside, rows_in}
use Rattle.group_calls.specs.Members.{described_group, groups_by_rows}

abbrev pub own_group : GroupBeside → DescribedGroup
own_group g = described_group g.id (rows_in g)

-- once all answers have come, the reply tells each group by its own
pub record TellsItsGroup : Type 0 where
  pub says_own : (shards : ℕ) (told : List GroupBeside) → AreAsked shards told →
      groups_by_rows (map (λ g. group_shape shards g.id) told) (flat_map rows_in told) ≡ map own_group told
