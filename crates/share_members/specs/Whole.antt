-- What holds of all memberships that heartbeats and ticks make (this project's own): ids stand in byte order, a group has 1 to 200
-- members, and a subscription is places of hosted topics, rising.
-- For example memberships without groups are such, and a group that its last member leaves is none of them afterwards.
use Rattle.std.specs.Prelude.{◌<◌, ◌≤◌, ℕ, length}
use Rattle.std.specs.List.{AllByRecursion}
use Rattle.std.specs.List.Sorted.{IsStrictlySortedBy}
use Rattle.std.specs.Map.{keys_of}
use Rattle.std.specs.Ordering.{nat_cmp}
use Rattle.share_members.specs.declared.member.Member.{Member}
use Rattle.share_members.specs.Groups.{GroupParts, Members, Memberships, id_cmp}
use Rattle.share_members.specs.Heartbeats.{most_members}

-- a member, where so many topics are hosted
pub record IsMember (topics : ℕ) (member : Member) : Type 0 where
  pub rising : IsStrictlySortedBy nat_cmp member.topics
  pub hosted : AllByRecursion (λ place. place < topics) member.topics

pub record AreMembers (topics : ℕ) (members : Members) : Type 0 where
  pub few : length members ≤ most_members
  pub order : IsStrictlySortedBy id_cmp (keys_of members)
  pub each : AllByRecursion (λ member. IsMember topics member.1) members

pub record IsGroup (topics : ℕ) (group : GroupParts) : Type 0 where
  pub some : 1 ≤ length group.members
  pub members : AreMembers topics group.members

pub record AreWhole (memberships : Memberships) : Type 0 where
  pub order : IsStrictlySortedBy id_cmp (keys_of memberships.groups)
  pub each : AllByRecursion (λ group. IsGroup (length memberships.topics) group.1) memberships.groups
