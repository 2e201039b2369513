-- Membership of share groups (KIP-932, "Group membership"): the members of each group, and how its epoch rises. That an epoch
-- begins anew at 1 behind 2147483647 is this project's own.
-- For example a group that one member has joined has epoch 1, and so has the member; behind epoch 2147483647 comes 1.
use Rattle.std.specs.Prelude.{ℕ, ℤ, pos, ◌+ℤ◌, List, [], ◌∷◌, Option, if◌then◌else◌}
use Rattle.std.specs.Option.{unwrap_or}
use Rattle.std.specs.declared.cmp.Ordering.{Ordering}
use Rattle.std.specs.Ordering.{nat_cmp, int_eq}
use Rattle.std.specs.Cmp.Lexicographic.{slice_cmp}
use Rattle.std.specs.BTreeMap.{insert_entry, is_at}
use Rattle.std.specs.Map.{lookup, remove_entry}
use Rattle.topic_conf.specs.declared.topic.Topic.{Topic}
use Rattle.share_members.specs.declared.member.Member.{Member}

-- ids in byte order
abbrev pub id_cmp : List ℕ → List ℕ → Ordering
id_cmp = slice_cmp nat_cmp

-- the members of a group, each by its id, in byte order of ids
abbrev pub Members : Type 0
Members = List (List ℕ × Member)

pub record GroupParts : Type 0 where
  pub epoch : ℤ
  pub members : Members

-- the groups that have members, each by its id, in byte order of ids
abbrev pub Groups : Type 0
Groups = List (List ℕ × GroupParts)

-- all memberships: the hosted topics, in their order, and the greatest moment so far
pub record Memberships : Type 0 where
  pub topics : List Topic
  pub clock : ℕ
  pub groups : Groups

-- ---- one of many

abbrev pub member_at : List ℕ → Members → Option Member
member_at id members = lookup (is_at (id_cmp id)) members

abbrev pub with_member : List ℕ → Member → Members → Members
with_member id member members = insert_entry id_cmp members id member

abbrev pub without_member : List ℕ → Members → Members
without_member id members = remove_entry (is_at (id_cmp id)) members

-- a group that isn't there is in epoch 0
abbrev pub no_group : GroupParts
no_group = record { epoch = pos 0; members = [] }

abbrev pub group_at : List ℕ → Groups → GroupParts
group_at id groups = unwrap_or (lookup (is_at (id_cmp id)) groups) no_group

-- a group without members is forgotten
abbrev pub put_group : List ℕ → ℤ → Members → Groups → Groups
put_group id epoch [] groups = remove_entry (is_at (id_cmp id)) groups
put_group id epoch (member ∷ members) groups = insert_entry id_cmp groups id (record { epoch = epoch; members = member ∷ members })

abbrev pub with_group : List ℕ → GroupParts → Groups → Groups
with_group id group groups = put_group id group.epoch group.members groups

-- ---- epochs

abbrev pub next_epoch : ℤ → ℤ
next_epoch epoch = if int_eq epoch (pos 2147483647) then pos 1 else epoch +ℤ pos 1
