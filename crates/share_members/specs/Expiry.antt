-- Members whose session has ended (KIP-932, the session timeout of a share group; that it is 45000 ms is this project's own).
-- For example of two members with heartbeats at 1000 and 2000 none is removed at 45999, and the first at 46000.
use Rattle.std.specs.Prelude.{ℕ, zero, suc, ℤ, ◌+◌, ◌==◌, Bool, not, nat_le, max, List, length, map, sum_by, count_by}
use Rattle.std.specs.List.{filter}
use Rattle.share_members.specs.declared.member.Member.{Member}
use Rattle.share_members.specs.Groups.{GroupParts, Groups, Members, Memberships, next_epoch}

-- in milliseconds
abbrev pub session_timeout : ℕ
session_timeout = 45000

abbrev pub is_due : ℕ → List ℕ × Member → Bool
is_due moment member = nat_le (member.1.heartbeat + session_timeout) moment

-- the epoch after so many changes
abbrev pub later_epoch : ℕ → ℤ → ℤ
later_epoch zero epoch = epoch
later_epoch (suc changes) epoch = later_epoch changes (next_epoch epoch)

abbrev pub due : ℕ → Members → ℕ
due moment members = count_by (is_due moment) members

-- each member that is removed is a change of its group
abbrev pub group_expired : ℕ → GroupParts → GroupParts
group_expired moment group = record {
  epoch = later_epoch (due moment group.members) group.epoch;
  members = filter (λ member. not (is_due moment member)) group.members;
}

abbrev pub has_members : List ℕ × GroupParts → Bool
has_members group = not (length group.1.members == 0)

-- groups without members are forgotten
abbrev pub groups_expired : ℕ → Groups → Groups
groups_expired moment groups = filter has_members (map (λ group. (group.0, group_expired moment group.1)) groups)

-- how many members are removed
abbrev pub removed : ℕ → Groups → ℕ
removed moment groups = sum_by (λ group. due moment group.1.members) groups

abbrev pub expire_step : ℕ → Memberships → Memberships
expire_step now old = record { topics = old.topics; clock = max old.clock now; groups = groups_expired (max old.clock now) old.groups }
