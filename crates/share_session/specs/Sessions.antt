-- The share sessions of one connection (KIP-932, share session epochs). A session is named by a group and a member, and each of
-- its requests has the next epoch.
-- For example a member that opens a session on the partitions 2 and 0 has the next epoch 1 and the list 2, 0; its request of
-- epoch 1 leaves the next epoch 2.
use Rattle.std.specs.Prelude.{ℕ, ℤ, pos, ◌+ℤ◌, int_lt, Bool, ◌&&◌, not, List, [], ◌∷◌, ◌++◌, Option, filter, find, if◌then◌else◌}
use Rattle.std.specs.Str.{bytes_eq}
use Rattle.share_session.specs.declared.session.Session.{Session}
use Rattle.share_session.specs.declared.change.SessionChange.{SessionChange}
use Rattle.share_session.specs.declared.change.SessionChange.TheVariants.{Leave, Put, Open}

-- the epoch behind this one: 1 follows the largest
abbrev pub next_epoch : ℤ → ℤ
next_epoch epoch = if int_lt epoch (pos 2147483647) then epoch +ℤ pos 1 else pos 1

-- whether the session is that of this member of this group
abbrev pub is_of : List ℕ → List ℕ → Session → Bool
is_of group member s = bytes_eq s.group group && bytes_eq s.member member

-- whether both are of one member of one group
abbrev pub is_same_member : Session → Session → Bool
is_same_member s other = is_of other.group other.member s

-- the member's session, where it is there
abbrev pub session_of : List ℕ → List ℕ → List Session → Option Session
session_of group member sessions = find (is_of group member) sessions

-- the sessions without the member's
abbrev pub without : List ℕ → List ℕ → List Session → List Session
without group member sessions = filter (λ s. not (is_of group member s)) sessions

-- the sessions with this one in the place of its member's
abbrev pub with_session : Session → List Session → List Session
with_session new [] = []
with_session new (s ∷ sessions) = if is_of new.group new.member s then new ∷ sessions else s ∷ with_session new sessions

-- the sessions after a change of one: it leaves, it stands in its place, or it is the last that was opened
abbrev pub applied : SessionChange → List Session → List Session
applied (Leave group member) sessions = without group member sessions
applied (Put session) sessions = with_session session sessions
applied (Open session) sessions = without session.group session.member sessions ++ session ∷ []
