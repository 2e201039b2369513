-- Releases that are done one by one: how private functions take the first one off (this project's own).
-- For example of the sessions of `a` on no partition and of `b` on 2 and 0, that of `b` on 0 is left.
use Rattle.std.specs.Prelude.{nat_eq, Bool, not, List, [], ◌∷◌, filter, length}
use Rattle.share_session.specs.declared.session.Session.{Session}
use Rattle.share_session.specs.Plans.{others_of}

abbrev pub has_partition : Session → Bool
has_partition s = not (nat_eq (length s.partitions) 0)

-- its first partition is released
abbrev pub without_first : Session → Session
without_first s = record { group = s.group; member = s.member; epoch = s.epoch; partitions = others_of s.partitions }

-- the first of these sessions is without its first partition
abbrev pub first_left : List Session → List Session
first_left [] = []
first_left (s ∷ sessions) = without_first s ∷ sessions

abbrev pub one_done : List Session → List Session
one_done sessions = first_left (filter has_partition sessions)
