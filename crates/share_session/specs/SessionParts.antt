-- A share session, as a contract sees it (KIP-932; the limit of sessions is this project's own).
-- For example a session that was opened on the shards 2 and 0 has the epoch 1 and the partitions 2, 0.
use Rattle.std.specs.Prelude.{ℕ, ℤ, List}

-- the bytes of the group and of the member; the epoch that the next request has to have; the shards of its partitions, in the
-- order in which they joined
pub record SessionParts : Type 0 where
  pub group : List ℕ
  pub member : List ℕ
  pub epoch : ℤ
  pub partitions : List ℕ

-- a connection has at most 100
abbrev pub most_sessions : ℕ
most_sessions = 100
