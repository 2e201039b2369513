-- What contracts see of a disk over a file. The calls are POSIX `pread`, `pwrite`, `ftruncate` and `fdatasync`; how faults are
-- counted is this project's own. Worked example: a read of 5 bytes of a file that another handle has cut to 0 is a fault.
use Rattle.std.specs.Prelude.{◌≡◌, ℕ, Bool, true, List, Some, None, Result, IsErr, MatchResult}
use Rattle.std.proofs.Common.{rules}
use Rattle.edge_io.specs.Causes.{CountsFault}

pub record FileState : Type 0 where
  -- the name of the disk, which is the path of its file under the folder
  pub name : List ℕ
  pub size : ℕ
  -- a sync has failed: what was written since the one before may be lost, so every later call fails
  pub broken : Bool
  pub faults : ℕ

-- A read, a write or a cut: it fails where a sync has failed before, and a fault is counted where it failed, and not else.
pub record Calls {T E : Type 0} (old new : FileState) (result : Result T E) : Type 0 where
  pub same_name : new.name ≡ old.name
  pub refused : old.broken ≡ true → IsErr result
  pub same_broken : new.broken ≡ old.broken
  pub counts : CountsFault old.faults new.faults result

-- A sync: the same, and where it failed every later call fails.
pub record Syncs {T E : Type 0} (old new : FileState) (result : Result T E) : Type 0 where
  pub same_name : new.name ≡ old.name
  pub refused : old.broken ≡ true → IsErr result
  pub breaks : MatchResult result (λ _. new.broken ≡ old.broken) (λ _. new.broken ≡ true)
  pub counts : CountsFault old.faults new.faults result

-- a file tells no content
pub no_content : {P : Type 0} (c : List ℕ) → None ≡ Some c → P
no_content c told = absurd (search rules)
