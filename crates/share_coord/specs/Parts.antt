-- A store as its callers see it. This project's own. For example one that was just made has a journal of no frames and no keys.
use Rattle.std.specs.Prelude.{ℕ, Bool, List}
use Rattle.share_model.specs.Keys.{KeyParts}
use Rattle.share_model.specs.ShareStates.{ShareState}
use Rattle.coord_checkpoint.specs.Stores.{StoreParts as JournalParts}

-- What is kept of a key: its state, how many snapshots it had before the last one, and how many updates since, counted up to 500; whether its
-- start was raised since a record of it was written, and whether it was since a call stored it, so that the next update tells its start.
pub record KeptState : Type 0 where
  pub view : ShareState
  pub snapshot : ℕ
  pub updates : ℕ
  pub raised : Bool
  pub tells : Bool

-- the journal on the two disks; what is kept of each key, in the order of the keys; and for how many runs of a key a write takes no memory
pub record StoreParts (D : Type 0) : Type 0 where
  pub journal : JournalParts D
  pub entries : List (KeyParts × KeptState)
  pub room : ℕ
