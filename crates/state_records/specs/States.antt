-- The state of a share partition, as a record of the state journal carries it (KIP-932, share-partition state).
-- For example the group `g1` on partition 0 of a topic has state epoch 3, leader epoch 0, start 7, no complete rows and no runs.
use Rattle.std.specs.Prelude.{◌≡◌, ◌<◌, ◌^◌, ℕ, ℤ, pos, negsuc, List, length, Option, IfSome}
use Rattle.std.specs.List.{AllByRecursion}
use Rattle.share_model.specs.Keys.{KeyParts}
use Rattle.share_model.specs.Names.{IsName}
use Rattle.share_model.specs.Runs.{IsCanonical}
use Rattle.share_model.specs.declared.run.Run.{Run}

-- The key, the epochs, the start offset, or -1, and the runs of the stored rows. Version 1 of a record tells before the runs how
-- many rows of the key are complete, which is acknowledged or archived, once the record is done; version 0 doesn't.
pub record StateParts : Type 0 where
  pub key : KeyParts
  pub snapshot : ℕ
  pub state_epoch : ℤ
  pub leader_epoch : ℤ
  pub start : ℤ
  pub complete : Option ℕ
  pub runs : List Run

-- an epoch of 32 bits, at least 0
abbrev pub IsEpoch : ℤ → Type 0
IsEpoch (pos n) = n < 2 ^ 31
IsEpoch (negsuc n) = ⊥

-- a start offset of 64 bits, or -1 for none
abbrev pub IsStart : ℤ → Type 0
IsStart (pos n) = n < 2 ^ 63
IsStart (negsuc n) = n ≡ 0

-- offsets and counts that fit the signed numbers of messages
abbrev pub IsStoredRun : Run → Type 0
IsStoredRun run = (run.last < 2 ^ 63) × (run.count < 2 ^ 15)

-- canonical runs of such offsets and counts
abbrev pub AreStoredRuns : List Run → Type 0
AreStoredRuns runs = IsCanonical runs × AllByRecursion IsStoredRun runs

-- the ranges of a key
pub record IsKey (key : KeyParts) : Type 0 where
  pub group : IsName key.group
  pub topic : length key.topic ≡ 16
  pub part : key.part < 2 ^ 31

-- the ranges of a state; its runs are counted in four bytes
pub record IsState (state : StateParts) : Type 0 where
  pub key : IsKey state.key
  pub snapshot : state.snapshot < 2 ^ 64
  pub state_epoch : IsEpoch state.state_epoch
  pub leader_epoch : IsEpoch state.leader_epoch
  pub start : IsStart state.start
  pub complete : IfSome state.complete (λ n. n < 2 ^ 64)
  pub runs : AreStoredRuns state.runs
  pub few : length state.runs < 2 ^ 32
