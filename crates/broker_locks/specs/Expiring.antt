-- A turn in which locks and sessions expire: one expiry of each hosted partition and one tick of the members, through the passes of one thread.
-- This project's own. For example where two partitions are hosted, a turn has three acts, each at a moment of its own: shard 0, shard 1, members.
-- If the releases of shard 1 couldn't be stored, its faults are 1.
use Rattle.std.specs.Prelude.{◌≡◌, ◌+◌, ◌∷◌, [], ℕ, suc, List, Option, Result, Ok, Err, length, map, sum_by}
use Rattle.edge_io.specs.Serving.{TellsMore}
use Rattle.edge_io.specs.Views.{DiskView}
use Rattle.flex_fields.specs.declared.fault.NoMemory.{NoMemory}
use Rattle.share_model.specs.declared.visit.ExpireAnswer.{ExpireAnswer}
use Rattle.share_model.specs.declared.visit.ExpireAnswer.TheVariants.{Done, Store}
use Rattle.broker_shards.specs.declared.members.MembersAsk.TheVariants.{Tick}
use Rattle.broker_shards.specs.declared.members.MembersTold.TheVariants.{Ticked}
use Rattle.broker_shards.specs.declared.part.PartAsk.TheVariants as asks
use Rattle.broker_shards.specs.declared.part.PartTold.TheVariants as tells
use Rattle.broker_locks.specs.declared.expiry.TurnAnswer.{TurnAnswer}
use Rattle.broker_locks.specs.Acting.{ActsByMembers, ActsByPart}
use Rattle.broker_locks.specs.Shared.{MembersAnswer, PartAnswer, PassesParts, SharedParts}

-- an expiry of a partition: when, and what was answered
pub record Expiry : Type 0 where
  pub now : ℕ
  pub answer : Result ExpireAnswer NoMemory

abbrev pub expiry_told : Result ExpireAnswer NoMemory → PartAnswer
expiry_told (Ok answer) = Ok (tells.Expire answer)
expiry_told (Err fault) = Err fault

-- how many members a tick removed
abbrev pub tick_told : Result ℕ NoMemory → MembersAnswer
tick_told (Ok count) = Ok (Ticked count)
tick_told (Err fault) = Err fault

-- 1 where releases couldn't be stored
abbrev pub stored_not : Result ExpireAnswer NoMemory → ℕ
stored_not (Ok (Done freed)) = 0
stored_not (Ok (Store freed group fault)) = 1
stored_not (Err fault) = 0

-- 1 where no memory was found
abbrev pub starved : {A : Type 0} → Result A NoMemory → ℕ
starved (Ok answer) = 0
starved (Err fault) = 1

module _ {D : Type 0} (seen : D → DiskView) (shared : SharedParts D) where
  -- the partitions from this number on were expired, one after the other
  abbrev pub ExpiresFrom : ℕ → List Expiry → PassesParts D → PassesParts D → Type 0
  ExpiresFrom shard [] old new = new ≡ old
  ExpiresFrom shard (e ∷ es) old new = (mid : PassesParts D)
      × ActsByPart seen shared shard (record { now = e.now; ask = asks.Expire }) (expiry_told e.answer) old mid × ExpiresFrom (suc shard) es mid new

  -- So many partitions, from the first one on, were expired once each, at moments that the clock gave one after the other, and these are the numbers
  -- of those whose releases couldn't be stored and of those that found no memory.
  pub record Expires (partitions : ℕ) (answer : TurnAnswer) (old new : PassesParts D) (told later : Option (List ℕ)) : Type 0 where
    pub did : List Expiry
    pub count : length did ≡ partitions
    pub each : ExpiresFrom 0 did old new
    pub moments : TellsMore told later (map (λ e. e.now) did)
    pub faults : answer.faults ≡ sum_by (λ e. stored_not e.answer) did
    pub no_memory : answer.no_memory ≡ sum_by (λ e. starved e.answer) did

  -- The whole turn: all partitions, and then the members.
  pub record IsTurn (answer : TurnAnswer) (old new : PassesParts D) (told later : Option (List ℕ)) : Type 0 where
    pub of_parts : TurnAnswer
    pub mid : PassesParts D
    pub until : Option (List ℕ)
    pub expired : Expires (length shared.parts) of_parts old mid told until
    pub now : ℕ
    pub removed : Result ℕ NoMemory
    pub ticked : ActsByMembers shared (record { now = now; ask = Tick }) (tick_told removed) mid new
    pub moment : TellsMore until later (now ∷ [])
    pub faults : answer.faults ≡ of_parts.faults
    pub no_memory : answer.no_memory ≡ of_parts.no_memory + starved removed
