-- What acts through the passes of one thread leave of them, and how a part of a connection is such an act. This project's own.
-- For example a visit of shard 2 at 5000 is one entry of that thread's pass of the lock of shard 2, and no other pass of the thread changes.
use Rattle.std.specs.Prelude.{◌≡◌, ◌++◌, ◌∷◌, ◌<◌, ℕ, zero, suc, List, [], Some, Result, Ok, Err, slice_index_or, length}
use Rattle.std.specs.List.{AllZip}
use Rattle.edge_io.specs.Views.{DiskView}
use Rattle.flex_fields.specs.declared.fault.NoMemory.{NoMemory}
use Rattle.share_model.specs.declared.foreign.ForeignAnswer.{ForeignAnswer}
use Rattle.topic_conf.specs.Configs.{ConfigParts}
use Rattle.topic_conf.specs.Topics.{partitions}
use Rattle.msgs_group.specs.declared.heartbeat_reply.HeartbeatReply.{HeartbeatReply}
use Rattle.call_fold.specs.declared.part.Part.{Part}
use Rattle.call_fold.specs.declared.part.Part.TheVariants.{Foreign, Produce, Delete, Visit, Look, Heartbeat}
use Rattle.call_fold.specs.declared.part.PartAnswer.{PartAnswer}
use Rattle.call_fold.specs.declared.part.PartAnswer.TheVariants as answers
use Rattle.shard_lock.specs.History.{IsLegal, GoesOn, of_pass, entry}
use Rattle.shard_lock.specs.Passes.{LockParts, PassParts, IsOf, StaysSame}
use Rattle.broker_shards.specs.Acts.{ActsPart, ActsMembers, ActsForeign}
use Rattle.broker_shards.specs.declared.foreign.ForeignEvent.{ForeignEvent}
use Rattle.broker_shards.specs.declared.members.MembersAsk.TheVariants as members_ask
use Rattle.broker_shards.specs.declared.members.MembersEvent.{MembersEvent}
use Rattle.broker_shards.specs.declared.members.MembersTold.{MembersTold}
use Rattle.broker_shards.specs.declared.members.MembersTold.TheVariants as members_told
use Rattle.broker_shards.specs.Answering.{answer_told}
use Rattle.broker_shards.specs.Histories.{IsToldOf}
use Rattle.broker_shards.specs.declared.part.PartAsk.{PartAsk}
use Rattle.broker_shards.specs.declared.part.PartAsk.TheVariants as part_ask
use Rattle.broker_shards.specs.declared.part.PartEvent.{PartEvent}
use Rattle.broker_shards.specs.declared.part.PartTold.{PartTold}
use Rattle.broker_locks.specs.Shared.{SharedParts, PassesParts}

-- the passes are of these locks
pub record AreOf {D : Type 0} (shared : SharedParts D) (passes : PassesParts D) : Type 0 where
  pub parts : AllZip IsOf shared.parts passes.parts
  pub members : IsOf shared.members passes.members
  pub foreign : IsOf shared.foreign passes.foreign

-- what acts leave of passes: number, the passes joined into each, and for how many each stands
pub record StaySame {D : Type 0} (old new : PassesParts D) : Type 0 where
  pub parts : AllZip StaysSame old.parts new.parts
  pub members : StaysSame old.members new.members
  pub foreign : StaysSame old.foreign new.foreign

-- what acts leave of passes of these locks
pub record StayOf {D : Type 0} (shared : SharedParts D) (old new : PassesParts D) : Type 0 where
  pub of : AreOf shared new
  pub same : StaySame old new

-- there is a lock for each hosted partition
abbrev pub HostsAll : {D : Type 0} → ConfigParts → SharedParts D → Type 0
HostsAll conf shared = length shared.parts ≡ partitions conf.topics

-- the element at this place of a list changes so, and no other
abbrev pub ChangesAt : {A : Type 0} → ℕ → (A → A → Type 0) → List A → List A → Type 0
ChangesAt n Goes [] new = ⊥
ChangesAt n Goes (x ∷ xs) [] = ⊥
ChangesAt zero Goes (x ∷ xs) (y ∷ ys) = Goes x y × (ys ≡ xs)
ChangesAt (suc n) Goes (x ∷ xs) (y ∷ ys) = (y ≡ x) × ChangesAt n Goes xs ys

-- A pass of the lock acted once: its entry is the last one of a legal history.
pub record ActsOn {S E A : Type 0} (acts : S → E → A → S → Type 0) (lock : LockParts S) (event : E) (answer : A)
    (old new : PassParts S E A) : Type 0 where
  pub of : IsOf lock new
  pub same : StaysSame old new
  pub own : new.own ≡ old.own ++ entry old.number event answer ∷ []
  pub history : GoesOn old.seen (entry old.number event answer) new.seen
  pub legal : IsLegal acts lock.first new.seen
  pub exact : of_pass new.number new.seen ≡ new.own

-- of passes beside their locks, the one at this place acted once, and no other did
pub record ActsPlace {S E A : Type 0} (acts : S → E → A → S → Type 0) (locks : List (LockParts S)) (place : ℕ) (event : E) (answer : A)
    (old new : List (PassParts S E A)) : Type 0 where
  pub lock : LockParts S
  pub there : place < length locks
  pub is : lock ≡ slice_index_or locks place lock
  pub changes : ChangesAt place (ActsOn acts lock event answer) old new

-- the pass of the members acted once, and no other pass did
pub record ActsByMembers {D : Type 0} (shared : SharedParts D) (event : MembersEvent) (answer : Result MembersTold NoMemory)
    (old new : PassesParts D) : Type 0 where
  pub members : ActsOn ActsMembers shared.members event answer old.members new.members
  pub parts : new.parts ≡ old.parts
  pub foreign : new.foreign ≡ old.foreign

-- an answer of the kind that was asked, in numbers that a reply can say
abbrev pub FitsAsk : PartAsk → PartAnswer → Type 0
FitsAsk asked answer = (told : PartTold) × IsToldOf asked told × (answer_told told ≡ Some answer)

module _ {D : Type 0} (seen : D → DiskView) where
  -- the pass of the hosted partition with this number acted once, and no other pass did
  pub record ActsByPart (shared : SharedParts D) (shard : ℕ) (event : PartEvent) (answer : Result PartTold NoMemory)
      (old new : PassesParts D) : Type 0 where
    pub parts : ActsPlace (ActsPart seen) shared.parts shard event answer old.parts new.parts
    pub members : new.members ≡ old.members
    pub foreign : new.foreign ≡ old.foreign

  -- the pass of foreign state acted once, and no other pass did
  pub record ActsByForeign (shared : SharedParts D) (event : ForeignEvent) (answer : Result ForeignAnswer NoMemory)
      (old new : PassesParts D) : Type 0 where
    pub foreign : ActsOn (ActsForeign seen) shared.foreign event answer old.foreign new.foreign
    pub parts : new.parts ≡ old.parts
    pub members : new.members ≡ old.members

  -- The part of a connection was done by one act on this hosted partition, which told the answer.
  abbrev pub DoesByPart : SharedParts D → ℕ → PartEvent → PartAnswer → PassesParts D → PassesParts D → Type 0
  DoesByPart shared shard event answer old new =
      (told : PartTold) × (answer_told told ≡ Some answer) × ActsByPart shared shard event (Ok told) old new

  -- The part was done at this moment, by one act of the pass of its shard, and this was answered.
  abbrev pub DoesPart : SharedParts D → Part → (now : ℕ) → PartAnswer → PassesParts D → PassesParts D → Type 0
  DoesPart shared (Foreign op) now answer old new =
      (told : ForeignAnswer) × (answer ≡ answers.Foreign told) × ActsByForeign shared (record { op = op }) (Ok told) old new
  DoesPart shared (Produce shard batch) now answer old new =
      DoesByPart shared shard (record { now = now; ask = part_ask.Produce batch }) answer old new
  DoesPart shared (Delete shard to) now answer old new = DoesByPart shared shard (record { now = now; ask = part_ask.Delete to }) answer old new
  DoesPart shared (Visit shard visit) now answer old new = DoesByPart shared shard (record { now = now; ask = part_ask.Visit visit }) answer old new
  DoesPart shared (Look shard group) now answer old new = DoesByPart shared shard (record { now = now; ask = part_ask.Look group }) answer old new
  DoesPart shared (Heartbeat request) now answer old new = (told : HeartbeatReply) × (answer ≡ answers.Heartbeat told)
      × ActsByMembers shared (record { now = now; ask = members_ask.Heartbeat request }) (Ok (members_told.Heartbeat told)) old new

  -- the act on this hosted partition found no memory
  abbrev pub FailsByPart : SharedParts D → ℕ → PartEvent → PassesParts D → PassesParts D → Type 0
  FailsByPart shared shard event old new = (fault : NoMemory) × ActsByPart shared shard event (Err fault) old new

  -- The act that does the part found no memory.
  abbrev pub FailsPart : SharedParts D → Part → (now : ℕ) → PassesParts D → PassesParts D → Type 0
  FailsPart shared (Foreign op) now old new = (fault : NoMemory) × ActsByForeign shared (record { op = op }) (Err fault) old new
  FailsPart shared (Produce shard batch) now old new = FailsByPart shared shard (record { now = now; ask = part_ask.Produce batch }) old new
  FailsPart shared (Delete shard to) now old new = FailsByPart shared shard (record { now = now; ask = part_ask.Delete to }) old new
  FailsPart shared (Visit shard visit) now old new = FailsByPart shared shard (record { now = now; ask = part_ask.Visit visit }) old new
  FailsPart shared (Look shard group) now old new = FailsByPart shared shard (record { now = now; ask = part_ask.Look group }) old new
  FailsPart shared (Heartbeat request) now old new =
      (fault : NoMemory) × ActsByMembers shared (record { now = now; ask = members_ask.Heartbeat request }) (Err fault) old new
