-- The locks around a broker's shards, and the passes of all locks that one thread has. This project's own.
-- For example a broker of `orders` with 2 partitions has four locks, and three threads have three passes of each.
use Rattle.std.specs.Prelude.{List, Result, map}
use Rattle.flex_fields.specs.declared.fault.NoMemory.{NoMemory}
use Rattle.share_model.specs.declared.foreign.ForeignAnswer.{ForeignAnswer}
use Rattle.topic_conf.specs.Configs.{ConfigParts}
use Rattle.shard_lock.specs.Passes.{LockParts, PassParts}
use Rattle.broker_shards.specs.Hosts.{Host}
use Rattle.broker_shards.specs.declared.foreign.ForeignEvent.{ForeignEvent}
use Rattle.broker_shards.specs.declared.foreign.ForeignHost.{ForeignHost}
use Rattle.broker_shards.specs.declared.members.MembersEvent.{MembersEvent}
use Rattle.broker_shards.specs.declared.members.MembersHost.{MembersHost}
use Rattle.broker_shards.specs.declared.members.MembersTold.{MembersTold}
use Rattle.broker_shards.specs.declared.part.PartEvent.{PartEvent}
use Rattle.broker_shards.specs.declared.part.PartTold.{PartTold}

abbrev pub PartAnswer : Type 0
PartAnswer = Result PartTold NoMemory

abbrev pub MembersAnswer : Type 0
MembersAnswer = Result MembersTold NoMemory

abbrev pub StateAnswer : Type 0
StateAnswer = Result ForeignAnswer NoMemory

-- the shards of a broker: those of the hosted partitions in the order of their numbers, the members of all groups, and foreign state
pub record ShardParts (D : Type 0) : Type 0 where
  pub parts : List (Host D)
  pub members : MembersHost
  pub foreign : ForeignHost D

-- what contracts see of the locks: those of the hosted partitions in the order of their numbers, that of the members of all groups, and
-- that of foreign state
pub record SharedParts (D : Type 0) : Type 0 where
  pub conf : ConfigParts
  pub parts : List (LockParts (Host D))
  pub members : LockParts MembersHost
  pub foreign : LockParts (ForeignHost D)

-- a pass of each
pub record PassesParts (D : Type 0) : Type 0 where
  pub parts : List (PassParts (Host D) PartEvent PartAnswer)
  pub members : PassParts MembersHost MembersEvent MembersAnswer
  pub foreign : PassParts (ForeignHost D) ForeignEvent StateAnswer

-- the shards as their locks were made
abbrev pub first_shards : {D : Type 0} → SharedParts D → ShardParts D
first_shards shared =
    record { parts = map (λ l. l.first) shared.parts; members = shared.members.first; foreign = shared.foreign.first }
