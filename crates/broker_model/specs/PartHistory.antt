-- What is done to one hosted partition, one after another, apart from the rest of a broker. This project's own: each is a
-- step of the partition's shard; a call that found no memory has changed nothing.
-- For example `a` fetches and is granted 0; an expiry finds no memory; `a` accepts 0. These are three steps: a call with
-- its answer, one that leaves all as it was, and a call with its answer.
use Rattle.std.specs.Prelude.{◌≡◌, ℕ, List, [], ◌∷◌, Bool}
use Rattle.share_part.specs.Shards.{PartShardState}
use Rattle.broker_model.specs.Hosted.{Hosted}
use Rattle.broker_model.specs.Shards.{Counts, Ends, PartCall, StepsPart}

-- A call with its answer. Or one that found no memory, and did nothing.
pub data PartAct : Type 0 where
  Called : (did : PartCall) → PartAct
  NothingDone : PartAct

-- the partition's shard before it, what was done, and the shard behind it
pub record PartStep : Type 0 where
  pub before : PartShardState
  pub act : PartAct
  pub after : PartShardState

-- The shard of the partition takes this step, at some moment, by some counts of faults of its disks and some ends of their journals. Its
-- log's disk may tell its content or not.
abbrev pub StepsAlone : Hosted → PartShardState → PartAct → PartShardState → Type 0
StepsAlone h old (Called did) new = (told : Bool) × (counts : Counts) × (ends : Ends) × (now : ℕ)
    × StepsPart told counts ends now h old did new
StepsAlone h old NothingDone new = new ≡ old

-- from `first` these steps lead, one after another, to `last`
abbrev pub IsPartHistory : Hosted → PartShardState → List PartStep → PartShardState → Type 0
IsPartHistory h first [] last = last ≡ first
IsPartHistory h first (s ∷ steps) last = (s.before ≡ first) × StepsAlone h s.before s.act s.after × IsPartHistory h s.after steps last
