-- What a visit is answered and leaves of a shard: its acknowledgements come first, and what it asks for follows them, whatever became of
-- them (KIP-932; the order of the two is that of Kafka's ShareFetch). This project's own are the pending writes.
-- Worked example: `a` holds 0 and 1 of a log from 0 to 2. A visit of `a` accepts 0 and fetches one record: a start of 1 is stored, the hold of
-- 0 ends, and then 2 is acquired.
use Rattle.std.specs.Prelude.{◌≡◌, ◌≤◌, max, ℕ, List, []}
use Rattle.share_model.specs.declared.visit.AckOutcome.{AckOutcome}
use Rattle.share_model.specs.declared.ack.AckBatch.{AckBatch}
use Rattle.share_model.specs.declared.visit.Then.TheVariants.{Nothing}
use Rattle.share_model.specs.declared.visit.ThenOutcome.TheVariants.{Done as done_then}
use Rattle.share_model.specs.declared.visit.Visit.{Visit}
use Rattle.share_model.specs.declared.visit.VisitAnswer.{VisitAnswer}
use Rattle.edge_io.specs.Causes.{Rose}
use Rattle.share_part.specs.Acknowledging.{Acknowledges, AreTheirs, NameOne}
use Rattle.share_part.specs.Following.{Follows, HasNothingToWrite, Reading}
use Rattle.share_part.specs.Hosting.{PartConfParts}
use Rattle.share_part.specs.Named.{named_from}
use Rattle.share_part.specs.Shards.{PartShardState}

-- the acknowledgements are done, and the log and the clock are as they were
pub record StepsAcks (conf : PartConfParts) (rose : Type 0) (end : ℕ) (old : PartShardState) (visit : Visit) (ack : AckOutcome)
    (new : PartShardState) : Type 0 where
  pub log : new.log ≡ old.log
  pub clock : new.clock ≡ old.clock
  pub does : Acknowledges conf rose end old visit new ack

-- there are acknowledgements to write: they are of what the member holds, and name an offset from the log's start on
abbrev pub AreToWrite : PartShardState → Visit → Type 0
AreToWrite old visit = AreTheirs old visit × NameOne (named_from old.log.start visit.acks)

-- the visit of a member with acknowledgements that asks for nothing more, and its answer
abbrev pub acks_alone : (group member : List ℕ) → List AckBatch → Visit
acks_alone group member acks = record { group = group; member = member; acks = acks; then = Nothing }

abbrev pub told_alone : AckOutcome → VisitAnswer
told_alone ack = record { ack = ack; then = done_then; grants = []; batches = [] }

-- A visit at the moment `now`. `reading` tells how the batches of a fetch were read, `count` and `later` are how many calls of the two
-- state disks have failed before it and behind it, `end` and `last` are where the live journal of the states ends before it and behind
-- it. A checkpoint of the states may move that end back.
pub record StepsVisit (conf : PartConfParts) (reading : Reading) (count later end last : ℕ) (old : PartShardState) (now : ℕ)
    (visit : Visit) (answer : VisitAnswer) (new : PartShardState) : Type 0 where
  -- what the acknowledgements left, the failed calls by then, and where the live journal ended then
  pub between : PartShardState
  pub counted : ℕ
  pub at : ℕ
  pub acks : StepsAcks conf (Rose count counted) end old visit answer.ack between
  pub counts : (count ≤ counted) × (counted ≤ later)
  pub unwritten : (AreToWrite old visit → ⊥) → at ≡ end
  pub still : HasNothingToWrite conf between visit visit.then → last ≡ at
  pub does : Follows conf reading.told reading.rose (Rose counted later) at between visit answer new reading.failed
  pub clock : new.clock ≡ max old.clock now
  pub log : new.log ≡ old.log
