-- Why an acknowledgement is refused that its member may make (KIP-932; this project's own are the device and the journal's room). One that
-- is well formed, and all of whose offsets from the log's start on its member holds, is refused with code 56 alone, and only where a count
-- of faults of the shard's two state disks rose in the step, or the journal, where it ended before the step, has no room below 2^62 for what
-- it would write. For example `a` holds 0 to 2 and accepts them: with nothing armed the answer is done.
use Rattle.std.specs.Prelude.{◌≡◌, ◌⊎◌, ℕ, Some, Bool}
use Rattle.share_model.specs.declared.fault.StoreFault.TheVariants.{Device, Full}
use Rattle.share_model.specs.declared.visit.AckOutcome.TheVariants.{Done, Store}
use Rattle.share_model.specs.declared.visit.Visit.{Visit}
use Rattle.share_model.specs.declared.visit.VisitAnswer.{VisitAnswer}
use Rattle.share_part.specs.Acknowledging.{AreTheirs, HasNoRoomFor}
use Rattle.share_part.specs.Named.{named_from}
use Rattle.broker_model.specs.Hosted.{Hosted, HoldsAt, first_of, state_store}
use Rattle.broker_model.specs.Shards.{HostedPart, rose_on}
use Rattle.broker_model.specs.Shards.ShardCall.{CallPart}
use Rattle.broker_model.specs.Shards.PartCall.{Visits}
use Rattle.broker_model.specs.States.{counts_of}
use Rattle.broker_model.specs.Runs.{Step}

-- it is done, or its write failed on the device, or the journal has no room
abbrev pub IsDoneOrUnstored : Step → Hosted → HostedPart → Visit → VisitAnswer → Type 0
IsDoneOrUnstored s hosted p visit answer = (answer.ack ≡ Done)
    ⊎ (((answer.ack ≡ Store Device) × rose_on (counts_of s.before s.after) (state_store hosted))
    ⊎ ((answer.ack ≡ Store (Full (s.before.ends (first_of hosted))))
    × HasNoRoomFor hosted.conf (s.before.ends (first_of hosted)) p.shard visit.group (named_from p.shard.log.start visit.acks)))

-- so it is in each step in which such an acknowledgement reaches its partition
abbrev pub TakesWhatIsHeld : Step → Type 0
TakesWhatIsHeld s = (shard : ℕ) (hosted : Hosted) (visit : Visit) (answer : VisitAnswer) (unread : Bool) →
    s.call ≡ Some (CallPart shard hosted (Visits visit answer unread)) →
    HoldsAt shard (λ (p : HostedPart). AreTheirs p.shard visit → IsDoneOrUnstored s hosted p visit answer) s.before.machine.shards.parts
