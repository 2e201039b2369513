-- What the start of a table has passed over a whole run (KIP-932: the share-partition start offset goes behind records that are
-- acknowledged or archived, and behind no others; and with the log's start). Each slot of the log below the start of a table was there at
-- first, or the table was made behind it, or it was acknowledged or archived: by an act of its holder, or a release or an expiry at the
-- delivery limit. An act whose write failed on the device counts only where the next power loss found that write done.
-- Worked example: `a` holds 0 to 2 with count 1 and accepts 0 and 2: the start is 1, and it stays there until 1 is acknowledged or
-- archived. A release of 1 doesn't move it, unless 1 was delivered as often as the limit says. Where the last sync of an accept of 0 fails,
-- the start stays 0: behind the next power loss it is 1 if that keeps the write, and 0 if not, or if another write was stored before.
use Rattle.std.specs.Prelude.{◌≡◌, ◌⊎◌, ◌<◌, ◌≤◌, ℕ, List, [], ◌∷◌, ◌++◌, Some, None, true}
use Rattle.std.specs.declared.option.Option.{Option}
use Rattle.std.specs.List.{AllByRecursion}
use Rattle.share_model.specs.ForeignRules.{share_state_at, size_of}
use Rattle.share_model.specs.Held.{hold_at}
use Rattle.share_model.specs.Logs.{IsLog}
use Rattle.part_log.specs.Shards.{log_at}
use Rattle.part_log.specs.Starts.{IsSlotOf}
use Rattle.share_model.specs.Runs.{row_at}
use Rattle.share_model.specs.ShareStates.{ShareState}
use Rattle.share_model.specs.declared.ack.AckKind.{AckKind}
use Rattle.share_model.specs.declared.ack.AckKind.TheVariants.{Release as ReleaseAct}
use Rattle.share_model.specs.declared.fault.StoreFault.{StoreFault}
use Rattle.share_model.specs.declared.fault.StoreFault.TheVariants.{Device}
use Rattle.share_model.specs.declared.hold.Hold.{Hold}
use Rattle.share_model.specs.declared.visit.AckOutcome.{AckOutcome}
use Rattle.share_model.specs.declared.visit.AckOutcome.TheVariants.{Done as acknowledged, Store as ack_store}
use Rattle.share_model.specs.declared.visit.ExpireAnswer.{ExpireAnswer}
use Rattle.share_model.specs.declared.visit.ExpireAnswer.TheVariants.{Store as freed_some}
use Rattle.share_model.specs.declared.visit.Then.TheVariants.{Release}
use Rattle.share_part.specs.Following.{fault_of}
use Rattle.share_part.specs.Hosting.{key_of}
use Rattle.share_part.specs.Named.{named_from}
use Rattle.share_part.specs.Settling.{is_closed, is_closed_state, settled}
use Rattle.share_part.specs.Shards.{PartShardState}
use Rattle.session_script.specs.declared.event.Event.{Event}
use Rattle.session_script.specs.declared.event.Event.TheVariants.{Power}
use Rattle.topic_conf.specs.Configs.{ConfigParts}
use Rattle.broker_model.specs.Hosted.{Hosted, HoldsAt}
use Rattle.broker_model.specs.Shards.{HostedPart, PartCall}
use Rattle.broker_model.specs.Shards.ShardCall.{CallPart}
use Rattle.broker_model.specs.Shards.PartCall.{Visits, Produces, Looks, Expires, Deletes}
use Rattle.broker_model.specs.Machine.{Machine, Opening}
use Rattle.broker_model.specs.Locks.{IsAboveStart, Record}
use Rattle.broker_model.specs.Runs.{Step}
use Rattle.broker_model.specs.States.{State}

-- the state of a group's table, if it has one
abbrev pub table_in : HostedPart → List ℕ → Option ShareState
table_in p group = share_state_at p.shard.states (key_of p.hosted.conf group)

-- the table starts behind the offset
abbrev pub IsBelow : ℕ → Option ShareState → Type 0
IsBelow offset None = ⊥
IsBelow offset (Some state) = offset < size_of state.start

abbrev pub IsClosedRow : ℕ → Option ShareState → Type 0
IsClosedRow offset None = ⊥
IsClosedRow offset (Some state) = is_closed (row_at state.runs offset) ≡ true

-- the start has passed the record, or it is stored as acknowledged or archived
abbrev pub IsPassed : ℕ → Option ShareState → Type 0
IsPassed offset table = IsBelow offset table ⊎ IsClosedRow offset table

-- ---- acts

-- the answer to acknowledgements whose write met this fault, or none
abbrev pub acked : Option StoreFault → AckOutcome
acked None = acknowledged
acked (Some fault) = ack_store fault

-- an expiry frees the record, so that nothing is left of its hold; or the write of its group met the fault
abbrev pub Frees : Option StoreFault → ExpireAnswer → (group : List ℕ) → (left : Option Hold) → Type 0
Frees None answer group left = left ≡ None
Frees (Some fault) answer group left = (freed : ℕ) × (answer ≡ freed_some freed group fault)

-- This is done by the call to a record that is held so, by a write that met this fault, or none: an acknowledgement of the holder, a
-- release of all that the holder holds, or an expiry of a lock that has ended by the clock. `p` is the shard behind the call.
abbrev pub Does : Option StoreFault → PartCall → PartShardState → (group : List ℕ) → (offset : ℕ) → Hold → AckKind → Type 0
Does fault (Visits visit answer unread) p group offset hold kind = (visit.group ≡ group) × (hold.member ≡ visit.member)
    × (((named_from p.log.start visit.acks offset ≡ Some kind) × (answer.ack ≡ acked fault))
    ⊎ ((visit.then ≡ Release) × (kind ≡ ReleaseAct) × (fault_of answer.then ≡ fault)))
Does fault (Produces batch produced) p group offset hold kind = ⊥
Does fault (Looks group_asked looked) p group offset hold kind = ⊥
Does fault (Expires answer) p group offset hold kind =
    (kind ≡ ReleaseAct) × (hold.end ≤ p.clock) × Frees fault answer group (hold_at (p.held group) offset)
Does fault (Deletes to answer) p group offset hold kind = ⊥

-- an act of the step acknowledges or archives the record, by a write that met this fault, or none
pub record ActsToClose (fault : Option StoreFault) (r : Record) (s : Step) : Type 0 where
  pub hosted : Hosted
  pub did : PartCall
  pub hold : Hold
  pub kind : AckKind
  pub call : s.call ≡ Some (CallPart r.shard hosted did)
  pub held : HoldsAt r.shard (λ (p : HostedPart). hold_at (p.shard.held r.group) r.offset ≡ Some hold) s.before.machine.shards.parts
  pub does : HoldsAt r.shard (λ (p : HostedPart). Does fault did p.shard r.group r.offset hold kind) s.after.machine.shards.parts
  pub closes : is_closed_state (settled hosted.conf.limit kind hold.count).state ≡ true

abbrev pub Closes : Record → Step → Type 0
Closes r s = ActsToClose None r s

abbrev pub FailsToClose : Record → Step → Type 0
FailsToClose r s = ActsToClose (Some Device) r s

-- ---- what a power loss finds

-- the step, a power loss, finds a write done by which the record is passed: it wasn't before, and is behind it
pub record FindsPassed (r : Record) (s : Step) : Type 0 where
  pub before : HoldsAt r.shard (λ (p : HostedPart). IsPassed r.offset (table_in p r.group) → ⊥) s.before.machine.shards.parts
  pub behind : HoldsAt r.shard (λ (p : HostedPart). IsPassed r.offset (table_in p r.group)) s.after.machine.shards.parts

-- a power loss finds such a write, and any other event leaves that to the steps behind it
abbrev pub FindsOr : Type 0 → Record → Step → Event → Type 0
FindsOr Later r s (Power choice) = FindsPassed r s
FindsOr Later r s _ = Later

-- power is lost in these steps, and the first loss finds such a write
abbrev pub NextLossFinds : Record → List Step → Type 0
NextLossFinds r [] = ⊥
NextLossFinds r (s ∷ steps) = FindsOr (NextLossFinds r steps) r s s.event

-- the step made the table of the group, behind the record
pub record IsMadeBehind (r : Record) (s : Step) : Type 0 where
  pub none : HoldsAt r.shard (λ (p : HostedPart). table_in p r.group ≡ None) s.before.machine.shards.parts
  pub behind : HoldsAt r.shard (λ (p : HostedPart). IsBelow r.offset (table_in p r.group)) s.after.machine.shards.parts

-- One of the steps has the record passed: by an act that is stored, by a table that is made behind it, or by an act whose write fails on
-- the device and is found done by the next power loss.
pub record ArePassing (r : Record) (steps : List Step) : Type 0 where
  pub before : List Step
  pub step : Step
  pub after : List Step
  pub split : steps ≡ before ++ (step ∷ after)
  pub cause : Closes r step ⊎ (IsMadeBehind r step ⊎ (FailsToClose r step × NextLossFinds r after))

-- ---- a run

-- the partition's log is one, and no write of its tables is pending
abbrev pub IsWell : HostedPart → Type 0
IsWell p = IsLog p.shard.log.batches × (p.shard.pending ≡ None)

-- a partition behind an opening is so, and each of its tables starts where the log does or behind
pub record BeginsWell (p : HostedPart) : Type 0 where
  pub well : IsWell p
  pub above : IsAboveStart p.shard

abbrev pub OpeningsAreWell : ConfigParts → Type 0
OpeningsAreWell conf = (contents : List ℕ → List ℕ) (machine : Machine) → Opening conf contents machine → AllByRecursion BeginsWell machine.shards.parts

-- Each slot at or above the log's start that a table's start has passed in the end was passed or closed at first, or one of the steps has it
-- passed; where each partition was well at first.
abbrev pub StartsPassClosedRecords : State → List Step → State → Type 0
StartsPassClosedRecords first steps last = AllByRecursion IsWell first.machine.shards.parts → (r : Record) →
    HoldsAt r.shard (λ (q : HostedPart). IsSlotOf (log_at q.shard.log) r.offset × IsBelow r.offset (table_in q r.group)) last.machine.shards.parts →
    HoldsAt r.shard (λ (p : HostedPart). IsPassed r.offset (table_in p r.group)) first.machine.shards.parts ⊎ ArePassing r steps
