-- Exclusive locks over what is done to one partition, and over whole runs (KIP-932: a record that is acquired is delivered to nobody else
-- until it is acknowledged, released, or its lock has ended; what lies below the log's start isn't delivered any more). Between two
-- grants of one record of one group stands a stored act of the first holder on it, a stored release of all that the holder held, an
-- expiry behind the end of the lock, or, in a run, a power loss.
-- Worked example: `a` is granted the offset 0 at 1000, its lock ends at 31000. `b` is granted 0 only behind an accept, a release or a
-- reject of `a` that was answered with code 0, behind the close of `a`'s session, behind an expiry at 31000 or later, or behind `power`.
-- A call that found no memory counts for none of these.
use Rattle.std.specs.Prelude.{◌≡◌, ◌⊎◌, ◌+◌, ◌≤◌, ℕ, List, [], ◌∷◌, ◌++◌, Bool, Some, None, IsSome, Contains}
use Rattle.std.specs.List.{AllByRecursion}
use Rattle.share_model.specs.ForeignRules.{ShareStates, share_state_at, size_of}
use Rattle.share_model.specs.Held.{hold_at}
use Rattle.share_model.specs.Keys.{KeyParts}
use Rattle.share_model.specs.Logs.{end_of}
use Rattle.share_model.specs.ShareStates.{ShareState}
use Rattle.share_model.specs.declared.hold.Grant.{Grant}
use Rattle.share_model.specs.declared.visit.AckOutcome.TheVariants.{Done as acknowledged}
use Rattle.share_model.specs.declared.visit.ExpireAnswer.{ExpireAnswer}
use Rattle.share_model.specs.declared.visit.Then.TheVariants.{Release}
use Rattle.share_model.specs.declared.visit.ThenOutcome.TheVariants.{Done as followed}
use Rattle.share_model.specs.declared.visit.Visit.{Visit}
use Rattle.share_model.specs.declared.visit.VisitAnswer.{VisitAnswer}
use Rattle.share_part.specs.Hosting.{PartConfParts}
use Rattle.share_part.specs.Named.{named_from}
use Rattle.share_part.specs.Settling.{IsHeldBy}
use Rattle.share_part.specs.Shards.{PartShardState}
use Rattle.session_script.specs.declared.event.Event.TheVariants.{Power}
use Rattle.broker_model.specs.Hosted.{Hosted, HoldsAt}
use Rattle.broker_model.specs.Shards.{HostedPart, PartCall}
use Rattle.broker_model.specs.Shards.ShardCall.{CallPart}
use Rattle.broker_model.specs.Shards.PartCall.{Visits, Expires}
use Rattle.broker_model.specs.PartHistory.{PartStep}
use Rattle.broker_model.specs.PartHistory.PartAct.{Called}
use Rattle.broker_model.specs.Runs.{Step}
use Rattle.broker_model.specs.States.{State}

-- ---- grants, and what ends a lock

-- one of the grants has the offset
pub record IsGranted (offset : ℕ) (grants : List Grant) : Type 0 where
  pub grant : Grant
  pub there : Contains grants grant
  pub from : grant.first ≤ offset
  pub to : offset ≤ grant.last

-- the step grants the group's record to this member, with a lock that ends at this moment; want of memory grants nothing
pub record Grants (conf : PartConfParts) (group : List ℕ) (offset : ℕ) (member : List ℕ) (end : ℕ) (s : PartStep) : Type 0 where
  pub visit : Visit
  pub answer : VisitAnswer
  pub unread : Bool
  pub act : s.act ≡ Called (Visits visit answer unread)
  pub of_group : visit.group ≡ group
  pub to_member : visit.member ≡ member
  pub granted : IsGranted offset answer.grants
  pub until : end ≡ s.after.clock + conf.lock_ms

-- an acknowledgement of the member on the record was stored
pub record IsActedOnBy (group : List ℕ) (offset : ℕ) (member : List ℕ) (s : PartStep) : Type 0 where
  pub visit : Visit
  pub answer : VisitAnswer
  pub unread : Bool
  pub act : s.act ≡ Called (Visits visit answer unread)
  pub stored : answer.ack ≡ acknowledged
  pub of_group : visit.group ≡ group
  pub by_member : visit.member ≡ member
  pub named : IsSome (named_from s.before.log.start visit.acks offset)

-- a release of all that the member held was stored, the record among it, and freed it
pub record IsReleasedBy (group : List ℕ) (offset : ℕ) (member : List ℕ) (s : PartStep) : Type 0 where
  pub visit : Visit
  pub answer : VisitAnswer
  pub unread : Bool
  pub act : s.act ≡ Called (Visits visit answer unread)
  pub of_group : visit.group ≡ group
  pub by_member : visit.member ≡ member
  pub releases : visit.then ≡ Release
  pub stored : answer.then ≡ followed
  pub held : IsHeldBy member (hold_at (s.before.held group) offset)
  pub free : hold_at (s.after.held group) offset ≡ None

-- an expiry freed the record, at a clock that isn't below the end of the lock
pub record IsExpiredIn (group : List ℕ) (offset : ℕ) (end : ℕ) (s : PartStep) : Type 0 where
  pub answer : ExpireAnswer
  pub act : s.act ≡ Called (Expires answer)
  pub held : IsSome (hold_at (s.before.held group) offset)
  pub free : hold_at (s.after.held group) offset ≡ None
  pub late : end ≤ s.after.clock

-- the lock of the member on the record doesn't stand behind the step
abbrev pub LetsGo : List ℕ → ℕ → List ℕ → ℕ → PartStep → Type 0
LetsGo group offset member end s = IsActedOnBy group offset member s ⊎ (IsReleasedBy group offset member s ⊎ IsExpiredIn group offset end s)

-- ---- of one partition

-- Of two grants of one record, the first lock ends in a step between them, or in the second step itself, whose acknowledgements come
-- before its grants.
abbrev pub KeepsLocksExclusive : PartConfParts → List PartStep → Type 0
KeepsLocksExclusive conf steps = (before between after : List PartStep) (s t : PartStep) → steps ≡ before ++ (s ∷ (between ++ (t ∷ after))) →
    (group : List ℕ) (offset : ℕ) (member other : List ℕ) (end late : ℕ) → Grants conf group offset member end s → Grants conf group offset other late t →
    (u : PartStep) × Contains (between ++ t ∷ []) u × LetsGo group offset member end u

-- each table starts there or behind
abbrev pub StartAbove : ℕ → ShareStates → Type 0
StartAbove start states = (key : KeyParts) (state : ShareState) → share_state_at states key ≡ Some state → start ≤ size_of state.start

-- the log starts at its end at most, and each table where the log does or behind
abbrev pub IsAboveStart : PartShardState → Type 0
IsAboveStart shard = (shard.log.start ≤ end_of shard.log.batches) × StartAbove shard.log.start shard.states

-- no record is granted that lies below the log's start
abbrev pub GrantsNothingDeleted : PartConfParts → List PartStep → Type 0
GrantsNothingDeleted conf steps = (s : PartStep) → Contains steps s →
    (group : List ℕ) (offset : ℕ) (member : List ℕ) (end : ℕ) → Grants conf group offset member end s → s.before.log.start ≤ offset

-- ---- of whole runs

-- a record of a group on a partition, by the number of its shard
pub record Record : Type 0 where
  pub shard : ℕ
  pub group : List ℕ
  pub offset : ℕ

-- the step of a run calls the partition of this number, and to that partition it is this step
pub record IsSeenBy (shard : ℕ) (hosted : Hosted) (p : PartStep) (s : Step) : Type 0 where
  pub did : PartCall
  pub act : p.act ≡ Called did
  pub call : s.call ≡ Some (CallPart shard hosted did)
  pub before : HoldsAt shard (λ (q : HostedPart). q.shard ≡ p.before) s.before.machine.shards.parts
  pub after : HoldsAt shard (λ (q : HostedPart). q.shard ≡ p.after) s.after.machine.shards.parts

-- the step grants the record to this member, with a lock that ends at this moment
abbrev pub GrantsTo : Record → List ℕ → ℕ → Step → Type 0
GrantsTo r member end s = (hosted : Hosted) × (p : PartStep) × IsSeenBy r.shard hosted p s × Grants hosted.conf r.group r.offset member end p

-- the lock of the member on the record doesn't stand behind the step
abbrev pub EndsLock : Record → List ℕ → ℕ → Step → Type 0
EndsLock r member end s = ((hosted : Hosted) × (p : PartStep) × IsSeenBy r.shard hosted p s × LetsGo r.group r.offset member end p)
    ⊎ ((choice : ℕ) × (s.event ≡ Power choice))

-- the same of a run, in which a power loss ends each lock
abbrev pub HasExclusiveLocks : List Step → Type 0
HasExclusiveLocks steps = (before between after : List Step) (s t : Step) → steps ≡ before ++ (s ∷ (between ++ (t ∷ after))) →
    (r : Record) (member other : List ℕ) (end late : ℕ) → GrantsTo r member end s → GrantsTo r other late t →
    (u : Step) × Contains (between ++ t ∷ []) u × EndsLock r member end u

-- nor is one granted that lies below the log's start, where at first each table of each partition started there or behind
abbrev pub GrantsNoneDeleted : State → List Step → Type 0
GrantsNoneDeleted first steps = AllByRecursion (λ (p : HostedPart). IsAboveStart p.shard) first.machine.shards.parts →
    (s : Step) → Contains steps s → (r : Record) (member : List ℕ) (end : ℕ) → GrantsTo r member end s →
    HoldsAt r.shard (λ (q : HostedPart). q.shard.log.start ≤ r.offset) s.before.machine.shards.parts
