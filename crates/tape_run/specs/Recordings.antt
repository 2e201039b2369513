-- A recording of a server's run: of each shard what was done to it, one after another, with its tape; and of each link a tape that its
-- connection plays. This project's own.
-- Worked example: links 0 and 1 each ask `orders` 0 by one step, at 10 and at 20, and the tape of `orders` 0 has the step of link 1 first. Its
-- history is two calls, that of link 1 and then that of link 0. Link 0 plays its bytes, a step at 10 that has the answer of the second call,
-- and its reply.
use Rattle.std.specs.Prelude.{◌≡◌, ◌≤◌, ◌<◌, ◌+◌, ◌++◌, ◌∷◌, [], ⊤, ℕ, List, length, map, slice_get, Bool, true, false, Option, Some, None, IsSome, suc, option_to_list, if◌then◌else◌}
use Rattle.session_script.specs.declared.event.Outcome.{Outcome}
use Rattle.session_script.specs.declared.event.Outcome.TheVariants.{Reply, Closed, Restarted, Fault}
use Rattle.share_model.specs.declared.close_cause.CloseCause.{CloseCause}
use Rattle.share_model.specs.declared.visit.ShardId.{ShardId}
use Rattle.share_model.specs.declared.visit.ShardId.TheVariants.{Part as OfPart, Members, Foreign}
use Rattle.share_members.specs.Groups.{Memberships}
use Rattle.foreign_coord.specs.Shards.{ForeignShardState}
use Rattle.share_record.specs.declared.tag.Tag.{Tag}
use Rattle.share_record.specs.declared.tag.Tag.TheVariants.{Part, Expire, Tick, Offer}
use Rattle.share_record.specs.declared.tape.LinkStep.{LinkStep}
use Rattle.share_record.specs.declared.tape.LinkTape.{LinkTape}
use Rattle.share_record.specs.declared.tape.ShardTape.{ShardTape}
use Rattle.topic_conf.specs.Configs.{ConfigParts}
use Rattle.topic_conf.specs.Topics.{IsTopicList, partitions}
use Rattle.conn_core.specs.Conns.{ConnParts, conn_after_bytes, conn_after_end, is_gone, new_conn}
use Rattle.conn_core.specs.Turning.{turn}
use Rattle.broker_model.specs.Hosted.{IsLogName, hosted_of}
use Rattle.broker_model.specs.Shards.{Counts, Ends, HostedPart, ShardCall, Shards, StepsShards, answered_by, calls, faults_met, hosted_by, log_faults_met, state_faults_met}
use Rattle.broker_model.specs.Shards.ShardCall.{CallForeign, CallPart, CallMembers}
use Rattle.broker_model.specs.States.{State}
use Rattle.broker_model.specs.Steps.{DoesTurn, IsExpiry, IsTick}
use Rattle.tape_merge.specs.Matching.{AreApart, AreMatched, Names}
use Rattle.tape_merge.specs.Telling.{ends_behind}

-- ---- shards

-- all shards, and where the journal on each disk ends
pub record Standing : Type 0 where
  pub shards : Shards
  pub ends : List ℕ → ℕ

-- what was done to a shard: its tag, its moment, the call with its answer, and how it stands then
pub record Entry : Type 0 where
  pub tag : Tag
  pub now : ℕ
  pub call : ShardCall
  pub after : Standing

-- one shard alone
pub data OneShard : Type 0 where
  OnePart : (part : Option HostedPart) → OneShard
  OneMembers : (members : Memberships) → OneShard
  OneForeign : (foreign : ForeignShardState) → OneShard

abbrev pub shard_in : ShardId → Shards → OneShard
shard_in (OfPart number) shards = OnePart (slice_get shards.parts number)
shard_in Members shards = OneMembers shards.members
shard_in Foreign shards = OneForeign shards.foreign

-- the shard that a call is on
abbrev pub shard_called : ShardCall → ShardId
shard_called (CallForeign op answer fault) = Foreign
shard_called (CallPart shard hosted did) = OfPart shard
shard_called (CallMembers did) = Members

-- the tag is that of a call at this moment: of a part that a connection asked, of an expiry, or of a tick
abbrev pub IsTagOf : Tag → (now : ℕ) → ShardCall → Type 0
IsTagOf (Part link step) now call = IsSome (answered_by call)
IsTagOf (Expire at) now call = (at ≡ now) × (shard : ℕ) × IsExpiry shard call
IsTagOf (Tick at) now call = (at ≡ now) × IsTick call
IsTagOf Offer now call = ⊥

-- counts of faults that stand
abbrev pub standing : (List ℕ → ℕ) → Counts
standing faults name = (faults name, faults name)

-- how many writes and readings of a call failed on a device
abbrev pub failures : ShardCall → ℕ
failures (CallForeign op answer fault) = faults_met fault
failures (CallPart shard hosted did) = state_faults_met did + log_faults_met did
failures (CallMembers did) = 0

-- where the journal on each disk ends in two standings
abbrev pub ends_between : Standing → Standing → Ends
ends_between old new name = (old.ends name, new.ends name)

-- a journal's end moves only with a call on its disk, and that of a log never goes back
pub record EndGoesOn (name : List ℕ) (call : ShardCall) (old new : ℕ) : Type 0 where
  pub log : IsLogName name → old ≤ new
  pub still : calls (Some call) name ≡ false → new ≡ old

-- this shard does it by a step of the broker's machine, in which no write and no reading fails, but that a journal may be full
pub record Does (shard : ShardId) (old : Standing) (entry : Entry) : Type 0 where
  pub counts : Counts
  pub called : shard_called entry.call ≡ shard
  pub tagged : IsTagOf entry.tag entry.now entry.call
  pub step : StepsShards counts (ends_between old entry.after) entry.now old.shards entry.call entry.after.shards
  pub fine : failures entry.call ≡ 0
  pub ends : (name : List ℕ) → EndGoesOn name entry.call (old.ends name) (entry.after.ends name)

-- the shard does these one after another
abbrev pub IsHistory : ShardId → Standing → List Entry → Type 0
IsHistory shard old [] = ⊤
IsHistory shard old (entry ∷ entries) = Does shard old entry × IsHistory shard entry.after entries

-- how all stands behind them
abbrev pub behind : Standing → List Entry → Standing
behind old [] = old
behind old (entry ∷ entries) = behind entry.after entries

abbrev pub entries_in : Option (List Entry) → List Entry
entries_in None = []
entries_in (Some entries) = entries

-- the history of the shard of a tape, by the tape's number
abbrev pub history_of : List (List Entry) → ℕ → List Entry
history_of histories tape = entries_in (slice_get histories tape)

-- a tape is that of the history of its shard, which begins so
pub record IsTapeOf (conf : ConfigParts) (first : Standing) (tape : ShardTape) (history : List Entry) : Type 0 where
  pub tags : map (λ (entry : Entry). entry.tag) history ≡ tape.tags
  pub does : IsHistory tape.shard first history
  pub hosted : (number : ℕ) → tape.shard ≡ OfPart number → number < partitions conf.topics

-- ---- links

-- a connection that closes with nothing left to release is gone
abbrev pub kept : ConnParts → Option ConnParts
kept conn = if is_gone conn then None else Some conn

abbrev pub closed : Option ConnParts → Option ConnParts
closed None = None
closed (Some conn) = kept (conn_after_end conn)

abbrev pub closed_if : Bool → Option ConnParts → Option ConnParts
closed_if true conn = closed conn
closed_if false conn = conn

-- the connection takes its turn, where a shard that it asks answers by this call, or none is asked
pub record TakesTurn (conf : ConfigParts) (id now : ℕ) (conn : ConnParts) (call : Option ShardCall) (told : List Outcome)
    (new : Option ConnParts) : Type 0 where
  pub counts : Counts
  pub ends : Ends
  pub shards : Shards
  pub others : Shards
  pub after : ConnParts
  pub does : DoesTurn counts ends id now (turn conf conn) shards others call told after
  pub leaves : new ≡ kept after

abbrev pub StepsLink : ConfigParts → (id now : ℕ) → Option ConnParts → Option ShardCall → List Outcome → Option ConnParts → Type 0
StepsLink conf id now None call told new = (call ≡ None) × (told ≡ []) × (new ≡ None)
StepsLink conf id now (Some conn) call told new = TakesTurn conf id now conn call told new

-- the tag of this entry names a step, which has its moment and is answered by its call
pub record IsNamedBy (tapes : List ShardTape) (histories : List (List Entry)) (id at now : ℕ) (call : Option ShardCall) : Type 0 where
  pub tape : ℕ
  pub there : ℕ
  pub entry : Entry
  pub names : Names tapes tape there id at
  pub found : slice_get (history_of histories tape) there ≡ Some entry
  pub moment : entry.now ≡ now
  pub answers : call ≡ Some entry.call

-- the call of a step: none where it asks no shard, and else that of the entry whose tag names it
abbrev pub IsCallOf : List ShardTape → List (List Entry) → (id at now : ℕ) → Option ShardId → Option ShardCall → Type 0
IsCallOf tapes histories id at now None call = call ≡ None
IsCallOf tapes histories id at now (Some shard) call = IsNamedBy tapes histories id at now call

-- A step of a link from here on, and what it tells. `Later` is what is told behind it. The client closes the connection before it where the tape
-- of the link says so.
pub record PlaysStep (conf : ConfigParts) (tapes : List ShardTape) (histories : List (List Entry)) (id : ℕ) (link : LinkTape) (done : ℕ) (step : LinkStep)
    (conn : Option ConnParts) (told : List Outcome) (Later : Option ConnParts → List Outcome → Type 0) : Type 0 where
  pub call : Option ShardCall
  pub first : List Outcome
  pub others : List Outcome
  pub next : Option ConnParts
  pub is_call : IsCallOf tapes histories id done step.now step.shard call
  pub steps : StepsLink conf id step.now (closed_if (ends_behind link.closed_at (length link.steps) done) conn) call first next
  pub tells : told ≡ first ++ others
  pub later : Later next others

-- from its step numbered `done` on the connection of a link takes these steps, and tells this
abbrev pub Plays : ConfigParts → List ShardTape → List (List Entry) → (id : ℕ) → LinkTape → (done : ℕ) → List LinkStep → Option ConnParts → List Outcome → Type 0
Plays conf tapes histories id link done [] conn told = told ≡ []
Plays conf tapes histories id link done (step ∷ steps) conn told =
    PlaysStep conf tapes histories id link done step conn told (Plays conf tapes histories id link (suc done) steps)

abbrev pub replies_in : List Outcome → List (List ℕ)
replies_in [] = []
replies_in (Reply conn frame ∷ outcomes) = frame ∷ replies_in outcomes
replies_in (Closed conn cause ∷ outcomes) = replies_in outcomes
replies_in (Fault shard ∷ outcomes) = replies_in outcomes
replies_in (Restarted ∷ outcomes) = replies_in outcomes

abbrev pub causes_in : List Outcome → List CloseCause
causes_in [] = []
causes_in (Reply conn frame ∷ outcomes) = causes_in outcomes
causes_in (Closed conn cause ∷ outcomes) = cause ∷ causes_in outcomes
causes_in (Fault shard ∷ outcomes) = causes_in outcomes
causes_in (Restarted ∷ outcomes) = causes_in outcomes

-- these outcomes are the replies of a link's tape, in order, and the cause with which its connection closed
pub record AreOfLink (link : LinkTape) (outcomes : List Outcome) : Type 0 where
  pub replies : replies_in outcomes ≡ link.replies
  pub cause : causes_in outcomes ≡ option_to_list link.cause

-- a connection that gets all bytes of the link, and is stepped and closed as its tape says, gives the replies and the cause of the tape
pub record IsLinkTape (conf : ConfigParts) (tapes : List ShardTape) (histories : List (List Entry)) (id : ℕ) (link : LinkTape) : Type 0 where
  pub told : List Outcome
  pub plays : Plays conf tapes histories id link 0 link.steps (Some (conn_after_bytes link.bytes new_conn)) told
  pub gives : AreOfLink link told

-- ---- all together

abbrev pub stands : State → Standing
stands state = record { shards = state.machine.shards; ends = state.ends }

-- Of a broker without connections that begins so: histories of shards of their own, each with its tape, and links' tapes whose steps
-- and the tags name each other.
pub record IsRecording (conf : ConfigParts) (first : State) (tapes : List ShardTape) (histories : List (List Entry)) (links : List LinkTape) : Type 0 where
  pub conf_is : IsTopicList conf.topics
  pub nobody : first.machine.connections ≡ []
  pub hosts : hosted_by first.machine.shards.parts ≡ hosted_of conf
  pub topics : first.machine.shards.members.topics ≡ conf.topics
  pub apart : AreApart tapes
  pub matched : AreMatched tapes links
  pub each_tape : (number : ℕ) (tape : ShardTape) → slice_get tapes number ≡ Some tape
      → IsTapeOf conf (stands first) tape (history_of histories number)
  pub each_link : (id : ℕ) (link : LinkTape) → slice_get links id ≡ Some link → IsLinkTape conf tapes histories id link
