-- Which shards a connection asks (this project's own): those of hosted partitions alone, where all its calls are of one configuration.
-- For example where three partitions are hosted, no batch, no delete, no visit and no look is asked of a shard above 2.
use Rattle.std.specs.Prelude.{◌<◌, ℕ, All}
use Rattle.topic_conf.specs.Configs.{ConfigParts}
use Rattle.topic_conf.specs.Topics.{partitions}
use Rattle.call_fold.specs.declared.part.Part.{Part}
use Rattle.call_fold.specs.declared.part.Part.TheVariants.{Foreign, Produce, Delete, Visit, Look, Heartbeat}
use Rattle.call_fold.specs.declared.part.PartAnswer.{PartAnswer}
use Rattle.call_fold.specs.Talks.{Talk, says, asks}
use Rattle.share_session.specs.declared.step.PlanStep.{PlanStep}
use Rattle.share_session.specs.SessionParts.{SessionParts}
use Rattle.conn_core.specs.declared.next.Next.{Next}
use Rattle.conn_core.specs.declared.next.Next.TheVariants.{Idle, Ask, Ready, Closed, Gone}
use Rattle.conn_core.specs.declared.work.Work.{Work}
use Rattle.conn_core.specs.declared.work.Work.TheVariants.{Free, Busy, Overlong, Closing}
use Rattle.conn_core.specs.Conns.{ConnParts, new_conn}
use Rattle.conn_core.specs.Talking.{hand_talk}
use Rattle.conn_core.specs.Turning.{turn}
use Rattle.conn_core.specs.Streams.{Act, conn_after}

-- the shard that a part names is one of so many
abbrev pub IsHostedPart : ℕ → Part → Type 0
IsHostedPart count (Foreign op) = Unit {0}
IsHostedPart count (Produce shard batch) = shard < count
IsHostedPart count (Delete shard to) = shard < count
IsHostedPart count (Visit shard visit) = shard < count
IsHostedPart count (Look shard group) = shard < count
IsHostedPart count (Heartbeat request) = Unit {0}

-- so is that of each part that a request asks, whatever is answered
abbrev pub AsksHosted : ℕ → Talk → Type 0
AsksHosted count (says body) = Unit {0}
AsksHosted count (asks part go) = IsHostedPart count part × ((answer : PartAnswer) → AsksHosted count (go answer))

abbrev pub IsHostedWork : ℕ → Work → Type 0
IsHostedWork count Free = Unit {0}
IsHostedWork count (Busy tags correlation hand) = AsksHosted count (hand_talk hand)
IsHostedWork count Overlong = Unit {0}
IsHostedWork count Closing = Unit {0}

abbrev pub HasHosted : ℕ → SessionParts → Type 0
HasHosted count s = All (λ shard. shard < count) s.partitions

-- a connection that names shards of this configuration alone: in its sessions, in what it is to release, and in the request in hand
pub record AreHostedIn (conf : ConfigParts) (conn : ConnParts) : Type 0 where
  pub sessions : All (HasHosted (partitions conf.topics)) conn.sessions
  pub releases : All (λ (step : PlanStep). step.shard < partitions conf.topics) conn.releases
  pub work : IsHostedWork (partitions conf.topics) conn.work

abbrev pub NextIsHosted : ConfigParts → Next → Type 0
NextIsHosted conf Idle = Unit {0}
NextIsHosted conf (Ask part) = IsHostedPart (partitions conf.topics) part
NextIsHosted conf Ready = Unit {0}
NextIsHosted conf (Closed cause) = Unit {0}
NextIsHosted conf Gone = Unit {0}

-- a new connection is such, each call leaves it such, and it asks hosted shards alone
pub record AsksHostedShards (conf : ConfigParts) : Type 0 where
  pub begins : AreHostedIn conf new_conn
  pub keeps : (act : Act) (conn : ConnParts) → AreHostedIn conf conn → AreHostedIn conf (conn_after conf act conn)
  pub tells : (conn : ConnParts) → AreHostedIn conf conn → NextIsHosted conf (turn conf conn).next
