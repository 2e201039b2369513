-- A connection that is served asks hosted partitions alone.
use Rattle.std.proofs.Common.{◌≡◌, ◌≢◌, ◌≤◌, ℕ, List, [], ◌∷◌, ◌++◌, Option, Bool, sym, subst, arith, length}
use Rattle.edge_io.specs.Views.{DiskView}
use Rattle.topic_conf.specs.Configs.{ConfigParts}
use Rattle.call_fold.specs.declared.part.Part.{Part}
use Rattle.conn_core.specs.Conns.{ConnParts, new_conn}
use Rattle.conn_core.specs.HostedShards.{AreHostedIn, IsHostedPart, NextIsHosted}
use Rattle.conn_core.specs.Streams.{Act, conn_after, conn_after_all}
use Rattle.conn_core.specs.Turning.{turn}
use Rattle.conn_core.specs.declared.next.Next.TheVariants.{Ask}
use Rattle.conn_core.proofs.HostedTurns.{asks_hosted_shards}
use Rattle.broker_run.specs.declared.connection.Ended.{Ended}
use Rattle.broker_run.specs.declared.connection.Ended.TheVariants.{Peer, Closed, Read, Write, NoMemory}
use Rattle.broker_run.specs.declared.connection.Turned.TheVariants.{Closes}
use Rattle.broker_locks.specs.Shared.{SharedParts, PassesParts}
use Rattle.broker_locks.specs.Acting.{HostsAll}
use Rattle.broker_run.specs.Moving.{acts_of}
use Rattle.broker_run.specs.Serving.{GoesOn, HasEndCause, HasTurnCause, Quiet, Scene, Talks}

module _ (conf : ConfigParts) where
  after_all : (acts : List Act) (c : ConnParts) → AreHostedIn conf c → AreHostedIn conf (conn_after_all conf acts c)
  after_all [] c h = h
  after_all (act ∷ acts) c h = after_all acts (conn_after conf act c) ((asks_hosted_shards conf).keeps act c h)

  pub new_hosted : (c : ConnParts) → c ≡ new_conn → AreHostedIn conf c
  new_hosted c is = subst (AreHostedIn conf) (sym is) (asks_hosted_shards conf).begins

  -- a part that is asked next
  pub part_hosted : {D : Type 0} (shared : SharedParts D) (c : ConnParts) (part : Part) → HostsAll conf shared → AreHostedIn conf c
      → Ask part ≡ (turn conf c).next → IsHostedPart (length shared.parts) part
  part_hosted shared c part all h is =
      subst (λ (n : ℕ). IsHostedPart n part) (sym all) (subst (NextIsHosted conf) (sym is) ((asks_hosted_shards conf).tells c h))

module _ {D : Type 0} (conf : ConfigParts) (seen : D → DiskView) (shared : SharedParts D) where
  pub goes_hosted : (a b : Scene D) → GoesOn conf seen shared a b → AreHostedIn conf a.conn → AreHostedIn conf b.conn
  goes_hosted a b g h = subst (AreHostedIn conf) (sym g.goes.makes.conn) (after_all conf (acts_of g.moves) a.conn h)

  pub quiet_hosted : (c d : ConnParts) (p q : PassesParts D) (t u : Option (List ℕ)) → Quiet conf seen shared c d p q t u → AreHostedIn conf c → AreHostedIn conf d
  quiet_hosted c d p q t u k h = subst (AreHostedIn conf) (sym k.makes.conn) (after_all conf (acts_of k.moves) c h)

  pub talks_hosted : (ended : Ended) (a b : Scene D) → Talks conf seen shared ended a b → AreHostedIn conf a.conn → AreHostedIn conf b.conn
  talks_hosted ended a b t h =
      subst (AreHostedIn conf) (sym t.goes.makes.conn) (after_all conf (acts_of (t.talk ++ t.closing ∷ [])) a.conn h)

  -- serving a connection up to where it closed doesn't end for want of memory
  pub talks_ends : (ended : Ended) (a b : Scene D) → Talks conf seen shared ended a b → ended ≢ NoMemory
  talks_ends Peer a b t is = cc
  talks_ends (Closed cause) a b t is = cc
  talks_ends Read a b t is = cc
  talks_ends Write a b t is = cc
  talks_ends NoMemory a b t is = t.closes

-- ---- causes

-- a turn closed for this cause, behind calls in which no count fell
pub cause_then : (ended : Ended) (over : Bool) (left : Option (List ℕ)) (f g n : ℕ) → f ≤ g → HasTurnCause (Closes ended) over left g n → HasEndCause ended over left f n
cause_then Peer over left f g n le k = k
cause_then (Closed cause) over left f g n le k = tt
cause_then Read over left f g n le k = omega (arith, le, k)
cause_then Write over left f g n le k = absurd k
cause_then NoMemory over left f g n le k = absurd k
