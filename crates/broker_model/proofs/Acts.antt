-- What a step does to the shards: nothing, or one call. A power loss is told apart.
use Rattle.std.proofs.Common.{◌≡◌, ◌⊎◌, inl, inr, refl, sym, ap, subst, ◌∙◌, ℕ, zero, suc, List, [], ◌∷◌, ◌++◌, Option, Some, None}
use Rattle.session_script.specs.declared.event.Event.{Event}
use Rattle.session_script.specs.declared.event.Event.TheVariants.{Open, Bytes, Close, Step as StepOf, Expire, Tick, Arm, Power}
use Rattle.session_script.specs.declared.event.Outcome.{Outcome}
use Rattle.topic_conf.specs.Configs.{ConfigParts}
use Rattle.topic_conf.specs.Topics.{shard_named}
use Rattle.conn_core.specs.declared.next.Next.{Next}
use Rattle.conn_core.specs.declared.next.Next.TheVariants.{Idle, Ask, Ready, Closed as NextClosed, Gone}
use Rattle.conn_core.specs.Conns.{ConnParts}
use Rattle.conn_core.specs.Turning.{turn}
use Rattle.broker_model.specs.Hosted.{Hosted, ChangesAt, IsOneOf, IsTaken, disks_of, first_of, hosted_of, log_of, part_disks, second_of}
use Rattle.share_members.specs.Groups.{Memberships}
use Rattle.broker_model.specs.Shards.{Counts, HostedPart, MembersCall, PartCall, Shards, ShardCall, StepsHosted, StepsMembers, StepsShards, hosted_by, Ends}
use Rattle.broker_model.specs.Shards.ShardCall.{CallForeign, CallPart, CallMembers}
use Rattle.broker_model.specs.Shards.MembersCall.{Beats, Ticks}
use Rattle.broker_model.specs.Machine.{Machine, conn_at}
use Rattle.broker_model.specs.Steps.{Does, ExpiresAt, Serves, StepsTo}
use Rattle.broker_model.specs.Laws.{NoPower}
use Rattle.broker_model.proofs.Lists.{IsOf, maps_stay}

-- no shard was called, and all are as they were
pub record IsQuiet (old new : Shards) (call : Option ShardCall) : Type 0 where
  pub none : call ≡ None
  pub same : new ≡ old

-- one was called
pub record IsDid (counts : Counts) (ends : Ends) (old new : Shards) (call : Option ShardCall) : Type 0 where
  pub now : ℕ
  pub did : ShardCall
  pub is : call ≡ Some did
  pub step : StepsShards counts ends now old did new

abbrev pub Acts : Counts → Ends → Shards → Shards → Option ShardCall → Type 0
Acts counts ends old new call = IsQuiet old new call ⊎ IsDid counts ends old new call

module _ (counts : Counts) (ends : Ends) where
  turn_acts : (id now : ℕ) (next : Next) (conn : ConnParts) (old new : Shards) (call : Option ShardCall) (outcomes : List Outcome) (after : ConnParts)
      → Does counts ends id now next conn old new call outcomes after → Acts counts ends old new call
  turn_acts id now Idle conn old new call outcomes after does = inl (record { none = does.none; same = does.stays })
  turn_acts id now (Ask part) conn old new call outcomes after does = inr (record { now = now; did = does.did; is = does.is; step = does.shard })
  turn_acts id now Ready conn old new call outcomes after does = inl (record { none = does.none; same = does.stays })
  turn_acts id now (NextClosed cause) conn old new call outcomes after does = inl (record { none = does.none; same = does.stays })
  turn_acts id now Gone conn old new call outcomes after does = inl (record { none = does.none; same = does.stays })

  module _ (conf : ConfigParts) (old new : Machine) (call : Option ShardCall) (outcomes : List Outcome) where
    service_acts : (id now : ℕ) (conn : Option ConnParts) → Serves conf counts ends old id now conn call outcomes new → Acts counts ends old.shards new.shards call
    service_acts id now None does = inl (record { none = does.none; same = ap (λ (m : Machine). m.shards) does.same })
    service_acts id now (Some conn) takes =
        turn_acts id now (turn conf conn).next (turn conf conn).conn old.shards new.shards call outcomes takes.after takes.does

    expiry_acts : (now : ℕ) (shard : Option ℕ) → ExpiresAt counts ends now old shard call outcomes new → Acts counts ends old.shards new.shards call
    expiry_acts now None does = inl (record { none = does.none; same = ap (λ (m : Machine). m.shards) does.same })
    expiry_acts now (Some shard) does = inr (record { now = now; did = does.did; is = does.is; step = does.shards })

    pub step_acts : (event : Event) → NoPower event → StepsTo conf counts ends old event call outcomes new → Acts counts ends old.shards new.shards call
    step_acts (Open conn) free does = inl (record { none = does.none; same = ap (λ (m : Machine). m.shards) does.same })
    step_acts (Bytes conn bytes) free does = inl (record { none = does.none; same = ap (λ (m : Machine). m.shards) does.same })
    step_acts (Close conn) free does = inl (record { none = does.none; same = ap (λ (m : Machine). m.shards) does.same })
    step_acts (StepOf conn now) free does = service_acts conn now (conn_at conn old.connections) does
    step_acts (Expire topic part now) free does = expiry_acts now (shard_named topic part conf.topics) does
    step_acts (Tick now) free does = inr (record { now = now; did = does.did; is = does.is; step = does.shards })
    step_acts (Arm disk after mode) free does = inl (record { none = does.none; same = ap (λ (m : Machine). m.shards) does.same })
    step_acts (Power choice) free does = absurd free

-- ---- the hosted partitions

one_front : (xs ys : List (List ℕ)) (name : List ℕ) → IsOneOf xs name → IsOneOf (xs ++ ys) name
one_front [] ys name is = absurd is
one_front (x ∷ xs) ys name (inl e) = inl e
one_front (x ∷ xs) ys name (inr e) = inr (one_front xs ys name e)

one_rest : (xs ys : List (List ℕ)) (name : List ℕ) → IsOneOf ys name → IsOneOf (xs ++ ys) name
one_rest [] ys name is = is
one_rest (x ∷ xs) ys name is = inr (one_rest xs ys name is)

disks_in : (hosted : List Hosted) (h : Hosted) (name : List ℕ) → IsOf hosted h → IsOneOf (disks_of h) name → IsOneOf (part_disks hosted) name
disks_in [] h name is one = absurd is
disks_in (x ∷ hosted) h name (inl e) one =
    one_front (disks_of x) (part_disks hosted) name (subst (λ (y : Hosted). IsOneOf (disks_of y) name) (sym e) one)
disks_in (x ∷ hosted) h name (inr e) one = one_rest (disks_of x) (part_disks hosted) name (disks_in hosted h name e one)

-- the disks of a hosted partition are the broker's
module _ (conf : ConfigParts) (h : Hosted) (hosted : IsOf (hosted_of conf) h) where
  pub log_taken : IsTaken conf (log_of h)
  log_taken = inl (disks_in (hosted_of conf) h (log_of h) hosted (inl refl))

  pub first_taken : IsTaken conf (first_of h)
  first_taken = inl (disks_in (hosted_of conf) h (first_of h) hosted (inr (inl refl)))

  pub second_taken : IsTaken conf (second_of h)
  second_taken = inl (disks_in (hosted_of conf) h (second_of h) hosted (inr (inr (inl refl))))

module _ (counts : Counts) (ends : Ends) where
  module _ (now : ℕ) (hosted : Hosted) (did : PartCall) where
    -- the partition that is called is hosted
    hosted_in : (shard : ℕ) (old new : List HostedPart) → ChangesAt shard (StepsHosted counts ends now hosted did) old new → IsOf (hosted_by old) hosted
    hosted_in shard [] new c = absurd c
    hosted_in zero (x ∷ xs) [] c = absurd c
    hosted_in zero (x ∷ xs) (y ∷ ys) c = inl c.0.was
    hosted_in (suc n) (x ∷ xs) [] c = absurd c
    hosted_in (suc n) (x ∷ xs) (y ∷ ys) c = inr (hosted_in n xs ys c.1)

    pub called_hosted : (shard : ℕ) (old new : List HostedPart) (all : List Hosted) → hosted_by old ≡ all
        → ChangesAt shard (StepsHosted counts ends now hosted did) old new → IsOf all hosted
    called_hosted shard old new all is c = subst (λ (l : List Hosted). IsOf l hosted) is (hosted_in shard old new c)

    parts_stay : (shard : ℕ) (old new : List HostedPart) → ChangesAt shard (StepsHosted counts ends now hosted did) old new → hosted_by new ≡ hosted_by old
    parts_stay shard old new c =
        maps_stay (λ (p : HostedPart). p.hosted) shard (StepsHosted counts ends now hosted did) (λ x y s. s.is ∙ sym s.was) old new c

  -- the partitions and the topics of the members stay
  pub record Stays (old new : Shards) : Type 0 where
    pub hosts : hosted_by new.parts ≡ hosted_by old.parts
    pub topics : new.members.topics ≡ old.members.topics

  members_stay : (now : ℕ) (old new : Memberships) (did : MembersCall) → StepsMembers now old did new → new.topics ≡ old.topics
  members_stay now old new (Beats request reply) step = ap (λ (m : Memberships). m.topics) step.1
  members_stay now old new Ticks step = ap (λ (m : Memberships). m.topics) step

  did_stays : (now : ℕ) (old new : Shards) (did : ShardCall) → StepsShards counts ends now old did new → Stays old new
  did_stays now old new (CallForeign op answer fault) step =
      record { hosts = ap hosted_by step.1; topics = ap (λ (m : Memberships). m.topics) step.2 }
  did_stays now old new (CallPart shard hosted did) step =
      record { hosts = parts_stay now hosted did shard old.parts new.parts step.0; topics = ap (λ (m : Memberships). m.topics) step.1 }
  did_stays now old new (CallMembers did) step =
      record { hosts = ap hosted_by step.1; topics = members_stay now old.members new.members did step.0 }

  acts_stay : (old new : Shards) (call : Option ShardCall) → Acts counts ends old new call → Stays old new
  acts_stay old new call (inl quiet) =
      record { hosts = ap (λ (s : Shards). hosted_by s.parts) quiet.same; topics = ap (λ (s : Shards). s.members.topics) quiet.same }
  acts_stay old new call (inr d) = did_stays d.now old new d.did d.step

  pub step_stays : (conf : ConfigParts) (old new : Machine) (call : Option ShardCall) (outcomes : List Outcome) (event : Event) → NoPower event
      → StepsTo conf counts ends old event call outcomes new → Stays old.shards new.shards
  step_stays conf old new call outcomes event free does =
      acts_stay old.shards new.shards call (step_acts counts ends conf old new call outcomes event free does)

-- it is a power loss, or none
pub power_or_not : (event : Event) → NoPower event ⊎ ((choice : ℕ) × (event ≡ Power choice))
power_or_not (Open conn) = inl tt
power_or_not (Bytes conn bytes) = inl tt
power_or_not (Close conn) = inl tt
power_or_not (StepOf conn now) = inl tt
power_or_not (Expire topic part now) = inl tt
power_or_not (Tick now) = inl tt
power_or_not (Arm disk after mode) = inl tt
power_or_not (Power choice) = inr (choice, refl)
