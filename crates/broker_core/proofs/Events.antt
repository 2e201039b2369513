-- What each event makes of the machine.
use Rattle.std.proofs.Common.{◌≡◌, ◌≤◌, ◌-◌, ◌⊎◌, ◌∷◌, [], inl, inr, refl, sym, ap, ◌∙◌, subst, arith, ℕ, List, Bool, true, false, cond, Some, None, Result, Err, IfErr}
use Rattle.std.specs.List.{AllByRecursion, AllZip}
use Rattle.std.specs.Prelude.{All}
use Rattle.std.specs.declared.option.Option.{Option}
use Rattle.edge_io.specs.declared.fault.FaultMode.{FaultMode}
use Rattle.session_script.specs.declared.event.Event.{Event}
use Rattle.session_script.specs.declared.event.Event.TheVariants.{Open, Bytes, Close, Step, Expire, Tick, Arm, Power}
use Rattle.session_script.specs.declared.event.Outcome.{Outcome}
use Rattle.session_script.specs.declared.event.Outcome.TheVariants.{Restarted}
use Rattle.topic_conf.specs.declared.topic.Topic.{Topic}
use Rattle.topic_conf.specs.Configs.{ConfigParts}
use Rattle.topic_conf.specs.Topics.{shard_named}
use Rattle.session_script.specs.Output.{IsTold}
use Rattle.conn_core.specs.Conns.{ConnParts, conn_after_bytes}
use Rattle.share_members.specs.Groups.{Memberships}
use Rattle.broker_model.specs.Hosted.{Hosted, IsOneOf, IsTaken, hosted_of, part_disks, same_name, state_a, state_b}
use Rattle.broker_model.specs.Shards.{Counts, HostedPart, Shards, ShardCall, StepsShards, calls, hosted_by}
use Rattle.broker_model.specs.Shards.ShardCall.{CallMembers}
use Rattle.broker_model.specs.Shards.MembersCall.{Ticks}
use Rattle.broker_model.specs.Machine.{Machine, LandsPart, no_members, conn_at, opened, at_connection, ended_in}
use Rattle.broker_model.specs.Disks.{Facts, OnCalled}
use Rattle.broker_model.specs.Steps.{StepsTo, Serves, DoesNothing, ExpiresAt}
use Rattle.broker_model.specs.States.{State}
use Rattle.broker_core.specs.declared.fault.CoreFault.{CoreFault}
use Rattle.broker_core.specs.declared.fault.CoreFault.TheVariants.{NoMemory}
use Rattle.broker_hosts.specs.declared.slot.ForeignSlot.{ForeignSlot}
use Rattle.broker_hosts.specs.declared.slot.ForeignSlot.TheVariants as foreign
use Rattle.broker_hosts.specs.declared.slot.PartState.{PartState}
use Rattle.broker_hosts.specs.declared.slot.PartState.TheVariants as part
use Rattle.broker_hosts.specs.declared.slot.PartSlot.{PartSlot}
use Rattle.broker_hosts.specs.Hosts.{AreCarried, AreDistinct, AreHeld, AreHeldParts, AreNamed, AreOpen, AreOpenParts, HostsParts, IsHeld, IsHeldState, IsOpen, IsOpenState, IsPartSlot, LeftDisks, LogsReach, StandStill, all_names, disks_in, ends_in, facts_at, facts_in, foreign_facts, hosted_slots, IsWhole}
use Rattle.broker_core.specs.Calls.{BothGoOn, DiskGoesOn, GoesOnIf, GoOn, Halts, Leads, StaysHosted, counts_in, ends_over}
use Rattle.broker_core.specs.Cores.{AreReopened, CoreParts, HasMoment, IsArmed, IsCore, StopsIn, Advances, state_of}
use Rattle.broker_hosts.proofs.Places.{among_zip, zip_weaker, one_in_front, one_in_rest}
use Rattle.broker_core.proofs.Leading.{still_all}
use Rattle.broker_core.proofs.Reaching.{reach_all, reach_less}
use Rattle.broker_core.proofs.Telling.{all_told}
use Rattle.edge_io.specs.Views.{DiskView}

-- ---- open and held

held_state : {D : Type 0} (state : PartState D) → IsOpenState state → IsHeldState state
held_state (part.Open shard) o = tt
held_state (part.Shut log first second) o = absurd o
held_state part.Gone o = absurd o

held_parts : {D : Type 0} (slots : List (PartSlot D)) → AreOpenParts slots → AreHeldParts slots
held_parts [] o = tt
held_parts (s ∷ slots) o = (held_state s.state o.0, held_parts slots o.1)

held_foreign : {D : Type 0} (slot : ForeignSlot D) → IsOpen slot → IsHeld slot
held_foreign (foreign.Open store) o = tt
held_foreign (foreign.Shut first second) o = absurd o
held_foreign foreign.Gone o = absurd o

pub open_held : {D : Type 0} (hosts : HostsParts D) → AreOpen hosts → AreHeld hosts
open_held hosts o = record { parts = held_parts hosts.parts o.parts; foreign = held_foreign hosts.foreign o.foreign }

-- ---- moments

-- that of an event that is known by an equation
pub moment_at : (event e : Event) → event ≡ e → HasMoment event → HasMoment e
moment_at event e is moment = subst HasMoment is moment

-- a restart is no fault
pub restarted_told : (topics : List Topic) (outcomes : List Outcome) → outcomes ≡ Restarted ∷ [] → All (IsTold topics) outcomes
restarted_told topics outcomes e = all_told topics outcomes (subst (λ (l : List Outcome). AllByRecursion (IsTold topics) l) (sym e) (tt, tt))

-- ---- partitions

lands_hosted : (old new : List HostedPart) → AllZip LandsPart old new → hosted_by new ≡ hosted_by old
lands_hosted [] [] z = refl
lands_hosted [] (f ∷ new) z = absurd z
lands_hosted (e ∷ old) [] z = absurd z
lands_hosted (e ∷ old) (f ∷ new) z = λ i. z.0.hosted i ∷ lands_hosted old new z.1 i

module _ {D : Type 0} (seen : D → DiskView) where
  abbrev C : CoreParts D → Machine → Type 0
  C core m = IsCore seen core m

  abbrev A : CoreParts D → Event → List Outcome → CoreParts D → Type 0
  A old event outcomes new = Advances seen old event outcomes new

  abbrev at : Machine → CoreParts D → State
  at m core = state_of seen m core

  abbrev F : LeftDisks D → List ℕ → Facts
  F left name = facts_in seen left name

  carried_hosted : (slots : List (PartSlot D)) (ps : List HostedPart) → AllZip (IsPartSlot seen) slots ps → hosted_by ps ≡ hosted_slots slots
  carried_hosted [] [] z = refl
  carried_hosted [] (p ∷ ps) z = absurd z
  carried_hosted (s ∷ slots) [] z = absurd z
  carried_hosted (s ∷ slots) (p ∷ ps) z = λ i. z.0.hosted i ∷ carried_hosted slots ps z.1 i

  hosts_are : (core : CoreParts D) (m : Machine) → IsWhole core.conf core.hosts → C core m → hosted_by m.shards.parts ≡ hosted_of core.conf
  hosts_are core m whole k = carried_hosted core.hosts.parts m.shards.parts k.shards.parts ∙ whole.hosts

  topics_are : (core : CoreParts D) (m : Machine) → IsWhole core.conf core.hosts → C core m → m.shards.members.topics ≡ core.conf.topics
  topics_are core m whole k = ap (λ (g : Memberships). g.topics) k.shards.members ∙ whole.topics

  taken_one : (core : CoreParts D) (name : List ℕ) → IsWhole core.conf core.hosts → IsTaken core.conf name → IsOneOf (all_names (hosted_slots core.hosts.parts)) name
  taken_one core name whole (inl one) =
      one_in_front (part_disks (hosted_slots core.hosts.parts)) (state_a ∷ state_b ∷ []) name
      (subst (λ (hs : List Hosted). IsOneOf (part_disks hs) name) (sym whole.hosts) one)
  taken_one core name whole (inr (inl e)) = one_in_rest (part_disks (hosted_slots core.hosts.parts)) (state_a ∷ state_b ∷ []) name (inl e)
  taken_one core name whole (inr (inr e)) = one_in_rest (part_disks (hosted_slots core.hosts.parts)) (state_a ∷ state_b ∷ []) name (inr (inl e))

  -- ---- counts

  later_if : (old new : Option D) → GoesOnIf seen old new
      → (facts_at seen old).faults ≤ (facts_at seen new).faults
  later_if (Some old) (Some new) g = g.later
  later_if (Some old) None g = absurd g
  later_if None (Some new) g = omega arith
  later_if None None g = omega arith

  later_both : (old new : Option (D × D)) → BothGoOn seen old new → (name : List ℕ)
      → (foreign_facts seen old name).faults ≤ (foreign_facts seen new name).faults
  later_both (Some old) (Some new) g name = go (same_name name state_a) where
    go : (b : Bool) → cond b (seen old.0).faults (seen old.1).faults ≤ cond b (seen new.0).faults (seen new.1).faults
    go true = g.0.later
    go false = g.1.later
  later_both (Some old) None g name = absurd g
  later_both None (Some new) g name = omega arith
  later_both None None g name = omega arith

  pub later : (old new : LeftDisks D) → GoOn seen old new → (name : List ℕ) → (F old name).faults ≤ (F new name).faults
  later old new g name =
      among_zip (λ (e : List ℕ × Option D). e.0) (λ e. facts_at seen e.1) (λ (e : List ℕ × Option D). e.0)
      (λ e. facts_at seen e.1) (λ (a b : Facts). a.faults ≤ b.faults) old.parts new.parts
      (zip_weaker (DiskGoesOn seen)
      (λ (e f : List ℕ × Option D). (f.0 ≡ e.0) × ((facts_at seen e.1).faults ≤ (facts_at seen f.1).faults))
      (λ e f h. (h.name, later_if e.1 f.1 h.goes)) old.parts new.parts g.parts)
      (foreign_facts seen old.foreign name) (foreign_facts seen new.foreign name) name
      (λ n. later_both old.foreign new.foreign g.foreign name)

  same_later : (old new : HostsParts D) → new ≡ old → (name : List ℕ) → (F (disks_in old) name).faults ≤ (F (disks_in new) name).faults
  same_later old new e name = subst (λ (h : HostsParts D). (F (disks_in old) name).faults ≤ (F (disks_in h) name).faults) (sym e) (least (F (disks_in old) name).faults)
    where
      least : (n : ℕ) → n ≤ n
      least n = omega arith

  -- ---- the partitions stay

  pub still_whole : (conf : ConfigParts) (old new : HostsParts D) → IsWhole conf old → StaysHosted old new → AreHeld new → IsWhole conf new
  still_whole conf old new whole stays held = record {
    held = held;
    hosts = stays.hosted ∙ whole.hosts;
    topics = stays.topics ∙ whole.topics;
    apart = subst (λ (hs : List Hosted). AreDistinct (all_names hs)) (sym stays.hosted) whole.apart;
    named = subst AreNamed (sym stays.hosted) whole.named;
  }

  -- ---- connections alone

  connected : (old new : CoreParts D) (before : Machine) → new.hosts ≡ old.hosts → C old before
      → C new (record { connections = new.connections; shards = before.shards })
  connected old new before same k =
      record { connections = refl; shards = subst (λ (h : HostsParts D). AreCarried seen h before.shards) (sym same) k.shards }

  does : (old new : CoreParts D) (before : Machine) (change : List (ℕ × ConnParts) → List (ℕ × ConnParts)) → C old before
      → new.connections ≡ change old.connections
      → DoesNothing (record { connections = change before.connections; shards = before.shards }) None [] (record { connections = new.connections; shards = before.shards })
  does old new before change k e = record {
    none = refl;
    tells = refl;
    same = λ i. record { connections = (e ∙ ap change (sym k.connections)) i; shards = before.shards };
  }

  pub opens : (old new : CoreParts D) (id : ℕ) → IsWhole old.conf old.hosts → new.hosts ≡ old.hosts → new.connections ≡ opened id old.connections → A old (Open id) [] new
  opens old new id whole same e before k = (
    record { connections = new.connections; shards = before.shards },
    None,
    connected old new before same k,
    record {
      hosts = hosts_are old before whole k;
      topics = topics_are old before whole k;
      later = λ name taken. same_later old.hosts new.hosts same name;
      machine = does old new before (opened id) k e;
      disks = λ name taken. ap (λ (h : HostsParts D). F (disks_in h) name) same;
      losses = tt;
      ends = λ name taken. ap (λ (h : HostsParts D). ends_in h name) same;
    },
  )

  pub sends : (old new : CoreParts D) (id : ℕ) (bytes : List ℕ) → IsWhole old.conf old.hosts → new.hosts ≡ old.hosts
      → new.connections ≡ at_connection id (conn_after_bytes bytes) old.connections → A old (Bytes id bytes) [] new
  sends old new id bytes whole same e before k = (
    record { connections = new.connections; shards = before.shards },
    None,
    connected old new before same k,
    record {
      hosts = hosts_are old before whole k;
      topics = topics_are old before whole k;
      later = λ name taken. same_later old.hosts new.hosts same name;
      machine = does old new before (at_connection id (conn_after_bytes bytes)) k e;
      disks = λ name taken. ap (λ (h : HostsParts D). F (disks_in h) name) same;
      losses = tt;
      ends = λ name taken. ap (λ (h : HostsParts D). ends_in h name) same;
    },
  )

  pub closes : (old new : CoreParts D) (id : ℕ) → IsWhole old.conf old.hosts → new.hosts ≡ old.hosts
      → new.connections ≡ ended_in id (conn_at id old.connections) old.connections → A old (Close id) [] new
  closes old new id whole same e before k = (
    record { connections = new.connections; shards = before.shards },
    None,
    connected old new before same k,
    record {
      hosts = hosts_are old before whole k;
      topics = topics_are old before whole k;
      later = λ name taken. same_later old.hosts new.hosts same name;
      machine = does old new before (λ cs. ended_in id (conn_at id cs) cs) k e;
      disks = λ name taken. ap (λ (h : HostsParts D). F (disks_in h) name) same;
      losses = tt;
      ends = λ name taken. ap (λ (h : HostsParts D). ends_in h name) same;
    },
  )

  -- ---- the shards

  -- the machine that the broker stood for, by its connections
  abbrev shown : CoreParts D → Shards → Machine
  shown core s = record { connections = core.connections; shards = s }

  seen_is : (core : CoreParts D) (before : Machine) → C core before → shown core before.shards ≡ before
  seen_is core before k = λ i. record { connections = sym k.connections i; shards = before.shards }

  abbrev N : HostsParts D → HostsParts D → Counts
  N old new = counts_in seen (disks_in old) (disks_in new)

  abbrev ServesIn : CoreParts D → (id now : ℕ) → Option ShardCall → List Outcome → HostsParts D → Shards → Machine → Type 0
  ServesIn old id now call outcomes new a m = Serves old.conf (N old.hosts new) (ends_over old.hosts new)
      (record { connections = old.connections; shards = a }) id now (conn_at id old.connections) call outcomes m

  steps_from : (old : CoreParts D) (before after : Machine) (id now : ℕ) (call : Option ShardCall) (outcomes : List Outcome) (new : HostsParts D) → C old before
      → ServesIn old id now call outcomes new before.shards after
      → StepsTo old.conf (N old.hosts new) (ends_over old.hosts new) before (Step id now) call outcomes after
  steps_from old before after id now call outcomes new k s =
      subst (λ m. Serves old.conf (N old.hosts new) (ends_over old.hosts new) m id now (conn_at id m.connections) call outcomes after)
      (seen_is old before k) s

  pub steps : (old new : CoreParts D) (id now : ℕ) (outcomes : List Outcome) → IsWhole old.conf old.hosts → GoOn seen (disks_in old.hosts) (disks_in new.hosts)
      → ((s : Shards) → AreCarried seen old.hosts s → Leads seen old.hosts s new.hosts
      (λ a call b. ServesIn old id now call outcomes new.hosts a (record { connections = new.connections; shards = b })))
      → A old (Step id now) outcomes new
  steps old new id now outcomes whole g served before k =
      let v = served before.shards k.shards in
      let after : Machine = record { connections = new.connections; shards = v.after } in (
        after,
        v.call,
        record { connections = refl; shards = v.carried },
        record {
          hosts = hosts_are old before whole k;
          topics = topics_are old before whole k;
          later = λ name taken. later (disks_in old.hosts) (disks_in new.hosts) g name;
          machine = steps_from old before after id now v.call outcomes new.hosts k v.does;
          disks = λ name taken. v.disks name (taken_one old name whole taken);
          losses = tt;
          ends = λ name taken. (v.ends_later name, v.ends name);
        },
      )

  abbrev ExpiresIn : CoreParts D → List ℕ → (part now : ℕ) → HostsParts D → Shards → Option ShardCall → List Outcome → Shards → Type 0
  ExpiresIn old topic part now new a call outcomes b = (connections : List (ℕ × ConnParts)) → ExpiresAt (N old.hosts new) (ends_over old.hosts new) now
      (record { connections = connections; shards = a }) (shard_named topic part old.conf.topics) call outcomes (record { connections = connections; shards = b })

  pub expires : (old new : CoreParts D) (topic : List ℕ) (part now : ℕ) (outcomes : List Outcome) → IsWhole old.conf old.hosts → new.connections ≡ old.connections
      → GoOn seen (disks_in old.hosts) (disks_in new.hosts)
      → ((s : Shards) → AreCarried seen old.hosts s → Leads seen old.hosts s new.hosts
      (λ a call b. ExpiresIn old topic part now new.hosts a call outcomes b))
      → A old (Expire topic part now) outcomes new
  expires old new topic part now outcomes whole same g expired before k =
      let v = expired before.shards k.shards in (
        record { connections = before.connections; shards = v.after },
        v.call,
        record { connections = k.connections ∙ sym same; shards = v.carried },
        record {
          hosts = hosts_are old before whole k;
          topics = topics_are old before whole k;
          later = λ name taken. later (disks_in old.hosts) (disks_in new.hosts) g name;
          machine = v.does before.connections;
          disks = λ name taken. v.disks name (taken_one old name whole taken);
          losses = tt;
          ends = λ name taken. (v.ends_later name, v.ends name);
        },
      )

  pub ticks : (old new : CoreParts D) (now : ℕ) → IsWhole old.conf old.hosts → new.connections ≡ old.connections
      → GoOn seen (disks_in old.hosts) (disks_in new.hosts)
      → ((s : Shards) → AreCarried seen old.hosts s → Leads seen old.hosts s new.hosts
      (λ a call b. (call ≡ Some (CallMembers Ticks)) × StepsShards (N old.hosts new.hosts) (ends_over old.hosts new.hosts) now a (CallMembers Ticks) b))
      → A old (Tick now) [] new
  ticks old new now whole same g ticked before k =
      let v = ticked before.shards k.shards in (
        record { connections = before.connections; shards = v.after },
        v.call,
        record { connections = k.connections ∙ sym same; shards = v.carried },
        record {
          hosts = hosts_are old before whole k;
          topics = topics_are old before whole k;
          later = λ name taken. later (disks_in old.hosts) (disks_in new.hosts) g name;
          machine = record { did = CallMembers Ticks; is = v.does.0; kind = refl; shards = v.does.1; tells = refl; connections = refl };
          disks = λ name taken. subst (λ (call : Option ShardCall). OnCalled (calls call name) (F (disks_in old.hosts) name) (F (disks_in new.hosts) name)) v.does.0
              (v.disks name (taken_one old name whole taken));
          losses = tt;
          ends = λ name taken. v.ends name (ap (λ (call : Option ShardCall). calls call name) v.does.0);
        },
      )

  pub arms_one : (old new : CoreParts D) (disk : List ℕ) (after : ℕ) (mode : FaultMode) → IsWhole old.conf old.hosts → new.connections ≡ old.connections
      → GoOn seen (disks_in old.hosts) (disks_in new.hosts)
      → ((s : Shards) → AreCarried seen old.hosts s
      → IsArmed seen disk after mode old.hosts s new.hosts) → A old (Arm disk after mode) [] new
  arms_one old new disk after mode whole same g armed_in before k =
      let v = armed_in before.shards k.shards in (
        before,
        None,
        record { connections = k.connections ∙ sym same; shards = v.carried },
        record {
          hosts = hosts_are old before whole k;
          topics = topics_are old before whole k;
          later = λ name taken. later (disks_in old.hosts) (disks_in new.hosts) g name;
          machine = record { none = refl; tells = refl; same = refl };
          disks = λ name taken. v.disks name (taken_one old name whole taken);
          losses = tt;
          ends = λ name taken. v.ends name;
        },
      )

  pub restarts : (old new : CoreParts D) (choice : ℕ) (outcomes : List Outcome) → IsWhole old.conf old.hosts → outcomes ≡ Restarted ∷ [] → new.connections ≡ []
      → GoOn seen (disks_in old.hosts) (disks_in new.hosts)
      → ((s : Shards) → AreCarried seen old.hosts s
      → AreReopened seen choice old.hosts s new.hosts) → A old (Power choice) outcomes new
  restarts old new choice outcomes whole tells nobody g reopened before k =
      let v = reopened before.shards k.shards in
      let after : Machine = record { connections = []; shards = v.after } in (
        after,
        None,
        record { connections = sym nobody; shards = v.carried },
        record {
          hosts = hosts_are old before whole k;
          topics = topics_are old before whole k;
          later = λ name taken. later (disks_in old.hosts) (disks_in new.hosts) g name;
          machine = record { none = refl; tells = tells; nobody = refl; lands = v.lands };
          disks = λ name taken. v.disks name (taken_one old name whole taken);
          losses = record {
            contents = v.contents;
            losses = λ name taken. v.lost name (taken_one old name whole taken);
            reach = λ name taken is. v.reach name is;
            opens = record {
              nobody = refl;
              hosts = lands_hosted before.shards.parts v.after.parts v.lands.parts ∙ hosts_are old before whole k;
              parts = v.parts;
              members = v.lands.members ∙ ap (λ (t : List Topic). no_members t) (topics_are old before whole k);
              foreign = v.states;
              nothing = v.lands.foreign.nothing;
            };
          };
          ends = λ name taken. tt;
        },
      )

  -- ---- no memory

  abbrev S : CoreParts D → Machine → Event → CoreParts D → Type 0
  S old before event new = StopsIn seen old before event new

  least : (n : ℕ) → n ≤ n
  least n = omega arith

  pub stops_still : (old new : CoreParts D) (before : Machine) (event : Event) → new.hosts ≡ old.hosts → C old before → S old before event new
  stops_still old new before event same k = record {
    after = before;
    ends = ends_in old.hosts;
    reaches = inl refl;
    ends_later = λ name is. least (ends_in old.hosts name);
    still = subst (λ (h : HostsParts D). StandStill seen before.shards (disks_in h)) (sym same)
        (still_all seen old.hosts before.shards k.shards);
    reach = subst (λ (h : HostsParts D). LogsReach seen (disks_in h) (λ name. ends_in old.hosts name - 1)) (sym same)
        (reach_less seen (disks_in old.hosts) (ends_in old.hosts) (reach_all seen old.hosts before.shards k.shards));
  }

  pub stops_step : (old new : CoreParts D) (before : Machine) (id now : ℕ) → C old before
      → Halts seen old.hosts before.shards new.hosts
      (λ a call b. (outcomes : List Outcome) × (m : Machine) × (m.shards ≡ b) × ServesIn old id now call outcomes new.hosts a m)
      → S old before (Step id now) new
  stops_step old new before id now k h = go h.does
    where
      go : (h.after ≡ before.shards) ⊎ ((call : Option ShardCall) × ((outcomes : List Outcome) × (m : Machine) × (m.shards ≡ h.after)
          × ServesIn old id now call outcomes new.hosts before.shards m)) → S old before (Step id now) new
      go (inl same) = record {
        after = before;
        ends = ends_in new.hosts;
        reaches = inl refl;
        ends_later = h.ends_later;
        reach = reach_less seen (disks_in new.hosts) (ends_in new.hosts) h.reach;
        still = subst (λ (s : Shards). StandStill seen s (disks_in new.hosts)) same h.still;
      }
      go (inr d) = record {
        after = d.1.1;
        ends = ends_in new.hosts;
        ends_later = h.ends_later;
        reach = reach_less seen (disks_in new.hosts) (ends_in new.hosts) h.reach;
        reaches = inr (d.0, d.1.0, steps_from old before d.1.1 id now d.0 d.1.0 new.hosts k d.1.3);
        still = subst (λ (s : Shards). StandStill seen s (disks_in new.hosts)) (sym d.1.2) h.still;
      }

  pub stops_expire : (old new : CoreParts D) (before : Machine) (topic : List ℕ) (part now : ℕ) → C old before
      → Halts seen old.hosts before.shards new.hosts
      (λ a call b. (outcomes : List Outcome) × ExpiresIn old topic part now new.hosts a call outcomes b)
      → S old before (Expire topic part now) new
  stops_expire old new before topic part now k h = go h.does
    where
      go : (h.after ≡ before.shards) ⊎ ((call : Option ShardCall) × ((outcomes : List Outcome)
          × ExpiresIn old topic part now new.hosts before.shards call outcomes h.after)) → S old before (Expire topic part now) new
      go (inl same) = record {
        after = before;
        ends = ends_in new.hosts;
        reaches = inl refl;
        ends_later = h.ends_later;
        reach = reach_less seen (disks_in new.hosts) (ends_in new.hosts) h.reach;
        still = subst (λ (s : Shards). StandStill seen s (disks_in new.hosts)) same h.still;
      }
      go (inr d) = record {
        after = record { connections = before.connections; shards = h.after };
        ends = ends_in new.hosts;
        ends_later = h.ends_later;
        reach = reach_less seen (disks_in new.hosts) (ends_in new.hosts) h.reach;
        reaches = inr (d.0, d.1.0, d.1.1 before.connections);
        still = h.still;
      }

  pub stops_power : (old new : CoreParts D) (before : Machine) (choice : ℕ) → StandStill seen before.shards (disks_in new.hosts)
      → LogsReach seen (disks_in new.hosts) (λ name. ends_in old.hosts name - 1) → S old before (Power choice) new
  stops_power old new before choice still reach = record {
    after = before;
    ends = ends_in old.hosts;
    reaches = inl refl;
    ends_later = λ name is. least (ends_in old.hosts name);
    still = still;
    reach = reach;
  }

  -- ---- where old and event are known by equations

  pub advances_at : (old : CoreParts D) (e event : Event) (out outcomes : List Outcome) (new : CoreParts D) → event ≡ e → outcomes ≡ out
      → A old e out new → A old event outcomes new
  advances_at old e event out outcomes new is told a =
      subst (λ (x : Event). A old x outcomes new) (sym is) (subst (λ (x : List Outcome). A old e x new) (sym told) a)

  pub memory_stops : {T : Type 0} (r : Result T CoreFault) (old : CoreParts D) (e event : Event) (new : CoreParts D) → r ≡ Err NoMemory
      → event ≡ e → ((m : Machine) → C old m → S old m e new) → IfErr r (λ x. (m : Machine) → C old m → S old m event new × (x ≡ NoMemory))
  memory_stops {T} r old e event new err is f =
      subst (λ (q : Result T CoreFault). IfErr q (λ x. (m : Machine) → C old m → S old m event new × (x ≡ NoMemory))) (sym err)
      (subst (λ (x : Event). (m : Machine) → C old m → S old m x new × (NoMemory ≡ NoMemory)) (sym is) (λ m k. (f m k, refl)))

  pub power_stops : {T : Type 0} (r : Result T CoreFault) (fault : CoreFault) (old : CoreParts D) (choice : ℕ) (event : Event) (new : CoreParts D)
      → r ≡ Err fault → event ≡ Power choice
      → ((s : Shards) → AreCarried seen old.hosts s → StandStill seen s (disks_in new.hosts)
      × LogsReach seen (disks_in new.hosts) (λ name. ends_in old.hosts name - 1) × (fault ≡ NoMemory))
      → IfErr r (λ x. (m : Machine) → C old m → S old m event new × (x ≡ NoMemory))
  power_stops {T} r fault old choice event new err is f =
      subst (λ (q : Result T CoreFault). IfErr q (λ x. (m : Machine) → C old m → S old m event new × (x ≡ NoMemory))) (sym err)
      (subst (λ (x : Event). (m : Machine) → C old m → S old m x new × (fault ≡ NoMemory)) (sym is)
      (λ m k. let v = f m.shards k.shards in (stops_power old new m choice v.0 v.1, v.2)))
