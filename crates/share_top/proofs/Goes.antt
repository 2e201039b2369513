-- A run goes on by one event, or ends.
use Rattle.std.proofs.Common.{◌≡◌, ◌⊎◌, inl, inr, refl, sym, ap, ◌∙◌, subst, arith, ℕ, List, [], ◌∷◌, ◌++◌}
use Rattle.session_script.specs.declared.event.Event.{Event}
use Rattle.session_script.specs.declared.event.Outcome.{Outcome}
use Rattle.topic_conf.specs.Configs.{ConfigParts}
use Rattle.broker_model.specs.Shards.{Shards}
use Rattle.broker_model.specs.Machine.{Machine}
use Rattle.broker_model.specs.Disks.{Disks}
use Rattle.broker_model.specs.States.{State, IsStep}
use Rattle.broker_model.specs.Runs.{Step, outcomes_of}
use Rattle.broker_hosts.specs.Hosts.{LeftDisks, LogsReach, StandStill, disks_in, ends_in, facts_in}
use Rattle.broker_core.specs.Cores.{CoreParts, IsCore, Reaches, state_of}
use Rattle.broker_core.proofs.Leading.{still_all}
use Rattle.broker_core.proofs.Reaching.{reach_all, reach_less}
use Rattle.broker_core.proofs.Events.{later as counts_later}
use Rattle.share_top.specs.Sessions.{DoesMore, Leaves, MayLeaveMore, Ran, counts_since, ends_since}
use Rattle.share_top.specs.Going.{Goes, Plays, Halts}
use Rattle.share_top.proofs.Steps.{run_then, events_then, outcomes_then}
use Rattle.edge_io.specs.Views.{DiskView}

-- ---- runs

module _ {D : Type 0} (seen : D → DiskView) where
  abbrev at : Machine → CoreParts D → State
  at m core = state_of seen m core

  abbrev Stands : CoreParts D → Machine → Type 0
  Stands core m = IsCore seen core m

  abbrev G : ConfigParts → State → List Event → (List Outcome → Type 0) → CoreParts D → Type 0
  G conf first events Tells core = Goes seen conf first events Tells core

  abbrev Still : LeftDisks D → Shards → Type 0
  Still left shards = StandStill seen shards left

  pub begins : (m : Machine) (core : CoreParts D) (Tells : List Outcome → Type 0) → Stands core m → Tells [] → G core.conf (at m core) [] Tells core
  begins m core Tells k told = record { steps = []; machine = m; core = k; run = refl; events_are = refl; tells = told }

  pub goes_on : (conf : ConfigParts) (first : State) (events : List Event) (e : Event) (T U V : List Outcome → Type 0)
      → ((xs ys : List Outcome) → T xs → U ys → V (xs ++ ys)) → (core next : CoreParts D) → core.conf ≡ conf → G conf first events T core
      → Plays seen core e U next → G conf first (events ++ e ∷ []) V next
  goes_on conf first events e T U V join core next same g one =
      let o = one.2 g.machine g.core in
      let s : Step = record { before = at g.machine core; event = e; call = o.1; outcomes = one.0; after = at o.0 next } in
      record {
        steps = g.steps ++ s ∷ [];
        machine = o.0;
        core = o.2;
        run = run_then conf first (at g.machine core) g.steps s g.run refl
            (subst (λ (c : ConfigParts). IsStep c (at g.machine core) e o.1 one.0 (at o.0 next)) same o.3);
        events_are = events_then g.steps s ∙ ap (λ (l : List Event). l ++ e ∷ []) g.events_are;
        tells = subst V (sym (outcomes_then g.steps s)) (join (outcomes_of g.steps) one.0 g.tells one.1);
      }

  pub retold : (conf : ConfigParts) (first : State) (events : List Event) (T U : List Outcome → Type 0) → ((xs : List Outcome) → T xs → U xs)
      → (core : CoreParts D) → G conf first events T core → G conf first events U core
  retold conf first events T U f core g = record {
    steps = g.steps;
    machine = g.machine;
    core = g.core;
    run = g.run;
    events_are = g.events_are;
    tells = f (outcomes_of g.steps) g.tells;
  }

  -- ---- what is left

  core_still : (core : CoreParts D) (m : Machine) → Stands core m → Still (disks_in core.hosts) m.shards
  core_still core m k = still_all seen core.hosts m.shards k.shards

  abbrev Reach : LeftDisks D → (List ℕ → ℕ) → Type 0
  Reach left ends = LogsReach seen left ends

  core_reach : (core : CoreParts D) (m : Machine) → Stands core m → Reach (disks_in core.hosts) (ends_in core.hosts)
  core_reach core m k = reach_all seen core.hosts m.shards k.shards

  pub ran : (conf : ConfigParts) (first : State) (events : List Event) (T : List Outcome → Type 0) (core : CoreParts D) → G conf first events T core
      → Ran conf first events T (Leaves conf (Still (disks_in core.hosts)) (Reach (disks_in core.hosts)) (facts_in seen (disks_in core.hosts)))
  ran conf first events T core g = record {
    steps = g.steps;
    last = at g.machine core;
    run = g.run;
    events_are = g.events_are;
    tells = g.tells;
    ends = record { known = λ name taken. refl; stands = core_still core g.machine g.core; reach = core_reach core g.machine g.core };
  }

  pub ran_or_more : (conf : ConfigParts) (Next : Event → Type 0) (first : State) (events : List Event) (T : List Outcome → Type 0) (core : CoreParts D) → G conf first events T core
      → Ran conf first events T (MayLeaveMore conf Next (Still (disks_in core.hosts)) (Reach (disks_in core.hosts)) (facts_in seen (disks_in core.hosts)))
  ran_or_more conf Next first events T core g = record {
    steps = g.steps;
    last = at g.machine core;
    run = g.run;
    events_are = g.events_are;
    tells = g.tells;
    ends = record {
      after = g.machine;
      ends = ends_in core.hosts;
      reaches = inl refl;
      later = λ name taken. omega arith;
      ends_later = λ name taken log. omega arith;
      stands = core_still core g.machine g.core;
      reach = reach_less seen (disks_in core.hosts) (ends_in core.hosts) (core_reach core g.machine g.core);
    };
  }

  -- ---- no memory was found in an event

  abbrev known : CoreParts D → Disks
  known core = facts_in seen (disks_in core.hosts)

  -- the event was done, or not begun
  reached : (conf : ConfigParts) (Next : Event → Type 0) (core next : CoreParts D) → core.conf ≡ conf → (old after : Machine) (ends : List ℕ → ℕ)
      (e : Event) → Next e
      → Reaches core.conf (counts_since (at old core) (known next)) (ends_since (at old core) ends) old e after
      → (after ≡ old) ⊎ ((event : Event) × Next event × DoesMore conf (at old core) (known next) ends event after)
  reached conf Next core next same old after ends e comes (inl still) = inl still
  reached conf Next core next same old after ends e comes (inr more) =
      inr (e, comes, subst (λ (c : ConfigParts). DoesMore c (at old core) (known next) ends e after) same more)

  pub halted : (conf : ConfigParts) (Next : Event → Type 0) (first : State) (events : List Event) (e : Event) → Next e → (T U : List Outcome → Type 0)
      → ((xs : List Outcome) → T xs → U xs) → (core next : CoreParts D) → core.conf ≡ conf → G conf first events T core
      → ((m : Machine) → Stands core m → Halts seen core m e next)
      → Ran conf first events U (MayLeaveMore conf Next (Still (disks_in next.hosts)) (Reach (disks_in next.hosts)) (facts_in seen (disks_in next.hosts)))
  halted conf Next first events e comes T U keep core next same g halts =
      let h = halts g.machine g.core in
      record {
        steps = g.steps;
        last = at g.machine core;
        run = g.run;
        events_are = g.events_are;
        tells = keep (outcomes_of g.steps) g.tells;
        ends = record {
          after = h.stops.after;
          ends = h.stops.ends;
          reaches = reached conf Next core next same g.machine h.stops.after h.stops.ends e comes h.stops.reaches;
          later = λ name taken. counts_later seen (disks_in core.hosts) (disks_in next.hosts) h.disks name;
          ends_later = λ name taken log. h.stops.ends_later name log;
          stands = h.stops.still;
          reach = h.stops.reach;
        };
      }
