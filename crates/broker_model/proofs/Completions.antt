-- A run leaves the foreign state that its completed calls make.
use Rattle.std.proofs.Common.{◌≡◌, inl, inr, ⊎_elim, ℕ, ℤ, Bool, true, false, cond, List, [], ◌∷◌, ◌++◌, Option, Some, None, if◌then◌else◌, refl, sym, ap, ◌∙◌, subst}
use Rattle.std.proofs.lemmas.Bool.{true≢false}
use Rattle.std.specs.Prelude.{is_some}
use Rattle.session_script.specs.declared.event.Event.{Event}
use Rattle.session_script.specs.declared.event.Event.TheVariants.{Open, Bytes, Close, Step as StepOf, Expire, Tick, Arm, Power}
use Rattle.share_model.specs.ForeignRules.{code_alone}
use Rattle.share_model.specs.Pending.{WithPending}
use Rattle.share_model.specs.ForeignRules.{ShareStates, Does, Initialises, WritesBatches, share_state_at, runs_of}
use Rattle.share_model.specs.declared.fault.StoreFault.{StoreFault}
use Rattle.share_model.specs.declared.fault.StoreFault.TheVariants.{Device, Full}
use Rattle.share_model.specs.ErrorCodes.{NONE}
use Rattle.share_model.specs.declared.foreign.ForeignAnswer.{ForeignAnswer}
use Rattle.share_model.specs.declared.foreign.ForeignOp.{ForeignOp}
use Rattle.share_model.specs.declared.foreign.ForeignOp.TheVariants.{Init, Read, Write, Delete}
use Rattle.share_model.specs.declared.run.Run.{Run}
use Rattle.share_model.specs.Keys.{KeyParts, key_cmp}
use Rattle.foreign_coord.specs.Shards.{ForeignShardState, IsDone, StepsForeign, is_granted, writes}
use Rattle.topic_conf.specs.Configs.{ConfigParts}
use Rattle.broker_model.specs.Hosted.{Hosted, state_a, foreign_store}
use Rattle.broker_model.specs.Shards.{Counts, MembersCall, PartCall, Shards, ShardCall, StepsShards, Ends as JournalEnds, rose_on}
use Rattle.broker_model.specs.Shards.ShardCall.{CallForeign, CallPart, CallMembers}
use Rattle.broker_model.specs.Machine.{Lands}
use Rattle.broker_model.specs.Steps.{IsRestart, StepsTo}
use Rattle.broker_model.specs.States.{State, IsStep, counts_of, ends_of}
use Rattle.broker_model.specs.Runs.{Step, IsRun}
use Rattle.broker_model.specs.Laws.{NoPower}
use Rattle.broker_model.specs.History.{Call, AreDone}
use Rattle.broker_model.specs.Completed.{foreign_of, CompletesCall, MayLand, Completes, AreCompleted, IsPending, EndsAsCompleted}
use Rattle.broker_model.proofs.Acts.{Acts, step_acts, power_or_not}
use Rattle.broker_model.proofs.Maps.{removed_none}
use Rattle.broker_model.proofs.Histories.{keys_total, keys_exact}

-- ---- a call that doesn't write changes nothing

denied : (answer : ForeignAnswer) → answer ≡ code_alone NONE → is_granted answer ≡ false → ⊥
denied answer told not = true≢false (sym (ap is_granted told) ∙ not)

absent : {A : Type 0} (o : Option A) → is_some o ≡ false → o ≡ None
absent None e = refl
absent (Some x) e = absurd (true≢false e)

module _ (old new : ShareStates) (answer : ForeignAnswer) where
  write_stays : (key : KeyParts) (state_epoch leader_epoch start : ℤ) (runs : Option (List Run)) → is_granted answer ≡ false
      → WritesBatches old key state_epoch leader_epoch start runs answer new → new ≡ old
  write_stays key state_epoch leader_epoch start None not p = p.1
  write_stays key state_epoch leader_epoch start (Some runs) not (inl p) = p.2
  write_stays key state_epoch leader_epoch start (Some runs) not (inr (passed, inl p)) = p.2
  write_stays key state_epoch leader_epoch start (Some runs) not (inr (passed, inr p)) = absurd (denied answer p.0 not)

  init_stays : (key : KeyParts) (state_epoch start : ℤ) → is_granted answer ≡ false → Initialises old key state_epoch start answer new → new ≡ old
  init_stays key state_epoch start not (told, inl kept) = kept.1
  init_stays key state_epoch start not (told, inr made) = absurd (denied answer (told ∙ ap code_alone made.0) not)

  unwritten : (op : ForeignOp) → writes old op answer ≡ false → Does old op answer new → new ≡ old
  unwritten (Init key state_epoch start) not p = init_stays key state_epoch start not p
  unwritten (Read key leader_epoch) not p = p.1
  unwritten (Write key state_epoch leader_epoch start batches) not p = write_stays key state_epoch leader_epoch start (runs_of batches) not p
  unwritten (Delete key) not p = p.1 ∙ removed_none key_cmp keys_total keys_exact key old (absent (share_state_at old key) not)

-- ---- a step of the shard

abbrev IsTied : Option ForeignOp → ForeignShardState → Type 0
IsTied unfinished shard = IsPending unfinished shard.states shard.pending

-- what is pending stays so while the states and the pending write do
tied_same : (unfinished : Option ForeignOp) (old new : ForeignShardState) → new.states ≡ old.states → new.pending ≡ old.pending
    → IsTied unfinished old → IsTied unfinished new
tied_same unfinished old new states pending tied =
    subst (λ (p : Option ShareStates). IsPending unfinished new.states p) (sym pending)
    (subst (λ (s : ShareStates). IsPending unfinished s old.pending) (sym states) tied)

-- the calls that a step completes, and what is unfinished behind it
record IsCompleted (By : List Call → Option ForeignOp → Type 0) (old new : ForeignShardState) : Type 0 where
  calls : List Call
  unfinished : Option ForeignOp
  by : By calls unfinished
  done : AreDone old.states calls new.states
  tied : IsTied unfinished new

module _ (unfinished : Option ForeignOp) (old new : ForeignShardState) (tied : IsTied unfinished old) where
  done_completes : (op : ForeignOp) (answer : ForeignAnswer) → IsDone op answer old new
      → IsCompleted (CompletesCall old.states unfinished (Some (CallForeign op answer None))) old new
  done_completes op answer p = record {
    calls = record { op = op; answer = answer } ∷ [];
    unfinished = if writes old.states op answer then None else unfinished;
    by = (refl, refl);
    done = (new.states, p.does, refl);
    tied = go (writes old.states op answer) refl p.pending;
  } where
    go : (b : Bool) → writes old.states op answer ≡ b → new.pending ≡ cond b None old.pending → IsTied (cond b None unfinished) new
    go true is pending = pending
    go false is pending = tied_same unfinished old new (unwritten old.states new.states answer op is p.does) pending tied

  did_completes : (rose : Type 0) (end : ℕ) (op : ForeignOp) (answer : ForeignAnswer) (fault : Option StoreFault)
      → StepsForeign rose end old op answer fault new → IsCompleted (CompletesCall old.states unfinished (Some (CallForeign op answer fault))) old new
  did_completes rose end op answer None p = done_completes op answer p
  did_completes rose end op answer (Some Device) p = ⊎_elim
      (λ stays. record {
        calls = [];
        unfinished = unfinished;
        by = (refl, inl refl);
        done = p.2.same;
        tied = tied_same unfinished old new p.2.same stays tied;
      })
      (λ other. ⊎_elim (λ none. record {
        calls = [];
        unfinished = None;
        by = (refl, inr (inr refl));
        done = p.2.same;
        tied = none;
      })
      (λ own. record {
        calls = [];
        unfinished = Some op;
        by = (refl, inr (inl refl));
        done = p.2.same;
        tied = subst (λ (s : ShareStates). IsPending (Some op) s new.pending) (sym p.2.same) own;
      }) other)
      p.2.pending
  did_completes rose end op answer (Some (Full at)) p = record {
    calls = [];
    unfinished = unfinished;
    by = (refl, refl);
    done = ap (λ (s : ForeignShardState). s.states) p.2;
    tied = subst (IsTied unfinished) (sym p.2) tied;
  }

  part_completes : (shard : ℕ) (hosted : Hosted) (did : PartCall) → new ≡ old
      → IsCompleted (CompletesCall old.states unfinished (Some (CallPart shard hosted did))) old new
  part_completes shard hosted did is = record {
    calls = [];
    unfinished = unfinished;
    by = (refl, refl);
    done = ap (λ (s : ForeignShardState). s.states) is;
    tied = subst (IsTied unfinished) (sym is) tied;
  }

  members_complete : (did : MembersCall) → new ≡ old → IsCompleted (CompletesCall old.states unfinished (Some (CallMembers did))) old new
  members_complete did is = record {
    calls = [];
    unfinished = unfinished;
    by = (refl, refl);
    done = ap (λ (s : ForeignShardState). s.states) is;
    tied = subst (IsTied unfinished) (sym is) tied;
  }

  same_completes : new ≡ old → IsCompleted (CompletesCall old.states unfinished None) old new
  same_completes is = record {
    calls = [];
    unfinished = unfinished;
    by = (refl, refl);
    done = ap (λ (s : ForeignShardState). s.states) is;
    tied = subst (IsTied unfinished) (sym is) tied;
  }

-- a power loss
loss_completes : (unfinished : Option ForeignOp) (old new : ForeignShardState) → IsTied unfinished old → Lands old new
    → IsCompleted (λ calls behind. MayLand unfinished calls × (behind ≡ None)) old new
loss_completes None old new tied lands = record {
  calls = [];
  unfinished = None;
  by = (refl, refl);
  done = subst (λ (p : Option ShareStates). WithPending (λ (s : ShareStates). new.states ≡ s) old.states p) tied lands.states;
  tied = lands.nothing;
}
loss_completes (Some op) old new tied lands = ⊎_elim
    (λ stays. record { calls = []; unfinished = None; by = (inl refl, refl); done = stays; tied = lands.nothing })
    (λ landed. record {
      calls = record { op = op; answer = code_alone NONE } ∷ [];
      unfinished = None;
      by = (inr refl, refl);
      done = (new.states, subst (λ (s : ShareStates). Does old.states op (code_alone NONE) s) (sym landed) tied.1.0, refl);
      tied = lands.nothing;
    })
    (subst (λ (p : Option ShareStates). WithPending (λ (s : ShareStates). new.states ≡ s) old.states p) tied.2 lands.states)

-- ---- a step of the broker

abbrev Stepped : Option ForeignOp → Event → Option ShardCall → ForeignShardState → ForeignShardState → Type 0
Stepped unfinished event call old new = IsCompleted (Completes old.states unfinished event call) old new

called_steps : (unfinished : Option ForeignOp) (event : Event) (call : Option ShardCall) (old new : ForeignShardState) → NoPower event
    → IsCompleted (CompletesCall old.states unfinished call) old new → Stepped unfinished event call old new
called_steps unfinished (Open conn) call old new free c = c
called_steps unfinished (Bytes conn bytes) call old new free c = c
called_steps unfinished (Close conn) call old new free c = c
called_steps unfinished (StepOf conn now) call old new free c = c
called_steps unfinished (Expire topic part now) call old new free c = c
called_steps unfinished (Tick now) call old new free c = c
called_steps unfinished (Arm disk after mode) call old new free c = c
called_steps unfinished (Power choice) call old new free c = absurd free

module _ (counts : Counts) (ends : JournalEnds) (unfinished : Option ForeignOp) (old new : Shards) (tied : IsTied unfinished old.foreign) where
  shard_completes : (now : ℕ) (did : ShardCall) → StepsShards counts ends now old did new
      → IsCompleted (CompletesCall old.foreign.states unfinished (Some did)) old.foreign new.foreign
  shard_completes now (CallForeign op answer fault) p =
      did_completes unfinished old.foreign new.foreign tied (rose_on counts foreign_store) (ends state_a).0 op answer fault p.0
  shard_completes now (CallPart shard hosted did) p = part_completes unfinished old.foreign new.foreign tied shard hosted did p.2
  shard_completes now (CallMembers did) p = members_complete unfinished old.foreign new.foreign tied did p.2

  acts_complete : (call : Option ShardCall) → Acts counts ends old new call
      → IsCompleted (CompletesCall old.foreign.states unfinished call) old.foreign new.foreign
  acts_complete call (inl quiet) =
      subst (λ (c : Option ShardCall). IsCompleted (CompletesCall old.foreign.states unfinished c) old.foreign new.foreign) (sym quiet.none)
      (same_completes unfinished old.foreign new.foreign tied (ap (λ (s : Shards). s.foreign) quiet.same))
  acts_complete call (inr d) =
      subst (λ (c : Option ShardCall). IsCompleted (CompletesCall old.foreign.states unfinished c) old.foreign new.foreign) (sym d.is)
      (shard_completes d.now d.did d.step)

module _ (conf : ConfigParts) where
  step_completes : (unfinished : Option ForeignOp) (s : Step) → IsStep conf s.before s.event s.call s.outcomes s.after
      → IsTied unfinished (foreign_of s.before) → Stepped unfinished s.event s.call (foreign_of s.before) (foreign_of s.after)
  step_completes unfinished s step tied = ⊎_elim
      (λ free. called_steps unfinished s.event s.call (foreign_of s.before) (foreign_of s.after) free
      (acts_complete (counts_of s.before s.after) (ends_of s.before s.after) unfinished s.before.machine.shards s.after.machine.shards tied s.call
      (step_acts (counts_of s.before s.after) (ends_of s.before s.after) conf s.before.machine s.after.machine s.call s.outcomes s.event free step.machine)))
      (λ p.
      let restart : IsRestart s.before.machine s.call s.outcomes s.after.machine =
      subst (λ (e : Event). StepsTo conf (counts_of s.before s.after) (ends_of s.before s.after) s.before.machine e s.call s.outcomes s.after.machine) p.1 step.machine in
      subst (λ (e : Event). Stepped unfinished e s.call (foreign_of s.before) (foreign_of s.after)) (sym p.1)
      (loss_completes unfinished (foreign_of s.before) (foreign_of s.after) tied restart.lands.foreign))
      (power_or_not s.event)

  -- ---- a run

  done_then : (calls more : List Call) (first mid last : ShareStates) → AreDone first calls mid → AreDone mid more last → AreDone first (calls ++ more) last
  done_then [] more first mid last is done = subst (λ (s : ShareStates). AreDone s more last) is done
  done_then (call ∷ calls) more first mid last p done = (p.0, p.1, done_then calls more p.0 mid last p.2 done)

  record Ends (begun : Option ForeignOp) (first : State) (steps : List Step) (last : State) : Type 0 where
    calls : List Call
    unfinished : Option ForeignOp
    are : AreCompleted begun steps calls unfinished
    done : AreDone (foreign_of first).states calls (foreign_of last).states
    tied : IsTied unfinished (foreign_of last)

  ends : (begun : Option ForeignOp) (first last : State) (steps : List Step) → IsRun conf first steps last → IsTied begun (foreign_of first)
      → Ends begun first steps last
  ends begun first last [] run tied = record {
    calls = [];
    unfinished = begun;
    are = (refl, refl);
    done = ap (λ (s : State). (foreign_of s).states) run;
    tied = subst (λ (s : State). IsTied begun (foreign_of s)) (sym run) tied;
  }
  ends begun first last (s ∷ steps) run tied =
      let c = step_completes begun s run.1 (subst (λ (x : State). IsTied begun (foreign_of x)) (sym run.0) tied) in
      let more = ends c.unfinished s.after last steps run.2 c.tied in
      record {
        calls = c.calls ++ more.calls;
        unfinished = more.unfinished;
        are = (c.unfinished, c.calls, more.calls, c.by, more.are, refl);
        done = subst (λ (x : State). AreDone (foreign_of x).states (c.calls ++ more.calls) (foreign_of last).states) run.0
            (done_then c.calls more.calls (foreign_of s.before).states (foreign_of s.after).states (foreign_of last).states c.done more.done);
        tied = more.tied;
      }

  pub completed : (first last : State) (steps : List Step) → IsRun conf first steps last → (foreign_of first).pending ≡ None
      → EndsAsCompleted first steps last
  completed first last steps run none =
      let e = ends None first last steps run none in
      record { calls = e.calls; unfinished = e.unfinished; are = e.are; done = e.done; pending = e.tied }
