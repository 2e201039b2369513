-- No more writes and readings fail on a disk in a step than its count rises by.
use Rattle.std.proofs.Common.{◌≡◌, ◌≤◌, ◌+◌, inl, inr, ⊎_elim, refl, sym, subst, arith, ℕ, ℤ, List, [], ◌∷◌, Bool, true, false, cond, Option, Some, None, if◌then◌else◌}
use Rattle.edge_io.specs.Causes.{Rose}
use Rattle.session_script.specs.declared.event.Event.{Event}
use Rattle.session_script.specs.declared.event.Outcome.{Outcome}
use Rattle.share_model.specs.ForeignRules.{share_state_at}
use Rattle.share_model.specs.ShareStates.{ShareState}
use Rattle.share_model.specs.declared.delete.DeleteAnswer.{DeleteAnswer}
use Rattle.share_model.specs.declared.delete.DeleteAnswer.TheVariants.{Done as Deleted, OutOfRange, Store as delete_store}
use Rattle.share_model.specs.declared.fault.StoreFault.{StoreFault}
use Rattle.share_model.specs.declared.fault.StoreFault.TheVariants.{Device, Full}
use Rattle.share_model.specs.declared.foreign.ForeignOp.{ForeignOp}
use Rattle.share_model.specs.declared.foreign.ForeignAnswer.{ForeignAnswer}
use Rattle.share_model.specs.declared.visit.AckOutcome.{AckOutcome}
use Rattle.share_model.specs.declared.visit.AckOutcome.TheVariants.{Done as acknowledged, Malformed, NotHeld, Store as ack_store}
use Rattle.share_model.specs.declared.visit.ExpireAnswer.{ExpireAnswer}
use Rattle.share_model.specs.declared.visit.Then.{Then}
use Rattle.share_model.specs.declared.visit.Then.TheVariants.{Nothing, Release, Fetch}
use Rattle.share_model.specs.declared.visit.ThenOutcome.{ThenOutcome}
use Rattle.share_model.specs.declared.visit.ThenOutcome.TheVariants.{Done as followed, Store as then_store}
use Rattle.share_model.specs.declared.visit.Visit.{Visit}
use Rattle.share_model.specs.declared.visit.VisitAnswer.{VisitAnswer}
use Rattle.topic_conf.specs.Configs.{ConfigParts}
use Rattle.foreign_coord.specs.Shards.{ForeignShardState, StepsForeign}
use Rattle.part_log.specs.Shards.{LogShardState, StepsLog}
use Rattle.share_part.specs.Acknowledging.{Acknowledges, StoresActs}
use Rattle.share_part.specs.Deleting.{Deletes as DeletesPart}
use Rattle.share_part.specs.Expiring.{StepsGroups}
use Rattle.share_part.specs.Following.{Does, Fetches, Follows, MakesTable, Reading, fault_of, releases_of}
use Rattle.share_part.specs.Hosting.{PartConfParts, key_of}
use Rattle.share_part.specs.Settling.{Acts as ShareActs}
use Rattle.share_part.specs.Shards.{PartShardState, base_in}
use Rattle.share_part.specs.Visits.{StepsVisit}
use Rattle.share_part.specs.declared.limits.Limits.{Limits}
use Rattle.call_fold.specs.declared.part.Produced.{Produced}
use Rattle.call_fold.specs.declared.part.Produced.TheVariants.{Base, Batch, Store}
use Rattle.broker_model.specs.Hosted.{Hosted, log_of, state_a, StoreDisks, log_store, state_store, foreign_store, same_store}
use Rattle.broker_model.specs.Shards.{Counts, PartCall, Shards, ShardCall, StepsHosted, StepsPart, StepsShards, faults_met, failures_in, log_faults_met, result_of, state_faults_met, store_fault_of_ack, store_fault_of_delete, store_fault_of_expiry, store_fault_of_log, store_fault_of_then, Ends, faults_before, faults_behind}
use Rattle.broker_model.specs.Shards.ShardCall.{CallForeign, CallPart, CallMembers}
use Rattle.broker_model.specs.Shards.PartCall.{Visits, Produces, Looks, Expires, Deletes}
use Rattle.broker_model.specs.Machine.{Machine}
use Rattle.broker_model.specs.Steps.{IsRestart, StepsTo}
use Rattle.broker_model.specs.Disks.{Covers}
use Rattle.broker_model.proofs.Lists.{change_of}
use Rattle.broker_model.proofs.Acts.{Acts, step_acts, power_or_not}
use Rattle.broker_model.proofs.Stores.{one_store}

pub covers_none : (a b : ℕ) → a ≤ b → Covers a b 0
covers_none a b le = omega (arith, le)

pub covers_both : (a b c n m : ℕ) → Covers a b n → Covers b c m → Covers a c (n + m)
covers_both a b c n m p q = omega (arith, p, q)

covers_late : (a b c n : ℕ) → a ≤ b → Covers b c n → Covers a c n
covers_late a b c n le p = omega (arith, le, p)

covers_one : (a b : ℕ) → Rose a b → Covers a b 1
covers_one a b rose = omega (arith, rose)

module _ (a b : ℕ) (le : a ≤ b) where
  foreign_met : (end : ℕ) (old new : ForeignShardState) (op : ForeignOp) (answer : ForeignAnswer) (fault : Option StoreFault)
      → StepsForeign (Rose a b) end old op answer fault new → Covers a b (faults_met fault)
  foreign_met end old new op answer None step = covers_none a b le
  foreign_met end old new op answer (Some Device) step = covers_one a b step.1
  foreign_met end old new op answer (Some (Full at)) step = covers_none a b le

  log_met : (end : ℕ) (old new : LogShardState) (batch : List ℕ) (produced : Produced)
      → StepsLog (Rose a b) end old batch (base_in (result_of produced)) new → Covers a b (faults_met (store_fault_of_log produced))
  log_met end old new batch (Base base) step = covers_none a b le
  log_met end old new batch (Batch fault) step = covers_none a b le
  log_met end old new batch (Store Device) step = covers_one a b step.0
  log_met end old new batch (Store (Full at)) step = covers_none a b le

  delete_met : (end : ℕ) (old new : PartShardState) (to : ℤ) (answer : DeleteAnswer) → DeletesPart (Rose a b) end old to answer new
      → Covers a b (faults_met (store_fault_of_delete answer))
  delete_met end old new to (Deleted start) does = covers_none a b le
  delete_met end old new to (OutOfRange at) does = covers_none a b le
  delete_met end old new to (delete_store Device) does = covers_one a b does.2.0
  delete_met end old new to (delete_store (Full at)) does = covers_none a b le

  module _ (conf : PartConfParts) (end : ℕ) (old new : PartShardState) where
    acts_met : (group : List ℕ) (acts : ShareActs) (fault : Option StoreFault) → StoresActs conf (Rose a b) end old group acts new fault → Covers a b (faults_met fault)
    acts_met group acts None stores = covers_none a b le
    acts_met group acts (Some Device) stores = covers_one a b stores.1
    acts_met group acts (Some (Full at)) stores = covers_none a b le

    acks_met : (visit : Visit) (ack : AckOutcome) → Acknowledges conf (Rose a b) end old visit new ack → Covers a b (faults_met (store_fault_of_ack ack))
    acks_met visit acknowledged p = covers_none a b le
    acks_met visit (Malformed fault) p = covers_none a b le
    acks_met visit (NotHeld offset) p = covers_none a b le
    acks_met visit (ack_store Device) p = covers_one a b p.1.1
    acks_met visit (ack_store (Full at)) p = covers_none a b le

    abbrev Met : ThenOutcome → Type 0
    Met o = Covers a b (faults_met (store_fault_of_then o))

    told_met : (answer o : ThenOutcome) → answer ≡ o → Met o → Met answer
    told_met answer o is met = subst Met (sym is) met

    release_met : (group : List ℕ) (acts : ShareActs) (o : ThenOutcome) → StoresActs conf (Rose a b) end old group acts new (fault_of o) → Met o
    release_met group acts followed stores = covers_none a b le
    release_met group acts (then_store Device) stores = covers_one a b stores.1
    release_met group acts (then_store (Full at)) stores = covers_none a b le

    made_met : (told : Bool) (visit : Visit) (limits : Limits) (answer : VisitAnswer) (o : ThenOutcome) → MakesTable conf told (Rose a b) end old visit limits answer new o → Met o
    made_met told visit limits answer followed p = covers_none a b le
    made_met told visit limits answer (then_store Device) p = covers_one a b p.0
    made_met told visit limits answer (then_store (Full at)) p = covers_none a b le

    fetch_met : (told : Bool) (visit : Visit) (limits : Limits) (answer : VisitAnswer) (o : Option ShareState) → Fetches conf told (Rose a b) end old visit limits answer new o → Met answer.then
    fetch_met told visit limits answer None p = made_met told visit limits answer answer.then p
    fetch_met told visit limits answer (Some state) p = told_met answer.then followed p.acquires.outcome_is (covers_none a b le)

    then_met : (told : Bool) (visit : Visit) (answer : VisitAnswer) (t : Then) → Does conf told (Rose a b) end old visit answer new t → Met answer.then
    then_met told visit answer Nothing p = told_met answer.then followed p.0.outcome_is (covers_none a b le)
    then_met told visit answer Release p = release_met visit.group (releases_of visit.member (old.held visit.group)) answer.then p.1
    then_met told visit answer (Fetch records bytes first) p =
        fetch_met told visit (record { records = records; bytes = bytes; first = first }) answer (share_state_at old.states (key_of conf visit.group)) p

    -- on the first state disk, where a batch could be read
    follows_met : (told : Bool) (unread : Type 0) (visit : Visit) (answer : VisitAnswer) (failed : Bool)
        → Follows conf told unread (Rose a b) end old visit answer new failed
        → Covers a b (if failed then 0 else faults_met (store_fault_of_then answer.then))
    follows_met told unread visit answer true p = covers_none a b le
    follows_met told unread visit answer false p = then_met told visit answer visit.then p

    -- and else on the log's disk
    unread_met : (told : Bool) (rose : Type 0) (visit : Visit) (answer : VisitAnswer) (failed : Bool)
        → Follows conf told (Rose a b) rose end old visit answer new failed
        → Covers a b (if failed then faults_met (store_fault_of_then answer.then) else 0)
    unread_met told rose visit answer true p = told_met answer.then (then_store Device) p.empty.outcome_is (covers_one a b p.risen)
    unread_met told rose visit answer false p = covers_none a b le

visit_met : (conf : PartConfParts) (reading : Reading) (a b end last : ℕ) (old new : PartShardState) (now : ℕ) (visit : Visit) (answer : VisitAnswer)
    → StepsVisit conf reading a b end last old now visit answer new
    → Covers a b (faults_met (store_fault_of_ack answer.ack) + (if reading.failed then 0 else faults_met (store_fault_of_then answer.then)))
visit_met conf reading a b end last old new now visit answer p =
    covers_both a p.counted b (faults_met (store_fault_of_ack answer.ack))
    (if reading.failed then 0 else faults_met (store_fault_of_then answer.then))
    (acks_met a p.counted p.counts.0 conf end old p.between visit answer.ack p.acks.does)
    (follows_met p.counted b p.counts.1 conf p.at p.between new reading.told reading.rose visit answer reading.failed p.does)

groups_met : (conf : PartConfParts) (a b end last : ℕ) (groups : List (List ℕ)) (freed : ℕ) (old : PartShardState) (answer : ExpireAnswer) (new : PartShardState)
    → StepsGroups conf a b end last groups freed old answer new → Covers a b (faults_met (store_fault_of_expiry answer))
groups_met conf a b end last [] freed old answer new p =
    subst (λ (x : ExpireAnswer). Covers a b (faults_met (store_fault_of_expiry x))) (sym p.0) (covers_none a b p.2)
groups_met conf a b end last (group ∷ groups) freed old answer new (inl p) =
    covers_late a p.1 b (faults_met (store_fault_of_expiry answer)) p.3.counts (groups_met conf p.1 b p.2 last groups _ p.0 answer new p.5)
groups_met conf a b end last (group ∷ groups) freed old answer new (inr p) =
    subst (λ (x : ExpireAnswer). Covers a b (faults_met (store_fault_of_expiry x))) (sym p.1)
    (acts_met a b p.2.counts conf end old new group _ (Some p.0) p.2.stores)

module _ (counts : Counts) (ends : Ends) where
  abbrev CoversAt : StoreDisks → ℕ → Type 0
  CoversAt store n = Covers (faults_before counts store) (faults_behind counts store) n

  abbrev Later : StoreDisks → Type 0
  Later store = faults_before counts store ≤ faults_behind counts store

  module _ (store : StoreDisks) (later : Later store) where
    none_met : CoversAt store 0
    none_met = covers_none (faults_before counts store) (faults_behind counts store) later

    -- those of a store, where this is that store
    met_at : (other : StoreDisks) (n : ℕ) → (Later other → CoversAt other n) → CoversAt store (cond (same_store store other) n 0)
    met_at other n met = go (same_store store other) refl where
      go : (b : Bool) → same_store store other ≡ b → CoversAt store (cond b n 0)
      go true is =
          let one : store ≡ other = one_store store other is in
          subst (λ (d : StoreDisks). CoversAt d n) (sym one) (met (subst Later one later))
      go false is = none_met

    -- those of one store and of another, where this is one of the two
    met_on : (first log : StoreDisks) (n m : ℕ) → (Later first → CoversAt first n) → (Later log → CoversAt log m)
        → CoversAt store (cond (same_store store first) n (cond (same_store store log) m 0))
    met_on first log n m met also = go (same_store store first) refl where
      go : (b : Bool) → same_store store first ≡ b → CoversAt store (cond b n (cond (same_store store log) m 0))
      go true is =
          let one : store ≡ first = one_store store first is in
          subst (λ (d : StoreDisks). CoversAt d n) (sym one) (met (subst Later one later))
      go false is = met_at log m also

    part_met : (now : ℕ) (h : Hosted) (old new : PartShardState) (shard : ℕ) (did : PartCall) → StepsPart true counts ends now h old did new
        → CoversAt store (failures_in store (Some (CallPart shard h did)))
    part_met now h old new shard (Visits visit answer unread) step =
        met_on (state_store h) (log_store h) (state_faults_met (Visits visit answer unread)) (log_faults_met (Visits visit answer unread))
        (λ le. visit_met h.conf _ _ _ _ _ old new now visit answer step)
        (λ le. unread_met (counts (log_of h)).0 (counts (log_of h)).1 le h.conf step.at step.between new true _ visit answer unread step.does)
    part_met now h old new shard (Produces batch produced) step =
        met_on (state_store h) (log_store h) 0 (log_faults_met (Produces batch produced))
        (λ le. covers_none (faults_before counts (state_store h)) (faults_behind counts (state_store h)) le)
        (λ le. log_met (counts (log_of h)).0 (counts (log_of h)).1 le (ends (log_of h)).0 old.log new.log batch produced step.log)
    part_met now h old new shard (Looks group looked) step =
        met_on (state_store h) (log_store h) 0 0
        (λ le. covers_none (faults_before counts (state_store h)) (faults_behind counts (state_store h)) le)
        (λ le. covers_none (counts (log_of h)).0 (counts (log_of h)).1 le)
    part_met now h old new shard (Expires answer) step =
        met_on (state_store h) (log_store h) (state_faults_met (Expires answer)) 0
        (λ le. groups_met h.conf _ _ _ _ _ 0 _ answer new step.groups)
        (λ le. covers_none (counts (log_of h)).0 (counts (log_of h)).1 le)
    part_met now h old new shard (Deletes to answer) step =
        met_on (state_store h) (log_store h) 0 (log_faults_met (Deletes to answer))
        (λ le. covers_none (faults_before counts (state_store h)) (faults_behind counts (state_store h)) le)
        (λ le. delete_met (counts (log_of h)).0 (counts (log_of h)).1 le (ends (log_of h)).0 old new to answer step.does)

    did_counts : (now : ℕ) (old new : Shards) (did : ShardCall) → StepsShards counts ends now old did new → CoversAt store (failures_in store (Some did))
    did_counts now old new (CallForeign op answer fault) step =
        met_at foreign_store (faults_met fault)
        (λ le. foreign_met (faults_before counts foreign_store) (faults_behind counts foreign_store) le (ends state_a).0 old.foreign new.foreign op answer fault step.0)
    did_counts now old new (CallPart shard hosted did) step =
        change_of shard (StepsHosted counts ends now hosted did)
        (λ e f s. part_met now hosted e.shard f.shard shard did s.step) old.parts new.parts step.0
    did_counts now old new (CallMembers did) step = none_met

    counted : (old new : Shards) (call : Option ShardCall) → Acts counts ends old new call → CoversAt store (failures_in store call)
    counted old new call (inl quiet) =
        subst (λ (c : Option ShardCall). CoversAt store (failures_in store c)) (sym quiet.none) none_met
    counted old new call (inr d) =
        subst (λ (c : Option ShardCall). CoversAt store (failures_in store c)) (sym d.is) (did_counts d.now old new d.did d.step)

    pub step_counts : (conf : ConfigParts) (old : Machine) (event : Event) (call : Option ShardCall) (outcomes : List Outcome) (new : Machine)
        → StepsTo conf counts ends old event call outcomes new → CoversAt store (failures_in store call)
    step_counts conf old event call outcomes new does = ⊎_elim
        (λ free. counted old.shards new.shards call (step_acts counts ends conf old new call outcomes event free does))
        (λ p.
        let restart : IsRestart old call outcomes new = subst (λ (e : Event). StepsTo conf counts ends old e call outcomes new) p.1 does in
        subst (λ (c : Option ShardCall). CoversAt store (failures_in store c)) (sym restart.none) none_met)
        (power_or_not event)
