-- A step in which no write and no reading fails on a device is one at counts of faults that stand.
use Rattle.std.proofs.Common.{◌≡◌, ◌+◌, ◌∙◌, ℕ, ℤ, Bool, true, false, List, [], ◌∷◌, cond, Option, Some, None, inl, inr, refl, sym, ap, arith}
use Rattle.edge_io.specs.Causes.{Rose}
use Rattle.share_model.specs.ShareStates.{ShareState}
use Rattle.share_model.specs.declared.delete.DeleteAnswer.{DeleteAnswer}
use Rattle.share_model.specs.declared.delete.DeleteAnswer.TheVariants.{Done as Deleted, OutOfRange, Store as delete_store}
use Rattle.share_model.specs.declared.fault.StoreFault.{StoreFault}
use Rattle.share_model.specs.declared.fault.StoreFault.TheVariants.{Device, Full}
use Rattle.share_model.specs.declared.foreign.ForeignAnswer.{ForeignAnswer}
use Rattle.share_model.specs.declared.foreign.ForeignOp.{ForeignOp}
use Rattle.share_model.specs.declared.visit.AckOutcome.{AckOutcome}
use Rattle.share_model.specs.declared.visit.AckOutcome.TheVariants.{Done as acknowledged, Malformed, NotHeld, Store as ack_store}
use Rattle.share_model.specs.declared.visit.ExpireAnswer.{ExpireAnswer}
use Rattle.share_model.specs.declared.visit.Then.{Then}
use Rattle.share_model.specs.declared.visit.Then.TheVariants.{Nothing, Release, Fetch}
use Rattle.share_model.specs.declared.visit.ThenOutcome.{ThenOutcome}
use Rattle.share_model.specs.declared.visit.ThenOutcome.TheVariants.{Done as followed, Store as then_store}
use Rattle.share_model.specs.declared.visit.Visit.{Visit}
use Rattle.share_model.specs.declared.visit.VisitAnswer.{VisitAnswer}
use Rattle.call_fold.specs.declared.part.Produced.{Produced}
use Rattle.call_fold.specs.declared.part.Produced.TheVariants.{Base, Batch, Store}
use Rattle.foreign_coord.specs.Shards.{ForeignShardState, StepsForeign}
use Rattle.part_log.specs.Shards.{LogShardState, StepsLog}
use Rattle.share_part.specs.declared.limits.Limits.{Limits}
use Rattle.share_part.specs.Acknowledging.{Acknowledges, StoresActs}
use Rattle.share_part.specs.Deleting.{Deletes as DeletesSo}
use Rattle.share_part.specs.Expiring.{StepsGroup, StepsGroups, due_count, ending, more_freed}
use Rattle.share_part.specs.Following.{Does as Follow, Fetches, Follows, MakesTable, fault_of, releases_of}
use Rattle.share_part.specs.Hosting.{PartConfParts}
use Rattle.share_part.specs.Named.{named_from}
use Rattle.share_part.specs.Settling.{Acts}
use Rattle.share_part.specs.Shards.{PartShardState, base_in}
use Rattle.broker_model.specs.Hosted.{Hosted, log_of, foreign_store, state_a, state_store}
use Rattle.broker_model.specs.Shards.{Counts, Ends, HostedPart, PartCall, ShardCall, Shards, StepsHosted, StepsPart, StepsShards, faults_before, faults_behind, faults_met, log_faults_met, result_of, rose_at, rose_on, state_faults_met, store_fault_of_ack, store_fault_of_delete, store_fault_of_expiry, store_fault_of_log, store_fault_of_then}
use Rattle.broker_model.specs.Shards.ShardCall.{CallForeign, CallPart, CallMembers}
use Rattle.broker_model.specs.Shards.PartCall.{Visits, Produces, Looks, Expires, Deletes}
use Rattle.broker_model.proofs.Lists.{changes_so}
use Rattle.tape_run.specs.Recordings.{failures, standing}

one_is_none : {X : Type 0} → ◌≡◌ {A = ℕ} 1 0 → X
one_is_none e = absurd (omega (arith, e))

-- ---- what is stored, and what a fetch makes

module _ (conf : PartConfParts) (rose other : Type 0) (end : ℕ) (old : PartShardState) where
  acts_steady : (group : List ℕ) (acts : Acts) (new : PartShardState) (fault : Option StoreFault) → faults_met fault ≡ 0
      → StoresActs conf rose end old group acts new fault → StoresActs conf other end old group acts new fault
  acts_steady group acts new None none s = s
  acts_steady group acts new (Some Device) none s = one_is_none none
  acts_steady group acts new (Some (Full at)) none s = s

  acks_steady : (visit : Visit) (new : PartShardState) (ack : AckOutcome) → faults_met (store_fault_of_ack ack) ≡ 0
      → Acknowledges conf rose end old visit new ack → Acknowledges conf other end old visit new ack
  acks_steady visit new acknowledged none s = s
  acks_steady visit new (Malformed fault) none s = s
  acks_steady visit new (NotHeld offset) none s = s
  acks_steady visit new (ack_store fault) none s = (s.0, acts_steady visit.group (named_from old.log.start visit.acks) new (Some fault) none s.1)

  makes_steady : (told : Bool) (visit : Visit) (limits : Limits) (answer : VisitAnswer) (new : PartShardState) (outcome : ThenOutcome)
      → faults_met (store_fault_of_then outcome) ≡ 0 → MakesTable conf told rose end old visit limits answer new outcome
      → MakesTable conf told other end old visit limits answer new outcome
  makes_steady told visit limits answer new followed none s = s
  makes_steady told visit limits answer new (then_store Device) none s = one_is_none none
  makes_steady told visit limits answer new (then_store (Full at)) none s = s

  fetches_steady : (told : Bool) (visit : Visit) (limits : Limits) (answer : VisitAnswer) (new : PartShardState) (o : Option ShareState)
      → faults_met (store_fault_of_then answer.then) ≡ 0 → Fetches conf told rose end old visit limits answer new o
      → Fetches conf told other end old visit limits answer new o
  fetches_steady told visit limits answer new (Some state) none s = s
  fetches_steady told visit limits answer new None none s = makes_steady told visit limits answer new answer.then none s

  same_fault : (o : ThenOutcome) → store_fault_of_then o ≡ fault_of o
  same_fault followed = refl
  same_fault (then_store fault) = refl

  does_steady : (told : Bool) (visit : Visit) (answer : VisitAnswer) (new : PartShardState) (t : Then) → faults_met (store_fault_of_then answer.then) ≡ 0
      → Follow conf told rose end old visit answer new t → Follow conf told other end old visit answer new t
  does_steady told visit answer new Nothing none s = s
  does_steady told visit answer new Release none s =
      (s.0, acts_steady visit.group (releases_of visit.member (old.held visit.group)) new (fault_of answer.then) (ap faults_met (sym (same_fault answer.then)) ∙ none) s.1)
  does_steady told visit answer new (Fetch records bytes first) none s = fetches_steady told visit _ answer new _ none s

  follows_steady : (told failed : Bool) (unread others : Type 0) (visit : Visit) (answer : VisitAnswer) (new : PartShardState)
      → faults_met (store_fault_of_then answer.then) ≡ 0 → Follows conf told unread rose end old visit answer new failed
      → Follows conf told others other end old visit answer new failed
  follows_steady told true unread others visit answer new none s = one_is_none (sym (ap (λ o. faults_met (store_fault_of_then o)) s.empty.outcome_is) ∙ none)
  follows_steady told false unread others visit answer new none s = does_steady told visit answer new visit.then none s

-- ---- expiries

module _ (conf : PartConfParts) (same : ℕ) where
  group_steady : (count later end : ℕ) (old : PartShardState) (group : List ℕ) (fault : Option StoreFault) (new : PartShardState) → faults_met fault ≡ 0
      → StepsGroup conf count later end old group fault new → StepsGroup conf same same end old group fault new
  group_steady count later end old group fault new none s = record {
    counts = omega arith;
    log = s.log;
    clock = s.clock;
    stores = acts_steady conf (Rose count later) (Rose same same) end old group (ending old.clock (old.held group)) new fault none s.stores;
  }

  groups_steady : (groups : List (List ℕ)) (count later end last freed : ℕ) (old : PartShardState) (answer : ExpireAnswer) (new : PartShardState)
      → faults_met (store_fault_of_expiry answer) ≡ 0 → StepsGroups conf count later end last groups freed old answer new
      → StepsGroups conf same same end last groups freed old answer new
  groups_steady [] count later end last freed old answer new none s = (s.0, s.1, omega arith, s.3)
  groups_steady (group ∷ groups) count later end last freed old answer new none (inl x) = inl (
    x.0,
    same,
    x.2,
    group_steady count x.1 end old group None x.0 refl x.3,
    x.4,
    groups_steady groups x.1 later x.2 last (more_freed freed (due_count old.clock (old.held group))) x.0 answer new none x.5,
  )
  groups_steady (group ∷ groups) count later end last freed old answer new none (inr y) = inr (
    y.0,
    y.1,
    group_steady count later end old group (Some y.0) new (sym (ap (λ a. faults_met (store_fault_of_expiry a)) y.1) ∙ none) y.2,
  )

-- ---- batches and deletes

log_steady : (rose other : Type 0) (end : ℕ) (old : LogShardState) (bytes : List ℕ) (new : LogShardState) (produced : Produced)
    → faults_met (store_fault_of_log produced) ≡ 0 → StepsLog rose end old bytes (base_in (result_of produced)) new
    → StepsLog other end old bytes (base_in (result_of produced)) new
log_steady rose other end old bytes new (Base placed) none s = s
log_steady rose other end old bytes new (Batch fault) none s = s
log_steady rose other end old bytes new (Store Device) none s = one_is_none none
log_steady rose other end old bytes new (Store (Full at)) none s = s

deletes_steady : (rose other : Type 0) (end : ℕ) (old : PartShardState) (to : ℤ) (new : PartShardState) (answer : DeleteAnswer)
    → faults_met (store_fault_of_delete answer) ≡ 0 → DeletesSo rose end old to answer new → DeletesSo other end old to answer new
deletes_steady rose other end old to new (Deleted start) none s = s
deletes_steady rose other end old to new (OutOfRange at) none s = s
deletes_steady rose other end old to new (delete_store Device) none s = one_is_none none
deletes_steady rose other end old to new (delete_store (Full at)) none s = s

-- ---- all calls

-- of a visit neither its acknowledgements fail nor what follows them
visit_fine : (unread : Bool) (a n : ℕ) → (a + (cond unread 0 n)) + cond unread n 0 ≡ 0 → (a ≡ 0) × (n ≡ 0)
visit_fine true a n e = (omega (arith, e), omega (arith, e))
visit_fine false a n e = (omega (arith, e), omega (arith, e))

sum_fine : (a b : ℕ) → a + b ≡ 0 → (a ≡ 0) × (b ≡ 0)
sum_fine a b e = (omega (arith, e), omega (arith, e))

module _ (counts : Counts) (faults : List ℕ → ℕ) (ends : Ends) (now : ℕ) where
  part_steady : (h : Hosted) (old new : PartShardState) (did : PartCall) → state_faults_met did + log_faults_met did ≡ 0
      → StepsPart true counts ends now h old did new → StepsPart true (standing faults) ends now h old did new
  part_steady h old new (Visits visit answer unread) none v =
      let fine = visit_fine unread (faults_met (store_fault_of_ack answer.ack)) (faults_met (store_fault_of_then answer.then)) none in
      let same = faults_before (standing faults) (state_store h) in
      record {
        between = v.between;
        counted = same;
        at = v.at;
        acks = record {
          log = v.acks.log;
          clock = v.acks.clock;
          does = acks_steady h.conf (Rose (faults_before counts (state_store h)) v.counted) (Rose same same) _ old visit v.between answer.ack fine.0 v.acks.does;
        };
        counts = (omega arith, omega arith);
        unwritten = v.unwritten;
        still = v.still;
        does = follows_steady h.conf (Rose v.counted (faults_behind counts (state_store h))) (Rose same same) v.at v.between true unread
            (rose_at counts (log_of h)) (rose_at (standing faults) (log_of h)) visit answer new fine.1 v.does;
        clock = v.clock;
        log = v.log;
      }
  part_steady h old new (Produces batch produced) none s = record {
    clock = s.clock;
    log = log_steady (rose_at counts (log_of h)) (rose_at (standing faults) (log_of h)) _ old.log batch new.log produced (sum_fine 0 (faults_met (store_fault_of_log produced)) none).1 s.log;
    start = s.start;
    still = s.still;
  }
  part_steady h old new (Looks group looked) none s = s
  part_steady h old new (Expires answer) none s = record {
    clock = s.clock;
    log = s.log;
    groups = groups_steady h.conf (faults_before (standing faults) (state_store h)) _ _ _ _ _ 0 _ answer new (sum_fine (faults_met (store_fault_of_expiry answer)) 0 none).0 s.groups;
  }
  part_steady h old new (Deletes to answer) none s = record {
    clock = s.clock;
    does = deletes_steady (rose_at counts (log_of h)) (rose_at (standing faults) (log_of h)) _ old to new answer (sum_fine 0 (faults_met (store_fault_of_delete answer)) none).1 s.does;
  }

  hosted_steady : (h : Hosted) (did : PartCall) (p q : HostedPart) → state_faults_met did + log_faults_met did ≡ 0
      → StepsHosted counts ends now h did p q → StepsHosted (standing faults) ends now h did p q
  hosted_steady h did p q none s =
      record { was = s.was; is = s.is; step = part_steady h p.shard q.shard did none s.step; quiet = λ fine. refl }

  foreign_steady : (end : ℕ) (old new : ForeignShardState) (op : ForeignOp) (answer : ForeignAnswer) (fault : Option StoreFault) → faults_met fault ≡ 0
      → StepsForeign (rose_on counts foreign_store) end old op answer fault new → StepsForeign (rose_on (standing faults) foreign_store) end old op answer fault new
  foreign_steady end old new op answer None none s = s
  foreign_steady end old new op answer (Some Device) none s = one_is_none none
  foreign_steady end old new op answer (Some (Full at)) none s = s

  pub call_steady : (old new : Shards) (call : ShardCall) → failures call ≡ 0 → StepsShards counts ends now old call new → StepsShards (standing faults) ends now old call new
  call_steady old new (CallForeign op answer fault) none s = (foreign_steady (ends state_a).0 old.foreign new.foreign op answer fault none s.0, s.1, s.2)
  call_steady old new (CallPart shard h did) none s = (
    changes_so shard (StepsHosted counts ends now h did) (StepsHosted (standing faults) ends now h did) (λ p q step. hosted_steady h did p q none step) old.parts new.parts s.0,
    s.1,
    s.2,
  )
  call_steady old new (CallMembers did) none s = s
