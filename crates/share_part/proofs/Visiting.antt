-- A visit as a step of the shard.
use Rattle.std.proofs.Common.{◌≡◌, ◌≢◌, ◌⊎◌, ⊎_elim, ◌∙◌, inl, inr, refl, sym, ap, subst, ℕ, pos, ◌+◌, ◌^◌, ◌<◌, ◌≤◌, max, List, [], length}
use Rattle.std.specs.Prelude.{Option, Some, None, Result, Ok, Err, IsErr, IsOk, IsSome, is_some, unwrap_or, Bool, true, false}
use Rattle.std.specs.BTreeMap.{insert_entry}
use Rattle.std.specs.Option.{IfSome, option_map}
use Rattle.flex_fields.specs.declared.fault.NoMemory.{NoMemory as want}
use Rattle.coord_checkpoint.specs.Disks.{HasFailed}
use Rattle.share_model.specs.ForeignRules.{ShareStates, share_state_at}
use Rattle.share_model.specs.Held.{Held}
use Rattle.share_model.specs.Keys.{KeyParts, key_cmp}
use Rattle.share_model.specs.Logs.{end_of}
use Rattle.share_model.specs.ShareStates.{ShareState}
use Rattle.share_model.specs.declared.fault.StoreFault.{StoreFault}
use Rattle.share_model.specs.declared.fault.StoreFault.TheVariants.{Device, Full}
use Rattle.share_model.specs.declared.visit.AckOutcome.TheVariants.{Done as acknowledged}
use Rattle.share_model.specs.declared.visit.Then.TheVariants.{Nothing, Fetch}
use Rattle.share_model.specs.declared.visit.ThenOutcome.{ThenOutcome}
use Rattle.share_model.specs.declared.visit.ThenOutcome.TheVariants.{Done, Store as store_outcome}
use Rattle.share_model.specs.declared.visit.Visit.{Visit}
use Rattle.share_model.specs.declared.visit.VisitAnswer.{VisitAnswer}
use Rattle.part_log.specs.Logs.{Keeps, log_in}
use Rattle.part_log.specs.Shards.{CarriesLog, LogShardState, log_at}
use Rattle.part_log.specs.Starts.{Log, LogWrite}
use Rattle.part_log.proofs.Keeping.{keeps_start}
use Rattle.part_log.proofs.Looking.{carries_on}
use Rattle.share_coord.specs.Calls.{IsInitialised}
use Rattle.share_coord.specs.Holding.{Holds, WritesOnce}
use Rattle.share_coord.specs.Parts.{StoreParts}
use Rattle.share_coord.specs.Stored.{Entries, based, kept_at}
use Rattle.share_coord.specs.Unwritten.{AreLevel}
use Rattle.share_coord.specs.declared.fault.CoordFault.{CoordFault}
use Rattle.share_coord.specs.declared.fault.CoordFault.TheVariants.{Invalid, Unknown, FencedLeader, FencedState, TooMany, Store, NoMemory}
use Rattle.share_coord.specs.Parts.{KeptState}
use Rattle.share_coord.proofs.Once.{held_still}
use Rattle.share_coord.proofs.Recovered.{level_based}
use Rattle.share_part.specs.declared.limits.Limits.{Limits}
use Rattle.share_part.specs.Failures.{AreQuiet, FailuresRose, RunOnBoth, StarveUnarmed}
use Rattle.share_part.specs.Hosting.{PartConfParts, AreHosted, HoldsWell, KeepsHolds, key_of}
use Rattle.share_coord.specs.States.{states_of}
use Rattle.share_part.specs.declared.plan.Plan.{Plan}
use Rattle.share_part.specs.Collecting.{IsPlanOf}
use Rattle.share_part.specs.Making.{IsTableRecord, MakesOnce, MakesTableOnce, Tells, numbered_bytes, state_for}
use Rattle.share_part.specs.Once.{Followed, FollowsOnce, ReadsBatches, reading_of}
use Rattle.share_part.specs.Following.{Acquires, Does, Fetches, HasNothingToWrite, IsFetch, IsEmptyAnswer, MakesTable, StepsThen}
use Rattle.share_part.specs.Shards.{PartShardState, PartParts, Carries, IsStill, IsPendingHosted, held_in, with_held, new_state, first_start}
use Rattle.share_part.specs.Tables.{table_of, with_holds}
use Rattle.share_part.specs.Walks.{acquired, AreRunsOf, bytes_in, written_out}
use Rattle.share_part.specs.Writes.{WritesThen}
use Rattle.share_part.proofs.Appending.{numbered_is}
use Rattle.share_part.proofs.Failing.{quiet_same, rose_either, starve_either}
use Rattle.share_part.proofs.Holding.{AreKept, kept_taken, none_kept, one_kept, same_kept, table_kept}
use Rattle.share_part.proofs.Mapping.{keys_exact, keys_total, set_found}
use Rattle.share_part.proofs.Seeing.{state_seen, view_of, hosted_more, new_hosted, made_is, goes_out, write_level}
use Rattle.edge_io.specs.Views.{DiskView}

module _ {D W : Type 0} (seen : D → DiskView) (holding : W → Held) where
  -- what a shard in memory carries, with these writes pending
  abbrev pub shard_of : PartParts D W → Option LogWrite → Option Entries → PartShardState
  shard_of parts batch pending = record {
    log = record { batches = parts.log.batches; start = parts.log.start; pending = batch };
    states = states_of parts.states.entries;
    pending = option_map states_of pending;
    held = held_in holding parts.windows;
    clock = parts.clock;
  }

  pub record Keeping (parts : PartParts D W) (batch : Option LogWrite) (pending : Option Entries) : Type 0 where
    pub log : CarriesLog seen parts.log (record { batches = parts.log.batches; start = parts.log.start; pending = batch })
    pub holds : Holds seen parts.states pending
    pub hosted : AreHosted parts.conf (log_in parts.log) (states_of parts.states.entries)
    pub pending_hosted : IsPendingHosted parts.conf (log_in parts.log) (option_map states_of pending)
    pub level : AreLevel parts.log.start parts.states.entries
    pub pending_level : IfSome pending (AreLevel parts.log.start)

  -- what holds of that holds of each shard that is carried
  pub carried : (parts : PartParts D W) (P : PartShardState → Type 0) → ((batch : Option LogWrite) (pending : Option Entries) → Keeping parts batch pending → P (shard_of parts batch pending))
      → (shard : PartShardState) → Carries seen holding parts shard → P shard
  carried parts P f shard c =
      let log : shard.log ≡ record { batches = parts.log.batches; start = parts.log.start; pending = shard.log.pending } =
      λ i. record { batches = c.log.batches i; start = c.log.start i; pending = shard.log.pending } in
      let is : shard_of parts shard.log.pending c.pending ≡ shard = λ i. record {
        log = sym log i;
        states = sym c.states i;
        pending = sym c.pending_is i;
        held = λ group. sym (c.held group) i;
        clock = sym c.clock i;
      } in
      subst P is (f shard.log.pending c.pending (record {
        log = subst (CarriesLog seen parts.log) log c.log;
        holds = c.holds;
        hosted = hosted_as c;
        pending_hosted = pending_as c;
        level = subst (λ (n : ℕ). AreLevel n parts.states.entries) c.log.start c.level;
        pending_level = subst (λ (n : ℕ). IfSome c.pending (AreLevel n)) c.log.start c.pending_level;
      }))
    where
      logs_as : (c : Carries seen holding parts shard) → log_at shard.log ≡ log_in parts.log
      logs_as c = λ i. record { batches = c.log.batches i; start = c.log.start i }

      hosted_as : Carries seen holding parts shard → AreHosted parts.conf (log_in parts.log) (states_of parts.states.entries)
      hosted_as c = subst (λ (l : Log). AreHosted parts.conf l (states_of parts.states.entries)) (logs_as c)
          (subst (AreHosted parts.conf (log_at shard.log)) c.states c.hosted)

      pending_as : (c : Carries seen holding parts shard) → IsPendingHosted parts.conf (log_in parts.log) (option_map states_of c.pending)
      pending_as c = subst (λ (l : Log). IsPendingHosted parts.conf l (option_map states_of c.pending)) (logs_as c)
          (subst (IsPendingHosted parts.conf (log_at shard.log)) c.pending_is c.pending_hosted)

  -- with other holds, another clock, and a store of the same states
  pub carries_with : (parts after : PartParts D W) (batch : Option LogWrite) (was pending : Option Entries) (held : List ℕ → Held) → Keeping parts batch was
      → after.conf ≡ parts.conf → ((shard : LogShardState) → CarriesLog seen parts.log shard → CarriesLog seen after.log shard)
      → states_of after.states.entries ≡ states_of parts.states.entries → Holds seen after.states pending
      → IsPendingHosted parts.conf (log_in parts.log) (option_map states_of pending) → AreLevel parts.log.start after.states.entries → IfSome pending (AreLevel parts.log.start)
      → ((group : List ℕ) → held group ≡ held_in holding after.windows group)
      → Carries seen holding after (record {
        log = record { batches = parts.log.batches; start = parts.log.start; pending = batch };
        states = states_of parts.states.entries;
        pending = option_map states_of pending;
        held = held;
        clock = after.clock;
      })
  carries_with parts after batch was pending held k conf log entries holds hosted level pending_level same = record {
    log = log (record { batches = parts.log.batches; start = parts.log.start; pending = batch }) k.log;
    pending = pending;
    holds = holds;
    states = sym entries;
    pending_is = refl;
    held = same;
    clock = refl;
    hosted = subst (λ (c : PartConfParts). AreHosted c (log_in parts.log) (states_of parts.states.entries)) (sym conf) k.hosted;
    pending_hosted = subst (λ (c : PartConfParts). IsPendingHosted c (log_in parts.log) (option_map states_of pending)) (sym conf) hosted;
    level = level;
    pending_level = pending_level;
  }

  -- with other devices that stand for the same
  pub carries_armed : (old new : PartParts D W) (shard : PartShardState) → Carries seen holding old shard → new.conf ≡ old.conf → log_in new.log ≡ log_in old.log
      → ((pending : Option LogWrite) → Keeps seen old.log pending → Keeps seen new.log pending) → new.states.entries ≡ old.states.entries
      → ((pending : Option Entries) → Holds seen old.states pending → Holds seen new.states pending) → new.windows ≡ old.windows → new.clock ≡ old.clock
      → Carries seen holding new shard
  carries_armed old new shard c conf logs log entries states windows clock = record {
    log = record {
      batches = c.log.batches ∙ sym (ap (λ (l : Log). l.batches) logs);
      start = c.log.start ∙ sym (ap (λ (l : Log). l.start) logs);
      keeps = log shard.log.pending c.log.keeps;
    };
    pending = c.pending;
    holds = states c.pending c.holds;
    states = c.states ∙ ap states_of (sym entries);
    pending_is = c.pending_is;
    held = λ group. c.held group ∙ ap (λ (w : List (List ℕ × W)). held_in holding w group) (sym windows);
    clock = c.clock ∙ sym clock;
    hosted = subst (λ (p : PartConfParts). AreHosted p (log_at shard.log) shard.states) (sym conf) c.hosted;
    pending_hosted = subst (λ (p : PartConfParts). IsPendingHosted p (log_at shard.log) shard.pending) (sym conf) c.pending_hosted;
    level = subst (AreLevel shard.log.start) (sym entries) c.level;
    pending_level = c.pending_level;
  }

-- ---- a fetch

pub err_is : {T E : Type 0} (r : Result T E) (e : E) → r ≡ Err e → IsErr r
err_is {T} {E} r e is = subst (λ (x : Result T E). IsErr x) (sym is) refl

module _ {D W : Type 0} (seen : D → DiskView) (holding : W → Held) (now : ℕ) (visit : Visit) (old new : PartParts D W)
    (conf : new.conf ≡ old.conf) (log : ReadsBatches seen (false ≡ true) old.log new.log)
    (runs : RunOnBoth seen old.states new.states) where
  abbrev told_there : Bool
  told_there = is_some (seen old.log.journal.disk).content

  abbrev carries_read : (shard : LogShardState) → CarriesLog seen old.log shard → CarriesLog seen new.log shard
  carries_read = carries_on seen old.log new.log log.reads

  abbrev Rises : Type 0
  Rises = FailuresRose seen old.states new.states

  abbrev Once : Result VisitAnswer want → Type 0
  Once result = FollowsOnce seen holding now visit old new result

  abbrev Leads : VisitAnswer → PartShardState → Type 0
  Leads answer s = (t : PartShardState) × Carries seen holding new t × StepsThen old.conf (reading_of seen old.log new.log false) Rises old.states.journal.end s now visit answer t

  abbrev Starves : Type 0
  Starves = StarveUnarmed seen old.states new.states

  abbrev key : KeyParts
  key = key_of old.conf visit.group

  -- where there is nothing to write, nothing is
  abbrev Writes : Type 0
  Writes = (s : PartShardState) → Carries seen holding old s → HasNothingToWrite old.conf s visit visit.then → new.states ≡ old.states

  writes_none : new.states ≡ old.states → Writes
  writes_none same = λ s c nothing. same

  abbrev Quiet : Type 0
  Quiet = AreQuiet seen old.states new.states

  quiet_still : new.states ≡ old.states → Quiet
  quiet_still same = quiet_same seen old.states new.states same

  abbrev Records : VisitAnswer → Type 0
  Records answer = WritesThen seen old.conf (log_in old.log) visit (held_in holding old.windows visit.group) old.states new.states answer.then visit.then

  answered : (answer : VisitAnswer) → Writes → Records answer → (((fault : StoreFault) → answer.then ≢ store_outcome fault) → Quiet)
      → Followed seen holding now visit old new false answer → (answer.then ≡ store_outcome Device → Starves)
      → ((fault : StoreFault) → answer.then ≡ store_outcome fault → new.log ≡ old.log)
      → ((IsFetch visit.then → ⊥) → new.log ≡ old.log) → Once (Ok answer)
  answered answer writes records quiet visited sound unstored others = record {
    unread = false;
    steps = visited;
    memory = tt;
    records = records;
    quiet = quiet;
    sound = sound;
    unwritten = writes;
    log = log;
    unstored = unstored;
    others = others;
    conf = conf;
  }

  -- no memory was found
  pub hungry : (e : want) → new.log ≡ old.log → new.states ≡ old.states
      → ((group : List ℕ) → held_in holding new.windows group ≡ held_in holding old.windows group) → new.clock ≡ old.clock → Once (Err e)
  hungry e same_log states held clock = record {
    unread = false;
    steps = tt;
    memory = record { conf = conf; log = same_log; states = states; clock = clock; held = held };
    records = tt;
    quiet = tt;
    sound = tt;
    unwritten = λ s c nothing. states;
    log = log;
    unstored = tt;
    others = λ away. same_log;
    conf = conf;
  }

  pub starved_so : (result : Result VisitAnswer want) → IsErr result → new.log ≡ old.log → new.states ≡ old.states
      → ((group : List ℕ) → held_in holding new.windows group ≡ held_in holding old.windows group) → new.clock ≡ old.clock → Once result
  starved_so (Ok answer) is same_log states held clock = absurd (let clash : ⊥ = cc in clash)
  starved_so (Err e) is same_log states held clock = hungry e same_log states held clock

  -- nothing is fetched
  pub idly : (answer : VisitAnswer) → answer.ack ≡ acknowledged → IsEmptyAnswer Done answer → visit.then ≡ Nothing → new.log ≡ old.log
      → new.states ≡ old.states → new.windows ≡ old.windows → new.clock ≡ max old.clock now → Once (Ok answer)
  idly answer ack empty what still_log states windows clock = answered answer (writes_none states)
      (subst (WritesThen seen old.conf (log_in old.log) visit (held_in holding old.windows visit.group) old.states new.states answer.then) (sym what) states)
      (λ none. quiet_still states)
      (carried seen holding old (Leads answer) (λ batch pending k.
      let t : PartShardState = record {
        log = record { batches = old.log.batches; start = old.log.start; pending = batch };
        states = states_of old.states.entries;
        pending = option_map states_of pending;
        held = held_in holding old.windows;
        clock = new.clock;
      } in (
        t,
        carries_with seen holding old new batch pending pending (held_in holding old.windows) k conf carries_read (ap (λ (s : StoreParts D). states_of s.entries) states)
            (subst (λ (s : StoreParts D). Holds seen s pending) (sym states) k.holds) k.pending_hosted
            (subst (λ (s : StoreParts D). AreLevel old.log.start s.entries) (sym states) k.level) k.pending_level
            (λ group. ap (λ (w : List (List ℕ × W)). held_in holding w group) (sym windows)),
        record { clock = clock; log = refl; ack = ack; does = by_kind (shard_of seen holding old batch pending) t (record { states = refl; pending = refl; held = refl }) },
      )))
      (λ is. absurd (let never : Done ≡ store_outcome Device = sym empty.outcome_is ∙ is in let clash : ⊥ = cc in clash)) (λ fault is. still_log)
      (λ away. still_log)
    where
      by_kind : (s t : PartShardState) → IsStill s t → Does old.conf told_there Rises old.states.journal.end s visit answer t visit.then
      by_kind s t still = subst (Does old.conf told_there Rises old.states.journal.end s visit answer t) (sym what) (empty, still)

  module _ (limits : Limits) (is_fetch : visit.then ≡ Fetch limits.records limits.bytes limits.first) where
    others_fetch : (IsFetch visit.then → ⊥) → new.log ≡ old.log
    others_fetch away = absurd (away (subst IsFetch (sym is_fetch) tt))

    does_fetch : (s t : PartShardState) (answer : VisitAnswer) (o : Option ShareState) → share_state_at s.states key ≡ o
        → Fetches old.conf told_there Rises old.states.journal.end s visit limits answer t o → Does old.conf told_there Rises old.states.journal.end s visit answer t visit.then
    does_fetch s t answer o is f = subst (Does old.conf told_there Rises old.states.journal.end s visit answer t) (sym is_fetch)
        (subst (Fetches old.conf told_there Rises old.states.journal.end s visit limits answer t) (sym is) f)

    -- ---- records are acquired

    abbrev table_held : Held
    table_held = held_in holding old.windows visit.group

    abbrev held_then : ShareState → List ℕ → Held
    held_then state = with_held (held_in holding old.windows) visit.group (with_holds visit.member (new.clock + old.conf.lock_ms)
        (acquired old.log.batches (table_of state table_held) limits).taken table_held)

    -- what was acquired of a table with this state, and is answered
    pub record Took (answer : VisitAnswer) (state : ShareState) : Type 0 where
      pub ack : answer.ack ≡ acknowledged
      pub outcome_is : answer.then ≡ Done
      pub grants : AreRunsOf (acquired old.log.batches (table_of state table_held) limits).taken answer.grants
      pub batches : told_there ≡ true → answer.batches ≡ bytes_in (acquired old.log.batches (table_of state table_held) limits).batches
      pub size : length answer.batches ≤ length (bytes_in (acquired old.log.batches (table_of state table_held) limits).batches)
      pub held : (group : List ℕ) → held_in holding new.windows group ≡ held_then state group
      pub clock : new.clock ≡ max old.clock now

    not_fault : (answer : VisitAnswer) (state : ShareState) → Took answer state → (fault : StoreFault) → answer.then ≡ store_outcome fault → ⊥
    not_fault answer state took fault is = let never : Done ≡ store_outcome fault = sym took.outcome_is ∙ is in let clash : ⊥ = cc in clash

    not_starved : (answer : VisitAnswer) (state : ShareState) → Took answer state → answer.then ≡ store_outcome Device → Starves
    not_starved answer state took is = absurd (not_fault answer state took Device is)

    not_unstored : (answer : VisitAnswer) (state : ShareState) → Took answer state → (fault : StoreFault) → answer.then ≡ store_outcome fault
        → new.log ≡ old.log
    not_unstored answer state took fault is = absurd (not_fault answer state took fault is)

    abbrev shard_then : Option LogWrite → ShareStates → Option ShareStates → ShareState → PartShardState
    shard_then batch states pending state = record {
      log = record { batches = old.log.batches; start = old.log.start; pending = batch };
      states = states;
      pending = pending;
      held = held_then state;
      clock = new.clock;
    }

    acquires : (batch : Option LogWrite) (pending : Option Entries) (states : ShareStates) (now_pending : Option ShareStates) (answer : VisitAnswer) (state : ShareState) → Took answer state
        → Acquires old.conf told_there (shard_of seen holding old batch pending) state visit limits answer (shard_then batch states now_pending state)
    acquires batch pending states now_pending answer state took =
        record { outcome_is = took.outcome_is; grants = took.grants; batches = took.batches; size = took.size; held = refl }

    -- what the store has answered, and was stored of the table
    abbrev Kept_by : ThenOutcome → Type 0
    Kept_by outcome = MakesTableOnce seen (HasFailed seen) old.conf visit.group (log_in old.log) old.states new.states (Ok outcome)

    records_of : (answer : VisitAnswer) (outcome : ThenOutcome) → answer.then ≡ outcome → Kept_by outcome → Records answer
    records_of answer outcome is kept =
        subst (WritesThen seen old.conf (log_in old.log) visit (held_in holding old.windows visit.group) old.states new.states answer.then) (sym is_fetch)
        (subst Kept_by (sym is) kept)

    -- the table was there
    pub acquired_there : (answer : VisitAnswer) (kept : KeptState) → kept_at old.states.entries key ≡ Some kept → new.states ≡ old.states → Kept_by Done
        → Took answer kept.view → Once (Ok answer)
    acquired_there answer kept is states by took = answered answer (writes_none states) (records_of answer Done took.outcome_is by) (λ none. quiet_still states)
        (carried seen holding old (Leads answer) (λ batch pending k. (
          shard_then batch (states_of old.states.entries) (option_map states_of pending) kept.view,
          carries_with seen holding old new batch pending pending (held_then kept.view) k conf carries_read (ap (λ (s : StoreParts D). states_of s.entries) states)
              (subst (λ (s : StoreParts D). Holds seen s pending) (sym states) k.holds) k.pending_hosted
              (subst (λ (s : StoreParts D). AreLevel old.log.start s.entries) (sym states) k.level) k.pending_level (λ group. sym (took.held group)),
          record {
            clock = took.clock;
            log = refl;
            ack = took.ack;
            does = does_fetch (shard_of seen holding old batch pending) _ answer (Some kept.view) (state_seen old.states.entries key ∙ ap (option_map view_of) is)
                (record { acquires = acquires batch pending _ _ answer kept.view took; states = refl; pending = refl });
          },
        ))) (not_starved answer kept.view took) (not_unstored answer kept.view took) others_fetch

    abbrev made : ShareState
    made = new_state old.conf (log_in old.log)

    abbrev Written : Entries → Type 0
    Written = IsInitialised old.states.entries key (pos 0) (pos (first_start old.conf.reset (log_in old.log)))

    abbrev Wrote : Result (Unit {0}) CoordFault → Type 0
    Wrote done = WritesOnce seen (HasFailed seen) Written old.states new.states done

    made_states : (es : Entries) → Written es → states_of es ≡ insert_entry key_cmp (states_of old.states.entries) key made
    made_states es is = made_is old.conf (log_in old.log) old.states.entries es visit.group is

    made_hosted : (es : Entries) → Written es → old.log.start ≤ end_of old.log.batches → AreHosted old.conf (log_in old.log) (states_of old.states.entries)
        → AreHosted old.conf (log_in old.log) (states_of es)
    made_hosted es is starts h = subst (AreHosted old.conf (log_in old.log)) (sym (made_states es is))
        (hosted_more old.conf (log_in old.log) (states_of old.states.entries) key made h (new_hosted old.conf (log_in old.log) starts visit.group))

    none_there : kept_at old.states.entries key ≡ None → share_state_at (states_of old.states.entries) key ≡ None
    none_there is = state_seen old.states.entries key ∙ ap (option_map view_of) is

    made_level : (es : Entries) → Written es → old.log.start ≤ end_of old.log.batches → AreHosted old.conf (log_in old.log) (states_of old.states.entries)
        → AreLevel old.log.start old.states.entries → AreLevel old.log.start es
    made_level es is starts h level = write_level old.conf (log_in old.log) old.states.entries es is.checkpointed key _ is.is refl (made_hosted es is starts h) level

    -- the group has no table, and so there is one to write
    writes_one : kept_at old.states.entries key ≡ None → (done : Result (Unit {0}) CoordFault) → Wrote done → Writes
    writes_one none done once = λ s c nothing.
        let there : IsSome (share_state_at s.states key) = subst (HasNothingToWrite old.conf s visit) is_fetch nothing in
        let gone : share_state_at s.states key ≡ None = ap (λ (states : ShareStates). share_state_at states key) c.states ∙ none_there none in
        let never : IsSome {T = ShareState} None = subst (λ (o : Option ShareState). IsSome o) gone there in
        absurd (let clash : ⊥ = cc in clash)

    -- the table was made
    pub acquired_first : (answer : VisitAnswer) (done : Unit {0}) → kept_at old.states.entries key ≡ None → Wrote (Ok done) → Kept_by Done → Took answer made
        → Once (Ok answer)
    acquired_first answer done none once by took = answered answer (writes_one none (Ok done) once) (records_of answer Done took.outcome_is by) (λ told. once.quiet)
        (carried seen holding old (Leads answer) (λ batch pending k. (
          shard_then batch (states_of new.states.entries) None made,
          record {
            log = carries_read (record { batches = old.log.batches; start = old.log.start; pending = batch }) k.log;
            pending = None;
            holds = once.kept pending k.holds;
            states = refl;
            pending_is = refl;
            held = λ group. sym (took.held group);
            clock = refl;
            hosted = subst (λ (c : PartConfParts). AreHosted c (log_in old.log) (states_of new.states.entries)) (sym conf) (made_hosted new.states.entries once.written (keeps_start seen old.log batch k.log.keeps) k.hosted);
            pending_hosted = tt;
            level = made_level new.states.entries once.written (keeps_start seen old.log batch k.log.keeps) k.hosted k.level;
            pending_level = tt;
          },
          record {
            clock = took.clock;
            log = refl;
            ack = took.ack;
            does = does_fetch (shard_of seen holding old batch pending) _ answer None (none_there none)
                (subst (MakesTable old.conf told_there Rises old.states.journal.end (shard_of seen holding old batch pending) visit limits answer (shard_then batch (states_of new.states.entries) None made)) (sym took.outcome_is)
                (record { acquires = acquires batch pending _ _ answer made took; states = made_states new.states.entries once.written; nothing = refl }));
          },
        ))) (not_starved answer made took) (not_unstored answer made took) others_fetch

    -- ---- the table couldn't be stored

    abbrev NotDevice : CoordFault → Type 0
    NotDevice e = e ≢ Store Device

    pub record Refused (answer : VisitAnswer) (fault : StoreFault) : Type 0 where
      pub ack : answer.ack ≡ acknowledged
      pub empty : IsEmptyAnswer (store_outcome fault) answer
      pub held : (group : List ℕ) → held_in holding new.windows group ≡ held_in holding old.windows group
      pub clock : new.clock ≡ max old.clock now

    abbrev shard_same : Option LogWrite → Option Entries → PartShardState
    shard_same batch pending = record {
      log = record { batches = old.log.batches; start = old.log.start; pending = batch };
      states = states_of old.states.entries;
      pending = option_map states_of pending;
      held = held_in holding old.windows;
      clock = new.clock;
    }

    level_left : AreLevel old.log.start old.states.entries → (c : Bool) × (new.states.entries ≡ based c old.states.entries) → AreLevel old.log.start new.states.entries
    level_left h left = subst (AreLevel old.log.start) (sym left.1) (level_based old.log.start left.0 old.states.entries h)

    unmade : (answer : VisitAnswer) (fault : StoreFault) (batch : Option LogWrite) (was pending : Option Entries) → Keeping seen holding old batch was → Refused answer fault
        → states_of new.states.entries ≡ states_of old.states.entries → Holds seen new.states pending → IsPendingHosted old.conf (log_in old.log) (option_map states_of pending)
        → AreLevel old.log.start new.states.entries → IfSome pending (AreLevel old.log.start)
        → kept_at old.states.entries key ≡ None
        → MakesTable old.conf told_there Rises old.states.journal.end (shard_of seen holding old batch was) visit limits answer (shard_same batch pending) (store_outcome fault)
        → Leads answer (shard_of seen holding old batch was)
    unmade answer fault batch was pending k refused entries holds hosted level pending_level none makes = (
      shard_same batch pending,
      carries_with seen holding old new batch was pending (held_in holding old.windows) k conf carries_read entries holds hosted level pending_level (λ group. sym (refused.held group)),
      record {
        clock = refused.clock;
        log = refl;
        ack = refused.ack;
        does = does_fetch (shard_of seen holding old batch was) _ answer None (none_there none)
            (subst (MakesTable old.conf told_there Rises old.states.journal.end (shard_of seen holding old batch was) visit limits answer (shard_same batch pending)) (sym refused.empty.outcome_is) makes);
      },
    )

    pub unstored : (answer : VisitAnswer) (fault : StoreFault) → new.log ≡ old.log → kept_at old.states.entries key ≡ None → Wrote (Err (Store fault))
        → Kept_by (store_outcome fault) → Refused answer fault → Once (Ok answer)
    unstored answer Device same_log none once by refused =
        let failed = (once.device refl).0 in
        let rose : Rises = rose_either seen old.states new.states runs failed in
        answered answer (writes_one none (Err (Store Device)) once) (records_of answer (store_outcome Device) refused.empty.outcome_is by) (λ told. absurd (told Device refused.empty.outcome_is))
        (carried seen holding old (Leads answer) (λ batch pending k.
        ⊎_elim
        (λ holds. unmade answer Device batch pending pending k refused once.same holds.1 k.pending_hosted (level_left k.level once.left) k.pending_level none
        (rose, refused.empty, record { states = refl; pending = inl refl; held = refl }))
        (λ other. ⊎_elim (λ mended. unmade answer Device batch pending None k refused once.same mended tt (level_left k.level once.left) tt none
        (rose, refused.empty, record { states = refl; pending = inr (inl refl); held = refl }))
        (λ lost. unmade answer Device batch pending (Some lost.0) k refused once.same lost.2 (made_hosted lost.0 lost.1 (keeps_start seen old.log batch k.log.keeps) k.hosted) (level_left k.level once.left)
        (made_level lost.0 lost.1 (keeps_start seen old.log batch k.log.keeps) k.hosted k.level) none
        (rose, refused.empty, record { states = refl; pending = inr (inr (states_of lost.0, refl, made_states lost.0 lost.1)); held = refl })) other)
        (once.failed pending k.holds)))
        (λ is. starve_either seen old.states new.states failed) (λ fault is. same_log) others_fetch
    unstored answer (Full at) same_log none once by refused =
        let full = once.full at refl in
        answered answer (writes_one none (Err (Store (Full at))) once) (records_of answer (store_outcome (Full at)) refused.empty.outcome_is by) (λ told. absurd (told (Full at) refused.empty.outcome_is))
        (carried seen holding old (Leads answer) (λ batch pending k.
        unmade answer (Full at) batch pending pending k refused once.same (held_still seen old.states new.states (once.unchanged (λ e. let never : ⊥ = cc in never)) pending k.holds) k.pending_hosted (level_left k.level once.left) k.pending_level none (
          full.0,
          refused.empty,
          record { states = refl; pending = refl; held = refl },
          record {
            before = old.states.entries;
            after = full.1.1;
            frame = full.1.0;
            is_before = refl;
            is_after = made_states full.1.1 full.1.2;
            accepted = full.1.3;
            fits = full.1.4;
            past = subst (λ (n : ℕ). 2 ^ 62 < n + (length full.1.0 + 5)) full.0 full.1.5;
          },
        )))
        (λ is. absurd (let never : store_outcome (Full at) ≡ store_outcome Device = sym refused.empty.outcome_is ∙ is in let clash : ⊥ = cc in clash))
        (λ fault is. same_log) others_fetch

    -- ---- by what became of the table

    abbrev Failed : D → D → Type 0
    Failed = HasFailed seen

    abbrev Made : Log → Result ThenOutcome want → Type 0
    Made there result = MakesTableOnce seen Failed old.conf visit.group there old.states new.states result

    kept_by : (result : Result ThenOutcome want) (outcome : ThenOutcome) → result ≡ Ok outcome → (end : Log) → end ≡ log_in old.log → Made end result → Kept_by outcome
    kept_by result outcome is end at made = subst (λ (r : Result ThenOutcome want). Made (log_in old.log) r) is (subst (λ (l : Log). Made l result) at made)

    -- what the store has answered
    abbrev Told : Option KeptState → Result ThenOutcome want → Type 0
    Told (Some kept) result = (new.states ≡ old.states) × (result ≡ Ok Done)
    Told None result = MakesOnce seen Failed Written (IsTableRecord old.states.entries key (first_start old.conf.reset (log_in old.log))) old.states new.states result

    told : (result : Result ThenOutcome want) (end : Log) → end ≡ log_in old.log → Made end result → (o : Option KeptState) → kept_at old.states.entries key ≡ o → Told o result
    told result end at made None is = (subst (λ (l : Log). Made l result) at made).absent is
    told result end at made (Some kept) is = made.there (subst (λ (o : Option KeptState). IsSome o) (sym is) refl)

    hosted_by : (result : Result ThenOutcome want) (done : Result (Unit {0}) CoordFault) → Wrote done → old.log.start ≤ end_of old.log.batches → AreHosted old.conf (log_in old.log) (states_of old.states.entries)
        → AreHosted old.conf (log_in old.log) (states_of new.states.entries)
    hosted_by result (Ok u) once starts h = made_hosted new.states.entries once.written starts h
    hosted_by result (Err e) once starts h = subst (AreHosted old.conf (log_in old.log)) (sym once.same) h

    hosted_told : (result : Result ThenOutcome want) (o : Option KeptState) → Told o result → old.log.start ≤ end_of old.log.batches → AreHosted old.conf (log_in old.log) (states_of old.states.entries)
        → AreHosted old.conf (log_in old.log) (states_of new.states.entries)
    hosted_told result None told starts h = hosted_by result told.done told.once starts h
    hosted_told result (Some kept) told starts h = subst (λ (s : StoreParts D). AreHosted old.conf (log_in old.log) (states_of s.entries)) (sym told.0) h

    -- the states are ones that the partition may have
    pub hosted_after : (result : Result ThenOutcome want) (end : Log) → end ≡ log_in old.log → Made end result
        → old.log.start ≤ end_of old.log.batches → AreHosted old.conf (log_in old.log) (states_of old.states.entries)
        → AreHosted old.conf (log_in old.log) (states_of new.states.entries)
    hosted_after result end at made starts h =
        hosted_told result (kept_at old.states.entries key) (told result end at made (kept_at old.states.entries key) refl) starts h

    -- it found no memory
    stays_done : (done : Result (Unit {0}) CoordFault) (result : Result ThenOutcome want) → IsErr result → Tells done result → Wrote done → new.states ≡ old.states
    stays_done (Ok u) result is tells once = absurd (let clash : ⊥ = cc in clash)
    stays_done (Err Invalid) result is tells once = absurd tells
    stays_done (Err Unknown) result is tells once = absurd tells
    stays_done (Err (FencedLeader n)) result is tells once = absurd tells
    stays_done (Err (FencedState n)) result is tells once = absurd tells
    stays_done (Err (TooMany n)) result is tells once = absurd tells
    stays_done (Err (Store fault)) result is tells once = absurd (let clash : ⊥ = cc in clash)
    stays_done (Err NoMemory) result is tells once = once.unchanged (λ e. let clash : ⊥ = cc in clash)

    stays_told : (result : Result ThenOutcome want) → IsErr result → (o : Option KeptState) → Told o result → new.states ≡ old.states
    stays_told result is None told = stays_done told.done result is told.tells told.once
    stays_told result is (Some kept) told = absurd (let e = told.1 in let clash : ⊥ = cc in clash)

    pub unanswered : (answer : Result VisitAnswer want) → IsErr answer → new.log ≡ old.log → (result : Result ThenOutcome want) → IsErr result
        → (end : Log) → end ≡ log_in old.log → Made end result
        → ((group : List ℕ) → held_in holding new.windows group ≡ held_in holding old.windows group) → new.clock ≡ old.clock → Once answer
    unanswered answer none same_log result is end at made held clock =
        starved_so answer none same_log (stays_told result is (kept_at old.states.entries key) (told result end at made (kept_at old.states.entries key) refl)) held clock

    -- it couldn't be stored
    store_done : (done : Result (Unit {0}) CoordFault) (fault : StoreFault) → Tells done (Ok (store_outcome fault)) → Wrote done → Wrote (Err (Store fault))
    store_done (Ok u) fault tells once = absurd (let clash : ⊥ = cc in clash)
    store_done (Err Invalid) fault tells once = absurd tells
    store_done (Err Unknown) fault tells once = absurd tells
    store_done (Err (FencedLeader n)) fault tells once = absurd tells
    store_done (Err (FencedState n)) fault tells once = absurd tells
    store_done (Err (TooMany n)) fault tells once = absurd tells
    store_done (Err (Store its)) fault tells once = let same : its ≡ fault = cc in subst (λ (f : StoreFault). Wrote (Err (Store f))) same once
    store_done (Err NoMemory) fault tells once = absurd (let clash : ⊥ = cc in clash)

    refused_told : (answer : VisitAnswer) (fault : StoreFault) (o : Option KeptState) → new.log ≡ old.log → kept_at old.states.entries key ≡ o
        → Told o (Ok (store_outcome fault)) → Kept_by (store_outcome fault) → Refused answer fault → Once (Ok answer)
    refused_told answer fault None same_log is told by refused =
        unstored answer fault same_log is (store_done told.done fault told.tells told.once) by refused
    refused_told answer fault (Some kept) same_log is told by refused = absurd (let e = told.1 in let clash : ⊥ = cc in clash)

    refused_by : (answer : VisitAnswer) (outcome : ThenOutcome) → outcome ≢ Done → new.log ≡ old.log → answer.ack ≡ acknowledged
        → IsEmptyAnswer outcome answer → ((group : List ℕ) → held_in holding new.windows group ≡ held_in holding old.windows group) → new.clock ≡ max old.clock now
        → Told (kept_at old.states.entries key) (Ok outcome) → Kept_by outcome → Once (Ok answer)
    refused_by answer Done not same_log ack empty held clock t by = absurd (not refl)
    refused_by answer (store_outcome fault) not same_log ack empty held clock t by =
        refused_told answer fault (kept_at old.states.entries key) same_log refl t by (record { ack = ack; empty = empty; held = held; clock = clock })

    pub refused : (answer : VisitAnswer) (outcome : ThenOutcome) → outcome ≢ Done → new.log ≡ old.log → answer.ack ≡ acknowledged
        → IsEmptyAnswer outcome answer → ((group : List ℕ) → held_in holding new.windows group ≡ held_in holding old.windows group) → new.clock ≡ max old.clock now
        → (result : Result ThenOutcome want) → result ≡ Ok outcome → (end : Log) → end ≡ log_in old.log → Made end result → Once (Ok answer)
    refused answer outcome not same_log ack empty held clock result is end at made =
        refused_by answer outcome not same_log ack empty held clock
        (subst (Told (kept_at old.states.entries key)) is (told result end at made (kept_at old.states.entries key) refl)) (kept_by result outcome is end at made)

    -- it is there, or was made
    abbrev its_state : ShareState
    its_state = state_for old.conf (log_in old.log) old.states.entries visit.group

    state_is : (o : Option KeptState) → kept_at old.states.entries key ≡ o → its_state ≡ unwrap_or (option_map view_of o) made
    state_is o is = ap (λ (s : Option ShareState). unwrap_or s made) (state_seen old.states.entries key ∙ ap (option_map view_of) is)

    done_so : (done : Result (Unit {0}) CoordFault) (answer : VisitAnswer) → Tells done (Ok Done) → Wrote done → kept_at old.states.entries key ≡ None → Kept_by Done
        → Took answer made → Once (Ok answer)
    done_so (Ok u) answer tells once is by took = acquired_first answer u is once by took
    done_so (Err Invalid) answer tells once is by took = absurd tells
    done_so (Err Unknown) answer tells once is by took = absurd tells
    done_so (Err (FencedLeader n)) answer tells once is by took = absurd tells
    done_so (Err (FencedState n)) answer tells once is by took = absurd tells
    done_so (Err (TooMany n)) answer tells once is by took = absurd tells
    done_so (Err (Store fault)) answer tells once is by took = absurd (let clash : ⊥ = cc in clash)
    done_so (Err NoMemory) answer tells once is by took = absurd (let clash : ⊥ = cc in clash)

    done_told : (answer : VisitAnswer) (o : Option KeptState) → kept_at old.states.entries key ≡ o → Told o (Ok Done) → Kept_by Done → Took answer its_state → Once (Ok answer)
    done_told answer None is told by took = done_so told.done answer told.tells told.once is by (subst (Took answer) (state_is None is) took)
    done_told answer (Some kept) is told by took = acquired_there answer kept is told.0 by (subst (Took answer) (state_is (Some kept) is) took)

    pub fetched : (answer : VisitAnswer) → Took answer its_state → (result : Result ThenOutcome want) → result ≡ Ok Done → (end : Log) → end ≡ log_in old.log → Made end result → Once (Ok answer)
    fetched answer took result is end at made =
        done_told answer (kept_at old.states.entries key) refl (subst (Told (kept_at old.states.entries key)) is (told result end at made (kept_at old.states.entries key) refl))
        (kept_by result Done is end at made) took

    -- what is held then
    pub held_by : (w1 w2 : List (List ℕ × W)) → ((group : List ℕ) → held_in holding w1 group ≡ held_in holding old.windows group)
        → ((group : List ℕ) → held_in holding w2 group ≡ held_in holding w1 group) → (plan : Plan) (state : ShareState)
        → IsPlanOf old.log.batches plan (acquired old.log.batches (table_of state (held_in holding w1 visit.group)) limits)
        → (end : ℕ) → end ≡ new.clock + old.conf.lock_ms
        → ((other : List ℕ) → held_in holding new.windows other ≡ with_held (held_in holding w2) visit.group
        (with_holds visit.member end (written_out plan.grants.items) (held_in holding w2 visit.group)) other)
        → (other : List ℕ) → held_in holding new.windows other ≡ held_then state other
    held_by w1 w2 h1 h2 plan state planned end at held other =
        let p = subst (λ (h : Held). IsPlanOf old.log.batches plan (acquired old.log.batches (table_of state h) limits)) (h1 visit.group) planned in
        let same : held_in holding w2 ≡ held_in holding old.windows = λ i group. (h2 group ∙ h1 group) i in
        held other
        ∙ ap (λ (f : List ℕ → Held). with_held f visit.group (with_holds visit.member end (written_out plan.grants.items) (f visit.group)) other) same
        ∙ ap (λ (t : List (ℕ × ℕ)). with_held (held_in holding old.windows) visit.group (with_holds visit.member end t table_held) other) p.taken.offsets
        ∙ ap (λ (e : ℕ). with_held (held_in holding old.windows) visit.group (with_holds visit.member e (acquired old.log.batches (table_of state table_held) limits).taken table_held) other) at

    -- what was planned, and then held
    pub took_by : (w1 w2 : List (List ℕ × W)) → ((group : List ℕ) → held_in holding w1 group ≡ held_in holding old.windows group)
        → ((group : List ℕ) → held_in holding w2 group ≡ held_in holding w1 group) → (plan : Plan) (state : ShareState)
        → IsPlanOf old.log.batches plan (acquired old.log.batches (table_of state (held_in holding w1 visit.group)) limits)
        → (answer : VisitAnswer) → answer.ack ≡ acknowledged → answer.then ≡ Done → answer.grants ≡ plan.grants.items
        → (told_there ≡ true → answer.batches ≡ numbered_bytes old.log.batches plan.numbers.items)
        → length answer.batches ≤ length (numbered_bytes old.log.batches plan.numbers.items) → (end : ℕ) → end ≡ new.clock + old.conf.lock_ms
        → ((other : List ℕ) → held_in holding new.windows other ≡ with_held (held_in holding w2) visit.group
        (with_holds visit.member end (written_out plan.grants.items) (held_in holding w2 visit.group)) other)
        → new.clock ≡ max old.clock now → Took answer state
    took_by w1 w2 h1 h2 plan state planned answer ack outcome grants batches size end at held clock =
        let p = subst (λ (h : Held). IsPlanOf old.log.batches plan (acquired old.log.batches (table_of state h) limits)) (h1 visit.group) planned in
        let are = numbered_is old.log.batches plan.numbers.items _ p.batches in
        record {
          ack = ack;
          outcome_is = outcome;
          grants = subst (AreRunsOf (acquired old.log.batches (table_of state table_held) limits).taken) (sym grants) p.taken;
          batches = λ told. batches told ∙ are;
          size = subst (λ (l : List ℕ). length answer.batches ≤ length l) are size;
          held = held_by w1 w2 h1 h2 plan state planned end at held;
          clock = clock;
        }

    -- ---- what the groups hold is well

    abbrev Wells : ShareStates → (List ℕ → Held) → Type 0
    Wells states held = AreKept old.conf old.log.batches states held

    -- the states are the same, or have the new table
    abbrev Moved : Type 0
    Moved = (states_of new.states.entries ≡ states_of old.states.entries)
        ⊎ ((share_state_at (states_of old.states.entries) key ≡ None) × (states_of new.states.entries ≡ insert_entry key_cmp (states_of old.states.entries) key made))

    moved_by : (done : Result (Unit {0}) CoordFault) → Wrote done → kept_at old.states.entries key ≡ None → Moved
    moved_by (Ok u) once none = inr (none_there none, made_states new.states.entries once.written)
    moved_by (Err e) once none = inl once.same

    moved_told : (result : Result ThenOutcome want) (o : Option KeptState) → kept_at old.states.entries key ≡ o → Told o result → Moved
    moved_told result None is told = moved_by told.done told.once is
    moved_told result (Some kept) is told = inl (ap (λ (s : StoreParts D). states_of s.entries) told.0)

    moved : (result : Result ThenOutcome want) (end : Log) → end ≡ log_in old.log → Made end result → Moved
    moved result end at made = moved_told result (kept_at old.states.entries key) refl (told result end at made (kept_at old.states.entries key) refl)

    wells_by : Moved → Wells (states_of old.states.entries) (held_in holding old.windows) → Wells (states_of new.states.entries) (held_in holding old.windows)
    wells_by (inl same) w = subst (λ (s : ShareStates). Wells s (held_in holding old.windows)) (sym same) w
    wells_by (inr more) w =
        let none : held_in holding old.windows visit.group ≡ [] = subst (λ (o : Option ShareState). HoldsWell old.log.batches o (held_in holding old.windows visit.group)) more.0 (w visit.group).0 in
        subst (λ (s : ShareStates). Wells s (held_in holding old.windows)) (sym more.1)
        (table_kept old.conf old.log.batches (states_of old.states.entries) (held_in holding old.windows) visit.group made w
        (subst (KeepsHolds old.log.batches (Some made)) (sym none) (none_kept old.log.batches (Some made))))

    pub wells_after : (result : Result ThenOutcome want) (end : Log) → end ≡ log_in old.log → Made end result
        → ((group : List ℕ) → held_in holding new.windows group ≡ held_in holding old.windows group)
        → Wells (states_of old.states.entries) (held_in holding old.windows) → Wells (states_of new.states.entries) (held_in holding new.windows)
    wells_after result end at made same w =
        same_kept old.conf old.log.batches (states_of new.states.entries) (held_in holding old.windows) (held_in holding new.windows) same (wells_by (moved result end at made) w)

    there_done : (done : Result (Unit {0}) CoordFault) → Tells done (Ok Done) → Wrote done → share_state_at (states_of new.states.entries) key ≡ Some made
    there_done (Ok u) tells once = ap (λ (s : ShareStates). share_state_at s key) (made_states new.states.entries once.written)
        ∙ set_found key_cmp keys_total keys_exact key made (states_of old.states.entries)
    there_done (Err Invalid) tells once = absurd tells
    there_done (Err Unknown) tells once = absurd tells
    there_done (Err (FencedLeader n)) tells once = absurd tells
    there_done (Err (FencedState n)) tells once = absurd tells
    there_done (Err (TooMany n)) tells once = absurd tells
    there_done (Err (Store fault)) tells once = absurd (let clash : ⊥ = cc in clash)
    there_done (Err NoMemory) tells once = absurd (let clash : ⊥ = cc in clash)

    there_told : (o : Option KeptState) → kept_at old.states.entries key ≡ o → Told o (Ok Done) → share_state_at (states_of new.states.entries) key ≡ Some its_state
    there_told None is told = there_done told.done told.tells told.once ∙ ap (λ (s : ShareState). Some s) (sym (state_is None is))
    there_told (Some kept) is told = ap (λ (s : StoreParts D). share_state_at (states_of s.entries) key) told.0
        ∙ state_seen old.states.entries key ∙ ap (option_map view_of) is ∙ ap (λ (s : ShareState). Some s) (sym (state_is (Some kept) is))

    pub wells_took : ((group : List ℕ) → held_in holding new.windows group ≡ held_then its_state group) → (result : Result ThenOutcome want) → result ≡ Ok Done
        → (end : Log) → end ≡ log_in old.log → Made end result → old.log.start ≤ end_of old.log.batches → AreHosted old.conf (log_in old.log) (states_of old.states.entries)
        → Wells (states_of old.states.entries) (held_in holding old.windows) → Wells (states_of new.states.entries) (held_in holding new.windows)
    wells_took held result is end at made starts hosted w =
        let there = there_told (kept_at old.states.entries key) refl (subst (Told (kept_at old.states.entries key)) is (told result end at made (kept_at old.states.entries key) refl)) in
        let first = wells_by (moved result end at made) w in
        let out = goes_out old.conf (log_in old.log) (states_of new.states.entries) key its_state (hosted_after result end at made starts hosted) there in
        let its : KeepsHolds old.log.batches (Some its_state) table_held = subst (λ (o : Option ShareState). KeepsHolds old.log.batches o table_held) there (first visit.group) in
        let more = kept_taken old.log.batches its_state table_held visit.member (new.clock + old.conf.lock_ms) limits out its in
        same_kept old.conf old.log.batches (states_of new.states.entries) (held_then its_state) (held_in holding new.windows) held
        (one_kept old.conf old.log.batches (states_of new.states.entries) (held_in holding old.windows) visit.group
        (with_holds visit.member (new.clock + old.conf.lock_ms) (acquired old.log.batches (table_of its_state table_held) limits).taken table_held) first
        (subst (λ (o : Option ShareState). KeepsHolds old.log.batches o
        (with_holds visit.member (new.clock + old.conf.lock_ms) (acquired old.log.batches (table_of its_state table_held) limits).taken table_held)) (sym there) more))
