-- A fetch of which a batch couldn't be read, as a step of the shard.
use Rattle.std.proofs.Common.{◌≡◌, ◌≢◌, ◌∙◌, refl, sym, ap, subst, ℕ, pos, max, List, []}
use Rattle.std.specs.Prelude.{Option, Some, None, Result, Ok, Err, IsSome, true}
use Rattle.std.specs.BTreeMap.{insert_entry}
use Rattle.std.specs.Option.{option_map}
use Rattle.flex_fields.specs.declared.fault.NoMemory.{NoMemory as want}
use Rattle.coord_checkpoint.specs.Disks.{HasFailed}
use Rattle.share_model.specs.ForeignRules.{ShareStates, share_state_at}
use Rattle.share_model.specs.Held.{Held}
use Rattle.share_model.specs.Keys.{KeyParts, key_cmp}
use Rattle.share_model.specs.ShareStates.{ShareState}
use Rattle.share_model.specs.declared.fault.StoreFault.TheVariants.{Device}
use Rattle.share_model.specs.declared.visit.AckOutcome.TheVariants.{Done as acknowledged}
use Rattle.share_model.specs.declared.visit.Then.TheVariants.{Fetch}
use Rattle.share_model.specs.declared.visit.ThenOutcome.{ThenOutcome}
use Rattle.share_model.specs.declared.visit.ThenOutcome.TheVariants.{Done, Store as store_outcome}
use Rattle.share_model.specs.declared.visit.Visit.{Visit}
use Rattle.share_model.specs.declared.visit.VisitAnswer.{VisitAnswer}
use Rattle.part_log.specs.Logs.{log_in}
use Rattle.part_log.specs.Starts.{LogWrite}
use Rattle.part_log.proofs.Keeping.{keeps_start}
use Rattle.part_log.proofs.Looking.{carries_on}
use Rattle.share_coord.specs.Calls.{IsInitialised}
use Rattle.share_coord.specs.Holding.{Holds, WritesOnce}
use Rattle.share_coord.specs.Parts.{StoreParts}
use Rattle.share_coord.specs.Stored.{kept_at}
use Rattle.share_coord.specs.Unwritten.{AreLevel}
use Rattle.share_coord.specs.declared.fault.CoordFault.{CoordFault}
use Rattle.share_coord.specs.declared.fault.CoordFault.TheVariants.{Invalid, Unknown, FencedLeader, FencedState, TooMany, Store, NoMemory}
use Rattle.share_coord.specs.Parts.{KeptState}
use Rattle.share_part.specs.declared.limits.Limits.{Limits}
use Rattle.share_part.specs.Failures.{AreQuiet, FailuresRose}
use Rattle.share_part.specs.Hosting.{PartConfParts, AreHosted, key_of}
use Rattle.share_coord.specs.States.{states_of}
use Rattle.share_part.specs.Making.{MakesTableOnce, Tells, state_for}
use Rattle.share_part.specs.Once.{FollowsOnce, ReadsBatches, reading_of}
use Rattle.share_part.specs.Following.{HasItsTable, HasNothingToWrite, IsFetch, IsEmptyAnswer, IsUnread, StepsThen, TakesBatch}
use Rattle.share_part.specs.Shards.{PartShardState, PartParts, Carries, held_in, new_state, first_start}
use Rattle.share_part.specs.Tables.{table_of}
use Rattle.share_part.specs.Walks.{acquired}
use Rattle.share_part.specs.Writes.{WritesThen}
use Rattle.share_part.proofs.Failing.{quiet_same}
use Rattle.share_part.proofs.Seeing.{state_seen, view_of, hosted_more, new_hosted, made_is, write_level}
use Rattle.edge_io.specs.Views.{DiskView}
use Rattle.share_part.proofs.Visiting.{carried, carries_with, shard_of}

module _ {D W : Type 0} (seen : D → DiskView) (holding : W → Held) (now : ℕ) (visit : Visit) (old new : PartParts D W)
    (conf : new.conf ≡ old.conf) (log : ReadsBatches seen (true ≡ true) old.log new.log)
    (limits : Limits) (is_fetch : visit.then ≡ Fetch limits.records limits.bytes limits.first)
    (answer : VisitAnswer) (ack : answer.ack ≡ acknowledged) (empty : IsEmptyAnswer (store_outcome Device) answer)
    (held : (group : List ℕ) → held_in holding new.windows group ≡ held_in holding old.windows group)
    (clock : new.clock ≡ max old.clock now)
    (some : (acquired old.log.batches (table_of (state_for old.conf (log_in old.log) old.states.entries visit.group)
    (held_in holding old.windows visit.group)) limits).batches ≢ []) where
  abbrev its_key : KeyParts
  its_key = key_of old.conf visit.group

  abbrev its_table : ShareState
  its_table = new_state old.conf (log_in old.log)

  abbrev Unread : Type 0
  Unread = FollowsOnce seen holding now visit old new (Ok answer)

  abbrev Leaves : PartShardState → Type 0
  Leaves s = (t : PartShardState) × Carries seen holding new t
      × StepsThen old.conf (reading_of seen old.log new.log true) (FailuresRose seen old.states new.states) old.states.journal.end s now visit
      answer t

  abbrev shard_left : Option LogWrite → ShareStates → Option ShareStates → PartShardState
  shard_left batch states pending = record {
    log = record { batches = old.log.batches; start = old.log.start; pending = batch };
    states = states;
    pending = pending;
    held = held_in holding old.windows;
    clock = new.clock;
  }

  is_unread : (s t : PartShardState) (o : Option ShareState) → TakesBatch old.conf s visit (Fetch limits.records limits.bytes limits.first)
      → share_state_at s.states its_key ≡ o → HasItsTable old.conf s visit t o → t.held ≡ s.held → IsUnread old.conf (reading_of seen old.log new.log true).rose s visit answer t
  is_unread s t o takes is table same = record {
    asked = subst (TakesBatch old.conf s visit) (sym is_fetch) takes;
    risen = log.calls.rose refl;
    empty = empty;
    table = subst (HasItsTable old.conf s visit t) (sym is) table;
    held = same;
  }

  -- the group had a table
  left_there : (kept : KeptState) → kept_at old.states.entries its_key ≡ Some kept → new.states ≡ old.states
      → (s : PartShardState) → Carries seen holding old s → Leaves s
  left_there kept is states = carried seen holding old Leaves (λ batch pending k. (
    shard_left batch (states_of old.states.entries) (option_map states_of pending),
    carries_with seen holding old new batch pending pending (held_in holding old.windows) k conf (carries_on seen old.log new.log log.reads)
        (ap (λ (s : StoreParts D). states_of s.entries) states) (subst (λ (s : StoreParts D). Holds seen s pending) (sym states) k.holds) k.pending_hosted
        (subst (λ (s : StoreParts D). AreLevel old.log.start s.entries) (sym states) k.level) k.pending_level (λ group. sym (held group)),
    record {
      clock = clock;
      log = refl;
      ack = ack;
      does = is_unread (shard_of seen holding old batch pending) (shard_left batch (states_of old.states.entries) (option_map states_of pending))
          (Some kept.view) some (state_seen old.states.entries its_key ∙ ap (option_map view_of) is) (refl, refl) refl;
    },
  ))

  abbrev Fresh : Result (Unit {0}) CoordFault → Type 0
  Fresh done = WritesOnce seen (HasFailed seen) (IsInitialised old.states.entries its_key (pos 0) (pos (first_start old.conf.reset (log_in old.log))))
      old.states new.states done

  unseen : kept_at old.states.entries its_key ≡ None → share_state_at (states_of old.states.entries) its_key ≡ None
  unseen none = state_seen old.states.entries its_key ∙ ap (option_map view_of) none

  -- its table was made
  left_made : (done : Unit {0}) → kept_at old.states.entries its_key ≡ None → Fresh (Ok done) → (s : PartShardState) → Carries seen holding old s → Leaves s
  left_made done none once = carried seen holding old Leaves (λ batch pending k.
      let states : states_of new.states.entries ≡ insert_entry key_cmp (states_of old.states.entries) its_key its_table =
      made_is old.conf (log_in old.log) old.states.entries new.states.entries visit.group once.written in
      let hosted : AreHosted old.conf (log_in old.log) (insert_entry key_cmp (states_of old.states.entries) its_key its_table) =
      hosted_more old.conf (log_in old.log) (states_of old.states.entries) its_key its_table k.hosted
      (new_hosted old.conf (log_in old.log) (keeps_start seen old.log batch k.log.keeps) visit.group) in (
        shard_left batch (states_of new.states.entries) None,
        record {
          log = carries_on seen old.log new.log log.reads (record { batches = old.log.batches; start = old.log.start; pending = batch }) k.log;
          pending = None;
          holds = once.kept pending k.holds;
          states = refl;
          pending_is = refl;
          held = λ group. sym (held group);
          clock = refl;
          hosted = subst (λ (c : PartConfParts). AreHosted c (log_in old.log) (states_of new.states.entries)) (sym conf)
              (subst (AreHosted old.conf (log_in old.log)) (sym states) hosted);
          pending_hosted = tt;
          level = write_level old.conf (log_in old.log) old.states.entries new.states.entries once.written.checkpointed its_key _ once.written.is refl
              (subst (AreHosted old.conf (log_in old.log)) (sym states) hosted) k.level;
          pending_level = tt;
        },
        record {
          clock = clock;
          log = refl;
          ack = ack;
          does = is_unread (shard_of seen holding old batch pending) (shard_left batch (states_of new.states.entries) None) None some (unseen none)
              (states, refl) refl;
        },
      ))

  -- then there was something to write
  not_there : kept_at old.states.entries its_key ≡ None → (s : PartShardState) → Carries seen holding old s
      → HasNothingToWrite old.conf s visit visit.then → new.states ≡ old.states
  not_there none s c nothing =
      let there : IsSome (share_state_at s.states its_key) = subst (HasNothingToWrite old.conf s visit) is_fetch nothing in
      let gone : share_state_at s.states its_key ≡ None = ap (λ (states : ShareStates). share_state_at states its_key) c.states ∙ unseen none in
      let never : IsSome {T = ShareState} None = subst (λ (o : Option ShareState). IsSome o) gone there in
      absurd (let clash : ⊥ = cc in clash)

  module _ (result : Result ThenOutcome want) (is_done : result ≡ Ok Done)
      (makes : MakesTableOnce seen (HasFailed seen) old.conf visit.group (log_in old.log) old.states new.states result) where
    abbrev Making : Result ThenOutcome want → Type 0
    Making r = MakesTableOnce seen (HasFailed seen) old.conf visit.group (log_in old.log) old.states new.states r

    unread_by : ((s : PartShardState) → Carries seen holding old s → HasNothingToWrite old.conf s visit visit.then → new.states ≡ old.states)
        → AreQuiet seen old.states new.states → ((s : PartShardState) → Carries seen holding old s → Leaves s) → Unread
    unread_by unwritten quiet steps = record {
      unread = true;
      steps = steps;
      memory = tt;
      records = subst (WritesThen seen old.conf (log_in old.log) visit (held_in holding old.windows visit.group) old.states new.states Done) (sym is_fetch)
          (subst Making is_done makes);
      quiet = λ none. quiet;
      sound = λ is. absurd (let never : Done ≡ store_outcome Device = is in let clash : ⊥ = cc in clash);
      unwritten = unwritten;
      log = log;
      unstored = λ fault is. absurd (let never : Done ≡ store_outcome fault = is in let clash : ⊥ = cc in clash);
      others = λ away. absurd (away (subst IsFetch (sym is_fetch) tt));
      conf = conf;
    }

    unread_made : (done : Result (Unit {0}) CoordFault) → Tells done (Ok Done) → Fresh done → kept_at old.states.entries its_key ≡ None → Unread
    unread_made (Ok u) tells once none = unread_by (not_there none) once.quiet (left_made u none once)
    unread_made (Err Invalid) tells once none = absurd tells
    unread_made (Err Unknown) tells once none = absurd tells
    unread_made (Err (FencedLeader n)) tells once none = absurd tells
    unread_made (Err (FencedState n)) tells once none = absurd tells
    unread_made (Err (TooMany n)) tells once none = absurd tells
    unread_made (Err (Store fault)) tells once none = absurd (let clash : ⊥ = cc in clash)
    unread_made (Err NoMemory) tells once none = absurd (let clash : ⊥ = cc in clash)

    unread_found : (o : Option KeptState) → kept_at old.states.entries its_key ≡ o → Unread
    unread_found None none =
        let m = makes.absent none in
        unread_made m.done (subst (Tells m.done) is_done m.tells) m.once none
    unread_found (Some kept) is =
        let states = (makes.there (subst (λ (o : Option KeptState). IsSome o) (sym is) refl)).0 in
        unread_by (λ s c nothing. states) (quiet_same seen old.states new.states states) (left_there kept is states)

    pub unread_so : Unread
    unread_so = unread_found (kept_at old.states.entries its_key) refl
