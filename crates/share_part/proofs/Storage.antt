-- Acts on the table of a group, by what came of their write, as a step of the shard.
use Rattle.std.proofs.Common.{◌≡◌, ⊎_elim, inl, inr, refl, sym, ap, subst, ℕ, ◌+◌, ◌^◌, ◌<◌, ◌≤◌, List, length, Option, Some, None, Bool}
use Rattle.std.specs.BTreeMap.{insert_entry}
use Rattle.std.specs.Option.{IfSome, option_map}
use Rattle.coord_checkpoint.specs.Disks.{HasFailed}
use Rattle.share_model.specs.ForeignRules.{ShareStates}
use Rattle.share_model.specs.Held.{Held}
use Rattle.share_model.specs.Keys.{KeyParts, key_cmp}
use Rattle.share_model.specs.ShareStates.{ShareState}
use Rattle.share_model.specs.declared.fault.StoreFault.{StoreFault}
use Rattle.share_model.specs.declared.fault.StoreFault.TheVariants.{Device, Full}
use Rattle.part_log.specs.Logs.{IsStoredLog, log_in}
use Rattle.part_log.specs.Starts.{LogWrite}
use Rattle.share_coord.specs.Holding.{Holds}
use Rattle.share_coord.specs.Parts.{StoreParts}
use Rattle.share_coord.specs.Stored.{Entries, based}
use Rattle.share_coord.specs.Unwritten.{AreLevel}
use Rattle.share_coord.proofs.Once.{held_still}
use Rattle.share_coord.proofs.Recovered.{level_based}
use Rattle.share_part.specs.Acknowledging.{AreSettled, NameNone, NameOne, StoresActs}
use Rattle.share_part.specs.Failures.{AreQuiet, FailuresRose, RunOnBoth, StarveUnarmed}
use Rattle.share_part.specs.Hosting.{AreHosted, IsHosted, KeepsHolds, key_of}
use Rattle.share_coord.specs.States.{states_of}
use Rattle.share_part.specs.Settling.{Acts, IsSettled, held_after}
use Rattle.share_part.specs.Shards.{PartShardState, PartParts, Carries, IsPendingHosted, held_in, with_held}
use Rattle.state_records.specs.Spelling.{record_bytes}
use Rattle.share_part.specs.Storing.{IsActsStored, IsStored, StoresGroup}
use Rattle.share_part.specs.Tables.{table_of}
use Rattle.share_part.specs.Writes.{WritesActs}
use Rattle.share_part.proofs.Failing.{quiet_same, rose_either, starve_either}
use Rattle.share_part.proofs.Holding.{AreKept, kept_settled, same_kept, set_kept}
use Rattle.share_part.proofs.Seeing.{hosted_more, write_level}
use Rattle.share_part.proofs.Staying.{settled_hosted}
use Rattle.share_part.proofs.Stepping.{next, now_settled, now_states}
use Rattle.share_part.proofs.Visiting.{Keeping, carried, carries_with, shard_of}
use Rattle.edge_io.specs.Views.{DiskView}

module _ {D W : Type 0} (tries : Bool) (seen : D → DiskView) (holding : W → Held) (group : List ℕ) (acts : Acts) (old : PartParts D W) (states : StoreParts D)
    (windows : List (List ℕ × W)) (clock : ℕ) (sound : IsStoredLog old.log.batches) (few : old.conf.limit ≤ 10)
    (hosted : AreHosted old.conf (log_in old.log) (states_of old.states.entries))
    (kept : AreKept old.conf old.log.batches (states_of old.states.entries) (held_in holding old.windows)) where
  -- the shard behind the write
  abbrev pub behind : PartParts D W
  behind = record { conf = old.conf; log = old.log; states = states; windows = windows; clock = clock }

  abbrev was : Held
  was = held_in holding old.windows group

  abbrev key : KeyParts
  key = key_of old.conf group

  abbrev pub Rises : Type 0
  Rises = FailuresRose seen old.states states

  abbrev pub Same : Type 0
  Same = (other : List ℕ) → held_in holding windows other ≡ held_in holding old.windows other

  abbrev pub Ends : Type 0
  Ends = (other : List ℕ) → held_in holding windows other ≡ with_held (held_in holding old.windows) group (held_after acts was) other

  abbrev Failed : D → D → Type 0
  Failed = HasFailed seen

  abbrev pub Stores : Option StoreFault → Type 0
  Stores fault = StoresGroup seen Failed old.conf old.log.batches group acts was tries old.states states Same Ends fault

  abbrev Stored : Option StoreFault → Type 0
  Stored fault = IsActsStored seen Failed old.conf old.log.batches group acts was tries old.states states fault

  -- ---- what is stored

  module _ (fault : Option StoreFault) (st : Stored fault) (es : Entries) (w : IsStored old.states.entries key st.change.start st.change.runs es) where
    pub its_hosted : IsHosted old.conf (log_in old.log) key st.state
    its_hosted = hosted key st.state st.known

    pub its_kept : KeepsHolds old.log.batches (Some st.state) was
    its_kept = subst (λ (o : Option ShareState). KeepsHolds old.log.batches o was) st.known (kept group)

    abbrev pub its_next : ShareState
    its_next = next old.conf old.log.batches old.states.entries es group st.state was acts st.change its_hosted st.known st.is w

    pub its_settled : IsSettled old.conf.limit acts old.log.batches (table_of st.state was) its_next
    its_settled = now_settled old.conf old.log.batches old.states.entries es group st.state was acts st.change its_hosted st.known st.is w

    pub its_states : states_of es ≡ insert_entry key_cmp (states_of old.states.entries) key its_next
    its_states = now_states old.conf old.log.batches old.states.entries es group st.state was acts st.change its_hosted st.known st.is w

    are_settled : (batch : Option LogWrite) (pending : Option Entries) → AreSettled old.conf (shard_of seen holding old batch pending) group acts (states_of es)
    are_settled batch pending = record { state = st.state; next = its_next; known = st.known; settled = its_settled; is = its_states }

    set_hosted : AreHosted old.conf (log_in old.log) (states_of es)
    set_hosted = subst (AreHosted old.conf (log_in old.log)) (sym its_states) (hosted_more old.conf (log_in old.log) (states_of old.states.entries) key its_next hosted
        (settled_hosted old.conf old.log.batches group st.state was acts sound.rises few its_hosted its_kept.0 its_next its_settled))

    set_level : AreLevel old.log.start old.states.entries → AreLevel old.log.start es
    set_level h = write_level old.conf (log_in old.log) old.states.entries es w.checkpointed key _ w.is refl set_hosted h

    set_well : AreKept old.conf old.log.batches (states_of es) (with_held (held_in holding old.windows) group (held_after acts was))
    set_well = subst (λ (s : ShareStates). AreKept old.conf old.log.batches s (with_held (held_in holding old.windows) group (held_after acts was))) (sym its_states)
        (set_kept old.conf old.log.batches (states_of old.states.entries) (held_in holding old.windows) group its_next (held_after acts was) kept
        (kept_settled old.conf.limit acts old.log.batches st.state its_next was sound.rises its_settled its_kept))

  -- ---- what the shard keeps

  abbrev pub Stands : Type 0
  Stands = AreHosted old.conf (log_in old.log) (states_of states.entries) × AreKept old.conf old.log.batches (states_of states.entries) (held_in holding windows)

  pub stands_same : states_of states.entries ≡ states_of old.states.entries → Same → Stands
  stands_same is same = (
    subst (AreHosted old.conf (log_in old.log)) (sym is) hosted,
    same_kept old.conf old.log.batches (states_of states.entries) (held_in holding old.windows) (held_in holding windows) same
        (subst (λ (s : ShareStates). AreKept old.conf old.log.batches s (held_in holding old.windows)) (sym is) kept),
  )

  pub stands_stored : (fault : Option StoreFault) → Stores fault → Stands
  stands_stored None (inl n) = stands_same (ap (λ (s : StoreParts D). states_of s.entries) n.1) n.2
  stands_stored None (inr h) = (
    set_hosted None h.1 states.entries h.1.once.written,
    same_kept old.conf old.log.batches (states_of states.entries) (with_held (held_in holding old.windows) group (held_after acts was)) (held_in holding windows) h.2
        (set_well None h.1 states.entries h.1.once.written),
  )
  stands_stored (Some fault) h = stands_same h.1.once.same h.2

  -- ---- the step

  -- a step of the shard that leaves the log, and has this clock
  pub record Steps (Does : PartShardState → PartShardState → Type 0) (s : PartShardState) : Type 0 where
    pub then : PartShardState
    pub carries : Carries seen holding behind then
    pub log : then.log ≡ s.log
    pub clock_is : then.clock ≡ clock
    pub does : Does s then

  abbrev pub AllSteps : (PartShardState → PartShardState → Type 0) → Type 0
  AllSteps Does = (s : PartShardState) → Carries seen holding old s → Steps Does s

  -- the same states and holds
  abbrev shard_same : Option LogWrite → Option Entries → PartShardState
  shard_same batch pending = record {
    log = record { batches = old.log.batches; start = old.log.start; pending = batch };
    states = states_of old.states.entries;
    pending = option_map states_of pending;
    held = held_in holding old.windows;
    clock = clock;
  }

  pub same_carried : (batch : Option LogWrite) (was_pending pending : Option Entries) → Keeping seen holding old batch was_pending → states_of states.entries ≡ states_of old.states.entries
      → Holds seen states pending → IsPendingHosted old.conf (log_in old.log) (option_map states_of pending)
      → AreLevel old.log.start states.entries → IfSome pending (AreLevel old.log.start) → Same → Carries seen holding behind (shard_same batch pending)
  same_carried batch was_pending pending k entries holds fine level pending_level same =
      carries_with seen holding old behind batch was_pending pending (held_in holding old.windows) k refl (λ shard c. c) entries holds fine level pending_level (λ group. sym (same group))

  pub still : (Does : PartShardState → PartShardState → Type 0) → states ≡ old.states → Same
      → ((batch : Option LogWrite) (pending : Option Entries) → Does (shard_of seen holding old batch pending) (shard_same batch pending)) → AllSteps Does
  still Does is same does = carried seen holding old (Steps Does) (λ batch pending k. record {
    then = shard_same batch pending;
    carries = same_carried batch pending pending k (ap (λ (s : StoreParts D). states_of s.entries) is) (subst (λ (s : StoreParts D). Holds seen s pending) (sym is) k.holds) k.pending_hosted
        (subst (λ (s : StoreParts D). AreLevel old.log.start s.entries) (sym is) k.level) k.pending_level same;
    log = refl;
    clock_is = refl;
    does = does batch pending;
  })

  level_left : AreLevel old.log.start old.states.entries → (c : Bool) × (states.entries ≡ based c old.states.entries) → AreLevel old.log.start states.entries
  level_left h left = subst (AreLevel old.log.start) (sym left.1) (level_based old.log.start left.0 old.states.entries h)

  abbrev pub DoesActs : Option StoreFault → PartShardState → PartShardState → Type 0
  DoesActs fault s t = StoresActs old.conf Rises old.states.journal.end s group acts t fault

  pub stored_steps : RunOnBoth seen old.states states → (fault : Option StoreFault) → Stores fault → AllSteps (DoesActs fault)
  stored_steps runs None (inl n) = still (DoesActs None) n.1 n.2 (λ batch pending. inl (n.0, record { states = refl; pending = refl; held = refl }))
  stored_steps runs None (inr h) = carried seen holding old (Steps (DoesActs None)) (λ batch pending k. record {
    then = record {
      log = record { batches = old.log.batches; start = old.log.start; pending = batch };
      states = states_of states.entries;
      pending = None;
      held = with_held (held_in holding old.windows) group (held_after acts was);
      clock = clock;
    };
    carries = record {
      log = k.log;
      pending = None;
      holds = h.1.once.kept pending k.holds;
      states = refl;
      pending_is = refl;
      held = λ group. sym (h.2 group);
      clock = refl;
      hosted = set_hosted None h.1 states.entries h.1.once.written;
      pending_hosted = tt;
      level = set_level None h.1 states.entries h.1.once.written k.level;
      pending_level = tt;
    };
    log = refl;
    clock_is = refl;
    does = inr (h.0, record { states = are_settled None h.1 states.entries h.1.once.written batch pending; nothing = refl; held = refl });
  })
  stored_steps runs (Some Device) h = carried seen holding old (Steps (DoesActs (Some Device))) (λ batch pending k.
      let rises : Rises = rose_either seen old.states states runs (h.1.once.device refl).0 in
      ⊎_elim
      (λ holds. record {
        then = shard_same batch pending;
        carries = same_carried batch pending pending k h.1.once.same holds.1 k.pending_hosted (level_left k.level h.1.once.left) k.pending_level h.2;
        log = refl;
        clock_is = refl;
        does = (h.0, rises, record { states = refl; held = refl; pending = inl refl });
      })
      (λ other. ⊎_elim (λ none. record {
        then = shard_same batch None;
        carries = same_carried batch pending None k h.1.once.same none tt (level_left k.level h.1.once.left) tt h.2;
        log = refl;
        clock_is = refl;
        does = (h.0, rises, record { states = refl; held = refl; pending = inr (inl refl) });
      })
      (λ lost. record {
        then = shard_same batch (Some lost.0);
        carries = same_carried batch pending (Some lost.0) k h.1.once.same lost.2 (set_hosted (Some Device) h.1 lost.0 lost.1) (level_left k.level h.1.once.left)
            (set_level (Some Device) h.1 lost.0 lost.1 k.level) h.2;
        log = refl;
        clock_is = refl;
        does = (h.0, rises, record { states = refl; held = refl; pending = inr (inr (states_of lost.0, refl, are_settled (Some Device) h.1 lost.0 lost.1 batch pending)) });
      }) other)
      (h.1.once.failed pending k.holds))
  stored_steps runs (Some (Full at)) h = carried seen holding old (Steps (DoesActs (Some (Full at)))) (λ batch pending k.
      let full = h.1.one.full at refl in record {
        then = shard_same batch pending;
        carries = same_carried batch pending pending k h.1.once.same (held_still seen old.states states (h.1.once.unchanged (λ e. let never : ⊥ = cc in never)) pending k.holds) k.pending_hosted (level_left k.level h.1.once.left) k.pending_level h.2;
        log = refl;
        clock_is = refl;
        does = (
          h.0,
          full.0,
          record { states = refl; pending = refl; held = refl },
          record {
            before = old.states.entries;
            state = h.1.state;
            change = h.1.change;
            one = full.1.0;
            is_before = refl;
            known = h.1.known;
            is_change = h.1.is;
            is_one = full.1.1;
            past = subst (λ (n : ℕ). 2 ^ 62 < n + (length (record_bytes full.1.0) + 5)) full.0 full.1.2;
          },
        );
      })

  -- where nothing is named, the store is as it was
  pub stored_none : (fault : Option StoreFault) → Stores fault → NameNone acts → states ≡ old.states
  stored_none None (inl n) nothing = n.1
  stored_none None (inr h) nothing = absurd (clash_named h.0 nothing)
    where
      clash_named : NameOne acts → NameNone acts → ⊥
      clash_named one none = let e = none one.0 in let some = one.1 in let clash : ⊥ = cc in clash
  stored_none (Some fault) h nothing = absurd (let e = nothing h.0.0 in let some = h.0.1 in let clash : ⊥ = cc in clash)

  -- a device fault
  pub stored_device : (fault : Option StoreFault) → Stores fault → fault ≡ Some Device → StarveUnarmed seen old.states states
  stored_device None h is = absurd (let clash : ⊥ = cc in clash)
  stored_device (Some Device) h is = starve_either seen old.states states (h.1.once.device refl).0
  stored_device (Some (Full at)) h is = absurd (let clash : ⊥ = cc in clash)

  -- no device call failed but those of a checkpoint, where none is told
  pub stored_quiet : Stores None → AreQuiet seen old.states states
  stored_quiet (inl n) = quiet_same seen old.states states n.1
  stored_quiet (inr h) = h.1.once.quiet

  -- which record is stored
  pub stored_writes : (fault : Option StoreFault) → Stores fault → WritesActs seen old.conf old.log.batches group acts was tries old.states states fault
  stored_writes None (inl n) = inl (n.0, n.1)
  stored_writes None (inr h) = inr (h.0, h.1)
  stored_writes (Some fault) h = (h.0, h.1)
