-- A delete as a step of the shard.
use Rattle.std.proofs.Common.{◌≡◌, ◌≢◌, ◌⊎◌, ⊎_elim, ◌∙◌, inl, inr, refl, sym, ap, subst, arith, ℕ, ◌+◌, ◌^◌, ◌<◌, ◌≤◌, max, pos, List, Option, Some, None}
use Rattle.std.specs.Prelude.{ℤ, Result, Ok, Err, ◌↔◌}
use Rattle.std.proofs.lemmas.Bool.{cases_lt}
use Rattle.std.specs.Option.{IfSome, option_map}
use Rattle.edge_io.specs.Causes.{Rose}
use Rattle.edge_io.specs.Moments.{LeavesOnly}
use Rattle.edge_io.specs.Views.{DiskView}
use Rattle.gate_journal.specs.Journals.{IsQuiet}
use Rattle.share_model.specs.Held.{Held}
use Rattle.share_model.specs.Logs.{IsLog, end_of}
use Rattle.share_model.specs.Pending.{WithPending}
use Rattle.share_model.specs.declared.delete.DeleteAnswer.{DeleteAnswer}
use Rattle.share_model.specs.declared.delete.DeleteAnswer.TheVariants.{Done, OutOfRange, Store}
use Rattle.share_model.specs.declared.fault.StoreFault.{StoreFault}
use Rattle.share_model.specs.declared.fault.StoreFault.TheVariants.{Device, Full}
use Rattle.part_log.specs.Logs.{IsLogText, IsStoredLog, IsWithin, Keeps, LogParts, RaisesOnce, and_pending, log_in}
use Rattle.part_log.specs.Shards.{CarriesLog, HasRoomForMark, IsLogOf, LogShardState, StepsRaise, log_at}
use Rattle.part_log.specs.Starts.{Log, LogWrite}
use Rattle.part_log.specs.Starts.LogWrite.{Marks}
use Rattle.share_coord.specs.Holding.{Holds}
use Rattle.share_coord.specs.Parts.{StoreParts}
use Rattle.share_coord.specs.Raising.{raised_states}
use Rattle.share_coord.specs.States.{states_of}
use Rattle.share_coord.specs.Stored.{Entries}
use Rattle.share_coord.specs.Unwritten.{AreLevel, raised_all}
use Rattle.share_coord.proofs.Recovered.{level_all, level_pending, pending_all, states_all}
use Rattle.share_part.specs.Deleting.{Deletes, DeletesOnce, IsFoundDeleting, IsToDelete, KeepsStore, holds_from, target_of}
use Rattle.share_part.specs.Hosting.{AreHosted}
use Rattle.share_part.specs.Shards.{Carries, IsPendingHosted, PartParts, PartShardState, held_in}
use Rattle.share_part.proofs.Raised.{hosted_raised, pending_raised}

-- a log that could not be raised is as it was
pub unraised : (rose : Type 0) (end : ℕ) (old new : LogShardState) (start : ℕ) (fault : StoreFault) → StepsRaise rose end old start (Err fault) new
    → (new.batches ≡ old.batches) × (new.start ≡ old.start)
unraised rose end old new start Device s = (s.1.batches, s.1.start_is)
unraised rose end old new start (Full at) s = (ap (λ (l : LogShardState). l.batches) s.0, ap (λ (l : LogShardState). l.start) s.0)

pub unraised_log : {D : Type 0} (seen : D → DiskView) (old new : LogParts D) (start : ℕ) (fault : StoreFault) → RaisesOnce seen old new start (Err fault)
    → (new.batches ≡ old.batches) × (new.start ≡ old.start)
unraised_log seen old new start Device once = let d = (once.device refl).0 in (d.batches, d.start)
unraised_log seen old new start (Full at) once =
    let same = once.unchanged at refl in (ap (λ (l : LogParts _). l.batches) same, ap (λ (l : LogParts _). l.start) same)

-- ---- which answer tells that there is no such offset

pub is_none : (target : Option ℕ) (told end at : ℕ) → target ≡ None → told ≡ at → (OutOfRange told ≡ OutOfRange end) ↔ ((target ≡ None) × (end ≡ at))
is_none target told end at none is = (λ e. (none, let same : told ≡ end = cc in sym same ∙ is), λ h. ap (λ (n : ℕ). OutOfRange n) (is ∙ sym h.1))

pub not_none : (target : Option ℕ) (to : ℕ) (answer : DeleteAnswer) (end at : ℕ) → target ≡ Some to → (answer ≡ OutOfRange end → ⊥)
    → (answer ≡ OutOfRange end) ↔ ((target ≡ None) × (end ≡ at))
not_none target to answer end at some other =
    (λ e. absurd (other e), λ h. absurd (let never : ◌≡◌ {A = Option ℕ} (Some to) None = sym some ∙ h.0 in let clash : ⊥ = cc in clash))

-- the disks of the tables stay
pub same_journal : {D : Type 0} (answer : DeleteAnswer) (before after : StoreParts D) → KeepsStore answer before after → after.journal ≡ before.journal
same_journal {D} answer before after keeps = ⊎_elim (λ same. ap (λ (s : StoreParts D). s.journal) same) (λ raised. ap (λ (s : StoreParts D). s.journal) raised.2) keeps

module _ {D W : Type 0} (seen : D → DiskView) (holding : W → Held) (now : ℕ) (to : ℤ) (old : PartParts D W) (clock : ℕ) (at : clock ≡ max old.clock now) where
  -- with another log and the raised clock
  abbrev with_log : LogParts D → PartParts D W
  with_log log = record { conf = old.conf; log = log; states = old.states; windows = old.windows; clock = clock }

  logs_same : (s : PartShardState) → Carries seen holding old s → log_in old.log ≡ log_at s.log
  logs_same s c = λ i. record { batches = sym c.log.batches i; start = sym c.log.start i }

  clock_is : (s : PartShardState) → Carries seen holding old s → clock ≡ max s.clock now
  clock_is s c = at ∙ ap (λ (n : ℕ). max n now) (sym c.clock)

  -- what a crash may leave of the log at a moment
  abbrev Leaves : LogShardState → List ℕ → Type 0
  Leaves log = IsFoundDeleting log to

  -- ---- nothing is deleted

  module _ (only_now : (d : D) (c : List ℕ) → (seen d).since (seen d).moment c → (seen d).image c) where
    log_there : (s : PartShardState) → Carries seen holding old s → (x : List ℕ) → (seen old.log.journal.disk).image x → IsLogOf s.log x
    log_there s c x image = subst (λ (l : Log). WithPending (IsLogText x) l (and_pending l s.log.pending)) (logs_same s c) (c.log.keeps.images x image)

    abbrev later : PartShardState → PartShardState
    later s = record { log = s.log; states = s.states; pending = s.pending; held = s.held; clock = clock }

    later_carried : (s : PartShardState) → Carries seen holding old s → Carries seen holding (with_log old.log) (later s)
    later_carried s c = record {
      log = c.log;
      pending = c.pending;
      holds = c.holds;
      states = c.states;
      pending_is = c.pending_is;
      held = c.held;
      clock = refl;
      hosted = c.hosted;
      pending_hosted = c.pending_hosted;
      level = c.level;
      pending_level = c.pending_level;
    }

    abbrev Nothing : DeleteAnswer → Type 0
    Nothing answer = (s : PartShardState) → Carries seen holding old s
        → Deletes (Rose (seen old.log.journal.disk).faults (seen old.log.journal.disk).faults) old.log.journal.end s to answer (later s)

    none_deleted : (answer : DeleteAnswer) → answer ≢ Store Device → Nothing answer → DeletesOnce seen holding now to old (with_log old.log) answer
    none_deleted answer other does = record {
      steps = λ s c. (later s, later_carried s c, record { clock = clock_is s c; does = does s c });
      quiet = λ none told. refl;
      sound = λ is. absurd (other is);
      any_moment = λ s c. record { later = omega arith; each = λ x here. inl (log_there s c x (only_now old.log.journal.disk x here)); before = λ t x le was. inl was };
      unwritten = λ none. refl;
      ends = omega arith;
      states = inl refl;
      conf = refl;
    }

    -- there is no such offset
    pub out_of_range : target_of (log_in old.log) to ≡ None → (end : ℕ) → end ≡ end_of old.log.batches
        → DeletesOnce seen holding now to old (with_log old.log) (OutOfRange end)
    out_of_range none end is = none_deleted (OutOfRange end) (λ e. let clash : ⊥ = cc in clash) (λ s c. (
      ap (λ (l : Log). target_of l to) (sym (logs_same s c)) ∙ none,
      is ∙ ap end_of (sym c.log.batches),
      refl,
      record { states = refl; pending = refl; held = refl },
    ))

    -- the log starts there or behind already
    pub deleted_before : (target start : ℕ) → target_of (log_in old.log) to ≡ Some target → target ≤ old.log.start → start ≡ old.log.start
        → DeletesOnce seen holding now to old (with_log old.log) (Done start)
    deleted_before target start is gone same = none_deleted (Done start) (λ e. let clash : ⊥ = cc in clash) (λ s c. (
      target,
      ap (λ (l : Log). target_of l to) (sym (logs_same s c)) ∙ is,
      inl (record {
        gone = (let from = c.log.start in omega (arith, gone, from));
        start_is = same ∙ sym c.log.start;
        log = refl;
        still = record { states = refl; pending = refl; held = refl };
      }),
    ))

  -- ---- a mark

  module _ (log : LogParts D) (target : ℕ) (result : Result (Unit {0}) StoreFault) (once : RaisesOnce seen old.log log target result)
      (is_target : target_of (log_in old.log) to ≡ Some target) (above : old.log.start < target)
      (steps : (shard : LogShardState) → CarriesLog seen old.log shard → (after : LogShardState) × CarriesLog seen log after
      × StepsRaise (Rose (seen old.log.journal.disk).faults (seen log.journal.disk).faults) old.log.journal.end shard target result after) where
    abbrev Rises : Type 0
    Rises = Rose (seen old.log.journal.disk).faults (seen log.journal.disk).faults

    to_delete : (s : PartShardState) → Carries seen holding old s → IsToDelete (log_at s.log) to target
    to_delete s c = subst (λ (l : Log). IsToDelete l to target) (logs_same s c) (is_target, above)

    -- each moment
    abbrev with_pending : Option LogWrite → LogShardState
    with_pending pending = record { batches = old.log.batches; start = old.log.start; pending = pending }

    found : (pending : Option LogWrite) (x : List ℕ) → IsWithin (log_in old.log) pending (Marks target) x → Leaves (with_pending pending) x
    found pending x h = ⊎_elim (λ w. inl w) (λ w. inr (target, (is_target, above), inr w)) h

    moments_at : (pending : Option LogWrite) → Keeps seen old.log pending → LeavesOnly seen old.log.journal.disk log.journal.disk (Leaves (with_pending pending))
    moments_at pending keeps =
        let m = once.any_moment pending keeps in
        record {
          later = m.later;
          each = λ x here. found pending x (m.each x here);
          before = λ t x le was. ⊎_elim (λ w. inl w) (λ w. inr (found pending x w)) (m.before t x le was);
        }

    moments : (s : PartShardState) → Carries seen holding old s → LeavesOnly seen old.log.journal.disk log.journal.disk (Leaves s.log)
    moments s c =
        let is : with_pending s.log.pending ≡ s.log = λ i. record { batches = sym c.log.batches i; start = sym c.log.start i; pending = s.log.pending } in
        subst (λ (l : LogShardState). LeavesOnly seen old.log.journal.disk log.journal.disk (Leaves l)) is (moments_at s.log.pending c.log.keeps)

    -- its journal never ends before where it did
    later_by : (r : Result (Unit {0}) StoreFault) → RaisesOnce seen old.log log target r → old.log.journal.end ≤ log.journal.end
    later_by (Ok done) o = let ends = o.ok.end in omega (arith, ends)
    later_by (Err Device) o = let ends = (o.device refl).0.end in omega (arith, ends)
    later_by (Err (Full end)) o = let ends = ap (λ (l : LogParts D). l.journal.end) (o.unchanged end refl) in omega (arith, ends)

    -- where there is no room nothing is written
    unwritten : (HasRoomForMark old.log.journal.end → ⊥) → log ≡ old.log
    unwritten none = elim (cases_lt (2 ^ 62) (old.log.journal.end + 13)) [
      | inl past ↦ once.unchanged old.log.journal.end ((once.full old.log.journal.end).1 (refl, past))
      | inr le ↦ absurd (none le)
    ]

    quiet_by : (r : Result (Unit {0}) StoreFault) → RaisesOnce seen old.log log target r → r ≢ Err Device → IsQuiet seen old.log.journal.disk log.journal.disk
    quiet_by (Ok done) o none = o.quiet
    quiet_by (Err Device) o none = absurd (none refl)
    quiet_by (Err (Full end)) o none = λ told. ap (λ (l : LogParts D). (seen l.journal.disk).faults) (o.unchanged end refl)

    -- it couldn't be stored
    pub unstored : (fault : StoreFault) → result ≡ Err fault → DeletesOnce seen holding now to old (with_log log) (Store fault)
    unstored fault is = record {
      steps = λ s c.
          let st = steps s.log c.log in
          let step = subst (λ (r : Result (Unit {0}) StoreFault). StepsRaise Rises old.log.journal.end s.log target r st.0) is st.2 in
          let same = unraised Rises old.log.journal.end s.log st.0 target fault step in
          let logs : log_at s.log ≡ log_at st.0 = λ i. record { batches = sym same.0 i; start = sym same.1 i } in (
            record { log = st.0; states = s.states; pending = s.pending; held = s.held; clock = clock },
            record {
              log = st.1;
              pending = c.pending;
              holds = c.holds;
              states = c.states;
              pending_is = c.pending_is;
              held = c.held;
              clock = refl;
              hosted = subst (λ (l : Log). AreHosted old.conf l s.states) logs c.hosted;
              pending_hosted = subst (λ (l : Log). IsPendingHosted old.conf l s.pending) logs c.pending_hosted;
              level = subst (λ (n : ℕ). AreLevel n old.states.entries) (sym same.1) c.level;
              pending_level = subst (λ (n : ℕ). IfSome c.pending (AreLevel n)) (sym same.1) c.pending_level;
            },
            record { clock = clock_is s c; does = (target, to_delete s c, step, record { states = refl; pending = refl; held = refl }) },
          );
      quiet = λ none. quiet_by result once (λ e. none (ap (λ (f : StoreFault). Store f) (let same : fault ≡ Device = fault_is (sym is ∙ e) in same)));
      sound = λ e. (once.device (is ∙ ap (λ (f : StoreFault). Err f) (let same : fault ≡ Device = cc in same))).2;
      any_moment = moments;
      unwritten = λ none. unwritten (λ room. none target (is_target, above) room);
      ends = later_by result once;
      states = inl refl;
      conf = refl;
    }
      where
        fault_is : ◌≡◌ {A = Result (Unit {0}) StoreFault} (Err fault) (Err Device) → fault ≡ Device
        fault_is e = cc

    -- it is stored, and each table starts there or behind
    module _ (states : StoreParts D) (windows : List (List ℕ × W)) (sound : IsStoredLog old.log.batches)
        (entries : states.entries ≡ raised_all (pos target) old.states.entries) (journal : states.journal ≡ old.states.journal)
        (room : states.room ≡ old.states.room)
        (holds : (pending : Option Entries) → Holds seen old.states pending → Holds seen states (option_map (raised_all (pos target)) pending))
        (held : (group : List ℕ) → held_in holding windows group ≡ holds_from target (held_in holding old.windows group)) where
      abbrev pub raised_parts : PartParts D W
      raised_parts = record { conf = old.conf; log = log; states = states; windows = windows; clock = clock }

      pub deleted : (done : Unit {0}) → result ≡ Ok done → DeletesOnce seen holding now to old raised_parts (Done target)
      deleted done is = record {
        steps = λ s c.
            let st = steps s.log c.log in
            let step = subst (λ (r : Result (Unit {0}) StoreFault). StepsRaise Rises old.log.journal.end s.log target r st.0) is st.2 in
            let logs : ◌≡◌ {A = Log} (record { batches = s.log.batches; start = target }) (log_at st.0) = λ i. record { batches = sym step.batches i; start = sym step.start_is i } in
            let rises : IsLog s.log.batches = subst IsLog (sym c.log.batches) sound.rises in
            let up = step.allowed.above in
            let low : s.log.start ≤ target = omega (arith, up) in (
              record {
                log = st.0;
                states = raised_states target s.states;
                pending = option_map (raised_states target) s.pending;
                held = λ group. holds_from target (s.held group);
                clock = clock;
              },
              record {
                log = st.1;
                pending = option_map (raised_all (pos target)) c.pending;
                holds = holds c.pending c.holds;
                states = ap (raised_states target) c.states ∙ sym (ap states_of entries ∙ states_all target old.states.entries);
                pending_is = ap (option_map (raised_states target)) c.pending_is ∙ sym (pending_all target c.pending);
                held = λ group. ap (holds_from target) (c.held group) ∙ sym (held group);
                clock = refl;
                hosted = subst (λ (l : Log). AreHosted old.conf l (raised_states target s.states)) logs
                    (hosted_raised old.conf (log_at s.log) target s.states rises low step.allowed.within c.hosted);
                pending_hosted = subst (λ (l : Log). IsPendingHosted old.conf l (option_map (raised_states target) s.pending)) logs
                    (pending_raised old.conf (log_at s.log) target s.pending rises low step.allowed.within c.pending_hosted);
                level = subst (λ (n : ℕ). AreLevel n states.entries) (sym step.start_is)
                    (subst (AreLevel target) (sym entries) (level_all s.log.start target old.states.entries low c.level));
                pending_level = subst (λ (n : ℕ). IfSome (option_map (raised_all (pos target)) c.pending) (AreLevel n)) (sym step.start_is)
                    (level_pending s.log.start target c.pending low c.pending_level);
              },
              record {
                clock = clock_is s c;
                does = (
                  target,
                  (to_delete s c).0,
                  inr (record { start_is = refl; log = step; tables = record { states = refl; pending = refl; held = λ group. refl } }),
                );
              },
            );
        quiet = λ none. quiet_by result once (λ e. let never : ◌≡◌ {A = Result (Unit {0}) StoreFault} (Ok done) (Err Device) = sym is ∙ e in let clash : ⊥ = cc in clash);
        sound = λ e. absurd (let clash : ⊥ = cc in clash);
        any_moment = moments;
        unwritten = λ none. unwritten (λ room. none target (is_target, above) room);
        ends = later_by result once;
        states = inr (target, refl, λ i. record { journal = journal i; entries = entries i; room = room i });
        conf = refl;
      }
