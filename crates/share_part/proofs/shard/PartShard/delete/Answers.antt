use Rattle.std.proofs.Common.{◌≡◌, ◌≤◌, ◌∙◌, refl, sym, ap, subst, arith, List, ℕ, Some, to_z, of_z, w64}
use Rattle.std.proofs.lemmas.Int.{to_z-of_z}
use Rattle.share_model.specs.declared.delete.DeleteAnswer.TheVariants.{Done, Store}
use Rattle.share_model.specs.Logs.{Batch, end_of}
use Rattle.part_log.specs.Logs.{IsStoredLog, log_in}
use Rattle.part_log.specs.Starts.{Log}
use Rattle.part_log.proofs.Rising.{end_bound}
use Rattle.share_coord.specs.Raising.{raised_states}
use Rattle.share_coord.specs.States.{states_of}
use Rattle.share_coord.proofs.Recovered.{states_all}
use Rattle.share_model.specs.ForeignRules.{ShareStates}
use Rattle.share_part.specs.Deleting.{holds_from, target_of}
use Rattle.share_part.specs.Hosting.{AreHosted}
use Rattle.share_part.specs.Shards.{held_in}
use Rattle.share_part.proofs.Deleting.{deleted, deleted_before, is_none, not_none, out_of_range, unraised_log, unstored}
use Rattle.share_part.proofs.Holding.{AreKept, same_kept}
use Rattle.share_part.proofs.Raised.{hosted_raised, kept_raised}
use Rattle.share_part.proofs.shard.PartShard.delete.Goals as goal

-- ---- there is no such offset

pub returns-in_default-clause-once : goal.returns-in_default-clause-once
returns-in_default-clause-once g c = rw (← c.self.view_is) (out_of_range g.D.Disk.seen g.W.Window.held c.args.now c.args.to
    (record { conf = c.self.inside.conf; log = c.self.inside.log; states = c.self.inside.states; windows = c.self.inside.windows.entries; clock = c.self.inside.clock }) c.max-self-inside.result c.max-self-inside.ensures g.met.D.Disk.only_now
    (ap (target_of (log_in c.self.inside.log)) (sym (to_z-of_z w64 c.args.to c.ranges.to)) ∙ sym c.in_default.ensures.is) c.end.result c.end.ensures.end)

pub returns-in_default-clause-range : goal.returns-in_default-clause-range
returns-in_default-clause-range g c = rw (← c.self.view_is) (λ end. is_none (target_of (log_in c.self.inside.log) c.args.to) c.end.result end (end_of c.self.inside.log.batches)
    (ap (target_of (log_in c.self.inside.log)) (sym (to_z-of_z w64 c.args.to c.ranges.to)) ∙ sym c.in_default.ensures.is) c.end.ensures.end)

-- ---- the log starts there already

pub returns-then-to-start-clause-once : goal.returns-then-to-start-clause-once
returns-then-to-start-clause-once g c = rw (← c.self.view_is) (deleted_before g.D.Disk.seen g.W.Window.held c.args.now c.args.to
    (record { conf = c.self.inside.conf; log = c.self.inside.log; states = c.self.inside.states; windows = c.self.inside.windows.entries; clock = c.self.inside.clock }) c.max-self-inside.result c.max-self-inside.ensures g.met.D.Disk.only_now
    c.in-Some.to c.start-start.result (ap (target_of (log_in c.self.inside.log)) (sym (to_z-of_z w64 c.args.to c.ranges.to)) ∙ sym c.in-Some.ensures.is)
    (let le = c.if-to-start.true in omega (arith, le, c.start-start.ensures.value)) c.start-start.ensures.value)

pub returns-then-to-start-clause-range : goal.returns-then-to-start-clause-range
returns-then-to-start-clause-range g c = rw (← c.self.view_is) (λ end. not_none (target_of (log_in c.self.inside.log) c.args.to) c.in-Some.to (Done c.start-start.result) end (end_of c.self.inside.log.batches)
    (ap (target_of (log_in c.self.inside.log)) (sym (to_z-of_z w64 c.args.to c.ranges.to)) ∙ sym c.in-Some.ensures.is) (λ e. let clash : ⊥ = cc in clash))

pub returns-then-to-start-clause-below : goal.returns-then-to-start-clause-below
returns-then-to-start-clause-below g c =
    let within = c.start-start.ensures.within in
    let end = end_bound c.self.inside.log.batches c.self.invariant.log_is.stored in
    omega (arith, within, end)

-- ---- the mark couldn't be stored

pub returns-in-Err-clause-once : goal.returns-in-Err-clause-once
returns-in-Err-clause-once g c = rw (← c.self.view_is) (unstored g.D.Disk.seen g.W.Window.held c.args.now c.args.to
    (record { conf = c.self.inside.conf; log = c.self.inside.log; states = c.self.inside.states; windows = c.self.inside.windows.entries; clock = c.self.inside.clock }) c.max-self-inside.result c.max-self-inside.ensures
    c.raise.new.self c.in-Some.to _ c.in-Err.ensures.once (ap (target_of (log_in c.self.inside.log)) (sym (to_z-of_z w64 c.args.to c.ranges.to)) ∙ sym c.in-Some.ensures.is)
    (let above = c.if-to-start.false in omega (arith, above, c.start-start.ensures.value)) c.in-Err.ensures.steps c.in-Err.fault refl)

pub returns-in-Err-clause-range : goal.returns-in-Err-clause-range
returns-in-Err-clause-range g c = rw (← c.self.view_is) (λ end. not_none (target_of (log_in c.self.inside.log) c.args.to) c.in-Some.to (Store c.in-Err.fault) end (end_of c.self.inside.log.batches)
    (ap (target_of (log_in c.self.inside.log)) (sym (to_z-of_z w64 c.args.to c.ranges.to)) ∙ sym c.in-Some.ensures.is) (λ e. let clash : ⊥ = cc in clash))

-- ---- it was

pub returns-in-Ok-clause-once : goal.returns-in-Ok-clause-once
returns-in-Ok-clause-once g c = rw (← c.self.view_is) (deleted g.D.Disk.seen g.W.Window.held c.args.now c.args.to
    (record { conf = c.self.inside.conf; log = c.self.inside.log; states = c.self.inside.states; windows = c.self.inside.windows.entries; clock = c.self.inside.clock }) c.max-self-inside.result c.max-self-inside.ensures
    c.raise.new.self c.in-Some.to _ c.in-Ok.ensures.once (ap (target_of (log_in c.self.inside.log)) (sym (to_z-of_z w64 c.args.to c.ranges.to)) ∙ sym c.in-Some.ensures.is)
    (let above = c.if-to-start.false in omega (arith, above, c.start-start.ensures.value)) c.in-Ok.ensures.steps
    c.raise_tables.new.states c.raise_windows.new.windows.entries c.self.invariant.log_is c.raise_tables.ensures.entries c.raise_tables.ensures.journal c.raise_tables.ensures.room c.raise_tables.ensures.holds
    c.raise_windows.ensures c.in-Ok.field-0 refl)

pub returns-in-Ok-clause-range : goal.returns-in-Ok-clause-range
returns-in-Ok-clause-range g c = rw (← c.self.view_is) (λ end. not_none (target_of (log_in c.self.inside.log) c.args.to) c.in-Some.to (Done c.in-Some.to) end (end_of c.self.inside.log.batches)
    (ap (target_of (log_in c.self.inside.log)) (sym (to_z-of_z w64 c.args.to c.ranges.to)) ∙ sym c.in-Some.ensures.is) (λ e. let clash : ⊥ = cc in clash))

pub returns-in-Ok-clause-below : goal.returns-in-Ok-clause-below
returns-in-Ok-clause-below g c =
    let within = c.in-Some.ensures.within in
    let end = end_bound c.self.inside.log.batches c.self.invariant.log_is.stored in
    omega (arith, within, end)

-- ---- what the shard keeps

pub invariant_of-self-in-Ok : goal.invariant_of-self-in-Ok
invariant_of-self-in-Ok g c =
    let raised = c.in-Ok.ensures.once.ok in
    let low : c.self.inside.log.start ≤ c.in-Some.to = (let above = raised.follows.above in omega (arith, above)) in
    let logs : ◌≡◌ {A = Log} (record { batches = c.self.inside.log.batches; start = c.in-Some.to }) (log_in c.raise.new.self) =
    λ i. record { batches = sym raised.batches i; start = sym raised.start_is i } in
    let states = ap states_of c.raise_tables.ensures.entries ∙ states_all c.in-Some.to c.self.inside.states.entries in
    record {
      log_is = subst IsStoredLog (sym raised.batches) c.self.invariant.log_is;
      within = subst (λ (l : Log). l.start ≤ end_of l.batches) logs raised.follows.within;
      hosted = subst (λ (s : ShareStates). AreHosted c.self.inside.conf (log_in c.raise.new.self) s) (sym states)
          (subst (λ (l : Log). AreHosted c.self.inside.conf l (raised_states c.in-Some.to (states_of c.self.inside.states.entries))) logs
          (hosted_raised c.self.inside.conf (log_in c.self.inside.log) c.in-Some.to (states_of c.self.inside.states.entries) c.self.invariant.log_is.rises low raised.follows.within c.self.invariant.hosted));
      holds = subst (λ (b : List Batch). AreKept c.self.inside.conf b (states_of c.raise_tables.new.states.entries) (held_in g.W.Window.held c.raise_windows.new.windows.entries)) (sym raised.batches)
          (subst (λ (s : ShareStates). AreKept c.self.inside.conf c.self.inside.log.batches s (held_in g.W.Window.held c.raise_windows.new.windows.entries)) (sym states)
          (same_kept c.self.inside.conf c.self.inside.log.batches _ (λ group. holds_from c.in-Some.to (held_in g.W.Window.held c.self.inside.windows.entries group))
          (held_in g.W.Window.held c.raise_windows.new.windows.entries) c.raise_windows.ensures
          (kept_raised c.self.inside.conf (log_in c.self.inside.log) c.in-Some.to (states_of c.self.inside.states.entries) (held_in g.W.Window.held c.self.inside.windows.entries)
          c.self.invariant.log_is.rises c.self.invariant.hosted c.self.invariant.holds)));
      moment = omega (arith, c.self.invariant.moment, c.requires, c.max-self-inside.ensures);
      scratch = c.self.invariant.scratch;
      room = subst (λ (n : ℕ). 6000 ≤ n) (sym c.raise_tables.ensures.room) c.self.invariant.room;
    }

-- the log is the same, where no mark was stored
pub invariant_of-self-in-Err : goal.invariant_of-self-in-Err
invariant_of-self-in-Err g c =
    let same = unraised_log g.D.Disk.seen c.self.inside.log c.raise.new.self c.in-Some.to c.in-Err.fault c.in-Err.ensures.once in
    let logs : log_in c.self.inside.log ≡ log_in c.raise.new.self = λ i. record { batches = sym same.0 i; start = sym same.1 i } in
    record {
      log_is = subst IsStoredLog (sym same.0) c.self.invariant.log_is;
      within = subst (λ (l : Log). l.start ≤ end_of l.batches) logs c.self.invariant.within;
      hosted = subst (λ (l : Log). AreHosted c.self.inside.conf l (states_of c.self.inside.states.entries)) logs c.self.invariant.hosted;
      holds = subst (λ (b : List Batch). AreKept c.self.inside.conf b (states_of c.self.inside.states.entries) (held_in g.W.Window.held c.self.inside.windows.entries)) (sym same.0) c.self.invariant.holds;
      moment = omega (arith, c.self.invariant.moment, c.requires, c.max-self-inside.ensures);
      scratch = c.self.invariant.scratch;
      room = c.self.invariant.room;
    }

pub raise-requires-clause-above : goal.raise-requires-clause-above
raise-requires-clause-above g c = (let above = c.if-to-start.false in omega (arith, above, c.start-start.ensures.value))

pub raise-requires-clause-within : goal.raise-requires-clause-within
raise-requires-clause-within g c = c.in-Some.ensures.within

pub raise_tables-requires : goal.raise_tables-requires
raise_tables-requires g c =
    let within = c.in-Some.ensures.within in
    let end = end_bound c.self.inside.log.batches c.self.invariant.log_is.stored in
    omega (arith, within, end)

pub raise_windows-requires : goal.raise_windows-requires
raise_windows-requires g c = (let above = c.if-to-start.false in omega (arith, above))
