-- No start passes a record that isn't acknowledged or archived.
use Rattle.std.proofs.Common.{◌≡◌, ◌≢◌, ◌⊎◌, ◌≤◌, ◌<◌, inl, inr, ⊎_elim, refl, sym, ap, ◌∙◌, subst, arith, ℕ, ℤ, List, [], ◌∷◌, Bool, true, false, Option, Some, None, if◌then◌else◌}
use Rattle.std.proofs.lemmas.Bool.Decides.{nat_tests}
use Rattle.std.proofs.lemmas.Bool.{true≢false}
use Rattle.std.specs.Prelude.{IsSome, is_none, nat_le, nat_lt}
use Rattle.std.specs.Option.{option_map, option_or}
use Rattle.std.specs.BTreeMap.{insert_entry, is_at}
use Rattle.std.specs.Cmp.Lexicographic.{slice_cmp}
use Rattle.std.specs.List.{AllByRecursion}
use Rattle.std.specs.Ordering.{nat_cmp}
use Rattle.edge_io.specs.Causes.{Rose}
use Rattle.session_script.specs.declared.event.Event.{Event}
use Rattle.session_script.specs.declared.event.Event.TheVariants.{Open, Bytes, Close, Step as StepOf, Expire, Tick, Arm, Power}
use Rattle.share_model.specs.ForeignRules.{ShareStates, share_state_at, size_of}
use Rattle.share_model.specs.Held.{Held, hold_at}
use Rattle.share_model.specs.Keys.{KeyParts, key_cmp}
use Rattle.share_model.specs.Logs.{Batch as LogBatch, IsLog, end_of}
use Rattle.share_model.specs.Runs.{row_at}
use Rattle.share_model.specs.ShareStates.{ShareState}
use Rattle.share_model.specs.declared.ack.AckKind.{AckKind}
use Rattle.share_model.specs.declared.ack.AckKind.TheVariants.{Release as ReleaseAct}
use Rattle.share_model.specs.declared.delete.DeleteAnswer.{DeleteAnswer}
use Rattle.share_model.specs.declared.delete.DeleteAnswer.TheVariants.{Done as Deleted, OutOfRange, Store as delete_store}
use Rattle.share_model.specs.declared.fault.StoreFault.{StoreFault}
use Rattle.share_model.specs.declared.fault.StoreFault.TheVariants.{Device, Full}
use Rattle.share_model.specs.declared.hold.Hold.{Hold}
use Rattle.share_model.specs.declared.row.Row.{Row}
use Rattle.share_model.specs.declared.visit.AckOutcome.{AckOutcome}
use Rattle.share_model.specs.declared.visit.AckOutcome.TheVariants.{Done as acknowledged, Malformed, NotHeld, Store as ack_store}
use Rattle.share_model.specs.declared.visit.ExpireAnswer.{ExpireAnswer}
use Rattle.share_model.specs.declared.visit.Then.{Then}
use Rattle.share_model.specs.declared.visit.Then.TheVariants.{Nothing, Release, Fetch}
use Rattle.share_model.specs.declared.visit.ThenOutcome.{ThenOutcome}
use Rattle.share_model.specs.declared.visit.ThenOutcome.TheVariants.{Done as followed, Store as then_store}
use Rattle.share_model.specs.declared.visit.Visit.{Visit}
use Rattle.share_model.specs.declared.visit.VisitAnswer.{VisitAnswer}
use Rattle.part_log.specs.Shards.{LogShardState, log_at}
use Rattle.part_log.specs.Starts.{IsSlotOf, Log}
use Rattle.part_log.proofs.Writes.{text_is_sound, text_within}
use Rattle.share_coord.specs.Raising.{raised, raised_states}
use Rattle.share_coord.proofs.Raising.{raised_at}
use Rattle.share_part.specs.Acknowledging.{Acknowledges, AreSettled, StoresActs}
use Rattle.share_part.specs.Deleting.{Deletes as DeletesPart, DeletesBelow, DeletesNothing, IsRaisedTo}
use Rattle.share_part.specs.Expiring.{StepsGroups, ending}
use Rattle.share_part.specs.Following.{Does as DoesThen, Follows, Fetches, HasItsTable, MakesTable, fault_of, releases_of}
use Rattle.share_part.specs.Hosting.{PartConfParts, key_of}
use Rattle.share_part.specs.Named.{named_from}
use Rattle.share_part.specs.Settling.{Acts, AreHeldBy, IsHeldBy, IsSettled, act_row, held_after, is_chosen, is_closed, is_closed_state, release_of, releases_if, settled, stored_after}
use Rattle.share_part.specs.Shards.{PartShardState, new_state, with_clock_raised, with_new}
use Rattle.share_part.specs.Tables.{Table, table_of}
use Rattle.share_part.specs.declared.limits.Limits.{Limits}
use Rattle.share_part.specs.declared.settle.Whose.TheVariants.{Member, Due}
use Rattle.topic_conf.specs.Configs.{ConfigParts}
use Rattle.broker_model.specs.Hosted.{Hosted, HoldsAt, state_store}
use Rattle.broker_model.specs.Shards.{HostedPart, PartCall, StepsPart, faults_before, faults_behind}
use Rattle.broker_model.specs.Shards.ShardCall.{CallPart}
use Rattle.broker_model.specs.Shards.PartCall.{Visits, Produces, Looks, Expires, Deletes}
use Rattle.broker_model.specs.Machine.{OpensPart}
use Rattle.broker_model.specs.Locks.{Record, StartAbove}
use Rattle.broker_model.specs.Laws.{NoPower}
use Rattle.broker_model.specs.Starts.{ActsToClose, ArePassing, BeginsWell, Closes, Does, FailsToClose, FindsOr, FindsPassed, Frees, IsBelow, IsClosedRow, IsMadeBehind, IsPassed, IsWell, NextLossFinds, OpeningsAreWell, StartsPassClosedRecords, acked, table_in}
use Rattle.broker_model.specs.Runs.{Step, IsRun, events_of}
use Rattle.broker_model.specs.States.{State, counts_of, ends_of}
use Rattle.broker_model.proofs.Above.{lt_or_le, raised_above}
use Rattle.broker_model.proofs.Acts.{power_or_not}
use Rattle.broker_model.proofs.Raises.{below_raised, none_raised, passed_raised, pending_one}
use Rattle.broker_model.proofs.PartLocks.{chosen_held}
use Rattle.broker_model.proofs.Goes.{Goes, IsLostIn, IsStepOf, lost_at, parts_of, went}
use Rattle.broker_model.proofs.Histories.{keys_exact, keys_total}
use Rattle.broker_model.proofs.Holding.{acts_hold, group_is, group_self, hold_in, its_held, stores_hold}
use Rattle.broker_model.proofs.Lists.{all_entry, entry_at, entry_holds, holds_entry, none_not, some_same}
use Rattle.broker_model.proofs.Maps.{set_found, set_other}
use Rattle.broker_model.proofs.LogsBack.{before_it, first_entry, goes_log, IsSlotYet, slot_below, slots_back, starts_back}

-- ---- the table of a group

abbrev pub table_at : PartConfParts → ShareStates → List ℕ → Option ShareState
table_at conf states group = share_state_at states (key_of conf group)

-- one state is set: it is that of the group, or of another one
pub table_set : (conf : PartConfParts) (states : ShareStates) (of group : List ℕ) (next : ShareState)
    → ((of ≡ group) × (table_at conf (insert_entry key_cmp states (key_of conf of) next) group ≡ Some next))
    ⊎ (table_at conf (insert_entry key_cmp states (key_of conf of) next) group ≡ table_at conf states group)
table_set conf states of group next = go (is_at (slice_cmp nat_cmp of) group) refl where
  apart : is_at (slice_cmp nat_cmp of) group ≡ false → key_of conf group ≢ key_of conf of
  apart away e =
      let one : group ≡ of = ap (λ (k : KeyParts). k.group) e in
      true≢false (sym (group_self of) ∙ ap (is_at (slice_cmp nat_cmp of)) (sym one) ∙ away)

  go : (b : Bool) → is_at (slice_cmp nat_cmp of) group ≡ b
      → ((of ≡ group) × (table_at conf (insert_entry key_cmp states (key_of conf of) next) group ≡ Some next))
      ⊎ (table_at conf (insert_entry key_cmp states (key_of conf of) next) group ≡ table_at conf states group)
  go true same =
      let one : of ≡ group = group_is of group same in
      inl (
        one,
        subst (λ (g : List ℕ). table_at conf (insert_entry key_cmp states (key_of conf of) next) g ≡ Some next) one
            (set_found key_cmp keys_total keys_exact (key_of conf of) next states),
      )
  go false away = inr (set_other key_cmp keys_total keys_exact (key_of conf of) next (key_of conf group) (apart away) states)

-- ---- acts on a table

-- what an act gives, by the fault that its write met
abbrev Why : (Reason Late : Type 0) → Option StoreFault → Type 0
Why Reason Late None = Reason
Why Reason Late (Some Device) = Late
Why Reason Late (Some (Full at)) = Unit {0}

module _ (o : ℕ) where
  abbrev Passed : Option ShareState → Type 0
  Passed t = IsPassed o t

  passed_or_not : (t : Option ShareState) → Passed t ⊎ (Passed t → ⊥)
  passed_or_not None = inr (λ p. ⊎_elim (λ below. absurd below) (λ closed. absurd closed) p)
  passed_or_not (Some state) = go (lt_or_le o (size_of state.start)) (is_closed (row_at state.runs o)) refl where
    go : (o < size_of state.start) ⊎ (size_of state.start ≤ o) → (b : Bool) → is_closed (row_at state.runs o) ≡ b
        → Passed (Some state) ⊎ (Passed (Some state) → ⊥)
    go (inl below) b is = inl (inl below)
    go (inr from) true closed = inl (inr closed)
    go (inr from) false free = inr (λ p. ⊎_elim (λ below. omega (arith, below, from)) (λ closed. true≢false (sym closed ∙ free)) p)

  -- an act of a holder that closes the record
  record IsClosedBy (limit : ℕ) (acts : Acts) (held : Held) : Type 0 where
    hold : Hold
    kind : AckKind
    named : acts o ≡ Some kind
    at : hold_at held o ≡ Some hold
    closes : is_closed_state (settled limit kind hold.count).state ≡ true

  by_act : (limit : ℕ) (acts : Acts) (held : Held) (stored : Option Row) (k : Option AckKind) → acts o ≡ k → (h : Option Hold) → hold_at held o ≡ h
      → is_closed (option_or (act_row limit k h) stored) ≡ true → (is_closed stored ≡ true) ⊎ IsClosedBy limit acts held
  by_act limit acts held stored None named h at closed = inl closed
  by_act limit acts held stored (Some kind) named None at closed = inl closed
  by_act limit acts held stored (Some kind) named (Some hold) at closed =
      inr (record { hold = hold; kind = kind; named = named; at = at; closes = closed })

  none_closed : (row : Option Row) → row ≡ None → is_closed row ≡ true → ⊥
  none_closed row none closed = true≢false (sym closed ∙ ap is_closed none)

  row_closed : (row stored : Option Row) (t : Bool) → row ≡ (if t then None else stored) → is_closed row ≡ true → is_closed stored ≡ true
  row_closed row stored true is closed = absurd (none_closed row is closed)
  row_closed row stored false is closed = sym (ap is_closed is) ∙ closed

  module _ (limit : ℕ) (acts : Acts) (log : List LogBatch) (table : Table) (next : ShareState) (s : IsSettled limit acts log table next)
      (is_log : IsLog log) (slot : IsSlotYet o log) where
    -- what the new start has passed, the old one had passed, or it is closed
    below_then : o < s.start → (o < table.start) ⊎ (is_closed (stored_after limit acts table o) ≡ true)
    below_then lt = by_closed (is_closed (stored_after limit acts table o)) refl (lt_or_le o table.start) where
      by_start : is_closed (stored_after limit acts table o) ≡ false → table.start ≤ o → ⊥
      by_start free from = ⊎_elim
          (λ least. ⊎_elim
          (λ there. let le : s.start ≤ o = least.2 o from (record { slot = there; open_is = free }) in omega (arith, lt, le))
          (λ past. let up = slot_below 0 log s.start is_log least.0.slot in omega (arith, lt, past, up))
          slot)
          (λ none. ⊎_elim
          (λ there. none.1 o from (record { slot = there; open_is = free }))
          (λ past. let is : s.start ≡ end_of log = none.0 in omega (arith, lt, past, is))
          slot)
          s.start_is

      by_closed : (b : Bool) → is_closed (stored_after limit acts table o) ≡ b → (o < table.start) ⊎ (table.start ≤ o)
          → (o < table.start) ⊎ (is_closed (stored_after limit acts table o) ≡ true)
      by_closed true closed at = inr closed
      by_closed false free (inl low) = inl low
      by_closed false free (inr from) = absurd (by_start free from)

    passed_then : Passed (Some next) → (o < table.start) ⊎ (is_closed (stored_after limit acts table o) ≡ true)
    passed_then (inl below) = below_then (subst (λ (n : ℕ). o < n) (ap size_of s.start_told) below)
    passed_then (inr closed) = inr (row_closed (row_at next.runs o) (stored_after limit acts table o) (nat_lt o s.start) (s.rows o) closed)

  module _ (conf : PartConfParts) (group : List ℕ) (a : PartShardState) (is_log : IsLog a.log.batches) (slot : IsSlotYet o a.log.batches) where
    -- what states have passed once acts are stored
    settled_passes : (of : List ℕ) (acts : Acts) (states : ShareStates) → AreSettled conf a of acts states → Passed (table_at conf states group)
        → Passed (table_at conf a.states group) ⊎ ((of ≡ group) × IsClosedBy conf.limit acts (a.held of))
    settled_passes of acts states p passed = ⊎_elim
        (λ one. go one.0 (subst Passed (ap (λ (x : ShareStates). table_at conf x group) p.is ∙ one.1) passed))
        (λ other. inl (subst Passed (ap (λ (x : ShareStates). table_at conf x group) p.is ∙ other) passed))
        (table_set conf a.states of group p.next)
      where
        known : of ≡ group → table_at conf a.states group ≡ Some p.state
        known one = ap (λ (g : List ℕ). table_at conf a.states g) (sym one) ∙ p.known

        go : of ≡ group → Passed (Some p.next) → Passed (table_at conf a.states group) ⊎ ((of ≡ group) × IsClosedBy conf.limit acts (a.held of))
        go one passed = ⊎_elim
            (λ low. inl (subst Passed (sym (known one)) (inl low)))
            (λ closed. ⊎_elim
            (λ row. inl (subst Passed (sym (known one)) (inr row)))
            (λ act. inr (one, act))
            (by_act conf.limit acts (a.held of) (row_at p.state.runs o) (acts o) refl (hold_at (a.held of) o) refl closed))
            (passed_then conf.limit acts a.log.batches (table_of p.state (a.held of)) p.next p.settled is_log slot passed)

  -- ---- what is kept from step to step

  -- a record that is passed was so for a reason, and one that the write which is pending would pass is so for a reason once that is found
  record HasReason (Reason Late : Type 0) (conf : PartConfParts) (group : List ℕ) (p : PartShardState) : Type 0 where
    now : Passed (table_at conf p.states group) → Reason
    lost : (states : ShareStates) → p.pending ≡ Some states → Passed (table_at conf states group)
        → Late ⊎ ((table_at conf p.states group ≡ None) × IsBelow o (table_at conf states group))

  later_so : (Reason Late Later : Type 0) → (Late → Later) → (conf : PartConfParts) (group : List ℕ) (p : PartShardState)
      → HasReason Reason Late conf group p → HasReason Reason Later conf group p
  later_so Reason Late Later on conf group p r = record {
    now = λ passed. r.now passed;
    lost = λ states at passed. ⊎_elim (λ late. inl (on late)) (λ made. inr made) (r.lost states at passed);
  }

  module _ (Reason Late : Type 0) (early : Reason → Late) (conf : PartConfParts) (group : List ℕ) where
    abbrev Reasoned : PartShardState → Type 0
    Reasoned p = HasReason Reason Late conf group p

    still : (a b : PartShardState) → b.states ≡ a.states → b.pending ≡ a.pending → Reasoned a → Reasoned b
    still a b states pending r = record {
      now = λ passed. r.now (subst (λ (x : ShareStates). Passed (table_at conf x group)) states passed);
      lost = λ found at passed. subst (λ (x : ShareStates). Late ⊎ ((table_at conf x group ≡ None) × IsBelow o (table_at conf found group))) (sym states)
          (r.lost found (sym pending ∙ at) passed);
    }

    -- nothing is pending
    nothing_lost : (b : PartShardState) → b.pending ≡ None → (states : ShareStates) → b.pending ≡ Some states → Passed (table_at conf states group)
        → Late ⊎ ((table_at conf b.states group ≡ None) × IsBelow o (table_at conf states group))
    nothing_lost b none states at passed = absurd (none_not states (sym none ∙ at))

    -- what was pending is mended away
    mended : (a b : PartShardState) → b.states ≡ a.states → b.pending ≡ None → Reasoned a → Reasoned b
    mended a b states none r = record {
      now = λ passed. r.now (subst (λ (x : ShareStates). Passed (table_at conf x group)) states passed);
      lost = nothing_lost b none;
    }

    abbrev Caused : Option StoreFault → List ℕ → Acts → PartShardState → Type 0
    Caused fault of acts a = of ≡ group → IsClosedBy conf.limit acts (a.held of) → Why Reason Late fault

    stored_so : (rose : Type 0) (end : ℕ) (a : PartShardState) (of : List ℕ) (acts : Acts) (b : PartShardState) (fault : Option StoreFault)
        → IsLog a.log.batches → IsSlotYet o a.log.batches → Caused fault of acts a → StoresActs conf rose end a of acts b fault → Reasoned a → Reasoned b
    stored_so rose end a of acts b (Some (Full at)) is_log slot cause p r = still a b p.2.states p.2.pending r
    stored_so rose end a of acts b None is_log slot cause (inl p) r = still a b p.1.states p.1.pending r
    stored_so rose end a of acts b None is_log slot cause (inr p) r = record {
      now = λ passed. ⊎_elim
          (λ old. r.now old)
          (λ act. cause act.0 act.1)
          (settled_passes conf group a is_log slot of acts b.states p.1.states passed);
      lost = nothing_lost b p.1.nothing;
    }
    stored_so rose end a of acts b (Some Device) is_log slot cause p r = ⊎_elim
        (λ same. still a b p.2.states same r)
        (λ other. ⊎_elim (λ none. mended a b p.2.states none r)
        (λ own. record {
          now = λ passed. r.now (subst (λ (x : ShareStates). Passed (table_at conf x group)) p.2.states passed);
          lost = λ found at passed.
              let is : own.0 ≡ found = some_same own.0 found (sym own.1 ∙ at) in
              ⊎_elim
              (λ old. inl (early (r.now old)))
              (λ act. inl (cause act.0 act.1))
              (settled_passes conf group a is_log slot of acts found (subst (AreSettled conf a of acts) is own.2) passed);
        }) other)
        p.2.pending

    -- a new table begins at its start
    no_row : (conf_of : PartConfParts) (log : Log) → IsClosedRow o (Some (new_state conf_of log)) → ⊥
    no_row conf_of log closed = true≢false (sym closed)

    table_stored : (a : PartShardState) (visit : Visit) (b : PartShardState) → table_at conf a.states visit.group ≡ None
        → (table_at conf a.states group ≡ None → IsBelow o (table_at conf b.states group) → Reason)
        → b.states ≡ with_new conf a visit.group → b.pending ≡ None → Reasoned a → Reasoned b
    table_stored a visit b none cause states nothing r = record {
      now = λ passed. ⊎_elim
          (λ one.
          let fresh : table_at conf b.states group ≡ Some (new_state conf (log_at a.log)) = ap (λ (x : ShareStates). table_at conf x group) states ∙ one.1 in
          ⊎_elim
          (λ below. cause (ap (λ (g : List ℕ). table_at conf a.states g) (sym one.0) ∙ none) below)
          (λ closed. absurd (no_row conf (log_at a.log) (subst (IsClosedRow o) fresh closed)))
          passed)
          (λ other. r.now (subst Passed (ap (λ (x : ShareStates). table_at conf x group) states ∙ other) passed))
          (table_set conf a.states visit.group group (new_state conf (log_at a.log)));
      lost = nothing_lost b nothing;
    }

    made_so : (told : Bool) (rose : Type 0) (end : ℕ) (a : PartShardState) (visit : Visit) (limits : Limits) (answer : VisitAnswer) (b : PartShardState) (t : ThenOutcome)
        → table_at conf a.states visit.group ≡ None → (table_at conf a.states group ≡ None → IsBelow o (table_at conf b.states group) → Reason)
        → MakesTable conf told rose end a visit limits answer b t → Reasoned a → Reasoned b
    made_so told rose end a visit limits answer b followed none cause p r = table_stored a visit b none cause p.states p.nothing r
    made_so told rose end a visit limits answer b (then_store (Full at)) none cause p r = still a b p.2.states p.2.pending r
    made_so told rose end a visit limits answer b (then_store Device) none cause p r = ⊎_elim
        (λ same. still a b p.2.states same r)
        (λ other. ⊎_elim (λ nothing. mended a b p.2.states nothing r)
        (λ own. record {
          now = λ passed. r.now (subst (λ (x : ShareStates). Passed (table_at conf x group)) p.2.states passed);
          lost = λ found at passed.
              let is : _ ≡ found = sym own.2 ∙ some_same own.0 found (sym own.1 ∙ at) in
              ⊎_elim
              (λ one.
              let fresh : table_at conf found group ≡ Some (new_state conf (log_at a.log)) =
              sym (ap (λ (x : ShareStates). table_at conf x group) is) ∙ one.1 in
              ⊎_elim
              (λ below. inr (
                ap (λ (x : ShareStates). table_at conf x group) p.2.states ∙ ap (λ (g : List ℕ). table_at conf a.states g) (sym one.0) ∙ none,
                below,
              ))
              (λ closed. absurd (no_row conf (log_at a.log) (subst (IsClosedRow o) fresh closed)))
              passed)
              (λ other. inl (early (r.now (subst Passed (sym (ap (λ (x : ShareStates). table_at conf x group) is) ∙ other) passed))))
              (table_set conf a.states visit.group group (new_state conf (log_at a.log)));
        }) other)
        p.2.pending

    fetched_so : (told : Bool) (rose : Type 0) (end : ℕ) (a : PartShardState) (visit : Visit) (limits : Limits) (answer : VisitAnswer) (b : PartShardState)
        (t : Option ShareState) → table_at conf a.states visit.group ≡ t
        → (table_at conf a.states group ≡ None → IsBelow o (table_at conf b.states group) → Reason)
        → Fetches conf told rose end a visit limits answer b t → Reasoned a → Reasoned b
    fetched_so told rose end a visit limits answer b None there cause p r = made_so told rose end a visit limits answer b answer.then there cause p r
    fetched_so told rose end a visit limits answer b (Some state) there cause p r = still a b p.states p.pending r

    -- a batch couldn't be read
    unread_so : (a : PartShardState) (visit : Visit) (b : PartShardState) (t : Option ShareState) → table_at conf a.states visit.group ≡ t
        → (table_at conf a.states group ≡ None → IsBelow o (table_at conf b.states group) → Reason)
        → HasItsTable conf a visit b t → Reasoned a → Reasoned b
    unread_so a visit b None none cause p r = table_stored a visit b none cause p.0 p.1 r
    unread_so a visit b (Some state) there cause p r = still a b p.0 p.1 r

-- ---- what stands before acknowledgements

hold_back : (conf : PartConfParts) (rose : Type 0) (end : ℕ) (a : PartShardState) (of : List ℕ) (acts : Acts) (b : PartShardState) (fault : Option StoreFault)
    → StoresActs conf rose end a of acts b fault → (group : List ℕ) (o : ℕ) (hold : Hold) → hold_in b group o ≡ Some hold → hold_in a group o ≡ Some hold
hold_back conf rose end a of acts b fault p group o hold at = ⊎_elim
    (λ same. sym same ∙ at)
    (λ e. absurd (none_not hold (sym e.free ∙ at)))
    (stores_hold conf rose end a of acts b fault p group o)

same_hold : (a b : PartShardState) → b.held ≡ a.held → (group : List ℕ) (o : ℕ) (hold : Hold) → hold_in b group o ≡ Some hold → hold_in a group o ≡ Some hold
same_hold a b same group o hold at = sym (ap (λ (h : List ℕ → Held). hold_at (h group) o) same) ∙ at

same_table : (conf : PartConfParts) (a b : PartShardState) → b.states ≡ a.states → (group : List ℕ) → table_at conf b.states group ≡ None
    → table_at conf a.states group ≡ None
same_table conf a b same group none = sym (ap (λ (x : ShareStates). table_at conf x group) same) ∙ none

stores_none : (conf : PartConfParts) (rose : Type 0) (end : ℕ) (a : PartShardState) (of : List ℕ) (acts : Acts) (b : PartShardState) (fault : Option StoreFault)
    → StoresActs conf rose end a of acts b fault → (group : List ℕ) → table_at conf b.states group ≡ None → table_at conf a.states group ≡ None
stores_none conf rose end a of acts b (Some Device) p group none = same_table conf a b p.2.states group none
stores_none conf rose end a of acts b (Some (Full at)) p group none = same_table conf a b p.2.states group none
stores_none conf rose end a of acts b None (inl p) group none = same_table conf a b p.1.states group none
stores_none conf rose end a of acts b None (inr p) group none = ⊎_elim
    (λ one. absurd (none_not p.1.states.next (sym none ∙ ap (λ (x : ShareStates). table_at conf x group) p.1.states.is ∙ one.1)))
    (λ other. sym (ap (λ (x : ShareStates). table_at conf x group) p.1.states.is ∙ other) ∙ none)
    (table_set conf a.states of group p.1.states.next)

module _ (conf : PartConfParts) (rose : Type 0) (end : ℕ) (a : PartShardState) (visit : Visit) (b : PartShardState) where
  acks_hold_back : (ack : AckOutcome) → Acknowledges conf rose end a visit b ack → (group : List ℕ) (o : ℕ) (hold : Hold) → hold_in b group o ≡ Some hold
      → hold_in a group o ≡ Some hold
  acks_hold_back acknowledged p group o hold at = hold_back conf rose end a visit.group (named_from a.log.start visit.acks) b None p.1 group o hold at
  acks_hold_back (Malformed fault) p group o hold at = same_hold a b p.1.held group o hold at
  acks_hold_back (NotHeld offset) p group o hold at = same_hold a b p.2.held group o hold at
  acks_hold_back (ack_store fault) p group o hold at = hold_back conf rose end a visit.group (named_from a.log.start visit.acks) b (Some fault) p.1 group o hold at

  acks_none : (ack : AckOutcome) → Acknowledges conf rose end a visit b ack → (group : List ℕ) → table_at conf b.states group ≡ None
      → table_at conf a.states group ≡ None
  acks_none acknowledged p group none = stores_none conf rose end a visit.group (named_from a.log.start visit.acks) b None p.1 group none
  acks_none (Malformed fault) p group none = same_table conf a b p.1.states group none
  acks_none (NotHeld offset) p group none = same_table conf a b p.2.states group none
  acks_none (ack_store fault) p group none = stores_none conf rose end a visit.group (named_from a.log.start visit.acks) b (Some fault) p.1 group none

released_kind : (chosen : Hold → Bool) (h : Option Hold) (kind : AckKind) → releases_if chosen h ≡ Some kind → kind ≡ ReleaseAct
released_kind chosen None kind named = absurd (none_not kind named)
released_kind chosen (Some hold) kind named = go (chosen hold) named where
  go : (b : Bool) → release_of b ≡ Some kind → kind ≡ ReleaseAct
  go true named = sym (some_same ReleaseAct kind named)
  go false named = absurd (none_not kind named)

due_end : (end clock : ℕ) → nat_le end clock ≡ true → end ≤ clock
due_end end clock e = grind (arith, nat_tests)

-- ---- what is left of a hold

-- acts that are stored end the holds that they name
named_free : (conf : PartConfParts) (rose : Type 0) (end : ℕ) (a : PartShardState) (group : List ℕ) (acts : Acts) (b : PartShardState)
    → StoresActs conf rose end a group acts b None → (o : ℕ) (kind : AckKind) → acts o ≡ Some kind → hold_in b group o ≡ None
named_free conf rose end a group acts b (inl p) o kind named = absurd (none_not kind (sym (p.0 o) ∙ named))
named_free conf rose end a group acts b (inr p) o kind named =
    ap (λ (h : List ℕ → Held). hold_at (h group) o) p.1.held
    ∙ ap (λ (h : Held). hold_at h o) (its_held a.held group (held_after acts (a.held group)))
    ∙ acts_hold acts (a.held group) o
    ∙ ap (λ (k : Option AckKind). if is_none k then hold_at (a.held group) o else None) named

groups_back : (conf : PartConfParts) (a later end last : ℕ) (groups : List (List ℕ)) (freed : ℕ) (old new : PartShardState) (answer : ExpireAnswer)
    → StepsGroups conf a later end last groups freed old answer new → (group : List ℕ) (o : ℕ) (hold : Hold) → hold_in new group o ≡ Some hold
    → hold_in old group o ≡ Some hold
groups_back conf a later end last [] freed old new answer p group o hold at = subst (λ (z : PartShardState). hold_in z group o ≡ Some hold) p.1 at
groups_back conf a later end last (g ∷ groups) freed old new answer (inr p) group o hold at =
    hold_back conf (Rose a later) end old g (ending old.clock (old.held g)) new (Some p.0) p.2.stores group o hold at
groups_back conf a later end last (g ∷ groups) freed old new answer (inl p) group o hold at =
    hold_back conf (Rose a p.1) end old g (ending old.clock (old.held g)) p.0 None p.3.stores group o hold
    (groups_back conf p.1 later p.2 last groups _ p.0 new answer p.5 group o hold at)

still_free : (a b : PartShardState) (group : List ℕ) (o : ℕ) → ((hold : Hold) → hold_in b group o ≡ Some hold → hold_in a group o ≡ Some hold)
    → hold_in a group o ≡ None → hold_in b group o ≡ None
still_free a b group o back free = go (hold_in b group o) refl where
  go : (h : Option Hold) → hold_in b group o ≡ h → hold_in b group o ≡ None
  go None is = is
  go (Some hold) is = absurd (none_not hold (sym free ∙ back hold is))

-- ---- a call on the partition

module _ (r : Record) (s : Step) (Reason Late : Type 0) (early : Reason → Late) (cause : Closes r s ⊎ IsMadeBehind r s → Reason)
    (fails : FailsToClose r s → Late) where
  why : (fault : Option StoreFault) → ActsToClose fault r s → Why Reason Late fault
  why None act = cause (inl act)
  why (Some Device) act = fails act
  why (Some (Full at)) act = tt

  module _ (x y : HostedPart) (was : entry_at r.shard (parts_of s.before) ≡ Some x) (is : entry_at r.shard (parts_of s.after) ≡ Some y)
      (is_log : IsLog x.shard.log.batches) (slot : IsSlotYet r.offset x.shard.log.batches) (low : y.shard.log.start ≤ r.offset) where
    made_behind : table_in x r.group ≡ None → IsBelow r.offset (table_in y r.group) → Reason
    made_behind none below = cause (inr (record {
      none = entry_holds r.shard (λ (p : HostedPart). table_in p r.group ≡ None) (parts_of s.before) x was none;
      behind = entry_holds r.shard (λ (p : HostedPart). IsBelow r.offset (table_in p r.group)) (parts_of s.after) y is below;
    }))

    module _ (hosted : Hosted) (its : x.hosted ≡ hosted) (also : y.hosted ≡ hosted) where
      abbrev Kept : PartShardState → Type 0
      Kept p = HasReason r.offset Reason Late hosted.conf r.group p

      made_there : table_at hosted.conf x.shard.states r.group ≡ None → IsBelow r.offset (table_at hosted.conf y.shard.states r.group) → Reason
      made_there none below = made_behind
          (subst (λ (h : Hosted). table_at h.conf x.shard.states r.group ≡ None) (sym its) none)
          (subst (λ (h : Hosted). IsBelow r.offset (table_at h.conf y.shard.states r.group)) (sym also) below)

      closed_by : (fault : Option StoreFault) (did : PartCall) → s.call ≡ Some (CallPart r.shard hosted did) → (hold : Hold) (kind : AckKind)
          → hold_in x.shard r.group r.offset ≡ Some hold → Does fault did y.shard r.group r.offset hold kind
          → is_closed_state (settled hosted.conf.limit kind hold.count).state ≡ true → Why Reason Late fault
      closed_by fault did call hold kind at does closed = why fault (record {
        hosted = hosted;
        did = did;
        hold = hold;
        kind = kind;
        call = call;
        held = entry_holds r.shard (λ (p : HostedPart). hold_at (p.shard.held r.group) r.offset ≡ Some hold) (parts_of s.before) x was at;
        does = entry_holds r.shard (λ (p : HostedPart). Does fault did p.shard r.group r.offset hold kind) (parts_of s.after) y is does;
        closes = closed;
      })

      module _ (visit : Visit) (answer : VisitAnswer) (unread : Bool) (call : s.call ≡ Some (CallPart r.shard hosted (Visits visit answer unread)))
          (starts : y.shard.log.start ≡ x.shard.log.start) where
        acted_on : (fault : Option StoreFault) → answer.ack ≡ acked fault
            → AreHeldBy visit.member (named_from x.shard.log.start visit.acks) (x.shard.held visit.group)
            → visit.group ≡ r.group → IsClosedBy r.offset hosted.conf.limit (named_from x.shard.log.start visit.acks) (x.shard.held visit.group)
            → Why Reason Late fault
        acted_on fault told theirs one act =
            let member : act.hold.member ≡ visit.member =
            subst (IsHeldBy visit.member) act.at (theirs r.offset (subst IsSome (sym act.named) refl)) in
            closed_by fault (Visits visit answer unread) call act.hold act.kind (ap (λ (g : List ℕ). hold_in x.shard g r.offset) (sym one) ∙ act.at)
            (one, member, inl (subst (λ (n : ℕ). named_from n visit.acks r.offset ≡ Some act.kind) (sym starts) act.named, told)) act.closes

        acks_keep : (rose : Type 0) (end : ℕ) (b : PartShardState) (ack : AckOutcome) → answer.ack ≡ ack → Acknowledges hosted.conf rose end x.shard visit b ack
            → Kept x.shard → Kept b
        acks_keep rose end b acknowledged told p k =
            stored_so r.offset Reason Late early hosted.conf r.group rose end x.shard visit.group (named_from x.shard.log.start visit.acks) b None is_log slot
            (λ one act. acted_on None told p.0.1 one act) p.1 k
        acks_keep rose end b (Malformed fault) told p k = still r.offset Reason Late early hosted.conf r.group x.shard b p.1.states p.1.pending k
        acks_keep rose end b (NotHeld offset) told p k = still r.offset Reason Late early hosted.conf r.group x.shard b p.2.states p.2.pending k
        acks_keep rose end b (ack_store fault) told p k =
            stored_so r.offset Reason Late early hosted.conf r.group rose end x.shard visit.group (named_from x.shard.log.start visit.acks) b (Some fault) is_log slot
            (λ one act. acted_on (Some fault) told p.0.1 one act) p.1 k

        then_keeps : (rose : Type 0) (end : ℕ) (a : PartShardState) → IsLog a.log.batches → IsSlotYet r.offset a.log.batches
            → ((hold : Hold) → hold_in a r.group r.offset ≡ Some hold → hold_in x.shard r.group r.offset ≡ Some hold)
            → (table_at hosted.conf a.states r.group ≡ None → table_at hosted.conf x.shard.states r.group ≡ None)
            → (t : Then) → visit.then ≡ t → DoesThen hosted.conf true rose end a visit answer y.shard t → Kept a → Kept y.shard
        then_keeps rose end a log_of slot_of holds tables Nothing asked p k = still r.offset Reason Late early hosted.conf r.group a y.shard p.1.states p.1.pending k
        then_keeps rose end a log_of slot_of holds tables Release asked p k =
            stored_so r.offset Reason Late early hosted.conf r.group rose end a visit.group (releases_of visit.member (a.held visit.group)) y.shard (fault_of answer.then) log_of slot_of
            (λ one act.
            let chosen = chosen_held (is_chosen (Member visit.member)) (a.held visit.group) r.offset act.hold act.kind act.at act.named in
            let kind : act.kind ≡ ReleaseAct = released_kind (is_chosen (Member visit.member)) (hold_at (a.held visit.group) r.offset) act.kind act.named in
            closed_by (fault_of answer.then) (Visits visit answer unread) call act.hold act.kind
            (holds act.hold (ap (λ (g : List ℕ). hold_in a g r.offset) (sym one) ∙ act.at))
            (one, sym (group_is visit.member act.hold.member chosen), inr (asked, kind, refl)) act.closes) p.1 k
        then_keeps rose end a log_of slot_of holds tables (Fetch records bytes first) asked p k =
            fetched_so r.offset Reason Late early hosted.conf r.group true rose end a visit (record { records = records; bytes = bytes; first = first }) answer y.shard
            (table_at hosted.conf a.states visit.group) refl (λ none below. made_there (tables none) below) p k

        follows_keeps : (lost rose : Type 0) (end : ℕ) (a : PartShardState) → IsLog a.log.batches → IsSlotYet r.offset a.log.batches
            → ((hold : Hold) → hold_in a r.group r.offset ≡ Some hold → hold_in x.shard r.group r.offset ≡ Some hold)
            → (table_at hosted.conf a.states r.group ≡ None → table_at hosted.conf x.shard.states r.group ≡ None)
            → (failed : Bool) → Follows hosted.conf true lost rose end a visit answer y.shard failed → Kept a → Kept y.shard
        follows_keeps lost rose end a log_of slot_of holds tables true p k =
            unread_so r.offset Reason Late early hosted.conf r.group a visit y.shard (table_at hosted.conf a.states visit.group) refl
            (λ none below. made_there (tables none) below) p.table k
        follows_keeps lost rose end a log_of slot_of holds tables false p k =
            then_keeps rose end a log_of slot_of holds tables visit.then refl p k

      -- an expiry, with this answer
      abbrev Ended : ExpireAnswer → (old new : PartShardState) → Type 0
      Ended answer old new = (fault : Option StoreFault) (hold : Hold) → hold_in old r.group r.offset ≡ Some hold → hold.end ≤ old.clock
          → Frees fault answer r.group (hold_in new r.group r.offset)
          → is_closed_state (settled hosted.conf.limit ReleaseAct hold.count).state ≡ true → Why Reason Late fault

      expired : (answer : ExpireAnswer) (old new : PartShardState) (group : List ℕ) (fault : Option StoreFault) → Ended answer old new → group ≡ r.group
          → ((kind : AckKind) → ending old.clock (old.held group) r.offset ≡ Some kind → Frees fault answer group (hold_in new group r.offset))
          → IsClosedBy r.offset hosted.conf.limit (ending old.clock (old.held group)) (old.held group) → Why Reason Late fault
      expired answer old new group fault ended one frees act =
          let due = chosen_held (is_chosen (Due old.clock)) (old.held group) r.offset act.hold act.kind act.at act.named in
          let kind : act.kind ≡ ReleaseAct = released_kind (is_chosen (Due old.clock)) (hold_at (old.held group) r.offset) act.kind act.named in
          ended fault act.hold (ap (λ (g : List ℕ). hold_in old g r.offset) (sym one) ∙ act.at) (due_end act.hold.end old.clock due)
          (subst (λ (g : List ℕ). Frees fault answer g (hold_in new g r.offset)) one (frees act.kind act.named))
          (subst (λ (k : AckKind). is_closed_state (settled hosted.conf.limit k act.hold.count).state ≡ true) kind act.closes)

      groups_keep : (a later end last : ℕ) (groups : List (List ℕ)) (freed : ℕ) (old new : PartShardState) (answer : ExpireAnswer)
          → StepsGroups hosted.conf a later end last groups freed old answer new → IsLog old.log.batches → IsSlotYet r.offset old.log.batches
          → Ended answer old new → Kept old → Kept new
      groups_keep a later end last [] freed old new answer p log_of slot_of ended k =
          still r.offset Reason Late early hosted.conf r.group old new (ap (λ (z : PartShardState). z.states) p.1) (ap (λ (z : PartShardState). z.pending) p.1) k
      groups_keep a later end last (group ∷ groups) freed old new answer (inr p) log_of slot_of ended k =
          stored_so r.offset Reason Late early hosted.conf r.group (Rose a later) end old group (ending old.clock (old.held group)) new (Some p.0) log_of slot_of
          (λ one act. expired answer old new group (Some p.0) ended one (λ kind named. (freed, p.1)) act) p.2.stores k
      groups_keep a later end last (group ∷ groups) freed old new answer (inl p) log_of slot_of ended k =
          let same_log : p.0.log.batches ≡ old.log.batches = ap (λ (l : LogShardState). l.batches) p.3.log in
          groups_keep p.1 later p.2 last groups _ p.0 new answer p.5 (subst IsLog (sym same_log) log_of) (subst (IsSlotYet r.offset) (sym same_log) slot_of)
          (λ fault hold at due frees closed. ended fault hold
          (hold_back hosted.conf (Rose a p.1) end old group (ending old.clock (old.held group)) p.0 None p.3.stores r.group r.offset hold at)
          (subst (λ (c : ℕ). hold.end ≤ c) p.3.clock due) frees closed)
          (stored_so r.offset Reason Late early hosted.conf r.group (Rose a p.1) end old group (ending old.clock (old.held group)) p.0 None log_of slot_of
          (λ one act. expired answer old new group None ended one
          (λ kind named. still_free p.0 new group r.offset
          (groups_back hosted.conf p.1 later p.2 last groups _ p.0 new answer p.5 group r.offset)
          (named_free hosted.conf (Rose a p.1) end old group (ending old.clock (old.held group)) p.0 p.3.stores r.offset kind named)) act) p.3.stores k)

      -- a delete: the record doesn't lie below the new start
      raised_keeps : (n : ℕ) → n ≤ r.offset → IsRaisedTo n x.shard y.shard → Kept x.shard → Kept y.shard
      raised_keeps n le raises k = record {
        now = λ passed. k.now (passed_raised n r.offset le (table_at hosted.conf x.shard.states r.group)
            (subst (Passed r.offset) (table_raised x.shard.states)
            (subst (λ (z : ShareStates). Passed r.offset (table_at hosted.conf z r.group)) raises.states passed)));
        lost = λ found at passed.
            let w = pending_one n x.shard.pending found (sym raises.pending ∙ at) in
            ⊎_elim
            (λ late. inl late)
            (λ made. inr (
              ap (λ (z : ShareStates). table_at hosted.conf z r.group) raises.states
                  ∙ (table_raised x.shard.states ∙ none_raised n (table_at hosted.conf x.shard.states r.group) made.0),
              subst (λ (z : ShareStates). IsBelow r.offset (table_at hosted.conf z r.group)) w.2
                  (subst (IsBelow r.offset) (sym (table_raised w.0)) (below_raised n r.offset le (table_at hosted.conf w.0 r.group) made.1)),
            ))
            (k.lost w.0 w.1 (passed_raised n r.offset le (table_at hosted.conf w.0 r.group)
            (subst (Passed r.offset) (table_raised w.0)
            (subst (λ (z : ShareStates). Passed r.offset (table_at hosted.conf z r.group)) (sym w.2) passed))));
      } where
        table_raised : (states : ShareStates) → table_at hosted.conf (raised_states n states) r.group ≡ option_map (raised n) (table_at hosted.conf states r.group)
        table_raised states = raised_at n states (key_of hosted.conf r.group)

      delete_keeps : (rose : Type 0) (end : ℕ) (to : ℤ) (answer : DeleteAnswer) → DeletesPart rose end x.shard to answer y.shard → Kept x.shard → Kept y.shard
      delete_keeps rose end to (OutOfRange at) p k = still r.offset Reason Late early hosted.conf r.group x.shard y.shard p.3.states p.3.pending k
      delete_keeps rose end to (delete_store fault) p k = still r.offset Reason Late early hosted.conf r.group x.shard y.shard p.3.states p.3.pending k
      delete_keeps rose end to (Deleted start) p k = ⊎_elim
          (λ (d : DeletesNothing x.shard p.0 start y.shard). still r.offset Reason Late early hosted.conf r.group x.shard y.shard d.still.states d.still.pending k)
          (λ (d : DeletesBelow end x.shard p.0 start y.shard).
          raised_keeps p.0 (let is = d.log.start_is in omega (arith, low, is)) d.tables k) p.2

      part_keeps : (now : ℕ) (did : PartCall) → s.call ≡ Some (CallPart r.shard hosted did)
          → StepsPart true (counts_of s.before s.after) (ends_of s.before s.after) now hosted x.shard did y.shard → Kept x.shard → Kept y.shard
      part_keeps now (Visits visit answer unread) call p k =
          let c = faults_before (counts_of s.before s.after) (state_store hosted) in
          let l = faults_behind (counts_of s.before s.after) (state_store hosted) in
          let same_log : p.between.log.batches ≡ x.shard.log.batches = ap (λ (l : LogShardState). l.batches) p.acks.log in
          let starts : y.shard.log.start ≡ x.shard.log.start = ap (λ (l : LogShardState). l.start) p.log in
          follows_keeps visit answer unread call starts _ (Rose p.counted l) p.at p.between (subst IsLog (sym same_log) is_log) (subst (IsSlotYet r.offset) (sym same_log) slot)
          (λ hold at. acks_hold_back hosted.conf (Rose c p.counted) _ x.shard visit p.between answer.ack p.acks.does r.group r.offset hold at)
          (λ none. acks_none hosted.conf (Rose c p.counted) _ x.shard visit p.between answer.ack p.acks.does r.group none)
          unread p.does (acks_keep visit answer unread call starts (Rose c p.counted) _ p.between answer.ack refl p.acks.does k)
      part_keeps now (Produces batch produced) call p k = still r.offset Reason Late early hosted.conf r.group x.shard y.shard p.still.states p.still.pending k
      part_keeps now (Looks group looked) call p k = still r.offset Reason Late early hosted.conf r.group x.shard y.shard
          (ap (λ (z : PartShardState). z.states) p.1) (ap (λ (z : PartShardState). z.pending) p.1) k
      part_keeps now (Expires answer) call p k =
          groups_keep _ _ _ _ _ 0 (with_clock_raised now x.shard) y.shard answer p.groups is_log slot
          (λ fault hold at due frees closed. closed_by fault (Expires answer) call hold ReleaseAct at
          (refl, subst (λ (c : ℕ). hold.end ≤ c) (sym p.clock) due, frees) closed)
          (still r.offset Reason Late early hosted.conf r.group x.shard (with_clock_raised now x.shard) refl refl k)
      part_keeps now (Deletes to answer) call p k = delete_keeps _ _ to answer p.does k

    abbrev KeptIn : Type 0 → HostedPart → Type 0
    KeptIn Until p = HasReason r.offset Reason Until p.hosted.conf r.group p.shard

    -- what gives a reason where this step is a power loss that finds the record passed
    abbrev Found : Type 0 → Type 0
    Found Before = Before → (choice : ℕ) → s.event ≡ Power choice → FindsPassed r s → Reason

    -- a power loss
    lost_keeps : (Before : Type 0) → Found Before → IsLostIn s x y → KeptIn Before x → KeptIn Late y
    lost_keeps Before finds lost k = subst (λ (h : Hosted). HasReason r.offset Reason Late h.conf r.group y.shard) (sym lost.lands.hosted) (record {
      now = λ passed.
          let had = before_loss passed in
          ⊎_elim
          (λ same. k.now (subst (λ (z : ShareStates). Passed r.offset (table_at x.hosted.conf z r.group)) same had))
          (λ own. ⊎_elim
          (λ late. ⊎_elim
          (λ already. k.now already)
          (λ yet. finds late lost.choice lost.event (record {
            before = entry_holds r.shard (λ (p : HostedPart). IsPassed r.offset (table_in p r.group) → ⊥) (parts_of s.before) x was yet;
            behind = entry_holds r.shard (λ (p : HostedPart). IsPassed r.offset (table_in p r.group)) (parts_of s.after) y is
                (subst (λ (h : Hosted). Passed r.offset (table_at h.conf y.shard.states r.group)) (sym lost.lands.hosted) passed);
          }))
          (passed_or_not r.offset (table_in x r.group)))
          (λ made. made_behind made.0 (subst (λ (h : Hosted). IsBelow r.offset (table_at h.conf y.shard.states r.group)) (sym lost.lands.hosted)
          (subst (λ (z : ShareStates). IsBelow r.offset (table_at x.hosted.conf z r.group)) (sym states)
          (subst (IsBelow r.offset) (sym (table_raised lost.lands.states))
          (below_raised lost.lands.log.start r.offset within (table_at x.hosted.conf lost.lands.states r.group) made.1)))))
          (k.lost lost.lands.states own had))
          lost.lands.states_are;
      lost = nothing_lost r.offset Reason Late early x.hosted.conf r.group y.shard (ap (λ (z : PartShardState). z.pending) lost.lands.shard);
    }) where
      states : y.shard.states ≡ raised_states lost.lands.log.start lost.lands.states
      states = ap (λ (z : PartShardState). z.states) lost.lands.shard

      within : lost.lands.log.start ≤ r.offset
      within = subst (λ (z : PartShardState). z.log.start ≤ r.offset) lost.lands.shard low

      table_raised : (found : ShareStates) → table_at x.hosted.conf (raised_states lost.lands.log.start found) r.group
          ≡ option_map (raised lost.lands.log.start) (table_at x.hosted.conf found r.group)
      table_raised found = raised_at lost.lands.log.start found (key_of x.hosted.conf r.group)

      before_loss : Passed r.offset (table_at x.hosted.conf y.shard.states r.group) → Passed r.offset (table_at x.hosted.conf lost.lands.states r.group)
      before_loss passed = passed_raised lost.lands.log.start r.offset within (table_at x.hosted.conf lost.lands.states r.group)
          (subst (Passed r.offset) (table_raised lost.lands.states)
          (subst (λ (z : ShareStates). Passed r.offset (table_at x.hosted.conf z r.group)) states passed))

    goes_keep : (Before : Type 0) → Found Before → (Before → Late) ⊎ IsLostIn s x y → Goes r.shard s x y → KeptIn Before x → KeptIn Late y
    goes_keep Before finds (inr lost) goes k = lost_keeps Before finds lost k
    goes_keep Before finds (inl on) (inr (inr lost)) k = lost_keeps Before finds lost k
    goes_keep Before finds (inl on) (inl same) k =
        subst (KeptIn Late) (sym same) (later_so r.offset Reason Before Late on x.hosted.conf r.group x.shard k)
    goes_keep Before finds (inl on) (inr (inl c)) k =
        subst (λ (h : Hosted). HasReason r.offset Reason Late h.conf r.group y.shard) (sym c.step.is)
        (part_keeps c.hosted c.step.was c.step.is c.now c.did c.call c.step.step
        (subst (λ (h : Hosted). HasReason r.offset Reason Late h.conf r.group x.shard) c.step.was
        (later_so r.offset Reason Before Late on x.hosted.conf r.group x.shard k)))

-- ---- what the next power loss finds

-- a step that isn't a power loss leaves it to those behind it
found_behind : (Later : Type 0) (r : Record) (s : Step) (event : Event) → NoPower event
    → (FindsOr Later r s event → Later) × (Later → FindsOr Later r s event)
found_behind Later r s (Open conn) free = (λ found. found, λ later. later)
found_behind Later r s (Bytes conn bytes) free = (λ found. found, λ later. later)
found_behind Later r s (Close conn) free = (λ found. found, λ later. later)
found_behind Later r s (StepOf conn now) free = (λ found. found, λ later. later)
found_behind Later r s (Expire topic part now) free = (λ found. found, λ later. later)
found_behind Later r s (Tick now) free = (λ found. found, λ later. later)
found_behind Later r s (Arm disk after mode) free = (λ found. found, λ later. later)
found_behind Later r s (Power choice) free = absurd free

found_here : (Later : Type 0) (r : Record) (s : Step) (choice : ℕ) → s.event ≡ Power choice → FindsPassed r s → FindsOr Later r s s.event
found_here Later r s choice is found = subst (FindsOr Later r s) (sym is) found

-- where no power is lost nothing is found
pub unlost : (r : Record) (steps : List Step) → AllByRecursion NoPower (events_of steps) → NextLossFinds r steps → ⊥
unlost r [] free found = found
unlost r (s ∷ steps) free found = unlost r steps free.1 ((found_behind (NextLossFinds r steps) r s s.event free.0).0 found)

passing_later : (r : Record) (s : Step) (steps : List Step) → ArePassing r steps → ArePassing r (s ∷ steps)
passing_later r s steps p = record {
  before = s ∷ p.before;
  step = p.step;
  after = p.after;
  split = ap (λ (l : List Step). s ∷ l) p.split;
  cause = p.cause;
}

module _ (conf : ConfigParts) (r : Record) (Reason : Type 0) where
  -- what the next power loss finds among these steps gives the reason
  abbrev Awaits : List Step → Type 0
  Awaits steps = NextLossFinds r steps → Reason

  abbrev Reasons : List Step → HostedPart → Type 0
  Reasons steps p = HasReason r.offset Reason (Awaits steps) p.hosted.conf r.group p.shard

  step_keeps : (s : Step) (steps : List Step) → IsStepOf conf s → (ArePassing r (s ∷ steps) → Reason) → (x y : HostedPart)
      → entry_at r.shard (parts_of s.before) ≡ Some x → entry_at r.shard (parts_of s.after) ≡ Some y → IsLog x.shard.log.batches
      → IsSlotYet r.offset x.shard.log.batches → y.shard.log.start ≤ r.offset → Goes r.shard s x y → Reasons (s ∷ steps) x → Reasons steps y
  step_keeps s steps step cause x y was is is_log slot low goes k =
      goes_keep r s Reason (Awaits steps) (λ reason found. reason)
      (λ why. cause (record { before = []; step = s; after = steps; split = refl; cause = at_once why }))
      (λ act found. cause (record { before = []; step = s; after = steps; split = refl; cause = inr (inr (act, found)) }))
      x y was is is_log slot low (Awaits (s ∷ steps))
      (λ late choice event found. late (found_here (NextLossFinds r steps) r s choice event found))
      (⊎_elim
      (λ free. inl (λ late found. late ((found_behind (NextLossFinds r steps) r s s.event free).1 found)))
      (λ lost. inr (lost_at conf s step r.shard lost.0 lost.1 x y was is))
      (power_or_not s.event))
      goes k
    where
      at_once : Closes r s ⊎ IsMadeBehind r s → Closes r s ⊎ (IsMadeBehind r s ⊎ (FailsToClose r s × NextLossFinds r steps))
      at_once (inl closes) = inl closes
      at_once (inr made) = inr (inl made)

  run_keeps : (first last : State) (steps : List Step) → IsRun conf first steps last → (ArePassing r steps → Reason)
      → (x y : HostedPart) → entry_at r.shard (parts_of first) ≡ Some x → entry_at r.shard (parts_of last) ≡ Some y → IsLog x.shard.log.batches
      → IsSlotYet r.offset y.shard.log.batches → y.shard.log.start ≤ r.offset → Reasons steps x → Reasons [] y
  run_keeps first last [] run cause x y at there is_log slot low k =
      subst (Reasons []) (some_same x y (sym at ∙ ap (λ (s : State). entry_at r.shard (parts_of s)) (sym run) ∙ there)) k
  run_keeps first last (s ∷ steps) run cause x y at there is_log slot low k =
      let was = ap (λ (z : State). entry_at r.shard (parts_of z)) run.0 ∙ at in
      let w = went conf s run.1 r.shard x was in
      let g = goes_log r.shard s x w.0 w.2 in
      let mid = slots_back conf r.shard r.offset s.after last steps run.2 w.0 y w.1 there (g.still is_log) slot in
      run_keeps s.after last steps run.2 (λ p. cause (passing_later r s steps p)) w.0 y w.1 there (g.still is_log) slot low
      (step_keeps s steps run.1 cause x w.0 was w.1 is_log
      (before_it r.offset x.shard.log.batches w.0.shard.log.batches is_log g mid)
      (starts_back conf r.shard r.offset s.after last steps run.2 w.0 y w.1 there low) w.2 k)

abbrev Because : State → List Step → Record → Type 0
Because first steps r = HoldsAt r.shard (λ (p : HostedPart). IsPassed r.offset (table_in p r.group)) (parts_of first) ⊎ ArePassing r steps

pub passes_closed : (conf : ConfigParts) (first last : State) (steps : List Step) → IsRun conf first steps last → StartsPassClosedRecords first steps last
passes_closed conf first last steps run well r ends =
    let y = holds_entry r.shard (λ (q : HostedPart). IsSlotOf (log_at q.shard.log) r.offset × IsBelow r.offset (table_in q r.group)) (parts_of last) ends in
    let x = first_entry conf r.shard first last steps run y.0 y.1 in
    let begins = all_entry r.shard IsWell (parts_of first) x.0 x.1 well in
    (run_keeps conf r (Because first steps r) first last steps run (λ p. inr p) x.0 y.0 x.1 y.1 begins.0 (inl y.2.0.1) y.2.0.0
    (record {
      now = λ passed. inl (entry_holds r.shard (λ (p : HostedPart). IsPassed r.offset (table_in p r.group)) (parts_of first) x.0 x.1 passed);
      lost = nothing_lost r.offset (Because first steps r) (Awaits conf r (Because first steps r) steps) (λ reason found. reason)
          x.0.hosted.conf r.group x.0.shard begins.1;
    })).now (inl y.2.1)

-- ---- an opening

opened_well : (contents : List ℕ → List ℕ) (parts : List HostedPart) → AllByRecursion (OpensPart contents) parts → AllByRecursion BeginsWell parts
opened_well contents [] all = tt
opened_well contents (p ∷ parts) all = (
  record {
    well = (
      subst IsLog (sym (ap (λ (z : PartShardState). z.log.batches) all.0.shard)) (text_is_sound _ all.0.log all.0.stands.log_is).rises,
      ap (λ (z : PartShardState). z.pending) all.0.shard,
    );
    above = (
      subst (λ (z : PartShardState). z.log.start ≤ end_of z.log.batches) (sym all.0.shard) (text_within _ all.0.log all.0.stands.log_is),
      subst (λ (z : PartShardState). StartAbove z.log.start z.states) (sym all.0.shard)
          (subst (StartAbove all.0.log.start) (sym all.0.stands.raised_is) (raised_above all.0.log.start all.0.stands.written)),
    );
  },
  opened_well contents parts all.1,
)

pub openings_well : (conf : ConfigParts) → OpeningsAreWell conf
openings_well conf contents machine opening = opened_well contents machine.shards.parts opening.parts
