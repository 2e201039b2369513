-- No acknowledgement that was answered as done is lost.
use Rattle.std.proofs.Common.{◌≡◌, ◌≢◌, ◌⊎◌, ◌≤◌, ◌<◌, ◌+◌, inl, inr, ⊎_elim, refl, sym, ap, ◌∙◌, subst, arith, ℕ, ℤ, List, [], ◌∷◌, ◌++◌, Bool, true, false, Option, Some, None, if◌then◌else◌}
use Rattle.std.proofs.lemmas.Bool.{true≢false}
use Rattle.std.proofs.lemmas.Bool.Decides.{nat_tests}
use Rattle.std.proofs.lemmas.Map.Lookups.{exact_unsigned}
use Rattle.std.specs.Prelude.{IsSome, is_none, nat_lt, unwrap_or}
use Rattle.std.specs.Option.{option_map, option_or}
use Rattle.std.specs.BTreeMap.{insert_entry}
use Rattle.std.specs.Cmp.{nat_cmp_total}
use Rattle.std.specs.List.{AllByRecursion}
use Rattle.std.specs.Ordering.{nat_cmp}
use Rattle.edge_io.specs.Causes.{Rose}
use Rattle.share_model.specs.ForeignRules.{ShareStates, size_of}
use Rattle.share_model.specs.Held.{Held, hold_at}
use Rattle.share_model.specs.Keys.{key_cmp}
use Rattle.share_model.specs.Logs.{Batch as LogBatch, IsLog, end_of}
use Rattle.share_model.specs.Runs.{row_at}
use Rattle.share_model.specs.ShareStates.{ShareState}
use Rattle.share_model.specs.declared.ack.AckKind.{AckKind}
use Rattle.share_model.specs.declared.delete.DeleteAnswer.{DeleteAnswer}
use Rattle.share_model.specs.declared.delete.DeleteAnswer.TheVariants.{Done as Deleted, OutOfRange, Store as delete_store}
use Rattle.share_model.specs.declared.fault.StoreFault.{StoreFault}
use Rattle.share_model.specs.declared.fault.StoreFault.TheVariants.{Device, Full}
use Rattle.share_model.specs.declared.hold.Hold.{Hold}
use Rattle.share_model.specs.declared.row.Row.{Row}
use Rattle.share_model.specs.declared.row.RowState.{RowState}
use Rattle.share_model.specs.declared.row.RowState.TheVariants.{Available, Acknowledged, Archived}
use Rattle.share_model.specs.declared.visit.AckOutcome.{AckOutcome}
use Rattle.share_model.specs.declared.visit.AckOutcome.TheVariants.{Done as acknowledged, Malformed, NotHeld, Store as ack_store}
use Rattle.share_model.specs.declared.visit.ExpireAnswer.{ExpireAnswer}
use Rattle.share_model.specs.declared.visit.Then.{Then}
use Rattle.share_model.specs.declared.visit.Then.TheVariants.{Nothing, Release, Fetch}
use Rattle.share_model.specs.declared.visit.ThenOutcome.{ThenOutcome}
use Rattle.share_model.specs.declared.visit.ThenOutcome.TheVariants.{Done as followed, Store as then_store}
use Rattle.share_model.specs.declared.visit.Visit.{Visit}
use Rattle.share_model.specs.declared.visit.VisitAnswer.{VisitAnswer}
use Rattle.part_log.specs.Shards.{LogShardState, log_at}
use Rattle.part_log.proofs.Rising.{end_more}
use Rattle.part_log.proofs.Writes.{text_within}
use Rattle.offset_runs.specs.Parts.{from_on}
use Rattle.share_coord.specs.Raising.{raised, raised_states, starts_below}
use Rattle.share_coord.proofs.Raising.{below_size, raised_at, raised_below, raised_not}
use Rattle.share_part.specs.Acknowledging.{Acknowledges, AreSettled, IsActedOn, StoresActs}
use Rattle.share_part.specs.Deleting.{Deletes as DeletesPart, DeletesBelow, DeletesNothing, IsRaisedTo}
use Rattle.share_part.specs.Expiring.{StepsGroups, ending}
use Rattle.share_part.specs.Following.{Acquires, Does as DoesThen, Follows, Fetches, HasItsTable, MakesTable, fault_of, releases_of}
use Rattle.share_part.specs.Hosting.{PartConfParts, key_of}
use Rattle.share_part.specs.Named.{named_from}
use Rattle.share_part.specs.Settling.{Acts, IsHeldBy, IsSettled, act_row, held_after, is_closed_state, settled, stored_after}
use Rattle.share_part.specs.Shards.{PartShardState, new_state, with_clock_raised}
use Rattle.share_part.specs.Tables.{delivery_of, one_more, table_of, unless_held, with_holds}
use Rattle.share_part.specs.Walks.{acquired}
use Rattle.share_part.specs.declared.limits.Limits.{Limits}
use Rattle.topic_conf.specs.Configs.{ConfigParts}
use Rattle.broker_model.specs.Hosted.{Hosted, first_of, state_store}
use Rattle.broker_model.specs.Shards.{HostedPart, PartCall, StepsPart, faults_before, faults_behind}
use Rattle.broker_model.specs.Shards.PartCall.{Visits, Produces, Looks, Expires, Deletes}
use Rattle.broker_model.specs.Keeping.{HasKept, IsActedOnIn, KeepsAcknowledgements}
use Rattle.broker_model.specs.Locks.{Record}
use Rattle.broker_model.specs.Starts.{IsWell, table_in}
use Rattle.broker_model.specs.Runs.{Step, IsRun}
use Rattle.broker_model.specs.States.{State, counts_of, ends_of}
use Rattle.broker_model.proofs.Above.{lt_or_le, none_from}
use Rattle.broker_model.proofs.Chains.{run_parts}
use Rattle.broker_model.proofs.Goes.{Called, Goes, IsStepOf, called, parts_of, went}
use Rattle.broker_model.proofs.Holding.{IsFree, acts_hold, hold_in, its_held, one_of_two, stores_hold, taken_free}
use Rattle.broker_model.proofs.Lists.{all_entry, entry_at, entry_holds, holds_of, none_not, some_same}
use Rattle.broker_model.proofs.Histories.{keys_exact, keys_total}
use Rattle.broker_model.proofs.Maps.{set_found, set_other}
use Rattle.broker_model.proofs.Raises.{pending_one, row_from}
use Rattle.broker_model.proofs.LogsBack.{LogGoes, first_entry, goes_log, rises_back, slot_below}
use Rattle.broker_model.proofs.Passing.{table_at, table_set}

-- ---- logs

end_grows : (old new : List LogBatch) → LogGoes old new → IsLog old → end_of old ≤ end_of new
end_grows old new g is_log = ⊎_elim
    (λ same. let is : end_of new ≡ end_of old = ap end_of same in omega (arith, is))
    (λ (more : (b : LogBatch) × (new ≡ old ++ b ∷ [])).
    let r = rises_back 0 old more.0 (subst IsLog more.1 (g.still is_log)) in
    let le = r.0 in
    let ge = r.1 in
    let is : end_of new ≡ more.0.last + 1 = ap end_of more.1 ∙ end_more old more.0 in
    omega (arith, le, ge, is))
    g.same_or_more

-- ---- a row that no act changes

closed_more : (s : RowState) (n : ℕ) → is_closed_state s ≡ true → one_more s n ≡ None
closed_more Available n closed = absurd (true≢false (sym closed))
closed_more Acknowledged n closed = refl
closed_more Archived n closed = refl

no_delivery : (h : Option Hold) (row : Row) → is_closed_state row.state ≡ true → unless_held h row ≡ None
no_delivery None row closed = closed_more row.state row.count closed
no_delivery (Some hold) row closed = refl

no_act : (limit : ℕ) (k : Option AckKind) → act_row limit k None ≡ None
no_act limit None = refl
no_act limit (Some kind) = refl

untouched : (member : List ℕ) (end o : ℕ) (taken : List (ℕ × ℕ)) (held : Held) → AllByRecursion (λ (t : ℕ × ℕ). o ≢ t.0) taken
    → hold_at (with_holds member end taken held) o ≡ hold_at held o
untouched member end o [] held away = refl
untouched member end o (t ∷ taken) held away =
    untouched member end o taken (insert_entry nat_cmp held t.0 (record { member = member; end = end; count = t.1 })) away.1
    ∙ set_other nat_cmp nat_cmp_total exact_unsigned t.0 (record { member = member; end = end; count = t.1 }) o away.0 held

-- the record has the row, or lies below a start that isn't behind the log's end
abbrev KeptIn : ℕ → Row → List LogBatch → Option ShareState → Type 0
KeptIn o row log None = ⊥
KeptIn o row log (Some state) = HasKept o row (Some state) × (size_of state.start ≤ end_of log)

kept_longer : (o : ℕ) (row : Row) (log more : List LogBatch) (t : Option ShareState) → end_of log ≤ end_of more → KeptIn o row log t → KeptIn o row more t
kept_longer o row log more None le k = k
kept_longer o row log more (Some state) le k = let ge = k.1 in (k.0, omega (arith, le, ge))

kept_has : (o : ℕ) (row : Row) (log : List LogBatch) (t : Option ShareState) → KeptIn o row log t → HasKept o row t
kept_has o row log None k = k
kept_has o row log (Some state) k = k.0

-- so it does where the table is raised to an offset that isn't behind the log's end
raised_kept : (o : ℕ) (row : Row) (n : ℕ) (log : List LogBatch) (t : Option ShareState) → n ≤ end_of log → KeptIn o row log t → KeptIn o row log (option_map (raised n) t)
raised_kept o row n log None within k = k
raised_kept o row n log (Some state) within k = by_low (starts_below state.start n) refl where
  cut : n ≤ o → starts_below state.start n ≡ true → (o < size_of state.start) ⊎ (row_at state.runs o ≡ Some row) → row_at (from_on state.runs n) o ≡ Some row
  cut from low (inl below) = let up = below_size state.start n low in let clash : ⊥ = omega (arith, from, up, below) in absurd clash
  cut from low (inr has) = row_from state.runs n o from ∙ has

  by_offset : starts_below state.start n ≡ true → (o < n) ⊎ (n ≤ o) → (o < n) ⊎ (row_at (from_on state.runs n) o ≡ Some row)
  by_offset low (inl below) = inl below
  by_offset low (inr from) = inr (cut from low k.0)

  by_low : (b : Bool) → starts_below state.start n ≡ b → KeptIn o row log (Some (raised n state))
  by_low true low = subst (λ (x : ShareState). KeptIn o row log (Some x)) (sym (raised_below state n low)) (by_offset low (lt_or_le o n), within)
  by_low false high = subst (λ (x : ShareState). KeptIn o row log (Some x)) (sym (raised_not state n high)) k

-- the record is held by nobody, and its row stays
record Keeps (o : ℕ) (row : Row) (conf : PartConfParts) (group : List ℕ) (log : List LogBatch) (p : PartShardState) : Type 0 where
  free : hold_in p group o ≡ None
  now : KeptIn o row log (table_at conf p.states group)
  lost : (states : ShareStates) → p.pending ≡ Some states → KeptIn o row log (table_at conf states group)

longer : (o : ℕ) (row : Row) (conf : PartConfParts) (group : List ℕ) (log more : List LogBatch) (p : PartShardState) → end_of log ≤ end_of more
    → Keeps o row conf group log p → Keeps o row conf group more p
longer o row conf group log more p le k = record {
  free = k.free;
  now = kept_longer o row log more (table_at conf p.states group) le k.now;
  lost = λ states at. kept_longer o row log more (table_at conf states group) le (k.lost states at);
}

module _ (o : ℕ) (row : Row) (closed : is_closed_state row.state ≡ true) where
  -- acts on other records leave it
  settled_keeps : (limit : ℕ) (acts : Acts) (log : List LogBatch) (state next : ShareState) (held : Held) → IsLog log → hold_at held o ≡ None
      → IsSettled limit acts log (table_of state held) next → KeptIn o row log (Some state) → KeptIn o row log (Some next)
  settled_keeps limit acts log state next held is_log free s k = (
    ⊎_elim
        (λ low. inl (subst (λ (n : ℕ). o < n) (sym told) (let le = later in omega (arith, low, le))))
        (λ there. by_start (nat_lt o s.start) refl there)
        k.0,
    subst (λ (n : ℕ). n ≤ end_of log) (sym told) within,
  ) where
    told : size_of next.start ≡ s.start
    told = ap size_of s.start_told

    later : size_of state.start ≤ s.start
    later = ⊎_elim (λ least. least.1) (λ none. let is : s.start ≡ end_of log = none.0 in let le = k.1 in omega (arith, is, le)) s.start_is

    within : s.start ≤ end_of log
    within = ⊎_elim
        (λ least. let lt = slot_below 0 log s.start is_log least.0.slot in omega (arith, lt))
        (λ none. let is : s.start ≡ end_of log = none.0 in omega (arith, is))
        s.start_is

    stored : row_at state.runs o ≡ Some row → stored_after limit acts (table_of state held) o ≡ Some row
    stored there =
        ap (λ (h : Option Hold). option_or (act_row limit (acts o) h) (row_at state.runs o)) free
        ∙ ap (λ (r : Option Row). option_or r (row_at state.runs o)) (no_act limit (acts o)) ∙ there

    below : nat_lt o s.start ≡ true → o < s.start
    below t = grind (arith, nat_tests)

    by_start : (t : Bool) → nat_lt o s.start ≡ t → row_at state.runs o ≡ Some row → HasKept o row (Some next)
    by_start true t there = inl (subst (λ (n : ℕ). o < n) (sym told) (below t))
    by_start false t there =
        inr (s.rows o ∙ ap (λ (b : Bool). if b then None else stored_after limit acts (table_of state held) o) t ∙ stored there)

  module _ (conf : PartConfParts) (group : List ℕ) (log : List LogBatch) (is_log : IsLog log) where
    abbrev IsStill : PartShardState → Type 0
    IsStill p = Keeps o row conf group log p

    abbrev Kept : ShareStates → Type 0
    Kept states = KeptIn o row log (table_at conf states group)

    still : (a b : PartShardState) → b.states ≡ a.states → b.pending ≡ a.pending → b.held ≡ a.held → IsStill a → IsStill b
    still a b states pending held k = record {
      free = ap (λ (h : List ℕ → Held). hold_at (h group) o) held ∙ k.free;
      now = subst Kept (sym states) k.now;
      lost = λ found at. k.lost found (sym pending ∙ at);
    }

    none_lost : (b : PartShardState) → b.pending ≡ None → (states : ShareStates) → b.pending ≡ Some states → Kept states
    none_lost b none states at = absurd (none_not states (sym none ∙ at))

    are_settled_keep : (a : PartShardState) (of : List ℕ) (acts : Acts) (states : ShareStates) → a.log.batches ≡ log → AreSettled conf a of acts states
        → hold_in a group o ≡ None → Kept a.states → Kept states
    are_settled_keep a of acts states same p free k = ⊎_elim
        (λ one.
        let known : table_at conf a.states group ≡ Some p.state = ap (λ (g : List ℕ). table_at conf a.states g) (sym one.0) ∙ p.known in
        subst (KeptIn o row log) (sym (ap (λ (x : ShareStates). table_at conf x group) p.is ∙ one.1))
        (settled_keeps conf.limit acts log p.state p.next (a.held of) is_log (ap (λ (g : List ℕ). hold_in a g o) one.0 ∙ free)
        (subst (λ (l : List LogBatch). IsSettled conf.limit acts l (table_of p.state (a.held of)) p.next) same p.settled)
        (subst (KeptIn o row log) known k)))
        (λ other. subst (KeptIn o row log) (sym (ap (λ (x : ShareStates). table_at conf x group) p.is ∙ other)) k)
        (table_set conf a.states of group p.next)

    stores_keep : (rose : Type 0) (end : ℕ) (a : PartShardState) (of : List ℕ) (acts : Acts) (b : PartShardState) (fault : Option StoreFault)
        → a.log.batches ≡ log → StoresActs conf rose end a of acts b fault → IsStill a → IsStill b
    stores_keep rose end a of acts b (Some (Full at)) same p k = still a b p.2.states p.2.pending p.2.held k
    stores_keep rose end a of acts b None same (inl p) k = still a b p.1.states p.1.pending p.1.held k
    stores_keep rose end a of acts b None same (inr p) k = record {
      free = ⊎_elim (λ stays. stays ∙ k.free) (λ e. e.free) (stores_hold conf rose end a of acts b None (inr p) group o);
      now = are_settled_keep a of acts b.states same p.1.states k.free k.now;
      lost = none_lost b p.1.nothing;
    }
    stores_keep rose end a of acts b (Some Device) same p k = record {
      free = ap (λ (h : List ℕ → Held). hold_at (h group) o) p.2.held ∙ k.free;
      now = subst Kept (sym p.2.states) k.now;
      lost = λ found at. ⊎_elim
          (λ stays. k.lost found (sym stays ∙ at))
          (λ other. ⊎_elim (λ none. none_lost b none found at)
          (λ own. are_settled_keep a of acts found same
          (subst (AreSettled conf a of acts) (some_same own.0 found (sym own.1 ∙ at)) own.2) k.free k.now) other)
          p.2.pending;
    }

    -- ---- what follows

    -- a walk doesn't take it
    not_taken : (state : ShareState) (held : Held) (taken : List (ℕ × ℕ)) → KeptIn o row log (Some state)
        → AllByRecursion (IsFree log (table_of state held)) taken → AllByRecursion (λ (t : ℕ × ℕ). o ≢ t.0) taken
    not_taken state held [] k all = tt
    not_taken state held (t ∷ taken) k all = (clash, not_taken state held taken k all.1) where
      clash : o ≢ t.0
      clash e = ⊎_elim
          (λ low. let from = all.0.1 in let is : o ≡ t.0 = e in omega (arith, low, from, is))
          (λ there.
          let none : delivery_of (table_of state held) o ≡ None =
          ap (λ (r : Option Row). unless_held (hold_at held o) (unwrap_or r (record { state = Available; count = 0 }))) there
          ∙ no_delivery (hold_at held o) row closed in
          none_not t.1 (sym none ∙ ap (delivery_of (table_of state held)) e ∙ all.0.0))
          k.0

    module _ (told : Bool) (rose : Type 0) (end : ℕ) (a : PartShardState) (visit : Visit) (answer : VisitAnswer) (b : PartShardState) (same : a.log.batches ≡ log) where
      acquired_free : (limits : Limits) (state : ShareState) → table_at conf a.states visit.group ≡ Some state → Acquires conf told a state visit limits answer b
          → IsStill a → hold_in b group o ≡ None
      acquired_free limits state known p k = ⊎_elim
          (λ one. ap (λ (h : List ℕ → Held). hold_at (h group) o) p.held ∙ ap (λ (h : Held). hold_at h o) one.1
          ∙ untouched visit.member (b.clock + conf.lock_ms) o (acquired a.log.batches (table_of state (a.held visit.group)) limits).taken (a.held visit.group)
          (not_taken state (a.held visit.group) (acquired a.log.batches (table_of state (a.held visit.group)) limits).taken
          (subst (KeptIn o row log) (ap (λ (g : List ℕ). table_at conf a.states g) (sym one.0) ∙ known) k.now)
          (taken_free a.log.batches (table_of state (a.held visit.group)) limits))
          ∙ ap (λ (g : List ℕ). hold_in a g o) one.0 ∙ k.free)
          (λ away. ap (λ (h : List ℕ → Held). hold_at (h group) o) p.held ∙ ap (λ (h : Held). hold_at h o) away ∙ k.free)
          (one_of_two a.held visit.group (with_holds visit.member (b.clock + conf.lock_ms)
          (acquired a.log.batches (table_of state (a.held visit.group)) limits).taken (a.held visit.group)) group)

      other_group : table_at conf a.states visit.group ≡ None → IsStill a → visit.group ≢ group
      other_group none k one = subst (KeptIn o row log) (ap (λ (g : List ℕ). table_at conf a.states g) (sym one) ∙ none) k.now

      new_keeps : (states : ShareStates) → table_at conf a.states visit.group ≡ None → IsStill a
          → states ≡ insert_entry key_cmp a.states (key_of conf visit.group) (new_state conf (log_at a.log)) → Kept states
      new_keeps states none k is = ⊎_elim
          (λ one. absurd (other_group none k one.0))
          (λ other. subst (KeptIn o row log) (sym (ap (λ (x : ShareStates). table_at conf x group) is ∙ other)) k.now)
          (table_set conf a.states visit.group group (new_state conf (log_at a.log)))

      made_keeps : (limits : Limits) (t : ThenOutcome) → table_at conf a.states visit.group ≡ None → MakesTable conf told rose end a visit limits answer b t
          → IsStill a → IsStill b
      made_keeps limits followed none p k = record {
        free = ⊎_elim
            (λ one. absurd (other_group none k one.0))
            (λ away. ap (λ (h : List ℕ → Held). hold_at (h group) o) p.acquires.held ∙ ap (λ (h : Held). hold_at h o) away ∙ k.free)
            (one_of_two a.held visit.group _ group);
        now = new_keeps b.states none k p.states;
        lost = none_lost b p.nothing;
      }
      made_keeps limits (then_store (Full at)) none p k = still a b p.2.states p.2.pending p.2.held k
      made_keeps limits (then_store Device) none p k = record {
        free = ap (λ (h : List ℕ → Held). hold_at (h group) o) p.2.held ∙ k.free;
        now = subst Kept (sym p.2.states) k.now;
        lost = λ found at. ⊎_elim
            (λ stays. k.lost found (sym stays ∙ at))
            (λ other. ⊎_elim (λ mended. none_lost b mended found at)
            (λ own. new_keeps found none k (sym (some_same own.0 found (sym own.1 ∙ at)) ∙ own.2)) other)
            p.2.pending;
      }

      fetches_keep : (limits : Limits) (t : Option ShareState) → table_at conf a.states visit.group ≡ t → Fetches conf told rose end a visit limits answer b t
          → IsStill a → IsStill b
      fetches_keep limits None none p k = made_keeps limits answer.then none p k
      fetches_keep limits (Some state) known p k = record {
        free = acquired_free limits state known p.acquires k;
        now = subst Kept (sym p.states) k.now;
        lost = λ found at. k.lost found (sym p.pending ∙ at);
      }

      does_keep : (t : Then) → DoesThen conf told rose end a visit answer b t → IsStill a → IsStill b
      does_keep Nothing p k = still a b p.1.states p.1.pending p.1.held k
      does_keep Release p k = stores_keep rose end a visit.group (releases_of visit.member (a.held visit.group)) b (fault_of answer.then) same p.1 k
      does_keep (Fetch records bytes first) p k =
          fetches_keep (record { records = records; bytes = bytes; first = first }) (table_at conf a.states visit.group) refl p k

      -- the group has its table
      table_keeps : (t : Option ShareState) → table_at conf a.states visit.group ≡ t → HasItsTable conf a visit b t → b.held ≡ a.held
          → IsStill a → IsStill b
      table_keeps None none p held k = record {
        free = ap (λ (h : List ℕ → Held). hold_at (h group) o) held ∙ k.free;
        now = new_keeps b.states none k p.0;
        lost = none_lost b p.1;
      }
      table_keeps (Some state) known p held k = still a b p.0 p.1 held k

      follows_keep : (unread : Type 0) (failed : Bool) → Follows conf told unread rose end a visit answer b failed → IsStill a → IsStill b
      follows_keep unread true p k = table_keeps (table_at conf a.states visit.group) refl p.table p.held k
      follows_keep unread false p k = does_keep visit.then p k

      acks_keep : (ack : AckOutcome) → Acknowledges conf rose end a visit b ack → IsStill a → IsStill b
      acks_keep acknowledged p k = stores_keep rose end a visit.group (named_from a.log.start visit.acks) b None same p.1 k
      acks_keep (Malformed fault) p k = still a b p.1.states p.1.pending p.1.held k
      acks_keep (NotHeld offset) p k = still a b p.2.states p.2.pending p.2.held k
      acks_keep (ack_store fault) p k = stores_keep rose end a visit.group (named_from a.log.start visit.acks) b (Some fault) same p.1 k

    groups_keep : (c l end last : ℕ) (groups : List (List ℕ)) (freed : ℕ) (a b : PartShardState) (answer : ExpireAnswer)
        → StepsGroups conf c l end last groups freed a answer b → a.log.batches ≡ log → IsStill a → IsStill b
    groups_keep c l end last [] freed a b answer p same k = subst IsStill (sym p.1) k
    groups_keep c l end last (of ∷ groups) freed a b answer (inr p) same k =
        stores_keep (Rose c l) end a of (ending a.clock (a.held of)) b (Some p.0) same p.2.stores k
    groups_keep c l end last (of ∷ groups) freed a b answer (inl p) same k =
        groups_keep p.1 l p.2 last groups _ p.0 b answer p.5 (ap (λ (x : LogShardState). x.batches) p.3.log ∙ same)
        (stores_keep (Rose c p.1) end a of (ending a.clock (a.held of)) p.0 None same p.3.stores k)

-- ---- the act

held_some : (member : List ℕ) (h : Option Hold) → IsHeldBy member h → (hold : Hold) × (h ≡ Some hold)
held_some member None theirs = absurd theirs
held_some member (Some hold) theirs = (hold, refl)

-- an act that closes the record is stored
module _ (conf : PartConfParts) (group : List ℕ) (o : ℕ) (acts : Acts) (kind : AckKind) (named : acts o ≡ Some kind) (a b : PartShardState) (hold : Hold)
    (at : hold_in a group o ≡ Some hold) (is_log : IsLog a.log.batches) where
  abbrev row_by : Row
  row_by = settled conf.limit kind hold.count

  begins : IsActedOn conf a group acts b → Keeps o row_by conf group a.log.batches b
  begins p = record {
    free = ap (λ (h : List ℕ → Held). hold_at (h group) o) p.held
        ∙ ap (λ (h : Held). hold_at h o) (its_held a.held group (held_after acts (a.held group)))
        ∙ acts_hold acts (a.held group) o ∙ ap (λ (k : Option AckKind). if is_none k then hold_at (a.held group) o else None) named;
    now = subst (KeptIn o row_by a.log.batches) (sym table) (kept, within);
    lost = λ states found. absurd (none_not states (sym p.nothing ∙ found));
  } where
    s : IsSettled conf.limit acts a.log.batches (table_of p.states.state (a.held group)) p.states.next
    s = p.states.settled

    told : size_of p.states.next.start ≡ s.start
    told = ap size_of s.start_told

    table : table_at conf b.states group ≡ Some p.states.next
    table = ap (λ (x : ShareStates). table_at conf x group) p.states.is
        ∙ set_found key_cmp keys_total keys_exact (key_of conf group) p.states.next a.states

    within : size_of p.states.next.start ≤ end_of a.log.batches
    within = subst (λ (n : ℕ). n ≤ end_of a.log.batches) (sym told) (⊎_elim
        (λ least. let lt = slot_below 0 a.log.batches s.start is_log least.0.slot in omega (arith, lt))
        (λ none. let is : s.start ≡ end_of a.log.batches = none.0 in omega (arith, is))
        s.start_is)

    stored : stored_after conf.limit acts (table_of p.states.state (a.held group)) o ≡ Some row_by
    stored =
        ap (λ (k : Option AckKind). option_or (act_row conf.limit k (hold_at (a.held group) o)) (row_at p.states.state.runs o)) named
        ∙ ap (λ (h : Option Hold). option_or (act_row conf.limit (Some kind) h) (row_at p.states.state.runs o)) at

    below : nat_lt o s.start ≡ true → o < s.start
    below t = grind (arith, nat_tests)

    by_start : (t : Bool) → nat_lt o s.start ≡ t → HasKept o row_by (Some p.states.next)
    by_start true t = inl (subst (λ (n : ℕ). o < n) (sym told) (below t))
    by_start false t =
        inr (s.rows o ∙ ap (λ (b : Bool). if b then None else stored_after conf.limit acts (table_of p.states.state (a.held group)) o) t ∙ stored)

    kept : HasKept o row_by (Some p.states.next)
    kept = by_start (nat_lt o s.start) refl

-- ---- a step

module _ (o : ℕ) (row : Row) (closed : is_closed_state row.state ≡ true) (group : List ℕ) where
  abbrev KeepsPart : HostedPart → Type 0
  KeepsPart p = Keeps o row p.hosted.conf group p.shard.log.batches p.shard

  table_raised : (conf : PartConfParts) (n : ℕ) (states : ShareStates) → table_at conf (raised_states n states) group ≡ option_map (raised n) (table_at conf states group)
  table_raised conf n states = raised_at n states (key_of conf group)

  -- a delete
  raised_keeps : (h : Hosted) (n : ℕ) (x y : PartShardState) → n ≤ end_of x.log.batches → IsRaisedTo n x y → Keeps o row h.conf group x.log.batches x
      → Keeps o row h.conf group x.log.batches y
  raised_keeps h n x y within raises k = record {
    free = ap (λ (z : Held). hold_at z o) (raises.held group) ∙ none_from n (x.held group) o k.free;
    now = subst (λ (z : ShareStates). KeptIn o row x.log.batches (table_at h.conf z group)) (sym raises.states)
        (subst (KeptIn o row x.log.batches) (sym (table_raised h.conf n x.states)) (raised_kept o row n x.log.batches (table_at h.conf x.states group) within k.now));
    lost = λ found at.
        let w = pending_one n x.pending found (sym raises.pending ∙ at) in
        subst (λ (z : ShareStates). KeptIn o row x.log.batches (table_at h.conf z group)) w.2
        (subst (KeptIn o row x.log.batches) (sym (table_raised h.conf n w.0))
        (raised_kept o row n x.log.batches (table_at h.conf w.0 group) within (k.lost w.0 w.1)));
  }

  delete_keeps : (h : Hosted) (x y : PartShardState) → IsLog x.log.batches → (rose : Type 0) (end : ℕ) (to : ℤ) (answer : DeleteAnswer)
      → DeletesPart rose end x to answer y → Keeps o row h.conf group x.log.batches x → Keeps o row h.conf group x.log.batches y
  delete_keeps h x y is_log rose end to (OutOfRange at) p k = still o row closed h.conf group x.log.batches is_log x y p.3.states p.3.pending p.3.held k
  delete_keeps h x y is_log rose end to (delete_store fault) p k = still o row closed h.conf group x.log.batches is_log x y p.3.states p.3.pending p.3.held k
  delete_keeps h x y is_log rose end to (Deleted start) p k = ⊎_elim
      (λ (d : DeletesNothing x p.0 start y). still o row closed h.conf group x.log.batches is_log x y d.still.states d.still.pending d.still.held k)
      (λ (d : DeletesBelow end x p.0 start y). raised_keeps h p.0 x y d.log.allowed.within d.tables k) p.2

  part_keeps : (s : Step) (now : ℕ) (h : Hosted) (x y : PartShardState) (did : PartCall) → IsLog x.log.batches
      → StepsPart true (counts_of s.before s.after) (ends_of s.before s.after) now h x did y → Keeps o row h.conf group x.log.batches x
      → Keeps o row h.conf group x.log.batches y
  part_keeps s now h x y (Visits visit answer unread) is_log p k =
      let c = faults_before (counts_of s.before s.after) (state_store h) in
      let l = faults_behind (counts_of s.before s.after) (state_store h) in
      follows_keep o row closed h.conf group x.log.batches is_log true (Rose p.counted l) p.at p.between visit answer y
      (ap (λ (z : LogShardState). z.batches) p.acks.log) _ unread p.does
      (acks_keep o row closed h.conf group x.log.batches is_log true (Rose c p.counted) (s.before.ends (first_of h)) x visit answer p.between refl answer.ack p.acks.does k)
  part_keeps s now h x y (Produces batch produced) is_log p k =
      still o row closed h.conf group x.log.batches is_log x y p.still.states p.still.pending p.still.held k
  part_keeps s now h x y (Looks asked looked) is_log p k = subst (λ (z : PartShardState). Keeps o row h.conf group x.log.batches z) (sym p.1) k
  part_keeps s now h x y (Expires answer) is_log p k =
      groups_keep o row closed h.conf group x.log.batches is_log _ _ _ _ _ 0 (with_clock_raised now x) y answer p.groups refl
      (still o row closed h.conf group x.log.batches is_log x (with_clock_raised now x) refl refl refl k)
  part_keeps s now h x y (Deletes to answer) is_log p k = delete_keeps h x y is_log _ _ to answer p.does k

  goes_keep : (n : ℕ) (s : Step) (x y : HostedPart) → Goes n s x y → IsLog x.shard.log.batches → KeepsPart x → KeepsPart y
  goes_keep n s x y (inl same) is_log k = subst KeepsPart (sym same) k
  goes_keep n s x y (inr (inl c)) is_log k =
      subst (λ (h : Hosted). Keeps o row h.conf group y.shard.log.batches y.shard) (sym c.step.is)
      (longer o row c.hosted.conf group x.shard.log.batches y.shard.log.batches y.shard
      (end_grows x.shard.log.batches y.shard.log.batches (goes_log n s x y (inr (inl c))) is_log)
      (part_keeps s c.now c.hosted x.shard y.shard c.did is_log c.step.step
      (subst (λ (h : Hosted). Keeps o row h.conf group x.shard.log.batches x.shard) c.step.was k)))
  goes_keep n s x y (inr (inr lost)) is_log k =
      subst (λ (h : Hosted). Keeps o row h.conf group y.shard.log.batches y.shard) (sym lost.lands.hosted) (record {
        free = ap (λ (z : PartShardState). hold_at (z.held group) o) lost.lands.shard;
        now = subst (λ (z : ShareStates). KeptIn o row y.shard.log.batches (table_at x.hosted.conf z group))
            (sym (ap (λ (z : PartShardState). z.states) lost.lands.shard))
            (subst (KeptIn o row y.shard.log.batches) (sym (table_raised x.hosted.conf lost.lands.log.start lost.lands.states))
            (raised_kept o row lost.lands.log.start y.shard.log.batches (table_at x.hosted.conf lost.lands.states group) within
            (kept_longer o row x.shard.log.batches y.shard.log.batches (table_at x.hosted.conf lost.lands.states group)
            (end_grows x.shard.log.batches y.shard.log.batches (goes_log n s x y (inr (inr lost))) is_log)
            (⊎_elim
            (λ same. subst (λ (z : ShareStates). KeptIn o row x.shard.log.batches (table_at x.hosted.conf z group)) (sym same) k.now)
            (λ own. k.lost lost.lands.states own)
            lost.lands.states_are))));
        lost = λ states at. absurd (none_not states (sym (ap (λ (z : PartShardState). z.pending) lost.lands.shard) ∙ at));
      })
    where
      starts : y.shard.log.start ≡ lost.lands.log.start
      starts = ap (λ (z : PartShardState). z.log.start) lost.lands.shard

      its : y.shard.log.start ≤ end_of y.shard.log.batches
      its = subst (λ (z : PartShardState). z.log.start ≤ end_of z.log.batches) (sym lost.opens.shard)
          (text_within _ lost.opens.log lost.opens.stands.log_is)

      within : lost.lands.log.start ≤ end_of y.shard.log.batches
      within = omega (arith, starts, its)

  -- ---- a run

  module _ (conf : ConfigParts) (n : ℕ) where
    run_keeps : (first last : State) (steps : List Step) → IsRun conf first steps last → (x : HostedPart) → entry_at n (parts_of first) ≡ Some x
        → IsLog x.shard.log.batches → KeepsPart x → (y : HostedPart) × (entry_at n (parts_of last) ≡ Some y) × KeepsPart y
    run_keeps first last [] run x at is_log k = (x, ap (λ (s : State). entry_at n (parts_of s)) run ∙ at, k)
    run_keeps first last (s ∷ steps) run x at is_log k =
        let w = went conf s run.1 n x (ap (λ (z : State). entry_at n (parts_of z)) run.0 ∙ at) in
        run_keeps s.after last steps run.2 w.0 w.1 ((goes_log n s x w.0 w.2).still is_log) (goes_keep n s x w.0 w.2 is_log k)

logs_on : (conf : ConfigParts) (n : ℕ) (first last : State) (steps : List Step) → IsRun conf first steps last → (x y : HostedPart)
    → entry_at n (parts_of first) ≡ Some x → entry_at n (parts_of last) ≡ Some y → IsLog x.shard.log.batches → IsLog y.shard.log.batches
logs_on conf n first last [] run x y at there is_log =
    subst (λ (p : HostedPart). IsLog p.shard.log.batches) (some_same x y (sym at ∙ ap (λ (s : State). entry_at n (parts_of s)) (sym run) ∙ there)) is_log
logs_on conf n first last (s ∷ steps) run x y at there is_log =
    let w = went conf s run.1 n x (ap (λ (z : State). entry_at n (parts_of z)) run.0 ∙ at) in
    logs_on conf n s.after last steps run.2 w.0 y w.1 there ((goes_log n s x w.0 w.2).still is_log)

module _ (conf : ConfigParts) (r : Record) (s : Step) (c : IsActedOnIn r s) (step : IsStepOf conf s) where
  abbrev call_of : Called r.shard s c.hosted (Visits c.visit c.answer c.unread)
  call_of = called conf s step r.shard c.hosted (Visits c.visit c.answer c.unread) c.call

  record Begun : Type 0 where
    hold : Hold
    at : hold_in call_of.old.shard r.group r.offset ≡ Some hold
    keeps : (closed : is_closed_state (settled c.hosted.conf.limit c.kind hold.count).state ≡ true)
        → KeepsPart r.offset (settled c.hosted.conf.limit c.kind hold.count) closed r.group call_of.new

  acted : IsLog call_of.old.shard.log.batches → Begun
  acted is_log = by_stored does.1 where
    p : StepsPart true (counts_of s.before s.after) (ends_of s.before s.after) call_of.now c.hosted call_of.old.shard (Visits c.visit c.answer c.unread) call_of.new.shard
    p = call_of.step.step

    does : Acknowledges c.hosted.conf (Rose (faults_before (counts_of s.before s.after) (state_store c.hosted)) p.counted) (s.before.ends (first_of c.hosted))
        call_of.old.shard c.visit p.between acknowledged
    does = subst (λ (ack : AckOutcome). Acknowledges c.hosted.conf (Rose (faults_before (counts_of s.before s.after) (state_store c.hosted)) p.counted)
        (s.before.ends (first_of c.hosted)) call_of.old.shard c.visit p.between ack) c.done p.acks.does

    named : named_from call_of.old.shard.log.start c.visit.acks r.offset ≡ Some c.kind
    named = holds_of r.shard (λ (p : HostedPart). named_from p.shard.log.start c.visit.acks r.offset ≡ Some c.kind) (parts_of s.before) call_of.old call_of.was c.named

    h : (hold : Hold) × (hold_at (call_of.old.shard.held c.visit.group) r.offset ≡ Some hold)
    h = held_some c.visit.member (hold_at (call_of.old.shard.held c.visit.group) r.offset) (does.0.1 r.offset (subst IsSome (sym named) refl))

    by_stored : StoresActs c.hosted.conf (Rose (faults_before (counts_of s.before s.after) (state_store c.hosted)) p.counted) (s.before.ends (first_of c.hosted))
        call_of.old.shard c.visit.group (named_from call_of.old.shard.log.start c.visit.acks) p.between None → Begun
    by_stored (inl none) = absurd (none_not c.kind (sym (none.0 r.offset) ∙ named))
    by_stored (inr some) =
        let between : Keeps r.offset (settled c.hosted.conf.limit c.kind h.0.count) c.hosted.conf c.visit.group call_of.old.shard.log.batches p.between =
        begins c.hosted.conf c.visit.group r.offset (named_from call_of.old.shard.log.start c.visit.acks) c.kind named call_of.old.shard p.between h.0 h.1 is_log some.1 in
        let after : is_closed_state (settled c.hosted.conf.limit c.kind h.0.count).state ≡ true
        → Keeps r.offset (settled c.hosted.conf.limit c.kind h.0.count) c.hosted.conf c.visit.group call_of.old.shard.log.batches call_of.new.shard = λ closed.
        follows_keep r.offset (settled c.hosted.conf.limit c.kind h.0.count) closed c.hosted.conf c.visit.group call_of.old.shard.log.batches is_log
        true _ p.at p.between c.visit c.answer call_of.new.shard
        (ap (λ (z : LogShardState). z.batches) p.acks.log) _ c.unread p.does between in
        record {
          hold = h.0;
          at = ap (λ (g : List ℕ). hold_in call_of.old.shard g r.offset) (sym c.group) ∙ h.1;
          keeps = λ closed. subst (λ (x : Hosted). Keeps r.offset (settled c.hosted.conf.limit c.kind h.0.count) x.conf r.group call_of.new.shard.log.batches call_of.new.shard) (sym call_of.step.is)
              (subst (λ (l : List LogBatch). Keeps r.offset (settled c.hosted.conf.limit c.kind h.0.count) c.hosted.conf r.group l call_of.new.shard)
              (sym (ap (λ (z : LogShardState). z.batches) p.log))
              (subst (λ (g : List ℕ). Keeps r.offset (settled c.hosted.conf.limit c.kind h.0.count) c.hosted.conf g call_of.old.shard.log.batches call_of.new.shard) c.group (after closed)));
        }

pub acknowledgements_kept : (conf : ConfigParts) (first last : State) (steps : List Step) → IsRun conf first steps last → KeepsAcknowledgements first steps last
acknowledgements_kept conf first last steps run well before after s split r c =
    let p = run_parts conf first last before (s ∷ after) (subst (λ (l : List Step). IsRun conf first l last) split run) in
    let step = p.2.1 in
    let call = called conf s step r.shard c.hosted (Visits c.visit c.answer c.unread) c.call in
    let there : entry_at r.shard (parts_of p.0) ≡ Some call.old = ap (λ (z : State). entry_at r.shard (parts_of z)) (sym p.2.0) ∙ call.was in
    let x = first_entry conf r.shard first p.0 before p.1 call.old there in
    let is_log = logs_on conf r.shard first p.0 before p.1 x.0 call.old x.1 there (all_entry r.shard IsWell (parts_of first) x.0 x.1 well).0 in
    let b = acted conf r s c step is_log in
    let new_log = subst IsLog (sym (ap (λ (z : LogShardState). z.batches) call.step.step.log)) is_log in
    record {
      hold = b.hold;
      held = entry_holds r.shard (λ (q : HostedPart). hold_at (q.shard.held r.group) r.offset ≡ Some b.hold) (parts_of s.before) call.old call.was b.at;
      row = λ closed.
          let e = run_keeps r.offset (settled c.hosted.conf.limit c.kind b.hold.count) closed r.group conf r.shard
          s.after last after p.2.2 call.new call.is new_log (b.keeps closed) in
          entry_holds r.shard (λ (q : HostedPart). HasKept r.offset (settled c.hosted.conf.limit c.kind b.hold.count) (table_in q r.group)) (parts_of last) e.0 e.1
          (kept_has r.offset (settled c.hosted.conf.limit c.kind b.hold.count) e.0.shard.log.batches (table_in e.0 r.group) e.2.now);
    }
