-- Tables that start at an offset or behind it go on so, and nothing below it is granted.
use Rattle.std.proofs.Common.{◌≡◌, ◌⊎◌, ◌<◌, ◌≤◌, ◌∷◌, cond, inl, inr, ⊎_elim, refl, sym, ap, ◌∙◌, subst, arith, ℕ, ℤ, pos, List, [], Bool, true, false, Option, Some, None}
use Rattle.std.proofs.lemmas.Bool.Decides.{nat_tests}
use Rattle.std.proofs.lemmas.Bool.{true≢false}
use Rattle.std.proofs.lemmas.Map.Lookups.{exact_unsigned}
use Rattle.std.specs.BTreeMap.{insert_entry, is_at}
use Rattle.std.specs.Cmp.{nat_cmp_total}
use Rattle.std.specs.Option.{option_map}
use Rattle.std.specs.Ordering.{nat_cmp}
use Rattle.std.specs.Prelude.{nat_le, nat_lt}
use Rattle.edge_io.specs.Causes.{Rose}
use Rattle.offset_runs.proofs.Cuts.{lt_no}
use Rattle.share_model.specs.ForeignRules.{ShareStates, share_state_at, size_of}
use Rattle.share_model.specs.Held.{Held, hold_at}
use Rattle.share_model.specs.Keys.{KeyParts, key_cmp}
use Rattle.share_model.specs.Logs.{Batch as LogBatch, end_of}
use Rattle.share_model.specs.ShareStates.{ShareState}
use Rattle.share_model.specs.declared.fault.StoreFault.{StoreFault}
use Rattle.share_model.specs.declared.fault.StoreFault.TheVariants.{Device, Full}
use Rattle.share_model.specs.declared.hold.Hold.{Hold}
use Rattle.share_model.specs.declared.delete.DeleteAnswer.{DeleteAnswer}
use Rattle.share_model.specs.declared.delete.DeleteAnswer.TheVariants.{Done as Deleted, OutOfRange, Store as delete_store}
use Rattle.share_model.specs.declared.row.Row.{Row}
use Rattle.share_model.specs.declared.reset.Reset.{Reset}
use Rattle.share_model.specs.declared.reset.Reset.TheVariants.{Latest, Earliest}
use Rattle.share_model.specs.declared.visit.AckOutcome.{AckOutcome}
use Rattle.share_model.specs.declared.visit.AckOutcome.TheVariants.{Done as acknowledged, Malformed, NotHeld, Store as ack_store}
use Rattle.share_model.specs.declared.visit.ExpireAnswer.{ExpireAnswer}
use Rattle.share_model.specs.declared.visit.Then.{Then}
use Rattle.share_model.specs.declared.visit.Then.TheVariants.{Nothing, Release, Fetch}
use Rattle.share_model.specs.declared.visit.ThenOutcome.{ThenOutcome}
use Rattle.share_model.specs.declared.visit.ThenOutcome.TheVariants.{Done as followed, Store as then_store}
use Rattle.share_model.specs.declared.visit.Visit.{Visit}
use Rattle.share_model.specs.declared.visit.VisitAnswer.{VisitAnswer}
use Rattle.part_log.specs.Shards.{LogShardState, StepsLog, log_at}
use Rattle.part_log.specs.Starts.{Log}
use Rattle.share_coord.specs.Raising.{raised, raised_states, starts_below}
use Rattle.share_coord.proofs.Raising.{raised_at, raised_fixed, raised_start}
use Rattle.share_part.specs.Acknowledging.{Acknowledges, AreSettled, StoresActs}
use Rattle.share_part.specs.Deleting.{Deletes as DeletesPart, DeletesBelow, DeletesNothing, holds_from}
use Rattle.share_part.specs.Expiring.{StepsGroups, ending, more_freed, due_count}
use Rattle.share_part.specs.Following.{Does, Fetches, Follows, HasItsTable, MakesTable, fault_of, releases_of}
use Rattle.share_part.specs.Hosting.{PartConfParts, key_of}
use Rattle.share_part.specs.Named.{named_from}
use Rattle.share_part.specs.Settling.{Acts, IsNextStart, stored_after}
use Rattle.share_part.specs.Shards.{PartShardState, base_in, first_start, new_state, with_new}
use Rattle.share_part.specs.Tables.{table_of}
use Rattle.share_part.specs.declared.limits.Limits.{Limits}
use Rattle.share_part.proofs.Producing.{end_later}
use Rattle.call_fold.specs.declared.part.Produced.{Produced}
use Rattle.call_fold.specs.declared.part.Produced.TheVariants.{Base, Batch, Store}
use Rattle.broker_model.specs.Locks.{StartAbove}
use Rattle.broker_model.specs.Shards.{result_of}
use Rattle.broker_model.proofs.Histories.{keys_exact, keys_total}
use Rattle.broker_model.proofs.Lists.{none_not, some_same}
use Rattle.broker_model.proofs.Maps.{at_is, at_self, set_found, set_other}

pub lt_or_le : (a b : ℕ) → (a < b) ⊎ (b ≤ a)
lt_or_le a b = by_test (nat_lt a b) refl where
  less : nat_lt a b ≡ true → a < b
  less e = grind (arith, nat_tests)

  more : nat_lt a b ≡ false → b ≤ a
  more e = grind (arith, nat_tests)

  by_test : (t : Bool) → nat_lt a b ≡ t → (a < b) ⊎ (b ≤ a)
  by_test true e = inl (less e)
  by_test false e = inr (more e)

-- what is held from an offset on is held as before
pub hold_from : (n : ℕ) (held : Held) (o : ℕ) → n ≤ o → hold_at (holds_from n held) o ≡ hold_at held o
hold_from n [] o le = refl
hold_from n (e ∷ held) o le = by_kept (nat_le n e.0) refl (is_at (nat_cmp o) e.0) refl (hold_from n held o le) where
  by_kept : (b : Bool) → nat_le n e.0 ≡ b → (t : Bool) → is_at (nat_cmp o) e.0 ≡ t → hold_at (holds_from n held) o ≡ hold_at held o
      → hold_at (cond b (e ∷ holds_from n held) (holds_from n held)) o ≡ cond (is_at (nat_cmp o) e.0) (Some e.1) (hold_at held o)
  by_kept true kept t at ih = ap (λ (r : Option Hold). cond (is_at (nat_cmp o) e.0) (Some e.1) r) ih
  by_kept false gone false at ih = ih ∙ ap (λ (b : Bool). cond b (Some e.1) (hold_at held o)) (sym at)
  by_kept false gone true at ih =
      let one : o ≡ e.0 = at_is nat_cmp nat_cmp_total exact_unsigned o e.0 at in
      let clash : ⊥ = grind (arith, nat_tests) in absurd clash

-- nothing more is held
pub none_from : (n : ℕ) (held : Held) (o : ℕ) → hold_at held o ≡ None → hold_at (holds_from n held) o ≡ None
none_from n [] o none = refl
none_from n (e ∷ held) o none = by_tests (nat_le n e.0) (is_at (nat_cmp o) e.0) refl none (none_from n held o) where
  by_tests : (b t : Bool) → is_at (nat_cmp o) e.0 ≡ t → cond (is_at (nat_cmp o) e.0) (Some e.1) (hold_at held o) ≡ None
      → (hold_at held o ≡ None → hold_at (holds_from n held) o ≡ None) → hold_at (cond b (e ∷ holds_from n held) (holds_from n held)) o ≡ None
  by_tests b true at none ih = absurd (none_not e.1 (sym (ap (λ (z : Bool). cond z (Some e.1) (hold_at held o)) (sym at) ∙ none)))
  by_tests true false at none ih =
      ap (λ (z : Bool). cond z (Some e.1) (hold_at (holds_from n held) o)) at ∙ ih (sym (ap (λ (z : Bool). cond z (Some e.1) (hold_at held o)) at) ∙ none)
  by_tests false false at none ih = ih (sym (ap (λ (z : Bool). cond z (Some e.1) (hold_at held o)) at) ∙ none)

-- the log starts there or behind, at its end at most, and so does each table
pub record IsFrom (n : ℕ) (p : PartShardState) : Type 0 where
  pub start : n ≤ p.log.start
  pub within : p.log.start ≤ end_of p.log.batches
  pub tables : StartAbove n p.states

module _ (n : ℕ) where
  -- ---- tables

  -- a table is set
  above_set : (states : ShareStates) (key : KeyParts) (next : ShareState) → n ≤ size_of next.start → StartAbove n states
      → StartAbove n (insert_entry key_cmp states key next)
  above_set states key next le h other state at = by_test (is_at (key_cmp key) other) refl where
    its : key ≡ other → Some next ≡ Some state
    its one = sym (set_found key_cmp keys_total keys_exact key next states)
        ∙ (ap (λ (k : KeyParts). share_state_at (insert_entry key_cmp states key next) k) one ∙ at)

    by_test : (b : Bool) → is_at (key_cmp key) other ≡ b → n ≤ size_of state.start
    by_test true is =
        subst (λ (s : ShareState). n ≤ size_of s.start) (some_same next state (its (at_is key_cmp keys_total keys_exact key other is))) le
    by_test false is =
        h other state (sym (set_other key_cmp keys_total keys_exact key next other
        (λ e. true≢false (sym (at_self key_cmp keys_total keys_exact key) ∙ (ap (is_at (key_cmp key)) (sym e) ∙ is))) states) ∙ at)

  above_same : (a b : PartShardState) → b.log ≡ a.log → b.states ≡ a.states → IsFrom n a → IsFrom n b
  above_same a b log states f = record {
    start = subst (λ (l : LogShardState). n ≤ l.start) (sym log) f.start;
    within = subst (λ (l : LogShardState). l.start ≤ end_of l.batches) (sym log) f.within;
    tables = subst (StartAbove n) (sym states) f.tables;
  }

  -- the next start isn't below the old one, or it is the log's end
  next_above : (log : List LogBatch) (stored : ℕ → Option Row) (start next : ℕ) → IsNextStart log stored start next → n ≤ start → n ≤ end_of log → n ≤ next
  next_above log stored start next (inl p) le end = let up = p.1 in omega (arith, le, up)
  next_above log stored start next (inr p) le end = let is = p.0 in omega (arith, end, is)

  module _ (conf : PartConfParts) where
    acts_above : (a : PartShardState) (of : List ℕ) (acts : Acts) (states : ShareStates) → AreSettled conf a of acts states → IsFrom n a → StartAbove n states
    acts_above a of acts states p f =
        let low = f.tables (key_of conf of) p.state p.known in
        let start = f.start in
        let within = f.within in
        let next = next_above a.log.batches (stored_after conf.limit acts (table_of p.state (a.held of))) (size_of p.state.start) p.settled.start p.settled.start_is low
        (omega (arith, start, within)) in
        subst (StartAbove n) (sym p.is) (above_set a.states (key_of conf of) p.next (subst (λ (k : ℕ). n ≤ k) (sym (ap size_of p.settled.start_told)) next) f.tables)

    stores_above : (rose : Type 0) (end : ℕ) (a : PartShardState) (of : List ℕ) (acts : Acts) (b : PartShardState) (fault : Option StoreFault)
        → StoresActs conf rose end a of acts b fault → b.log ≡ a.log → IsFrom n a → IsFrom n b
    stores_above rose end a of acts b None (inl p) log f = above_same a b log p.1.states f
    stores_above rose end a of acts b None (inr p) log f = record {
      start = subst (λ (l : LogShardState). n ≤ l.start) (sym log) f.start;
      within = subst (λ (l : LogShardState). l.start ≤ end_of l.batches) (sym log) f.within;
      tables = acts_above a of acts b.states p.1.states f;
    }
    stores_above rose end a of acts b (Some Device) p log f = above_same a b log p.2.states f
    stores_above rose end a of acts b (Some (Full at)) p log f = above_same a b log p.2.states f

    pub acks_above : (rose : Type 0) (end : ℕ) (a : PartShardState) (visit : Visit) (b : PartShardState) (ack : AckOutcome)
        → Acknowledges conf rose end a visit b ack → b.log ≡ a.log → IsFrom n a → IsFrom n b
    acks_above rose end a visit b acknowledged p log f = stores_above rose end a visit.group (named_from a.log.start visit.acks) b None p.1 log f
    acks_above rose end a visit b (Malformed fault) p log f = above_same a b log p.1.states f
    acks_above rose end a visit b (NotHeld offset) p log f = above_same a b log p.2.states f
    acks_above rose end a visit b (ack_store fault) p log f = stores_above rose end a visit.group (named_from a.log.start visit.acks) b (Some fault) p.1 log f

    first_above : (reset : Reset) (log : Log) → n ≤ log.start → log.start ≤ end_of log.batches → n ≤ first_start reset log
    first_above Latest log le within = omega (arith, le, within)
    first_above Earliest log le within = le

    pub new_above : (a : PartShardState) → IsFrom n a → n ≤ size_of (new_state conf (log_at a.log)).start
    new_above a f = first_above conf.reset (log_at a.log) f.start f.within

    -- a new table is stored
    stored_above : (a : PartShardState) (group : List ℕ) (b : PartShardState) → b.states ≡ with_new conf a group → b.log ≡ a.log → IsFrom n a → IsFrom n b
    stored_above a group b states log f = record {
      start = subst (λ (l : LogShardState). n ≤ l.start) (sym log) f.start;
      within = subst (λ (l : LogShardState). l.start ≤ end_of l.batches) (sym log) f.within;
      tables = subst (StartAbove n) (sym states) (above_set a.states (key_of conf group) (new_state conf (log_at a.log)) (new_above a f) f.tables);
    }

    made_above : (told : Bool) (rose : Type 0) (end : ℕ) (a : PartShardState) (visit : Visit) (limits : Limits) (answer : VisitAnswer) (b : PartShardState)
        (t : ThenOutcome) → MakesTable conf told rose end a visit limits answer b t → b.log ≡ a.log → IsFrom n a → IsFrom n b
    made_above told rose end a visit limits answer b followed p log f = stored_above a visit.group b p.states log f
    made_above told rose end a visit limits answer b (then_store Device) p log f = above_same a b log p.2.states f
    made_above told rose end a visit limits answer b (then_store (Full at)) p log f = above_same a b log p.2.states f

    fetches_above : (told : Bool) (rose : Type 0) (end : ℕ) (a : PartShardState) (visit : Visit) (limits : Limits) (answer : VisitAnswer) (b : PartShardState)
        (t : Option ShareState) → Fetches conf told rose end a visit limits answer b t → b.log ≡ a.log → IsFrom n a → IsFrom n b
    fetches_above told rose end a visit limits answer b None p log f = made_above told rose end a visit limits answer b answer.then p log f
    fetches_above told rose end a visit limits answer b (Some state) p log f = above_same a b log p.states f

    then_above : (told : Bool) (rose : Type 0) (end : ℕ) (a : PartShardState) (visit : Visit) (answer : VisitAnswer) (b : PartShardState) (t : Then)
        → Does conf told rose end a visit answer b t → b.log ≡ a.log → IsFrom n a → IsFrom n b
    then_above told rose end a visit answer b Nothing p log f = above_same a b log p.1.states f
    then_above told rose end a visit answer b Release p log f =
        stores_above rose end a visit.group (releases_of visit.member (a.held visit.group)) b (fault_of answer.then) p.1 log f
    then_above told rose end a visit answer b (Fetch records bytes first) p log f =
        fetches_above told rose end a visit (record { records = records; bytes = bytes; first = first }) answer b
        (share_state_at a.states (key_of conf visit.group)) p log f

    -- a batch couldn't be read
    unread_above : (a : PartShardState) (visit : Visit) (b : PartShardState) (t : Option ShareState) → HasItsTable conf a visit b t → b.log ≡ a.log
        → IsFrom n a → IsFrom n b
    unread_above a visit b None p log f = stored_above a visit.group b p.0 log f
    unread_above a visit b (Some state) p log f = above_same a b log p.0 f

    pub follows_above : (told : Bool) (unread rose : Type 0) (end : ℕ) (a : PartShardState) (visit : Visit) (answer : VisitAnswer) (b : PartShardState) (failed : Bool)
        → Follows conf told unread rose end a visit answer b failed → b.log ≡ a.log → IsFrom n a → IsFrom n b
    follows_above told unread rose end a visit answer b true p log f =
        unread_above a visit b (share_state_at a.states (key_of conf visit.group)) p.table log f
    follows_above told unread rose end a visit answer b false p log f = then_above told rose end a visit answer b visit.then p log f

    pub groups_above : (a later end last : ℕ) (groups : List (List ℕ)) (freed : ℕ) (old : PartShardState) (answer : ExpireAnswer) (new : PartShardState)
        → StepsGroups conf a later end last groups freed old answer new → new.log ≡ old.log → IsFrom n old → IsFrom n new
    groups_above a later end last [] freed old answer new p log f = subst (IsFrom n) (sym p.1) f
    groups_above a later end last (g ∷ groups) freed old answer new (inl p) log f =
        groups_above p.1 later p.2 last groups (more_freed freed (due_count old.clock (old.held g))) p.0 answer new p.5 (log ∙ sym p.3.log)
        (stores_above (Rose a p.1) end old g (ending old.clock (old.held g)) p.0 None p.3.stores p.3.log f)
    groups_above a later end last (g ∷ groups) freed old answer new (inr p) log f =
        stores_above (Rose a later) end old g (ending old.clock (old.held g)) new (Some p.0) p.2.stores log f

  -- ---- a batch

  log_above : (a b : PartShardState) → a.log.batches ≡ b.log.batches → b.log.start ≡ a.log.start → b.states ≡ a.states → IsFrom n a → IsFrom n b
  log_above a b batches starts states f = record {
    start = (let low = f.start in omega (arith, low, starts));
    within = subst (λ (l : List LogBatch). b.log.start ≤ end_of l) batches (let within = f.within in omega (arith, within, starts));
    tables = subst (StartAbove n) (sym states) f.tables;
  }

  pub batch_above : (rose : Type 0) (end : ℕ) (a b : PartShardState) (batch : List ℕ) (produced : Produced) → StepsLog rose end a.log batch (base_in (result_of produced)) b.log
      → b.states ≡ a.states → IsFrom n a → IsFrom n b
  batch_above rose end a b batch (Base at) p states f = record {
    start = (let low = f.start in let starts = p.start in omega (arith, low, starts));
    within = subst (λ (l : List LogBatch). b.log.start ≤ end_of l) (sym p.batches)
        (let within = f.within in let starts = p.start in let later = end_later a.log.batches _ p.follows in omega (arith, within, starts, later));
    tables = subst (StartAbove n) (sym states) f.tables;
  }
  batch_above rose end a b batch (Batch fault) p states f = above_same a b p.1 states f
  batch_above rose end a b batch (Store Device) p states f = log_above a b (sym p.1.same) p.1.start states f
  batch_above rose end a b batch (Store (Full at)) p states f = above_same a b p.1 states f

-- ---- a delete

not_below : (s : ShareState) (to m : ℕ) → s.start ≡ pos m → starts_below s.start to ≡ false → to ≤ size_of s.start
not_below s to m is high =
    subst (λ (z : ℤ). to ≤ size_of z) (sym is) (lt_no m to (sym (ap (λ (z : ℤ). starts_below z to) is) ∙ high))

-- where all are raised, none starts below
pub raised_above : (to : ℕ) (states : ShareStates) → StartAbove to (raised_states to states)
raised_above to states key state at = by (share_state_at states key) (sym (raised_at to states key) ∙ at) where
  by : (o : Option ShareState) → option_map (raised to) o ≡ Some state → to ≤ size_of state.start
  by None e = absurd (none_not state e)
  by (Some s) e =
      let m = raised_start s to in
      subst (λ (x : ShareState). to ≤ size_of x.start) (some_same (raised to s) state e)
      (not_below (raised to s) to m.0 m.1 (raised_fixed to s))

pub delete_above : (n : ℕ) (rose : Type 0) (end : ℕ) (a b : PartShardState) (to : ℤ) (answer : DeleteAnswer) → DeletesPart rose end a to answer b
    → IsFrom n a → IsFrom n b
delete_above n rose end a b to (OutOfRange at) p f = above_same n a b p.2 p.3.states f
delete_above n rose end a b to (Deleted start) p f = ⊎_elim
    (λ (d : DeletesNothing a p.0 start b). above_same n a b d.log d.still.states f)
    (λ (d : DeletesBelow end a p.0 start b).
    let low : n ≤ p.0 = (let from = f.start in let above = d.log.allowed.above in omega (arith, from, above)) in
    record {
      start = (let is = d.log.start_is in omega (arith, low, is));
      within = subst (λ (l : List LogBatch). b.log.start ≤ end_of l) (sym d.log.batches)
          (let is = d.log.start_is in let within = d.log.allowed.within in omega (arith, is, within));
      tables = λ key state at.
          let le = raised_above p.0 a.states key state (ap (λ (s : ShareStates). share_state_at s key) (sym d.tables.states) ∙ at) in
          omega (arith, low, le);
    }) p.2
delete_above n rose end a b to (delete_store Device) p f = log_above n a b (sym p.2.1.batches) p.2.1.start_is p.3.states f
delete_above n rose end a b to (delete_store (Full at)) p f = above_same n a b p.2.0 p.3.states f

-- behind one that deletes below an offset, nothing below it is left
pub deleted_from : (end : ℕ) (a b : PartShardState) (target start : ℕ) → DeletesBelow end a target start b → IsFrom target b
deleted_from end a b target start d = record {
  start = (let is = d.log.start_is in omega (arith, is));
  within = subst (λ (l : List LogBatch). b.log.start ≤ end_of l) (sym d.log.batches)
      (let is = d.log.start_is in let within = d.log.allowed.within in omega (arith, is, within));
  tables = subst (StartAbove target) (sym d.tables.states) (raised_above target a.states);
}
