-- The states of a store, and those that a partition may have.
use Rattle.std.proofs.Common.{◌≡◌, ◌∙◌, refl, sym, ap, subst, arith, ℕ, ℤ, pos, ◌≤◌, List, [], ◌∷◌, Option, Some, Bool, true, false, cond}
use Rattle.std.specs.Option.{option_map}
use Rattle.std.specs.declared.cmp.Ordering.{Ordering}
use Rattle.std.specs.declared.cmp.Ordering.TheVariants.{Less, Equal, Greater}
use Rattle.std.specs.Ordering.{match_ordering}
use Rattle.std.specs.BTreeMap.{insert_entry, is_at}
use Rattle.offset_runs.proofs.Cuts.{no_lt}
use Rattle.share_model.specs.ForeignRules.{ShareStates, share_state_at, size_of}
use Rattle.share_model.specs.Keys.{KeyParts, key_cmp}
use Rattle.share_model.specs.Logs.{end_of}
use Rattle.part_log.specs.Starts.{Log}
use Rattle.share_model.specs.ShareStates.{ShareState}
use Rattle.share_model.specs.declared.reset.Reset.{Reset}
use Rattle.share_model.specs.declared.reset.Reset.TheVariants.{Latest, Earliest}
use Rattle.share_coord.specs.Calls.{IsInitialised}
use Rattle.share_coord.specs.Stored.{Entries, based, based_kept, kept_at, with_kept}
use Rattle.share_coord.specs.Parts.{KeptState}
use Rattle.share_coord.specs.Raising.{starts_below}
use Rattle.share_coord.specs.Unwritten.{AreLevel}
use Rattle.share_part.specs.Hosting.{PartConfParts, AreHosted, IsHosted, key_of}
use Rattle.share_coord.specs.States.{states_of}
use Rattle.share_part.specs.Shards.{first_start, new_state}
use Rattle.share_part.specs.Tables.{MayGoOut}
use Rattle.share_coord.proofs.Held.{states_based}
use Rattle.share_coord.proofs.Keys.{some_is}
use Rattle.share_coord.proofs.Recovered.{level_written}
use Rattle.share_part.proofs.Mapping.{keys_total, keys_exact, at_is, set_found, set_other}

abbrev pub view_of : KeptState → ShareState
view_of kept = kept.view

found : (b : Bool) (x : KeptState) (rest : Option KeptState) (theirs : Option ShareState) → theirs ≡ option_map view_of rest
    → cond b (Some x.view) theirs ≡ option_map view_of (cond b (Some x) rest)
found true x rest theirs e = refl
found false x rest theirs e = e

pub state_seen : (es : Entries) (key : KeyParts) → share_state_at (states_of es) key ≡ option_map view_of (kept_at es key)
state_seen [] key = refl
state_seen (e ∷ es) key = found (is_at (key_cmp key) e.0) e.1 (kept_at es key) (share_state_at (states_of es) key) (state_seen es key)

by_order : (r : Ordering) (a b c : Entries) (d : ShareStates) → states_of c ≡ d → states_of (match_ordering r a b c) ≡ match_ordering r (states_of a) (states_of b) d
by_order Less a b c d e = refl
by_order Equal a b c d e = refl
by_order Greater a b c d e = e

pub with_seen : (es : Entries) (key : KeyParts) (kept : KeptState) → states_of (with_kept es key kept) ≡ insert_entry key_cmp (states_of es) key kept.view
with_seen [] key kept = refl
with_seen (e ∷ es) key kept = by_order (key_cmp key e.0) ((key, kept) ∷ e ∷ es) ((e.0, kept) ∷ es) (e ∷ with_kept es key kept)
    ((e.0, e.1.view) ∷ insert_entry key_cmp (states_of es) key kept.view) (ap (λ (l : ShareStates). (e.0, e.1.view) ∷ l) (with_seen es key kept))

-- the same behind a checkpoint, or where none was made
pub with_based : (c : Bool) (es : Entries) (key : KeyParts) (kept : KeptState) → states_of (with_kept (based c es) key kept) ≡ insert_entry key_cmp (states_of es) key kept.view
with_based c es key kept = with_seen (based c es) key kept ∙ ap (λ (l : ShareStates). insert_entry key_cmp l key kept.view) (states_based c es)

pub kept_view : (c : Bool) (kept : KeptState) → (based_kept c kept).view ≡ kept.view
kept_view true kept = refl
kept_view false kept = refl

-- ---- states that a partition may have

module _ (conf : PartConfParts) (log : Log) where
  placed : (states : ShareStates) (key : KeyParts) (state : ShareState) → AreHosted conf log states → IsHosted conf log key state
      → (other : KeyParts) (its : ShareState) → share_state_at (insert_entry key_cmp states key state) other ≡ Some its
      → (b : Bool) → is_at (key_cmp other) key ≡ b → IsHosted conf log other its
  placed states key state h new other its is true same =
      let one : other ≡ key = at_is key_cmp keys_total keys_exact other key same in
      let found : share_state_at (insert_entry key_cmp states key state) key ≡ Some its = subst (λ (k : KeyParts). share_state_at (insert_entry key_cmp states key state) k ≡ Some its) one is in
      let value : state ≡ its = some_is state its (sym (set_found key_cmp keys_total keys_exact key state states) ∙ found) in
      subst (λ (k : KeyParts). IsHosted conf log k its) (sym one) (subst (IsHosted conf log key) value new)
  placed states key state h new other its is false apart =
      h other its (sym (set_other key_cmp keys_total keys_exact key state other apart states) ∙ is)

  pub hosted_more : (states : ShareStates) (key : KeyParts) (state : ShareState) → AreHosted conf log states → IsHosted conf log key state
      → AreHosted conf log (insert_entry key_cmp states key state)
  hosted_more states key state h new other its is = placed states key state h new other its is (is_at (key_cmp other) key) refl

  start_within : log.start ≤ end_of log.batches → (reset : Reset) → (log.start ≤ first_start reset log) × (first_start reset log ≤ end_of log.batches)
  start_within within Latest = (within, omega arith)
  start_within within Earliest = (omega arith, within)

  pub new_hosted : log.start ≤ end_of log.batches → (group : List ℕ) → IsHosted conf log (key_of conf group) (new_state conf log)
  new_hosted within group = record {
    key_is = refl;
    epochs = (refl, refl);
    start = (let s = start_within within conf.reset in (first_start conf.reset log, refl, s.0, s.1));
    canonical = tt;
    rows = λ offset row is. absurd (let never : ⊥ = cc in never);
  }

  -- a table starts where the log does, or behind
  pub starts_above : (states : ShareStates) (key : KeyParts) (state : ShareState) → AreHosted conf log states → share_state_at states key ≡ Some state
      → log.start ≤ size_of state.start
  starts_above states key state h is =
      let s = (h key state is).start in
      let le = s.2 in
      let at : size_of state.start ≡ s.0 = ap size_of s.1 in
      omega (arith, le, at)

  -- so it doesn't start below it
  pub level_of : (key : KeyParts) (state : ShareState) → IsHosted conf log key state → starts_below state.start log.start ≡ false
  level_of key state h =
      let s = h.start in
      ap (λ (z : ℤ). starts_below z log.start) s.1 ∙ no_lt s.0 log.start s.2

  -- nor does what a write leaves of a table
  pub write_level : (old new : Entries) (c : Bool) (key : KeyParts) (kept : KeptState) → new ≡ with_kept (based c old) key kept → kept.raised ≡ false
      → AreHosted conf log (states_of new) → AreLevel log.start old → AreLevel log.start new
  write_level old new c key kept is never hosted h =
      let found : share_state_at (states_of new) key ≡ Some kept.view = ap (λ (s : ShareStates). share_state_at s key) (ap states_of is ∙ with_based c old key kept)
      ∙ set_found key_cmp keys_total keys_exact key kept.view (states_of old) in
      level_written log.start c old new key kept is never (level_of key kept.view (hosted key kept.view found)) h

  -- what is stored of a group may go out
  pub goes_out : (states : ShareStates) (key : KeyParts) (state : ShareState) → AreHosted conf log states → share_state_at states key ≡ Some state → MayGoOut state.runs
  goes_out states key state h is offset row at free = ((h key state is).rows offset row at).again free

-- ---- a table that is stored

pub made_is : (conf : PartConfParts) (log : Log) (es new : Entries) (group : List ℕ) → IsInitialised es (key_of conf group) (pos 0) (pos (first_start conf.reset log)) new
    → states_of new ≡ insert_entry key_cmp (states_of es) (key_of conf group) (new_state conf log)
made_is conf log es new group is = ap states_of is.is ∙ with_based is.checkpointed es (key_of conf group) _
