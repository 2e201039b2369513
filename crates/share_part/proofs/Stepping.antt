-- The acknowledgements of a visit as a step of the shard.
use Rattle.std.proofs.Common.{◌≡◌, ◌∙◌, refl, sym, ap, ℕ, pos, List, Option, Some, None, Bool, true, false}
use Rattle.std.specs.Prelude.{ℤ, nat_lt, unwrap_or, if◌then◌else◌}
use Rattle.std.specs.BTreeMap.{insert_entry}
use Rattle.std.specs.Option.{option_or}
use Rattle.share_coord.specs.Calls.{counted, written_of}
use Rattle.share_coord.specs.Stored.{Entries, kept_at}
use Rattle.share_model.specs.ForeignRules.{share_state_at, size_of}
use Rattle.share_model.specs.Held.{Held}
use Rattle.share_model.specs.Keys.{key_cmp}
use Rattle.share_model.specs.Logs.{Batch}
use Rattle.share_model.specs.Runs.{row_at}
use Rattle.share_model.specs.ShareStates.{ShareState, is_below, start_after}
use Rattle.share_model.specs.declared.row.Row.{Row}
use Rattle.share_part.specs.Hosting.{PartConfParts, IsHosted, key_of}
use Rattle.share_coord.specs.States.{states_of}
use Rattle.share_part.specs.Settling.{Acts, Change, IsChange, IsSettled, acted, stored_after}
use Rattle.share_part.specs.Acknowledging.{start_number}
use Rattle.share_part.specs.Storing.{IsStored}
use Rattle.share_part.specs.Tables.{table_of}
use Rattle.share_part.proofs.Slotting.{starting}
use Rattle.share_part.proofs.Seeing.{kept_view, state_seen, view_of, with_based}
use Rattle.share_part.proofs.Writing.{last_is, seen_kept, kept_one}

module _ {from : ℕ} (conf : PartConfParts) (log : List Batch) (es new : Entries) (group : List ℕ) (state : ShareState) (held : Held) (acts : Acts) (change : Change)
    (was : IsHosted conf (starting log from) (key_of conf group) state) (known : share_state_at (states_of es) (key_of conf group) ≡ Some state)
    (ch : IsChange conf.limit acts log (table_of state held) change) (w : IsStored es (key_of conf group) change.start change.runs new) where
  abbrev pub next : ShareState
  next = (written_of w.kept (pos 0) (pos 0) (start_number change.start) w.laid).view

  view_is : w.kept.view ≡ state
  view_is =
      let there = seen_kept (kept_at es (key_of conf group)) state (sym (state_seen es (key_of conf group)) ∙ known) in
      ap view_of (kept_one w.kept there.0 (sym w.known ∙ there.1)) ∙ there.2

  abbrev start : ℕ
  start = unwrap_or change.start (size_of state.start)

  start_is : (o : Option ℕ) → start_after w.kept.view.start (start_number o) ≡ pos (unwrap_or o (size_of state.start))
  start_is None =
      let at = was.start.1 in
      ap (λ (s : ShareState). s.start) view_is ∙ at ∙ ap pos (sym (ap size_of at))
  start_is (Some n) = refl

  by_test : (t : Bool) (a b : Option Row) → (if t then None else option_or (if t then None else a) b) ≡ (if t then None else option_or a b)
  by_test true a b = refl
  by_test false a b = refl

  rows_are : (o : ℕ) → row_at w.laid o ≡ (if nat_lt o start then None else stored_after conf.limit acts (table_of state held) o)
  rows_are o =
      let written : row_at w.written o ≡ (if nat_lt o start then None else acted conf.limit acts held o) =
      w.are_written.rows o ∙ last_is change.runs ch.settles.canonical o ∙ ch.settles.rows o in
      w.are_laid.rows o
      ∙ ap (λ (z : ℤ). if is_below o z then None else option_or (row_at w.written o) (row_at w.kept.view.runs o)) (start_is change.start)
      ∙ ap (λ (r : Option Row). if nat_lt o start then None else option_or r (row_at w.kept.view.runs o)) written
      ∙ ap (λ (s : ShareState). if nat_lt o start then None else option_or (if nat_lt o start then None else acted conf.limit acts held o) (row_at s.runs o)) view_is
      ∙ by_test (nat_lt o start) (acted conf.limit acts held o) (row_at state.runs o)

  pub now_settled : IsSettled conf.limit acts log (table_of state held) next
  now_settled = record {
    epochs = (refl, refl);
    start = start;
    start_told = start_is change.start;
    start_is = ch.settles.start_is;
    canonical = w.are_laid.canonical;
    rows = rows_are;
  }

  pub now_states : states_of new ≡ insert_entry key_cmp (states_of es) (key_of conf group) next
  now_states = ap states_of w.is ∙ with_based w.checkpointed es (key_of conf group) _
      ∙ ap (λ (v : ShareState). insert_entry key_cmp (states_of es) (key_of conf group)
      (record { state_epoch = pos 0; leader_epoch = pos 0; start = start_after v.start (start_number change.start); runs = w.laid })) (kept_view w.checkpointed (counted w.kept (start_after w.kept.view.start (start_number change.start))))
