-- The write that stores acts is granted, and leaves a table on which they are done.
use Rattle.std.proofs.Common.{◌≡◌, ◌⊎◌, ⊎_elim, ◌∙◌, inl, inr, refl, sym, ap, subst, arith, ℕ, zero, suc, ◌+◌, ◌*◌, ◌^◌, ◌≤◌, List, [], ◌∷◌, length, Option, Some, None, Bool, true, false}
use Rattle.std.proofs.lemmas.Bool.Decides.{nat_tests}
use Rattle.std.specs.Prelude.{ℤ, pos, negsuc, int_lt, IfSome, nat_le, ◌&&◌, ◌||◌, not, unwrap_or, if◌then◌else◌}
use Rattle.std.specs.List.{Contains, list_all}
use Rattle.std.specs.Option.{option_map, option_or}
use Rattle.share_coord.proofs.Written.{or_none}
use Rattle.share_coord.specs.Calls.{fenced_write, write_refusal}
use Rattle.share_coord.specs.Stored.{Entries, kept_at}
use Rattle.share_coord.specs.declared.fault.CoordFault.{CoordFault}
use Rattle.share_coord.specs.declared.fault.CoordFault.TheVariants.{Invalid}
use Rattle.share_coord.specs.Parts.{KeptState}
use Rattle.share_model.proofs.Lookups.{row_at-none}
use Rattle.share_model.specs.ForeignRules.{share_state_at, size_of}
use Rattle.share_model.specs.Held.{Held, hold_at}
use Rattle.share_model.specs.Keys.{KeyParts}
use Rattle.share_model.specs.Logs.{Batch, IsLog, IsNextSlot, IsSlot, end_of}
use Rattle.share_model.specs.Runs.{IsCanonical, row_at, row_of}
use Rattle.share_model.specs.ShareStates.{ShareState, is_writable, last_row}
use Rattle.share_model.specs.declared.row.Row.{Row}
use Rattle.share_model.specs.declared.run.Run.{Run}
use Rattle.part_log.proofs.Rising.{end_bound}
use Rattle.part_log.specs.Logs.{IsStoredLog}
use Rattle.share_part.specs.Hosting.{PartConfParts, AreHeldWell, IsHosted, key_of}
use Rattle.share_coord.specs.States.{states_of}
use Rattle.share_part.specs.Settling.{Acts, Change, IsChange, acted, stored_after}
use Rattle.share_part.specs.Slots.{and_more, next_slot, slots_from}
use Rattle.share_part.specs.Acknowledging.{start_number}
use Rattle.share_part.specs.Storing.{IsReserved}
use Rattle.share_part.specs.Tables.{table_of}
use Rattle.share_part.proofs.Producing.{front_or, none_in}
use Rattle.share_part.proofs.Seeing.{state_seen, view_of}
use Rattle.share_part.proofs.Slotting.{next_meets, slot_below, starting}
use Rattle.share_part.proofs.Staying.{all_writable, few_within, from_start, of_act, settled_count, start_later}

-- ---- runs that are written

pub last_is : (runs : List Run) → IsCanonical runs → (o : ℕ) → last_row runs o ≡ row_at runs o
last_is [] canonical o = refl
last_is (r ∷ rs) canonical o = by_test (nat_le r.first o && nat_le o r.last) refl (last_is rs canonical.2 o)
  where
    by_test : (t : Bool) → (nat_le r.first o && nat_le o r.last) ≡ t → last_row rs o ≡ row_at rs o
        → option_or (last_row rs o) (if t then Some (row_of r) else None) ≡ (if t then Some (row_of r) else row_at rs o)
    by_test true is ih =
        let upto : o ≤ r.last = grind (arith, nat_tests) in
        ap (λ (a : Option Row). option_or a (Some (row_of r))) (ih ∙ row_at-none r rs o canonical.1 canonical.2 upto)
    by_test false is ih = or_none (last_row rs o) ∙ ih

pub slot_of : (n : ℕ) (log : List Batch) (from o : ℕ) → IsLog log → Contains (slots_from n log from) o → IsSlot log o
unfolding slots_from
slot_of zero log from o h c = absurd (none_in o c)
slot_of (suc n) log from o h c = by_next (next_slot log from) (next_meets 0 log h from) c (λ slot. slot_of n log (slot + 1) o h)
  where
    by_next : (r : Option ℕ) → IsNextSlot log from r → Contains (and_more r (λ slot. slots_from n log (slot + 1))) o
        → ((slot : ℕ) → Contains (slots_from n log (slot + 1)) o → IsSlot log o) → IsSlot log o
    by_next None is c ih = absurd (none_in o c)
    by_next (Some slot) is c ih = ⊎_elim (λ e. subst (IsSlot log) e is.0) (λ r. ih slot r) (front_or slot o (slots_from n log (slot + 1)) c)

bounded : (o : Option ℕ) (d : ℕ) → unwrap_or o d ≤ 2 ^ 62 → IfSome o (λ n. n ≤ 2 ^ 62)
bounded None d le = tt
bounded (Some n) d le = le

not_low : (o : Option ℕ) → int_lt (start_number o) (negsuc 0) ≡ false
not_low None = refl
not_low (Some n) = refl

pub seen_kept : (o : Option KeptState) (state : ShareState) → option_map view_of o ≡ Some state → (kept : KeptState) × (o ≡ Some kept) × (kept.view ≡ state)
seen_kept None state e = absurd (let clash : ⊥ = cc in clash)
seen_kept (Some kept) state e = (kept, refl, (let same : kept.view ≡ state = cc in same))

pub kept_one : (a b : KeptState) → ◌≡◌ {A = Option KeptState} (Some a) (Some b) → a ≡ b
kept_one a b e = cc

either : (a b : Option Row) (row : Row) → option_or a b ≡ Some row → (a ≡ Some row) ⊎ (b ≡ Some row)
either None b row e = inr e
either (Some r) b row e = inl e

unless : (t : Bool) (a : Option Row) (row : Row) → (if t then None else a) ≡ Some row → a ≡ Some row
unless true a row e = absurd (let clash : ⊥ = cc in clash)
unless false a row e = e

module _ {from : ℕ} (conf : PartConfParts) (log : List Batch) (es : Entries) (group : List ℕ) (state : ShareState) (held : Held) (acts : Acts) (change : Change)
    (sound : IsStoredLog log) (few : conf.limit ≤ 10) (was : IsHosted conf (starting log from) (key_of conf group) state) (well : AreHeldWell log (size_of state.start) held)
    (known : share_state_at (states_of es) (key_of conf group) ≡ Some state) (ch : IsChange conf.limit acts log (table_of state held) change) where
  abbrev key : KeyParts
  key = key_of conf group

  abbrev next_start : ℕ
  next_start = unwrap_or change.start (size_of state.start)

  starts : (size_of state.start ≤ next_start) × (next_start ≤ end_of log)
  starts = start_later conf log group state held acts sound.rises few was well (stored_after conf.limit acts (table_of state held)) next_start ch.settles.start_is

  pub start_bound : IfSome change.start (λ n. n ≤ 2 ^ 62)
  start_bound = bounded change.start (size_of state.start) (let end = end_bound log sound.stored in let below = starts.1 in omega (arith, end, below))

  -- each row that is written is that of a held record
  run_there : (o : ℕ) (row : Row) → row_at change.runs o ≡ Some row → Contains (slots_from 2000 log (size_of state.start)) o × (row.count ≤ 10)
  run_there o row at =
      let there = from_start conf log group state held acts sound.rises few was well o next_start (acted conf.limit acts held o) row (sym (ch.settles.rows o) ∙ at) in
      let act = of_act conf.limit (acts o) (hold_at held o) row there.1 in
      let h = well o act.1 act.2 in
      let count : act.1.count ≡ row.count = sym (settled_count conf.limit act.0 act.1.count) ∙ ap (λ (r : Row). r.count) act.3 in
      let high : act.1.count ≤ 10 = h.delivered.1 in
      (h.slot, omega (arith, count, high))

  writable : list_all is_writable change.runs ≡ true
  writable = all_writable change.runs ch.settles.canonical (λ o row at.
      let t = run_there o row at in (slot_below log o sound.stored (slot_of 2000 log (size_of state.start) o sound.rises t.0), t.1))

  kept_there : (kept : KeptState) × (kept_at es key ≡ Some kept) × (kept.view ≡ state)
  kept_there = seen_kept (kept_at es key) state (sym (state_seen es key) ∙ known)

  unfenced : (kept : KeptState) → kept.view ≡ state → fenced_write (Some kept) (pos 0) (pos 0) ≡ None
  unfenced kept is =
      let leader : kept.view.leader_epoch ≡ pos 0 = ap (λ (s : ShareState). s.leader_epoch) is ∙ was.epochs.1 in
      let epoch : kept.view.state_epoch ≡ pos 0 = ap (λ (s : ShareState). s.state_epoch) is ∙ was.epochs.0 in
      λ i. fenced_two (leader i) (epoch i) kept
    where
      fenced_two : ℤ → ℤ → KeptState → Option CoordFault
      fenced_two l e kept = fenced_write (Some (record { view = record { state_epoch = e; leader_epoch = l; start = kept.view.start; runs = kept.view.runs }; snapshot = kept.snapshot; updates = kept.updates; raised = kept.raised; tells = kept.tells })) (pos 0) (pos 0)

  pub granted : write_refusal (kept_at es key) (pos 0) (pos 0) (start_number change.start) change.runs ≡ None
  granted =
      ap (λ (b : Bool). if b || not (list_all is_writable change.runs) then Some Invalid else fenced_write (kept_at es key) (pos 0) (pos 0)) (not_low change.start)
      ∙ ap (λ (b : Bool). if not b then Some Invalid else fenced_write (kept_at es key) (pos 0) (pos 0)) writable
      ∙ ap (λ (o : Option KeptState). fenced_write o (pos 0) (pos 0)) kept_there.1 ∙ unfenced kept_there.0 kept_there.2

  -- the rows that are there, and two for each that is written
  few_rows : IsCanonical state.runs → length state.runs + 2 * length change.runs ≤ 6000
  few_rows canonical =
      let stored = few_within log (size_of state.start) state.runs sound.rises canonical (λ o row at. (was.rows o row at).slot) in
      let changed = few_within log (size_of state.start) change.runs sound.rises ch.settles.canonical (λ o row at. (run_there o row at).0) in
      omega (arith, stored, changed)

  pub reserved : IsCanonical state.runs → (room : ℕ) → 6000 ≤ room → IsReserved es key change.runs room
  reserved canonical room enough = record {
    kept = kept_there.0;
    known = kept_there.1;
    epochs = (ap (λ (s : ShareState). s.state_epoch) kept_there.2 ∙ was.epochs.0, ap (λ (s : ShareState). s.leader_epoch) kept_there.2 ∙ was.epochs.1);
    fits = (let few = few_rows canonical in let same = ap (λ (s : ShareState). length s.runs) kept_there.2 in omega (arith, few, same));
    room_is = enough;
  }
