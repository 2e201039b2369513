-- The releases of a group, by what it holds and by its table.
use Rattle.std.proofs.Common.{◌≡◌, ◌∙◌, refl, sym, ap, subst, ℕ, List, [], Option, Some, None, Bool}
use Rattle.std.specs.Prelude.{OnErr, IsSome, Result, Ok, Err}
use Rattle.std.specs.BTreeMap.{is_at}
use Rattle.std.specs.Cmp.Lexicographic.{slice_cmp}
use Rattle.std.specs.Map.{lookup}
use Rattle.std.specs.Option.{option_map}
use Rattle.std.specs.Ordering.{nat_cmp}
use Rattle.flex_fields.specs.declared.fault.NoMemory.{NoMemory as want}
use Rattle.part_log.specs.Logs.{IsStoredLog}
use Rattle.share_coord.specs.Stored.{Entries, kept_at}
use Rattle.share_model.specs.ForeignRules.{share_state_at, size_of}
use Rattle.share_model.specs.Held.{Held, hold_at}
use Rattle.share_model.specs.Keys.{KeyParts}
use Rattle.share_model.specs.Logs.{Batch}
use Rattle.share_model.specs.ShareStates.{ShareState}
use Rattle.share_model.specs.declared.hold.Hold.{Hold}
use Rattle.share_model.specs.declared.run.Run.{Run}
use Rattle.share_part.specs.Acknowledging.{NameNone, NameOne}
use Rattle.share_part.specs.Hosting.{HoldsWell}
use Rattle.share_coord.specs.States.{states_of}
use Rattle.share_part.specs.Releasing.{ReleasesGroup, ReleasesTable}
use Rattle.share_part.specs.Settling.{AreBelow, IsChange, change_of, is_chosen, releasing}
use Rattle.share_part.specs.Shards.{held_in, held_of}
use Rattle.share_part.specs.Tables.{Table, table_of}
use Rattle.share_part.specs.declared.settle.Moved.{Moved}
use Rattle.share_part.specs.declared.settle.Whose.{Whose}
use Rattle.share_part.proofs.Seeing.{state_seen, view_of}
use Rattle.share_part.specs.Foreseeing.{HasChange}
use Rattle.share_part.proofs.Slotting.{slot_below}
use Rattle.share_part.proofs.Writing.{slot_of}

-- nothing is held of an empty window
empty_none : (held : Held) (o : ℕ) (hold : Hold) → held ≡ [] → hold_at held o ≡ Some hold → ⊥
empty_none held o hold none at = let never : ◌≡◌ {A = Option Hold} None (Some hold) = sym (ap (λ (h : Held). hold_at h o) none) ∙ at in let clash : ⊥ = cc in clash

pub well_below : (log : List Batch) (o : Option ShareState) (held : Held) → IsStoredLog log → HoldsWell log o held → AreBelow held
well_below log None held sound none o hold at = absurd (empty_none held o hold none at)
well_below log (Some state) held sound well o hold at = slot_below log o sound.stored (slot_of 2000 log (size_of state.start) o sound.rises (well o hold at).slot)

-- and nothing of it is released
pub none_released_of : (chosen : Hold → Bool) (held : Held) → held ≡ [] → NameNone (releasing chosen held)
none_released_of chosen held none o = ap (λ (h : Held). releasing chosen h o) none

-- a group of which something is released has a window
pub window_there : {W : Type 0} (holding : W → Held) (chosen : Hold → Bool) (r : Option W) → NameOne (releasing chosen (held_of holding r)) → IsSome r
window_there holding chosen None one = absurd (let some = one.1 in let clash : ⊥ = cc in clash)
window_there holding chosen (Some w) one = refl

module _ {W : Type 0} (holding : W → Held) (entries : Entries) (windows : List (List ℕ × W)) (group : List ℕ) (key : KeyParts) where
  pub released_there : (whose : Whose) (limit : ℕ) (log : List Batch) (state : ShareState) → Some state ≡ option_map view_of (kept_at entries key)
      → (w : W) → Some w ≡ lookup (is_at (slice_cmp nat_cmp group)) windows → (start : ℕ) (rows : List Run) → start ≡ size_of state.start → rows ≡ state.runs
      → (its : ℕ) → its ≡ limit → (put : List Run) (moved : Option Moved)
      → ReleasesTable its (releasing (is_chosen whose) (holding w)) log (record { start = start; rows = rows; held = holding w }) put moved
      → ReleasesGroup limit (releasing (is_chosen whose) (held_in holding windows group)) log (held_in holding windows group) (share_state_at (states_of entries) key) put moved
  released_there whose limit log state there w in_map start rows at are its same put moved releases =
      let known : share_state_at (states_of entries) key ≡ Some state = state_seen entries key ∙ sym there in
      let held : holding w ≡ held_in holding windows group = ap (held_of holding) in_map in
      subst (λ (o : Option ShareState). ReleasesGroup limit (releasing (is_chosen whose) (held_in holding windows group)) log (held_in holding windows group) o put moved) (sym known)
      (subst (λ (h : Held). ReleasesGroup limit (releasing (is_chosen whose) h) log h (Some state) put moved) held
      (by_moved moved
      (subst (λ (t : Table). ReleasesTable limit (releasing (is_chosen whose) (holding w)) log t put moved) (λ i. record { start = at i; rows = are i; held = holding w })
      (subst (λ (n : ℕ). ReleasesTable n (releasing (is_chosen whose) (holding w)) log (record { start = start; rows = rows; held = holding w }) put moved) same releases))))
    where
      by_moved : (r : Option Moved) → ReleasesTable limit (releasing (is_chosen whose) (holding w)) log (table_of state (holding w)) put r
          → ReleasesGroup limit (releasing (is_chosen whose) (holding w)) log (holding w) (Some state) put r
      by_moved None h = h
      by_moved (Some its) h = h

-- what is to be stored of a table
pub change_of_group : (limit : ℕ) (chosen : Hold → Bool) (log : List Batch) (held : Held) (o : Option ShareState) (rows : List Run) (r : Option Moved) (moved : Moved) → r ≡ Some moved
    → ReleasesGroup limit (releasing chosen held) log held o rows r → HasChange limit (releasing chosen held) log held o (change_of moved rows)
change_of_group limit chosen log held o rows None moved is h = absurd (let clash : ⊥ = cc in clash)
change_of_group limit chosen log held None rows (Some its) moved is h = absurd h
change_of_group limit chosen log held (Some state) rows (Some its) moved is h =
    (state, refl, subst (λ (m : Moved). IsChange limit (releasing chosen held) log (table_of state held) (change_of m rows)) (let same : its ≡ moved = cc in same) h.1)

pub one_of_group : (limit : ℕ) (chosen : Hold → Bool) (log : List Batch) (held : Held) (o : Option ShareState) (rows : List Run) (r : Option Moved) (moved : Moved) → r ≡ Some moved
    → ReleasesGroup limit (releasing chosen held) log held o rows r → NameOne (releasing chosen held)
one_of_group limit chosen log held o rows None moved is h = absurd (let clash : ⊥ = cc in clash)
one_of_group limit chosen log held None rows (Some its) moved is h = absurd h
one_of_group limit chosen log held (Some state) rows (Some its) moved is h = h.0

pub none_of_group : (limit : ℕ) (chosen : Hold → Bool) (log : List Batch) (held : Held) (o : Option ShareState) (rows : List Run) (r : Option Moved) → r ≡ None
    → ReleasesGroup limit (releasing chosen held) log held o rows r → NameNone (releasing chosen held)
none_of_group limit chosen log held o rows None is h = h
none_of_group limit chosen log held o rows (Some its) is h = absurd (let clash : ⊥ = cc in clash)
