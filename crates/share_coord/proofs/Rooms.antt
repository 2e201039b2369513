-- The memory of the rows of a table.
use Rattle.std.proofs.Common.{◌≡◌, ◌≤◌, refl, sym, ap, ◌∙◌, subst, arith, ℕ, List, [], ◌∷◌, Option, Some, None, Bool, true, false, cond, map}
use Rattle.std.specs.declared.cmp.Ordering.{Ordering}
use Rattle.std.specs.declared.cmp.Ordering.TheVariants.{Less, Equal, Greater}
use Rattle.std.specs.Ordering.{match_ordering}
use Rattle.std.specs.BTreeMap.{insert_entry, is_at}
use Rattle.std.specs.Map.{lookup, remove_entry}
use Rattle.std.specs.Map.Calls.{RetainsPairs}
use Rattle.std.specs.Option.{IfSome}
use Rattle.share_model.specs.Keys.{KeyParts, key_cmp}
use Rattle.share_coord.specs.Parts.{KeptState}
use Rattle.share_coord.specs.Stored.{Entries}
use Rattle.share_coord.specs.Tables.{AreRoomy, entries_in, shown}
use Rattle.share_coord.specs.declared.view.Kept.{Kept}
use Rattle.share_coord.proofs.Keys.{some_is, some_none}
use Rattle.share_coord.proofs.Tables.{renewed_table}

abbrev Table : Type 0
Table = List (KeyParts × Kept)

pub less_room : (less room : ℕ) (es : Table) → less ≤ room → AreRoomy room es → AreRoomy less es
less_room less room [] le h = tt
less_room less room (e ∷ es) le h = let has = h.0 in (omega (arith, le, has), less_room less room es le h.1)

pub renewed_roomy : (room : ℕ) (es : Table) → AreRoomy room es → AreRoomy room (renewed_table es)
renewed_roomy room [] h = tt
renewed_roomy room (e ∷ es) h = (h.0, renewed_roomy room es h.1)

module _ (room : ℕ) where
  by_order : (r : Ordering) (a b c : Table) → AreRoomy room a → AreRoomy room b → AreRoomy room c → AreRoomy room (match_ordering r a b c)
  by_order Less a b c x y z = x
  by_order Equal a b c x y z = y
  by_order Greater a b c x y z = z

  pub roomy_with : (es : Table) (key : KeyParts) (kept : Kept) → AreRoomy room es → room ≤ kept.view.room → AreRoomy room (insert_entry key_cmp es key kept)
  roomy_with [] key kept h le = (le, tt)
  roomy_with (e ∷ es) key kept h le =
      by_order (key_cmp key e.0) ((key, kept) ∷ e ∷ es) ((e.0, kept) ∷ es) (e ∷ insert_entry key_cmp es key kept) (le, h) (le, h.1)
      (h.0, roomy_with es key kept h.1 le)

  by_test : (b : Bool) (a c : Table) → AreRoomy room a → AreRoomy room c → AreRoomy room (cond b a c)
  by_test true a c x y = x
  by_test false a c x y = y

  pub roomy_without : (es : Table) (key : KeyParts) → AreRoomy room es → AreRoomy room (remove_entry (is_at (key_cmp key)) es)
  roomy_without [] key h = tt
  roomy_without (e ∷ es) key h =
      by_test (is_at (key_cmp key) e.0) es (e ∷ remove_entry (is_at (key_cmp key)) es) h.1 (h.0, roomy_without es key h.1)

  found_one : (b : Bool) (v w : Kept) (rest : Option Kept) → room ≤ v.view.room → (rest ≡ Some w → room ≤ w.view.room) → cond b (Some v) rest ≡ Some w
      → room ≤ w.view.room
  found_one true v w rest le f e = subst (λ (k : Kept). room ≤ k.view.room) (some_is v w e) le
  found_one false v w rest le f e = f e

  pub roomy_at : (es : Table) (key : KeyParts) (kept : Kept) → AreRoomy room es → lookup (is_at (key_cmp key)) es ≡ Some kept → room ≤ kept.view.room
  roomy_at [] key kept h e = absurd (some_none kept (sym e))
  roomy_at (e ∷ es) key kept h is =
      found_one (is_at (key_cmp key) e.0) e.1 kept (lookup (is_at (key_cmp key)) es) h.0 (roomy_at es key kept h.1) is

  pub roomy_old : (es : Table) (key : KeyParts) (old : Option Kept) → old ≡ lookup (is_at (key_cmp key)) es → AreRoomy room es
      → IfSome old (λ (k : Kept). room ≤ k.view.room)
  roomy_old es key None is h = tt
  roomy_old es key (Some kept) is h = roomy_at es key kept h (sym is)

-- each key was visited, this was made of what is kept of it, and its rows have as much memory as they had
module _ {F : Type 0} (T : F → KeyParts → Kept → Bool → Kept → F → Type 0) (I : F → Type 0) (step : KeptState → KeptState)
    (visits : (f : F) (k : KeyParts) (v : Kept) (b : Bool) (w : Kept) (g : F) → I f → T f k v b w g
    → (b ≡ true) × (shown w ≡ step (shown v)) × (v.view.room ≤ w.view.room) × I g) where
  pub visited_all : (f : F) (es new : Table) → I f → RetainsPairs T f es new → entries_in new ≡ map (λ e. (e.0, step e.1)) (entries_in es)
  visited_all f [] new i r = ap entries_in r
  visited_all f (e ∷ es) new i r =
      let a = visits f e.0 e.1 r.0 r.1 r.2 i r.4 in
      let rest = visited_all r.2 es r.3 a.3 r.5 in
      ap entries_in (r.6 ∙ ap (λ (b : Bool). cond b ((e.0, r.1) ∷ r.3) r.3) a.0) ∙ (λ j. (e.0, a.1 j) ∷ rest j)

  pub visited_roomy : (f : F) (room : ℕ) (es new : Table) → I f → RetainsPairs T f es new → AreRoomy room es → AreRoomy room new
  visited_roomy f room [] new i r all = subst (AreRoomy room) (sym r) tt
  visited_roomy f room (e ∷ es) new i r all =
      let a = visits f e.0 e.1 r.0 r.1 r.2 i r.4 in
      let le = a.2 in
      let was = all.0 in
      let rest = visited_roomy r.2 room es r.3 a.3 r.5 all.1 in
      subst (AreRoomy room) (sym (r.6 ∙ ap (λ (b : Bool). cond b ((e.0, r.1) ∷ r.3) r.3) a.0)) (omega (arith, le, was), rest)

-- nothing was made of it
pub unchanged : (es : Entries) → map (λ e. (e.0, e.1)) es ≡ es
unchanged [] = refl
unchanged (e ∷ es) = ap (λ (l : Entries). e ∷ l) (unchanged es)
