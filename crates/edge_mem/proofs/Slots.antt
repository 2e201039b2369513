-- The slots of a bay.
use Rattle.std.proofs.Common.{◌≡◌, ◌≢◌, ◌⊎◌, inl, inr, ⊎_elim, refl, sym, ap, ◌∙◌, subst, ℕ, ◌<◌}
use Rattle.std.proofs.Common.{if◌then◌else◌, Bool, true, false, List, [], ◌∷◌, ◌++◌, length, get_or, Option, Some, None, is_some, arith, rules}
use Rattle.std.proofs.Math.ListN.{set}
use Rattle.std.proofs.lemmas.Bool.{cases_Bool, false≢true}
use Rattle.std.specs.Cmp.Lexicographic.{same_text, other_text}
use Rattle.edge_mem.specs.Bays.{same_name, slot_index, found, behind, disk_in, out_in, taken_in, is_empty, fresh, BayState, disk_at, out_at, Taken, Put}
use Rattle.edge_io.specs.Bays.{SameSlot, IsUntouched}
use Rattle.edge_mem.proofs.Fresh.{fresh_untouched}
use Rattle.edge_mem.specs.Seen.{bay_view, disk_view}
use Rattle.edge_mem.specs.Past.{DiskState}
use Rattle.edge_mem.specs.declared.bay.Slot.{Slot}

same_yes : (a b : List ℕ) → a ≡ b → same_name a b ≡ true
same_yes a b e = ⊎_elim (λ yes. yes) (λ no. absurd (other_text a b (sym no) e)) (cases_Bool (same_name a b))

same_no : (a b : List ℕ) → a ≢ b → same_name a b ≡ false
same_no a b other = ⊎_elim (λ yes. absurd (other (same_text a b (sym yes)))) (λ no. no) (cases_Bool (same_name a b))

name_cases : (a b : List ℕ) → (a ≡ b) ⊎ (a ≢ b)
name_cases a b = ⊎_elim (λ yes. inl (same_text a b (sym yes))) (λ no. inr (other_text a b (sym no))) (cases_Bool (same_name a b))

here : (s : Slot) (slots : List Slot) (name : List ℕ) → s.name ≡ name → found (s ∷ slots) name ≡ Some s
here s slots name is = let b : same_name s.name name ≡ true = same_yes s.name name is in ap (λ (b : Bool). if b then Some s else found slots name) b

there : (s : Slot) (slots : List Slot) (name : List ℕ) → s.name ≢ name → found (s ∷ slots) name ≡ found slots name
there s slots name other = let b : same_name s.name name ≡ false = same_no s.name name other in ap (λ (b : Bool). if b then Some s else found slots name) b

-- what stands at the slot_index that was found, and what a change there does
pub record IsAt (slots : List Slot) (name : List ℕ) (n : ℕ) : Type 0 where
  pub within : n < length slots
  pub is : (d : Slot) → found slots name ≡ Some (get_or slots n d)
  pub named : (d : Slot) → (get_or slots n d).name ≡ name
  pub changed : (y : Slot) → y.name ≡ name → found (set slots n y) name ≡ Some y
  pub others : (y : Slot) (m : List ℕ) → y.name ≡ name → m ≢ name → found (set slots n y) m ≡ found slots m

abbrev pub Looked : List Slot → List ℕ → Option ℕ → Type 0
Looked slots name None = found slots name ≡ None
Looked slots name (Some n) = IsAt slots name n

more : (s : Slot) (slots : List Slot) (name : List ℕ) → s.name ≢ name → (o : Option ℕ) → Looked slots name o
    → Looked (s ∷ slots) name (behind o)
more s slots name other None l = there s slots name other ∙ l
more s slots name other (Some n) l = record {
  within = omega (arith, l.within);
  is = λ d. there s slots name other ∙ l.is d;
  named = λ d. l.named d;
  changed = λ y on. there s (set slots n y) name other ∙ l.changed y on;
  others = λ y m on away. skipped m (set slots n y) (l.others y m on away);
}
  where
    skipped : (m : List ℕ) (new : List Slot) → found new m ≡ found slots m → found (s ∷ new) m ≡ found (s ∷ slots) m
    skipped m new same = ap (λ (o : Option Slot). if same_name s.name m then Some s else o) same

first : (s : Slot) (slots : List Slot) (name : List ℕ) → s.name ≡ name → IsAt (s ∷ slots) name 0
first s slots name same = record {
  within = omega arith;
  is = λ d. here s slots name same;
  named = λ d. same;
  changed = λ y on. here y slots name on;
  others = λ y m on away. there y slots m (λ e. away (sym e ∙ on)) ∙ sym (there s slots m (λ e. away (sym e ∙ same)));
}

pub looked : (slots : List Slot) (name : List ℕ) → Looked slots name (slot_index slots name)
looked [] name = refl
looked (s ∷ slots) name = elim (name_cases s.name name) [
  | inl same ↦ let b : same_name s.name name ≡ true = same_yes s.name name same in
      subst (Looked (s ∷ slots) name) (sym (ap (λ (b : Bool). if b then Some 0 else behind (slot_index slots name)) b)) (first s slots name same)
  | inr other ↦ let b : same_name s.name name ≡ false = same_no s.name name other in
      subst (Looked (s ∷ slots) name) (sym (ap (λ (b : Bool). if b then Some 0 else behind (slot_index slots name)) b))
      (more s slots name other (slot_index slots name) (looked slots name))
]

pub pushed : (slots : List Slot) (y : Slot) (name : List ℕ) → found slots name ≡ None → y.name ≡ name → found (slots ++ y ∷ []) name ≡ Some y
pushed [] y name none on = here y [] name on
pushed (s ∷ slots) y name none on = elim (name_cases s.name name) [
  | inl same ↦ let e : Some s ≡ None = sym (here s slots name same) ∙ none in absurd (some_none e)
  | inr other ↦ there s (slots ++ y ∷ []) name other ∙ pushed slots y name (sym (there s slots name other) ∙ none) on
]
  where
    some_none : {s : Slot} → Some s ≡ None → ⊥
    some_none e = search rules

pub pushed_others : (slots : List Slot) (y : Slot) (name m : List ℕ) → y.name ≡ name → m ≢ name → found (slots ++ y ∷ []) m ≡ found slots m
pushed_others [] y name m on away = there y [] m (λ e. away (sym e ∙ on))
pushed_others (s ∷ slots) y name m on away = ap (λ (o : Option Slot). if same_name s.name m then Some s else o) (pushed_others slots y name m on away)

-- ---- taking and putting back

-- what was found under the name's bytes
pub is_at : (slots now : List Slot) (name bytes : List ℕ) (n : ℕ) → now ≡ slots → bytes ≡ name → Some n ≡ slot_index now bytes → IsAt slots name n
is_at slots now name bytes n same on e = subst (Looked slots name) (sym (e ∙ ap (λ (l : List Slot). slot_index l bytes) same ∙ ap (slot_index slots) on))
    (looked slots name)

pub is_absent : (slots now : List Slot) (name bytes : List ℕ) → now ≡ slots → bytes ≡ name → None ≡ slot_index now bytes → found slots name ≡ None
is_absent slots now name bytes same on e = subst (Looked slots name) (sym (e ∙ ap (λ (l : List Slot). slot_index l bytes) same ∙ ap (slot_index slots) on))
    (looked slots name)

pub some_slot : Slot
some_slot = record { name = []; disk = None; count = 0 }

some_index : (slots : List Slot) (name : List ℕ) (o : Option ℕ) → Looked slots name o → is_some o ≡ is_some (found slots name)
some_index slots name None none = sym (ap is_some none)
some_index slots name (Some n) at = sym (ap is_some (at.is some_slot))

-- whether there is a slot for the name's bytes
pub is_there : (slots now : List Slot) (name bytes : List ℕ) (o : Option ℕ) → now ≡ slots → bytes ≡ name → o ≡ slot_index now bytes
    → is_some o ≡ is_some (found slots name)
is_there slots now name bytes o same on e = ap is_some (e ∙ ap (λ (l : List Slot). slot_index l bytes) same ∙ ap (slot_index slots) on)
    ∙ some_index slots name (slot_index slots name) (looked slots name)

-- a name without a slot has a disk that is untouched
pub untouched : (o : Option Slot) → is_some o ≡ false → IsUntouched disk_view (disk_in o)
untouched None none = fresh_untouched
untouched (Some s) none = absurd (false≢true (sym none))

abbrev pub Same : List Slot → List Slot → List ℕ → Type 0
Same old new m = (disk_in (found new m) ≡ disk_in (found old m)) × (out_in (found new m) ≡ out_in (found old m))
    × (taken_in (found new m) ≡ taken_in (found old m))

same : (old new : List Slot) (m : List ℕ) → found new m ≡ found old m → Same old new m
same old new m e = (ap disk_in e, ap out_in e, ap taken_in e)

module _ (slots new : List Slot) (name : List ℕ) (n : ℕ) (at : IsAt slots name n) where
  pub lies : out_in (found slots name) ≡ false → (d : Slot) → is_empty (get_or slots n d).disk ≡ false
  lies is d = sym (ap out_in (at.is d)) ∙ is

  pub count_at : (d : Slot) → taken_in (found slots name) ≡ (get_or slots n d).count
  count_at d = ap taken_in (at.is d)

  pub take_given : (d : Slot) (disk : DiskState) → Taken slots n d disk new
      → (disk ≡ disk_in (found slots name)) × (out_in (found new name) ≡ true) × (taken_in (found new name) ≡ disk.faults)
  take_given d disk t =
      let now : found new name ≡ Some (record { name = (get_or slots n d).name; disk = None; count = disk.faults }) =
      ap (λ (l : List Slot). found l name) t.set_out ∙ at.changed _ (at.named d) in
      (t.is ∙ sym (ap disk_in (at.is d)), ap out_in now, ap taken_in now)

  pub take_others : (d : Slot) (disk : DiskState) → Taken slots n d disk new → (m : List ℕ) → m ≢ name → Same slots new m
  take_others d disk t m away = same slots new m (ap (λ (l : List Slot). found l m) t.set_out ∙ at.others _ m (at.named d) away)

  pub put_there : (d : Slot) (disk : DiskState) → Put slots n d disk new → (disk_in (found new name) ≡ disk) × (out_in (found new name) ≡ false)
      × (taken_in (found new name) ≡ taken_in (found slots name))
  put_there d disk p =
      let now : found new name ≡ Some (record { name = (get_or slots n d).name; disk = Some disk; count = (get_or slots n d).count }) =
      ap (λ (l : List Slot). found l name) p.set_in ∙ at.changed _ (at.named d) in
      (ap disk_in now, ap out_in now, ap taken_in now ∙ sym (count_at d))

  pub put_others : (d : Slot) (disk : DiskState) → Put slots n d disk new → (m : List ℕ) → m ≢ name → Same slots new m
  put_others d disk p m away = same slots new m (ap (λ (l : List Slot). found l m) p.set_in ∙ at.others _ m (at.named d) away)

module _ (slots new : List Slot) (name : List ℕ) (s : Slot) (none : found slots name ≡ None) (on : s.name ≡ name) (nothing : s.disk ≡ None)
    (zero_count : s.count ≡ 0) (new_is : new ≡ slots ++ s ∷ []) where
  pub made_given : (disk : DiskState) → disk ≡ fresh → (disk ≡ disk_in (found slots name)) × (out_in (found new name) ≡ true)
      × (taken_in (found new name) ≡ disk.faults)
  made_given disk is =
      let now : found new name ≡ Some s = ap (λ (l : List Slot). found l name) new_is ∙ pushed slots s name none on in
      (is ∙ sym (ap disk_in none), ap out_in now ∙ ap is_empty nothing, ap taken_in now ∙ zero_count ∙ sym (ap (λ (d : DiskState). d.faults) is))

  pub made_others : (m : List ℕ) → m ≢ name → Same slots new m
  made_others m away = same slots new m (ap (λ (l : List Slot). found l m) new_is ∙ pushed_others slots s name m on away)

-- ---- the bay, seen as its state

pub same_slot : (old new b : BayState) (m : List ℕ) → b ≡ old → Same b.slots new.slots m
    → SameSlot bay_view m old new
same_slot old new b m e s = subst (λ (k : BayState). SameSlot bay_view m k new) e
    (record { same_disk = ap (λ (d : DiskState). Some d) s.0; same_out = s.1; same_taken = s.2 })

pub still_in : (old b : BayState) (slots : List Slot) (name : List ℕ) → b ≡ old → slots ≡ b.slots → out_at old name ≡ false
    → (Some (disk_in (found slots name)) ≡ Some (disk_at old name)) × (out_in (found slots name) ≡ false)
still_in old b slots name e s out =
    let same : slots ≡ old.slots = s ∙ ap (λ (k : BayState). k.slots) e in
    (ap (λ (l : List Slot). Some (disk_in (found l name))) same, ap (λ (l : List Slot). out_in (found l name)) same ∙ out)
