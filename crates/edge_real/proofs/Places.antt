-- The slots of a bay over a folder.
use Rattle.std.proofs.Common.{◌≡◌, ◌≢◌, ◌⊎◌, inl, inr, ⊎_elim, refl, sym, ap, ◌∙◌, subst, ℕ, ◌<◌}
use Rattle.std.proofs.Common.{if◌then◌else◌, Bool, true, false, List, [], ◌∷◌, ◌++◌, length, get_or, Option, Some, None, IfSome, arith, rules}
use Rattle.std.proofs.Math.ListN.{set}
use Rattle.std.proofs.lemmas.Bool.{cases_Bool}
use Rattle.std.proofs.lemmas.List.Elements.{All-set, All-get_or}
use Rattle.std.specs.Cmp.Lexicographic.{same_text, other_text}
use Rattle.edge_real.specs.Files.{FileState}
use Rattle.edge_real.specs.Folders.{same_name, slot_index, found, behind, out_in, taken_in, FolderState}
use Rattle.edge_real.specs.Folders.{IsNamed, AreNamed, Same, Takes, Leaves, Returns}
use Rattle.edge_real.specs.declared.slots.Slot.{Slot}

same_yes : (a b : List ℕ) → a ≡ b → same_name a b ≡ true
same_yes a b e = ⊎_elim (λ yes. yes) (λ no. absurd (other_text a b (sym no) e)) (cases_Bool (same_name a b))

same_no : (a b : List ℕ) → a ≢ b → same_name a b ≡ false
same_no a b other = ⊎_elim (λ yes. absurd (other (same_text a b (sym yes)))) (λ no. no) (cases_Bool (same_name a b))

name_cases : (a b : List ℕ) → (a ≡ b) ⊎ (a ≢ b)
name_cases a b = ⊎_elim (λ yes. inl (same_text a b (sym yes))) (λ no. inr (other_text a b (sym no))) (cases_Bool (same_name a b))

here : {F : Type 0} (s : Slot F) (slots : List (Slot F)) (name : List ℕ) → s.name ≡ name → found (s ∷ slots) name ≡ Some s
here s slots name is = let b : same_name s.name name ≡ true = same_yes s.name name is in ap (λ (b : Bool). if b then Some s else found slots name) b

there : {F : Type 0} (s : Slot F) (slots : List (Slot F)) (name : List ℕ) → s.name ≢ name → found (s ∷ slots) name ≡ found slots name
there s slots name other = let b : same_name s.name name ≡ false = same_no s.name name other in ap (λ (b : Bool). if b then Some s else found slots name) b

-- what stands at the number that was found, and what a change there does
pub record IsAt {F : Type 0} (slots : List (Slot F)) (name : List ℕ) (n : ℕ) : Type 0 where
  pub within : n < length slots
  pub is : (d : Slot F) → found slots name ≡ Some (get_or slots n d)
  pub named : (d : Slot F) → (get_or slots n d).name ≡ name
  pub changed : (y : Slot F) → y.name ≡ name → found (set slots n y) name ≡ Some y
  pub others : (y : Slot F) (m : List ℕ) → y.name ≡ name → m ≢ name → found (set slots n y) m ≡ found slots m

abbrev pub Looked : {F : Type 0} → List (Slot F) → List ℕ → Option ℕ → Type 0
Looked slots name None = found slots name ≡ None
Looked slots name (Some n) = IsAt slots name n

more : {F : Type 0} (s : Slot F) (slots : List (Slot F)) (name : List ℕ) → s.name ≢ name → (o : Option ℕ) → Looked slots name o
    → Looked (s ∷ slots) name (behind o)
more s slots name other None l = there s slots name other ∙ l
more {F = F} s slots name other (Some n) l = record {
  within = omega (arith, l.within);
  is = λ d. there s slots name other ∙ l.is d;
  named = λ d. l.named d;
  changed = λ y on. there s (set slots n y) name other ∙ l.changed y on;
  others = λ y m on away. skipped m (set slots n y) (l.others y m on away);
}
  where
    skipped : (m : List ℕ) (new : List (Slot F)) → found new m ≡ found slots m → found (s ∷ new) m ≡ found (s ∷ slots) m
    skipped m new same = ap (λ (o : Option (Slot F)). if same_name s.name m then Some s else o) same

first : {F : Type 0} (s : Slot F) (slots : List (Slot F)) (name : List ℕ) → s.name ≡ name → IsAt (s ∷ slots) name 0
first s slots name same = record {
  within = omega arith;
  is = λ d. here s slots name same;
  named = λ d. same;
  changed = λ y on. here y slots name on;
  others = λ y m on away. there y slots m (λ e. away (sym e ∙ on)) ∙ sym (there s slots m (λ e. away (sym e ∙ same)));
}

pub looked : {F : Type 0} (slots : List (Slot F)) (name : List ℕ) → Looked slots name (slot_index slots name)
looked [] name = refl
looked (s ∷ slots) name = elim (name_cases s.name name) [
  | inl same ↦ let b : same_name s.name name ≡ true = same_yes s.name name same in
      subst (Looked (s ∷ slots) name) (sym (ap (λ (b : Bool). if b then Some 0 else behind (slot_index slots name)) b)) (first s slots name same)
  | inr other ↦ let b : same_name s.name name ≡ false = same_no s.name name other in
      subst (Looked (s ∷ slots) name) (sym (ap (λ (b : Bool). if b then Some 0 else behind (slot_index slots name)) b))
      (more s slots name other (slot_index slots name) (looked slots name))
]

-- ---- what was found under the name's bytes

pub is_at : {F : Type 0} (slots now : List (Slot F)) (name bytes : List ℕ) (n : ℕ) → now ≡ slots → bytes ≡ name → Some n ≡ slot_index now bytes → IsAt slots name n
is_at {F = F} slots now name bytes n same on e = subst (Looked slots name)
    (sym (e ∙ ap (λ (l : List (Slot F)). slot_index l bytes) same ∙ ap (slot_index slots) on)) (looked slots name)

pub is_absent : {F : Type 0} (slots now : List (Slot F)) (name bytes : List ℕ) → now ≡ slots → bytes ≡ name → None ≡ slot_index now bytes → found slots name ≡ None
is_absent {F = F} slots now name bytes same on e = subst (Looked slots name)
    (sym (e ∙ ap (λ (l : List (Slot F)). slot_index l bytes) same ∙ ap (slot_index slots) on)) (looked slots name)

pub some_slot : {F : Type 0} → Slot F
some_slot = record { name = []; is_out = false; disk = None; count = 0 }

same : {F : Type 0} (old new : List (Slot F)) (m : List ℕ) → found new m ≡ found old m → Same old new m
same old new m e = (ap out_in e, ap taken_in e)

-- two changes, one after the other; `inside` is what the first one left, as the struct's fields have it
pub joined : {F : Type 0} (old new : List (Slot F)) (inside between : FolderState F) (m : List ℕ) → inside ≡ between
    → Same old between.slots m → Same inside.slots new m → Same old new m
joined {F = F} old new inside between m is first second =
    let second : Same between.slots new m = subst (λ (b : FolderState F). Same b.slots new m) is second in
    (second.0 ∙ first.0, second.1 ∙ first.1)

-- ---- a slot that is new

pushed : {F : Type 0} (slots : List (Slot F)) (y : Slot F) (name : List ℕ) → found slots name ≡ None → y.name ≡ name → found (slots ++ y ∷ []) name ≡ Some y
pushed [] y name none on = here y [] name on
pushed (s ∷ slots) y name none on = elim (name_cases s.name name) [
  | inl same ↦ let e : Some s ≡ None = sym (here s slots name same) ∙ none in absurd (some_none e)
  | inr other ↦ there s (slots ++ y ∷ []) name other ∙ pushed slots y name (sym (there s slots name other) ∙ none) on
]
  where
    some_none : {F : Type 0} {s : Slot F} → Some s ≡ None → ⊥
    some_none e = search rules

pub pushed_here : {F : Type 0} (slots new : List (Slot F)) (y : Slot F) (name : List ℕ) → found slots name ≡ None → y.name ≡ name
    → new ≡ slots ++ y ∷ [] → (out_in (found new name) ≡ y.is_out) × (taken_in (found new name) ≡ y.count)
pushed_here {F = F} slots new y name none on is =
    let now : found new name ≡ Some y = ap (λ (l : List (Slot F)). found l name) is ∙ pushed slots y name none on in
    (ap out_in now, ap taken_in now)

more_others : {F : Type 0} (slots : List (Slot F)) (y : Slot F) (name m : List ℕ) → y.name ≡ name → m ≢ name → found (slots ++ y ∷ []) m ≡ found slots m
more_others [] y name m on away = there y [] m (λ e. away (sym e ∙ on))
more_others {F = F} (s ∷ slots) y name m on away = ap (λ (o : Option (Slot F)). if same_name s.name m then Some s else o) (more_others slots y name m on away)

pub pushed_others : {F : Type 0} (slots new : List (Slot F)) (y : Slot F) (name m : List ℕ) → y.name ≡ name → m ≢ name
    → new ≡ slots ++ y ∷ [] → Same slots new m
pushed_others {F = F} slots new y name m on away is =
    same slots new m (ap (λ (l : List (Slot F)). found l m) is ∙ more_others slots y name m on away)

-- ---- a slot that changes

module _ {F : Type 0} (slots new : List (Slot F)) (name : List ℕ) (n : ℕ) (at : IsAt slots name n) (d : Slot F) where
  -- a slot of the same name at its place
  changed_others : (y : Slot F) → y.name ≡ (get_or slots n d).name → new ≡ set slots n y → (m : List ℕ) → m ≢ name → Same slots new m
  changed_others y on is m away = same slots new m (ap (λ (l : List (Slot F)). found l m) is ∙ at.others y m (on ∙ at.named d) away)

  changed_here : (y : Slot F) → y.name ≡ (get_or slots n d).name → new ≡ set slots n y → found new name ≡ Some y
  changed_here y on is = ap (λ (l : List (Slot F)). found l name) is ∙ at.changed y (on ∙ at.named d)

  pub take_same : (disk : Option FileState) → Takes slots n d disk new → (m : List ℕ) → Same slots new m
  take_same disk t m = elim (name_cases m name) [
    | inl is ↦ let now : found new name ≡ Some (record (get_or slots n d) { disk = None }) = changed_here _ refl t.left in
        let kept : Same slots new name = (ap out_in now ∙ sym (ap out_in (at.is d)), ap taken_in now ∙ sym (ap taken_in (at.is d))) in
        subst (Same slots new) (sym is) kept
    | inr away ↦ changed_others _ refl t.left m away
  ]

  pub take_named : (disk : Option FileState) → Takes slots n d disk new → AreNamed slots → IfSome disk (λ x. x.name ≡ name)
  take_named disk t named = subst (λ (o : Option FileState). IfSome o (λ x. x.name ≡ name)) (sym t.is)
      (subst (λ (k : List ℕ). IfSome (get_or slots n d).disk (λ x. x.name ≡ k)) (at.named d) (All-get_or IsNamed slots n d at.within named))

  pub take_kept_named : (disk : Option FileState) → Takes slots n d disk new → AreNamed slots → AreNamed new
  take_kept_named disk t named = subst AreNamed (sym t.left) (All-set IsNamed slots n (record (get_or slots n d) { disk = None }) (search rules) named)

  pub leave_here : (count : ℕ) → Leaves slots n d count new → (out_in (found new name) ≡ true) × (taken_in (found new name) ≡ count)
  leave_here count l =
      let now : found new name ≡ Some (record (get_or slots n d) { is_out = true; count = count }) = changed_here _ refl l.left in
      (ap out_in now, ap taken_in now)

  pub leave_others : (count : ℕ) → Leaves slots n d count new → (m : List ℕ) → m ≢ name → Same slots new m
  leave_others count l m away = changed_others _ refl l.left m away

  pub leave_named : (count : ℕ) → Leaves slots n d count new → AreNamed slots → AreNamed new
  leave_named count l named = subst AreNamed (sym l.left)
      (All-set IsNamed slots n (record (get_or slots n d) { is_out = true; count = count }) (All-get_or IsNamed slots n d at.within named) named)

  pub return_here : Returns slots n d new → out_in (found new name) ≡ false
  return_here r =
      let now : found new name ≡ Some (record (get_or slots n d) { is_out = false; disk = r.kept }) = changed_here _ refl r.left in
      ap out_in now

  pub return_taken : Returns slots n d new → taken_in (found new name) ≡ taken_in (found slots name)
  return_taken r =
      let now : found new name ≡ Some (record (get_or slots n d) { is_out = false; disk = r.kept }) = changed_here _ refl r.left in
      ap taken_in now ∙ sym (ap taken_in (at.is d))

  pub return_others : Returns slots n d new → (m : List ℕ) → m ≢ name → Same slots new m
  return_others r m away = changed_others _ refl r.left m away

  pub return_named : Returns slots n d new → AreNamed slots → AreNamed new
  return_named r named = subst AreNamed (sym r.left) (All-set IsNamed slots n (record (get_or slots n d) { is_out = false; disk = r.kept }) r.named named)

  pub count_at : (get_or slots n d).count ≡ taken_in (found slots name)
  count_at = sym (ap taken_in (at.is d))
