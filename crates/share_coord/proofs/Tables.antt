-- A table in memory, and what is kept of its keys.
use Rattle.std.proofs.Common.{◌≡◌, refl, sym, ap, ◌∙◌, List, [], ◌∷◌, length, suc, map, Option, Some, None, is_some, Bool, true, false, cond, Bor}
use Rattle.std.specs.declared.cmp.Ordering.{Ordering}
use Rattle.std.specs.declared.cmp.Ordering.TheVariants.{Less, Equal, Greater}
use Rattle.std.specs.Ordering.{match_ordering}
use Rattle.std.specs.Option.{IsSome, option_map}
use Rattle.share_coord.specs.Parts.{KeptState}
use Rattle.share_coord.proofs.Keys.{some_none}
use Rattle.std.specs.BTreeMap.{insert_entry, is_at}
use Rattle.std.specs.Map.{keys_of, lookup, remove_entry}
use Rattle.std.specs.Map.Iter.{TakesFirst, deref_pair}
use Rattle.std.proofs.lemmas.Map.Made.{lookup-map_values}
use Rattle.share_model.specs.Keys.{KeyParts, key_cmp}
use Rattle.share_coord.specs.Stored.{Entries, kept_at, renewed, with_kept, without_key}
use Rattle.share_coord.specs.Tables.{entries_in, shown, shown_pair}
use Rattle.share_coord.specs.declared.view.Kept.{Kept}

abbrev Table : Type 0
Table = List (KeyParts × Kept)

abbrev kept_in : Table → KeyParts → Option Kept
kept_in table key = lookup (is_at (key_cmp key)) table

pub found_in : (table : Table) (key : KeyParts) → option_map shown (kept_in table key) ≡ kept_at (entries_in table) key
found_in table key = sym (lookup-map_values shown (is_at (key_cmp key)) table)

-- the same of a table that is seen so
pub found_at : (table : Table) (entries : Entries) (key : KeyParts) → entries_in table ≡ entries → (o : Option Kept) → o ≡ kept_in table key
    → option_map shown o ≡ kept_at entries key
found_at table entries key same o is = ap (option_map shown) is ∙ (found_in table key ∙ ap (λ (l : Entries). kept_at l key) same)

in_order : (r : Ordering) (a b c : Table) → entries_in (match_ordering r a b c) ≡ match_ordering r (entries_in a) (entries_in b) (entries_in c)
in_order Less a b c = refl
in_order Equal a b c = refl
in_order Greater a b c = refl

pub with_shown : (table : Table) (key : KeyParts) (kept : Kept) → entries_in (insert_entry key_cmp table key kept) ≡ with_kept (entries_in table) key (shown kept)
with_shown [] key kept = refl
with_shown (e ∷ es) key kept = in_order (key_cmp key e.0) ((key, kept) ∷ e ∷ es) ((e.0, kept) ∷ es) (e ∷ insert_entry key_cmp es key kept)
    ∙ ap (λ (l : Entries). match_ordering (key_cmp key e.0) ((key, shown kept) ∷ entries_in (e ∷ es)) ((e.0, shown kept) ∷ entries_in es) ((e.0, shown e.1) ∷ l))
    (with_shown es key kept)

in_cond : (b : Bool) (x y : Table) → entries_in (cond b x y) ≡ cond b (entries_in x) (entries_in y)
in_cond true x y = refl
in_cond false x y = refl

pub without_shown : (table : Table) (key : KeyParts) → entries_in (remove_entry (is_at (key_cmp key)) table) ≡ without_key (entries_in table) key
without_shown [] key = refl
without_shown (e ∷ es) key = in_cond (is_at (key_cmp key) e.0) es (e ∷ remove_entry (is_at (key_cmp key)) es)
    ∙ ap (λ (l : Entries). cond (is_at (key_cmp key) e.0) (entries_in es) ((e.0, shown e.1) ∷ l)) (without_shown es key)

-- a checkpoint was made
abbrev pub renewed_value : Kept → Kept
renewed_value kept = record { view = kept.view; snapshot = 0; updates = 0; raised = false; tells = kept.tells }

abbrev pub renewed_table : Table → Table
renewed_table table = map (λ e. (e.0, renewed_value e.1)) table

pub renewed_shown : (table : Table) → entries_in (renewed_table table) ≡ renewed (entries_in table)
renewed_shown [] = refl
renewed_shown (e ∷ es) = ap (λ (l : Entries). (e.0, record { view = e.1.view.state; snapshot = 0; updates = 0; raised = false; tells = e.1.tells }) ∷ l) (renewed_shown es)

pub keys_shown : (table : Table) → keys_of (entries_in table) ≡ keys_of table
keys_shown [] = refl
keys_shown (e ∷ es) = ap (λ (l : List KeyParts). e.0 ∷ l) (keys_shown es)

pub length_shown : (table : Table) → length (entries_in table) ≡ length table
length_shown [] = refl
length_shown (e ∷ es) = ap suc (length_shown es)

-- one key more was handed over
pub taken_shown : (s t : Table) (r : Option (Bor KeyParts × Bor Kept)) → TakesFirst deref_pair s r t → TakesFirst shown_pair (entries_in s) r (entries_in t)
taken_shown s t None h = (ap entries_in h.0, ap entries_in h.1)
taken_shown s t (Some x) h = ap entries_in h

same_some : (o : Option Kept) → is_some o ≡ is_some (option_map shown o)
same_some None = refl
same_some (Some kept) = refl

pub is_found : (table : Table) (entries : Entries) (key : KeyParts) → entries_in table ≡ entries → is_some (kept_in table key) ≡ is_some (kept_at entries key)
is_found table entries key same = same_some (kept_in table key) ∙ ap is_some (found_at table entries key same (kept_in table key) refl)

pub some_shown : (o : Option Kept) (k : KeptState) → option_map shown o ≡ Some k → IsSome o
some_shown None k is = absurd (some_none k (sym is))
some_shown (Some kept) k is = refl
