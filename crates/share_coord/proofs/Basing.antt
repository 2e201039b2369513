-- Entries as a checkpoint leaves them, with a key more or less.
use Rattle.std.proofs.Common.{◌≡◌, refl, sym, ap, ◌∙◌, [], ◌∷◌, Option, Some, None, Bool, true, false, cond, if◌then◌else◌}
use Rattle.std.specs.declared.cmp.Ordering.{Ordering}
use Rattle.std.specs.declared.cmp.Ordering.TheVariants.{Less, Equal, Greater}
use Rattle.std.specs.Ordering.{match_ordering}
use Rattle.std.specs.BTreeMap.{is_at}
use Rattle.share_model.specs.Keys.{KeyParts, key_cmp}
use Rattle.share_coord.specs.Planning.{IsFirst, fresh_kept, left_by}
use Rattle.share_coord.specs.Stored.{Entries, based, kept_at, kept_left, renewed, renewed_kept, with_kept, without_key}
use Rattle.share_coord.specs.declared.plan.Fresh.{Fresh}
use Rattle.share_coord.specs.Parts.{KeptState}
use Rattle.share_coord.proofs.Keys.{removed_again}

renewed_cond : (b : Bool) (x y : Entries) → renewed (cond b x y) ≡ cond b (renewed x) (renewed y)
renewed_cond true x y = refl
renewed_cond false x y = refl

pub renewed_without : (es : Entries) (key : KeyParts) → renewed (without_key es key) ≡ without_key (renewed es) key
renewed_without [] key = refl
renewed_without (e ∷ es) key = renewed_cond (is_at (key_cmp key) e.0) es (e ∷ without_key es key)
    ∙ ap (λ (l : Entries). cond (is_at (key_cmp key) e.0) (renewed es) ((e.0, renewed_kept e.1) ∷ l)) (renewed_without es key)

renewed_order : (r : Ordering) (a b c : Entries) → renewed (match_ordering r a b c) ≡ match_ordering r (renewed a) (renewed b) (renewed c)
renewed_order Less a b c = refl
renewed_order Equal a b c = refl
renewed_order Greater a b c = refl

pub renewed_with : (es : Entries) (key : KeyParts) (v : KeptState) → renewed (with_kept es key v) ≡ with_kept (renewed es) key (renewed_kept v)
renewed_with [] key v = refl
renewed_with (e ∷ es) key v = renewed_order (key_cmp key e.0) ((key, v) ∷ e ∷ es) ((e.0, v) ∷ es) (e ∷ with_kept es key v)
    ∙ ap (λ (l : Entries). match_ordering (key_cmp key e.0) ((key, renewed_kept v) ∷ renewed (e ∷ es)) ((e.0, renewed_kept v) ∷ renewed es) ((e.0, renewed_kept e.1) ∷ l))
    (renewed_with es key v)

-- a key that is there is changed
pub left_is : (old : Entries) (key : KeyParts) (kept : KeptState) (fresh : Option Fresh) (c : Bool)
    → with_kept (based c old) key (if c then fresh_kept kept fresh else kept) ≡ left_by old key kept fresh c
left_is old key kept fresh true = refl
left_is old key kept fresh false = refl

-- a key was added, and is taken away again
pub left_again : (old : Entries) (key : KeyParts) (kept : KeptState) → kept_at old key ≡ None → (added : Entries) → added ≡ with_kept old key kept
    → kept_left (Some key) added ≡ old
left_again old key kept none added is = ap (λ (l : Entries). without_key l key) is ∙ removed_again key kept old none

pub taken_again : (c : Bool) (old : Entries) (key : KeyParts) (kept : KeptState) → kept_at old key ≡ None → (added : Entries) → added ≡ with_kept old key kept
    → without_key (based c added) key ≡ based c old
taken_again false old key kept none added is = left_again old key kept none added is
taken_again true old key kept none added is = sym (renewed_without added key) ∙ ap renewed (left_again old key kept none added is)

first_kept : (kept : KeptState) (fresh : Option Fresh) → IsFirst kept fresh → renewed_kept kept ≡ fresh_kept kept fresh
first_kept kept None h = λ i. record { view = kept.view; snapshot = sym h.0 i; updates = sym h.1 i; raised = sym h.2 i; tells = kept.tells }
first_kept kept (Some f) h = λ i. record { view = kept.view; snapshot = sym h.3.0 i; updates = sym h.3.1 i; raised = sym h.2 i; tells = kept.tells }

-- a key was added that wasn't there
pub added_is : (c : Bool) (old : Entries) (key : KeyParts) (kept : KeptState) (fresh : Option Fresh) → IsFirst kept fresh → (added : Entries) → added ≡ with_kept old key kept
    → based c added ≡ left_by old key kept fresh c
added_is false old key kept fresh first added is = is
added_is true old key kept fresh first added is =
    ap renewed is ∙ (renewed_with old key kept ∙ ap (with_kept (renewed old) key) (first_kept kept fresh first))
