-- The keys whose snapshots are still to be handed over.
use Rattle.std.proofs.Common.{◌≡◌, ◌-◌, sym, ap, ◌∙◌, subst, arith, ◌∷◌, length, Option, Some, None, Bool, true, false, cond, Bor}
use Rattle.std.specs.Map.Iter.{TakesFirst}
use Rattle.std.specs.Ordering.{is_eq}
use Rattle.share_model.specs.Keys.{KeyParts, key_cmp}
use Rattle.share_coord.specs.Stored.{Entries, kept_left, without_key}
use Rattle.share_coord.specs.Parts.{KeptState}
use Rattle.share_coord.specs.Tables.{shown_pair}
use Rattle.share_coord.specs.declared.view.Kept.{Kept}

-- the first key is left out
pub left_here : (without : Option KeyParts) (other : KeyParts) (all : Entries) (e : KeyParts × KeptState) (es : Entries) → without ≡ Some other → all ≡ e ∷ es
    → is_eq (key_cmp other e.0) ≡ true → kept_left without all ≡ es
left_here without other all e es w is test =
    ap (λ (o : Option KeyParts). kept_left o all) w ∙ (ap (λ (l : Entries). without_key l other) is ∙ ap (λ (b : Bool). cond b es (e ∷ without_key es other)) test)

pub left_on : (without : Option KeyParts) (other : KeyParts) (all : Entries) (e : KeyParts × KeptState) (es : Entries) → without ≡ Some other → all ≡ e ∷ es
    → is_eq (key_cmp other e.0) ≡ false → kept_left without all ≡ e ∷ kept_left without es
left_on without other all e es w is test =
    ap (λ (o : Option KeyParts). kept_left o all) w ∙ (ap (λ (l : Entries). without_key l other) is
    ∙ (ap (λ (b : Bool). cond b es (e ∷ without_key es other)) test ∙ ap (λ (o : Option KeyParts). e ∷ kept_left o es) (sym w)))

-- one key less
pub one_less : (s t : Entries) (r : Option (Bor KeyParts × Bor Kept)) → TakesFirst shown_pair s r t → length s - 1 ≡ length t
one_less s t None h = omega (arith, ap (λ (l : Entries). length l) h.0, ap (λ (l : Entries). length l) h.1)
one_less s t (Some x) h = omega (arith, ap (λ (l : Entries). length l) h)

pub takes_as : (s u t : Entries) (r : Option (Bor KeyParts × Bor Kept)) → s ≡ u → TakesFirst shown_pair s r t → TakesFirst shown_pair u r t
takes_as s u t r is h = subst (λ (l : Entries). TakesFirst shown_pair l r t) is h
