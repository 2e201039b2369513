use Rattle.std.proofs.Common.{◌∙◌, sym, ap, subst, rules}
use Rattle.std.proofs.lemmas.Map.Made.{map_same_pairs}
use Rattle.share_coord.specs.Stored.{renewed}
use Rattle.share_coord.specs.Tables.{AreRoomy, TableParts, entries_in}
use Rattle.share_coord.proofs.Rooms.{renewed_roomy}
use Rattle.share_coord.proofs.Tables.{renewed_shown, renewed_value}
use Rattle.share_coord.proofs.table.Table.renew.Goals as goal

pub returns-clause-entries : goal.returns-clause-entries
returns-clause-entries c = ap entries_in (map_same_pairs _ renewed_value _ (λ k v b w f' t. search rules) _ _ c.retain.ensures.filtered)
    ∙ (renewed_shown c.self.inside.map.entries ∙ ap renewed (ap (λ (t : TableParts). t.entries) c.self.view_is))

pub invariant_of-self : goal.invariant_of-self
invariant_of-self c = subst (AreRoomy c.self.inside.room) (sym (map_same_pairs _ renewed_value _ (λ k v b w f' t. search rules) _ _ c.retain.ensures.filtered))
    (renewed_roomy c.self.inside.room c.self.inside.map.entries c.self.invariant)
