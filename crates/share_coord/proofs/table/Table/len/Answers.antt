use Rattle.std.proofs.Common.{◌∙◌, sym, ap, subst, List, length}
use Rattle.std.specs.List.Sorted.{IsStrictlySortedBy}
use Rattle.std.specs.Map.{keys_of}
use Rattle.share_model.specs.Keys.{KeyParts, key_cmp}
use Rattle.share_coord.specs.Stored.{Entries}
use Rattle.share_coord.specs.Tables.{TableParts}
use Rattle.share_coord.proofs.Tables.{keys_shown, length_shown}
use Rattle.share_coord.proofs.table.Table.len.Goals as goal

pub returns-clause-keys : goal.returns-clause-keys
returns-clause-keys c = c.len.ensures.len ∙ (sym (length_shown c.self.inside.map.entries) ∙ ap (λ (l : Entries). length l) (ap (λ (t : TableParts). t.entries) c.self.view_is))

pub returns-clause-sorted : goal.returns-clause-sorted
returns-clause-sorted c = subst (λ (l : Entries). IsStrictlySortedBy key_cmp (keys_of l)) (ap (λ (t : TableParts). t.entries) c.self.view_is)
    (subst (λ (l : List KeyParts). IsStrictlySortedBy key_cmp l) (sym (keys_shown c.self.inside.map.entries)) c.len.ensures.ordered)
