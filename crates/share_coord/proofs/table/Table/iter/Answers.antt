use Rattle.std.proofs.Common.{◌<◌, ◌^◌, ◌∙◌, ℕ, List, sym, ap, subst, length}
use Rattle.std.specs.List.Sorted.{IsStrictlySortedBy}
use Rattle.std.specs.Map.{keys_of}
use Rattle.share_model.specs.Keys.{KeyParts, key_cmp}
use Rattle.share_coord.specs.Stored.{Entries}
use Rattle.share_coord.specs.Tables.{entries_in}
use Rattle.share_coord.specs.Tables.{TableParts}
use Rattle.share_coord.proofs.Tables.{keys_shown, length_shown}
use Rattle.share_coord.proofs.table.Table.iter.Goals as goal

pub returns-clause-rest : goal.returns-clause-rest
returns-clause-rest c = ap entries_in c.iter.ensures.rest ∙ (ap (λ (t : TableParts). t.entries) c.self.view_is)

pub returns-clause-fits : goal.returns-clause-fits
returns-clause-fits c = subst (λ (l : Entries). length l < 2 ^ 63) (ap (λ (t : TableParts). t.entries) c.self.view_is)
    (subst (λ (n : ℕ). n < 2 ^ 63) (sym (length_shown c.self.inside.map.entries)) c.iter.ensures.fits)

pub returns-clause-ordered : goal.returns-clause-ordered
returns-clause-ordered c = subst (λ (l : Entries). IsStrictlySortedBy key_cmp (keys_of l)) (ap (λ (t : TableParts). t.entries) c.self.view_is)
    (subst (λ (l : List KeyParts). IsStrictlySortedBy key_cmp l) (sym (keys_shown c.self.inside.map.entries)) c.iter.ensures.ordered)
