use Rattle.std.proofs.Common.{◌∙◌, ap, rules}
use Rattle.share_coord.specs.Tables.{TableParts, entries_in}
use Rattle.share_coord.proofs.Rooms.{unchanged, visited_all, visited_roomy}
use Rattle.share_coord.proofs.table.Table.reserve.Goals as goal

pub invariant_of-self : goal.invariant_of-self
invariant_of-self c = visited_roomy _ (λ f. Unit {0}) (λ k. k) (λ f k v b w g i t. (search rules, search rules, search rules, tt)) _ c.self.inside.room _ _ tt
    c.retain.ensures.filtered c.self.invariant

pub returns-then-not-are_roomy-clause-entries : goal.returns-then-not-are_roomy-clause-entries
returns-then-not-are_roomy-clause-entries c =
    visited_all _ (λ f. Unit {0}) (λ k. k) (λ f k v b w g i t. (search rules, search rules, search rules, tt)) _ _ _ tt c.retain.ensures.filtered
    ∙ (unchanged (entries_in c.self.inside.map.entries) ∙ ap (λ (t : TableParts). t.entries) c.self.view_is)

pub returns-clause-entries : goal.returns-clause-entries
returns-clause-entries c =
    visited_all _ (λ f. Unit {0}) (λ k. k) (λ f k v b w g i t. (search rules, search rules, search rules, tt)) _ _ _ tt c.retain.ensures.filtered
    ∙ (unchanged (entries_in c.self.inside.map.entries) ∙ ap (λ (t : TableParts). t.entries) c.self.view_is)
