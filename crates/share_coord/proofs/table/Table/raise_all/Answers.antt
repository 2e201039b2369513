use Rattle.std.proofs.Common.{◌≡◌, ◌∙◌, ap, rules, to_z, of_z, w64}
use Rattle.std.proofs.lemmas.Int.{to_z-of_z}
use Rattle.share_coord.specs.Tables.{TableParts}
use Rattle.share_coord.specs.Unwritten.{raised_all, raised_kept}
use Rattle.share_coord.proofs.Rooms.{visited_all, visited_roomy}
use Rattle.share_coord.proofs.table.Table.raise_all.Goals as goal

pub invariant_of-self : goal.invariant_of-self
invariant_of-self c = visited_roomy _ (λ f. f.0.now ≡ c.args.start) (raised_kept c.args.start) (λ f k v b w g i t. (search rules, search rules, search rules, search rules)) _
    c.self.inside.room _ _ (to_z-of_z w64 c.args.start c.ranges.start) c.retain.ensures.filtered c.self.invariant

pub returns-clause-entries : goal.returns-clause-entries
returns-clause-entries c =
    visited_all _ (λ f. f.0.now ≡ c.args.start) (raised_kept c.args.start) (λ f k v b w g i t. (search rules, search rules, search rules, search rules)) _ _ _ (to_z-of_z w64 c.args.start c.ranges.start)
    c.retain.ensures.filtered ∙ ap (λ (t : TableParts). raised_all c.args.start t.entries) c.self.view_is
