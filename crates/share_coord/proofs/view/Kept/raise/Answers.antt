use Rattle.std.proofs.Common.{◌∙◌, sym, to_z, of_z, w64, true, false}
use Rattle.std.proofs.lemmas.Int.{to_z-of_z}
use Rattle.share_coord.specs.Tables.{shown}
use Rattle.share_coord.proofs.Lifting.{raised_parts}
use Rattle.share_coord.proofs.view.Kept.raise.Goals as goal

pub returns-then-not-rises-clause-kept : goal.returns-then-not-rises-clause-kept
returns-then-not-rises-clause-kept c = raised_parts (shown c.args.self.now) c.args.start (to_z w64 (of_z w64 c.args.start)) _ false
    (to_z-of_z w64 c.args.start c.ranges.start) c.raise-rises.ensures.state (sym c.if-not-rises.true ∙ c.raise-rises.ensures.told)

pub returns-clause-kept : goal.returns-clause-kept
returns-clause-kept c = raised_parts (shown c.args.self.now) c.args.start (to_z w64 (of_z w64 c.args.start)) _ true
    (to_z-of_z w64 c.args.start c.ranges.start) c.raise-rises.ensures.state (sym c.if-not-rises.false ∙ c.raise-rises.ensures.told)
