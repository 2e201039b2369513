use Rattle.std.proofs.Common.{◌∙◌, ap}
use Rattle.share_coord.specs.Tables.{TableParts}
use Rattle.share_coord.proofs.Tables.{is_found}
use Rattle.share_coord.proofs.table.Table.contains.Goals as goal

pub returns : goal.returns
returns c = c.contains_key.ensures ∙ is_found c.self.inside.map.entries c.args.self.now.entries c.args.key.now (ap (λ (t : TableParts). t.entries) c.self.view_is)
