use Rattle.std.proofs.Common.{ap}
use Rattle.std.specs.Option.{option_copied}
use Rattle.share_coord.specs.Tables.{TableParts}
use Rattle.share_coord.proofs.Tables.{found_at}
use Rattle.share_coord.proofs.table.Table.get.Goals as goal

pub returns : goal.returns
returns c = found_at c.self.inside.map.entries c.args.self.now.entries c.args.key.now (ap (λ (t : TableParts). t.entries) c.self.view_is) (option_copied c.get.result) c.get.ensures.value
