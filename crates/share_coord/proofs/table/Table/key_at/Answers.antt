use Rattle.std.proofs.Common.{◌∙◌, sym, ap, List, slice_get}
use Rattle.std.specs.Map.{keys_of}
use Rattle.share_model.specs.Keys.{KeyParts}
use Rattle.share_coord.specs.Stored.{Entries}
use Rattle.share_coord.specs.Tables.{TableParts}
use Rattle.share_coord.proofs.Tables.{keys_shown}
use Rattle.share_coord.proofs.table.Table.key_at.Goals as goal

pub returns : goal.returns
returns c = c.nth_key.ensures ∙ ap (λ (l : List KeyParts). slice_get l c.args.place)
    (sym (keys_shown c.self.inside.map.entries) ∙ ap (λ (l : Entries). keys_of l) (ap (λ (t : TableParts). t.entries) c.self.view_is))
