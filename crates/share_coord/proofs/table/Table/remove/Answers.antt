use Rattle.std.proofs.Common.{◌∙◌, sym, ap, subst}
use Rattle.share_coord.specs.Stored.{Entries, without_key}
use Rattle.share_coord.specs.Tables.{AreRoomy, entries_in}
use Rattle.share_coord.specs.Tables.{TableParts}
use Rattle.share_coord.proofs.Rooms.{roomy_without}
use Rattle.share_coord.proofs.Tables.{found_at, without_shown}
use Rattle.share_coord.proofs.table.Table.remove.Goals as goal

pub returns-clause-value : goal.returns-clause-value
returns-clause-value c = found_at c.self.inside.map.entries c.args.self.now.entries c.args.key.now (ap (λ (t : TableParts). t.entries) c.self.view_is) c.remove.result c.remove.ensures.value

pub returns-clause-entries : goal.returns-clause-entries
returns-clause-entries c = ap entries_in c.remove.ensures.entries
    ∙ (without_shown c.self.inside.map.entries c.args.key.now ∙ ap (λ (l : Entries). without_key l c.args.key.now) (ap (λ (t : TableParts). t.entries) c.self.view_is))

pub invariant_of-self : goal.invariant_of-self
invariant_of-self c = subst (AreRoomy c.self.inside.room) (sym c.remove.ensures.entries) (roomy_without c.self.inside.room c.self.inside.map.entries c.args.key.now c.self.invariant)
