use Rattle.std.proofs.Common.{◌∙◌, sym, ap, subst, None}
use Rattle.share_coord.specs.Stored.{Entries, with_kept}
use Rattle.share_coord.specs.Tables.{AreRoomy, entries_in, shown}
use Rattle.share_coord.specs.Tables.{TableParts}
use Rattle.share_coord.proofs.Rooms.{less_room, roomy_with}
use Rattle.share_coord.proofs.Tables.{found_at, with_shown}
use Rattle.share_coord.proofs.table.Table.insert.Goals as goal

pub returns-in-Ok-clause-entries : goal.returns-in-Ok-clause-entries
returns-in-Ok-clause-entries c = ap entries_in c.in-Ok.ensures.entries
    ∙ (with_shown c.self.inside.map.entries c.args.key.now c.args.kept ∙ ap (λ (l : Entries). with_kept l c.args.key.now (shown c.args.kept)) (ap (λ (t : TableParts). t.entries) c.self.view_is))

pub returns-clause-absent : goal.returns-clause-absent
returns-clause-absent c = sym (found_at c.self.inside.map.entries c.args.self.now.entries c.args.key.now (ap (λ (t : TableParts). t.entries) c.self.view_is) None (sym c.in-Err.ensures.absent))

pub returns-clause-err : goal.returns-clause-err
returns-clause-err c =
    let entries = ap entries_in c.in-Err.ensures.err ∙ ap (λ (t : TableParts). t.entries) c.self.view_is in
    let room = ap (λ (t : TableParts). t.room) c.self.view_is in
    λ i. record { entries = entries i; room = room i }

pub invariant_of-self : goal.invariant_of-self
invariant_of-self c = subst (AreRoomy c.room_with-room.result) (sym c.in-Ok.ensures.entries)
    (roomy_with c.room_with-room.result c.self.inside.map.entries c.args.key.now c.args.kept
    (less_room c.room_with-room.result c.self.inside.room c.self.inside.map.entries c.room_with-room.ensures.below c.self.invariant) c.room_with-room.ensures.within)
