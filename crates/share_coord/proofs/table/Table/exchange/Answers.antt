use Rattle.std.proofs.Common.{◌≤◌, ◌∙◌, sym, ap, subst, None}
use Rattle.std.specs.Option.{IfSome}
use Rattle.share_coord.specs.Stored.{Entries, kept_at, with_kept}
use Rattle.share_coord.specs.Tables.{AreRoomy, TableParts, entries_in, shown}
use Rattle.share_coord.specs.declared.view.Kept.{Kept}
use Rattle.share_coord.proofs.Keys.{known_by, some_none}
use Rattle.share_coord.proofs.Rooms.{less_room, roomy_old, roomy_with}
use Rattle.share_coord.proofs.Tables.{found_at, some_shown, with_shown}
use Rattle.share_coord.proofs.table.Table.exchange.Goals as goal

pub unreachable-requires : goal.unreachable-requires
unreachable-requires c =
    let known = known_by (kept_at c.args.self.now.entries c.args.key.now) c.requires in
    let none = found_at c.self.inside.map.entries c.args.self.now.entries c.args.key.now (ap (λ (t : TableParts). t.entries) c.self.view_is) None (sym c.in-Err.ensures.absent) in
    some_none known.0 (sym known.1 ∙ sym none)

pub invariant_of-self : goal.invariant_of-self
invariant_of-self c = subst (AreRoomy c.room_with-room.result) (sym c.in-Ok.ensures.entries)
    (roomy_with c.room_with-room.result c.self.inside.map.entries c.args.key.now c.args.kept
    (less_room c.room_with-room.result c.self.inside.room c.self.inside.map.entries c.room_with-room.ensures.below c.self.invariant) c.room_with-room.ensures.within)

pub returns-clause-entries : goal.returns-clause-entries
returns-clause-entries c = ap entries_in c.in-Ok.ensures.entries
    ∙ (with_shown c.self.inside.map.entries c.args.key.now c.args.kept
    ∙ ap (λ (l : Entries). with_kept l c.args.key.now (shown c.args.kept)) (ap (λ (t : TableParts). t.entries) c.self.view_is))

pub returns-clause-old : goal.returns-clause-old
returns-clause-old c = subst (λ (t : TableParts). IfSome c.in-Ok.old (λ (k : Kept). t.room ≤ k.view.room)) c.self.view_is
    (roomy_old c.self.inside.room c.self.inside.map.entries c.args.key.now c.in-Ok.old c.in-Ok.ensures.old c.self.invariant)

pub returns-clause-room : goal.returns-clause-room
returns-clause-room c = λ n small fits.
    c.room_with-room.ensures.least n (subst (λ (t : TableParts). n ≤ t.room) (sym c.self.view_is) small) fits

pub returns-clause-there : goal.returns-clause-there
returns-clause-there c =
    let known = known_by (kept_at c.args.self.now.entries c.args.key.now) c.requires in
    let at = found_at c.self.inside.map.entries c.args.self.now.entries c.args.key.now (ap (λ (t : TableParts). t.entries) c.self.view_is) c.in-Ok.old c.in-Ok.ensures.old in
    some_shown c.in-Ok.old known.0 (at ∙ known.1)
