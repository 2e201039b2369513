use Rattle.std.proofs.Common.{◌∙◌, sym, ap, subst, ℤ, to_z, of_z, w64}
use Rattle.std.proofs.lemmas.Int.{to_z-of_z}
use Rattle.std.specs.Option.{option_map}
use Rattle.share_coord.specs.Holding.{Holds, parts_of}
use Rattle.share_coord.specs.Parts.{StoreParts}
use Rattle.share_coord.specs.Stored.{Entries}
use Rattle.share_coord.specs.Unwritten.{raised_entries}
use Rattle.share_coord.proofs.Lifting.{offset_fits, raised_holds_at}
use Rattle.share_coord.proofs.coord.Coord.raise.Goals as goal

pub invariant_of-self : goal.invariant_of-self
invariant_of-self g c =
    let held = c.self.invariant.0 in
    let key = c.args.key.now in
    let entries = c.raise.ensures.entries
    ∙ ap (λ (z : ℤ). raised_entries c.self.inside.store.table.entries key z) (to_z-of_z w64 c.args.start c.ranges.start) in (
      (
        option_map (λ (es : Entries). raised_entries es key c.args.start) held.0,
        raised_holds_at key c.args.start g.D.Disk.seen (parts_of c.self.inside.store) (offset_fits c.args.start c.ranges.start) (parts_of c.raise.new.self) entries
            c.raise.ensures.journal c.raise.ensures.room held.0 held.1,
      ),
      c.raise.ensures.roomy,
    )

pub returns-clause-entries : goal.returns-clause-entries
returns-clause-entries g c =
    c.raise.ensures.entries
    ∙ (ap (λ (z : ℤ). raised_entries c.self.inside.store.table.entries c.args.key.now z) (to_z-of_z w64 c.args.start c.ranges.start)
    ∙ ap (λ (p : StoreParts _). raised_entries p.entries c.args.key.now c.args.start) c.self.view_is)

pub returns-clause-holds : goal.returns-clause-holds
returns-clause-holds g c = λ pending held.
    let key = c.args.key.now in
    let entries = c.raise.ensures.entries
    ∙ ap (λ (z : ℤ). raised_entries c.self.inside.store.table.entries key z) (to_z-of_z w64 c.args.start c.ranges.start) in
    raised_holds_at key c.args.start g.D.Disk.seen (parts_of c.self.inside.store) (offset_fits c.args.start c.ranges.start) (parts_of c.raise.new.self) entries
    c.raise.ensures.journal c.raise.ensures.room pending (subst (λ s. Holds g.D.Disk.seen s pending) (sym c.self.view_is) held)
