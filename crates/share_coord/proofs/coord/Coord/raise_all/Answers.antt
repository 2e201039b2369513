use Rattle.std.proofs.Common.{◌∙◌, sym, ap, subst, ℤ, to_z, of_z, w64}
use Rattle.std.proofs.lemmas.Int.{to_z-of_z}
use Rattle.std.specs.Option.{option_map}
use Rattle.share_coord.specs.Holding.{Holds, parts_of}
use Rattle.share_coord.specs.Parts.{StoreParts}
use Rattle.share_coord.specs.Stored.{Entries}
use Rattle.share_coord.specs.Unwritten.{raised_all}
use Rattle.share_coord.proofs.Lifting.{offset_fits, all_holds_at}
use Rattle.share_coord.proofs.coord.Coord.raise_all.Goals as goal

pub invariant_of-self : goal.invariant_of-self
invariant_of-self g c =
    let held = c.self.invariant.0 in
    let entries = c.raise_all.ensures.entries
    ∙ ap (λ (z : ℤ). raised_all z c.self.inside.store.table.entries) (to_z-of_z w64 c.args.start c.ranges.start) in (
      (
        option_map (λ (es : Entries). raised_all c.args.start es) held.0,
        all_holds_at c.args.start g.D.Disk.seen (parts_of c.self.inside.store) (offset_fits c.args.start c.ranges.start) (parts_of c.raise_all.new.self) entries
            c.raise_all.ensures.journal c.raise_all.ensures.room held.0 held.1,
      ),
      c.raise_all.ensures.roomy,
    )

pub returns-clause-entries : goal.returns-clause-entries
returns-clause-entries g c =
    c.raise_all.ensures.entries
    ∙ (ap (λ (z : ℤ). raised_all z c.self.inside.store.table.entries) (to_z-of_z w64 c.args.start c.ranges.start)
    ∙ ap (λ (p : StoreParts _). raised_all c.args.start p.entries) c.self.view_is)

pub returns-clause-holds : goal.returns-clause-holds
returns-clause-holds g c = λ pending held.
    let entries = c.raise_all.ensures.entries
    ∙ ap (λ (z : ℤ). raised_all z c.self.inside.store.table.entries) (to_z-of_z w64 c.args.start c.ranges.start) in
    all_holds_at c.args.start g.D.Disk.seen (parts_of c.self.inside.store) (offset_fits c.args.start c.ranges.start) (parts_of c.raise_all.new.self) entries
    c.raise_all.ensures.journal c.raise_all.ensures.room pending (subst (λ s. Holds g.D.Disk.seen s pending) (sym c.self.view_is) held)
