use Rattle.std.proofs.Common.{◌≤◌, ◌∙◌, sym, ap, subst, ℕ, ℤ, to_z, of_z, w64}
use Rattle.std.proofs.lemmas.Int.{to_z-of_z}
use Rattle.share_coord.specs.Unwritten.{raised_entries}
use Rattle.share_coord.proofs.store.Store.raise.Goals as goal

pub returns-clause-entries : goal.returns-clause-entries
returns-clause-entries g c = c.raise.ensures.entries
    ∙ ap (λ (z : ℤ). raised_entries c.args.self.now.table.entries c.args.key.now z) (to_z-of_z w64 c.args.start c.ranges.start)

pub returns-clause-roomy : goal.returns-clause-roomy
returns-clause-roomy g c = record {
  table = subst (λ (n : ℕ). c.args.self.now.room ≤ n) (sym c.raise.ensures.room) c.requires.table;
  written = c.requires.written;
  laid = c.requires.laid;
  buffer = c.requires.buffer;
}
