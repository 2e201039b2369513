use Rattle.std.proofs.Common.{◌≡◌, ◌∙◌, rules, ap, subst, ℤ, pos, to_z, w64}
use Rattle.std.specs.Option.{option_map}
use Rattle.share_coord.specs.Holding.{Holds}
use Rattle.share_coord.specs.Unwritten.{raised_all}
use Rattle.share_part.proofs.delete.raise_tables.Goals as goal

pub returns-clause-entries : goal.returns-clause-entries
returns-clause-entries g c =
    let number : to_z w64 c.args.start ≡ pos c.args.start = search rules in
    c.raise_all.ensures.entries ∙ ap (λ (z : ℤ). raised_all z c.args.states.now.entries) number

pub returns-clause-holds : goal.returns-clause-holds
returns-clause-holds g c = λ pending held.
    let number : to_z w64 c.args.start ≡ pos c.args.start = search rules in
    subst (λ (z : ℤ). Holds g.D.Disk.seen c.raise_all.new.self (option_map (raised_all z) pending)) number (c.raise_all.ensures.holds pending held)
