use Rattle.std.proofs.Common.{◌≡◌, ◌∙◌, rules, sym, ap, subst, arith, ℤ, Some, None, to_z, of_z, w64}
use Rattle.std.proofs.lemmas.Int.{to_z-of_z}
use Rattle.std.specs.BTreeMap.{is_at}
use Rattle.std.specs.Map.{lookup, set_value}
use Rattle.std.specs.Option.{option_map}
use Rattle.share_model.specs.Keys.{key_cmp}
use Rattle.share_coord.specs.Stored.{Entries}
use Rattle.share_coord.specs.Tables.{AreRoomy, TableParts, entries_in, shown}
use Rattle.share_coord.specs.Unwritten.{raised_entries, raised_kept}
use Rattle.share_coord.proofs.Lifting.{raised_none, raised_shown, roomy_set}
use Rattle.share_coord.proofs.Rooms.{roomy_at}
use Rattle.share_coord.proofs.Tables.{found_in}
use Rattle.share_coord.proofs.table.Table.raise.Goals as goal

pub returns-in_default-clause-entries : goal.returns-in_default-clause-entries
returns-in_default-clause-entries c =
    let es = c.self.inside.map.entries in
    let key = c.args.key.now in
    let same : c.get_mut.follows.lender-at-none.entries ≡ es = search rules in
    let none : lookup (is_at (key_cmp key)) es ≡ None = search rules in
    ap entries_in same ∙ (sym (raised_none (entries_in es) key c.args.start (sym (found_in es key) ∙ ap (option_map shown) none))
    ∙ ap (λ (l : Entries). raised_entries l key c.args.start) (ap (λ (t : TableParts). t.entries) c.self.view_is))

pub returns-clause-entries : goal.returns-clause-entries
returns-clause-entries c =
    let es = c.self.inside.map.entries in
    let key = c.args.key.now in
    let old = c.in-Some.kept.now in
    let after = c.raise.new.self in
    let start : to_z w64 (of_z w64 c.args.start) ≡ c.args.start = to_z-of_z w64 c.args.start c.ranges.start in
    let wrote : (c.get_mut.follows.lender after).entries ≡ set_value (is_at (key_cmp key)) es after = (c.get_mut.follows.holds after).0 in
    let found : lookup (is_at (key_cmp key)) es ≡ Some old = search rules in
    ap entries_in wrote ∙ (raised_shown es key c.args.start old after found (c.raise.ensures.kept ∙ ap (λ (z : ℤ). raised_kept z (shown old)) start)
    ∙ ap (λ (l : Entries). raised_entries l key c.args.start) (ap (λ (t : TableParts). t.entries) c.self.view_is))

pub invariant_of-self : goal.invariant_of-self
invariant_of-self c =
    let same : c.get_mut.follows.lender-at-none.entries ≡ c.self.inside.map.entries = search rules in
    subst (AreRoomy c.self.inside.room) (sym same) c.self.invariant

pub invariant_of-self-2 : goal.invariant_of-self-2
invariant_of-self-2 c =
    let es = c.self.inside.map.entries in
    let key = c.args.key.now in
    let after = c.raise.new.self in
    let wrote : (c.get_mut.follows.lender after).entries ≡ set_value (is_at (key_cmp key)) es after = (c.get_mut.follows.holds after).0 in
    let found : lookup (is_at (key_cmp key)) es ≡ Some c.in-Some.kept.now = search rules in
    let had = roomy_at c.self.inside.room es key c.in-Some.kept.now c.self.invariant found in
    let more = c.raise.ensures.room in
    subst (AreRoomy c.self.inside.room) (sym wrote) (roomy_set c.self.inside.room es key after c.self.invariant (omega (arith, had, more)))
