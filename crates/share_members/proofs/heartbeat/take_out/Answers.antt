use Rattle.std.proofs.Common.{◌≡◌, Some, None, not, true, false, length, ◌==◌, sym, ap, ◌∙◌, rules}
use Rattle.std.specs.Cmp.Lexicographic.{nat_list_cmp_total}
use Rattle.std.specs.Option.{unwrap_or}
use Rattle.std.specs.Map.{lookup, set_value, remove_entry}
use Rattle.std.specs.BTreeMap.{is_at}
use Rattle.share_members.specs.Groups.{id_cmp, no_group, with_group}
use Rattle.share_members.specs.Heartbeats.{left}
use Rattle.share_members.proofs.Maps.{set_is_insert, removed_set}
use Rattle.share_members.proofs.Putting.{put_none, put_empty, put_full}
use Rattle.share_members.proofs.heartbeat.take_out.Goals as goal

pub returns-in_default : goal.returns-in_default
returns-in_default c =
    let es = c.args.groups.now.entries in
    let id = c.args.group.now in
    let same : c.get_mut.follows.lender-at-none.entries ≡ es = search rules in
    let none : lookup (is_at (id_cmp id)) es ≡ None = search rules in
    same ∙ sym (put_none c.args.id.now id es none)

pub returns-then-not-has_members : goal.returns-then-not-has_members
returns-then-not-has_members c =
    let es = c.args.groups.now.entries in
    let id = c.args.group.now in
    let after = c.leave.new.self in
    let kept = (c.get_mut.follows.lender after).entries in
    let wrote : kept ≡ set_value (is_at (id_cmp id)) es after = (c.get_mut.follows.holds after).0 in
    let found : lookup (is_at (id_cmp id)) es ≡ Some c.in-Some.found.now = search rules in
    let gone : c.remove.new.self.entries ≡ remove_entry (is_at (id_cmp id)) kept = search rules in
    let empty : not (length after.members == 0) ≡ false = sym c.has_members-has_members.ensures ∙ c.if-not-has_members.true in
    let went : after ≡ left c.args.id.now c.in-Some.found.now = search rules in
    gone ∙ ap (remove_entry (is_at (id_cmp id))) wrote ∙ removed_set (is_at (id_cmp id)) after es
    ∙ sym (put_empty id after es empty)
    ∙ ap (λ g. with_group id g es) (went ∙ ap (λ o. left c.args.id.now (unwrap_or o no_group)) (sym found))

pub returns-else-not-has_members : goal.returns-else-not-has_members
returns-else-not-has_members c =
    let es = c.args.groups.now.entries in
    let id = c.args.group.now in
    let after = c.leave.new.self in
    let wrote : (c.get_mut.follows.lender after).entries ≡ set_value (is_at (id_cmp id)) es after = (c.get_mut.follows.holds after).0 in
    let found : lookup (is_at (id_cmp id)) es ≡ Some c.in-Some.found.now = search rules in
    let full : not (length after.members == 0) ≡ true = sym c.has_members-has_members.ensures ∙ c.if-not-has_members.false in
    let went : after ≡ left c.args.id.now c.in-Some.found.now = search rules in
    wrote ∙ set_is_insert id_cmp nat_list_cmp_total id c.in-Some.found.now after es c.get_mut.ensures.ordered found
    ∙ sym (put_full id after es full)
    ∙ ap (λ g. with_group id g es) (went ∙ ap (λ o. left c.args.id.now (unwrap_or o no_group)) (sym found))
