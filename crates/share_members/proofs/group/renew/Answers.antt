use Rattle.std.proofs.Common.{◌≡◌, Some, sym, ap, ◌∙◌, arith, rules, to_z, of_z, w32}
use Rattle.std.proofs.lemmas.Int.{to_z-of_z}
use Rattle.std.specs.Cmp.Lexicographic.{nat_list_cmp_total}
use Rattle.std.specs.Map.{set_value}
use Rattle.std.specs.BTreeMap.{is_at}
use Rattle.std.specs.Option.{unwrap_or}
use Rattle.share_members.specs.Groups.{id_cmp, member_at, with_member}
use Rattle.share_members.specs.Heartbeats.{member_after, no_member}
use Rattle.share_members.proofs.Maps.{set_is_insert}
use Rattle.share_members.proofs.group.renew.Goals as goal

pub returns-in-Some-clause-ok : goal.returns-in-Some-clause-ok
returns-in-Some-clause-ok c =
    let es = c.args.members.now.entries in
    let id = c.args.id.now in
    let same : to_z w32 (of_z w32 c.args.epoch) ≡ c.args.epoch = grind (arith, to_z-of_z) in
    let after = c.renew.new.self in
    let wrote : (c.get_mut.follows.lender after).entries ≡ set_value (is_at (id_cmp id)) es after = (c.get_mut.follows.holds after).0 in
    let found : member_at id es ≡ Some c.in-Some.member.now = search rules in
    wrote ∙ set_is_insert id_cmp nat_list_cmp_total id c.in-Some.member.now after es c.get_mut.ensures.ordered found
    ∙ ap (λ m. with_member id m es) (c.renew.ensures ∙ ap (λ e. member_after e c.args.change c.args.moment c.in-Some.member.now) same ∙ ap (λ o. member_after c.args.epoch c.args.change c.args.moment (unwrap_or o no_member)) (sym found))
