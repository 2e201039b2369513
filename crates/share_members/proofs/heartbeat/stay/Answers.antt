use Rattle.std.proofs.Common.{◌≡◌, Some, sym, ap, ◌∙◌, rules}
use Rattle.std.specs.Cmp.Lexicographic.{nat_list_cmp_total}
use Rattle.std.specs.Option.{unwrap_or}
use Rattle.std.specs.Map.{lookup, set_value}
use Rattle.std.specs.BTreeMap.{is_at, insert_entry}
use Rattle.std.proofs.lemmas.Map.Steps.{set_value_same}
use Rattle.share_members.specs.Groups.{id_cmp, no_group, with_group}
use Rattle.share_members.specs.Heartbeats.{stays}
use Rattle.share_members.proofs.Maps.{set_is_insert}
use Rattle.share_members.proofs.Putting.{on_ok, on_err, put_stays}
use Rattle.share_members.proofs.heartbeat.stay.Goals as goal

pub returns-in-Some-clause-after : goal.returns-in-Some-clause-after
returns-in-Some-clause-after c =
    let es = c.args.groups.now.entries in
    let id = c.args.group.now in
    let after = c.stay.new.self in
    let wrote : (c.get_mut.follows.lender after).entries ≡ set_value (is_at (id_cmp id)) es after = (c.get_mut.follows.holds after).0 in
    let found : lookup (is_at (id_cmp id)) es ≡ Some c.in-Some.there.now = search rules in
    on_ok c.stay.result
    (λ is. wrote ∙ set_is_insert id_cmp nat_list_cmp_total id c.in-Some.there.now after es c.get_mut.ensures.ordered found
    ∙ ap (insert_entry id_cmp es id) is
    ∙ sym (put_stays c.args.topics.now c.args.moment c.args.request.now c.in-Some.there.now id es)
    ∙ ap (λ o. with_group id (stays c.args.topics.now c.args.moment c.args.request.now (unwrap_or o no_group)).group es) (sym found))
    c.stay.ensures.after

pub returns-in-Some-clause-err : goal.returns-in-Some-clause-err
returns-in-Some-clause-err c =
    let es = c.args.groups.now.entries in
    let id = c.args.group.now in
    let after = c.stay.new.self in
    let wrote : (c.get_mut.follows.lender after).entries ≡ set_value (is_at (id_cmp id)) es after = (c.get_mut.follows.holds after).0 in
    let found : lookup (is_at (id_cmp id)) es ≡ Some c.in-Some.there.now = search rules in
    on_err c.stay.result
    (λ is. wrote ∙ ap (set_value (is_at (id_cmp id)) es) is ∙ set_value_same (is_at (id_cmp id)) es c.in-Some.there.now found)
    c.stay.ensures.err
