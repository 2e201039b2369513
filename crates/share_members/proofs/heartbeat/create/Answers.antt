use Rattle.std.proofs.Common.{◌≡◌, sym, ap, ◌∙◌}
use Rattle.std.specs.BTreeMap.{insert_entry}
use Rattle.share_members.specs.Groups.{id_cmp, no_group}
use Rattle.share_members.specs.Heartbeats.{stays}
use Rattle.share_members.proofs.Putting.{put_stays}
use Rattle.share_members.proofs.heartbeat.create.Goals as goal

pub returns-in-Ok-clause-after : goal.returns-in-Ok-clause-after
returns-in-Ok-clause-after c =
    let es = c.args.groups.now.entries in
    let id = c.args.group.now in
    let first : c.stay.new.self ≡ (stays c.args.topics.now c.args.moment c.args.request.now no_group).group =
    c.in_ok-reply.ensures.after ∙ ap (λ g. (stays c.args.topics.now c.args.moment c.args.request.now g).group) c.new-created.ensures in
    c.in-Ok.ensures.entries ∙ ap (insert_entry id_cmp es id) first
    ∙ sym (put_stays c.args.topics.now c.args.moment c.args.request.now no_group id es)
