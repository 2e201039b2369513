use Rattle.std.proofs.Common.{ap}
use Rattle.share_members.specs.Groups.{Memberships}
use Rattle.broker_model.specs.Shards.MembersCall.{Ticks}
use Rattle.broker_hosts.specs.Hosts.{parts_of}
use Rattle.broker_core.proofs.Leading.{members_lead, members_stay, ticks}
use Rattle.broker_core.proofs.timers.tick.Goals as goal

pub returns-clause-ok : goal.returns-clause-ok
returns-clause-ok g c = members_lead g.D.Disk.seen (parts_of c.args.hosts.now) c.act_on_members.new.members Ticks c.args.now
    (ticks c.args.now c.act_on_members.result _ _ c.act_on_members.ensures)

pub returns-clause-stays : goal.returns-clause-stays
returns-clause-stays g c = members_stay g.D.Disk.seen (parts_of c.args.hosts.now) c.act_on_members.new.members c.requires.open
    (ap (λ (m : Memberships). m.topics) (ticks c.args.now c.act_on_members.result _ _ c.act_on_members.ensures))
