use Rattle.std.proofs.Common.{◌≡◌, ap, false, length}
use Rattle.share_members.specs.Groups.{Memberships}
use Rattle.broker_hosts.specs.Hosts.{parts_of}
use Rattle.broker_core.proofs.Leading.{beats, foreign_leads, foreign_refused, foreign_stays, foreign_whole, members_beat, members_halt, members_stay}
use Rattle.broker_hosts.proofs.Opening.{fed_both}
use Rattle.broker_core.proofs.Parting.{there_of}
use Rattle.broker_core.proofs.Stepping.{ok_weaker, on_err, on_err_weaker, on_ok}
use Rattle.broker_core.proofs.hosts.act.Goals as goal

pub returns-in-Part-clause-ok : goal.returns-in-Part-clause-ok
returns-in-Part-clause-ok g c = ok_weaker _ _ c.ask_part.result (λ answer h. h c.args.part c.in-Part.ensures) c.ask_part.ensures.ok

pub returns-in-Part-clause-stopped : goal.returns-in-Part-clause-stopped
returns-in-Part-clause-stopped g c = on_err_weaker c.ask_part.result (λ h. h c.args.part c.in-Part.ensures) c.ask_part.ensures.stopped

pub returns-in-Part-clause-fair : goal.returns-in-Part-clause-fair
returns-in-Part-clause-fair g c = ok_weaker _ _ c.ask_part.result (λ answer h. h c.args.part c.in-Part.ensures) c.ask_part.ensures.fair

pub returns-in-Part-clause-there : goal.returns-in-Part-clause-there
returns-in-Part-clause-there g c = on_ok c.ask_part.result
    (there_of (length c.args.hosts.now.parts.items) c.in-Part.shard c.in-Part.ask c.args.part c.in-Part.ensures) c.ask_part.ensures.there

pub returns-in_err-answer-in-Open-clause-stopped : goal.returns-in_err-answer-in-Open-clause-stopped
returns-in_err-answer-in-Open-clause-stopped g c = let did = c.act_on_foreign.ensures in on_err c.from_residual-in_err-answer-in-Open.result
    (λ s k. foreign_refused g.D.Disk.seen (parts_of c.args.hosts.now) c.in-Open.shard c.act_on_foreign.new.foreign c.in-Open.is c.requires.apart
    did.first did.second s _ c.in_err-answer-in-Open.ensures.acts k)

pub returns-in_err-answer-in-Open-clause-stays : goal.returns-in_err-answer-in-Open-clause-stays
returns-in_err-answer-in-Open-clause-stays g c = let did = c.act_on_foreign.ensures in foreign_stays g.D.Disk.seen
    (parts_of c.args.hosts.now) c.in-Open.shard c.act_on_foreign.new.foreign c.requires.open c.in-Open.is did.first did.second

pub returns-then-starved-clause-stopped : goal.returns-then-starved-clause-stopped
returns-then-starved-clause-stopped g c = let did = c.act_on_foreign.ensures in
    foreign_whole g.D.Disk.seen (parts_of c.args.hosts.now) c.in-Open.shard c.act_on_foreign.new.foreign c.in-Open.is c.requires.apart
    did.first did.second c.args.now c.in-Foreign.op c.args.part c.in-Foreign.ensures c.in_ok-answer-in-Open.answer c.in_ok-answer-in-Open.ensures.acts

pub returns-then-starved-clause-stays : goal.returns-then-starved-clause-stays
returns-then-starved-clause-stays g c = let did = c.act_on_foreign.ensures in foreign_stays g.D.Disk.seen
    (parts_of c.args.hosts.now) c.in-Open.shard c.act_on_foreign.new.foreign c.requires.open c.in-Open.is did.first did.second

pub returns-else-starved-clause-ok : goal.returns-else-starved-clause-ok
returns-else-starved-clause-ok g c =
    let did = c.act_on_foreign.ensures in
    let no : c.starved.result ≡ false = c.if-starved.false in
    foreign_leads g.D.Disk.seen (parts_of c.args.hosts.now) c.in-Open.shard c.act_on_foreign.new.foreign c.in-Open.is c.requires.apart
    did.first did.second c.args.now c.in-Foreign.op c.args.part c.in-Foreign.ensures c.in_ok-answer-in-Open.answer c.in_ok-answer-in-Open.ensures.acts
    (fed_both c.starved.result _ _ no c.starved.ensures)

pub returns-else-starved-clause-stays : goal.returns-else-starved-clause-stays
returns-else-starved-clause-stays g c = let did = c.act_on_foreign.ensures in foreign_stays g.D.Disk.seen
    (parts_of c.args.hosts.now) c.in-Open.shard c.act_on_foreign.new.foreign c.requires.open c.in-Open.is did.first did.second

pub returns-in-Heartbeat-2-clause-ok : goal.returns-in-Heartbeat-2-clause-ok
returns-in-Heartbeat-2-clause-ok g c = members_beat g.D.Disk.seen (parts_of c.args.hosts.now) c.act_on_members.new.members c.args.now
    c.in-Heartbeat.request c.args.part c.in-Heartbeat.ensures c.in-Heartbeat-2.reply
    (beats c.args.now c.in-Heartbeat.request c.in-Heartbeat-2.reply _ _ _ c.in-Heartbeat-2.is c.in_ok-reply-in-Heartbeat.ensures)

pub returns-in-Heartbeat-2-clause-stays : goal.returns-in-Heartbeat-2-clause-stays
returns-in-Heartbeat-2-clause-stays g c =
    members_stay g.D.Disk.seen (parts_of c.args.hosts.now) c.act_on_members.new.members c.requires.open (ap (λ (m : Memberships). m.topics)
    (beats c.args.now c.in-Heartbeat.request c.in-Heartbeat-2.reply _ _ _ c.in-Heartbeat-2.is c.in_ok-reply-in-Heartbeat.ensures).1)

pub returns-in_err-reply-in-Heartbeat-clause-stopped : goal.returns-in_err-reply-in-Heartbeat-clause-stopped
returns-in_err-reply-in-Heartbeat-clause-stopped g c = on_err c.from_residual.result
    (λ s k. members_halt g.D.Disk.seen (parts_of c.args.hosts.now) c.act_on_members.new.members s _ c.in_err-reply-in-Heartbeat.ensures.1 k)

pub returns-in_err-reply-in-Heartbeat-clause-stays : goal.returns-in_err-reply-in-Heartbeat-clause-stays
returns-in_err-reply-in-Heartbeat-clause-stays g c = members_stay g.D.Disk.seen (parts_of c.args.hosts.now) c.act_on_members.new.members
    c.requires.open (ap (λ (m : Memberships). m.topics) c.in_err-reply-in-Heartbeat.ensures.1)
