use Rattle.std.proofs.Common.{subst}
use Rattle.topic_conf.specs.Configs.{ConfigParts}
use Rattle.broker_model.specs.Hosted.{IsTaken}
use Rattle.broker_locks.specs.Closing.{Closes}
use Rattle.broker_locks.specs.Shared.{SharedParts}
use Rattle.broker_run.specs.Working.{HasWorked}
use Rattle.broker_run.proofs.Servers.{serves, slot_on, told_on}
use Rattle.broker_locks.proofs.Whole.{hosts_all, whole_of}
use Rattle.broker_run.proofs.server.serve.Goals as goal

pub serve_links-requires-clause-hosts : goal.serve_links-requires-clause-hosts
serve_links-requires-clause-hosts g c κs within =
    hosts_all c.in-Ok.opened.0 (whole_of c.in-Ok.opened.0 c.args.conf c.in-Ok.ensures.opens.0 c.in-Ok.ensures.opens.1.whole)

pub returns-clause-serves : goal.returns-clause-serves
returns-clause-serves g c = (
  serves g.B.Bay.seen g.D.Disk.seen (HasWorked g.D.Disk.seen g.L.L.Link.left g.L.L.Link.held g.C.Clock.told) c.args.conf c.args.bay.now
      c.open_shared.new.bay c.close_shared.new.bay c.in-Ok.opened.0 c.in-Ok.ensures.opens.0 c.in-Ok.ensures.opens.1 c.open_shared.ensures.told
      c.in-Some.passes.items c.in-Some.ensures.worked
      (subst (λ (s : SharedParts g.row.D.Denot). Closes g.B.Bay.seen g.D.Disk.seen s c.in-Some.passes.items c.open_shared.new.bay c.close_shared.new.bay)
      c.in-Some.ensures.shared c.close_shared.ensures),
  c.in-Some.ensures.end,
)

pub returns-clause-told : goal.returns-clause-told
returns-clause-told g c = told_on g.B.Bay.seen c.args.bay.now c.open_shared.new.bay c.close_shared.new.bay c.open_shared.ensures.told
    c.close_shared.ensures.put.told

pub returns-clause-others : goal.returns-clause-others
returns-clause-others g c = λ name away.
    let closes = subst (λ (s : SharedParts g.row.D.Denot). Closes g.B.Bay.seen g.D.Disk.seen s c.in-Some.passes.items c.open_shared.new.bay c.close_shared.new.bay)
    c.in-Some.ensures.shared c.close_shared.ensures in
    slot_on g.B.Bay.seen name c.args.bay.now c.open_shared.new.bay c.close_shared.new.bay (c.open_shared.ensures.others name away)
    (closes.put.others name (λ taken. away (subst (λ (k : ConfigParts). IsTaken k name) c.in-Ok.ensures.opens.0 taken)))
