use Rattle.std.proofs.Common.{ap, sym, subst}
use Rattle.share_members.specs.Groups.{Memberships}
use Rattle.broker_model.specs.Hosted.{hosted_of}
use Rattle.broker_hosts.specs.Hosts.{IsFreshForeign, parts_of}
use Rattle.broker_hosts.specs.declared.slot.ForeignSlot.{ForeignSlot}
use Rattle.broker_hosts.proofs.Partitions.{takes_fresh}
use Rattle.broker_hosts.proofs.Starting.{all_counted, all_moves, all_others, all_out, hosts_apart, hosts_are, hosts_held, hosts_named, hosts_open, refused, retold, started}
use Rattle.broker_hosts.proofs.open.open_hosts.Goals as goal

pub returns-in-Ok-clause-opened : goal.returns-in-Ok-clause-opened
returns-in-Ok-clause-opened g c = let t = c.in-Ok.ensures.ok in record {
  opens = started g.B.Bay.seen g.D.Disk.seen
      c.args.conf.now c.in-Ok.ensures.list c.args.bay.now (parts_of c.in-Ok.hosts) c.take_hosts.new.bay t;
  are_open = hosts_open g.B.Bay.seen g.D.Disk.seen
      c.args.conf.now c.in-Ok.ensures.list c.args.bay.now (parts_of c.in-Ok.hosts) c.take_hosts.new.bay t;
  fresh = (
    takes_fresh g.B.Bay.seen g.D.Disk.seen (hosted_of c.args.conf.now) c.args.bay.now (parts_of c.in-Ok.hosts).parts t.mid t.parts,
    subst (λ (s : ForeignSlot g.row.D.Denot). IsFreshForeign g.D.Disk.seen s) (sym t.foreign.is_open) t.foreign.fresh,
  );
  whole = record {
    held = hosts_held g.B.Bay.seen g.D.Disk.seen
        c.args.conf.now c.in-Ok.ensures.list c.args.bay.now (parts_of c.in-Ok.hosts) c.take_hosts.new.bay t;
    hosts = hosts_are g.B.Bay.seen g.D.Disk.seen
        c.args.conf.now c.in-Ok.ensures.list c.args.bay.now (parts_of c.in-Ok.hosts) c.take_hosts.new.bay t;
    topics = ap (λ (m : Memberships). m.topics) t.members;
    apart = hosts_apart g.B.Bay.seen g.D.Disk.seen
        c.args.conf.now c.in-Ok.ensures.list c.args.bay.now (parts_of c.in-Ok.hosts) c.take_hosts.new.bay t;
    named = hosts_named g.B.Bay.seen g.D.Disk.seen
        c.args.conf.now c.in-Ok.ensures.list c.args.bay.now (parts_of c.in-Ok.hosts) c.take_hosts.new.bay t;
  };
  taken = all_out g.B.Bay.seen g.D.Disk.seen
      c.args.conf.now c.in-Ok.ensures.list c.args.bay.now (parts_of c.in-Ok.hosts) c.take_hosts.new.bay t c.requires;
  counts = all_counted g.B.Bay.seen g.D.Disk.seen
      c.args.conf.now c.in-Ok.ensures.list c.args.bay.now (parts_of c.in-Ok.hosts) c.take_hosts.new.bay t;
}

pub returns-in-Ok-clause-others : goal.returns-in-Ok-clause-others
returns-in-Ok-clause-others g c = all_others g.B.Bay.seen g.D.Disk.seen
    c.args.conf.now c.in-Ok.ensures.list c.args.bay.now (parts_of c.in-Ok.hosts) c.take_hosts.new.bay c.in-Ok.ensures.ok

pub returns-in-Ok-clause-later : goal.returns-in-Ok-clause-later
returns-in-Ok-clause-later g c = (all_moves g.B.Bay.seen g.D.Disk.seen
    c.args.conf.now c.in-Ok.ensures.list c.args.bay.now (parts_of c.in-Ok.hosts) c.take_hosts.new.bay c.in-Ok.ensures.ok).later

pub returns-in-Ok-clause-told : goal.returns-in-Ok-clause-told
returns-in-Ok-clause-told g c = (all_moves g.B.Bay.seen g.D.Disk.seen
    c.args.conf.now c.in-Ok.ensures.list c.args.bay.now (parts_of c.in-Ok.hosts) c.take_hosts.new.bay c.in-Ok.ensures.ok).told

pub returns-in-Err-clause-refused : goal.returns-in-Err-clause-refused
returns-in-Err-clause-refused g c =
    let r = retold g.B.Bay.seen g.D.Disk.seen
    c.args.conf.now c.told_of.result c.in-Err.fault c.args.bay.now c.take_hosts.new.bay c.told_of.ensures.told
    (refused g.B.Bay.seen g.D.Disk.seen
    c.args.conf.now c.in-Err.ensures.list c.in-Err.fault c.args.bay.now c.take_hosts.new.bay c.in-Err.ensures.err) in
    record {
      back = r.back c.requires;
      stays = r.stays;
      fed = c.told_of.ensures.fed;
      damaged = r.damaged;
      recovers = r.recovers;
      bay = r.bay;
      device = r.device;
      sound = r.sound;
    }

pub returns-in-Err-clause-others : goal.returns-in-Err-clause-others
returns-in-Err-clause-others g c = (refused g.B.Bay.seen g.D.Disk.seen
    c.args.conf.now c.in-Err.ensures.list c.in-Err.fault c.args.bay.now c.take_hosts.new.bay c.in-Err.ensures.err).others

pub returns-in-Err-clause-later : goal.returns-in-Err-clause-later
returns-in-Err-clause-later g c = (refused g.B.Bay.seen g.D.Disk.seen
    c.args.conf.now c.in-Err.ensures.list c.in-Err.fault c.args.bay.now c.take_hosts.new.bay c.in-Err.ensures.err).moves.later

pub returns-in-Err-clause-told : goal.returns-in-Err-clause-told
returns-in-Err-clause-told g c = (refused g.B.Bay.seen g.D.Disk.seen
    c.args.conf.now c.in-Err.ensures.list c.in-Err.fault c.args.bay.now c.take_hosts.new.bay c.in-Err.ensures.err).moves.told
