use Rattle.std.proofs.Common.{◌≡◌, ℕ, List, true, false, sym, subst}
use Rattle.edge_io.specs.Bays.{SameSlot}
use Rattle.edge_io.specs.Causes.{Rose}
use Rattle.broker_model.specs.Hosted.{IsOneOf, IsTaken}
use Rattle.broker_hosts.specs.Bays.{ArePutBack, AreOut, HasRisen}
use Rattle.broker_core.specs.Cores.{CoreParts}
use Rattle.broker_hosts.specs.Hosts.{all_names, disks_in, hosted_slots, parts_of}
use Rattle.broker_hosts.proofs.Starting.{all_back, all_in, all_rise, back_moves, back_noted, names_in, others_same}
use Rattle.broker_core.proofs.broker.Core.finish.Goals as goal

pub put_hosts_back-requires-clause-out : goal.put_hosts_back-requires-clause-out
put_hosts_back-requires-clause-out g c = subst (λ (x : CoreParts g.row.D.Denot). (name : List ℕ) → IsOneOf (all_names (hosted_slots x.hosts.parts)) name
    → (g.B.Bay.seen c.args.bay.now).out name ≡ true) (sym c.self.view_is) c.requires

pub returns-clause-back : goal.returns-clause-back
returns-clause-back g c = subst (λ (x : CoreParts g.row.D.Denot). ArePutBack g.B.Bay.seen c.args.bay.now c.put_hosts_back.new.bay (disks_in x.hosts)) c.self.view_is
    (all_back g.B.Bay.seen g.D.Disk.seen
    (parts_of c.self.inside.hosts) c.self.invariant.apart c.args.bay.now c.put_hosts_back.new.bay c.put_hosts_back.ensures)

pub returns-clause-are_in : goal.returns-clause-are_in
returns-clause-are_in g c = subst (λ (x : CoreParts g.row.D.Denot). (name : List ℕ) → IsOneOf (all_names (hosted_slots x.hosts.parts)) name
    → (g.B.Bay.seen c.put_hosts_back.new.bay).out name ≡ false) c.self.view_is
    (names_in g.B.Bay.seen g.D.Disk.seen
    (parts_of c.self.inside.hosts) c.self.invariant.apart c.args.bay.now c.put_hosts_back.new.bay c.put_hosts_back.ensures)

pub returns-clause-none_out : goal.returns-clause-none_out
returns-clause-none_out g c = λ out. all_in g.B.Bay.seen g.D.Disk.seen
    (parts_of c.self.inside.hosts) c.self.invariant.apart c.args.bay.now c.put_hosts_back.new.bay c.put_hosts_back.ensures
    (subst (λ (x : CoreParts g.row.D.Denot). AreOut g.B.Bay.seen (all_names (hosted_slots x.hosts.parts)) c.args.bay.now) (sym c.self.view_is) out)

pub returns-clause-noted : goal.returns-clause-noted
returns-clause-noted g c = back_noted g.B.Bay.seen g.D.Disk.seen
    (parts_of c.self.inside.hosts) c.self.invariant.apart c.args.bay.now c.put_hosts_back.new.bay c.put_hosts_back.ensures

pub returns-clause-others : goal.returns-clause-others
returns-clause-others g c = subst (λ (x : CoreParts g.row.D.Denot). (name : List ℕ) → (IsTaken x.conf name → ⊥)
    → SameSlot g.B.Bay.seen name c.args.bay.now c.put_hosts_back.new.bay) c.self.view_is
    (others_same g.B.Bay.seen g.D.Disk.seen
    (parts_of c.self.inside.hosts) c.self.invariant.apart c.args.bay.now c.put_hosts_back.new.bay c.put_hosts_back.ensures c.self.inside.conf c.self.invariant.hosts)

pub returns-clause-rises : goal.returns-clause-rises
returns-clause-rises g c = subst (λ (x : CoreParts g.row.D.Denot). HasRisen g.B.Bay.seen g.D.Disk.seen c.args.bay.now (disks_in x.hosts)
    → Rose (g.B.Bay.seen c.args.bay.now).faults (g.B.Bay.seen c.put_hosts_back.new.bay).faults) c.self.view_is
    (all_rise g.B.Bay.seen g.D.Disk.seen
    (parts_of c.self.inside.hosts) c.self.invariant.apart c.args.bay.now c.put_hosts_back.new.bay c.put_hosts_back.ensures)

pub returns-clause-later : goal.returns-clause-later
returns-clause-later g c = (back_moves g.B.Bay.seen g.D.Disk.seen
    (parts_of c.self.inside.hosts) c.self.invariant.apart c.args.bay.now c.put_hosts_back.new.bay c.put_hosts_back.ensures).later

pub returns-clause-told : goal.returns-clause-told
returns-clause-told g c = (back_moves g.B.Bay.seen g.D.Disk.seen
    (parts_of c.self.inside.hosts) c.self.invariant.apart c.args.bay.now c.put_hosts_back.new.bay c.put_hosts_back.ensures).told
