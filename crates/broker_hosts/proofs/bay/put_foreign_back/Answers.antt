use Rattle.std.proofs.Common.{subst, List, ℕ}
use Rattle.broker_hosts.specs.Taking.{PutsBack}
use Rattle.broker_hosts.proofs.bay.put_foreign_back.Goals as goal

pub returns : goal.returns
returns g c = (
  c.disks_of_foreign-first.result.0,
  c.disks_of_foreign-first.result.1,
  c.put_back.new.self,
  c.disks_of_foreign-first.ensures,
  subst (λ (name : List ℕ). PutsBack g.B.Bay.seen g.D.Disk.seen name c.disks_of_foreign-first.result.0 c.args.bay.now c.put_back.new.self) c.foreign_state_a.ensures
      (record {
        there = c.put_back.ensures.there;
        is_in = c.put_back.ensures.is_in;
        taken = c.put_back.ensures.taken;
        others = c.put_back.ensures.others;
        counts = c.put_back.ensures.counts;
        later = c.put_back.ensures.later;
        steadies = c.put_back.ensures.steady;
      }),
  subst (λ (name : List ℕ). PutsBack g.B.Bay.seen g.D.Disk.seen name c.disks_of_foreign-first.result.1 c.put_back.new.self c.put_back-2.new.self) c.foreign_state_b.ensures
      (record {
        there = c.put_back-2.ensures.there;
        is_in = c.put_back-2.ensures.is_in;
        taken = c.put_back-2.ensures.taken;
        others = c.put_back-2.ensures.others;
        counts = c.put_back-2.ensures.counts;
        later = c.put_back-2.ensures.later;
        steadies = c.put_back-2.ensures.steady;
      }),
)
