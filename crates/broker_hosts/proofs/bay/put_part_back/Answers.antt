use Rattle.std.proofs.Common.{◌≡◌, sym, subst, List, ℕ, [], ◌∷◌, Some}
use Rattle.std.specs.declared.option.Option.{Option}
use Rattle.edge_io.specs.declared.name.DiskPlace.TheVariants.{Log, StateA, StateB}
use Rattle.broker_hosts.specs.Hosts.{part_disk}
use Rattle.broker_hosts.specs.Taking.{PutsAll}
use Rattle.broker_hosts.proofs.bay.put_part_back.Goals as goal

pub returns : goal.returns
returns g c =
    let log : Some c.disks_of_part.result.0 ≡ part_disk c.args.slot.state Log = sym c.disks_of_part.ensures.log in
    let first : Some c.disks_of_part.result.1 ≡ part_disk c.args.slot.state StateA = sym c.disks_of_part.ensures.first in
    let second : Some c.disks_of_part.result.2 ≡ part_disk c.args.slot.state StateB = sym c.disks_of_part.ensures.second in
    subst (λ (es : List (List ℕ × Option g.row.D.Denot)). PutsAll g.B.Bay.seen g.D.Disk.seen es c.args.bay.now c.put_three.new.bay)
    (λ i. (c.names_of-names.ensures.log i, log i) ∷ (c.names_of-names.ensures.first i, first i) ∷ (c.names_of-names.ensures.second i, second i) ∷ [])
    c.put_three.ensures
