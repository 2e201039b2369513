use Rattle.std.proofs.Common.{◌≡◌, refl, sym, subst, List, [], false, arith, rules}
use Rattle.edge_io.specs.Bays.{IsSound}
use Rattle.edge_mem.specs.Bays.{fresh}
use Rattle.edge_mem.specs.Seen.{bay_view, disk_view}
use Rattle.edge_mem.specs.Streams.{Numbered}
use Rattle.edge_mem.specs.declared.bay.Slot.{Slot}
use Rattle.edge_mem.proofs.bay.MemBay.new.Goals as goal

pub returns-clause-sound : goal.returns-clause-sound
returns-clause-sound c none =
    let bare : c.new.result.items ≡ [] = search rules in
    let calls : c.new-2.result ≡ record { failing = c.args.failing.items; made = 0; faults = 0 } = search rules in
    subst (λ (n : Numbered).
    IsSound bay_view disk_view (record { slots = c.new.result.items; failing = n.failing; calls = n.made; starved = false; faults = n.faults }))
    (sym calls) (subst
    (λ (slots : List Slot). IsSound bay_view disk_view (record { slots = slots; failing = c.args.failing.items; calls = 0; starved = false; faults = 0 }))
    (sym bare)
    (record {
      each = λ name is. (
        fresh,
        refl,
        record { tells = refl; is_unarmed = refl; is_fed = refl; few_faults = omega arith; few_arms = omega arith },
      );
      is_steady = none;
    }))
