-- What a broker in memory has stored, as text. Private clauses cite this alone.
-- For example one that was just started has the text of what its disks stand for.
use Rattle.std.specs.Prelude.{ℕ, List, [], ◌∷◌, ◌++◌, codes}
use Rattle.std.specs.List.{flat_map}
use Rattle.broker_hosts.specs.declared.slot.PartSlot.{PartSlot}
use Rattle.broker_hosts.specs.Hosts.{HostsParts, states_at, states_in}
use Rattle.share_top.specs.Dumping.{foreign_texts, tables_text}

abbrev pub slot_text : {D : Type 0} → PartSlot D → List ℕ
slot_text slot = tables_text slot.topic slot.conf.part (states_in slot.state)

abbrev pub core_text : {D : Type 0} → HostsParts D → List ℕ
core_text hosts =
    flat_map slot_text hosts.parts ++ (foreign_texts (states_at hosts.foreign) ++ (codes "end" ++ 10 ∷ []))
