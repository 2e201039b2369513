-- What a look tells of a group on a partition: whether a fetch would find a record now, and which one (KIP-932, the records of a
-- share-partition that are available; the window of 2000 slots is this project's own). It goes over the slots of an acquisition walk, the
-- first 2000 from the start of the group's table, and tells the first of them that is available.
-- Worked example: a log has batches from 0 to 1 and from 5 to 6, and the table of `g` starts at 0. While 0 is held and 1 is acknowledged, 5 is
-- told of `g`, and nothing once 5 and 6 are held too. Of `h`, which never fetched, it is told that it has no table.
use Rattle.std.specs.Prelude.{ℕ, List, Option, Some, None, find, is_some}
use Rattle.share_model.specs.Held.{Held}
use Rattle.share_model.specs.Logs.{Batch}
use Rattle.share_model.specs.ShareStates.{ShareState}
use Rattle.share_model.specs.declared.offer.Offer.{Offer}
use Rattle.share_model.specs.declared.offer.Offer.TheVariants.{NoTable, Slot, Nothing}
use Rattle.share_part.specs.Slots.{slots_from}
use Rattle.share_part.specs.Tables.{Table, delivery_of, table_of}

-- the least slot of an acquisition walk that may be acquired
abbrev pub least_available : List Batch → Table → Option ℕ
least_available log table = find (λ slot. is_some (delivery_of table slot)) (slots_from 2000 log table.start)

abbrev pub offered : Option ℕ → Offer
offered None = Nothing
offered (Some offset) = Slot offset

-- of a group that has this state on the partition, if it has one, and holds this
abbrev pub offer_of : List Batch → Held → Option ShareState → Offer
offer_of log held None = NoTable
offer_of log held (Some state) = offered (least_available log (table_of state held))
