use Rattle.std.proofs.Common.{◌≡◌, ◌-◌, None}
use Rattle.msgs_admin.specs.HeldRecords.{HELD_TAG, held_records}
use Rattle.msgs_admin.specs.KnownTag.{known_from_at}
use Rattle.msgs_admin.proofs.held_records.take_tags.Given as goal

abbrev pub invariant-loop : goal.invariant-loop
invariant-loop l =
    known_from_at HELD_TAG held_records.read l.held (l.count - l.counter) l.cursor ≡ known_from_at HELD_TAG held_records.read None l.count l.fn.cursor
