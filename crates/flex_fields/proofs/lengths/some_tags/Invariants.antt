use Rattle.std.proofs.Common.{◌≡◌, ◌-◌}
use Rattle.flex_fields.specs.Reading.{some_tags_at}
use Rattle.flex_fields.specs.Spots.{at_of}
use Rattle.flex_fields.proofs.lengths.some_tags.Given as goal

abbrev pub invariant-loop : goal.invariant-loop
invariant-loop l = some_tags_at (l.count - l.counter) (at_of l.rest) ≡ some_tags_at l.count (at_of l.at)
