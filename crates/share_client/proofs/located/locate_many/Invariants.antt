use Rattle.std.proofs.Common.{◌≡◌, ◌-◌, length}
use Rattle.flex_fields.specs.Reading.{many_at}
use Rattle.flex_fields.proofs.Repeated.{with_front}
use Rattle.share_client.proofs.located.locate_many.Given as goal

abbrev pub invariant-loop : goal.invariant-loop
invariant-loop g l = record {
  read : with_front l.items.items (many_at g.T.Locate.reading (l.count - l.counter) l.cursor) ≡ many_at g.T.Locate.reading l.count l.fn.cursor;
  taken : length l.items.items ≡ l.counter;
}
