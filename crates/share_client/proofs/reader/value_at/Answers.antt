use Rattle.std.proofs.Common.{◌≡◌, ◌≤◌, List, [], sym, ap, arith}
use Rattle.std.specs.Option.{option_copied}
use Rattle.share_client.specs.Records.{OffsetRecord, first_at}
use Rattle.share_client.proofs.Reading.{at_end, begins_there, next_elsewhere, next_there, shows_next}
use Rattle.share_client.proofs.reader.value_at.Goals as goal

pub returns-then-reader-eq0 : goal.returns-then-reader-eq0
returns-then-reader-eq0 c = λ records l.
    let e : records ≡ [] = at_end c.args.reader records l c.if-reader-eq0.true (c.requires.settled c.if-reader-eq0.true) in
    ap (λ (x : List OffsetRecord). first_at c.args.offset x) (sym e)

pub record_at-found-requires : goal.record_at-found-requires
record_at-found-requires c =
    let some : 1 ≤ c.args.reader.left = omega (arith, c.if-reader-eq0.false) in
    record { begins = begins_there c.args.reader c.requires.left.0 c.requires.left.1 some }

pub returns-then-not-is_at : goal.returns-then-not-is_at
returns-then-not-is_at c =
    let some : 1 ≤ c.args.reader.left = omega (arith, c.if-reader-eq0.false) in
    λ records l. next_elsewhere c.args.reader some c.record_at-found.result c.record_at-found.ensures.delta c.record_at-found.ensures.value c.record_at-found.ensures.next records l
    c.args.offset (sym c.if-not-is_at.ensures)

pub value_of-requires : goal.value_of-requires
value_of-requires c =
    let some : 1 ≤ c.args.reader.left = omega (arith, c.if-reader-eq0.false) in
    shows_next c.args.reader some c.record_at-found.result c.record_at-found.ensures.delta c.record_at-found.ensures.value c.record_at-found.ensures.next c.requires.left.0 c.requires.left.1

pub returns : goal.returns
returns c =
    let some : 1 ≤ c.args.reader.left = omega (arith, c.if-reader-eq0.false) in
    λ records l. next_there c.args.reader some c.record_at-found.result c.record_at-found.ensures.delta c.record_at-found.ensures.value c.record_at-found.ensures.next records l
    c.args.offset (option_copied c.value_of.result) (sym c.if-not-is_at.ensures) c.value_of.ensures
