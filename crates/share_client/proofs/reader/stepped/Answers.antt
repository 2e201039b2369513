use Rattle.std.proofs.Common.{◌≡◌, ◌≤◌, ◌∙◌, List, [], sym, ap, refl, arith}
use Rattle.share_client.specs.Records.{OffsetRecord, from_offset}
use Rattle.share_client.proofs.Reading.{at_end, begins_there, next_below, next_stays}
use Rattle.share_client.proofs.Walking.{empty_of}
use Rattle.share_client.proofs.reader.stepped.Goals as goal

pub returns-then-is_empty-clause-none : goal.returns-then-is_empty-clause-none
returns-then-is_empty-clause-none c = λ records l.
    let e : records ≡ [] = at_end c.args.reader records l c.if-reader-eq0.true (empty_of c.args.reader.rest.now c.if-is_empty.ensures) in
    ap (λ (x : List OffsetRecord). from_offset c.args.offset x) e ∙ sym e

pub returns-then-reader-eq0-clause-some : goal.returns-then-reader-eq0-clause-some
returns-then-reader-eq0-clause-some c = λ records l. (records, c.opened.ensures.same records l, refl)

pub record_at-found-requires : goal.record_at-found-requires
record_at-found-requires c =
    let some : 1 ≤ c.args.reader.left = omega (arith, c.if-reader-eq0.false) in
    record { begins = begins_there c.args.reader c.requires.0 c.requires.1 some }

pub returns-then-not-is_below-clause-none : goal.returns-then-not-is_below-clause-none
returns-then-not-is_below-clause-none c =
    let some : 1 ≤ c.args.reader.left = omega (arith, c.if-reader-eq0.false) in
    λ records l. next_stays c.args.reader some c.record_at-found.result c.record_at-found.ensures.delta c.record_at-found.ensures.value c.record_at-found.ensures.next records l
    c.args.offset (sym c.if-not-is_below.ensures)

pub returns-clause-some : goal.returns-clause-some
returns-clause-some c =
    let some : 1 ≤ c.args.reader.left = omega (arith, c.if-reader-eq0.false) in
    λ records l. next_below c.args.reader some c.record_at-found.result c.record_at-found.ensures.delta c.record_at-found.ensures.value c.record_at-found.ensures.next records l
    c.args.offset (sym c.if-not-is_below.ensures) _ refl refl refl refl refl
