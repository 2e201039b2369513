use Rattle.std.proofs.Common.{subst}
use Rattle.flex_fields.specs.Formats.{Writes, array}
use Rattle.flex_fields.proofs.Puts.{array_writes}
use Rattle.flex_fields.proofs.wire.put_array.Goals as goal

pub returns-clause-ok : goal.returns-clause-ok
returns-clause-ok g c =
    let items = c.as_slice-items.ensures in
    subst (λ xs. Writes (array g.T.Wire.format) c.args.out.now c.put_many.new.out xs) items.items
    (array_writes g.T.Wire.format c.as_slice-items.result.now
    (rw items.items items.few) c.in_ok-put_array_len.ensures.ok c.in_ok-put_many.ensures.bytes c.in_ok-put_many.ensures.stands)
