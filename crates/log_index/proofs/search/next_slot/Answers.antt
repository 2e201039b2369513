use Rattle.std.proofs.Common.{arith, subst, sym, Some, length, ◌<◌}
use Rattle.share_model.specs.Logs.{IsNextSlot}
use Rattle.log_index.specs.Indexes.{log_of}
use Rattle.log_index.proofs.Searching.{none_left, next_there, there}
use Rattle.log_index.proofs.search.next_slot.Goals as goal

pub returns-then-count-entries : goal.returns-then-count-entries
returns-then-count-entries c = none_left 0 c.args.entries.now c.args.from c.count_below-count.result c.count_below-count.ensures (omega arith)

pub returns : goal.returns
returns c =
    let n = c.count_below-count.result in
    let within : n < length c.args.entries.now = omega (arith, c.count_below-count.ensures.within, c.if-count-entries.false) in
    let at = there 0 c.args.entries.now c.args.from n (record { base = 0; last = 0; size = 0; place = 0 }) c.requires c.count_below-count.ensures within in
    subst (λ m. IsNextSlot (log_of c.args.entries.now) c.args.from (Some m)) (sym c.max.ensures) (next_there c.args.entries.now c.args.from n _ at)
