use Rattle.std.proofs.Common.{arith, refl, length, get_or, ◌<◌}
use Rattle.log_index.proofs.Searching.{none_left, there}
use Rattle.log_index.proofs.search.place_of.Goals as goal

pub returns-then-count-entries : goal.returns-then-count-entries
returns-then-count-entries c = none_left 0 c.args.entries.now c.args.offset c.count_below-count.result c.count_below-count.ensures (omega arith) c.args.offset (omega arith)

pub returns-then-offset-entry : goal.returns-then-offset-entry
returns-then-offset-entry c =
    let within : c.count_below-count.result < length c.args.entries.now = omega (arith, c.count_below-count.ensures.within, c.if-count-entries.false) in
    let at = there 0 c.args.entries.now c.args.offset _ (record { base = 0; last = 0; size = 0; place = 0 }) c.requires c.count_below-count.ensures within in
    λ s. let le = at.least c.args.offset (omega arith) s in omega (arith, le, c.if-offset-entry.true)

pub returns : goal.returns
returns c =
    let within : c.count_below-count.result < length c.args.entries.now = omega (arith, c.count_below-count.ensures.within, c.if-count-entries.false) in
    let at = there 0 c.args.entries.now c.args.offset _ (record { base = 0; last = 0; size = 0; place = 0 }) c.requires c.count_below-count.ensures within in
    record {
      entry = get_or c.args.entries.now c.count_below-count.result (record { base = 0; last = 0; size = 0; place = 0 });
      at = at.at;
      within = (c.if-offset-entry.false, at.last);
      base = refl;
      last = refl;
      size = refl;
    }
