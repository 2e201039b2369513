use Rattle.std.proofs.Common.{sym, arith}
use Rattle.std.proofs.lemmas.List.FromFn.{map-range_with_len_more}
use Rattle.group_calls.specs.Listing.{tables_entry}
use Rattle.group_calls.proofs.listing.plan_groups.Goals as goal

pub loop-shard-preserved : goal.loop-shard-preserved
loop-shard-preserved c =
    let shard = c.loop-shard.shard in
    rw (c.in_ok-push_back.ensures.items, c.loop-shard.invariant) (sym (map-range_with_len_more tables_entry 0 shard shard (omega arith)))
