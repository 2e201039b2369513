use Rattle.std.proofs.Common.{◌∙◌, ◌++◌, List, [], ◌∷◌, map, sym, ap, arith, append_assoc}
use Rattle.std.specs.List.{range_with_len}
use Rattle.std.proofs.lemmas.List.FromFn.{map-range_with_len_more}
use Rattle.call_fold.specs.declared.call.Entry.{Entry}
use Rattle.describe_calls.specs.declared.looks.GroupAsk.{GroupAsk}
use Rattle.describe_calls.specs.declared.looks.GroupRow.{GroupRow}
use Rattle.describe_calls.specs.Groups.{table_entry}
use Rattle.describe_calls.proofs.looks.plan_tables.Goals as goal

pub loop-shard-preserved : goal.loop-shard-preserved
loop-shard-preserved c =
    let shard = c.loop-shard.shard in
    let before = c.args.left.now.items in
    let entry = table_entry c.args.group in
    rw (c.in_ok-push_back.ensures.items, c.loop-shard.invariant)
    (append_assoc before (map entry (range_with_len 0 shard)) (entry shard ∷ [])
    ∙ ap (λ (l : List (Entry GroupAsk GroupRow)). before ++ l) (sym (map-range_with_len_more entry 0 shard shard (omega arith))))
