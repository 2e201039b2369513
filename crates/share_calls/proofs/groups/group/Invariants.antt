use Rattle.std.proofs.Common.{◌≡◌, List, ℕ, map, fold, Vec, Global}
use Rattle.msgs_share.specs.declared.share_fetch_reply.FetchedPartition.{FetchedPartition}
use Rattle.share_calls.specs.Fetch.{row_of_topic}
use Rattle.share_calls.specs.Visits.{told_rows}
use Rattle.share_calls.specs.Rows.{with_row, grouped}
use Rattle.share_calls.proofs.groups.group.Given as goal

abbrev pub invariant-loop-row : goal.invariant-loop-row
invariant-loop-row l =
    fold with_row (map (λ (g : List ℕ × Vec FetchedPartition Global). (g.0, g.1.items)) l.groups.entries) (map row_of_topic (told_rows l.row-iterator.rest.items))
    ≡ grouped (map row_of_topic (told_rows l.fn.rows.items))
