use Rattle.std.proofs.Common.{◌≡◌, ◌++◌, List, ℕ, map, Vec, Global}
use Rattle.msgs_share.specs.declared.share_fetch_reply.FetchedPartition.{FetchedPartition}
use Rattle.share_calls.specs.Rows.{topics_of}
use Rattle.share_calls.proofs.groups.topics_in.Given as goal

abbrev pub invariant-loop-topic_id : goal.invariant-loop-topic_id
invariant-loop-topic_id l =
    l.topics.items ++ topics_of (map (λ (g : List ℕ × Vec FetchedPartition Global). (g.0, g.1.items)) l.topic_id-iterator)
    ≡ topics_of (map (λ (g : List ℕ × Vec FetchedPartition Global). (g.0, g.1.items)) l.fn.groups.entries)
