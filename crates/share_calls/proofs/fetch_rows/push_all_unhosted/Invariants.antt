use Rattle.std.proofs.Common.{◌≡◌, ◌++◌, map, drop}
use Rattle.std.specs.List.{filter_map}
use Rattle.share_session.specs.Requests.{entries}
use Rattle.share_calls.specs.Fetch.{unhosted_of, known}
use Rattle.share_calls.proofs.fetch_rows.push_all_unhosted.Given as goal

abbrev pub invariant-loop-topic : goal.invariant-loop-topic
invariant-loop-topic l =
    l.left.items ++ map known (filter_map (unhosted_of l.conf.topics) (entries (drop l.topic-index l.topics)))
    ≡ l.fn.left.items ++ map known (filter_map (unhosted_of l.conf.topics) (entries l.topics))
