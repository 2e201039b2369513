use Rattle.std.proofs.Common.{◌≡◌, ◌++◌, drop}
use Rattle.share_session.specs.Requests.{entries}
use Rattle.share_calls.specs.Acknowledge.{placed}
use Rattle.share_calls.proofs.ack_entries.place_all.Given as goal

abbrev pub invariant-loop-topic : goal.invariant-loop-topic
invariant-loop-topic l =
    l.left.items ++ placed l.conf.topics l.steps.items (entries (drop l.topic-index l.topics))
    ≡ l.fn.left.items ++ placed l.conf.topics l.fn.steps.items (entries l.topics)
