use Rattle.std.proofs.Common.{◌≡◌, drop}
use Rattle.share_session.specs.Requests.{entries, has_repeat}
use Rattle.share_session.specs.Seen.{was_seen, repeats}
use Rattle.share_session.proofs.repeats.has_repeat.Given as goal

abbrev pub invariant-loop-topic : goal.invariant-loop-topic
invariant-loop-topic l = has_repeat (entries l.topics) ≡ repeats (was_seen l.seen.keys) (entries (drop l.topic-index l.topics))
