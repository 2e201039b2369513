use Rattle.std.proofs.Common.{◌≡◌, [], drop, nat_eq}
use Rattle.indexmap.specs.IndexMap as entry_map
use Rattle.share_session.specs.Requests.{wanted_in}
use Rattle.share_session.proofs.wanted.wanted_in.Given as goal

abbrev pub invariant-loop-topic : goal.invariant-loop-topic
invariant-loop-topic l =
    entry_map.insert_all nat_eq l.wanted.entries (wanted_in l.conf.topics (drop l.topic-index l.topics))
    ≡ entry_map.insert_all nat_eq [] (wanted_in l.conf.topics l.topics)
