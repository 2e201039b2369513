use Rattle.std.proofs.Common.{◌≡◌, drop, nat_eq}
use Rattle.std.specs.List.{filter_map}
use Rattle.indexmap.specs.IndexSet as key_set
use Rattle.share_session.specs.Requests.{entries, forgotten_of, forgotten_in}
use Rattle.share_session.proofs.wanted.forgotten_in.Given as goal

abbrev pub invariant-loop-topic : goal.invariant-loop-topic
invariant-loop-topic l =
    key_set.insert_all nat_eq l.forgotten.keys (filter_map (forgotten_of l.conf.topics) (entries (drop l.topic-index l.topics)))
    ≡ forgotten_in l.conf.topics l.topics
