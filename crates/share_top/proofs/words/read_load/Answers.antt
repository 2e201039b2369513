use Rattle.share_top.specs.Words.{texts}
use Rattle.share_top.specs.WordReading.{AreTopics}
use Rattle.share_top.proofs.OneCommand.{no_shard}
use Rattle.share_top.proofs.words.read_load.Goals as goal

pub returns-in-None : goal.returns-in-None
returns-in-None c =
    let are : AreTopics (texts c.in-Some-target.rest.now) c.in-Some-2.topics = rw c.in-Some-2.is at c.in_ok-topics.ensures in
    no_shard (texts c.args.words.now) (texts c.in-Some.rest.now) (texts c.in-Some-target.rest.now) c.in-Some.ensures.0 c.in-Some-target.name.now c.in-Some-target.number
    c.in-Some-2.topics c.in-Some.ensures.1 c.in-Some-target.ensures are (rw c.as_slice.ensures.same at c.in-None.ensures.found)
