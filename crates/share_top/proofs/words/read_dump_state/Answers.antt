use Rattle.std.proofs.Common.{◌∷◌, codes, subst, sym}
use Rattle.share_top.specs.Words.{AreDumpStateWords, texts}
use Rattle.share_top.specs.WordReading.{AreTopics, AreNoTopics}
use Rattle.share_top.proofs.OneCommand.{are_dump, no_dump_folder, no_dump_topics}
use Rattle.share_top.proofs.words.read_dump_state.Goals as goal

pub returns-in_default : goal.returns-in_default
returns-in_default c = no_dump_folder (texts c.args.words.now) c.in_default.ensures

pub returns-in-Some-2 : goal.returns-in-Some-2
returns-in-Some-2 c =
    let are : AreTopics (texts c.in-Some.rest.now) c.in-Some-2.topics = rw c.in-Some-2.is at c.in_ok-topics.ensures in
    subst (AreDumpStateWords (codes "dump-state" ∷ texts c.args.words.now)) (sym c.config.ensures)
    (are_dump (texts c.args.words.now) (texts c.in-Some.rest.now) c.in-Some.ensures.0 c.in-Some.ensures.1 c.in-Some-2.topics are)

pub returns-in-None : goal.returns-in-None
returns-in-None c =
    let none : AreNoTopics (texts c.in-Some.rest.now) = rw c.in-None.is at c.in_ok-topics.ensures in
    no_dump_topics (texts c.args.words.now) (texts c.in-Some.rest.now) c.in-Some.ensures.0 c.in-Some.ensures.1 none
