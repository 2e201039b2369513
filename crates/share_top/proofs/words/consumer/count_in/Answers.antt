use Rattle.share_top.specs.Words.{texts}
use Rattle.share_top.proofs.ConsumerWords.{count_on}
use Rattle.share_top.proofs.words.consumer.count_in.Goals as goal

pub returns-in-Some : goal.returns-in-Some
returns-in-Some c = count_on (texts c.args.words.now) c.in-Some.value.now c.in-Some.ensures c.number.result c.number.ensures

pub returns-in-None : goal.returns-in-None
returns-in-None c = λ count is. c.in-None.ensures _ is.2
