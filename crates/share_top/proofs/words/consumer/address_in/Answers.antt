use Rattle.share_top.specs.Words.{texts}
use Rattle.share_top.proofs.ConsumerWords.{address_on}
use Rattle.share_top.proofs.words.consumer.address_in.Goals as goal

pub returns-in-Some : goal.returns-in-Some
returns-in-Some c = address_on (texts c.args.words.now) c.in-Some.value.now c.in-Some.ensures c.read_address.result c.read_address.ensures

pub returns-in-None : goal.returns-in-None
returns-in-None c = λ address is. c.in-None.ensures _ is.1
