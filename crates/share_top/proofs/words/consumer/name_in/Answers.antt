use Rattle.std.proofs.lemmas.Bool.{false≢true}
use Rattle.share_top.specs.Words.{texts}
use Rattle.share_top.proofs.ConsumerWords.{short_value}
use Rattle.share_top.proofs.words.consumer.name_in.Goals as goal

pub returns-in_default : goal.returns-in_default
returns-in_default c = λ name is. c.in_default.ensures _ is.2

pub returns-then-not-is_short : goal.returns-then-not-is_short
returns-then-not-is_short c = λ name is.
    false≢true (c.if-not-is_short.ensures.1 (short_value c.args.option.now (texts c.args.words.now) c.in-Some.value.now name c.in-Some.ensures is))
