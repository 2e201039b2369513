use Rattle.std.proofs.Common.{◌≡◌, sym, subst, ◌∙◌}
use Rattle.std.proofs.lemmas.Bool.{false≢true}
use Rattle.edge_io.specs.Names.{IsTopicName}
use Rattle.share_top.specs.Words.{texts}
use Rattle.share_top.proofs.ConsumerWords.{one_topic}
use Rattle.share_top.proofs.words.consumer.topic_in.Goals as goal

pub returns-in_default : goal.returns-in_default
returns-in_default c = λ name is. c.in_default.ensures _ is.1

pub returns-then-not-is_topic_name : goal.returns-then-not-is_topic_name
returns-then-not-is_topic_name c = λ name is.
    let same : c.as_bytes.result.now ≡ c.in-Some.value.now = c.as_bytes.ensures.value in
    let topic = one_topic (texts c.args.words.now) c.in-Some.value.now name c.in-Some.ensures is in
    false≢true (c.if-not-is_topic_name.ensures.1 (subst IsTopicName (sym same) topic))
