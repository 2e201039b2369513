use Rattle.msgs_share.specs.declared.share_fetch_reply.FetchedPartition.{FetchedPartition}
use Rattle.share_calls.proofs.Elements.{one_of_each}
use Rattle.share_calls.proofs.law.each_topic_has_one_element.Goals as goal

pub returns : goal.returns
returns c = one_of_each FetchedPartition
