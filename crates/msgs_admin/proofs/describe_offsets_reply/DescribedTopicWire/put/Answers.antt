use Rattle.flex_fields.proofs.Puts.{structure_put}
use Rattle.msgs_admin.specs.DescribeOffsetsReply.{described_topic_shape, described_topic}
use Rattle.msgs_admin.proofs.describe_offsets_reply.DescribedTopicWire.put.Goals as goal

pub returns-clause-ok : goal.returns-clause-ok
unfolding described_topic
returns-clause-ok c = structure_put described_topic_shape _ _ _ _ c.put_structure.result c.put_structure.ensures.ok
