use Rattle.flex_fields.proofs.Puts.{structure_put}
use Rattle.msgs_admin.specs.DescribeOffsetsReply.{described_offsets_shape, described_offsets}
use Rattle.msgs_admin.proofs.describe_offsets_reply.DescribedOffsetsWire.put.Goals as goal

pub returns-clause-ok : goal.returns-clause-ok
unfolding described_offsets
returns-clause-ok c = structure_put described_offsets_shape _ _ _ _ c.put_structure.result c.put_structure.ensures.ok
