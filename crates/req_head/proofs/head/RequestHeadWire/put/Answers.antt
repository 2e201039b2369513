use Rattle.flex_fields.proofs.Puts.{◌▸◌, structure_writes}
use Rattle.req_head.specs.Heads.{head_shape, request_head}
use Rattle.req_head.proofs.head.RequestHeadWire.put.Goals as goal

pub returns-clause-ok : goal.returns-clause-ok
unfolding request_head
returns-clause-ok c =
    rw (← c.self.view_is)
    (structure_writes head_shape
    (c.in_ok-put.ensures.ok ▸ c.in_ok-put-2.ensures.ok ▸ c.in_ok-put-3.ensures.ok ▸ c.in_ok-put_client.ensures.ok)
    c.in_ok-put_tags.ensures.ok)
