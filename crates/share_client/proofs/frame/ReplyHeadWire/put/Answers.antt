use Rattle.flex_fields.proofs.Puts.{structure_writes}
use Rattle.req_head.specs.Heads.{number_alone}
use Rattle.share_client.proofs.frame.ReplyHeadWire.put.Goals as goal

pub returns-clause-ok : goal.returns-clause-ok
returns-clause-ok c =
    rw (← c.self.view_is) (structure_writes number_alone c.in_ok-put.ensures.ok c.in_ok-put_tags.ensures.ok)
