use Rattle.share_client.proofs.Walking.{sized_below, sized_more}
use Rattle.share_client.proofs.batches.size_in.Goals as goal

pub returns-in_default : goal.returns-in_default
returns-in_default c = sized_below c.args.bytes.now c.in_default.ensures

pub returns-then-bytes-size : goal.returns-then-bytes-size
returns-then-bytes-size c = sized_more c.args.bytes.now c.in-Some.length c.in-Some.ensures c.if-bytes-size.true
