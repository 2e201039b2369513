use Rattle.std.proofs.Common.{length}
use Rattle.share_client.proofs.Covering.{Looked}
use Rattle.share_client.proofs.covers.cover.Given as goal

abbrev pub invariant-loop-span : goal.invariant-loop-span
invariant-loop-span l = Looked l.first l.last l.spans l.need l.rest

abbrev pub decreases-loop-span : goal.decreases-loop-span
decreases-loop-span l = length l.rest
