use Rattle.ack_ranges.proofs.Spans.{stands_from, pieces_of, pieces_few}
use Rattle.ack_ranges.proofs.walk.Pieces.new.Goals as goal

pub invariant_of-result : goal.invariant_of-result
invariant_of-result c = stands_from c.args.batches.now c.requires

pub returns-clause-pieces : goal.returns-clause-pieces
returns-clause-pieces c = pieces_of c.args.batches.now c.requires

pub returns-clause-few : goal.returns-clause-few
returns-clause-few c = pieces_few c.args.batches.now
