use Rattle.ack_ranges.proofs.Faults.{no_fault}
use Rattle.ack_ranges.proofs.judge.check.Goals as goal

pub returns-in_err-judge-clause-taken : goal.returns-in_err-judge-clause-taken
returns-in_err-judge-clause-taken c = λ well. absurd (no_fault c.args.batches.now _ c.in_err-judge.ensures.err well)
