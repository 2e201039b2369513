use Rattle.tape_merge.proofs.Rounds.{untangled}
use Rattle.tape_merge.proofs.law.no_merge_has_a_cycle.Goals as goal

pub returns : goal.returns
returns c = λ topics tapes links events merge place cycle. untangled tapes links merge.last merge.moves merge.go merge.done place cycle
