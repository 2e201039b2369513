use Rattle.tape_merge.proofs.Orders.{keeps_orders}
use Rattle.tape_merge.proofs.law.each_merge_keeps_the_orders.Goals as goal

pub returns : goal.returns
returns c = λ topics tapes links events merge. keeps_orders tapes links merge.last merge.moves merge.go merge.done
