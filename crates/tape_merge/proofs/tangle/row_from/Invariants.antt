use Rattle.std.proofs.Common.{List, IsTrue, length, nat_eq}
use Rattle.std.specs.List.{list_any}
use Rattle.share_record.specs.declared.tape.LinkTape.{LinkTape}
use Rattle.share_record.specs.declared.tape.ShardTape.{ShardTape}
use Rattle.tape_merge.specs.Moves.{Counts}
use Rattle.tape_merge.specs.Waiting.{WaitInRow}
use Rattle.tape_merge.proofs.tangle.row_from.Given as goal

abbrev pub invariant-loop-first : goal.invariant-loop-first
invariant-loop-first l = record {
  has : IsTrue (list_any (nat_eq l.at) l.rest);
  row : (tapes : List ShardTape) (links : List LinkTape) (counts : Counts) → WaitInRow tapes links counts l.path l.at → WaitInRow tapes links counts l.rest l.at;
}

abbrev pub decreases-loop-first : goal.decreases-loop-first
decreases-loop-first l = length l.rest
