use Rattle.std.proofs.Common.{◌++◌, ◌∷◌, []}
use Rattle.consume_run.proofs.Fronts.{first_breaks, second_breaks, third_comes}
use Rattle.consume_run.proofs.last_line.write_numbered.Goals as goal

pub returns-in_err-write_all-clause-front : goal.returns-in_err-write_all-clause-front
returns-in_err-write_all-clause-front g c =
    first_breaks _ _ c.args.word.now (c.args.number.now ++ 10 ∷ []) (rw c.as_bytes.ensures.value at c.write_all.ensures.front)

pub returns-in_err-write_all-2-clause-front : goal.returns-in_err-write_all-2-clause-front
returns-in_err-write_all-2-clause-front g c =
    second_breaks _ _ _ c.args.word.now c.args.number.now (10 ∷ []) (rw c.as_bytes.ensures.value at c.in_ok-write_all.ensures.ok)
    (rw c.as_bytes-2.ensures.value at c.write_all-2.ensures.front)

pub returns-clause-front : goal.returns-clause-front
returns-clause-front g c =
    third_comes _ _ _ _ c.args.word.now c.args.number.now (10 ∷ []) (rw c.as_bytes.ensures.value at c.in_ok-write_all.ensures.ok)
    (rw c.as_bytes-2.ensures.value at c.in_ok-write_all-2.ensures.ok) c.write_all-3.ensures.front
