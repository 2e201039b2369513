use Rattle.std.proofs.Common.{◌∙◌, [], refl}
use Rattle.text_pieces.proofs.Going.{begun, failed, finished, handed, starved}
use Rattle.gen_load.specs.Scripts.{script_of}
use Rattle.gen_load.proofs.Writing.{end_said, round_few, round_said}
use Rattle.gen_load.proofs.write.write_script.Goals as goal

pub returns-in_default : goal.returns-in_default
returns-in_default g c = starved _ _ _ _ [] (script_of c.args.n) (script_of c.args.n) (begun _ [] (script_of c.args.n)) refl

pub returns-in-Err : goal.returns-in-Err
returns-in-Err g c =
    failed _ _ _ _ _ _ _ _ _ (script_of c.args.n) c.in-Err.fault
    (round_said c.args.n c.loop-done.done _ _ _ _ c.loop-done-test.true c.loop-done.invariant.so_far c.in-Ok-round.ensures)
    c.loop-done.invariant.counted c.in-Err.ensures.handed

pub loop-done-preserved : goal.loop-done-preserved
loop-done-preserved g c = record {
  so_far = handed _ _ _ _ _ _ (script_of c.args.n)
      (round_said c.args.n c.loop-done.done _ _ _ _ c.loop-done-test.true c.loop-done.invariant.so_far c.in-Ok-round.ensures) c.in-Ok-hand_full.ensures.handed.done;
  few = round_few c.loop-done.done _ _ c.loop-done.invariant.few c.in-Ok-round.ensures;
  counted = c.in-Ok-hand_full.ensures.handed.counted (λ e. absurd (let never : ⊥ = cc in never)) ∙ c.loop-done.invariant.counted;
}

pub returns : goal.returns
returns g c = finished _ _ _ _ _ _ _ (script_of c.args.n) c.hand_on.result
    (end_said c.args.n c.loop-done.done _ _ _ _ c.loop-done-test.false c.loop-done.invariant.so_far c.in-Ok-put_end.ensures)
    c.loop-done.invariant.counted c.hand_on.ensures.written
