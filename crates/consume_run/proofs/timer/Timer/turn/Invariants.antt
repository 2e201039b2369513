use Rattle.futures.specs.LinkedLists.Wheel.{armed_count}
use Rattle.consume_run.proofs.timer.Timer.turn.Given as goal

abbrev pub decreases-loop-key : goal.decreases-loop-key
decreases-loop-key g l = armed_count l.alarm.wheel
