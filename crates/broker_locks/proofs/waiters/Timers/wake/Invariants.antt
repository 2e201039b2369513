use Rattle.futures.specs.LinkedLists.Wheel.{armed_count}
use Rattle.broker_locks.proofs.waiters.Timers.wake.Given as goal

abbrev pub decreases-loop-seat : goal.decreases-loop-seat
decreases-loop-seat g l = armed_count l.alarms.wheel
