use Rattle.std.proofs.Common.{◌-◌, ◌≡◌, ◌≤◌, ◌+◌, ◌*◌, ◌++◌, length, take, drop}
use Rattle.lock_index.specs.Runs.{held_of, met_count}
use Rattle.window_runs.specs.Cuts.{cut}
use Rattle.window_runs.specs.Kept.{indexed}
use Rattle.window_runs.proofs.range.end_range.Given as goal

abbrev pub invariant-loop-place : goal.invariant-loop-place
invariant-loop-place g l =
    (l.list.runs ≡ take l.place l.fn.list.runs ++ cut l.first l.last (drop l.place l.fn.list.runs)) × (l.place ≤ l.end)
    × (l.gone + length (held_of l.list.runs) ≡ length (held_of l.fn.list.runs)) × (l.index.pairs ≡ indexed l.list.runs)
    × (l.fn.list.room ≤ l.list.room) × (l.fn.index.room ≤ l.index.room)
    × (l.steps + 3 * met_count l.first l.last (take l.place l.fn.list.runs) ≤ l.fn.steps + 3 * met_count l.first l.last l.fn.list.runs)
    × (l.fn.steps + met_count l.first l.last l.fn.list.runs ≤ l.steps + met_count l.first l.last (take l.place l.fn.list.runs))

abbrev pub decreases-loop-place : goal.decreases-loop-place
decreases-loop-place g l = l.place - l.start
