-- How far a session may have come, so that its numbers fit their fields (this project's own).
-- For example before the first act all counts are 0.
use Rattle.std.specs.Prelude.{◌≤◌, ◌*◌, ℕ}
use Rattle.gen_load.specs.declared.counts.Counts.{Counts}

-- the counts of so many acts at most
pub record AreFew (acts : ℕ) (counts : Counts) : Type 0 where
  pub frames : counts.frames ≤ acts
  pub end : counts.end ≤ 5 * acts
  pub asked_a : counts.asked_a ≤ acts
  pub asked_b : counts.asked_b ≤ acts
