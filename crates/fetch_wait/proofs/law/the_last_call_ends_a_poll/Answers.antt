use Rattle.fetch_wait.proofs.LastCalls.{ends_by}
use Rattle.fetch_wait.proofs.law.the_last_call_ends_a_poll.Goals as goal

pub returns : goal.returns
returns g = ends_by
