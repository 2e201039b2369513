-- A connection as it is kept in memory, which private functions and the view of `Conn` cite alone: its sessions are those that it has,
-- and while it closes the undone releases are those of the sessions that are left.
-- For example a connection that closes with one session on the shard 2 left has that one release, and no session.
use Rattle.std.specs.Prelude.{ℕ, List, []}
use Rattle.share_session.specs.declared.step.PlanStep.{PlanStep}
use Rattle.share_session.specs.SessionParts.{SessionParts}
use Rattle.share_session.specs.Plans.{releases_of}
use Rattle.conn_core.specs.declared.work.Work.{Work}
use Rattle.conn_core.specs.declared.work.Work.TheVariants.{Free, Busy, Overlong, Closing}
use Rattle.conn_core.specs.Conns.{ConnParts}

abbrev pub sessions_at : Work → List SessionParts → List SessionParts
sessions_at Free kept = kept
sessions_at (Busy tags correlation hand) kept = kept
sessions_at Overlong kept = kept
sessions_at Closing kept = []

abbrev pub releases_at : Work → List SessionParts → List PlanStep
releases_at Free kept = []
releases_at (Busy tags correlation hand) kept = []
releases_at Overlong kept = []
releases_at Closing kept = releases_of kept

abbrev pub seen : List ℕ → Work → List SessionParts → List (List ℕ) → ConnParts
seen unread work kept replies =
    record { unread = unread; work = work; sessions = sessions_at work kept; releases = releases_at work kept; replies = replies }
