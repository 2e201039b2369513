use Rattle.std.proofs.Common.{◌≡◌, drop}
use Rattle.share_session.specs.Plans.{releases_of}
use Rattle.share_session.proofs.sessions.first_release.Given as goal

abbrev pub invariant-loop-session : goal.invariant-loop-session
invariant-loop-session l = releases_of (drop l.session-index l.sessions) ≡ releases_of l.sessions
