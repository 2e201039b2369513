use Rattle.std.proofs.Common.{◌≡◌, take}
use Rattle.share_session.specs.Plans.{releases_of}
use Rattle.share_session.proofs.sessions.releases_of.Given as goal

abbrev pub invariant-loop-session : goal.invariant-loop-session
invariant-loop-session l = l.steps.items ≡ releases_of (take l.session-index l.sessions)
