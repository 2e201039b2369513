-- What a share request does to the sessions of its connection, once it is taken up (KIP-932, share sessions): a request that is refused
-- does nothing.
-- For example a fetch of epoch 0 opens its member's session, and one of epoch 2 where the next is 1 leaves all as they were.
use Rattle.std.specs.Prelude.{◌≤◌, Option, Some, None, List, length}
use Rattle.share_session.specs.declared.change.SessionChange.{SessionChange}
use Rattle.share_session.specs.SessionParts.{SessionParts, most_sessions}
use Rattle.share_session.specs.Sessions.{applied}

-- the sessions after it
abbrev pub changed : Option SessionChange → List SessionParts → List SessionParts
changed None sessions = sessions
changed (Some change) sessions = applied change sessions

-- a connection has room for it
abbrev pub Fits : Option SessionChange → List SessionParts → Type 0
Fits None sessions = Unit {0}
Fits (Some change) sessions = length (applied change sessions) ≤ most_sessions
