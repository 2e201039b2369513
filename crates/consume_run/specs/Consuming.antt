-- A consumer's program, from its first call of the core to its end. This project's own.
-- For example a program whose core gave one `Write` with the line of one record, was told that it is written, and was done in the end
-- has written that line and nothing else, and its end is `Done`.
use Rattle.std.specs.Prelude.{◌≡◌, ◌⊎◌, ℕ, Bool, true, List, [], ◌∷◌, ◌++◌, Option, Some, None, Ok, Err}
use Rattle.std.specs.Io.KnownBytes.{Appends}
use Rattle.edge_io.specs.Causes.{Rose}
use Rattle.edge_io.specs.Streams.{AppendsFront}
use Rattle.share_client.specs.declared.client.ClientCore.{ClientCore}
use Rattle.share_client.specs.declared.conf.ClientConf.{ClientConf}
use Rattle.share_client.specs.Cores.{StandsFor}
use Rattle.share_client.specs.declared.fault.ClientFault.TheVariants.{Refused, Strange, NoMemory}
use Rattle.share_client.specs.Traces.{Trace}
use Rattle.share_client.specs.Traces.Call.{Asked, Got, Wrote, Lost}
use Rattle.consume_run.specs.declared.end.ConsumeEnd.{ConsumeEnd}
use Rattle.consume_run.specs.declared.end.ConsumeEnd.TheVariants as end
use Rattle.consume_run.specs.Ends.{GoesOn, HasLine, IsOutside, before_newest, ended_by, given, last_line, written}

-- The end is that of the newest call, where this call ends the program, or the output failed at its last line. Where it doesn't, what
-- is outside the core ended it.
abbrev pub EndsAs : Option ConsumeEnd → ConsumeEnd → Type 0
EndsAs None result = IsOutside result
EndsAs (Some told) result = (result ≡ told) ⊎ ((result ≡ end.Output) × HasLine told)

-- what the newest call gave to be written, or the last line of the end that it brings
abbrev pub due : Trace → Option ConsumeEnd → List ℕ
due trace None = given trace
due trace (Some told) = last_line told

-- What was written: the lines of the trace and the last line. Where the output failed, it has a front of them and of what was due.
abbrev pub Writes : ClientConf → (start held : Option (List ℕ)) → Trace → ConsumeEnd → Type 0
Writes conf start held trace end.Output = (rest : List ℕ) × AppendsFront start held (written trace ++ due trace (ended_by conf trace)) rest
Writes conf start held trace result = Appends start held (written trace ++ last_line result)

-- The core of these words stands for a trace whose newest call is the first that ends the program, if one does.
pub record Consumes (conf : ClientConf) (start held : Option (List ℕ)) (result : ConsumeEnd) : Type 0 where
  pub core : ClientCore
  pub trace : Trace
  pub stands : StandsFor conf core trace
  pub goes_on : GoesOn conf (before_newest trace)
  pub ends : EndsAs (ended_by conf trace) result
  pub writes : Writes conf start held trace result

-- The listener told that no more links come, or its count rose.
abbrev pub ComesByLinks : ConsumeEnd → (done : Bool) → (before now : ℕ) → Type 0
ComesByLinks end.NoLink done before now = done ≡ true
ComesByLinks end.Listener done before now = Rose before now
ComesByLinks _ done before now = Unit {0}

-- The output's count rose. With any other end it stands as it was.
abbrev pub ComesByOutput : ConsumeEnd → (before now : ℕ) → Type 0
ComesByOutput end.Output before now = Rose before now
ComesByOutput _ before now = now ≡ before

-- the spawner's count rose
abbrev pub ComesByJobs : ConsumeEnd → (before now : ℕ) → Type 0
ComesByJobs end.Spawner before now = Rose before now
ComesByJobs _ before now = Unit {0}

-- no link was lost, and no reply was refused or isn't one
abbrev pub GoesWell : Trace → Type 0
GoesWell [] = Unit {0}
GoesWell (Asked now answer ∷ before) = GoesWell before
GoesWell (Got on frame (Ok took) ∷ before) = GoesWell before
GoesWell (Got on frame (Err NoMemory) ∷ before) = GoesWell before
GoesWell (Got on frame (Err (Refused code)) ∷ before) = ⊥
GoesWell (Got on frame (Err (Strange place)) ∷ before) = ⊥
GoesWell (Wrote ∷ before) = GoesWell before
GoesWell (Lost on ∷ before) = ⊥

-- an end of a program whose core meets no fault and loses no link
abbrev pub IsCalm : ConsumeEnd → Type 0
IsCalm (end.Refused code) = ⊥
IsCalm (end.Strange place) = ⊥
IsCalm end.Unacknowledged = ⊥
IsCalm _ = Unit {0}
