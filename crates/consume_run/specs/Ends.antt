-- What the trace of a consumer's core says of its program: whether it ends, what was written, and what is written last. A trace has
-- the newest call first. This project's own.
-- For example behind a heartbeat's reply with the code 81 the program ends as refused, and the last line is `refused 81`. Behind
-- `Asked 7 (Ok (Write lines))` it goes on, and these lines are due.
use Rattle.std.specs.Prelude.{◌≡◌, ℕ, List, [], ◌∷◌, ◌++◌, Option, Some, None, Ok, Err, codes, if◌then◌else◌}
use Rattle.std.specs.Fmt.{decimal, signed_decimal}
use Rattle.share_client.specs.declared.conf.ClientConf.{ClientConf}
use Rattle.share_client.specs.declared.fault.ClientFault.{ClientFault}
use Rattle.share_client.specs.declared.fault.ClientFault.TheVariants.{Refused, Strange, NoMemory}
use Rattle.share_client.specs.declared.step.ClientStep.TheVariants.{Heartbeat, Fetch, Write, Wait, Done}
use Rattle.share_client.specs.Kept.{unacknowledged}
use Rattle.share_client.specs.Traces.{Trace}
use Rattle.share_client.specs.Traces.Call.{Asked, Got, Wrote, Lost}
use Rattle.consume_run.specs.declared.end.ConsumeEnd.{ConsumeEnd}
use Rattle.consume_run.specs.declared.end.ConsumeEnd.TheVariants as end

-- a fault of the core ends the program so
abbrev pub end_of : ClientFault → ConsumeEnd
end_of (Refused code) = end.Refused code
end_of (Strange place) = end.Strange place
end_of NoMemory = end.NoMemory

-- How the newest call ends the program, where it does: the core is done; a reply is a fault; or a link was lost when all records were
-- written, and before the reply to the last acknowledgement of them.
abbrev pub ended_by : ClientConf → Trace → Option ConsumeEnd
ended_by conf [] = None
ended_by conf (Asked now (Ok Done) ∷ before) = Some end.Done
ended_by conf (Asked now (Ok (Heartbeat frame)) ∷ before) = None
ended_by conf (Asked now (Ok (Fetch frame)) ∷ before) = None
ended_by conf (Asked now (Ok (Write lines)) ∷ before) = None
ended_by conf (Asked now (Ok (Wait until)) ∷ before) = None
ended_by conf (Asked now (Err none) ∷ before) = None
ended_by conf (Got on frame (Ok took) ∷ before) = None
ended_by conf (Got on frame (Err fault) ∷ before) = Some (end_of fault)
ended_by conf (Wrote ∷ before) = None
ended_by conf (Lost on ∷ before) = if unacknowledged conf (Lost on ∷ before) then Some end.Unacknowledged else None

-- no call of the trace ends the program
abbrev pub GoesOn : ClientConf → Trace → Type 0
GoesOn conf [] = Unit {0}
GoesOn conf (call ∷ before) = (ended_by conf (call ∷ before) ≡ None) × GoesOn conf before

-- the trace before the newest call
abbrev pub before_newest : Trace → Trace
before_newest [] = []
before_newest (call ∷ before) = before

-- the lines that the newest call gave to be written
abbrev pub given : Trace → List ℕ
given [] = []
given (Asked now (Ok (Write lines)) ∷ before) = lines
given (call ∷ before) = []

-- all that was written: the lines of each `Write` that `wrote` follows, in order
abbrev pub written : Trace → List ℕ
written [] = []
written (Asked now answer ∷ before) = written before
written (Got on frame answer ∷ before) = written before
written (Wrote ∷ before) = written before ++ given before
written (Lost on ∷ before) = written before

-- the last line of an end
abbrev pub last_line : ConsumeEnd → List ℕ
last_line (end.Refused code) = codes "refused " ++ (signed_decimal code ++ codes "\n")
last_line (end.Strange place) = codes "strange " ++ (decimal place ++ codes "\n")
last_line end.Unacknowledged = codes "unacknowledged\n"
last_line end.Done = []
last_line end.NoLink = []
last_line end.Output = []
last_line end.Listener = []
last_line end.Spawner = []
last_line end.NoMemory = []

-- an end that has a last line
abbrev pub HasLine : ConsumeEnd → Type 0
HasLine (end.Refused code) = Unit {0}
HasLine (end.Strange place) = Unit {0}
HasLine end.Unacknowledged = Unit {0}
HasLine _ = ⊥

-- an end that no call of the core brings
abbrev pub IsOutside : ConsumeEnd → Type 0
IsOutside end.NoLink = Unit {0}
IsOutside end.Output = Unit {0}
IsOutside end.Listener = Unit {0}
IsOutside end.Spawner = Unit {0}
IsOutside end.NoMemory = Unit {0}
IsOutside _ = ⊥
