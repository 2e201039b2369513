-- A trace: the calls of a consumer with their answers, the newest first. This project's own.
-- For example a consumer that was asked once, at moment 7, and gave its first heartbeat, has a trace of one call.
use Rattle.std.specs.Prelude.{ℕ, ℤ, zero, suc, pos, Bool, true, false, ◌||◌, List, [], ◌∷◌, Option, Some, None, Result, Ok, Err, if◌then◌else◌}
use Rattle.std.specs.Option.{option_or, unwrap_or}
use Rattle.flex_fields.specs.declared.fault.NoMemory.{NoMemory}
use Rattle.share_session.specs.Sessions.{next_epoch}
use Rattle.share_client.specs.declared.fault.ClientFault.{ClientFault}
use Rattle.share_client.specs.declared.step.ClientStep.{ClientStep}
use Rattle.share_client.specs.declared.step.ClientStep.TheVariants.{Heartbeat, Fetch, Write, Wait, Done}
use Rattle.share_client.specs.declared.step.LinkKind.{LinkKind}
use Rattle.share_client.specs.declared.step.LinkKind.TheVariants.{Group, Data}
use Rattle.share_client.specs.declared.step.Took.{Took}
use Rattle.share_client.specs.declared.step.Took.TheVariants.{Taken, Stray}

pub data Call : Type 0 where
  -- what is to be done at this moment
  Asked : (now : ℕ) (answer : Result ClientStep NoMemory) → Call
  -- a frame came on a link
  Got : (on : LinkKind) (frame : List ℕ) (answer : Result Took ClientFault) → Call
  -- a link ended
  Lost : (on : LinkKind) → Call
  -- the lines that were handed out are written
  Wrote : Call

abbrev pub Trace : Type 0
Trace = List Call

-- What the newest call says that says something of the matter. A call is seen with the trace before it.
abbrev pub newest : {X : Type 0} → (Call → Trace → Option X) → Trace → Option X
newest says [] = None
newest says (call ∷ before) = option_or (says call before) (newest says before)

abbrev pub is_fault : Call → Bool
is_fault (Got on frame (Err fault)) = true
is_fault (Got on frame (Ok took)) = false
is_fault (Asked now answer) = false
is_fault (Lost on) = false
is_fault Wrote = false

-- whether a reply was a fault
abbrev pub is_over : Trace → Bool
is_over [] = false
is_over (call ∷ before) = is_fault call || is_over before

-- a request on the link
abbrev pub is_request : LinkKind → Call → Bool
is_request Group (Asked now (Ok (Heartbeat frame))) = true
is_request Data (Asked now (Ok (Fetch frame))) = true
is_request on call = false

-- how many requests were sent on the link
abbrev pub requests : LinkKind → Trace → ℕ
requests on [] = 0
requests on (call ∷ before) = if is_request on call then suc (requests on before) else requests on before

-- The correlation id of a link's request of this number, counted from 1: they count up, and 1 follows 2147483647.
abbrev pub correlation : ℕ → ℤ
correlation zero = pos 0
correlation (suc n) = next_epoch (correlation n)

abbrev pub writing_by : Call → Trace → Option Bool
writing_by (Asked now (Ok (Write lines))) before = Some true
writing_by Wrote before = Some false
writing_by call before = None

-- lines were handed out that aren't yet said to be written
abbrev pub is_writing : Trace → Bool
is_writing trace = unwrap_or (newest writing_by trace) false
