-- What a consumer's program is in between. The clauses of private functions cite it, and no public one does.
-- For example before its first call the core stands for the empty trace, and nothing was written.
use Rattle.std.specs.Prelude.{◌≡◌, ℕ, List, ◌++◌, ◌∷◌, Option, Some, None, Ok}
use Rattle.std.specs.Io.KnownBytes.{Appends}
use Rattle.edge_io.specs.Streams.{AppendsFront}
use Rattle.share_client.specs.declared.client.ClientCore.{ClientCore}
use Rattle.share_client.specs.declared.conf.ClientConf.{ClientConf}
use Rattle.share_client.specs.declared.step.ClientStep.TheVariants.{Write}
use Rattle.share_client.specs.Cores.{StandsFor}
use Rattle.share_client.specs.Traces.{Trace}
use Rattle.share_client.specs.Traces.Call.{Asked}
use Rattle.consume_run.specs.declared.end.ConsumeEnd.{ConsumeEnd}
use Rattle.consume_run.specs.declared.end.ConsumeEnd.TheVariants as end
use Rattle.consume_run.specs.Ends.{GoesOn, IsOutside, before_newest, ended_by, given, written}

-- the program goes on, and has written the lines of its core's trace
pub record Goes (conf : ClientConf) (start : Option (List ℕ)) (core : ClientCore) (held : Option (List ℕ)) : Type 0 where
  pub trace : Trace
  pub stands : StandsFor conf core trace
  pub goes_on : GoesOn conf trace
  pub wrote : Appends start held (written trace)

-- the newest call gave these lines, which are to be written
pub record Offers (conf : ClientConf) (start : Option (List ℕ)) (core : ClientCore) (held : Option (List ℕ)) (lines : List ℕ) : Type 0 where
  pub before : Trace
  pub now : ℕ
  pub stands : StandsFor conf core (Asked now (Ok (Write lines)) ∷ before)
  pub goes_on : GoesOn conf before
  pub wrote : Appends start held (written before)

-- the newest call ends the program so, or it doesn't and what is outside the core does
abbrev pub EndsBy : Option ConsumeEnd → ConsumeEnd → Type 0
EndsBy None result = IsOutside result
EndsBy (Some told) result = result ≡ told

-- what was written before the last line
abbrev pub WroteBefore : (start held : Option (List ℕ)) → Trace → ConsumeEnd → Type 0
WroteBefore start held trace end.Output = (rest : List ℕ) × AppendsFront start held (written trace ++ given trace) rest
WroteBefore start held trace result = Appends start held (written trace)

-- the program ended, but for its last line
pub record Stops (conf : ClientConf) (start held : Option (List ℕ)) (result : ConsumeEnd) : Type 0 where
  pub core : ClientCore
  pub trace : Trace
  pub stands : StandsFor conf core trace
  pub goes_on : GoesOn conf (before_newest trace)
  pub ends : EndsBy (ended_by conf trace) result
  pub wrote : WroteBefore start held trace result

-- a link was lost: records stay unacknowledged, or no other link was given
abbrev pub IsLossEnd : ConsumeEnd → Type 0
IsLossEnd end.Unacknowledged = Unit {0}
IsLossEnd end.NoLink = Unit {0}
IsLossEnd end.Listener = Unit {0}
IsLossEnd _ = ⊥

-- the ends that what a link brings may have
abbrev pub IsNewsEnd : ConsumeEnd → Type 0
IsNewsEnd (end.Refused code) = Unit {0}
IsNewsEnd (end.Strange place) = Unit {0}
IsNewsEnd end.NoMemory = Unit {0}
IsNewsEnd end.Unacknowledged = Unit {0}
IsNewsEnd end.NoLink = Unit {0}
IsNewsEnd end.Listener = Unit {0}
IsNewsEnd _ = ⊥
