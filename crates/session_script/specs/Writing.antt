-- What a call that writes a text does to its sink (this project's own).
-- For example `malformed 27` stands whole behind the reply before it.
use Rattle.std.specs.Prelude.{◌≡◌, ◌≢◌, ◌≤◌, List, ℕ, OnOk, Result, Err}
use Rattle.std.specs.declared.option.Option.{Option}
use Rattle.std.specs.Io.KnownBytes.{Appends, Keeps}
use Rattle.edge_io.specs.Causes.{Rose}
use Rattle.edge_io.specs.Streams.{AppendsFront}
use Rattle.session_script.specs.declared.writer.LineFault.{LineFault}
use Rattle.session_script.specs.declared.writer.LineFault.TheVariants.{Write, NoMemory}

-- The text is written whole, or the sink failed and took a front of it, or memory ran out and nothing was written.
-- Only the first fault raises the sink's count.
pub record WritesText {T : Type 0} (old new : Option (List ℕ)) (before after : ℕ) (text : List ℕ) (result : Result T LineFault) : Type 0 where
  pub whole : OnOk result (Appends old new text)
  pub front : result ≡ Err Write → (rest : List ℕ) × AppendsFront old new text rest
  pub nothing : result ≡ Err NoMemory → Keeps old new
  pub cause : result ≡ Err Write → Rose before after
  pub later : before ≤ after
  pub counted : result ≢ Err Write → after ≡ before
