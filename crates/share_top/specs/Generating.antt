-- The script of a number, as `gen` writes it (this project's own).
-- For example `gen 7` writes 57 lines, with status 0.
use Rattle.std.specs.Prelude.{ℕ}
use Rattle.std.specs.Io.KnownBytes.{Appends}
use Rattle.edge_io.specs.Causes.{Rose}
use Rattle.gen_load.specs.Scripts.{script_of}
use Rattle.share_top.specs.declared.status.Status.{Status}
use Rattle.share_top.specs.declared.status.Status.TheVariants.{Done, WriteFault, NoMemory}
use Rattle.share_top.specs.Changes.{OutputChange}
use Rattle.share_top.specs.Sessions.{WritesFrontOf}

-- The script of so many rounds was written, or a front of it. It was written whole where the
-- output's count of faults didn't rise and memory was found.
abbrev pub Generates : OutputChange → ℕ → Status → Type 0
Generates output n Done = Appends output.held output.held_after (script_of n)
Generates output n WriteFault =
    Rose output.faults output.faults_after × WritesFrontOf (script_of n) output
Generates output n NoMemory = WritesFrontOf (script_of n) output
Generates output n _ = ⊥
