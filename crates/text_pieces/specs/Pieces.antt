-- What a call does to its sink that writes a long text piece by piece (this project's own).
-- For example a table of 5,000 runs is written by three calls of the sink, and where the second one fails, the text's
-- first 65536 bytes and more stand there.
use Rattle.std.specs.Prelude.{◌≡◌, ◌≢◌, ◌≤◌, List, ℕ, ◌++◌, OnOk, Result, Err}
use Rattle.std.specs.declared.option.Option.{Option}
use Rattle.std.specs.Io.KnownBytes.{Appends}
use Rattle.edge_io.specs.Causes.{Rose}
use Rattle.edge_io.specs.Streams.{AppendsFront}
use Rattle.text_pieces.specs.declared.fault.GenFault.{GenFault}
use Rattle.text_pieces.specs.declared.fault.GenFault.TheVariants.{Write}

-- so many bytes are a piece
abbrev pub piece_size : ℕ
piece_size = 65536

-- The text is written whole, or a front of it: where the sink failed, whose count of faults rose then and else stands
-- as it was, or where no memory was found.
pub record WritesPieces {T : Type 0} (old new : Option (List ℕ)) (before after : ℕ) (text : List ℕ)
    (result : Result T GenFault) : Type 0 where
  pub whole : OnOk result (Appends old new text)
  pub front : (rest : List ℕ) × AppendsFront old new text rest
  pub cause : result ≡ Err Write → Rose before after
  pub later : before ≤ after
  pub counted : result ≢ Err Write → after ≡ before

-- a front of what waited was handed on, and the rest waits
pub record HandsOn (old new : Option (List ℕ)) (waited waits : List ℕ) : Type 0 where
  pub front : List ℕ
  pub grown : Appends old new front
  pub parts : front ++ waits ≡ waited

-- so it is at Ok, and where the sink failed, whose count of faults rose then and else stands as it was, it took a
-- front of what waited
pub record HandsFull {T : Type 0} (old new : Option (List ℕ)) (before after : ℕ) (waited waits : List ℕ)
    (result : Result T GenFault) : Type 0 where
  pub done : OnOk result (HandsOn old new waited waits)
  pub front : (rest : List ℕ) × AppendsFront old new waited rest
  pub cause : result ≡ Err Write → Rose before after
  pub later : before ≤ after
  pub counted : result ≢ Err Write → after ≡ before
