-- What a reader of scripts does to the text that is still to come (this project's own).
-- For example of `end` and, behind its line feed, `x` nothing is taken, and the fault is at 4.
use Rattle.std.specs.Prelude.{◌≡◌, ◌≤◌, ◌+◌, List, [], ◌++◌, ℕ, Bool, true, length, Result, Ok, Err, IfSome}
use Rattle.std.specs.declared.option.Option.{Option}
use Rattle.std.specs.Io.KnownBytes.{Consumes, IsAtEnd}
use Rattle.session_script.specs.declared.reader.Taken.{Taken}
use Rattle.session_script.specs.declared.reader.Taken.TheVariants.{Event, End}
use Rattle.session_script.specs.declared.reader.ScriptFault.{ScriptFault}
use Rattle.session_script.specs.declared.reader.ScriptFault.TheVariants.{Malformed, Read, NoMemory}
use Rattle.session_script.specs.Script.{line_of, end_line, IsEvent, HasNoMalformed, IsRefused, longest}
use Rattle.session_script.specs.Unread.{Unread}

-- the source gave some bytes, and of what was pending and of these a line was taken
pub record Takes (old new : Unread) (before after : Option (List ℕ)) (line : List ℕ) : Type 0 where
  pub given : List ℕ
  pub consumed : Consumes before after given
  pub parts : old.pending ++ given ≡ line ++ new.pending
  pub place : new.place ≡ old.place + length line

-- the line that an answer takes; a refusal takes none
abbrev pub taken_line : Result Taken ScriptFault → List ℕ
taken_line (Ok (Event event)) = line_of event
taken_line (Ok End) = end_line
taken_line (Err fault) = []

-- What an answer says. After a refusal for want of memory it says nothing. Where the source tells its bytes, `left` is
-- what it has left, and the text that is still to come is what is pending and these.
abbrev pub Answers : Unread → Option (List ℕ) → Bool → Result Taken ScriptFault → Type 0
Answers new left ended (Ok (Event event)) = IsEvent event × (new.place ≤ longest)
Answers new left ended (Ok End) = (new.pending ≡ []) × IsAtEnd left × (ended ≡ true) × (new.place ≤ longest)
Answers new left ended (Err (Malformed fault)) = IfSome left (λ more. IsRefused new.place (new.pending ++ more) fault)
Answers new left ended (Err Read) = HasNoMalformed new.place new.pending
Answers new left ended (Err NoMemory) = Unit {0}

-- the last line stands at the front of what is pending
abbrev pub EndStands : Unread → Type 0
EndStands unread = (more : List ℕ) × (unread.pending ≡ end_line ++ more) × (unread.place + 4 ≤ longest)
