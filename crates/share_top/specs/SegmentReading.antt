-- What a reader of segments finds at the front of what is still to come. Private clauses cite this alone.
-- For example 12 bytes whose length field says 57 begin a batch of 69 bytes.
use Rattle.std.specs.Prelude.{◌≡◌, ◌≢◌, ◌<◌, ◌≤◌, ◌+◌, ◌+ℤ◌, pos, ℕ, List, [], ◌++◌, length, Bool, true, false, Result, Ok, Err, IfSome}
use Rattle.std.specs.declared.option.Option.{Option}
use Rattle.std.specs.Io.KnownBytes.{IsAtEnd}
use Rattle.session_script.specs.Script.{longest}
use Rattle.session_script.specs.Unread.{Unread}
use Rattle.rec_batch.specs.Batches.{max_size}
use Rattle.rec_batch.specs.Fields.{batch_length}
use Rattle.share_top.specs.declared.segment.Front.{Front}
use Rattle.share_top.specs.declared.segment.Front.TheVariants.{Batch, End}
use Rattle.share_top.specs.declared.segment.SegmentFault.{SegmentFault}
use Rattle.share_top.specs.declared.segment.SegmentFault.TheVariants.{Refused, Read, NoMemory}

-- the length field says this size, which a batch may have
pub record IsSize (header : List ℕ) (size : ℕ) : Type 0 where
  pub least : 61 ≤ size
  pub most : size ≤ max_size
  pub is : batch_length header +ℤ pos 12 ≡ pos size

abbrev pub IsNoSize : List ℕ → Type 0
IsNoSize header = (size : ℕ) → IsSize header size → ⊥

-- bytes of the size that their length field says
abbrev pub IsSized : List ℕ → Type 0
IsSized bytes = IsSize bytes (length bytes)

-- such bytes stand whole at the front of the rest
pub record IsFront (place : ℕ) (rest : List ℕ) (size : ℕ) : Type 0 where
  pub says : IsSize rest size
  pub whole : size ≤ length rest
  pub within : place + size ≤ longest

-- none do
abbrev pub HasNoFront : ℕ → List ℕ → Type 0
HasNoFront place rest = (bytes more : List ℕ) → IsSized bytes → rest ≡ bytes ++ more → longest < place + length bytes

-- something stands there, and no such bytes do
abbrev pub RefusesFront : ℕ → List ℕ → Type 0
RefusesFront place rest = HasNoFront place rest × (rest ≢ [])

-- What an answer says. After want of memory it says nothing.
abbrev pub Answers : Unread → Option (List ℕ) → Bool → Result Front SegmentFault → Type 0
Answers new left ended (Ok (Batch size)) = IsFront new.place new.pending size
Answers new left ended (Ok End) = (new.pending ≡ []) × IsAtEnd left × (ended ≡ true)
Answers new left ended (Err Refused) = IfSome left (λ more. RefusesFront new.place (new.pending ++ more))
Answers new left ended (Err Read) = HasNoFront new.place new.pending
Answers new left ended (Err NoMemory) = Unit {0}

-- so many bytes are pending, or the source has ended and fewer are
abbrev pub IsFilled : ℕ → Unread → Option (List ℕ) → Bool → Bool → Type 0
IsFilled count new left ended true = count ≤ length new.pending
IsFilled count new left ended false = (length new.pending < count) × IsAtEnd left × (ended ≡ true)

-- what is pending begins at `start` of the buffer
pub record IsHeld (buffer : List ℕ) (start place : ℕ) : Type 0 where
  pub within : start ≤ length buffer
  pub segment : place ≤ longest
