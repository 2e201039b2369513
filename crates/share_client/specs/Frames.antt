-- Frames of requests and replies (Kafka protocol guide, "Protocol": a size of four bytes, a header and a body; RequestHeader.json
-- version 2 and ResponseHeader.json version 1).
-- For example the reply with correlation id 7 to a heartbeat that is refused with 81 is
-- `00000017 00000007 00 00000000 0051 00 00 00000000 00000000 ff 00`.
use Rattle.std.specs.Prelude.{◌≡◌, ◌+◌, ◌≤◌, ℕ, ℤ, Bool, true, false, List, ◌++◌, length, take, drop, Result, Ok, Err, nat_lt, if◌then◌else◌}
use Rattle.std.specs.Int.{w32, to_be_bytes, from_be_bytes}
use Rattle.std.specs.Option.{option_map_or}
use Rattle.std.specs.Ordering.{int_eq}
use Rattle.std.specs.Result.{result_ok}
use Rattle.flex_fields.specs.declared.fault.WireFault.{WireFault}
use Rattle.flex_fields.specs.declared.fault.WireFault.TheVariants.{Short, BadVarint, BadLength, NotUtf8, Trailing, NoMemory as no_memory}
use Rattle.flex_fields.specs.Reading.{At, int_at, whole_at}
use Rattle.flex_fields.specs.Formats.{Format, ◌▹◌}
use Rattle.req_head.specs.Heads.{reply_head}
use Rattle.share_client.specs.declared.fault.ClientFault.{ClientFault}
use Rattle.share_client.specs.declared.fault.ClientFault.TheVariants.{Refused, Strange, NoMemory}

-- the size of a content, and the content
abbrev pub framed : List ℕ → List ℕ
framed content = to_be_bytes w32 (length content) ++ content

-- A whole frame: four bytes of size, and just as many bytes behind them as this unsigned number says.
abbrev pub IsFrame : List ℕ → Type 0
IsFrame frame = (4 ≤ length frame) × (from_be_bytes w32 (take 4 frame) + 4 ≡ length frame)

-- the content of a frame from its first byte on
abbrev pub behind_size : List ℕ → At
behind_size frame = record { place = 0; left = drop 4 frame }

-- the reply has this correlation id
abbrev pub has_correlation : List ℕ → ℤ → Bool
has_correlation frame number = option_map_or (λ x. int_eq x.0 number) (result_ok (int_at w32 (behind_size frame))) false

-- a reply: its correlation id with tags behind it, and its body
abbrev pub replied : {A : Type 0} → Format A → Format (ℤ × A)
replied f = reply_head true ▹ f

-- the reply of a frame, or why it isn't one
abbrev pub reply_in : {A : Type 0} → Format A → List ℕ → Result (ℤ × A) WireFault
reply_in f frame = whole_at (replied f).read (drop 4 frame)

-- a place within a frame, which has fewer than 2^32 bytes behind its size
abbrev pub within : ℕ → ℕ
within place = if nat_lt place 4294967295 then place else 4294967295

-- what a fault of reading says of a reply
abbrev pub fault_of : WireFault → ClientFault
fault_of (Short place) = Strange (within place)
fault_of (BadVarint place) = Strange (within place)
fault_of (BadLength place) = Strange (within place)
fault_of (NotUtf8 place) = Strange (within place)
fault_of (Trailing place) = Strange (within place)
fault_of no_memory = NoMemory

-- what is said of a reply by reading it: its body, or the place of its fault
abbrev pub said : {A : Type 0} → Result (ℤ × A) WireFault → Result A ClientFault
said (Ok x) = Ok x.1
said (Err fault) = Err (fault_of fault)

-- The answer is what is to be said, or want of memory.
abbrev pub IsAnswer : {A : Type 0} → Result A ClientFault → Result A ClientFault → Type 0
IsAnswer (Err NoMemory) told = Unit {0}
IsAnswer (Err (Refused code)) told = told ≡ Err (Refused code)
IsAnswer (Err (Strange place)) told = told ≡ Err (Strange place)
IsAnswer (Ok x) told = told ≡ Ok x
