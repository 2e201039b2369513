-- The walk over the pieces of batches (this project's own): spans of one kind, one for a batch with one type and else one for each type,
-- which are joined where they touch.
-- For example the batch from 10 to 11 with the types 1, 1 has two spans and one piece.
use Rattle.std.specs.Prelude.{◌+◌, ◌<◌, ℕ, unsigned_abs, Bool, List, [], ◌∷◌, ◌++◌, drop, length, nat_eq, ◌&&◌, unwrap_or, slice_index, if◌then◌else◌}
use Rattle.std.specs.List.{AllByRecursion}
use Rattle.share_model.specs.Acks.{kind_of}
use Rattle.share_model.specs.declared.ack.AckBatch.{AckBatch}
use Rattle.share_model.specs.declared.ack.AckKind.{AckKind}
use Rattle.share_model.specs.declared.ack.AckKind.TheVariants.{Gap, Accept, Release, Reject}
use Rattle.ack_ranges.specs.Batches.{IsSound}
use Rattle.ack_ranges.specs.declared.piece.Piece.{Piece}

-- the kind of a type of a batch that is well formed
abbrev pub sound_kind : ℕ → AckKind
sound_kind number = unwrap_or (kind_of number) Gap

-- a span for each type, at offsets from this one on
abbrev pub spans_from : ℕ → List ℕ → List Piece
spans_from offset [] = []
spans_from offset (number ∷ numbers) = (record { first = offset; last = offset; kind = sound_kind number }) ∷ spans_from (offset + 1) numbers

-- the spans of a batch
abbrev pub spans_in : AckBatch → List Piece
spans_in batch =
    if nat_eq (length batch.types) 1
    then (record { first = unsigned_abs batch.first; last = unsigned_abs batch.last; kind = sound_kind (slice_index batch.types 0) }) ∷ []
    else spans_from (unsigned_abs batch.first) batch.types

abbrev pub spans_of : List AckBatch → List Piece
spans_of [] = []
spans_of (batch ∷ batches) = spans_in batch ++ spans_of batches

-- the spans that are left behind so many of the first batch
abbrev pub spans_left : ℕ → List AckBatch → List Piece
spans_left place [] = []
spans_left place (batch ∷ batches) = drop place (spans_in batch) ++ spans_of batches

abbrev pub kind_number : AckKind → ℕ
kind_number Gap = 0
kind_number Accept = 1
kind_number Release = 2
kind_number Reject = 3

-- the second begins right behind the first, with the same kind
unfoldable pub touches : Piece → Piece → Bool
touches x y = nat_eq (x.last + 1) y.first && nat_eq (kind_number x.kind) (kind_number y.kind)

-- a span in front of pieces
abbrev pub join_to : Piece → List Piece → List Piece
join_to x [] = x ∷ []
join_to x (y ∷ ys) = if touches x y then (record x { last = y.last }) ∷ ys else x ∷ y ∷ ys

-- spans as pieces
abbrev pub joined : List Piece → List Piece
joined [] = []
joined (x ∷ xs) = join_to x (joined xs)

-- the walk stands at a type of the first batch, and the batches are well formed by themselves
abbrev pub StandsIn : ℕ → List AckBatch → Type 0
StandsIn place [] = Unit {0}
StandsIn place (batch ∷ batches) = (place < length batch.types) × IsSound batch × AllByRecursion IsSound batches
