-- The pieces of acknowledgement batches: the maximal runs of consecutive offsets with one kind, over all batches (this project's own).
-- For example a batch from 10 to 19 with the types 1 and one from 20 to 22 with the types 1, 1, 2 have two pieces: 10 to 21 is accepted, and
-- 22 is released.
use Rattle.std.specs.Prelude.{◌≡◌, ◌≢◌, ◌+◌, ◌≤◌, ◌<◌, ℕ, List, [], ◌∷◌, Option, Some, None, nat_le, ◌&&◌, if◌then◌else◌}
use Rattle.share_model.specs.declared.ack.AckBatch.{AckBatch}
use Rattle.share_model.specs.declared.ack.AckKind.{AckKind}
use Rattle.ack_ranges.specs.Batches.{kind_at}
use Rattle.ack_ranges.specs.declared.piece.Piece.{Piece}

-- what a list of pieces says of an offset
abbrev pub piece_at : List Piece → ℕ → Option AckKind
piece_at [] offset = None
piece_at (piece ∷ pieces) offset = if nat_le piece.first offset && nat_le offset piece.last then Some piece.kind else piece_at pieces offset

-- the pieces begin behind this one, and the first of them can't be joined to it
abbrev pub Follows : Piece → List Piece → Type 0
Follows piece [] = Unit {0}
Follows piece (next ∷ pieces) = (piece.last < next.first) × (next.first ≡ piece.last + 1 → next.kind ≢ piece.kind)

-- none is empty, they are in order and disjoint, and no neighbours could be joined, so that a look-up has one such list
abbrev pub IsCanonical : List Piece → Type 0
IsCanonical [] = Unit {0}
IsCanonical (piece ∷ pieces) = (piece.first ≤ piece.last) × Follows piece pieces × IsCanonical pieces

-- these are the pieces of the batches
pub record ArePieces (batches : List AckBatch) (pieces : List Piece) : Type 0 where
  pub canonical : IsCanonical pieces
  pub same : (offset : ℕ) → piece_at pieces offset ≡ kind_at batches offset
