-- What acknowledgements say of the offsets from a log's start on. Those below are passed over, since their records are
-- deleted (KIP-932; Kafka's DeleteRecords). This project's own.
-- Worked example: a log starts at 2. An accept of 0 to 3 is one of 2 and 3, and one of 0 and 1 names no offset.
use Rattle.std.specs.Prelude.{◌≡◌, ℕ, List, [], ◌∷◌, Option, Some, None, max, nat_le, nat_lt, if◌then◌else◌}
use Rattle.ack_ranges.specs.Batches.{kind_at}
use Rattle.ack_ranges.specs.Pieces.{IsCanonical, piece_at}
use Rattle.ack_ranges.specs.declared.piece.Piece.{Piece}
use Rattle.share_model.specs.declared.ack.AckBatch.{AckBatch}
use Rattle.share_part.specs.Settling.{Acts}

abbrev pub named_from : ℕ → List AckBatch → Acts
named_from start batches offset = if nat_lt offset start then None else kind_at batches offset

-- ---- by their pieces

-- what is left of a piece from an offset on, if something is
abbrev pub cut_piece : ℕ → Piece → Option Piece
cut_piece start piece =
    if nat_le start piece.last then Some (record { first = max piece.first start; last = piece.last; kind = piece.kind }) else None

abbrev pub front_or : Option Piece → List Piece → List Piece → List Piece
front_or None pieces others = others
front_or (Some piece) pieces others = piece ∷ pieces

-- the pieces from an offset on
abbrev pub pieces_from : ℕ → List Piece → List Piece
pieces_from start [] = []
pieces_from start (piece ∷ pieces) = front_or (cut_piece start piece) pieces (pieces_from start pieces)

-- these are the pieces of what the batches say from an offset on
pub record AreNamed (start : ℕ) (batches : List AckBatch) (pieces : List Piece) : Type 0 where
  pub canonical : IsCanonical pieces
  pub same : (offset : ℕ) → piece_at pieces offset ≡ named_from start batches offset
