-- What pieces say of an offset.
use Rattle.std.proofs.Common.{◌≡◌, ℕ, ◌<◌, ◌≤◌, List, [], ◌∷◌, Some, None, refl, ◌∙◌, arith}
use Rattle.std.proofs.lemmas.Bool.Decides.{nat_tests}
use Rattle.ack_ranges.specs.Pieces.{piece_at, Follows, IsCanonical}
use Rattle.ack_ranges.specs.declared.piece.Piece.{Piece}

-- within the first piece
pub here : (x : Piece) (xs : List Piece) (o : ℕ) → x.first ≤ o → o ≤ x.last → piece_at (x ∷ xs) o ≡ Some x.kind
here x xs o from to = grind (arith, nat_tests)

-- below the first piece
pub below : (x : Piece) (xs : List Piece) (o : ℕ) → o < x.first → piece_at (x ∷ xs) o ≡ piece_at xs o
below x xs o under = grind (arith, nat_tests)

-- beyond the first piece
pub beyond : (x : Piece) (xs : List Piece) (o : ℕ) → x.last < o → piece_at (x ∷ xs) o ≡ piece_at xs o
beyond x xs o over = grind (arith, nat_tests)

-- pieces that follow a piece say nothing up to its end
pub none : (x : Piece) (xs : List Piece) (o : ℕ) → Follows x xs → IsCanonical xs → o ≤ x.last → piece_at xs o ≡ None
none x [] o follows canonical upto = refl
none x (next ∷ xs) o follows canonical upto =
    let under : o < next.first = omega (arith, follows.0) in
    below next xs o under ∙ none next xs o canonical.1 canonical.2 (omega (arith, canonical.0))

-- a list with this head begins at it
pub begins_at : (x : Piece) (xs : List Piece) (o : ℕ) → IsCanonical (x ∷ xs) → o < x.first → piece_at (x ∷ xs) o ≡ None
begins_at x xs o canonical under = below x xs o under ∙ none x xs o canonical.1 canonical.2 (omega (arith, canonical.0))
