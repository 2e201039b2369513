-- What is held once holds end.
use Rattle.std.proofs.Common.{◌≡◌, ◌∙◌, refl, ap, ℕ, List, [], ◌∷◌, Option, Some, Bool, true, false, cond}
use Rattle.std.specs.Prelude.{filter, is_none, not, nat_le, ◌&&◌, if◌then◌else◌}
use Rattle.ack_ranges.specs.Pieces.{piece_at}
use Rattle.ack_ranges.specs.declared.piece.Piece.{Piece}
use Rattle.share_model.specs.Held.{Held, without_range}
use Rattle.share_model.specs.declared.ack.AckBatch.{AckBatch}
use Rattle.share_model.specs.declared.ack.AckKind.{AckKind}
use Rattle.share_model.specs.declared.hold.Hold.{Hold}
use Rattle.share_part.specs.Named.{AreNamed, named_from}
use Rattle.share_part.specs.Settling.{Acts, held_after}
use Rattle.share_part.proofs.Naming.{agreed}

-- the elements that pass one test, and then another
pub both : (p q : ℕ × Hold → Bool) (xs : Held) → filter q (filter p xs) ≡ filter (λ e. p e && q e) xs
both p q [] = refl
both p q (e ∷ xs) = go (p e) (both p q xs)
  where
    go : (b : Bool) → filter q (filter p xs) ≡ filter (λ x. p x && q x) xs
        → filter q (cond b (e ∷ filter p xs) (filter p xs)) ≡ cond (b && q e) (e ∷ filter (λ x. p x && q x) xs) (filter (λ x. p x && q x) xs)
    go true ih = λ i. cond (q e) (e ∷ ih i) (ih i)
    go false ih = ih

pub all_pass : (p : ℕ × Hold → Bool) (xs : Held) → ((e : ℕ × Hold) → p e ≡ true) → filter p xs ≡ xs
all_pass p [] h = refl
all_pass p (e ∷ xs) h = ap (λ (b : Bool). cond b (e ∷ filter p xs) (filter p xs)) (h e) ∙ ap (λ (l : Held). e ∷ l) (all_pass p xs h)

pub by_piece : (b : Bool) (kind : AckKind) (o : Option AckKind) → not b && is_none o ≡ is_none (if b then Some kind else o)
by_piece true kind o = refl
by_piece false kind o = refl

-- the offsets of the first piece aren't held any more
pub left_behind : (p : Piece) (rest : List Piece) (held : Held) → held_after (piece_at rest) (without_range p.first p.last held) ≡ held_after (piece_at (p ∷ rest)) held
left_behind p rest held =
    both (λ e. not (nat_le p.first e.0 && nat_le e.0 p.last)) (λ e. is_none (piece_at rest e.0)) held
    ∙ ap (λ (f : ℕ × Hold → Bool). filter f held) (λ i. λ e. by_piece (nat_le p.first e.0 && nat_le e.0 p.last) p.kind (piece_at rest e.0) i)

pub none_left : (held : Held) → held_after (piece_at []) held ≡ held
none_left held = all_pass (λ e. is_none (piece_at [] e.0)) held (λ e. refl)

pub as_named : (start : ℕ) (batches : List AckBatch) (pieces : List Piece) (held : Held) → AreNamed start batches pieces
    → held_after (piece_at pieces) held ≡ held_after (named_from start batches) held
as_named start batches pieces held are = ap (λ (a : Acts). held_after a held) (agreed start batches pieces are)
