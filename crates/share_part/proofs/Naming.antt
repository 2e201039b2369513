-- What acknowledgements say from an offset on, piece by piece.
use Rattle.std.proofs.Common.{◌≡◌, ◌∙◌, inl, inr, refl, sym, ap, subst, arith, ℕ, ◌<◌, ◌≤◌, ◌^◌, ◌++◌, max, List, [], ◌∷◌, Option, Some, None, Bool, true, false, cond, is_some, nat_le, nat_lt, ◌&&◌}
use Rattle.std.specs.Option.{IfSome, option_to_list}
use Rattle.std.proofs.lemmas.Bool.{cases_lt}
use Rattle.std.proofs.lemmas.Bool.Decides.{nat_tests}
use Rattle.ack_ranges.specs.Pieces.{ArePieces, Follows, IsCanonical, piece_at}
use Rattle.ack_ranges.specs.declared.piece.Piece.{Piece}
use Rattle.ack_ranges.proofs.Looks.{beyond, none}
use Rattle.share_model.specs.declared.ack.AckBatch.{AckBatch}
use Rattle.share_model.specs.declared.ack.AckKind.{AckKind}
use Rattle.share_part.specs.Named.{AreNamed, cut_piece, front_or, named_from, pieces_from}

-- ---- the first piece

pub front_is : (start : ℕ) (p : Piece) (ps : List Piece) (o : Option Piece) → o ≡ cut_piece start p → is_some o ≡ true
    → pieces_from start (p ∷ ps) ≡ option_to_list o ++ ps
front_is start p ps (Some q) e some = ap (λ (r : Option Piece). front_or r ps (pieces_from start ps)) (sym e)
front_is start p ps None e some = absurd (let clash : ⊥ = cc in clash)

pub none_front : (start : ℕ) (p : Piece) (ps : List Piece) (o : Option Piece) → o ≡ cut_piece start p → is_some o ≡ false
    → pieces_from start (p ∷ ps) ≡ pieces_from start ps
none_front start p ps (Some q) e some = absurd (let clash : ⊥ = cc in clash)
none_front start p ps None e some = ap (λ (r : Option Piece). front_or r ps (pieces_from start ps)) (sym e)

abbrev Cut : ℕ → Piece → Piece
Cut start p = record { first = max p.first start; last = p.last; kind = p.kind }

pub below_cut : (start : ℕ) (p : Piece) (o : Option Piece) → o ≡ cut_piece start p → p.last < 2 ^ 63 → IfSome o (λ q. q.last < 2 ^ 63)
below_cut start p None e lt = tt
below_cut start p (Some q) e lt = by (nat_le start p.last) e where
  by : (b : Bool) → Some q ≡ cond b (Some (Cut start p)) None → q.last < 2 ^ 63
  by true e = let same : q ≡ Cut start p = cc in let last : q.last ≡ p.last = ap (λ (r : Piece). r.last) same in omega (arith, lt, last)
  by false e = absurd (let clash : ⊥ = cc in clash)

-- ---- what they say

cut_in : (start : ℕ) (p : Piece) → start ≤ p.last → cut_piece start p ≡ Some (Cut start p)
cut_in start p le = let yes : nat_le start p.last ≡ true = grind (arith, nat_tests) in
    ap (λ (b : Bool). cond b (Some (Cut start p)) None) yes

cut_out : (start : ℕ) (p : Piece) → p.last < start → cut_piece start p ≡ None
cut_out start p lt = let no : nat_le start p.last ≡ false = grind (arith, nat_tests) in
    ap (λ (b : Bool). cond b (Some (Cut start p)) None) no

-- all pieces begin behind one that follows them
follows_cut : (start : ℕ) (p : Piece) (ps : List Piece) → Follows p ps → Follows (Cut start p) ps
follows_cut start p [] f = tt
follows_cut start p (next ∷ ps) f = f

pub cut_canonical : (start : ℕ) (ps : List Piece) → IsCanonical ps → IsCanonical (pieces_from start ps)
cut_canonical start [] c = tt
cut_canonical start (p ∷ ps) c = elim (cases_lt p.last start) [
  | inl lt ↦ subst (λ (o : Option Piece). IsCanonical (front_or o ps (pieces_from start ps))) (sym (cut_out start p lt)) (cut_canonical start ps c.2)
  | inr le ↦ subst (λ (o : Option Piece). IsCanonical (front_or o ps (pieces_from start ps))) (sym (cut_in start p le))
      ((let order = c.0 in omega (arith, order, le)), follows_cut start p ps c.1, c.2)
]

abbrev Said : ℕ → List Piece → ℕ → Option AckKind
Said start ps o = cond (nat_lt o start) None (piece_at ps o)

-- below the start nothing is said, from it on what the piece says
cut_says : (start : ℕ) (p : Piece) (ps : List Piece) → start ≤ p.last → IsCanonical (p ∷ ps) → (o : ℕ)
    → piece_at (Cut start p ∷ ps) o ≡ Said start (p ∷ ps) o
cut_says start p ps le c o = elim (cases_lt o start) [
  | inl lt ↦
      let out : nat_le (max p.first start) o ≡ false = grind (arith, nat_tests) in
      let low : nat_lt o start ≡ true = grind (arith, nat_tests) in
      ap (λ (b : Bool). cond (b && nat_le o p.last) (Some p.kind) (piece_at ps o)) out
      ∙ none p ps o c.1 c.2 (omega (arith, lt, le))
      ∙ sym (ap (λ (b : Bool). cond b None (piece_at (p ∷ ps) o)) low)
  | inr ge ↦
      let same : nat_le (max p.first start) o ≡ nat_le p.first o = grind (arith, nat_tests) in
      let high : nat_lt o start ≡ false = grind (arith, nat_tests) in
      ap (λ (b : Bool). cond (b && nat_le o p.last) (Some p.kind) (piece_at ps o)) same
      ∙ sym (ap (λ (b : Bool). cond b None (piece_at (p ∷ ps) o)) high)
]

-- nothing that counts is said by a piece that ends below the start
out_says : (start : ℕ) (p : Piece) (ps : List Piece) → p.last < start → (o : ℕ) → Said start ps o ≡ Said start (p ∷ ps) o
out_says start p ps lt o = elim (cases_lt o start) [
  | inl under ↦
      let low : nat_lt o start ≡ true = grind (arith, nat_tests) in
      ap (λ (b : Bool). cond b None (piece_at ps o)) low ∙ sym (ap (λ (b : Bool). cond b None (piece_at (p ∷ ps) o)) low)
  | inr ge ↦ ap (λ (k : Option AckKind). cond (nat_lt o start) None k) (sym (beyond p ps o (omega (arith, lt, ge))))
]

pub from_says : (start : ℕ) (ps : List Piece) → IsCanonical ps → (o : ℕ) → piece_at (pieces_from start ps) o ≡ Said start ps o
from_says start [] c o = by (nat_lt o start) where
  by : (b : Bool) → ◌≡◌ {A = Option AckKind} None (cond b None None)
  by true = refl
  by false = refl
from_says start (p ∷ ps) c o = elim (cases_lt p.last start) [
  | inl lt ↦ ap (λ (r : Option Piece). piece_at (front_or r ps (pieces_from start ps)) o) (cut_out start p lt)
      ∙ from_says start ps c.2 o ∙ out_says start p ps lt o
  | inr le ↦ ap (λ (r : Option Piece). piece_at (front_or r ps (pieces_from start ps)) o) (cut_in start p le) ∙ cut_says start p ps le c o
]

pub are_named : (start : ℕ) (batches : List AckBatch) (pieces : List Piece) → ArePieces batches pieces → AreNamed start batches (pieces_from start pieces)
are_named start batches pieces are = record {
  canonical = cut_canonical start pieces are.canonical;
  same = λ o. from_says start pieces are.canonical o ∙ ap (λ (k : Option AckKind). cond (nat_lt o start) None k) (are.same o);
}

-- the pieces say what is named
pub agreed : (start : ℕ) (batches : List AckBatch) (pieces : List Piece) → AreNamed start batches pieces → piece_at pieces ≡ named_from start batches
agreed start batches pieces are = λ i. λ o. are.same o i
