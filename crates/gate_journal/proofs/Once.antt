-- A text is read in one way.
use Rattle.std.proofs.Common.{◌≡◌, ◌≢◌, inl, inr, ⊎_elim, refl, ℕ, ◌≤◌, List, [], ◌∷◌}
use Rattle.std.proofs.Common.{◌++◌, length, take, drop, sym, ◌∙◌, ap, arith, append_assoc, length-append}
use Rattle.std.proofs.lemmas.List.{take_at, drop_at}
use Rattle.std.proofs.lemmas.Nat.{from_be_bytes-to_be_bytes_4}
use Rattle.std.specs.List.{AllByRecursion}
use Rattle.std.specs.Int.{w32, to_be_bytes, from_be_bytes}
use Rattle.gate_journal.specs.Frames.{IsFrame, behind_gate, blocks, StandsFor, IsBroken, IsDamaged}
use Rattle.gate_journal.proofs.Repairs.{none}

head : {a b : ℕ} {xs ys : List ℕ} → a ∷ xs ≡ b ∷ ys → a ≡ b
head {a} e = ap (λ (l : List ℕ). first l) e
  where
    first : List ℕ → ℕ
    first [] = a
    first (x ∷ l) = x

tail : {a b : ℕ} {xs ys : List ℕ} → a ∷ xs ≡ b ∷ ys → xs ≡ ys
tail e = ap (λ (l : List ℕ). drop 1 l) e

-- the frame behind an open gate, and what follows it
frame_once : (f g a b : List ℕ) → IsFrame f → IsFrame g → behind_gate f ++ a ≡ behind_gate g ++ b → (f ≡ g) × (a ≡ b)
frame_once f g a b pf pg is =
    let split : to_be_bytes w32 (length f) ++ (f ++ a) ≡ to_be_bytes w32 (length g) ++ (g ++ b) =
    sym (append_assoc (to_be_bytes w32 (length f)) f a) ∙ is ∙ append_assoc (to_be_bytes w32 (length g)) g b in
    let word : to_be_bytes w32 (length f) ≡ to_be_bytes w32 (length g) =
    sym (take_at (to_be_bytes w32 (length f)) (f ++ a) 4 refl) ∙ ap (λ (l : List ℕ). take 4 l) split
    ∙ take_at (to_be_bytes w32 (length g)) (g ++ b) 4 refl in
    let len : length f ≡ length g =
    sym (from_be_bytes-to_be_bytes_4 (length f) (omega (arith, pf.1))) ∙ ap (from_be_bytes w32) word
    ∙ from_be_bytes-to_be_bytes_4 (length g) (omega (arith, pg.1)) in
    let rest : f ++ a ≡ g ++ b =
    sym (drop_at (to_be_bytes w32 (length f)) (f ++ a) 4 refl) ∙ ap (λ (l : List ℕ). drop 4 l) split
    ∙ drop_at (to_be_bytes w32 (length g)) (g ++ b) 4 refl in (
      sym (take_at f a (length f) refl) ∙ ap (λ (l : List ℕ). take (length f) l) rest ∙ take_at g b (length f) (sym len),
      sym (drop_at f a (length f) refl) ∙ ap (λ (l : List ℕ). drop (length f) l) rest ∙ drop_at g b (length f) (sym len),
    )

further : (f g xs ys rs ss : List ℕ) → IsFrame f → IsFrame g → 1 ∷ ((behind_gate f ++ xs) ++ rs) ≡ 1 ∷ ((behind_gate g ++ ys) ++ ss)
    → (f ≡ g) × (xs ++ rs ≡ ys ++ ss)
further f g xs ys rs ss pf pg is =
    frame_once f g (xs ++ rs) (ys ++ ss) pf pg (sym (append_assoc (behind_gate f) xs rs) ∙ tail is ∙ append_assoc (behind_gate g) ys ss)

blocks_once : (fs gs : List (List ℕ)) (a b : ℕ) (t u : List ℕ) → AllByRecursion IsFrame fs → AllByRecursion IsFrame gs → a ≢ 1
    → b ≢ 1 → blocks fs ++ (a ∷ t) ≡ blocks gs ++ (b ∷ u) → fs ≡ gs
blocks_once [] [] a b t u pf pg na nb is = refl
blocks_once [] (g ∷ gs) a b t u pf pg na nb is = absurd (na (head is))
blocks_once (f ∷ fs) [] a b t u pf pg na nb is = absurd (nb (sym (head is)))
blocks_once (f ∷ fs) (g ∷ gs) a b t u pf pg na nb is =
    let p = further f g (blocks fs) (blocks gs) (a ∷ t) (b ∷ u) pf.0 pg.0 is in
    ap (λ (x : List ℕ). x ∷ fs) p.0 ∙ ap (λ (l : List (List ℕ)). g ∷ l) (blocks_once fs gs a b t u pf.1 pg.1 na nb p.1)

short : (c : List ℕ) (gs : List (List ℕ)) → length c ≤ 1 → StandsFor c gs → gs ≡ []
short c gs le s = ⊎_elim (λ p. p.1) (λ p. none gs (omega (arith, le, ap length p.3, length-append (blocks gs) (p.0 ∷ p.1)))) s

pub once : (c : List ℕ) (fs gs : List (List ℕ)) → StandsFor c fs → StandsFor c gs → fs ≡ gs
once c fs gs (inl p) t = p.1 ∙ sym (short c gs p.0 t)
once c fs gs (inr p) (inl q) = short c fs q.0 (inr p) ∙ sym q.1
once c fs gs (inr p) (inr q) = blocks_once fs gs p.0 q.0 p.1 q.1 p.4 q.4 p.2 q.2 (sym p.3 ∙ q.3)

broken_once : (fs gs : List (List ℕ)) (a : ℕ) (t u : List ℕ) → AllByRecursion IsFrame fs → AllByRecursion IsFrame gs → a ≢ 1
    → IsBroken u → blocks fs ++ (a ∷ t) ≡ blocks gs ++ (1 ∷ u) → ⊥
broken_once [] [] a t u pf pg na broken is = na (head is)
broken_once [] (g ∷ gs) a t u pf pg na broken is = na (head is)
broken_once (f ∷ fs) [] a t u pf pg na broken is =
    broken f (blocks fs ++ (a ∷ t)) pf.0 (omega (arith, length-append (blocks fs) (a ∷ t))) (sym (tail is)
    ∙ append_assoc (behind_gate f) (blocks fs) (a ∷ t))
broken_once (f ∷ fs) (g ∷ gs) a t u pf pg na broken is =
    broken_once fs gs a t u pf.1 pg.1 na broken (further f g (blocks fs) (blocks gs) (a ∷ t) (1 ∷ u) pf.0 pg.0 is).1

pub not_both : (c : List ℕ) (fs : List (List ℕ)) (place : ℕ) → StandsFor c fs → IsDamaged c place → ⊥
not_both c fs place (inl p) d = omega (arith, p.0, d.long)
not_both c fs place (inr p) d = broken_once fs d.frames p.0 p.1 d.behind p.4 d.fit p.2 d.broken (sym p.3 ∙ d.is)

damaged_once : (fs gs : List (List ℕ)) (t u : List ℕ) → AllByRecursion IsFrame fs → AllByRecursion IsFrame gs → IsBroken t → IsBroken u
    → blocks fs ++ (1 ∷ t) ≡ blocks gs ++ (1 ∷ u) → fs ≡ gs
damaged_once [] [] t u pf pg broken also is = refl
damaged_once [] (g ∷ gs) t u pf pg broken also is =
    absurd (broken g (blocks gs ++ (1 ∷ u)) pg.0 (omega (arith, length-append (blocks gs) (1 ∷ u))) (tail is
    ∙ append_assoc (behind_gate g) (blocks gs) (1 ∷ u)))
damaged_once (f ∷ fs) [] t u pf pg broken also is =
    absurd (also f (blocks fs ++ (1 ∷ t)) pf.0 (omega (arith, length-append (blocks fs) (1 ∷ t))) (sym (tail is)
    ∙ append_assoc (behind_gate f) (blocks fs) (1 ∷ t)))
damaged_once (f ∷ fs) (g ∷ gs) t u pf pg broken also is =
    let p = further f g (blocks fs) (blocks gs) (1 ∷ t) (1 ∷ u) pf.0 pg.0 is in
    ap (λ (x : List ℕ). x ∷ fs) p.0 ∙ ap (λ (l : List (List ℕ)). g ∷ l) (damaged_once fs gs t u pf.1 pg.1 broken also p.1)

pub place_once : (c : List ℕ) (p q : ℕ) → IsDamaged c p → IsDamaged c q → p ≡ q
place_once c p q d e = d.at ∙ ap (λ (fs : List (List ℕ)). length (blocks fs))
    (damaged_once d.frames e.frames d.behind e.behind d.fit e.fit d.broken e.broken (sym d.is ∙ e.is)) ∙ sym e.at
