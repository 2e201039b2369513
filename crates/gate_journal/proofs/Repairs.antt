-- What the repair of a text's end leaves.
use Rattle.std.proofs.Common.{◌≡◌, ◌≢◌, inl, inr, ⊎_elim, refl, ℕ, ◌<◌, ◌≤◌, List, [], ◌∷◌}
use Rattle.std.proofs.Common.{◌++◌, length, take, drop, sym, ◌∙◌, ap, arith, append_assoc, length-append, take-append-drop}
use Rattle.std.proofs.lemmas.List.{take-take, take_at, take_all}
use Rattle.std.specs.List.{AllByRecursion}
use Rattle.edge_io.specs.Disk.{UnfinishedWrite, UnfinishedCut, written}
use Rattle.gate_journal.specs.Frames.{IsFrame, blocks, StandsFor, IsRead, IsRest}

pub none : (frames : List (List ℕ)) → length (blocks frames) ≡ 0 → frames ≡ []
none [] is = refl
none (frame ∷ frames) is = absurd (omega (arith, is))

written_first : (x : List ℕ) → length x ≤ 1 → written 0 (0 ∷ []) x ≡ 0 ∷ []
written_first [] le = refl
written_first (b ∷ []) le = refl
written_first (b ∷ d ∷ x) le = absurd (omega (arith, le))

module _ (frames : List (List ℕ)) (len end : ℕ) (x : List ℕ) (read : IsRead frames len end x) where
  short : len ≤ 1 → frames ≡ []
  short le = ⊎_elim (λ p. p.1) (λ p. none frames (omega (arith, le, read.len_is, ap length p.3, length-append (blocks frames) (p.0 ∷ p.1)))) read.stands

  pub first_stands : (c : List ℕ) → len ≤ 1 → UnfinishedWrite 0 1 x c → StandsFor c frames
  first_stands c le torn = inl (omega (arith, le, read.len_is, torn.no_longer), short le)

  ends : 1 < len → (gate : ℕ) × (tail : List ℕ) × (gate ≢ 1) × (x ≡ blocks frames ++ (gate ∷ tail)) × AllByRecursion IsFrame frames
  ends gt = ⊎_elim (λ p. absurd (omega (arith, gt, p.0, read.len_is))) (λ p. p) read.stands

  front : (gate : ℕ) (tail : List ℕ) → x ≡ blocks frames ++ (gate ∷ tail) → take end x ≡ blocks frames ++ gate ∷ []
  front gate tail is =
      ap (λ (l : List ℕ). take end l) (is ∙ sym (append_assoc (blocks frames) (gate ∷ []) tail))
      ∙ take_at (blocks frames ++ gate ∷ []) tail end (omega (arith, read.end_is, length-append (blocks frames) (gate ∷ [])))

  pub cut_stands : (c : List ℕ) → 1 < len → UnfinishedCut end x c → StandsFor c frames
  cut_stands c gt cut =
      let e = ends gt in
      let same : take end c ≡ take end x = ap (λ (l : List ℕ). take end l) (sym cut.front)
      ∙ take-take end (length c) x (omega (arith, cut.no_shorter, read.end_is, ap length e.3, length-append (blocks frames) (e.0 ∷ e.1))) in
      inr (
        e.0,
        drop end c,
        e.2,
        sym (take-append-drop end c) ∙ ap (λ (l : List ℕ). l ++ drop end c) (same ∙ front e.0 e.1 e.3)
            ∙ append_assoc (blocks frames) (e.0 ∷ []) (drop end c),
        e.4,
      )

  pub cut_rests : (c : List ℕ) → 1 < len → c ≡ take end x → IsRest frames c
  cut_rests c gt is = let e = ends gt in (e.0, e.2, is ∙ front e.0 e.1 e.3)

  pub first_rests : (c : List ℕ) → len ≤ 1 → c ≡ written 0 (0 ∷ []) x → IsRest frames c
  first_rests c le is = (
    0,
    λ z. absurd (omega (arith, z)),
    is ∙ written_first x (omega (arith, le, read.len_is))
        ∙ ap (λ (fs : List (List ℕ)). blocks fs ++ 0 ∷ []) (sym (short le)),
  )

  pub whole_rests : (c : List ℕ) → 1 < len → len ≤ end → c ≡ x → IsRest frames c
  whole_rests c gt le is = cut_rests c gt (is ∙ sym (take_all end x (omega (arith, le, read.len_is))))
