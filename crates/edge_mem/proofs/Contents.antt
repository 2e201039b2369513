-- Writes over a content.
use Rattle.std.proofs.Common.{◌≡◌, ℕ, ◌+◌, ◌-◌, ◌≤◌, ◌<◌, min, List, ◌++◌, length}
use Rattle.std.proofs.Common.{take, drop, sym, ◌∙◌, ap, ◌⊎◌, ⊎_elim, arith, take-append-drop, length-take}
use Rattle.std.proofs.lemmas.List.{drop_at, take_all, drop_all, append-nil, take-append-le}
use Rattle.edge_io.specs.Disk.{written}

module _ (place n : ℕ) (bytes c : List ℕ) (le : place ≤ length c) (is : n ≡ min (length bytes) (length c - place)) where
  front : take place (c ++ drop n bytes) ≡ take place c
  front = take-append-le place c (drop n bytes) le

  -- all of it lies within
  within : length bytes ≤ length c - place → take n bytes ++ drop (place + length (take n bytes)) (c ++ drop n bytes)
      ≡ bytes ++ drop (place + length bytes) c
  within fits =
      ap (λ (l : List ℕ). l ++ drop (place + length l) (c ++ drop n bytes)) (take_all n bytes (omega (arith, is, fits)))
      ∙ ap (λ (l : List ℕ). bytes ++ drop (place + length bytes) (c ++ l)) (drop_all n bytes (omega (arith, is, fits)))
      ∙ ap (λ (l : List ℕ). bytes ++ drop (place + length bytes) l) (append-nil c)

  -- some lies beyond
  beyond : length c - place < length bytes → take n bytes ++ drop (place + length (take n bytes)) (c ++ drop n bytes)
      ≡ bytes ++ drop (place + length bytes) c
  beyond more =
      ap (λ (l : List ℕ). take n bytes ++ l) (drop_at c (drop n bytes) (place + length (take n bytes)) (omega (arith, is, more, le, length-take n bytes)))
      ∙ take-append-drop n bytes
      ∙ sym (append-nil bytes)
      ∙ ap (λ (l : List ℕ). bytes ++ l) (sym (drop_all (place + length bytes) c (omega (arith, more, le))))

  cases : (length bytes ≤ length c - place) ⊎ (length c - place < length bytes)
  cases = grind arith

  pub written_parts : written place (take n bytes) (c ++ drop n bytes) ≡ written place bytes c
  written_parts = ap (λ (l : List ℕ). l ++ (take n bytes ++ drop (place + length (take n bytes)) (c ++ drop n bytes))) front
      ∙ ap (λ (l : List ℕ). take place c ++ l) (⊎_elim within beyond cases)
