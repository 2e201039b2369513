-- The word of a folder among the words.
use Rattle.std.proofs.Common.{◌≡◌, ◌≢◌, ◌<◌, ◌+◌, ℕ, List, [], ◌∷◌, ◌++◌, codes, length, refl, sym, ap, ◌∙◌, arith}
use Rattle.std.specs.List.{AllByRecursion}
use Rattle.share_top.specs.Words.{IsFolderWord}
use Rattle.share_top.specs.WordReading.{IsBehindDir, HasNoDir}

pub here_dir : (words rest : List (List ℕ)) → words ≡ codes "--dir" ∷ rest → 0 < length rest → IsBehindDir words 1
here_dir words [] e lt = absurd (omega (arith, lt))
here_dir words (folder ∷ after) e lt = record { before = []; folder = folder; after = after; words_are = e; first = tt; at = refl }

module _ (words rest : List (List ℕ)) (word : List ℕ) (e : words ≡ word ∷ rest) where
  pub later_dir : (place : ℕ) → word ≢ codes "--dir" → IsBehindDir rest place → IsBehindDir words (place + 1)
  later_dir place other d = record {
    before = word ∷ d.before;
    folder = d.folder;
    after = d.after;
    words_are = e ∙ ap (λ (ws : List (List ℕ)). word ∷ ws) d.words_are;
    first = (other, d.first);
    at = omega (arith, d.at);
  }

  pub later_none : word ≢ codes "--dir" → HasNoDir rest → HasNoDir words
  later_none other none place d = go d.before d.words_are d.first where
    go : (before : List (List ℕ)) → words ≡ before ++ (codes "--dir" ∷ (d.folder ∷ d.after)) → AllByRecursion (λ (w : List ℕ). w ≢ codes "--dir") before → ⊥
    go [] is first = let f = sym e ∙ is in other cc
    go (x ∷ before) is first =
        let f = sym e ∙ is in
        let tail : rest ≡ before ++ (codes "--dir" ∷ (d.folder ∷ d.after)) = cc in
        none (length before + 1) (record { before = before; folder = d.folder; after = d.after; words_are = tail; first = first.1; at = refl })

  pub no_folder : HasNoDir rest → (place : ℕ) → IsFolderWord words place → ⊥
  no_folder none place w =
      let f = sym e ∙ w.words_are in
      let tail : rest ≡ w.before ++ (codes "--dir" ∷ (w.folder ∷ w.after)) = cc in
      none (length w.before + 1) (record { before = w.before; folder = w.folder; after = w.after; words_are = tail; first = w.first; at = refl })
