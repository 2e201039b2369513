-- Rows under their topics, in a map from ids to lists.
use Rattle.std.proofs.Common.{◌≡◌, ◌∙◌, ℕ, Bool, true, false, cond, List, [], ◌∷◌, ◌++◌, Some, None, map, sym, ap}
use Rattle.std.specs.Map.{lookup, set_value}
use Rattle.std.specs.Str.{bytes_eq}
use Rattle.indexmap.specs.IndexMap.{insert_entry}
use Rattle.share_calls.specs.Rows.{Groups, with_row}

module _ {R V : Type 0} (items : V → List R) where
  -- the map as groups
  abbrev pub shown : List (List ℕ × V) → Groups R
  shown es = map (λ e. (e.0, items e.1)) es

  module _ (id : List ℕ) (p : R) where
    -- a row goes behind those of its topic
    pub put_there : (es : List (List ℕ × V)) (old new : V) → lookup (bytes_eq id) es ≡ Some old → items new ≡ items old ++ p ∷ [] →
        shown (set_value (bytes_eq id) es new) ≡ with_row (shown es) (id, p)
    put_there [] old new found put = absurd cc
    put_there (e ∷ es) old new found put = go (bytes_eq id e.0) found (put_there es old new)
      where
        go : (b : Bool) → cond b (Some e.1) (lookup (bytes_eq id) es) ≡ Some old →
            (lookup (bytes_eq id) es ≡ Some old → items new ≡ items old ++ p ∷ [] → shown (set_value (bytes_eq id) es new) ≡ with_row (shown es) (id, p)) →
            shown (cond b ((e.0, new) ∷ es) (e ∷ set_value (bytes_eq id) es new))
            ≡ cond b ((e.0, items e.1 ++ p ∷ []) ∷ shown es) ((e.0, items e.1) ∷ with_row (shown es) (id, p))
        go true here later =
            let same : e.1 ≡ old = cc in
            ap (λ l. (e.0, l) ∷ shown es) (put ∙ ap (λ v. items v ++ p ∷ []) (sym same))
        go false there later = ap (λ l. (e.0, items e.1) ∷ l) (later there put)

    -- a topic that has no row yet stands last
    pub put_last : (es : List (List ℕ × V)) (new : V) → lookup (bytes_eq id) es ≡ None → items new ≡ p ∷ [] →
        shown (insert_entry bytes_eq es id new) ≡ with_row (shown es) (id, p)
    put_last [] new none one = ap (λ l. (id, l) ∷ []) one
    put_last (e ∷ es) new none one = go (bytes_eq id e.0) none (put_last es new)
      where
        go : (b : Bool) → cond b (Some e.1) (lookup (bytes_eq id) es) ≡ None →
            (lookup (bytes_eq id) es ≡ None → items new ≡ p ∷ [] → shown (insert_entry bytes_eq es id new) ≡ with_row (shown es) (id, p)) →
            shown (cond b ((e.0, new) ∷ es) (e ∷ insert_entry bytes_eq es id new))
            ≡ cond b ((e.0, items e.1 ++ p ∷ []) ∷ shown es) ((e.0, items e.1) ∷ with_row (shown es) (id, p))
        go true here later = absurd cc
        go false there later = ap (λ l. (e.0, items e.1) ∷ l) (later there one)
