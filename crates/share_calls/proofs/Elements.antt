-- Each topic with rows has one element.
use Rattle.std.proofs.Common.{◌≡◌, ◌∙◌, ℕ, Bool, true, false, cond, ◌||◌}
use Rattle.std.proofs.Common.{List, [], ◌∷◌, ◌++◌, map, filter, fold, refl, sym, ap, append_assoc, append-nil}
use Rattle.std.specs.List.{list_any}
use Rattle.std.specs.Str.{bytes_eq}
use Rattle.std.proofs.lemmas.Slice.Eq.{bytes_eq-Decides}
use Rattle.share_calls.specs.Rows.{with_row}
use Rattle.share_calls.specs.TopicRows.{rows_of, elements_of, one_if_some, ids_of, with_id, HasOneOfEachTopic}

module _ (R : Type 0) where
  abbrev Group : Type 0
  Group = List ℕ × List R

  abbrev Row : Type 0
  Row = List ℕ × R

  -- one row more
  extend : (r : R) (xs : List R) (l : List R) (ls : List (List R)) → l ∷ ls ≡ one_if_some xs → (l ++ r ∷ []) ∷ ls ≡ one_if_some (xs ++ r ∷ [])
  extend r [] l ls h = absurd cc
  extend r (x ∷ xs) l ls h =
      let one : l ≡ x ∷ xs = cc in
      let none : ls ≡ [] = cc in
      ap (λ m. (m ++ r ∷ []) ∷ ls) one ∙ ap (λ m. ((x ∷ xs) ++ r ∷ []) ∷ m) none

  begin : (r : R) (xs : List R) → [] ≡ one_if_some xs → (r ∷ []) ∷ [] ≡ one_if_some (xs ++ r ∷ [])
  begin r [] h = refl
  begin r (x ∷ xs) h = absurd cc

  module _ (id : List ℕ) where
    abbrev test : Group → Bool
    test g = bytes_eq id g.0

    skip : (g : Group) (groups : List Group) → bytes_eq id g.0 ≡ false → elements_of id (g ∷ groups) ≡ elements_of id groups
    skip g groups differs = ap (λ b. map (λ (h : Group). h.1) (cond b (g ∷ filter test groups) (filter test groups))) differs

    keep : (g : Group) (groups : List Group) → bytes_eq id g.0 ≡ true → elements_of id (g ∷ groups) ≡ g.1 ∷ elements_of id groups
    keep g groups is = ap (λ b. map (λ (h : Group). h.1) (cond b (g ∷ filter test groups) (filter test groups))) is

    front : (g : Group) (ls bs : List Group) → elements_of id ls ≡ elements_of id bs → elements_of id (g ∷ ls) ≡ elements_of id (g ∷ bs)
    front g ls bs h = go (bytes_eq id g.0)
      where
        go : (b : Bool) → map (λ (h : Group). h.1) (cond b (g ∷ filter test ls) (filter test ls))
            ≡ map (λ (h : Group). h.1) (cond b (g ∷ filter test bs) (filter test bs))
        go true = ap (λ l. g.1 ∷ l) h
        go false = h

    -- a row of another topic
    other : (groups : List Group) (row : Row) → bytes_eq id row.0 ≡ false → elements_of id (with_row groups row) ≡ elements_of id groups
    other [] row differs = skip (row.0, row.1 ∷ []) [] differs
    other (g ∷ groups) row differs = go (bytes_eq row.0 g.0) refl (other groups row differs)
      where
        go : (b : Bool) → bytes_eq row.0 g.0 ≡ b → elements_of id (with_row groups row) ≡ elements_of id groups →
            elements_of id (cond b ((g.0, g.1 ++ row.1 ∷ []) ∷ groups) (g ∷ with_row groups row)) ≡ elements_of id (g ∷ groups)
        go true e later =
            let same : row.0 ≡ g.0 = (bytes_eq-Decides row.0 g.0).0 e in
            let no_g : bytes_eq id g.0 ≡ false = ap (bytes_eq id) (sym same) ∙ differs in
            skip (g.0, g.1 ++ row.1 ∷ []) groups no_g ∙ sym (skip g groups no_g)
        go false e later = front g (with_row groups row) groups later

    -- a row of this topic
    own : (groups : List Group) (row : Row) (xs : List R) → bytes_eq id row.0 ≡ true → elements_of id groups ≡ one_if_some xs →
        elements_of id (with_row groups row) ≡ one_if_some (xs ++ row.1 ∷ [])
    own [] row xs is h = keep (row.0, row.1 ∷ []) [] is ∙ begin row.1 xs h
    own (g ∷ groups) row xs is h = go (bytes_eq row.0 g.0) refl (own groups row xs is)
      where
        go : (b : Bool) → bytes_eq row.0 g.0 ≡ b →
            (elements_of id groups ≡ one_if_some xs → elements_of id (with_row groups row) ≡ one_if_some (xs ++ row.1 ∷ [])) →
            elements_of id (cond b ((g.0, g.1 ++ row.1 ∷ []) ∷ groups) (g ∷ with_row groups row)) ≡ one_if_some (xs ++ row.1 ∷ [])
        go true e later =
            let same : row.0 ≡ g.0 = (bytes_eq-Decides row.0 g.0).0 e in
            let is_g : bytes_eq id g.0 ≡ true = ap (bytes_eq id) (sym same) ∙ is in
            keep (g.0, g.1 ++ row.1 ∷ []) groups is_g ∙ extend row.1 xs g.1 (elements_of id groups) (sym (keep g groups is_g) ∙ h)
        go false e later =
            let same : id ≡ row.0 = (bytes_eq-Decides id row.0).0 is in
            let no_g : bytes_eq id g.0 ≡ false = ap (λ i. bytes_eq i g.0) same ∙ e in
            skip g (with_row groups row) no_g ∙ later (sym (skip g groups no_g) ∙ h)

    abbrev found : List Row → List Row
    found rows = filter (λ row. bytes_eq id row.0) rows

    all_rows : (rows : List Row) (groups : List Group) (xs : List R) → elements_of id groups ≡ one_if_some xs →
        elements_of id (fold with_row groups rows) ≡ one_if_some (xs ++ rows_of id rows)
    all_rows [] groups xs h = h ∙ ap one_if_some (sym (append-nil xs))
    all_rows (r ∷ rows) groups xs h = go (bytes_eq id r.0) refl (all_rows rows (with_row groups r))
      where
        go : (b : Bool) → bytes_eq id r.0 ≡ b →
            ((ys : List R) → elements_of id (with_row groups r) ≡ one_if_some ys →
            elements_of id (fold with_row (with_row groups r) rows) ≡ one_if_some (ys ++ rows_of id rows)) →
            elements_of id (fold with_row (with_row groups r) rows)
            ≡ one_if_some (xs ++ map (λ (row : Row). row.1) (cond b (r ∷ found rows) (found rows)))
        go true e later = later (xs ++ r.1 ∷ []) (own groups r xs e h) ∙ ap one_if_some (append_assoc xs (r.1 ∷ []) (rows_of id rows))
        go false e later = later xs (other groups r e ∙ h)

  -- ---- the order

  in_front : (x : List ℕ) (b : Bool) (ls bs : List (List ℕ)) → x ∷ cond b ls bs ≡ cond b (x ∷ ls) (x ∷ bs)
  in_front x true ls bs = refl
  in_front x false ls bs = refl

  ids_step : (groups : List Group) (row : Row) → ids_of (with_row groups row) ≡ with_id (ids_of groups) row.0
  ids_step [] row = refl
  ids_step (g ∷ groups) row = go (bytes_eq row.0 g.0) (ids_step groups row)
    where
      go : (b : Bool) → ids_of (with_row groups row) ≡ with_id (ids_of groups) row.0 →
          ids_of (cond b ((g.0, g.1 ++ row.1 ∷ []) ∷ groups) (g ∷ with_row groups row))
          ≡ cond (b || list_any (bytes_eq row.0) (ids_of groups)) (g.0 ∷ ids_of groups) ((g.0 ∷ ids_of groups) ++ row.0 ∷ [])
      go true later = refl
      go false later =
          ap (λ l. g.0 ∷ l) later ∙ in_front g.0 (list_any (bytes_eq row.0) (ids_of groups)) (ids_of groups) (ids_of groups ++ row.0 ∷ [])

  all_ids : (rows : List Row) (groups : List Group) → ids_of (fold with_row groups rows) ≡ fold with_id (ids_of groups) (ids_of rows)
  all_ids [] groups = refl
  all_ids (r ∷ rows) groups = all_ids rows (with_row groups r) ∙ ap (λ l. fold with_id l (ids_of rows)) (ids_step groups r)

pub one_of_each : (R : Type 0) → HasOneOfEachTopic R
one_of_each R = record { elements = λ rows id. all_rows R id rows [] [] refl; order = λ rows. all_ids R rows [] }
