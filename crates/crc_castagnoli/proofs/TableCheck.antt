-- Tables of what is left of each byte, checked entry by entry.
use Rattle.std.proofs.Common.{◌≡◌, ℕ, zero, suc, ◌<◌, Bool, true, ◌&&◌, List, [], ◌∷◌, length, get_or, ap, ◌∙◌, arith}
use Rattle.std.specs.Prelude.{◌+◌, ◌*◌, ◌==◌}
use Rattle.std.proofs.lemmas.Bool.{eqb-true, and_parts}
use Rattle.crc_castagnoli.specs.Division.{steps}

-- the entries from place i on are those after k steps
unfoldable pub is_table : ℕ → ℕ → List ℕ → Bool
is_table k i [] = true
is_table k i (x ∷ xs) = (x == steps k i) && is_table k (suc i) xs

pub entry_is : (k i : ℕ) (xs : List ℕ) (j : ℕ) → is_table k i xs ≡ true → j < length xs → get_or xs j 0 ≡ steps k (i + j)
unfolding is_table
entry_is k i [] j h b = absurd (omega arith)
entry_is k i (x ∷ xs) zero h b = let e : i + 0 ≡ i = omega arith in rw e (eqb-true x (steps k i) (and_parts (x == steps k i) (is_table k (suc i) xs) h).0)
entry_is k i (x ∷ xs) (suc j) h b = let e : i + suc j ≡ suc i + j = omega arith in rw e (entry_is k (suc i) xs j (and_parts (x == steps k i) (is_table k (suc i) xs) h).1 (omega arith))

-- the rows are whole tables after k steps, after eight more, and so on
unfoldable pub are_tables : ℕ → List (List ℕ) → Bool
are_tables k [] = true
are_tables k (xs ∷ rows) = (length xs == 256) && is_table k 0 xs && are_tables (k + 8) rows

pub tables_entry : (k : ℕ) (rows : List (List ℕ)) (row j : ℕ) → are_tables k rows ≡ true → row < length rows → j < 256
    → get_or (get_or rows row []) j 0 ≡ steps (k + 8 * row) j
unfolding are_tables
tables_entry k [] row j h r b = absurd (omega arith)
tables_entry k (xs ∷ rows) zero j h r b =
    let parts = and_parts ((length xs == 256) && is_table k 0 xs) (are_tables (k + 8) rows) h in
    let first = and_parts (length xs == 256) (is_table k 0 xs) parts.0 in
    let whole : length xs ≡ 256 = eqb-true (length xs) 256 first.0 in
    let e : 0 + j ≡ j = omega arith in
    let same : k + 8 * 0 ≡ k = omega arith in
    rw same (entry_is k 0 xs j first.1 (omega arith) ∙ ap (steps k) e)
tables_entry k (xs ∷ rows) (suc row) j h r b =
    let parts = and_parts ((length xs == 256) && is_table k 0 xs) (are_tables (k + 8) rows) h in
    let e : k + 8 + 8 * row ≡ k + 8 * suc row = omega arith in
    tables_entry (k + 8) rows row j parts.1 (omega arith) b ∙ ap (λ (n : ℕ). steps n j) e
