-- The rows of a group are as many as its questions, and stand in front of those of the others.
use Rattle.std.proofs.Common.{◌≡◌, ◌+◌, ℕ, Bool, true, false, List, [], ◌∷◌, ◌++◌, Option, length, take, drop, map, refl, ap, subst, suc, arith}
use Rattle.std.specs.Bool.{if◌then◌else◌}
use Rattle.describe_calls.specs.declared.looks.GroupRow.TheVariants.{Members, Table}
use Rattle.describe_calls.specs.declared.looks.TableRow.{TableRow}
use Rattle.describe_calls.specs.declared.summary.GroupSummary.{GroupSummary}
use Rattle.describe_calls.specs.Groups.{is_group, group_count}
use Rattle.describe_calls.specs.GroupsTold.{GroupBeside, rows_in}

-- the first of two lists, by its length
pub take_front : {R : Type 0} (n : ℕ) (xs ys : List R) → length xs ≡ n → take n (xs ++ ys) ≡ xs
take_front {R} n xs ys e = subst (λ (m : ℕ). take m (xs ++ ys) ≡ xs) e (front xs) where
  front : (zs : List R) → take (length zs) (zs ++ ys) ≡ zs
  front [] = refl
  front (z ∷ zs) = ap (λ l. z ∷ l) (front zs)

pub drop_front : {R : Type 0} (n : ℕ) (xs ys : List R) → length xs ≡ n → drop n (xs ++ ys) ≡ ys
drop_front {R} n xs ys e = subst (λ (m : ℕ). drop m (xs ++ ys) ≡ ys) e (behind xs) where
  behind : (zs : List R) → drop (length zs) (zs ++ ys) ≡ ys
  behind [] = refl
  behind (z ∷ zs) = behind zs

mapped : {X Y : Type 0} (f : X → Y) (xs : List X) → length (map f xs) ≡ length xs
mapped f [] = refl
mapped f (x ∷ xs) = ap suc (mapped f xs)

rows_length : (shards : ℕ) (is : Bool) (members : Option GroupSummary) (tables : List (Option TableRow)) → length tables ≡ shards →
    length (if is then Members members ∷ map (λ t. Table t) tables else []) ≡ (if is then shards + 1 else 0)
rows_length shards true members tables e =
    let n : length (map (λ (t : Option TableRow). Table t) tables) ≡ length tables = mapped (λ (t : Option TableRow). Table t) tables in
    omega (arith, n, e)
rows_length shards false members tables e = refl

pub own_rows : (shards : ℕ) (g : GroupBeside) → length g.tables ≡ shards → length (rows_in g) ≡ group_count shards g.id
own_rows shards g e = rows_length shards (is_group g.id) g.members g.tables e
