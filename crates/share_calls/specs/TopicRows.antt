-- The elements of a reply, in words of its rows (ShareFetchResponse.json): one for each topic that has a row, with its rows in order.
-- For example rows of the topics 2, 1, 2 stand in an element of the topic 2 with the first and the third, and one of the topic 1 behind.
use Rattle.std.specs.Prelude.{◌≡◌, ℕ, List, [], ◌∷◌, ◌++◌, map, filter, fold, if◌then◌else◌}
use Rattle.std.specs.List.{list_any}
use Rattle.std.specs.Str.{bytes_eq}
use Rattle.share_calls.specs.Rows.{Groups, grouped}

-- the rows of a topic
abbrev pub rows_of : {R : Type 0} → List ℕ → List (List ℕ × R) → List R
rows_of id rows = map (λ row. row.1) (filter (λ row. bytes_eq id row.0) rows)

-- what stands in the elements of a topic
abbrev pub elements_of : {R : Type 0} → List ℕ → Groups R → List (List R)
elements_of id groups = map (λ g. g.1) (filter (λ g. bytes_eq id g.0) groups)

abbrev pub one_if_some : {R : Type 0} → List R → List (List R)
one_if_some [] = []
one_if_some (row ∷ rows) = (row ∷ rows) ∷ []

abbrev pub ids_of : {X : Type 0} → List (List ℕ × X) → List (List ℕ)
ids_of xs = map (λ x. x.0) xs

-- an id that isn't in the list stands last
abbrev pub with_id : List (List ℕ) → List ℕ → List (List ℕ)
with_id ids id = if list_any (bytes_eq id) ids then ids else ids ++ id ∷ []

pub record HasOneOfEachTopic (R : Type 0) : Type 0 where
  -- a topic with rows has one element, and the others have none
  pub elements : (rows : List (List ℕ × R)) (id : List ℕ) → elements_of id (grouped rows) ≡ one_if_some (rows_of id rows)
  -- the elements stand in the order of their first rows
  pub order : (rows : List (List ℕ × R)) → ids_of (grouped rows) ≡ fold with_id [] (ids_of rows)
