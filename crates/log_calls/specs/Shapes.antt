-- The form of a Produce (this project's own): its topics, by their names.
-- For example a request with two partitions of `orders` and none of `audit` has the form (orders, 2), (audit, 0).
use Rattle.std.specs.Prelude.{ℕ, List}

-- a topic of a request, and how many partitions it has there
pub record NamedShapeParts : Type 0 where
  pub name : List ℕ
  pub count : ℕ
