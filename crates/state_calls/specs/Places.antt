-- A partition of a topic (this project's own).
-- For example partition 1 of a topic has, for the group `g1`, the key of `g1`, that topic and 1 (row_tests,
-- `answers stand at their places, with known ones between them`).
use Rattle.std.specs.Prelude.{ℕ, List}
use Rattle.share_model.specs.Keys.{KeyParts}

pub record PlaceParts : Type 0 where
  pub topic : List ℕ
  pub part : ℕ

-- its state is that of this key
abbrev pub key_at : List ℕ → PlaceParts → KeyParts
key_at group place = record { group = group; topic = place.topic; part = place.part }

-- a topic of a request, and how many partitions it has there
pub record ShapeParts : Type 0 where
  pub topic : List ℕ
  pub count : ℕ
