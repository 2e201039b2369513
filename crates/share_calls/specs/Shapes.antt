-- The form of a ShareAcknowledge (this project's own): its topics, by their ids. Its reply has the same form.
-- For example a request with two partitions of the topic 1 and none of the topic 2 has the form (1, 2), (2, 0).
use Rattle.std.specs.Prelude.{ℕ, List}

-- a topic of a request, and how many partitions it has there
pub record TopicShapeParts : Type 0 where
  pub topic_id : List ℕ
  pub count : ℕ
