-- The hosted topics, as far as an assignment needs them (this project's own).
-- For example three topics of 1, 2 and 61 partitions may be hosted together.
use Rattle.std.specs.Prelude.{◌≤◌, List, length}
use Rattle.std.specs.List.{AllByRecursion}
use Rattle.topic_conf.specs.declared.topic.Topic.{Topic}

-- a topic has 1 to 64 partitions
pub record HasFewParts (topic : Topic) : Type 0 where
  pub some : 1 ≤ topic.parts
  pub few : topic.parts ≤ 64

abbrev pub HaveFewParts : List Topic → Type 0
HaveFewParts topics = AllByRecursion HasFewParts topics

pub record AreHosted (topics : List Topic) : Type 0 where
  pub few : length topics ≤ 64
  pub parts : HaveFewParts topics
