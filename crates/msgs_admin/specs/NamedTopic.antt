-- What is said of the partitions of a topic that is named (Kafka's message schemas, ListOffsetsRequest, version 10).
-- For example the topic `t` with the partitions 0 and 1 alone is `0274 03 00000000 00000001 00`.
use Rattle.std.specs.Prelude.{ℕ, List, refl}
use Rattle.flex_fields.specs.Formats.{Format, Shape, structure, array, ◌▹◌, string}
use Rattle.msgs_admin.specs.declared.named_topic.NamedTopic.{NamedTopic}

abbrev pub named_topic_shape : {P : Type 0} → Shape (NamedTopic P) (List ℕ × List P)
named_topic_shape = record {
  make = λ x. record { name = x.0; partitions = x.1 };
  parts = λ s. (s.name, s.partitions);
  back = λ _. refl;
  there = λ _. refl;
}

unfoldable pub named_topic : {P : Type 0} → Format P → Format (NamedTopic P)
named_topic f = structure named_topic_shape (string ▹ array f)
