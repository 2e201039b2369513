-- The rows of a reply under their topics (ShareFetchResponse.json: Responses has an element for each topic).
-- For example rows of the topics 1, 2, 1 stand in two elements: the first has the first row and the third one.
use Rattle.std.specs.Prelude.{ℕ, List, [], ◌∷◌, ◌++◌, map, fold, if◌then◌else◌}
use Rattle.std.specs.Str.{bytes_eq}
use Rattle.msgs_share.specs.declared.share_topic.ShareTopic.{ShareTopic}

-- what is told of a topic's partitions, by topic
abbrev pub Groups : Type 0 → Type 0
Groups R = List (List ℕ × List R)

-- a row goes under its topic, which stands last where it had none
abbrev pub with_row : {R : Type 0} → Groups R → List ℕ × R → Groups R
with_row [] row = (row.0, row.1 ∷ []) ∷ []
with_row (g ∷ groups) row = if bytes_eq row.0 g.0 then (g.0, g.1 ++ row.1 ∷ []) ∷ groups else g ∷ with_row groups row

-- each row under its topic, the topics in the order of their first rows
abbrev pub grouped : {R : Type 0} → List (List ℕ × R) → Groups R
grouped rows = fold with_row [] rows

abbrev pub topics_of : {R : Type 0} → Groups R → List (ShareTopic R)
topics_of groups = map (λ g. record { topic_id = g.0; partitions = g.1 }) groups
