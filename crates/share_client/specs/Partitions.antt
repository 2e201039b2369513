-- The partitions that a member is to read, and those of one list that don't stand in another (KIP-932: a ShareFetch names the partitions
-- that the session is to gain, and those that it is to forget).
-- For example of the partitions 0 and 1 of a topic, where a session has 0, partition 1 is to be gained.
use Rattle.std.specs.Prelude.{◌≡◌, ◌||◌, ℕ, ℤ, Bool, true, false, not, List, [], ◌∷◌, ◌++◌, filter, flat_map, map, Option, Some, None}
use Rattle.std.specs.BTreeMap.{is_at}
use Rattle.std.specs.BTreeSet.{contains}
use Rattle.msgs_group.specs.declared.heartbeat_reply.AssignedTopic.{AssignedTopic}
use Rattle.msgs_group.specs.declared.heartbeat_reply.Assignment.{Assignment}
use Rattle.msgs_share.specs.declared.share_topic.SharePartition.{SharePartition}
use Rattle.msgs_share.specs.declared.share_topic.ShareTopic.{ShareTopic}
use Rattle.share_client.specs.Grants.{Named}
use Rattle.share_client.specs.Spans.{Names, name_cmp}

-- the topics of an assignment, none where there is none
abbrev pub topics_in : Option Assignment → List AssignedTopic
topics_in None = []
topics_in (Some assignment) = assignment.topic_partitions

abbrev pub topic_names : AssignedTopic → List Named
topic_names t = map (λ n. (t.topic_id, n)) t.partitions

abbrev pub names_in : List AssignedTopic → List Named
names_in topics = flat_map topic_names topics

-- the name is one of these
abbrev pub is_named : List Named → Named → Bool
is_named [] name = false
is_named (other ∷ names) name = is_at (name_cmp other) name || is_named names name

-- a topic, unless it has no partitions
abbrev pub some_topic : List ℕ → List ℤ → List AssignedTopic
some_topic id [] = []
some_topic id (n ∷ partitions) = record { topic_id = id; partitions = n ∷ partitions } ∷ []

abbrev pub topic_outside : List Named → AssignedTopic → List AssignedTopic
topic_outside names t = some_topic t.topic_id (filter (λ n. not (is_named names (t.topic_id, n))) t.partitions)

-- the partitions of the first list that don't stand in the second one
abbrev pub outside : List AssignedTopic → List AssignedTopic → List AssignedTopic
outside topics others = flat_map (topic_outside (names_in others)) topics

-- a partition without acknowledgements
abbrev pub fresh_partition : ℤ → SharePartition
fresh_partition n = record { partition_index = n; acknowledgement_batches = [] }

abbrev pub fresh_topic : AssignedTopic → ShareTopic SharePartition
fresh_topic t = record { topic_id = t.topic_id; partitions = map fresh_partition t.partitions }

abbrev pub forgotten_topic : AssignedTopic → ShareTopic ℤ
forgotten_topic t = record { topic_id = t.topic_id; partitions = t.partitions }

-- ---- what the code of a set of partitions does; the clauses of private functions cite it, and no public one does

-- the set has just these
abbrev pub HasJust : Names → List Named → Type 0
HasJust names named = (name : Named) → contains name_cmp names name ≡ is_named named name

-- these were noted too
abbrev pub Notes : Names → List Named → Names → Type 0
Notes old more new = (name : Named) → contains name_cmp new name ≡ (is_named more name || contains name_cmp old name)
