-- Which partitions each member of a share group is to read: its assignment. KIP-932 leaves the choice to the broker; this one is
-- this project's own.
--
-- The subscribers of a topic are numbered from 0, in byte order of their ids. Where there are at most as many as partitions, each
-- partition has one owner, in turn; where there are more, each subscriber has one partition, in turn.
-- Worked example: of three partitions, subscriber 0 of two has 0 and 2, and subscriber 1 has 1. Of one partition, each of three
-- subscribers has partition 0.
use Rattle.std.specs.Prelude.{ℕ, pos, ◌+◌, ◌%◌, Bool, ◌&&◌, ◌==◌, nat_le, List, [], ◌∷◌, map, if◌then◌else◌, nat_eq, count_by}
use Rattle.std.specs.List.{filter, list_any, range_with_len}
use Rattle.std.specs.Ordering.{is_lt}
use Rattle.topic_conf.specs.declared.topic.Topic.{Topic}
use Rattle.msgs_group.specs.declared.heartbeat_reply.AssignedTopic.{AssignedTopic}
use Rattle.msgs_group.specs.declared.heartbeat_reply.Assignment.{Assignment}
use Rattle.share_members.specs.declared.member.Member.{Member}
use Rattle.share_members.specs.Groups.{Members, id_cmp}

-- whether the subscriber of this number, of so many, has the partition, of so many
abbrev pub owns : (parts subscribers number partition : ℕ) → Bool
owns parts subscribers number partition =
    if nat_le subscribers parts then (partition % subscribers) == number else (number % parts) == partition

-- the partitions of a topic that the subscriber has
abbrev pub share : (parts subscribers number : ℕ) → List ℕ
share parts subscribers number = filter (owns parts subscribers number) (range_with_len 0 parts)

-- ---- the subscribers of a topic, which is named by its place among the hosted topics

abbrev pub has_place : ℕ → List ℕ → Bool
has_place place topics = list_any (λ topic. nat_eq topic place) topics

abbrev pub subscribes : ℕ → List ℕ × Member → Bool
subscribes place member = has_place place member.1.topics

abbrev pub subscribers : ℕ → Members → ℕ
subscribers place members = count_by (subscribes place) members

-- how many subscribers come before this id
abbrev pub number : ℕ → List ℕ → Members → ℕ
number place id members = count_by (λ member. is_lt (id_cmp member.0 id) && subscribes place member) members

-- the partitions, of so many, that the subscriber of this id has
abbrev pub share_at : ℕ → ℕ → Members → List ℕ → List ℕ
share_at place parts members id = share parts (subscribers place members) (number place id members)

-- ---- what a member is told

abbrev pub assigned_topic : Members → List ℕ → ℕ → Topic → AssignedTopic
assigned_topic members id place topic = record {
  topic_id = topic.id;
  partitions = map pos (share_at place topic.parts members id);
}

-- its share of each topic that it subscribes to, from the topic at this place on
abbrev pub assigned : Members → List ℕ → List ℕ → ℕ → List Topic → List AssignedTopic
assigned members id subscription place [] = []
assigned members id subscription place (topic ∷ topics) =
    if has_place place subscription then assigned_topic members id place topic ∷ assigned members id subscription (place + 1) topics
    else assigned members id subscription (place + 1) topics

-- what the member of this id and with this subscription is to read
abbrev pub assignment : List Topic → Members → List ℕ → List ℕ → Assignment
assignment topics members id subscription = record { topic_partitions = assigned members id subscription 0 topics }
