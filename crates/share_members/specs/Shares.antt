-- What assignments promise (this project's own).
-- For example of 7 partitions three subscribers have 3, 2 and 2, and of 2 partitions one each.
use Rattle.std.specs.Prelude.{◌≡◌, ◌<◌, ◌≤◌, ◌+◌, ℕ, true, List, length, Contains}
use Rattle.share_members.specs.Groups.{Members}
use Rattle.share_members.specs.declared.member.Member.{Member}
use Rattle.share_members.specs.Assignments.{subscribes, subscribers, share_at}

-- one of the members, which subscribes to the topic
pub record IsSubscriber (place : ℕ) (members : Members) (member : List ℕ × Member) : Type 0 where
  pub there : Contains members member
  pub subscribed : subscribes place member ≡ true

-- A topic with so many partitions: each has an owner where a member subscribes to the topic, and each subscriber has one at least. The
-- shares of two subscribers differ by one partition at most, and each has exactly one where the subscribers outnumber the partitions.
pub record IsSharedEvenly (place parts : ℕ) (members : Members) : Type 0 where
  pub owned : 1 ≤ subscribers place members → (partition : ℕ) → partition < parts
      → (member : List ℕ × Member) × IsSubscriber place members member × Contains (share_at place parts members member.0) partition
  pub some : (member : List ℕ × Member) → IsSubscriber place members member → 1 ≤ length (share_at place parts members member.0)
  pub even : (member other : List ℕ × Member) → IsSubscriber place members member → IsSubscriber place members other
      → length (share_at place parts members member.0) ≤ length (share_at place parts members other.0) + 1
  pub one : parts < subscribers place members → (member : List ℕ × Member) → IsSubscriber place members member
      → length (share_at place parts members member.0) ≡ 1
