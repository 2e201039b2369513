-- A key of share-partition state: a group on a topic's partition (KIP-932, the share-group state). The order of keys is
-- this project's own.
-- For example `g` comes before `g1`, and partition 2 before partition 10.
use Rattle.std.specs.Prelude.{ℕ, List}
use Rattle.std.specs.declared.cmp.Ordering.{Ordering}
use Rattle.std.specs.Ordering.{nat_cmp, on, then_cmp}
use Rattle.std.specs.Cmp.Lexicographic.{slice_cmp}

-- the group's bytes, the topic's 16 bytes and the partition's number
pub record KeyParts : Type 0 where
  pub group : List ℕ
  pub topic : List ℕ
  pub part : ℕ

-- keys stand in byte order of the group, then of the topic, then by partition
abbrev pub key_cmp : KeyParts → KeyParts → Ordering
key_cmp = then_cmp (on (λ k. k.group) (slice_cmp nat_cmp)) (then_cmp (on (λ k. k.topic) (slice_cmp nat_cmp)) (on (λ k. k.part) nat_cmp))
