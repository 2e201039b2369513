-- A partition that stands twice, found in one walk: what was seen so far is kept in order.
-- For example where partition 0 of a topic was seen, a list that begins with it repeats it.
use Rattle.std.specs.Prelude.{ℕ, ℤ, Bool, false, ◌||◌, List, [], ◌∷◌}
use Rattle.std.specs.List.{list_any}
use Rattle.std.specs.Ordering.{nat_cmp, int_cmp, is_eq, ordering_then}
use Rattle.std.specs.Cmp.Lexicographic.{slice_cmp}
use Rattle.msgs_share.specs.declared.share_topic.SharePartition.{SharePartition}
use Rattle.share_session.specs.Requests.{is_same}

-- whether the partition is among those that were seen
abbrev pub was_seen : List (List ℕ × ℤ) → List ℕ × SharePartition → Bool
was_seen seen e = list_any (λ k. is_eq (ordering_then (slice_cmp nat_cmp e.0 k.0) (int_cmp e.1.partition_index k.1))) seen

-- whether one of the partitions passes the test, or stands twice
abbrev pub repeats : (List ℕ × SharePartition → Bool) → List (List ℕ × SharePartition) → Bool
repeats known [] = false
repeats known (e ∷ es) = known e || repeats (λ other. is_same e other || known other) es
