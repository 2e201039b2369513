use Rattle.std.proofs.Common.{◌≡◌, ◌≤◌, ◌+◌, ◌++◌, length, vec_len}
use Rattle.share_members.specs.Heartbeats.{places_named}
use Rattle.share_members.proofs.subscription.places_named.Given as goal

abbrev pub invariant-loop-topic : goal.invariant-loop-topic
invariant-loop-topic l = record {
  so_far : l.places.items ++ places_named l.names l.place l.rest ≡ places_named l.names 0 l.topics;
  place : l.place + length l.rest ≡ length l.topics;
  few : vec_len l.places ≤ l.place;
}

abbrev pub decreases-loop-topic : goal.decreases-loop-topic
decreases-loop-topic l = length l.rest
