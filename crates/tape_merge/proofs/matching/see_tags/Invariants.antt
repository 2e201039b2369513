use Rattle.std.proofs.Common.{◌≡◌, ℕ, List, Some}
use Rattle.share_record.specs.declared.tape.ShardTape.{ShardTape}
use Rattle.tape_merge.specs.Matching.{shard_of, tags_of}
use Rattle.tape_merge.specs.Sightings.{HasSeen}
use Rattle.tape_merge.proofs.matching.see_tags.Given as goal

abbrev pub invariant-loop-tag : goal.invariant-loop-tag
invariant-loop-tag l = (tapes : List ShardTape) (upto : ℕ) → shard_of tapes upto ≡ Some l.shard → tags_of tapes upto ≡ l.tags
    → HasSeen tapes l.links upto 0 l.fn.seen.named.keys l.fn.seen.least → HasSeen tapes l.links upto l.tag-index l.seen.named.keys l.seen.least
