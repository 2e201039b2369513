use Rattle.std.proofs.Common.{length}
use Rattle.share_top.proofs.words.partition.+shard_named.Given as goal

abbrev pub decreases-shard_named : goal.decreases-shard_named
decreases-shard_named l = length l.topics.now
