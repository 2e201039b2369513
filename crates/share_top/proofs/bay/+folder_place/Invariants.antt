use Rattle.std.proofs.Common.{length}
use Rattle.share_top.proofs.bay.+folder_place.Given as goal

abbrev pub decreases-folder_place : goal.decreases-folder_place
decreases-folder_place l = length l.words.now
