-- What comes of links and tapes: a session, or where they don't fit. This project's own.
-- Worked example: two links that wait for each other have no session, and the least step of both is told.
use Rattle.topic_conf.specs.declared.topic.Topic.{Topic}
use Rattle.std.specs.Prelude.{List}
use Rattle.share_record.specs.declared.tape.LinkTape.{LinkTape}
use Rattle.share_record.specs.declared.tape.ShardTape.{ShardTape}
use Rattle.tape_merge.specs.declared.place.Place.{Place}
use Rattle.tape_merge.specs.declared.merging.Outcome.{Outcome}
use Rattle.tape_merge.specs.declared.merging.Outcome.TheVariants.{Session, Strange, Knotted}
use Rattle.tape_merge.specs.Matching.{AreMatched, IsFirstUnmatched, IsLeastOfCycle}
use Rattle.tape_merge.specs.Merges.{IsMerge}

abbrev pub IsOutcome : List Topic → List ShardTape → List LinkTape → Outcome → Type 0
IsOutcome topics tapes links (Session events) =
    IsMerge topics tapes links events.items × AreMatched tapes links × ((place : Place) → IsLeastOfCycle tapes links place → ⊥)
IsOutcome topics tapes links (Strange place) = IsFirstUnmatched tapes links place
IsOutcome topics tapes links (Knotted place) = AreMatched tapes links × IsLeastOfCycle tapes links place
