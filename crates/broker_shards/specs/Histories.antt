-- What holds of the last act of a legal history, and of what a partition tells. This project's own.
-- For example a worker whose visit was the last act of the history that it has seen finds a visit's answer, whose offsets a reply can say.
use Rattle.std.specs.Prelude.{◌≡◌, ◌++◌, ◌∷◌, [], List, ℕ}
use Rattle.edge_io.specs.Views.{DiskView}
use Rattle.share_model.specs.Held.{Held}
use Rattle.share_model.specs.declared.delete.DeleteAnswer.{DeleteAnswer}
use Rattle.share_model.specs.declared.offer.Offer.{Offer}
use Rattle.share_model.specs.declared.visit.ExpireAnswer.{ExpireAnswer}
use Rattle.share_model.specs.declared.visit.VisitAnswer.{VisitAnswer}
use Rattle.call_fold.specs.Parts.{HasTellableBase, HasTellableStart, IsTellableLook, IsTellableVisit}
use Rattle.call_fold.specs.declared.part.Looked.{Looked}
use Rattle.call_fold.specs.declared.part.Produced.{Produced}
use Rattle.share_part.specs.Shards.{PartParts}
use Rattle.shard_lock.specs.History.{IsLegal}
use Rattle.shard_lock.specs.declared.shard.Entry.{Entry}
use Rattle.broker_shards.specs.Acts.{Answers}
use Rattle.broker_shards.specs.declared.part.PartAsk.{PartAsk}
use Rattle.broker_shards.specs.declared.part.PartAsk.TheVariants as asks
use Rattle.broker_shards.specs.declared.part.PartTold.{PartTold}
use Rattle.broker_shards.specs.declared.part.PartTold.TheVariants as tells

-- the last entry of a legal history is an act of the shard, between two of its states
module _ {S E A : Type 0} where
  abbrev pub EndsInAnAct : (S → E → A → S → Type 0) → Type 0
  EndsInAnAct acts = (first : S) (before : List (Entry E A)) (last : Entry E A) → IsLegal acts first (before ++ last ∷ [])
      → (old : S) × (new : S) × acts old last.event last.answer new

-- an answer of the kind that was asked, in numbers that a reply can say
abbrev pub IsToldOf : PartAsk → PartTold → Type 0
IsToldOf (asks.Visit visit) told = (answer : VisitAnswer) × (told ≡ tells.Visit answer) × IsTellableVisit answer
IsToldOf (asks.Produce batch) told = (produced : Produced) × (told ≡ tells.Produce produced) × HasTellableBase produced
IsToldOf (asks.Delete to) told = (answer : DeleteAnswer) × (told ≡ tells.Delete answer) × HasTellableStart answer
IsToldOf (asks.Look group) told = (looked : Looked) × (told ≡ tells.Look looked) × IsTellableLook looked
IsToldOf (asks.Offer group) told = (offer : Offer) × (told ≡ tells.Offer offer)
IsToldOf asks.Expire told = (answer : ExpireAnswer) × (told ≡ tells.Expire answer)

module _ {D W : Type 0} where
  abbrev pub TellsWhatIsAsked : (D → DiskView) → (W → Held) → Type 0
  TellsWhatIsAsked seen holding = (now : ℕ) (asked : PartAsk) (told : PartTold) (old new : PartParts D W)
      → Answers seen holding now asked told old new → IsToldOf asked told
