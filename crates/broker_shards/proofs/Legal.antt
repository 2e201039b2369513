-- The last act of a legal history, and what is told where a partition was asked.
use Rattle.std.proofs.Common.{sym, refl, subst, List, [], ◌∷◌, ◌++◌, ℕ}
use Rattle.share_model.specs.Held.{Held}
use Rattle.edge_io.specs.Views.{DiskView}
use Rattle.share_part.specs.Shards.{PartParts}
use Rattle.broker_model.specs.Shards.PartCall.{Visits, Produces, Looks, Expires, Deletes}
use Rattle.shard_lock.specs.declared.shard.Entry.{Entry}
use Rattle.shard_lock.specs.History.{Leads}
use Rattle.broker_shards.specs.Acts.{Answers, CanBeTold, PartDeed, asked_by, told_by}
use Rattle.broker_shards.specs.Acts.PartDeed.{Calls, Offers}
use Rattle.broker_shards.specs.Histories.{IsToldOf}
use Rattle.broker_shards.specs.declared.part.PartAsk.{PartAsk}
use Rattle.broker_shards.specs.declared.part.PartTold.{PartTold}

-- the last entry of a history is an act
pub last_acts : {S E A : Type 0} (acts : S → E → A → S → Type 0) (s t : S) (es : List (Entry E A)) (e : Entry E A) → Leads acts s (es ++ e ∷ []) t
    → (x : S) × (y : S) × acts x e.event e.answer y
last_acts acts s t [] e l = (s, l.0, l.1)
last_acts acts s t (d ∷ es) e l = last_acts acts l.0 t es e l.2

pub of_kind : (did : PartDeed) → CanBeTold did → IsToldOf (asked_by did) (told_by did)
of_kind (Calls (Visits visit answer unread)) fair = (answer, refl, fair)
of_kind (Calls (Produces batch produced)) fair = (produced, refl, fair)
of_kind (Calls (Deletes to answer)) fair = (answer, refl, fair)
of_kind (Calls (Looks group looked)) fair = (looked, refl, fair)
of_kind (Calls (Expires answer)) fair = (answer, refl)
of_kind (Offers group offer) fair = (offer, refl)

pub told_of : {D W : Type 0} (seen : D → DiskView) (holding : W → Held) (now : ℕ) (asked : PartAsk) (told : PartTold) (old new : PartParts D W)
    → Answers seen holding now asked told old new → IsToldOf asked told
told_of seen holding now asked told old new a =
    subst (λ x. IsToldOf x told) (sym a.asks) (subst (λ y. IsToldOf (asked_by a.did) y) (sym a.tells) (of_kind a.did a.tellable))
