use Rattle.std.proofs.Common.{refl, subst}
use Rattle.checkpoint_journal.specs.Standings.{IsKnown}
use Rattle.checkpoint_journal.proofs.Knowing.{known_now}
use Rattle.checkpoint_journal.proofs.stands.Known.standing.Goals as goal

pub returns-in-Nothing : goal.returns-in-Nothing
returns-in-Nothing c = λ frames is. known_now frames _ _ (subst (IsKnown frames) c.in-Nothing.is is) refl refl

pub returns-in-Begun : goal.returns-in-Begun
returns-in-Begun c = λ frames is. known_now frames _ _ (subst (IsKnown frames) c.in-Begun.is is) refl refl

pub returns-in-Settled : goal.returns-in-Settled
returns-in-Settled c = λ frames is. known_now frames _ _ (subst (IsKnown frames) c.in-Settled.is is) refl refl
