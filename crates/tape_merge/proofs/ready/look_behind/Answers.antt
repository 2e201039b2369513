use Rattle.std.proofs.Common.{◌≡◌, ℕ, List, subst, sym}
use Rattle.share_record.specs.declared.tape.LinkTape.{LinkTape}
use Rattle.share_record.specs.declared.tape.ShardTape.{ShardTape}
use Rattle.tape_merge.specs.declared.moves.Move.{Move}
use Rattle.tape_merge.specs.declared.moves.Move.TheVariants.{Steps, Alone}
use Rattle.tape_merge.specs.Moves.{CanGo, Counts, after}
use Rattle.tape_merge.specs.Readiness.{Any, Gains, IsOther, IsReadyIf, Touched}
use Rattle.tape_merge.proofs.Steadies.{ready_then}
use Rattle.tape_merge.proofs.ready.look_behind.Goals as goal

-- behind the move that went, by what it is
ready_behind_it : (tapes : List ShardTape) (links : List LinkTape) (d : Counts) (went m : Move) (old new : List ℕ) → went ≡ m
    → Gains (Touched tapes d m) tapes links d old new
    → (c : Counts) → d ≡ after c went → CanGo tapes links c went → IsReadyIf (IsOther went) tapes links c old → IsReadyIf Any tapes links d new
ready_behind_it tapes links d went m old new is gains =
    ready_then tapes links d went old new (subst (λ x. Gains (Touched tapes d x) tapes links d old new) (sym is) gains)

pub returns-in-Steps : goal.returns-in-Steps
returns-in-Steps c =
    ready_behind_it c.args.tapes.now c.args.links.now c.args.counts.now c.args.went (Steps c.in-Steps.link c.in-Steps.tape) c.args.ready.now.keys
    c.look_behind_step.new.ready.keys c.in-Steps.is c.in_ok-look_behind_step-in-Steps.ensures

pub returns-in-Alone : goal.returns-in-Alone
returns-in-Alone c =
    ready_behind_it c.args.tapes.now c.args.links.now c.args.counts.now c.args.went (Alone c.in-Alone.tape) c.args.ready.now.keys
    c.look_on.new.ready.keys c.in-Alone.is c.in_ok-look_on-in-Alone.ensures
