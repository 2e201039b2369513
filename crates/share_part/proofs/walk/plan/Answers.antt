use Rattle.std.proofs.Common.{subst, sym}
use Rattle.std.specs.Prelude.{IfOk}
use Rattle.share_model.specs.Held.{Held}
use Rattle.share_part.specs.Collecting.{IsPlanOf, LieAtSlots}
use Rattle.share_part.specs.Walks.{acquired}
use Rattle.share_part.proofs.Laying.{none_laid}
use Rattle.share_part.proofs.walk.plan.Goals as goal

pub plan_laid-requires-clause-lie : goal.plan_laid-requires-clause-lie
plan_laid-requires-clause-lie g c = subst (LieAtSlots c.args.log.now.batches c.args.rows.now.list) (sym (none_laid (g.W.Window.held c.args.window.now))) c.requires.lie

pub returns-clause-is : goal.returns-clause-is
returns-clause-is g c = subst (λ (h : Held). IfOk c.plan_laid.result (λ plan. IsPlanOf c.args.log.now.batches plan
    (acquired c.args.log.now.batches (record { start = c.args.start; rows = c.args.rows.now.list; held = h }) c.args.limits)))
    (none_laid (g.W.Window.held c.args.window.now)) c.plan_laid.ensures.is
