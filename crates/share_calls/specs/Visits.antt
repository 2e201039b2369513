-- A visit that a share request asks, and whether its reply tells it (this project's own).
-- For example the releases of a session's list are asked, and no reply tells them.
use Rattle.std.specs.Prelude.{Option, None, List}
use Rattle.std.specs.List.{filter_map}
use Rattle.share_model.specs.declared.visit.Then.{Then}
use Rattle.share_model.specs.declared.visit.Visit.{Visit}
use Rattle.call_fold.specs.declared.call.Entry.{Entry}
use Rattle.call_fold.specs.declared.call.Entry.TheVariants.{Ask}
use Rattle.share_session.specs.declared.step.PlanStep.{PlanStep}
use Rattle.share_calls.specs.declared.visiting.Visiting.{Visiting}

-- the visit of a step, with what follows its acknowledgements
abbrev pub visit_of : PlanStep → Then → Visit
visit_of step what = record { group = step.group; member = step.member; acks = step.acks; «then» = what }

-- a step that the reply doesn't tell; its row is none
abbrev pub untold : {R : Type 0} → PlanStep → Entry Visiting (Option R)
untold step = Ask (record { step = step; told = None })

abbrev pub told_rows : {R : Type 0} → List (Option R) → List R
told_rows rows = filter_map (λ row. row) rows
