-- A run one step longer.
use Rattle.std.proofs.Common.{◌≡◌, List, [], ◌∷◌, ◌++◌, refl, sym, ap, ◌∙◌, append_assoc, append-nil}
use Rattle.session_script.specs.declared.event.Event.{Event}
use Rattle.session_script.specs.declared.event.Outcome.{Outcome}
use Rattle.topic_conf.specs.Configs.{ConfigParts}
use Rattle.broker_model.specs.States.{State, IsStep}
use Rattle.broker_model.specs.Runs.{Step, IsRun, events_of, outcomes_of}

pub run_then : (conf : ConfigParts) (first mid : State) (steps : List Step) (s : Step) → IsRun conf first steps mid → s.before ≡ mid
    → IsStep conf s.before s.event s.call s.outcomes s.after → IsRun conf first (steps ++ s ∷ []) s.after
run_then conf first mid [] s run is one = (is ∙ run, one, refl)
run_then conf first mid (t ∷ steps) s run is one = (run.0, run.1, run_then conf t.after mid steps s run.2 is one)

pub events_then : (steps : List Step) (s : Step) → events_of (steps ++ s ∷ []) ≡ events_of steps ++ s.event ∷ []
events_then [] s = refl
events_then (t ∷ steps) s = ap (λ (l : List Event). t.event ∷ l) (events_then steps s)

pub outcomes_then : (steps : List Step) (s : Step) → outcomes_of (steps ++ s ∷ []) ≡ outcomes_of steps ++ s.outcomes
outcomes_then [] s = append-nil s.outcomes
outcomes_then (t ∷ steps) s =
    ap (λ (l : List Outcome). t.outcomes ++ l) (outcomes_then steps s) ∙ sym (append_assoc t.outcomes (outcomes_of steps) s.outcomes)
