-- Runs in two parts.
use Rattle.std.proofs.Common.{List, [], ◌∷◌, ◌++◌, refl}
use Rattle.topic_conf.specs.Configs.{ConfigParts}
use Rattle.broker_model.specs.States.{State}
use Rattle.broker_model.specs.Runs.{Step, IsRun}

pub run_parts : (conf : ConfigParts) (first last : State) (front rest : List Step) → IsRun conf first (front ++ rest) last
    → (mid : State) × IsRun conf first front mid × IsRun conf mid rest last
run_parts conf first last [] rest run = (first, refl, run)
run_parts conf first last (s ∷ front) rest run = let p = run_parts conf s.after last front rest run.2 in (p.0, (run.0, run.1, p.1), p.2)
