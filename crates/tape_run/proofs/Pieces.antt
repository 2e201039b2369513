-- Pieces of a run: what it tells each connection, and what two of them make.
use Rattle.std.proofs.Common.{◌≡◌, ◌++◌, ◌∙◌, inl, ℕ, List, [], ◌∷◌, Bool, true, false, Option, refl, sym, ap, subst, append_assoc}
use Rattle.session_script.specs.declared.event.Event.{Event}
use Rattle.session_script.specs.declared.event.Outcome.{Outcome}
use Rattle.topic_conf.specs.Configs.{ConfigParts}
use Rattle.conn_core.specs.Conns.{ConnParts}
use Rattle.broker_model.specs.Disks.{Disks, Facts, OnCalled}
use Rattle.broker_model.specs.Hosted.{hosted_of}
use Rattle.broker_model.specs.Runs.{IsRun, Step, calls_made, events_of, made}
use Rattle.broker_model.specs.Shards.{ShardCall, Shards, hosted_by}
use Rattle.broker_model.specs.States.{IsStep, State}
use Rattle.tape_run.specs.Sessions.{told_in, told_to}

abbrev pub Connections : Type 0
Connections = List (ℕ × ConnParts)

-- a broker with these connections and shards, whose disks are as they are in the whole run
abbrev pub state_of : Disks → Connections → Shards → (List ℕ → ℕ) → State
state_of disks connections shards ends =
    record { machine = record { connections = connections; shards = shards }; disks = disks; ends = ends }

-- what steps tell each connection, and which calls they make
pub record Telling : Type 0 where
  pub told : ℕ → List Outcome
  pub calls : List ShardCall

-- Steps from one state to another on these events, which tell this.
pub record Piece (conf : ConfigParts) (first : State) (events : List Event) (tells : Telling) (last : State) : Type 0 where
  pub steps : List Step
  pub run : IsRun conf first steps last
  pub events_are : events_of steps ≡ events
  pub tells_are : (id : ℕ) → told_to id steps ≡ tells.told id
  pub calls_are : calls_made steps ≡ tells.calls

abbrev pub nothing : Telling
nothing = record { told = λ id. []; calls = [] }

-- that of one piece and then of another
abbrev pub both : Telling → Telling → Telling
both tells others = record { told = λ id. tells.told id ++ others.told id; calls = tells.calls ++ others.calls }

pub no_piece : (conf : ConfigParts) (first : State) → Piece conf first [] nothing first
no_piece conf first = record { steps = []; run = refl; events_are = refl; tells_are = λ id. refl; calls_are = refl }

-- ---- two pieces

runs_on : (conf : ConfigParts) (first mid last : State) (steps more : List Step) → IsRun conf first steps mid → IsRun conf mid more last → IsRun conf first (steps ++ more) last
runs_on conf first mid last [] more run rest = subst (λ (s : State). IsRun conf s more last) run rest
runs_on conf first mid last (s ∷ steps) more run rest = (run.0, run.1, runs_on conf s.after mid last steps more run.2 rest)

events_on : (steps more : List Step) → events_of (steps ++ more) ≡ events_of steps ++ events_of more
events_on [] more = refl
events_on (s ∷ steps) more = ap (λ es. s.event ∷ es) (events_on steps more)

told_on : (id : ℕ) (steps more : List Step) → told_to id (steps ++ more) ≡ told_to id steps ++ told_to id more
told_on id [] more = refl
told_on id (s ∷ steps) more = ap (λ os. told_in id s.event s.outcomes ++ os) (told_on id steps more) ∙ sym (append_assoc (told_in id s.event s.outcomes) (told_to id steps) (told_to id more))

calls_on_both : (steps more : List Step) → calls_made (steps ++ more) ≡ calls_made steps ++ calls_made more
calls_on_both [] more = refl
calls_on_both (s ∷ steps) more = ap (λ cs. made s.call ++ cs) (calls_on_both steps more) ∙ sym (append_assoc (made s.call) (calls_made steps) (calls_made more))

pub both_pieces : (conf : ConfigParts) (first mid last : State) (events more : List Event) (tells others : Telling)
    → Piece conf first events tells mid → Piece conf mid more others last → Piece conf first (events ++ more) (both tells others) last
both_pieces conf first mid last events more tells others p q = record {
  steps = p.steps ++ q.steps;
  run = runs_on conf first mid last p.steps q.steps p.run q.run;
  events_are = events_on p.steps q.steps ∙ (ap (λ es. es ++ events_of q.steps) p.events_are ∙ ap (λ es. events ++ es) q.events_are);
  tells_are = λ id. told_on id p.steps q.steps ∙ (ap (λ os. os ++ told_to id q.steps) (p.tells_are id) ∙ ap (λ os. tells.told id ++ os) (q.tells_are id));
  calls_are = calls_on_both p.steps q.steps ∙ (ap (λ cs. cs ++ calls_made q.steps) p.calls_are ∙ ap (λ cs. tells.calls ++ cs) q.calls_are);
}

-- the same piece by what is equal to what it tells
pub tells_so : (conf : ConfigParts) (first last : State) (events : List Event) (tells others : Telling) → ((id : ℕ) → tells.told id ≡ others.told id)
    → tells.calls ≡ others.calls
    → Piece conf first events tells last → Piece conf first events others last
tells_so conf first last events tells others same calls p =
    record { steps = p.steps; run = p.run; events_are = p.events_are; tells_are = λ id. p.tells_are id ∙ same id; calls_are = p.calls_are ∙ calls }

pub events_so : (conf : ConfigParts) (first last : State) (events more : List Event) (tells : Telling) → events ≡ more
    → Piece conf first events tells last → Piece conf first more tells last
events_so conf first last events more tells same p =
    record { steps = p.steps; run = p.run; events_are = p.events_are ∙ same; tells_are = p.tells_are; calls_are = p.calls_are }

-- ---- one step

pub nil_last : {X : Type 0} (xs : List X) → xs ++ [] ≡ xs
nil_last [] = refl
nil_last (x ∷ xs) = ap (λ l. x ∷ l) (nil_last xs)

-- what a step tells
abbrev pub told_once : Event → Option ShardCall → List Outcome → Telling
told_once event call outcomes = record { told = λ id. told_in id event outcomes; calls = made call }

pub one_piece : (conf : ConfigParts) (first last : State) (event : Event) (call : Option ShardCall) (outcomes : List Outcome)
    → IsStep conf first event call outcomes last → Piece conf first (event ∷ []) (told_once event call outcomes) last
one_piece conf first last event call outcomes step = record {
  steps = record { before = first; event = event; call = call; outcomes = outcomes; after = last } ∷ [];
  run = (refl, step, refl);
  events_are = refl;
  tells_are = λ id. nil_last (told_in id event outcomes);
  calls_are = nil_last (made call);
}

-- ---- what is known of the shards, whatever was done

pub record IsOf (conf : ConfigParts) (shards : Shards) : Type 0 where
  pub hosts : hosted_by shards.parts ≡ hosted_of conf
  pub topics : shards.members.topics ≡ conf.topics

-- a disk that isn't touched may have been used
pub untouched : (called : Bool) (facts : Facts) → OnCalled called facts facts
untouched true facts = record {
  losses = refl;
  arms = refl;
  spends = record { disarmed = λ is. (is, refl); one_shot = λ is. inl (is, refl) };
}
untouched false facts = refl
