-- What holds of each run: its losses, its arms and its counts.
use Rattle.std.proofs.Common.{◌≡◌, ◌≢◌, ◌⊎◌, ◌<◌, ◌≤◌, ◌+◌, ◌-◌, ◌^◌, inl, inr, ⊎_elim, refl, sym, ap, ◌∙◌, subst, arith, ℕ, zero, suc, List, [], ◌∷◌, ◌++◌, append_assoc, append-nil, Option, true}
use Rattle.std.proofs.lemmas.Bool.{cases_lt}
use Rattle.std.specs.List.{AllByRecursion}
use Rattle.edge_io.specs.declared.fault.Armed.{Armed}
use Rattle.edge_io.specs.declared.fault.Armed.TheVariants.{Nothing}
use Rattle.edge_io.specs.Armed.{IsOneShot}
use Rattle.session_script.specs.declared.event.Event.{Event}
use Rattle.session_script.specs.declared.event.Event.TheVariants.{Open, Bytes, Close, Step as StepOf, Expire, Tick, Arm, Power}
use Rattle.topic_conf.specs.Configs.{ConfigParts}
use Rattle.broker_model.specs.Hosted.{IsTaken, IsLogName, IsStore, StoreDisks, has_disk}
use Rattle.broker_model.specs.Hosted.StoreDisks.{OnOne, OnTwo}
use Rattle.broker_model.specs.Shards.{ShardCall, failures_in}
use Rattle.broker_model.specs.Disks.{Disks, OnDisk, Covers}
use Rattle.broker_model.specs.States.{State, IsStep, OnEnd, OnLosses, counts_of, ends_of, faults_of}
use Rattle.broker_model.specs.Runs.{Step, IsRun, events_of, calls_of}
use Rattle.broker_model.specs.Laws.{Loss, losses_on, TakesLoss, AreLosses, losses_behind, next_reach, EndsShow, NoPower, NoArm, ArmsOne, arms_by, arms_after, HasArm, Rises, IsQuiet, RisesOnce, failures, HoldsOfRun, HasArmOn, faults_on}
use Rattle.broker_model.proofs.Uses.{Kind, IsCalm, kind_of, same_losses, arms_step, quiet_step, still_none, calm_step, shot, armed_one}
use Rattle.broker_model.proofs.Chains.{run_parts}
use Rattle.broker_model.proofs.Exclusive.{exclusive}
use Rattle.broker_model.proofs.Taken.{all_taken}
use Rattle.broker_model.proofs.Passing.{passes_closed}
use Rattle.broker_model.proofs.Ungranted.{run_ungranted}
use Rattle.broker_model.proofs.Fails.{covers_both, step_counts}
use Rattle.broker_model.proofs.Quiets.{all_told}
use Rattle.broker_model.proofs.Stores.{has_first, has_second, same_self, store_taken}

-- ---- losses

abbrev Lengthens : ConfigParts → Disks → Disks → List Loss → Type 0
Lengthens conf old new lost = (name : List ℕ) → IsTaken conf name → (new name).losses ≡ (old name).losses ++ losses_on name lost

abbrev OnDisks : ConfigParts → Event → Option ShardCall → Disks → Disks → Type 0
OnDisks conf event call old new = (name : List ℕ) → IsTaken conf name → OnDisk name event call (old name) (new name)

-- a log's end doesn't fall in a step that isn't a power loss
end_grows : (name : List ℕ) (event : Event) (call : Option ShardCall) (old new : ℕ) → IsLogName name → NoPower event → OnEnd name event call old new
    → old ≤ new
end_grows name (Open conn) call old new log free same = omega (arith, same)
end_grows name (Bytes conn bytes) call old new log free same = omega (arith, same)
end_grows name (Close conn) call old new log free same = omega (arith, same)
end_grows name (StepOf conn now) call old new log free on = on.0 log
end_grows name (Expire topic part now) call old new log free on = on.0 log
end_grows name (Tick now) call old new log free same = omega (arith, same)
end_grows name (Arm disk after mode) call old new log free same = omega (arith, same)
end_grows name (Power choice) call old new log free on = absurd free

-- the disks of logs that the broker takes reach next to where these journals end
abbrev Reach : ConfigParts → (List ℕ → ℕ) → List Loss → State → Type 0
Reach conf ends losses final = (name : List ℕ) → IsTaken conf name → IsLogName name → ends name ≤ next_reach name losses final

module _ (conf : ConfigParts) (call : Option ShardCall) (old new final : State) (rest : List Loss) (Rest : List Loss → Type 0)
    (more : Lengthens conf new.disks final.disks rest) (shown : Reach conf new.ends rest final) where
  -- the losses from this event on
  record Loses (event : Event) : Type 0 where
    lost : List Loss
    lengthens : Lengthens conf old.disks final.disks lost
    takes : TakesLoss conf event new.machine lost Rest
    behind : losses_behind event lost ≡ rest
    reach : Reach conf old.ends lost final

  abbrev OnEnds : Event → Type 0
  OnEnds event = (name : List ℕ) → IsTaken conf name → OnEnd name event call (old.ends name) (new.ends name)

  kept : (event : Event) → NoPower event → OnDisks conf event call old.disks new.disks → Lengthens conf old.disks final.disks rest
  kept event free disks name taken =
      more name taken
      ∙ ap (λ (l : List _). l ++ losses_on name rest)
      (same_losses name event (old.disks name) (new.disks name) (kind_of name call (old.disks name) (new.disks name) event (disks name taken)) free)

  grown : (event : Event) → NoPower event → OnEnds event → Reach conf old.ends rest final
  grown event free ends name taken log =
      let le = end_grows name event call (old.ends name) (new.ends name) log free (ends name taken) in
      let there = shown name taken log in
      omega (arith, le, there)

  take_loss : (event : Event) → OnDisks conf event call old.disks new.disks → OnEnds event → OnLosses conf event old.ends old.disks new.disks new.machine
      → Rest rest → Loses event
  take_loss (Open conn) disks ends lost r =
      record { lost = rest; lengthens = kept (Open conn) tt disks; takes = r; behind = refl; reach = grown (Open conn) tt ends }
  take_loss (Bytes conn bytes) disks ends lost r =
      record { lost = rest; lengthens = kept (Bytes conn bytes) tt disks; takes = r; behind = refl; reach = grown (Bytes conn bytes) tt ends }
  take_loss (Close conn) disks ends lost r =
      record { lost = rest; lengthens = kept (Close conn) tt disks; takes = r; behind = refl; reach = grown (Close conn) tt ends }
  take_loss (StepOf conn now) disks ends lost r =
      record { lost = rest; lengthens = kept (StepOf conn now) tt disks; takes = r; behind = refl; reach = grown (StepOf conn now) tt ends }
  take_loss (Expire topic part now) disks ends lost r = record {
    lost = rest;
    lengthens = kept (Expire topic part now) tt disks;
    takes = r;
    behind = refl;
    reach = grown (Expire topic part now) tt ends;
  }
  take_loss (Tick now) disks ends lost r =
      record { lost = rest; lengthens = kept (Tick now) tt disks; takes = r; behind = refl; reach = grown (Tick now) tt ends }
  take_loss (Arm disk after mode) disks ends lost r =
      record { lost = rest; lengthens = kept (Arm disk after mode) tt disks; takes = r; behind = refl; reach = grown (Arm disk after mode) tt ends }
  take_loss (Power choice) disks ends lost r = record {
    lost = (choice, lost.contents) ∷ rest;
    lengthens = λ name taken. more name taken ∙ ap (λ (l : List _). l ++ losses_on name rest) (lost.losses name taken)
        ∙ append_assoc (old.disks name).losses ((choice, lost.contents name) ∷ []) (losses_on name rest);
    takes = (lost.contents, rest, refl, lost.opens, r);
    behind = refl;
    reach = lost.reach;
  }

module _ (conf : ConfigParts) where
  record HasLosses (first : State) (steps : List Step) (last : State) : Type 0 where
    lost : List Loss
    lengthens : Lengthens conf first.disks last.disks lost
    are : AreLosses conf steps lost
    reach : Reach conf first.ends lost last
    ends : (name : List ℕ) → IsTaken conf name → IsLogName name → EndsShow name steps lost last

  losses : (first last : State) (steps : List Step) → IsRun conf first steps last → HasLosses first steps last
  losses first last [] run = record {
    lost = [];
    lengthens = λ name taken. ap (λ (s : State). (s.disks name).losses) run ∙ sym (append-nil (first.disks name).losses);
    are = refl;
    reach = λ name taken log. let same : last.ends name ≡ first.ends name = ap (λ (s : State). s.ends name) run in omega (arith, same);
    ends = λ name taken log. tt;
  }
  losses first last (s ∷ steps) run =
      let more = losses s.after last steps run.2 in
      let l = take_loss conf s.call s.before s.after last more.lost (λ rest. AreLosses conf steps rest) more.lengthens more.reach
      s.event run.1.disks run.1.ends run.1.losses more.are in
      record {
        lost = l.lost;
        lengthens = λ name taken. l.lengthens name taken ∙ ap (λ (x : State). (x.disks name).losses ++ losses_on name l.lost) run.0;
        are = l.takes;
        reach = subst (λ (x : State). Reach conf x.ends l.lost last) run.0 l.reach;
        ends = λ name taken log. (
          l.reach name taken log,
          subst (λ (r : List Loss). s.after.ends name ≤ next_reach name r last) (sym l.behind) (more.reach name taken log),
          subst (λ (r : List Loss). EndsShow name steps r last) (sym l.behind) (more.ends name taken log),
        );
      }

  -- ---- failed writes

  -- the counts of a store's disks don't fall in a step
  later_on : (store : StoreDisks) → IsStore conf store → (s : Step) → IsStep conf s.before s.event s.call s.outcomes s.after
      → faults_on s.before store ≤ faults_on s.after store
  later_on (OnOne disk) is s step = step.later disk (store_taken conf disk (OnOne disk) is (same_self disk))
  later_on (OnTwo first second) is s step =
      let a = step.later first (store_taken conf first (OnTwo first second) is (has_first first second)) in
      let b = step.later second (store_taken conf second (OnTwo first second) is (has_second first second)) in
      omega (arith, a, b)

  counted : (store : StoreDisks) → IsStore conf store → (s : Step) → IsStep conf s.before s.event s.call s.outcomes s.after
      → Covers (faults_on s.before store) (faults_on s.after store) (failures_in store s.call)
  counted store is s step =
      step_counts (counts_of s.before s.after) (ends_of s.before s.after) store (later_on store is s step) conf s.before.machine s.event s.call s.outcomes
      s.after.machine step.machine

  covered : (store : StoreDisks) → IsStore conf store → (first last : State) (steps : List Step) → IsRun conf first steps last
      → (faults_on first store ≤ faults_on last store) × Covers (faults_on first store) (faults_on last store) (failures store (calls_of steps))
  covered store is first last [] run =
      let same : faults_on last store ≡ faults_on first store = ap (λ (s : State). faults_on s store) run in (omega (arith, same), omega (arith, same))
  covered store is first last (s ∷ steps) run =
      let more = covered store is s.after last steps run.2 in
      let later = later_on store is s run.1 in
      subst (λ (x : State). (faults_on x store ≤ faults_on last store)
      × Covers (faults_on x store) (faults_on last store) (failures_in store s.call + failures store (calls_of steps))) run.0 (
        (let a = more.0 in omega (arith, later, a)),
        covers_both (faults_on s.before store) (faults_on s.after store) (faults_on last store) (failures_in store s.call) (failures store (calls_of steps))
            (counted store is s run.1) more.1,
      )

risen : (a b n : ℕ) → a < 2 ^ 64 - 1 → n ≢ 0 → Covers a b n → a < b
risen a b zero room some covers = absurd (some refl)
risen a b (suc k) room some covers = omega (arith, room, covers)

part_rose : (a b c d : ℕ) → a + b < c + d → (a < c) ⊎ (b < d)
part_rose a b c d lt = ⊎_elim (λ less. inl less) (λ le. inr (omega (arith, lt, le))) (cases_lt a c)

-- ---- one disk

module _ (conf : ConfigParts) (name : List ℕ) (taken : IsTaken conf name) where
  abbrev armed_in : State → Armed
  armed_in s = (s.disks name).armed

  kind : (s : Step) → IsStep conf s.before s.event s.call s.outcomes s.after → Kind name s.event (s.before.disks name) (s.after.disks name)
  kind s step = kind_of name s.call (s.before.disks name) (s.after.disks name) s.event (step.disks name taken)

  arms : (first last : State) (steps : List Step) → IsRun conf first steps last → (last.disks name).arms ≡ arms_after name (events_of steps) (first.disks name).arms
  arms first last [] run = ap (λ (s : State). (s.disks name).arms) run
  arms first last (s ∷ steps) run = arms s.after last steps run.2
      ∙ ap (arms_after name (events_of steps)) (arms_step name s.event (s.before.disks name) (s.after.disks name) (kind s run.1)
      ∙ ap (λ (x : State). arms_by name s.event (x.disks name).arms) run.0)

  calm : (first last : State) (events : List Event) (steps : List Step) → IsRun conf first steps last → IsCalm name (armed_in first) events
      → IsCalm name (armed_in last) (events ++ events_of steps)
  calm first last events [] run c = subst (λ (s : State). IsCalm name (armed_in s) (events ++ [])) (sym run)
      (subst (λ (l : List Event). IsCalm name (armed_in first) l) (sym (append-nil events)) c)
  calm first last events (s ∷ steps) run c =
      subst (λ (l : List Event). IsCalm name (armed_in last) l) (append_assoc events (s.event ∷ []) (events_of steps))
      (calm s.after last (events ++ s.event ∷ []) steps run.2 (calm_step name s.event (s.before.disks name) (s.after.disks name) events
      (kind s run.1) (subst (λ (x : State). IsCalm name (armed_in x) events) (sym run.0) c)))

  rises : (first last : State) (before after : List Step) (s : Step) → IsRun conf first (before ++ (s ∷ after)) last → armed_in first ≡ Nothing → Rises name s
      → HasArm name (events_of before)
  rises first last before after s run none rise =
      let p = run_parts conf first last before (s ∷ after) run in
      ⊎_elim
      (λ free. absurd (let same = quiet_step name s.event (s.before.disks name) (s.after.disks name) (kind s p.2.1)
      (ap armed_in p.2.0 ∙ free) in omega (arith, same, rise)))
      (λ h. h)
      (calm first p.0 [] before p.1 (inl none))

  quiet : (first last : State) (steps : List Step) → IsRun conf first steps last → armed_in first ≡ Nothing → AllByRecursion (NoArm name) (events_of steps)
      → AllByRecursion (IsQuiet name) steps
  quiet first last [] run none free = tt
  quiet first last (s ∷ steps) run none free =
      let was = ap armed_in run.0 ∙ none in (
        quiet_step name s.event (s.before.disks name) (s.after.disks name) (kind s run.1) was,
        quiet s.after last steps run.2 (still_none name s.event (s.before.disks name) (s.after.disks name) (kind s run.1) was free.0) free.1,
      )

  shots : (first last : State) (steps : List Step) → IsRun conf first steps last → IsOneShot (armed_in first) → AllByRecursion (NoArm name) (events_of steps)
      → RisesOnce name steps
  shots first last [] run one free = tt
  shots first last (s ∷ steps) run one free = ⊎_elim
      (λ p. inl (p.0, shots s.after last steps run.2 p.1 free.1))
      (λ none. inr (quiet s.after last steps run.2 none free.1))
      (shot name s.event (s.before.disks name) (s.after.disks name) (kind s run.1)
      (subst (λ (x : State). IsOneShot (armed_in x)) (sym run.0) one) free.0)

  once : (first last : State) (before between after : List Step) (s : Step) → IsRun conf first (before ++ (s ∷ (between ++ after))) last
      → ArmsOne name s.event → AllByRecursion (NoArm name) (events_of between) → RisesOnce name between
  once first last before between after s run one free =
      let p = run_parts conf first last before (s ∷ (between ++ after)) run in
      let q = run_parts conf s.after last between after p.2.2 in
      shots s.after q.0 between q.1 (armed_one name s.event (s.before.disks name) (s.after.disks name) (kind s p.2.1) one) free

-- ---- all together

module _ (conf : ConfigParts) (first last : State) (steps : List Step) (run : IsRun conf first steps last) where
  -- where the sum of the counts rose, one of them did
  one_rose : (store : StoreDisks) → IsStore conf store → ((name : List ℕ) → has_disk store name ≡ true → (first.disks name).armed ≡ Nothing)
      → (before after : List Step) (s : Step) → IsRun conf first (before ++ (s ∷ after)) last → faults_on s.before store < faults_on s.after store
      → HasArmOn store (events_of before)
  one_rose (OnOne disk) is none before after s parted rise = (
    disk,
    same_self disk,
    rises conf disk (store_taken conf disk (OnOne disk) is (same_self disk)) first last before after s parted (none disk (same_self disk)) rise,
  )
  one_rose (OnTwo one other) is none before after s parted rise =
      ⊎_elim (by one (has_first one other)) (by other (has_second one other))
      (part_rose (faults_of s.before one) (faults_of s.before other) (faults_of s.after one) (faults_of s.after other) rise) where
        by : (name : List ℕ) → has_disk (OnTwo one other) name ≡ true → Rises name s → HasArmOn (OnTwo one other) (events_of before)
        by name has rose = (
          name,
          has,
          rises conf name (store_taken conf name (OnTwo one other) is has) first last before after s parted (none name has) rose,
        )

  fails : (store : StoreDisks) → IsStore conf store → ((name : List ℕ) → has_disk store name ≡ true → (first.disks name).armed ≡ Nothing)
      → (before after : List Step) (s : Step) → steps ≡ before ++ (s ∷ after)
      → failures_in store s.call ≢ 0 → faults_on s.before store < 2 ^ 64 - 1 → HasArmOn store (events_of before)
  fails store is none before after s split some room =
      let parted = subst (λ (l : List Step). IsRun conf first l last) split run in
      let p = run_parts conf first last before (s ∷ after) parted in
      one_rose store is none before after s parted
      (risen (faults_on s.before store) (faults_on s.after store) (failures_in store s.call) room some (counted conf store is s p.2.1))

  pub holds : HoldsOfRun conf first steps last
  holds =
      let l = losses conf first last steps run in
      record {
        lost = l.lost;
        are_losses = l.are;
        disks = λ name taken. record {
          losses = l.lengthens name taken;
          arms = arms conf name taken first last steps run;
          rises = λ none before after s split rise.
              rises conf name taken first last before after s (subst (λ (l : List Step). IsRun conf first l last) split run) none rise;
          once = λ before between after s split one free.
              once conf name taken first last before between after s (subst (λ (l : List Step). IsRun conf first l last) split run) one free;
          told = λ log. all_told conf name taken log first last steps run;
          ends = l.ends name taken;
        };
        stores = λ store is. record { covered = (covered conf store is first last steps run).1; fails = fails store is };
        exclusive = exclusive conf first last steps run;
        deleted = run_ungranted conf first last steps run;
        starts = passes_closed conf first last steps run;
        taken = all_taken conf first last steps run;
      }
