-- What a step does to one hosted partition: nothing, one call, or a power loss.
use Rattle.std.proofs.Common.{◌≡◌, ◌≢◌, ◌⊎◌, inl, inr, ⊎_elim, refl, sym, ap, ◌∙◌, subst, ℕ, List, Some, None}
use Rattle.session_script.specs.declared.event.Event.{Event}
use Rattle.session_script.specs.declared.event.Event.TheVariants.{Power}
use Rattle.topic_conf.specs.Configs.{ConfigParts}
use Rattle.broker_model.specs.Hosted.{Hosted}
use Rattle.broker_model.specs.Shards.{HostedPart, PartCall, Shards, ShardCall, StepsHosted, StepsShards}
use Rattle.broker_model.specs.Shards.ShardCall.{CallForeign, CallPart, CallMembers}
use Rattle.broker_model.specs.Machine.{LandsPart, OpensPart}
use Rattle.broker_model.specs.Steps.{IsRestart, StepsTo}
use Rattle.broker_model.specs.States.{State, IsStep, LosesAll, OnLosses, counts_of, ends_of}
use Rattle.broker_model.specs.Runs.{Step}
use Rattle.broker_model.proofs.Lists.{Both, all_entry, back, both_so, changed, entry_at, forth, none_not, same_both, same_or_not, some_same, unchanged, zip_both}
use Rattle.broker_model.proofs.Acts.{Acts, power_or_not, step_acts}

pub record IsCalledOn (n : ℕ) (s : Step) (old new : HostedPart) : Type 0 where
  pub now : ℕ
  pub hosted : Hosted
  pub did : PartCall
  pub call : s.call ≡ Some (CallPart n hosted did)
  pub step : StepsHosted (counts_of s.before s.after) (ends_of s.before s.after) now hosted did old new

pub record IsLostIn (s : Step) (old new : HostedPart) : Type 0 where
  pub choice : ℕ
  pub event : s.event ≡ Power choice
  pub lands : LandsPart old new
  pub contents : List ℕ → List ℕ
  pub opens : OpensPart contents new

abbrev pub Goes : ℕ → Step → HostedPart → HostedPart → Type 0
Goes n s old new = (new ≡ old) ⊎ (IsCalledOn n s old new ⊎ IsLostIn s old new)

abbrev pub parts_of : State → List HostedPart
parts_of s = s.machine.shards.parts

abbrev pub IsStepOf : ConfigParts → Step → Type 0
IsStepOf conf s = IsStep conf s.before s.event s.call s.outcomes s.after

module _ (conf : ConfigParts) (s : Step) (step : IsStepOf conf s) (n : ℕ) where
  abbrev GoesOn : Type 0
  GoesOn = Both n (Goes n s) (parts_of s.before) (parts_of s.after)

  stays_on : entry_at n (parts_of s.after) ≡ entry_at n (parts_of s.before) → GoesOn
  stays_on is = same_both n (Goes n s) (parts_of s.before) (parts_of s.after) (λ x. inl refl) is

  all_stay : parts_of s.after ≡ parts_of s.before → GoesOn
  all_stay is = stays_on (ap (entry_at n) is)

  did_goes : (now : ℕ) (did : ShardCall) → s.call ≡ Some did
      → StepsShards (counts_of s.before s.after) (ends_of s.before s.after) now s.before.machine.shards did s.after.machine.shards → GoesOn
  did_goes now (CallForeign op answer fault) is p = all_stay p.1
  did_goes now (CallPart shard hosted did) is p = go (same_or_not n shard) where
    go : (n ≡ shard) ⊎ (n ≢ shard) → GoesOn
    go (inr ne) = stays_on (unchanged shard n (StepsHosted (counts_of s.before s.after) (ends_of s.before s.after) now hosted did) (parts_of s.before) (parts_of s.after) ne p.0)
    go (inl e) =
        let c = changed shard (StepsHosted (counts_of s.before s.after) (ends_of s.before s.after) now hosted did) (parts_of s.before) (parts_of s.after) p.0 in
        inr (record {
          old = c.old;
          new = c.new;
          was = subst (λ (k : ℕ). entry_at k (parts_of s.before) ≡ Some c.old) (sym e) c.was;
          is = subst (λ (k : ℕ). entry_at k (parts_of s.after) ≡ Some c.new) (sym e) c.is;
          goes = inr (inl (record {
            now = now;
            hosted = hosted;
            did = did;
            call = subst (λ (k : ℕ). s.call ≡ Some (CallPart k hosted did)) (sym e) is;
            step = c.goes;
          }));
        })
  did_goes now (CallMembers did) is p = all_stay p.1

  acts_go : Acts (counts_of s.before s.after) (ends_of s.before s.after) s.before.machine.shards s.after.machine.shards s.call → GoesOn
  acts_go (inl quiet) = all_stay (ap (λ (x : Shards). x.parts) quiet.same)
  acts_go (inr d) = did_goes d.now d.did d.is d.step

  -- where the step is a power loss, the partition is lost in it
  lost_on : (choice : ℕ) → s.event ≡ Power choice → Both n (IsLostIn s) (parts_of s.before) (parts_of s.after)
  lost_on choice is =
      let restart : IsRestart s.before.machine s.call s.outcomes s.after.machine =
      subst (λ (e : Event). StepsTo conf (counts_of s.before s.after) (ends_of s.before s.after) s.before.machine e s.call s.outcomes s.after.machine) is step.machine in
      let lost : LosesAll conf choice s.before.ends s.before.disks s.after.disks s.after.machine =
      subst (λ (e : Event). OnLosses conf e s.before.ends s.before.disks s.after.disks s.after.machine) is step.losses in
      both_so n LandsPart (IsLostIn s) (parts_of s.before) (parts_of s.after)
      (λ x y at lands. record {
        choice = choice;
        event = is;
        lands = lands;
        contents = lost.contents;
        opens = all_entry n (OpensPart lost.contents) (parts_of s.after) y at lost.opens.parts;
      })
      (zip_both n LandsPart (parts_of s.before) (parts_of s.after) restart.lands.parts)

  pub lost_at : (choice : ℕ) → s.event ≡ Power choice → (x y : HostedPart) → entry_at n (parts_of s.before) ≡ Some x
      → entry_at n (parts_of s.after) ≡ Some y → IsLostIn s x y
  lost_at choice is x y was at =
      let f = forth n (IsLostIn s) (parts_of s.before) (parts_of s.after) x (lost_on choice is) was in
      subst (IsLostIn s x) (some_same f.0 y (sym f.1 ∙ at)) f.2

  goes_on : GoesOn
  goes_on = ⊎_elim
      (λ free. acts_go (step_acts (counts_of s.before s.after) (ends_of s.before s.after) conf s.before.machine s.after.machine s.call s.outcomes s.event free step.machine))
      (λ p. both_so n (IsLostIn s) (Goes n s) (parts_of s.before) (parts_of s.after) (λ x y at lost. inr (inr lost)) (lost_on p.0 p.1))
      (power_or_not s.event)

  -- from what the partition was to what it is, and back
  pub went : (x : HostedPart) → entry_at n (parts_of s.before) ≡ Some x → (y : HostedPart) × (entry_at n (parts_of s.after) ≡ Some y) × Goes n s x y
  went x at = forth n (Goes n s) (parts_of s.before) (parts_of s.after) x goes_on at

  pub came : (y : HostedPart) → entry_at n (parts_of s.after) ≡ Some y → (x : HostedPart) × (entry_at n (parts_of s.before) ≡ Some x) × Goes n s x y
  came y at = back n (Goes n s) (parts_of s.before) (parts_of s.after) y goes_on at

-- a call on the partition takes its step
pub record Called (n : ℕ) (s : Step) (hosted : Hosted) (did : PartCall) : Type 0 where
  pub now : ℕ
  pub old : HostedPart
  pub new : HostedPart
  pub was : entry_at n (parts_of s.before) ≡ Some old
  pub is : entry_at n (parts_of s.after) ≡ Some new
  pub step : StepsHosted (counts_of s.before s.after) (ends_of s.before s.after) now hosted did old new

module _ (conf : ConfigParts) (s : Step) (step : IsStepOf conf s) (n : ℕ) (hosted : Hosted) (did : PartCall) (call : s.call ≡ Some (CallPart n hosted did)) where
  uncalled : s.call ≡ None → Called n s hosted did
  uncalled none = absurd (none_not (CallPart n hosted did) (sym none ∙ call))

  acts_called : Acts (counts_of s.before s.after) (ends_of s.before s.after) s.before.machine.shards s.after.machine.shards s.call → Called n s hosted did
  acts_called (inl quiet) = uncalled quiet.none
  acts_called (inr d) =
      let same : d.did ≡ CallPart n hosted did = some_same d.did (CallPart n hosted did) (sym d.is ∙ call) in
      let p : StepsShards (counts_of s.before s.after) (ends_of s.before s.after) d.now s.before.machine.shards (CallPart n hosted did) s.after.machine.shards =
      subst (λ (c : ShardCall). StepsShards (counts_of s.before s.after) (ends_of s.before s.after) d.now s.before.machine.shards c s.after.machine.shards) same d.step in
      let c = changed n (StepsHosted (counts_of s.before s.after) (ends_of s.before s.after) d.now hosted did) (parts_of s.before) (parts_of s.after) p.0 in
      record { now = d.now; old = c.old; new = c.new; was = c.was; is = c.is; step = c.goes }

  pub called : Called n s hosted did
  called = ⊎_elim
      (λ free. acts_called (step_acts (counts_of s.before s.after) (ends_of s.before s.after) conf s.before.machine s.after.machine s.call s.outcomes s.event free step.machine))
      (λ p.
      let restart : IsRestart s.before.machine s.call s.outcomes s.after.machine =
      subst (λ (e : Event). StepsTo conf (counts_of s.before s.after) (ends_of s.before s.after) s.before.machine e s.call s.outcomes s.after.machine) p.1 step.machine in
      uncalled restart.none)
      (power_or_not s.event)
