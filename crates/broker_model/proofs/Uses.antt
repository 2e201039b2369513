-- What a step does to one disk: the disk is used, armed, or loses its power.
use Rattle.std.proofs.Common.{◌≡◌, ◌⊎◌, inl, inr, ⊎_elim, refl, sym, ap, ◌∙◌, subst, ℕ, List, [], ◌∷◌, ◌++◌, append_assoc, Bool, true, false, if◌then◌else◌, Option}
use Rattle.std.proofs.lemmas.Bool.{cases_Bool, true≢false}
use Rattle.std.specs.List.{AllByRecursion}
use Rattle.edge_io.specs.declared.fault.FaultMode.{FaultMode}
use Rattle.edge_io.specs.declared.fault.Armed.{Armed}
use Rattle.edge_io.specs.declared.fault.Armed.TheVariants.{Nothing}
use Rattle.edge_io.specs.Armed.{IsOneShot}
use Rattle.edge_io.specs.Causes.{raised}
use Rattle.session_script.specs.declared.event.Event.{Event}
use Rattle.session_script.specs.declared.event.Event.TheVariants.{Open, Bytes, Close, Step as StepOf, Expire, Tick, Arm, Power}
use Rattle.broker_model.specs.Hosted.{same_name}
use Rattle.broker_model.specs.Shards.{ShardCall, calls}
use Rattle.broker_model.specs.Disks.{Facts, IsUsed, IsRestarted, OnCalled, OnDisk, with_arm}
use Rattle.broker_model.specs.Laws.{NoPower, NoArm, ArmsOne, arms_by, HasArm}

pub record IsArmed (name : List ℕ) (event : Event) (old new : Facts) : Type 0 where
  pub disk : List ℕ
  pub after : ℕ
  pub mode : FaultMode
  pub is : event ≡ Arm disk after mode
  pub same : same_name disk name ≡ true
  pub armed : new ≡ with_arm after mode old

pub record IsLost (event : Event) (old new : Facts) : Type 0 where
  pub choice : ℕ
  pub is : event ≡ Power choice
  pub lost : IsRestarted old new

pub record IsCalled (name : List ℕ) (event : Event) (old new : Facts) : Type 0 where
  pub used : IsUsed old new
  pub unarmed : NoArm name event
  pub powered : NoPower event

abbrev pub Kind : List ℕ → Event → Facts → Facts → Type 0
Kind name event old new = IsCalled name event old new ⊎ (IsArmed name event old new ⊎ IsLost event old new)

-- one that stays as it is counts as used
stays : (old new : Facts) → new ≡ old → IsUsed old new
stays old new is = record {
  losses = ap (λ (f : Facts). f.losses) is;
  arms = ap (λ (f : Facts). f.arms) is;
  spends = record {
    disarmed = λ none. (ap (λ (f : Facts). f.armed) is ∙ none, ap (λ (f : Facts). f.faults) is);
    one_shot = λ one. inl (subst (λ (f : Facts). IsOneShot f.armed) (sym is) one, ap (λ (f : Facts). f.faults) is);
  };
}

called : (b : Bool) (old new : Facts) → OnCalled b old new → IsUsed old new
called true old new d = d
called false old new d = stays old new d

module _ (name : List ℕ) (call : Option ShardCall) (old new : Facts) where
  pub kind_of : (event : Event) → OnDisk name event call old new → Kind name event old new
  kind_of (Open conn) d = inl (record { used = stays old new d; unarmed = tt; powered = tt })
  kind_of (Bytes conn bytes) d = inl (record { used = stays old new d; unarmed = tt; powered = tt })
  kind_of (Close conn) d = inl (record { used = stays old new d; unarmed = tt; powered = tt })
  kind_of (StepOf conn now) d = inl (record { used = called (calls call name) old new d; unarmed = tt; powered = tt })
  kind_of (Expire topic part now) d = inl (record { used = called (calls call name) old new d; unarmed = tt; powered = tt })
  kind_of (Tick now) d = inl (record { used = stays old new d; unarmed = tt; powered = tt })
  kind_of (Arm disk after mode) d = ⊎_elim
      (λ yes. inr (inl (record {
        disk = disk;
        after = after;
        mode = mode;
        is = refl;
        same = yes;
        armed = d ∙ ap (λ (t : Bool). if t then with_arm after mode old else old) yes;
      })))
      (λ away. inl (record {
        used = stays old new (d ∙ ap (λ (t : Bool). if t then with_arm after mode old else old) away);
        unarmed = away;
        powered = tt;
      }))
      (cases_Bool (same_name disk name))
  kind_of (Power choice) d = inr (inr (record { choice = choice; is = refl; lost = d }))

-- ---- what follows in each case

armed_not : (name disk : List ℕ) (after : ℕ) (mode : FaultMode) (event : Event) → event ≡ Arm disk after mode → same_name disk name ≡ true
    → NoArm name event → ⊥
armed_not name disk after mode event is same free = true≢false (sym same ∙ subst (NoArm name) is free)

not_both : (name : List ℕ) (event : Event) → NoArm name event → ArmsOne name event → ⊥
not_both name (Open conn) free one = one
not_both name (Bytes conn bytes) free one = one
not_both name (Close conn) free one = one
not_both name (StepOf conn now) free one = one
not_both name (Expire topic part now) free one = one
not_both name (Tick now) free one = one
not_both name (Arm disk after mode) free one = true≢false (sym one.0 ∙ free)
not_both name (Power choice) free one = one

same_arms : (name : List ℕ) (event : Event) (n : ℕ) → NoArm name event → arms_by name event n ≡ n
same_arms name (Open conn) n free = refl
same_arms name (Bytes conn bytes) n free = refl
same_arms name (Close conn) n free = refl
same_arms name (StepOf conn now) n free = refl
same_arms name (Expire topic part now) n free = refl
same_arms name (Tick now) n free = refl
same_arms name (Arm disk after mode) n free = ap (λ (t : Bool). if t then raised n else n) free
same_arms name (Power choice) n free = refl

no_power_then : (events : List Event) (event : Event) → AllByRecursion NoPower events → NoPower event → AllByRecursion NoPower (events ++ event ∷ [])
no_power_then [] event p q = (q, tt)
no_power_then (f ∷ events) event p q = (p.0, no_power_then events event p.1 q)

-- nothing is armed, or an arm is among these events with no power loss behind it
abbrev pub IsCalm : List ℕ → Armed → List Event → Type 0
IsCalm name armed events = (armed ≡ Nothing) ⊎ HasArm name events

module _ (name : List ℕ) (event : Event) (old new : Facts) where
  pub same_losses : Kind name event old new → NoPower event → new.losses ≡ old.losses
  same_losses (inl k) free = k.used.losses
  same_losses (inr (inl k)) free = ap (λ (f : Facts). f.losses) k.armed
  same_losses (inr (inr k)) free = absurd (subst NoPower k.is free)

  pub arms_step : Kind name event old new → new.arms ≡ arms_by name event old.arms
  arms_step (inl k) = k.used.arms ∙ sym (same_arms name event old.arms k.unarmed)
  arms_step (inr (inl k)) =
      ap (λ (f : Facts). f.arms) k.armed
      ∙ sym (ap (λ (e : Event). arms_by name e old.arms) k.is ∙ ap (λ (t : Bool). if t then raised old.arms else old.arms) k.same)
  arms_step (inr (inr k)) = k.lost.arms ∙ sym (ap (λ (e : Event). arms_by name e old.arms) k.is)

  -- with nothing armed the count stays
  pub quiet_step : Kind name event old new → old.armed ≡ Nothing → new.faults ≡ old.faults
  quiet_step (inl k) none = (k.used.spends.disarmed none).1
  quiet_step (inr (inl k)) none = ap (λ (f : Facts). f.faults) k.armed
  quiet_step (inr (inr k)) none = k.lost.quiet

  pub still_none : Kind name event old new → old.armed ≡ Nothing → NoArm name event → new.armed ≡ Nothing
  still_none (inl k) none free = (k.used.spends.disarmed none).0
  still_none (inr (inl k)) none free = absurd (armed_not name k.disk k.after k.mode event k.is k.same free)
  still_none (inr (inr k)) none free = k.lost.disarmed

  arm_then : (events : List Event) → HasArm name events → NoPower event → HasArm name (events ++ event ∷ [])
  arm_then events h free = record {
    disk = h.disk;
    is = h.is;
    before = h.before;
    after = h.after ++ event ∷ [];
    passes = h.passes;
    mode = h.mode;
    split = ap (λ (l : List Event). l ++ event ∷ []) h.split ∙ append_assoc h.before (Arm h.disk h.passes h.mode ∷ h.after) (event ∷ []);
    since = no_power_then h.after event h.since free;
  }

  pub calm_step : (events : List Event) → Kind name event old new → IsCalm name old.armed events → IsCalm name new.armed (events ++ event ∷ [])
  calm_step events (inl k) (inl none) = inl (k.used.spends.disarmed none).0
  calm_step events (inl k) (inr h) = inr (arm_then events h k.powered)
  calm_step events (inr (inl k)) calm = inr (record {
    disk = k.disk;
    is = k.same;
    before = events;
    after = [];
    passes = k.after;
    mode = k.mode;
    split = ap (λ (e : Event). events ++ e ∷ []) k.is;
    since = tt;
  })
  calm_step events (inr (inr k)) calm = inl k.lost.disarmed

  -- a step with a fault armed that breaks one call
  pub shot : Kind name event old new → IsOneShot old.armed → NoArm name event → ((new.faults ≡ old.faults) × IsOneShot new.armed) ⊎ (new.armed ≡ Nothing)
  shot (inl k) one free = ⊎_elim (λ p. inl (p.1, p.0)) (λ none. inr none) (k.used.spends.one_shot one)
  shot (inr (inl k)) one free = absurd (armed_not name k.disk k.after k.mode event k.is k.same free)
  shot (inr (inr k)) one free = inr k.lost.disarmed

  pub armed_one : Kind name event old new → ArmsOne name event → IsOneShot new.armed
  armed_one (inl k) one = absurd (not_both name event k.unarmed one)
  armed_one (inr (inl k)) one = subst (λ (f : Facts). IsOneShot f.armed) (sym k.armed) (subst (ArmsOne name) k.is one).1
  armed_one (inr (inr k)) one = absurd (subst (ArmsOne name) k.is one)
