-- What calls of a disk do to its armed fault and its count, one after the other.
use Rattle.std.proofs.Common.{◌≡◌, ◌⊎◌, inl, inr, ⊎_elim, refl, sym, ap, ◌∙◌, subst, rules, ℕ, ◌-◌, ◌==◌, if◌then◌else◌}
use Rattle.std.proofs.Common.{Bool, true, false, Result, Ok, Err, OnOk, IsErr, is_some, arith}
use Rattle.std.proofs.lemmas.Bool.{false_from_ne_true, cases_Bool}
use Rattle.edge_io.specs.declared.fault.FaultMode.{FaultMode}
use Rattle.edge_io.specs.declared.fault.FaultMode.TheVariants.{Once, Torn, Dead}
use Rattle.edge_io.specs.declared.fault.Armed.{Armed}
use Rattle.edge_io.specs.declared.fault.Armed.TheVariants.{Nothing, After, Broken}
use Rattle.edge_io.specs.Disk.{IsTold, IsUneventful}
use Rattle.edge_io.specs.Causes.{HasCause}
use Rattle.edge_io.specs.Armed.{breaks, spent, next_armed, RunsAsArmed, IsOneShot, Spends, RunsOn}
use Rattle.edge_io.specs.Views.{DiskView}

pub clash : true ≡ false → ⊥
clash e = search rules

pub spends_none : (a : Armed) (f : ℕ) → Spends a a f f
spends_none a f = record { disarmed = λ is. (is, refl); one_shot = λ one. inl (one, refl) }

pub spends_then : (a b c : Armed) (f g h : ℕ) → Spends a b f g → Spends b c g h → Spends a c f h
spends_then a b c f g h p q = record {
  disarmed = λ is. let mid = p.disarmed is in let end = q.disarmed mid.0 in (end.0, end.1 ∙ mid.1);
  one_shot = λ one. ⊎_elim
      (λ mid. ⊎_elim (λ end. inl (end.0, end.1 ∙ mid.1)) (λ none. inr none) (q.one_shot mid.0))
      (λ none. inr (q.disarmed none).0)
      (p.one_shot one);
}

module _ {D : Type 0} (seen : D → DiskView) where
  abbrev Runs : D → D → Type 0
  Runs old new = RunsOn seen old new

  pub runs_none : (d : D) → Runs d d
  runs_none d = record { same_losses = refl; same_arms = refl; told = refl; later = omega arith; unarmed = λ told is. is; stays = λ told was. was; spends = λ told not. spends_none (seen d).armed (seen d).faults }

  pub runs_then : (old mid new : D) → Runs old mid → Runs mid new → Runs old new
  runs_then old mid new p q = record {
    same_losses = q.same_losses ∙ p.same_losses;
    same_arms = q.same_arms ∙ p.same_arms;
    told = q.told ∙ p.told;
    later = omega (arith, p.later, q.later);
    unarmed = λ told is. q.unarmed (p.told ∙ told) (p.unarmed told is);
    stays = λ told was. q.stays (p.told ∙ told) (p.stays told was);
    spends = λ told not. spends_then _ _ _ _ _ _ (p.spends told (still told not)) (q.spends (p.told ∙ told) not);
  }
    where
      still : IsTold (seen old).content → (seen new).starved ≡ false → (seen mid).starved ≡ false
      still told not = false_from_ne_true (seen mid).starved (λ yes. clash (sym (q.stays (p.told ∙ told) yes) ∙ not))

-- ---- one call

-- a fault that breaks one call, by whether it is its turn
shot : (passes : ℕ) (mode : FaultMode) (b : Armed) (f g : ℕ) → spent mode ≡ Nothing → ((k : ℕ) → IsOneShot (After k mode))
    → b ≡ next_armed (After passes mode) → (breaks (After passes mode) ≡ true) ⊎ (g ≡ f)
    → (IsOneShot b × (g ≡ f)) ⊎ (b ≡ Nothing)
shot passes mode b f g gone one next how = ⊎_elim
    (λ yes. inr (next ∙ ap (λ (t : Bool). if t then spent mode else After (passes - 1) mode) yes ∙ gone))
    (λ no. inl (
      subst IsOneShot (sym (next ∙ ap (λ (t : Bool). if t then spent mode else After (passes - 1) mode) no)) (one (passes - 1)),
      ⊎_elim (λ yes. absurd (clash (sym yes ∙ no))) (λ same. same) how,
    ))
    (cases_Bool (passes == 0))

spends_by : (a b : Armed) (f g : ℕ) → b ≡ next_armed a → (breaks a ≡ true) ⊎ (g ≡ f) → Spends a b f g
spends_by Nothing b f g next how = record {
  disarmed = λ is. (next, ⊎_elim (λ yes. absurd (clash (sym yes))) (λ same. same) how);
  one_shot = λ one. absurd one;
}
spends_by (After passes Once) b f g next how = record {
  disarmed = λ is. absurd (armed_not is);
  one_shot = λ one. shot passes Once b f g refl (λ k. tt) next how;
}
  where
    armed_not : After passes Once ≡ Nothing → ⊥
    armed_not e = search rules
spends_by (After passes Torn) b f g next how = record {
  disarmed = λ is. absurd (armed_not is);
  one_shot = λ one. shot passes Torn b f g refl (λ k. tt) next how;
}
  where
    armed_not : After passes Torn ≡ Nothing → ⊥
    armed_not e = search rules
spends_by (After passes Dead) b f g next how = record { disarmed = λ is. absurd (armed_not is); one_shot = λ one. absurd one }
  where
    armed_not : After passes Dead ≡ Nothing → ⊥
    armed_not e = search rules
spends_by Broken b f g next how = record { disarmed = λ is. absurd (armed_not is); one_shot = λ one. absurd one }
  where
    armed_not : Broken ≡ Nothing → ⊥
    armed_not e = search rules

done_or_broken : {T E : Type 0} (a : Armed) (f g : ℕ) (now : Bool) (r : Result T E) → now ≡ false
    → (IsErr r → (breaks a ≡ true) ⊎ (now ≡ true)) → OnOk r (g ≡ f) → (breaks a ≡ true) ⊎ (g ≡ f)
done_or_broken a f g now (Ok x) not only quiet = inr quiet
done_or_broken a f g now (Err e) not only quiet = ⊎_elim (λ broken. inl broken) (λ yes. absurd (clash (sym yes ∙ not))) (only refl)

module _ {D : Type 0} (seen : D → DiskView) where
  pub call_runs : {T E : Type 0} (writes_half : Bool) (old new : D) (r : Result T E) → is_some (seen new).content ≡ is_some (seen old).content
      → IsUneventful (seen old) (seen new)
      → (IsTold (seen old).content → RunsAsArmed writes_half (seen old) (seen new) r)
      → HasCause (seen old).faults (seen new).faults r
      → RunsOn seen old new
  call_runs writes_half old new r told events runs cause = record {
    same_losses = events.losses;
    same_arms = events.arms;
    told = told;
    later = cause.later;
    unarmed = λ is none. (runs is).next ∙ ap next_armed none;
    stays = λ is was. (runs is).fails.stays was;
    spends = λ is not. spends_by _ _ _ _ (runs is).next (done_or_broken (seen old).armed _ _ _ r not (runs is).fails.only (runs is).quiet);
  }
