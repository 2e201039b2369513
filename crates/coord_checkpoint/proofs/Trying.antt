-- A checkpoint that is tried, and the gate that is closed behind one that failed.
use Rattle.std.proofs.Common.{◌≡◌, ◌⊎◌, inl, inr, ⊎_elim, refl, sym, ◌∙◌, subst, ℕ, ◌+◌, ◌<◌, ◌^◌, Bool, true, false, List, [], length, Option, Some, None, Result, Ok, Err, OnErr}
use Rattle.std.specs.Result.{IsErrAnd, IsOk}
use Rattle.edge_io.specs.Moments.{LeavesOnly}
use Rattle.edge_io.specs.Views.{DiskView}
use Rattle.edge_io.proofs.Moments.{joined, started, weakened}
use Rattle.gate_journal.specs.Journals.{IsAtRest}
use Rattle.gate_journal.specs.declared.writer.Writer.{Writer}
use Rattle.gate_journal.specs.Spares.{HasFrames}
use Rattle.checkpoint_journal.specs.Checkpoints.{AreSnapshots}
use Rattle.checkpoint_journal.specs.Generations.{IsBeaten, checkpoint_of}
use Rattle.checkpoint_journal.specs.Making.{IsMaking}
use Rattle.checkpoint_journal.specs.Spares.{IsAside, IsBeside, IsIdle}
use Rattle.coord_checkpoint.specs.Steps.{HasCheckpoint, IsPreparing, IsReady, IsSameTurn, IsTried, StaysReady}
use Rattle.coord_checkpoint.specs.declared.step.Turn.{Turn}
use Rattle.coord_checkpoint.proofs.Made.{tried_whole}

pub aside_by : {D : Type 0} (seen : D → DiskView) (journal : Writer D) (b : Bool) (g : ℕ) (sealing : Option (List (List ℕ))) → IsBeside seen journal b g sealing
    → IsAside seen journal b g sealing
aside_by seen journal b g sealing h = record { each = h.spare.each; spare = λ _. h }

no_flag : true ≡ false → ⊥
no_flag e = absurd cc

some_same : (x y : List (List ℕ)) → Some x ≡ Some y → x ≡ y
some_same x y e = cc

none_some : (x : List (List ℕ)) → ◌≡◌ {A = Option (List (List ℕ))} None (Some x) → ⊥
none_some x e = absurd cc

pub not_ok : {T E : Type 0} (r : Result T E) (P : E → Type 0) → IsErrAnd r P → IsOk r → ⊥
not_ok (Ok x) P h o = h
not_ok (Err e) P h o = no_flag (sym o)

pub on_err : {T E P : Type 0} (r : Result T E) → P → OnErr r P
on_err (Ok x) p = tt
on_err (Err e) p = p

pub ok_is : {T E : Type 0} (r : Result T E) {x : T} → r ≡ Ok x → IsOk r
ok_is {T} {E} r is = subst (λ (q : Result T E). IsOk q) (sym is) refl

pub no_flags : (b : Bool) → b ≡ false → b ≡ true → ⊥
no_flags b low is = let clash : false ≡ true = sym low ∙ is in absurd cc

pub stays_as : {D : Type 0} (seen : D → DiskView) (idle : Writer D) (was turn : Turn) (sealing : Option (List (List ℕ))) (snapshots : List (List ℕ)) (P Q : Type 0)
    → (Q → P) → StaysReady seen idle was turn sealing snapshots P → StaysReady seen idle was turn sealing snapshots Q
stays_as seen idle was turn sealing snapshots P Q f s = record { seals = s.seals; may = s.may; ready = s.ready; none = λ q. s.none (f q) }

-- ---- nothing was done

module _ {D : Type 0} (seen : D → DiskView)
    (only_now : (d : D) (c : List ℕ) → (seen d).since (seen d).moment c → (seen d).image c)
    (idle : Writer D) (turn : Turn) (snapshots : List (List ℕ)) where
  pub same_turn : IsSameTurn turn turn
  same_turn = record { on_second = refl; generation = refl }

  pub stays_ready : (sealing : Option (List (List ℕ))) → IsReady seen idle turn sealing → StaysReady seen idle turn turn sealing snapshots ⊥
  stays_ready sealing r = record { seals = sealing; may = λ found e. inl e; ready = r; none = λ never. absurd never }

  pub idle_stays : (sealing : Option (List (List ℕ))) → IsReady seen idle turn sealing
      → LeavesOnly seen idle.disk idle.disk (HasFrames (IsIdle turn.on_second turn.generation sealing))
  idle_stays sealing r = started seen idle.disk (HasFrames (IsIdle turn.on_second turn.generation sealing)) (λ c left. r.aside.each c (only_now idle.disk c left))

  pub idle_preparing : (sealing : Option (List (List ℕ))) (c : List ℕ) → HasFrames (IsIdle turn.on_second turn.generation sealing) c
      → HasFrames (IsPreparing turn sealing snapshots) c
  idle_preparing sealing c h = (h.0, h.1, inl h.2)

  pub preparing_stays : (sealing : Option (List (List ℕ))) → IsReady seen idle turn sealing
      → LeavesOnly seen idle.disk idle.disk (HasFrames (IsPreparing turn sealing snapshots))
  preparing_stays sealing r = weakened seen idle.disk idle.disk (HasFrames (IsIdle turn.on_second turn.generation sealing)) (HasFrames (IsPreparing turn sealing snapshots))
      (idle_stays sealing r) (idle_preparing sealing)

-- ---- a checkpoint was tried

module _ {D : Type 0} (seen : D → DiskView) (idle new : Writer D) (turn : Turn) (snapshots : List (List ℕ))
    (clears : IsBeaten turn.on_second turn.generation []) (few : length snapshots + 2 < 2 ^ 63) (fits : turn.generation + 1 < 2 ^ 64) where
  pub beside_by : (sealing : Option (List (List ℕ))) → IsReady seen idle turn sealing → IsBeside seen idle turn.on_second turn.generation sealing
  beside_by sealing r = r.aside.spare clears

  tried : AreSnapshots snapshots → IsTried (turn.generation + 1) snapshots (checkpoint_of (turn.generation + 1) snapshots)
  tried all = record { made = record { fits = fits; all = all; is = refl }; few = few }

  pub has_checkpoint : AreSnapshots snapshots → IsAtRest seen new (checkpoint_of (turn.generation + 1) snapshots)
      → HasCheckpoint seen new (turn.generation + 1) snapshots
  has_checkpoint all rests = record { frames = checkpoint_of (turn.generation + 1) snapshots; tried = tried all; rests = rests }

  pub making_moments : (sealing : Option (List (List ℕ)))
      → LeavesOnly seen idle.disk new.disk (HasFrames (IsMaking turn.on_second turn.generation sealing (turn.generation + 1) snapshots))
      → LeavesOnly seen idle.disk new.disk (HasFrames (IsPreparing turn sealing snapshots))
  making_moments sealing run = weakened seen idle.disk new.disk (HasFrames (IsMaking turn.on_second turn.generation sealing (turn.generation + 1) snapshots))
      (HasFrames (IsPreparing turn sealing snapshots)) run by
    where
      by : (c : List ℕ) → HasFrames (IsMaking turn.on_second turn.generation sealing (turn.generation + 1) snapshots) c → HasFrames (IsPreparing turn sealing snapshots) c
      by c (fs, s, inl is) = (fs, s, inl is)
      by c (fs, s, inr is) = (fs, s, inr (record { made = is; few = few }))

  module _ (sealing : Option (List (List ℕ))) (r : IsReady seen idle turn sealing) where
    -- as before
    pub uncleared : IsBeside seen new turn.on_second turn.generation sealing → StaysReady seen new turn turn sealing snapshots ⊥
    uncleared h = record {
      seals = sealing;
      may = λ found e. inl e;
      ready = record { aside = aside_by seen new turn.on_second turn.generation sealing h; unsealed = r.unsealed; clears = r.clears; next = r.next };
      none = λ never. absurd never;
    }

    -- nothing may land
    pub unsealed : IsBeside seen new turn.on_second turn.generation None
        → StaysReady seen new turn (record { on_second = turn.on_second; generation = turn.generation; sealing = false }) sealing snapshots ⊥
    unsealed h = record {
      seals = None;
      may = λ found e. absurd (none_some found e);
      ready = record {
        aside = aside_by seen new turn.on_second turn.generation None h;
        unsealed = λ _. refl;
        clears = λ e. absurd (no_flag (sym e));
        next = λ found e. absurd (none_some found e);
      };
      none = λ never. absurd never;
    }

    -- this one may
    pub sealing_now : AreSnapshots snapshots × IsBeside seen new turn.on_second turn.generation (Some (checkpoint_of (turn.generation + 1) snapshots))
        → StaysReady seen new turn (record { on_second = turn.on_second; generation = turn.generation; sealing = true }) sealing snapshots ⊥
    sealing_now h = record {
      seals = Some (checkpoint_of (turn.generation + 1) snapshots);
      may = λ found e. inr (this found e);
      ready = record {
        aside = aside_by seen new turn.on_second turn.generation (Some (checkpoint_of (turn.generation + 1) snapshots)) h.1;
        unsealed = λ e. absurd (no_flag e);
        clears = λ _. clears;
        next = λ found e. tried_whole (turn.generation + 1) snapshots found (this found e);
      };
      none = λ never. absurd never;
    }
      where
        this : (found : List (List ℕ)) → Some (checkpoint_of (turn.generation + 1) snapshots) ≡ Some found → IsTried (turn.generation + 1) snapshots found
        this found e = subst (IsTried (turn.generation + 1) snapshots) (some_same (checkpoint_of (turn.generation + 1) snapshots) found e) (tried h.0)

-- ---- the gate is closed

module _ {D : Type 0} (seen : D → DiskView) (idle new : Writer D) (turn : Turn) (flag : turn.sealing ≡ true) (sealing : Option (List (List ℕ)))
    (r : IsReady seen idle turn sealing) where
  pub to_close : IsBeside seen idle turn.on_second turn.generation sealing
  to_close = r.aside.spare (r.clears flag)

  pub closed_ready : IsBeside seen new turn.on_second turn.generation None
      → IsReady seen new (record { on_second = turn.on_second; generation = turn.generation; sealing = false }) None
  closed_ready h = record {
    aside = aside_by seen new turn.on_second turn.generation None h;
    unsealed = λ _. refl;
    clears = λ e. absurd (no_flag (sym e));
    next = λ found e. absurd (none_some found e);
  }

  pub open_ready : IsBeside seen new turn.on_second turn.generation sealing → IsReady seen new turn sealing
  open_ready h = record { aside = aside_by seen new turn.on_second turn.generation sealing h; unsealed = r.unsealed; clears = r.clears; next = r.next }

-- ---- both, one after the other

module _ {D : Type 0} (seen : D → DiskView) (idle mid last : Writer D) (turn mid_turn next : Turn) (snapshots : List (List ℕ)) (Done : Type 0) (writes : Bool)
    (first : IsSameTurn turn mid_turn) (closes : (sealing : Option (List (List ℕ))) → IsReady seen mid mid_turn sealing →
    (seals : Option (List (List ℕ))) × IsReady seen last next seals × ((seals ≡ None) ⊎ (seals ≡ sealing)) × (Done → writes ≡ true → seals ≡ None)) where
  pub then_ready : (sealing : Option (List (List ℕ))) → StaysReady seen mid turn mid_turn sealing snapshots ⊥
      → StaysReady seen last turn next sealing snapshots (Done × (writes ≡ true))
  then_ready sealing s =
      let done = closes s.seals s.ready in
      record {
        seals = done.0;
        may = λ found e. ⊎_elim (λ none. absurd (none_some found (sym none ∙ e))) (λ same. s.may found (sym same ∙ e)) done.2;
        ready = done.1;
        none = λ both. done.3 both.0 both.1;
      }

  pub then_turn : IsSameTurn mid_turn next → IsSameTurn turn next
  then_turn second = record { on_second = second.on_second ∙ first.on_second; generation = second.generation ∙ first.generation }

  pub then_moments : (sealing : Option (List (List ℕ))) (s : StaysReady seen mid turn mid_turn sealing snapshots ⊥)
      → LeavesOnly seen idle.disk mid.disk (HasFrames (IsPreparing turn sealing snapshots))
      → LeavesOnly seen mid.disk last.disk (HasFrames (IsIdle mid_turn.on_second mid_turn.generation s.seals))
      → LeavesOnly seen idle.disk last.disk (HasFrames (IsPreparing turn sealing snapshots))
  then_moments sealing s one two = joined seen idle.disk mid.disk last.disk (HasFrames (IsPreparing turn sealing snapshots))
      (HasFrames (IsIdle mid_turn.on_second mid_turn.generation s.seals)) (HasFrames (IsPreparing turn sealing snapshots)) one two (λ c h. h) by
    where
      lost : (frames : List (List ℕ)) → IsBeaten mid_turn.on_second mid_turn.generation frames → IsBeaten turn.on_second turn.generation frames
      lost frames h = subst (λ (t : Bool). IsBeaten t turn.generation frames) first.on_second
          (subst (λ (n : ℕ). IsBeaten mid_turn.on_second n frames) first.generation h)

      by : (c : List ℕ) → HasFrames (IsIdle mid_turn.on_second mid_turn.generation s.seals) c → HasFrames (IsPreparing turn sealing snapshots) c
      by c (fs, h, inl is) = (fs, h, inl (inl (lost fs is)))
      by c (fs, h, inr is) = ⊎_elim (λ old. (fs, h, inl (inr old))) (λ new. (fs, h, inr new)) (s.may fs is)

-- ---- what it answered

pub was_false : {E : Type 0} (r : Result Bool E) → r ≡ Ok false → r ≡ Ok true → ⊥
was_false {E = E} r e f = let clash : ◌≡◌ {A = Result Bool E} (Ok false) (Ok true) = sym e ∙ f in absurd cc

pub was_err : {E : Type 0} (r : Result Bool E) (x : E) → r ≡ Err x → r ≡ Ok true → ⊥
was_err {E = E} r x e f = let clash : ◌≡◌ {A = Result Bool E} (Err x) (Ok true) = sym e ∙ f in absurd cc

pub was_ok : {E : Type 0} (r : Result Bool E) (b : Bool) → r ≡ Ok b → IsOk r
was_ok r b e = subst IsOk (sym e) refl
