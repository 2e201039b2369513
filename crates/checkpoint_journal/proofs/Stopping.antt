-- A checkpoint that was begun and not made: the calls that it made, and how far it came.
use Rattle.std.proofs.Common.{◌≡◌, ◌⊎◌, inl, inr, ⊎_elim, refl, sym, ◌∙◌, subst, arith, ℕ, ◌<◌, ◌+◌, List, [], Result, Ok, Err, OnErr, OnOk}
use mathlib.Core.Logic.{dite}
use native.Mathlib.Decide.{ℕ_discrete}
use Rattle.edge_io.specs.Armed.{RunsOn}
use Rattle.edge_io.specs.Counting.{DoesCalls, MakesCalls}
use Rattle.edge_io.specs.Views.{DiskView}
use Rattle.edge_io.proofs.Counting.{calls_none, does_then}
use Rattle.gate_journal.specs.Clearing.{IsBare}
use Rattle.gate_journal.specs.Journals.{IsAtRest, IsQuiet, RefusesFull}
use Rattle.gate_journal.specs.declared.writer.Mending.{Mending}
use Rattle.gate_journal.specs.declared.writer.Mending.TheVariants.{Nothing, Behind, Gate}
use Rattle.gate_journal.specs.declared.writer.Writer.{Writer}
use Rattle.share_model.specs.declared.fault.StoreFault.{StoreFault}
use Rattle.share_model.specs.declared.fault.StoreFault.TheVariants.{Device, Full}
use Rattle.checkpoint_journal.specs.Making.{DoesSome, FailsOrFull, Halts, HasStopped}

behind_or : (m : Mending) → (m ≡ Behind) ⊎ (m ≡ Behind → ⊥)
behind_or Nothing = inr (λ e. let never : ⊥ = cc in never)
behind_or Behind = inl refl
behind_or Gate = inr (λ e. let never : ⊥ = cc in never)

bare_or : {D : Type 0} (w : Writer D) → IsBare w ⊎ (IsBare w → ⊥)
bare_or w = dite (ℕ_discrete w.end 1)
    (λ one. ⊎_elim (λ is. inl (record { end = one; behind = is })) (λ not. inr (λ b. not b.behind)) (behind_or w.mending))
    (λ other. inr (λ b. other b.end))

module _ {D : Type 0} (seen : D → DiskView) where
  -- a journal that is cleared makes calls
  pub erased : (old new : Writer D) → (IsBare old → DoesCalls seen 2 old.disk new.disk) × ((IsBare old → ⊥) → DoesCalls seen 4 old.disk new.disk)
      → (n : ℕ) × (0 < n) × DoesCalls seen n old.disk new.disk
  erased old new calls = ⊎_elim (λ bare. (2, omega arith, calls.0 bare)) (λ not. (4, omega arith, calls.1 not)) (bare_or old)

  pub append_does : (old new : Writer D) (calls : ℕ) (r : Result ℕ StoreFault) → MakesCalls seen calls old.disk new.disk Device r
      → OnOk r (DoesSome seen old.disk new.disk)
  append_does old new calls (Err e) disk = tt
  append_does old new calls (Ok n) disk = (calls, disk.done)

  pub append_stops : (old new : Writer D) (before after : List ℕ) (calls : ℕ) (r : Result ℕ StoreFault) → MakesCalls seen calls old.disk new.disk Device r
      → RefusesFull old new before after r → OnErr r (FailsOrFull seen old new)
  append_stops old new before after calls (Ok n) disk full = tt
  append_stops old new before after calls (Err Device) disk full = inl (disk.rose refl)
  append_stops old new before after calls (Err (Full end)) disk full = inr (full.same end refl).0

  pub some_then : (old mid new : D) → RunsOn seen old mid → DoesSome seen old mid → DoesSome seen mid new → DoesSome seen old new
  some_then old mid new runs p q = (p.0 + q.0, does_then seen p.0 q.0 old mid new (λ told. runs.told ∙ told) p.1 q.1)

  pub some_quiet : (old new : D) → DoesSome seen old new → IsQuiet seen old new
  some_quiet old new p told = (p.1 told).same_faults

  -- an append that failed behind what has begun
  pub full_halts : (old mid new : Writer D) (n : ℕ) → RunsOn seen old.disk mid.disk → FailsOrFull seen mid new → Halts seen old mid n → Halts seen old new n
  full_halts old mid new n runs (inl rose) halts = inl (let later = runs.later in omega (arith, later, rose))
  full_halts old mid new n runs (inr same) halts = subst (λ (w : Writer D). Halts seen old w n) (sym same) halts

  -- at rest, with nothing done yet
  pub rests_halts : (w : Writer D) (n : ℕ) → IsAtRest seen w [] → Halts seen w w n
  rests_halts w n rest = inr ((0, calls_none seen w.disk), [], inl refl, rest)

  pub halts_then : (old mid new : Writer D) (n : ℕ) → RunsOn seen old.disk mid.disk → DoesSome seen old.disk mid.disk → Halts seen mid new n → Halts seen old new n
  halts_then old mid new n runs does (inl rose) = inl (let later = runs.later in omega (arith, later, rose))
  halts_then old mid new n runs does (inr h) = inr (some_then old.disk mid.disk new.disk runs does h.0, h.1, h.2, h.3)

  -- behind the clearing
  pub stopped : (old mid new : Writer D) (n : ℕ) → RunsOn seen old.disk mid.disk → (k : ℕ) × (0 < k) × DoesCalls seen k old.disk mid.disk → Halts seen mid new n
      → HasStopped seen old new n
  unfolding some_then
  stopped old mid new n runs does (inl rose) = inl (let later = runs.later in omega (arith, later, rose))
  stopped old mid new n runs does (inr h) =
      let all = some_then old.disk mid.disk new.disk runs (does.0, does.2) h.0 in
      inr (does.0 + h.0.0, (let some = does.1 in omega (arith, some)), all.1, h.1, h.2, h.3)
