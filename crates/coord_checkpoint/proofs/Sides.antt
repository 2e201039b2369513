-- A store by its live journal and the other one.
use Rattle.std.proofs.Common.{◌≡◌, inl, inr, refl, sym, ap, subst, arith, ℕ, ◌+◌, Bool, true, false, not, List, [], ◌∷◌, ◌++◌, Option, Some, None}
use Rattle.std.specs.Prelude.{if◌then◌else◌}
use Rattle.edge_io.specs.Moments.{LeavesOnly, LeavesPairs}
use Rattle.edge_io.specs.Views.{DiskView}
use Rattle.edge_io.proofs.Moments.{paired}
use Rattle.gate_journal.specs.Journals.{Stands}
use Rattle.gate_journal.specs.declared.writer.Writer.{Writer}
use Rattle.gate_journal.proofs.Spares.{spare_by, with_pending}
use Rattle.checkpoint_journal.specs.Generations.{IsBeaten, IsPlain, IsWhole, mark_of}
use Rattle.checkpoint_journal.specs.Spares.{IsAside, IsIdle}
use Rattle.checkpoint_journal.proofs.Marks.{one_more}
use Rattle.coord_checkpoint.specs.Stores.{AreSides, Finds, Keeps, live_side}
use Rattle.coord_checkpoint.specs.Steps.{IsReady, placed}
use Rattle.coord_checkpoint.specs.declared.step.Turn.{Turn}
use Rattle.coord_checkpoint.proofs.Pairs.{FindsBy, sides_find}

-- ---- a store of two journals

pub swapped : {D : Type 0} (b : Bool) (live idle : Writer D) (turn : Turn) → placed (not b) idle live turn ≡ placed b live idle turn
swapped true live idle turn = refl
swapped false live idle turn = refl

pub placed_end : {D : Type 0} (b : Bool) (live idle : Writer D) (turn : Turn) → turn.on_second ≡ b → (placed b live idle turn).end ≡ live.end
placed_end true live idle turn e = ap (λ (t : Bool). if t then live.end else idle.end) e
placed_end false live idle turn e = ap (λ (t : Bool). if t then idle.end else live.end) e

pub on_second_of : {D : Type 0} (b : Bool) (live idle : Writer D) (turn : Turn) → (placed b live idle turn).on_second ≡ turn.on_second
on_second_of true live idle turn = refl
on_second_of false live idle turn = refl

pub placed_count : {D : Type 0} (b : Bool) (live idle : Writer D) (turn : Turn) → turn.on_second ≡ b → (live_side (placed b live idle turn)).count ≡ live.count
placed_count true live idle turn e = ap (λ (t : Bool). (if t then live else idle).count) e
placed_count false live idle turn e = ap (λ (t : Bool). (if t then idle else live).count) e

module _ {D : Type 0} (seen : D → DiskView) (live idle : Writer D) (turn : Turn) (frames : List (List ℕ)) (sealing : Option (List (List ℕ)))
    (pending : Option (List ℕ)) where
  pub keeps_by : (b : Bool) → turn.on_second ≡ b → AreSides seen live idle b turn.generation frames sealing pending → (turn.sealing ≡ false → sealing ≡ None)
      → (turn.sealing ≡ true → IsBeaten turn.on_second turn.generation []) → Keeps seen (placed b live idle turn) frames sealing pending
  keeps_by true e sides unsealed clears = record {
    sides = subst (λ (t : Bool). AreSides seen (if t then live else idle) (if t then idle else live) t turn.generation frames sealing pending) (sym e) sides;
    unsealed = unsealed;
    clears = clears;
    images = λ a b on_a on_b. sides_find seen live idle true turn.generation frames sealing pending sides b a on_b on_a;
  }
  keeps_by false e sides unsealed clears = record {
    sides = subst (λ (t : Bool). AreSides seen (if t then idle else live) (if t then live else idle) t turn.generation frames sealing pending) (sym e) sides;
    unsealed = unsealed;
    clears = clears;
    images = λ a b on_a on_b. sides_find seen live idle false turn.generation frames sealing pending sides a b on_a on_b;
  }

  pub keeps_sides : (b : Bool) → turn.on_second ≡ b → Keeps seen (placed b live idle turn) frames sealing pending
      → AreSides seen live idle b turn.generation frames sealing pending
  keeps_sides true e k = subst (λ (t : Bool). AreSides seen (if t then live else idle) (if t then idle else live) t turn.generation frames sealing pending) e k.sides
  keeps_sides false e k = subst (λ (t : Bool). AreSides seen (if t then idle else live) (if t then live else idle) t turn.generation frames sealing pending) e k.sides

  pub keeps_flag : (b : Bool) → Keeps seen (placed b live idle turn) frames sealing pending → turn.sealing ≡ false → sealing ≡ None
  keeps_flag true k = k.unsealed
  keeps_flag false k = k.unsealed

  pub keeps_clear : (b : Bool) → Keeps seen (placed b live idle turn) frames sealing pending → turn.sealing ≡ true → IsBeaten turn.on_second turn.generation []
  keeps_clear true k = k.clears
  keeps_clear false k = k.clears

-- ---- the disk that isn't live

module _ {D : Type 0} (seen : D → DiskView) (live idle : Writer D) (turn : Turn) (frames : List (List ℕ)) (sealing : Option (List (List ℕ)))
    (pending : Option (List ℕ)) where
  pub ready_by : Keeps seen (placed turn.on_second live idle turn) frames sealing pending → IsReady seen idle turn sealing
  ready_by k =
      let sides = keeps_sides seen live idle turn frames sealing pending turn.on_second refl k in
      record {
        aside = sides.aside;
        unsealed = keeps_flag seen live idle turn frames sealing pending turn.on_second k;
        clears = keeps_clear seen live idle turn frames sealing pending turn.on_second k;
        next = sides.next;
      }

-- ---- the disk that was live

before : (b : Bool) (g : ℕ) (frames : List (List ℕ)) → IsWhole g frames → IsBeaten (not b) (g + 1) frames
before true g frames whole = inr (omega (arith, whole.is))
before false g frames whole = inr (omega (arith, whole.is))

module _ {D : Type 0} (seen : D → DiskView) (live : Writer D) (b : Bool) (g : ℕ) (frames : List (List ℕ)) (written : Option (List ℕ))
    (stands : Stands seen live frames written) (whole : IsWhole g frames) (plain : (frame : List ℕ) → written ≡ Some frame → IsPlain (mark_of frame)) where
  abbrev Loses : List (List ℕ) → Type 0
  Loses fs = IsIdle (not b) (g + 1) None fs

  loses : Loses frames
  loses = inl (before b g frames whole)

  loses_too : (frame : List ℕ) → written ≡ Some frame → Loses (frames ++ frame ∷ [])
  loses_too frame e = inl (before b g (frames ++ frame ∷ []) (one_more g frames frame whole (plain frame e)))

  -- once a later generation is sealed
  pub overtaken_aside : IsAside seen live (not b) (g + 1) None
  overtaken_aside = record {
    each = λ c now. with_pending Loses frames written c loses loses_too (stands.images c now);
    spare = λ none. record { none = none; spare = spare_by Loses seen live frames written stands (inl none) loses loses_too };
  }

-- ---- both disks at each moment

module _ {D : Type 0} (seen : D → DiskView) (live idle live_new idle_new : Writer D) (turn next : Turn) (P Q : List ℕ → Type 0)
    (R : List (List ℕ) → Type 0) where
  abbrev Both : Bool → Type 0
  Both b = LeavesPairs seen (placed b live idle turn).first.disk (placed b live_new idle_new next).first.disk
      (placed b live idle turn).second.disk (placed b live_new idle_new next).second.disk (Finds R)

  pub both_moments : (b : Bool) → LeavesOnly seen live.disk live_new.disk P → LeavesOnly seen idle.disk idle_new.disk Q
      → ((a d : List ℕ) → P a → Q d → FindsBy b R a d) → Both b
  both_moments true p q both = paired seen idle.disk idle_new.disk live.disk live_new.disk Q P (Finds R) q p (λ d a y x. both a d x y)
  both_moments false p q both = paired seen live.disk live_new.disk idle.disk idle_new.disk P Q (Finds R) p q both
