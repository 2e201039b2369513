-- Where a journal ends, by the frames that it has.
use Rattle.std.proofs.Common.{◌≡◌, ◌⊎◌, ⊎_elim, ◌∙◌, sym, ap, arith, ℕ, ◌+◌, List, [], ◌∷◌, ◌++◌, length, length-append, Option, Some}
use Rattle.std.specs.Int.{w32, to_be_bytes}
use Rattle.edge_io.specs.Views.{DiskView}
use Rattle.gate_journal.specs.Frames.{behind_gate, blocks}
use Rattle.gate_journal.specs.Journals.{Mends, Stands}
use Rattle.gate_journal.specs.declared.writer.Mending.{Mending}
use Rattle.gate_journal.specs.declared.writer.Mending.TheVariants.{Nothing, Behind, Gate}
use Rattle.gate_journal.specs.declared.writer.Writer.{Writer}
use Rattle.gate_journal.proofs.Shapes.{blocks_push}

module _ {D : Type 0} (seen : D → DiskView) (writer : Writer D) (frames : List (List ℕ)) (pending : Option (List ℕ)) where
  end_by : (m : Mending) → Mends seen writer m frames pending → writer.end ≡ length (blocks frames) + 1
  end_by Nothing h = h.1.end
  end_by Behind h = h.end
  end_by Gate h = h.3.end

  pub end_of_stands : Stands seen writer frames pending → writer.end ≡ length (blocks frames) + 1
  end_of_stands stands = end_by writer.mending stands.mends

module _ {D : Type 0} (seen : D → DiskView) (old new : Writer D) (frames : List (List ℕ)) (p q : Option (List ℕ)) where
  -- where the frames are the same, it ends where it did
  pub same_end : Stands seen old frames p → Stands seen new frames q → new.end ≡ old.end
  same_end before after = end_of_stands seen new frames q after ∙ sym (end_of_stands seen old frames p before)

  -- one frame more moves the end on
  pub next_end : (frame : List ℕ) → Stands seen old frames p → Stands seen new (frames ++ frame ∷ []) q → new.end ≡ old.end + (length frame + 5)
  next_end frame before after = omega (
    arith,
    end_of_stands seen old frames p before,
    end_of_stands seen new (frames ++ frame ∷ []) q after,
    ap length (blocks_push frames frame []),
    length-append (blocks (frames ++ frame ∷ [])) [],
    length-append (blocks frames) (1 ∷ (behind_gate frame ++ [])),
    length-append (behind_gate frame) [],
    length-append (to_be_bytes w32 (length frame)) frame,
  )

-- a write that failed leaves the end
pub failed_end : {D : Type 0} (seen : D → DiskView) (old new : Writer D) (frames : List (List ℕ)) (pending : Option (List ℕ)) (frame : List ℕ)
    → Stands seen old frames pending → Stands seen new frames pending ⊎ Stands seen new frames (Some frame) → new.end ≡ old.end
failed_end seen old new frames pending frame before after = ⊎_elim
    (λ (s : Stands seen new frames pending). same_end seen old new frames pending pending before s)
    (λ (s : Stands seen new frames (Some frame)). same_end seen old new frames pending (Some frame) before s) after
