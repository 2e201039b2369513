-- What is known of a journal, frame by frame.
use Rattle.std.proofs.Common.{◌≡◌, refl, sym, ap, ◌∙◌, append_assoc, ℕ, List, [], ◌∷◌, ◌++◌}
use Rattle.std.proofs.lemmas.List.{append-nil}
use Rattle.checkpoint_journal.specs.declared.mark.Mark.{Mark}
use Rattle.checkpoint_journal.specs.declared.mark.Mark.TheVariants.{Head, Snapshot, Seal, Other}
use Rattle.checkpoint_journal.specs.declared.stands.Known.{Known}
use Rattle.checkpoint_journal.specs.declared.stands.Known.TheVariants.{Nothing, Begun, Settled}
use Rattle.checkpoint_journal.specs.declared.stands.Standing.{Standing}
use Rattle.checkpoint_journal.specs.Generations.{generation, is_sealed, mark_of, marks_of}
use Rattle.checkpoint_journal.specs.Standings.{IsKnown, StandsSo, generation_with, known_behind, sealed_with}
use Rattle.checkpoint_journal.proofs.Marks.{marks_push}

-- no frame
pub known_first : IsKnown [] Nothing
known_first = record { sealed = λ more. refl; is = λ more. refl }

sealed_step : (known : Known) (mark : Mark) (more : List Mark) → sealed_with known (mark ∷ more) ≡ sealed_with (known_behind known mark) more
sealed_step Nothing (Head n) more = refl
sealed_step Nothing Snapshot more = refl
sealed_step Nothing Seal more = refl
sealed_step Nothing Other more = refl
sealed_step (Begun n) (Head m) more = refl
sealed_step (Begun n) Snapshot more = refl
sealed_step (Begun n) Seal more = refl
sealed_step (Begun n) Other more = refl
sealed_step (Settled standing) mark more = refl

generation_step : (known : Known) (mark : Mark) (more : List Mark) → generation_with known (mark ∷ more) ≡ generation_with (known_behind known mark) more
generation_step Nothing (Head n) more = refl
generation_step Nothing Snapshot more = refl
generation_step Nothing Seal more = refl
generation_step Nothing Other more = refl
generation_step (Begun n) (Head m) more = refl
generation_step (Begun n) Snapshot more = refl
generation_step (Begun n) Seal more = refl
generation_step (Begun n) Other more = refl
generation_step (Settled standing) mark more = refl

pushed : (frames : List (List ℕ)) (frame : List ℕ) (more : List Mark) → marks_of (frames ++ frame ∷ []) ++ more ≡ marks_of frames ++ (mark_of frame ∷ more)
pushed frames frame more = ap (λ (l : List Mark). l ++ more) (marks_push frames frame) ∙ append_assoc (marks_of frames) (mark_of frame ∷ []) more

-- one frame more
pub known_more : (frames : List (List ℕ)) (frame : List ℕ) (known : Known) → IsKnown frames known → IsKnown (frames ++ frame ∷ []) (known_behind known (mark_of frame))
known_more frames frame known is = record {
  sealed = λ more. ap is_sealed (pushed frames frame more) ∙ (is.sealed (mark_of frame ∷ more) ∙ sealed_step known (mark_of frame) more);
  is = λ more. ap generation (pushed frames frame more) ∙ (is.is (mark_of frame ∷ more) ∙ generation_step known (mark_of frame) more);
}

-- no frame follows
pub known_now : (frames : List (List ℕ)) (known : Known) (standing : Standing) → IsKnown frames known → standing.sealed ≡ sealed_with known [] → standing.generation ≡ generation_with known []
    → StandsSo frames standing
known_now frames known standing is sealed number = record {
  sealed = sealed ∙ (sym (is.sealed []) ∙ ap is_sealed (append-nil (marks_of frames)));
  is = number ∙ (sym (is.is []) ∙ ap generation (append-nil (marks_of frames)));
}
