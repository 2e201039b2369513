-- What is known of frames that are handed over one by one, each with the place of its gate. This project's own; private clauses cite it.
-- For example of the frame `61` at 0, which is no record, it is known that it is refused at 0, whatever follows it.
use Rattle.std.specs.Prelude.{◌≡◌, ℕ, List, [], ◌∷◌, ◌++◌, Some, None}
use Rattle.std.specs.declared.option.Option.{Option}
use Rattle.coord_checkpoint.specs.Openings.{frames_in}
use Rattle.share_coord.specs.Stored.{AreTaken, Entries, walk_of}
use Rattle.share_coord.specs.declared.walk.Walk.{Walk}
use Rattle.share_coord.specs.declared.walk.Walk.TheVariants.{First}

-- the frame with this place doesn't go on from those before it
pub record HasRefused (frames : List (ℕ × List ℕ)) (place : ℕ) : Type 0 where
  pub before : List (ℕ × List ℕ)
  pub frame : List ℕ
  pub behind : List (ℕ × List ℕ)
  pub entries : Entries
  pub parts : frames ≡ before ++ ((place, frame) ∷ behind)
  pub taken : AreTaken (frames_in before) entries
  pub refused : (new : Entries) → AreTaken (frames_in before ++ frame ∷ []) new → ⊥

-- the frames stand for these entries, and the walk stands behind them; or the one at this place is refused
abbrev pub Replays : List (ℕ × List ℕ) → Entries → Walk → Option ℕ → Type 0
Replays frames entries walk None = AreTaken (frames_in frames) entries × (walk ≡ walk_of First (frames_in frames))
Replays frames entries walk (Some place) = HasRefused frames place
