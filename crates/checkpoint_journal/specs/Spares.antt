-- What isn't live while its frames are taken away and others are written to it. This project's own. Worked example: the frame
-- `03 00 0000000000000001` alone, a head that no seal follows, is not live beside any journal.
use Rattle.std.specs.Prelude.{◌≡◌, ◌⊎◌, ℕ, Bool, List, [], Some}
use Rattle.std.specs.declared.option.Option.{Option}
use Rattle.edge_io.specs.Views.{DiskView}
use Rattle.gate_journal.specs.Spares.{HasFrames, IsSpare}
use Rattle.gate_journal.specs.declared.writer.Writer.{Writer}
use Rattle.checkpoint_journal.specs.Generations.{IsBeaten}

-- Frames that are not live beside a journal of this generation; or the checkpoint whose seal failed, and may still land.
abbrev pub IsIdle : Bool → ℕ → Option (List (List ℕ)) → List (List ℕ) → Type 0
IsIdle on_second live sealing frames = IsBeaten on_second live frames ⊎ (sealing ≡ Some frames)

-- The disk that isn't live, beside a live journal of this generation on the second or the first disk, with the checkpoint whose seal
-- may still land, if there is one.
pub record IsBeside {D : Type 0} (seen : D → DiskView) (journal : Writer D) (on_second : Bool) (live : ℕ)
    (sealing : Option (List (List ℕ))) : Type 0 where
  pub none : IsBeaten on_second live []
  pub spare : IsSpare seen journal (IsIdle on_second live sealing)

-- The disk that isn't live, from the opening of its store on. Only where a journal of no frames would lose to the live one it can be
-- cleared: a journal of generation 0 on the second disk is live only as long as the first one has frames that are not sealed.
pub record IsAside {D : Type 0} (seen : D → DiskView) (journal : Writer D) (on_second : Bool) (live : ℕ)
    (sealing : Option (List (List ℕ))) : Type 0 where
  pub each : (c : List ℕ) → (seen journal.disk).image c → HasFrames (IsIdle on_second live sealing) c
  pub spare : IsBeaten on_second live [] → IsBeside seen journal on_second live sealing
