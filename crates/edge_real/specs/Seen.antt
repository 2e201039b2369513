-- What is seen of a file, and of a folder of them: sizes and counts, and no content. This project's own. Worked example: of a file of 3
-- bytes the size 3 is seen, whatever is in it; a folder tells no disk of any name.
use Rattle.std.specs.Prelude.{[], None, false}
use Rattle.edge_io.specs.declared.fault.Armed.TheVariants.{Nothing}
use Rattle.edge_io.specs.Views.{DiskView, BayView}
use Rattle.edge_real.specs.Files.{FileState}
use Rattle.edge_real.specs.Folders.{FolderState, out_at, taken_at}

abbrev pub file_view : FileState → DiskView
file_view d = record {
  content = None;
  size = d.size;
  image = λ _. ⊥;
  moment = 0;
  since = λ _ _. ⊥;
  faults = d.faults;
  losses = [];
  arms = 0;
  armed = Nothing;
  starved = false;
}

abbrev pub folder_view : {F : Type 0} → FolderState F → BayView FileState
folder_view b = record {
  disk = λ _. None;
  out = λ name. out_at b name;
  taken = λ name. taken_at b name;
  faults = b.faults;
  starved = b.starved;
  steady = ⊥;
}
