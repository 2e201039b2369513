-- What is seen of a disk and of a bay in memory: all is told. This project's own. Worked example: a disk that was made with `ab` has the
-- content `ab`, which is its one image; a bay with no call listed is steady.
use Rattle.std.specs.Prelude.{◌≡◌, Some, [], length}
use Rattle.edge_io.specs.Views.{DiskView, BayView}
use Rattle.edge_mem.specs.Bays.{BayState, disk_at, out_at, taken_at}
use Rattle.edge_mem.specs.Past.{DiskState, content, image, since, state}

abbrev pub disk_view : DiskState → DiskView
disk_view d = record {
  content = Some (content d.past);
  size = length (content d.past);
  image = λ c. image d.past c;
  moment = length d.past.events;
  since = λ t c. since d.past t c;
  faults = d.faults;
  losses = (state d.past).losses;
  arms = d.arms;
  armed = d.armed;
  starved = d.starved;
}

abbrev pub bay_view : BayState → BayView DiskState
bay_view b = record {
  disk = λ name. Some (disk_at b name);
  out = λ name. out_at b name;
  taken = λ name. taken_at b name;
  faults = b.faults;
  starved = b.starved;
  steady = b.failing ≡ [];
}
