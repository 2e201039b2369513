-- All that is seen of a disk, and of a bay. Contracts speak of a disk by one record. This project's own. Worked example: of a disk
-- in memory that holds `ab`, a file tells nothing; with `cd` written behind it and not synced, its content is `abcd`, and a crash may
-- leave `ab` or `abcd`.
use Rattle.std.specs.Prelude.{ℕ, Bool, List}
use Rattle.std.specs.declared.option.Option.{Option}
use Rattle.edge_io.specs.declared.fault.Armed.{Armed}

pub record DiskView : Type 1 where
  -- what a read gives, where the disk tells it; a file tells nothing
  pub content : Option (List ℕ)
  -- the length of the content
  pub size : ℕ
  -- the images: what a crash at this moment may leave
  pub image : List ℕ → Type 0
  -- the moment, as a number that doesn't fall
  pub moment : ℕ
  -- what a crash at some moment from that one on might have left, during a call or between two
  pub since : ℕ → List ℕ → Type 0
  -- how many faults there were; the count stays at 2^64 - 1 once it is there
  pub faults : ℕ
  -- the contents that power losses left, each with its choice
  pub losses : List (ℕ × List ℕ)
  -- how often a fault was armed
  pub arms : ℕ
  -- the fault that is armed now
  pub armed : Armed
  -- whether a call has failed for want of memory
  pub starved : Bool

pub record BayView (D : Type 0) : Type 1 where
  -- the disk that `take` gives for a name that isn't out, where the bay tells it; a folder tells nothing
  pub disk : List ℕ → Option D
  -- the disk of that name was taken and not put back
  pub out : List ℕ → Bool
  -- the count of faults with which the disk of that name was taken last
  pub taken : List ℕ → ℕ
  -- how many faults there were, those of the disks that were put back included
  pub faults : ℕ
  -- whether a call has failed for want of memory
  pub starved : Bool
  -- `take` fails for want of memory alone, from now on
  pub steady : Type 0
