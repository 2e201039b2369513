-- What the calls of a disk do to its content, and what a crash may leave of it. A content is a list of bytes. A disk
-- that tells its content has `Some` of it; one that tells nothing, as a file, has `None` and no images, and then these
-- words say nothing of it. The calls are POSIX `pread`, `pwrite`, `ftruncate` and `fdatasync`; what a crash leaves is this
-- project's own model. Worked example: `ab` is synced, `cd` written at 2, and then all is cut to 1. A read gives `a`, and a
-- crash may leave `a`, `ab`, or `ab` and one or two bytes more, which may be any.
use Rattle.std.specs.Prelude.{◌≡◌, ℕ, ◌+◌, ◌≤◌, min, max, List, [], ◌∷◌, ◌++◌, length, take, drop}
use Rattle.std.specs.Prelude.{Some, is_some, true, Result, OnOk, OnErr, MatchResult}
use Rattle.std.specs.declared.option.Option.{Option}
use Rattle.edge_io.specs.declared.fault.Armed.TheVariants.{Nothing}
use Rattle.edge_io.specs.Views.{DiskView}

-- ---- contents

-- the content is told
abbrev pub IsTold : Option (List ℕ) → Type 0
IsTold content = is_some content ≡ true

-- where a content is told, it has P
abbrev pub WhereTold : Option (List ℕ) → (List ℕ → Type 0) → Type 0
WhereTold content P = (c : List ℕ) → content ≡ Some c → P c

-- these bytes stand at a place, over what was there and past the end, and all else is as it was
abbrev pub written : ℕ → List ℕ → List ℕ → List ℕ
written at bytes old = take at old ++ (bytes ++ drop (at + length bytes) old)

-- the content is told after if it was told before, and is made of that one so
abbrev pub Becomes : (List ℕ → List ℕ) → Option (List ℕ) → Option (List ℕ) → Type 0
Becomes f old new = (c : List ℕ) → new ≡ Some c → (d : List ℕ) × (old ≡ Some d) × (c ≡ f d)

-- A call that changes the content so, where it is done. Where it failed, a read gives what the unfinished call may have
-- made of the content.
pub record Changes {T E : Type 0} (f : List ℕ → List ℕ) (unfinished : List ℕ → List ℕ → Type 0) (old new : Option (List ℕ))
    (result : Result T E) : Type 0 where
  pub done : OnOk result (Becomes f old new)
  pub failed : OnErr result ((c d : List ℕ) → old ≡ Some c → new ≡ Some d → unfinished c d)
  pub told : is_some new ≡ is_some old

-- ---- images: the contents that a crash now may leave

-- A write of n bytes at a place that a crash cuts short: in its range stand any bytes, outside it the old ones, and the
-- content ends not before its old end and not behind both that and the write's.
pub record UnfinishedWrite (at n : ℕ) (old new : List ℕ) : Type 0 where
  pub before : take at new ≡ take at old
  pub behind : drop (at + n) new ≡ drop (at + n) old
  pub no_shorter : length old ≤ length new
  pub no_longer : length new ≤ max (length old) (at + n)

-- A cut to n bytes that a crash cuts short: the old bytes up to some length between. A content that is shorter stays.
pub record UnfinishedCut (n : ℕ) (old new : List ℕ) : Type 0 where
  pub no_shorter : min n (length old) ≤ length new
  pub front : take (length new) old ≡ new

-- each image now is an image before, after a step
abbrev pub Follows : (List ℕ → List ℕ → Type 0) → (List ℕ → Type 0) → (List ℕ → Type 0) → Type 0
Follows step old new = (c : List ℕ) → new c → (d : List ℕ) × old d × step d c

-- and each step of an image before is an image now
abbrev pub Leads : (List ℕ → List ℕ → Type 0) → (List ℕ → Type 0) → (List ℕ → Type 0) → Type 0
Leads step old new = (c d : List ℕ) → old d → step d c → new c

-- A call that a crash may cut short at this step: no other images come, and all of these where the call was done.
pub record StepsBy {T E : Type 0} (step : List ℕ → List ℕ → Type 0) (old new : List ℕ → Type 0) (result : Result T E) : Type 0 where
  pub follows : Follows step old new
  pub leads : OnOk result (Leads step old new)

-- this is a step of an image
abbrev pub Stepped : (List ℕ → Type 0) → (List ℕ → List ℕ → Type 0) → List ℕ → Type 0
Stepped image step c = (d : List ℕ) × image d × step d c

-- each image now is what this makes of the content that was told
abbrev pub Reaches : (List ℕ → List ℕ) → Option (List ℕ) → (List ℕ → Type 0) → Type 0
Reaches f content image = (c : List ℕ) → image c → (d : List ℕ) × (content ≡ Some d) × (c ≡ f d)

-- each image now is an image before
abbrev pub Within : (List ℕ → Type 0) → (List ℕ → Type 0) → Type 0
Within old new = (c : List ℕ) → new c → old c

-- the images are the same
pub record SameImages (old new : List ℕ → Type 0) : Type 0 where
  pub no_more : Within old new
  pub no_fewer : Within new old

-- each image is what a read gives
abbrev pub Synced : Option (List ℕ) → (List ℕ → Type 0) → Type 0
Synced content image = (c : List ℕ) → image c → content ≡ Some c

-- ---- what stays

-- what a read gives, and the size
pub record SameContent (old new : DiskView) : Type 0 where
  pub content : new.content ≡ old.content
  pub size : new.size ≡ old.size

-- no power was lost, and no fault was armed
pub record IsUneventful (old new : DiskView) : Type 0 where
  pub losses : new.losses ≡ old.losses
  pub arms : new.arms ≡ old.arms

-- the size after a write that ends there; where it failed, some size between
abbrev pub GrowsTo : {T E : Type 0} → ℕ → ℕ → ℕ → Result T E → Type 0
GrowsTo end old new result = MatchResult result (λ _. new ≡ max old end) (λ _. (old ≤ new) × (new ≤ max old end))

-- the size after a cut; where it failed, some size between
abbrev pub ShrinksTo : {T E : Type 0} → ℕ → ℕ → ℕ → Result T E → Type 0
ShrinksTo to old new result = MatchResult result (λ _. new ≡ to) (λ _. (to ≤ new) × (new ≤ old))

-- ---- power losses

-- The content is one of the images, and the only one from now on. It joins the losses with its choice, and no fault is
-- armed.
pub record LosesPower (choice : ℕ) (old new : DiskView) : Type 0 where
  pub left : (c : List ℕ) → new.content ≡ Some c → old.image c × (new.losses ≡ old.losses ++ (choice, c) ∷ [])
  pub only : Synced new.content new.image
  pub disarmed : new.armed ≡ Nothing

-- A power loss that failed has changed nothing but the count of faults and whether the disk is starved.
pub record KeepsPower (old new : DiskView) : Type 0 where
  pub losses : new.losses ≡ old.losses
  pub armed : new.armed ≡ old.armed
  pub images : SameImages old.image new.image
  pub stays : SameContent old new
