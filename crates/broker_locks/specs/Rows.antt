-- Rows of passes, one of each lock, and what is left of a shard when its lock is closed. This project's own.
-- For example with three threads each lock gives three passes. The rows come back from the threads in some order, are joined into one row
-- whose passes stand for three each, and close the locks. Each entry of a history is then one of the three passes that came back.
use Rattle.std.specs.Prelude.{◌≡◌, ◌⊎◌, ℕ, List, [], ◌∷◌, flat_map, length, map}
use Rattle.std.specs.List.{AllByRecursion, AllZip}
use Rattle.shard_lock.specs.History.{Leads}
use Rattle.shard_lock.specs.Passes.{Account, IsOf, LockParts, PassParts, newcomer, passes_of}
use Rattle.shard_lock.specs.declared.shard.Entry.{Entry}
use Rattle.broker_shards.specs.Hosts.{Host}
use Rattle.broker_shards.specs.declared.foreign.ForeignEvent.{ForeignEvent}
use Rattle.broker_shards.specs.declared.foreign.ForeignHost.{ForeignHost}
use Rattle.broker_shards.specs.declared.members.MembersEvent.{MembersEvent}
use Rattle.broker_shards.specs.declared.members.MembersHost.{MembersHost}
use Rattle.broker_shards.specs.declared.part.PartEvent.{PartEvent}
use Rattle.broker_locks.specs.Shared.{MembersAnswer, PartAnswer, PassesParts, ShardParts, SharedParts, StateAnswer}
use Rattle.broker_locks.specs.declared.shared.ShardSet.{ShardSet}

module _ {S E A : Type 0} where
  -- a pass as it was made with the lock
  abbrev pub IsNew : LockParts S → PassParts S E A → Type 0
  IsNew lock pass = (n : ℕ) × (pass ≡ newcomer lock n)

  -- a pass of the lock that stands for so many
  abbrev pub StandsFor : ℕ → LockParts S → PassParts S E A → Type 0
  StandsFor n lock pass = IsOf lock pass × (pass.stands ≡ n)

  -- a pass of the lock into which no other was joined
  abbrev pub StandsAlone : LockParts S → PassParts S E A → Type 0
  StandsAlone lock pass = StandsFor 1 lock pass × (pass.joined ≡ [])

  -- a pass of the lock that is among these has this number and these entries
  abbrev pub IsOfOne : List (PassParts S E A) → LockParts S → ℕ × List (Entry E A) → Type 0
  IsOfOne [] lock own = ⊥
  IsOfOne (p ∷ given) lock own = (IsOf lock p × (own ≡ (p.number, p.own))) ⊎ IsOfOne given lock own

  -- a pass of the lock that stands for so many, all of them among these
  abbrev pub StandsAmong : List (PassParts S E A) → ℕ → LockParts S → PassParts S E A → Type 0
  StandsAmong given n lock pass = StandsFor n lock pass × AllByRecursion (IsOfOne given lock) (passes_of pass)

  -- the lock is closed with a pass that stands for all
  pub record EndsBy (acts : S → E → A → S → Type 0) (lock : LockParts S) (pass : PassParts S E A) (last : S) : Type 0 where
    pub leads : Leads acts lock.first pass.seen last
    pub account : Account lock.seats (passes_of pass) pass.seen

  -- each of these locks is closed with the pass at its place
  abbrev pub AreEnded : (S → E → A → S → Type 0) → List (LockParts S) → List (PassParts S E A) → List S → Type 0
  AreEnded acts [] passes last = last ≡ []
  AreEnded acts (l ∷ locks) [] last = ⊥
  AreEnded acts (l ∷ locks) (p ∷ passes) [] = ⊥
  AreEnded acts (l ∷ locks) (p ∷ passes) (h ∷ last) = EndsBy acts l p h × AreEnded acts locks passes last

  -- A legal history leads from the shard as the lock was made to this one. It has exactly the entries of all passes of the lock, and these
  -- are among those that were given.
  pub record Ends (acts : S → E → A → S → Type 0) (given : List (PassParts S E A)) (lock : LockParts S) (last : S) : Type 0 where
    pub pass : PassParts S E A
    pub leads : Leads acts lock.first pass.seen last
    pub account : Account lock.seats (passes_of pass) pass.seen
    pub of : AllByRecursion (IsOfOne given lock) (passes_of pass)

module _ {D : Type 0} where
  -- a row of passes as they were made with these locks
  pub record RowOf (parts : List (LockParts (Host D))) (members : LockParts MembersHost) (foreign : LockParts (ForeignHost D))
      (passes : PassesParts D) : Type 0 where
    pub each : AllZip IsNew parts passes.parts
    pub member : IsNew members passes.members
    pub other : IsNew foreign passes.foreign

  -- a row of passes, one of each lock, into none of which another was joined
  pub record IsAlone (shared : SharedParts D) (passes : PassesParts D) : Type 0 where
    pub parts : AllZip StandsAlone shared.parts passes.parts
    pub members : StandsAlone shared.members passes.members
    pub foreign : StandsAlone shared.foreign passes.foreign

  -- no act was done through the passes
  pub record IsUnused (passes : PassesParts D) : Type 0 where
    pub parts : AllByRecursion (λ p. p.own ≡ []) passes.parts
    pub members : passes.members.own ≡ []
    pub foreign : passes.foreign.own ≡ []

  -- the passes of all rows: those of the partitions' locks, of the members' and of that of foreign state
  abbrev pub parts_in : List (PassesParts D) → List (PassParts (Host D) PartEvent PartAnswer)
  parts_in rows = flat_map (λ r. r.parts) rows

  abbrev pub members_in : List (PassesParts D) → List (PassParts MembersHost MembersEvent MembersAnswer)
  members_in rows = map (λ r. r.members) rows

  abbrev pub foreign_in : List (PassesParts D) → List (PassParts (ForeignHost D) ForeignEvent StateAnswer)
  foreign_in rows = map (λ r. r.foreign) rows

  -- a row of passes, one of each lock, each of which stands for so many of these rows
  pub record IsRow (rows : List (PassesParts D)) (n : ℕ) (shared : SharedParts D) (passes : PassesParts D) : Type 0 where
    pub parts : AllZip (StandsAmong (parts_in rows) n) shared.parts passes.parts
    pub members : StandsAmong (members_in rows) n shared.members passes.members
    pub foreign : StandsAmong (foreign_in rows) n shared.foreign passes.foreign

  -- the rows of all passes that were made, in whatever order
  pub record AreAll (shared : SharedParts D) (seats : ℕ) (rows : List (PassesParts D)) : Type 0 where
    pub each : AllByRecursion (IsAlone shared) rows
    pub count : length rows ≡ seats
    pub parts : AllByRecursion (λ l. l.seats ≡ seats) shared.parts
    pub members : shared.members.seats ≡ seats
    pub foreign : shared.foreign.seats ≡ seats

  -- what contracts see of shards that have no locks yet
  abbrev pub shards_of : ShardSet D → ShardParts D
  shards_of shards = record { parts = shards.parts.items; members = shards.members; foreign = shards.foreign }
