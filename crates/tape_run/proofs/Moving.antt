-- A call of a shard alone is one of that shard among the others.
use Rattle.std.proofs.Common.{◌≡◌, ◌∙◌, ◌||◌, ℕ, zero, suc, List, [], ◌∷◌, slice_get, Bool, true, false, cond, Option, Some, refl, sym, ap, subst}
use Rattle.share_model.specs.declared.visit.ShardId.{ShardId}
use Rattle.share_model.specs.declared.visit.ShardId.TheVariants.{Part as OfPart, Members, Foreign}
use Rattle.share_members.specs.Groups.{Memberships}
use Rattle.share_part.specs.Shards.{PartShardState}
use Rattle.foreign_coord.specs.Shards.{ForeignShardState, StepsForeign}
use Rattle.topic_conf.specs.Configs.{ConfigParts}
use Rattle.broker_model.specs.Hosted.{ChangesAt, Hosted, first_of, foreign_store, has_disk, log_of, second_of, state_a, state_b, state_store}
use Rattle.broker_model.specs.Shards.{Counts, Ends, HostedPart, MembersCall, PartCall, ShardCall, Shards, StepsHosted, StepsMembers, StepsPart, StepsShards, calls, hosted_by, part_calls, rose_on}
use Rattle.broker_model.specs.Shards.ShardCall.{CallForeign, CallPart, CallMembers}
use Rattle.broker_model.specs.Shards.PartCall.{Visits, Produces, Looks, Expires, Deletes}
use Rattle.broker_model.specs.Shards.MembersCall.{Beats, Ticks}
use Rattle.broker_model.proofs.Lists.{maps_stay, none_not, some_same}
use Rattle.broker_model.proofs.Stores.{has_first, same_self}
use Rattle.tape_run.specs.Recordings.{Standing, ends_between, shard_called, shard_in}
use Rattle.tape_run.specs.Recordings.OneShard.{OnePart, OneMembers, OneForeign}
use Rattle.tape_run.proofs.Pieces.{IsOf}

-- ---- lists of partitions

abbrev put : ℕ → HostedPart → List HostedPart → List HostedPart
put n y [] = []
put zero y (x ∷ xs) = y ∷ xs
put (suc n) y (x ∷ xs) = x ∷ put n y xs

put_changes : (P : HostedPart → HostedPart → Type 0) (n : ℕ) (x y : HostedPart) (xs : List HostedPart) → slice_get xs n ≡ Some x → P x y → ChangesAt n P xs (put n y xs)
put_changes P n x y [] e p = absurd (none_not x e)
put_changes P zero x y (z ∷ zs) e p = (subst (λ w. P w y) (sym (some_same z x e)) p, refl)
put_changes P (suc n) x y (z ∷ zs) e p = (refl, put_changes P n x y zs e p)

put_same : (n : ℕ) (x y : HostedPart) (xs : List HostedPart) → slice_get xs n ≡ Some x → slice_get (put n y xs) n ≡ Some y
put_same n x y [] e = absurd (none_not x e)
put_same zero x y (z ∷ zs) e = refl
put_same (suc n) x y (z ∷ zs) e = put_same n x y zs e

put_other : (n m : ℕ) (y : HostedPart) (xs : List HostedPart) → (m ≡ n → ⊥) → slice_get (put n y xs) m ≡ slice_get xs m
put_other n m y [] ne = refl
put_other zero zero y (z ∷ zs) ne = absurd (ne refl)
put_other zero (suc m) y (z ∷ zs) ne = refl
put_other (suc n) zero y (z ∷ zs) ne = refl
put_other (suc n) (suc m) y (z ∷ zs) ne = put_other n m y zs (λ e. ne (ap suc e))

pub record Changed (n : ℕ) (P : HostedPart → HostedPart → Type 0) (xs ys : List HostedPart) : Type 0 where
  pub old : HostedPart
  pub new : HostedPart
  pub was : slice_get xs n ≡ Some old
  pub is : slice_get ys n ≡ Some new
  pub goes : P old new

pub changed : (n : ℕ) (P : HostedPart → HostedPart → Type 0) (xs ys : List HostedPart) → ChangesAt n P xs ys → Changed n P xs ys
changed n P [] ys c = absurd c
changed zero P (x ∷ xs) [] c = absurd c
changed zero P (x ∷ xs) (y ∷ ys) c = record { old = x; new = y; was = refl; is = refl; goes = c.0 }
changed (suc n) P (x ∷ xs) [] c = absurd c
changed (suc n) P (x ∷ xs) (y ∷ ys) c =
    let r = changed n P xs ys c.1 in
    record { old = r.old; new = r.new; was = r.was; is = r.is; goes = r.goes }

-- ---- where journals end

-- behind a call, where the journals ended so before it, and so behind it in the history of its shard
abbrev pub ends_behind_call : ShardCall → (old alone : List ℕ → ℕ) → List ℕ → ℕ
ends_behind_call call old alone name = cond (calls (Some call) name) (alone name) (old name)

or_right : (a b : Bool) → b ≡ true → (a || b) ≡ true
or_right true b e = refl
or_right false b e = e

-- a step looks at the ends of the journals on the disks that it calls alone
module _ (counts : Counts) (now : ℕ) (h : Hosted) (old new : PartShardState) (e f : Ends) where
  part_at : (did : PartCall) → ((name : List ℕ) → part_calls h did name ≡ true → e name ≡ f name)
      → StepsPart true counts e now h old did new → StepsPart true counts f now h old did new
  part_at (Visits visit answer unread) same step =
      subst (λ (p : ℕ × ℕ). StepsPart true counts (λ name. p) now h old (Visits visit answer unread) new)
      (same (first_of h) (or_right _ (has_disk (state_store h) (first_of h)) (has_first (first_of h) (second_of h)))) step
  part_at (Produces batch produced) same step =
      subst (λ (p : ℕ × ℕ). StepsPart true counts (λ name. p) now h old (Produces batch produced) new) (same (log_of h) (same_self (log_of h))) step
  part_at (Looks group looked) same step = step
  part_at (Expires answer) same step =
      subst (λ (p : ℕ × ℕ). StepsPart true counts (λ name. p) now h old (Expires answer) new) (same (first_of h) (has_first (first_of h) (second_of h))) step
  part_at (Deletes to answer) same step =
      subst (λ (p : ℕ × ℕ). StepsPart true counts (λ name. p) now h old (Deletes to answer) new) (same (log_of h) (same_self (log_of h))) step

hosted_at : (counts : Counts) (now : ℕ) (h : Hosted) (e f : Ends) (did : PartCall) (p q : HostedPart)
    → ((name : List ℕ) → part_calls h did name ≡ true → e name ≡ f name)
    → StepsHosted counts e now h did p q → StepsHosted counts f now h did p q
hosted_at counts now h e f did p q same s =
    record { was = s.was; is = s.is; step = part_at counts now h p.shard q.shard e f did same s.step; quiet = s.quiet }

-- ---- a shard alone

same_part : (a b : Option HostedPart) → OnePart a ≡ OnePart b → a ≡ b
same_part a b e = cc

same_members : (a b : Memberships) → OneMembers a ≡ OneMembers b → a ≡ b
same_members a b e = cc

same_foreign : (a b : ForeignShardState) → OneForeign a ≡ OneForeign b → a ≡ b
same_foreign a b e = cc

-- the others stay
module _ (m : Shards) where
  others_part : (n : ℕ) (y : HostedPart) (other : ShardId) → (other ≡ OfPart n → ⊥)
      → shard_in other (record { parts = put n y m.parts; members = m.members; foreign = m.foreign }) ≡ shard_in other m
  others_part n y (OfPart k) ne = ap OnePart (put_other n k y m.parts (λ is. ne (ap OfPart is)))
  others_part n y Members ne = refl
  others_part n y Foreign ne = refl

  others_members : (members : Memberships) (other : ShardId) → (other ≡ Members → ⊥)
      → shard_in other (record { parts = m.parts; members = members; foreign = m.foreign }) ≡ shard_in other m
  others_members members (OfPart k) ne = refl
  others_members members Members ne = absurd (ne refl)
  others_members members Foreign ne = refl

  others_foreign : (foreign : ForeignShardState) (other : ShardId) → (other ≡ Foreign → ⊥)
      → shard_in other (record { parts = m.parts; members = m.members; foreign = foreign }) ≡ shard_in other m
  others_foreign foreign (OfPart k) ne = refl
  others_foreign foreign Members ne = refl
  others_foreign foreign Foreign ne = absurd (ne refl)

-- The shard that is called takes its step among the others, which stay.
pub record Moved (counts : Counts) (ends : Ends) (now : ℕ) (old : Shards) (call : ShardCall) (alone : Shards) : Type 0 where
  pub shards : Shards
  pub steps : StepsShards counts ends now old call shards
  pub same : shard_in (shard_called call) shards ≡ shard_in (shard_called call) alone
  pub others : (other : ShardId) → (other ≡ shard_called call → ⊥) → shard_in other shards ≡ shard_in other old

module _ (counts : Counts) (now : ℕ) (s t m : Shards) (e f : Ends) where
  moved_part : (n : ℕ) (h : Hosted) (did : PartCall) → ((name : List ℕ) → calls (Some (CallPart n h did)) name ≡ true → e name ≡ f name)
      → shard_in (OfPart n) m ≡ shard_in (OfPart n) s → StepsShards counts e now s (CallPart n h did) t → Moved counts f now m (CallPart n h did) t
  moved_part n h did same agree step =
      let c = changed n (StepsHosted counts e now h did) s.parts t.parts step.0 in
      let was : slice_get m.parts n ≡ Some c.old = same_part (slice_get m.parts n) (slice_get s.parts n) agree ∙ c.was in
      record {
        shards = record { parts = put n c.new m.parts; members = m.members; foreign = m.foreign };
        steps = (put_changes (StepsHosted counts f now h did) n c.old c.new m.parts was (hosted_at counts now h e f did c.old c.new same c.goes), refl, refl);
        same = ap OnePart (put_same n c.old c.new m.parts was ∙ sym c.is);
        others = others_part m n c.new;
      }

  moved_members : (did : MembersCall) → shard_in Members m ≡ shard_in Members s → StepsShards counts e now s (CallMembers did) t → Moved counts f now m (CallMembers did) t
  moved_members did agree step = record {
    shards = record { parts = m.parts; members = t.members; foreign = m.foreign };
    steps = (subst (λ (x : Memberships). StepsMembers now x did t.members) (sym (same_members m.members s.members agree)) step.0, refl, refl);
    same = refl;
    others = others_members m t.members;
  }

  moved : (call : ShardCall) → ((name : List ℕ) → calls (Some call) name ≡ true → e name ≡ f name)
      → shard_in (shard_called call) m ≡ shard_in (shard_called call) s → StepsShards counts e now s call t → Moved counts f now m call t
  moved (CallForeign op answer fault) same agree step = record {
    shards = record { parts = m.parts; members = m.members; foreign = t.foreign };
    steps = (
      subst (λ (x : ForeignShardState). StepsForeign (rose_on counts foreign_store) (f state_a).0 x op answer fault t.foreign) (sym (same_foreign m.foreign s.foreign agree))
          (subst (λ (p : ℕ × ℕ). StepsForeign (rose_on counts foreign_store) p.0 s.foreign op answer fault t.foreign) (same state_a (has_first state_a state_b)) step.0),
      refl,
      refl,
    );
    same = refl;
    others = others_foreign m t.foreign;
  }
  moved (CallPart n h did) same agree step = moved_part n h did same agree step
  moved (CallMembers did) same agree step = moved_members did agree step

-- where journals end behind a call, seen from its shard's history
pub ends_agree : (call : ShardCall) (old alone behind : List ℕ → ℕ) → ((name : List ℕ) → calls (Some call) name ≡ true → old name ≡ alone name)
    → (name : List ℕ) → calls (Some call) name ≡ true
    → ◌≡◌ {A = ℕ × ℕ} (alone name, behind name) (old name, ends_behind_call call old behind name)
ends_agree call old alone behind agree name is =
    λ i. (sym (agree name is) i, sym (ap (λ b. cond b (behind name) (old name)) is) i)

-- a call of a shard in its history is one among the others
pub moves_so : (counts : Counts) (now : ℕ) (s t : Standing) (m : Shards) (old : List ℕ → ℕ) (call : ShardCall)
    → ((name : List ℕ) → calls (Some call) name ≡ true → old name ≡ s.ends name) → shard_in (shard_called call) m ≡ shard_in (shard_called call) s.shards
    → StepsShards counts (ends_between s t) now s.shards call t.shards
    → Moved counts (λ name. (old name, ends_behind_call call old t.ends name)) now m call t.shards
moves_so counts now s t m old call agree same step =
    moved counts now s.shards t.shards m (ends_between s t) (λ name. (old name, ends_behind_call call old t.ends name)) call
    (ends_agree call old s.ends t.ends agree) same step

-- ---- what all calls keep

members_stay : (now : ℕ) (old new : Memberships) (did : MembersCall) → StepsMembers now old did new → new.topics ≡ old.topics
members_stay now old new (Beats request reply) step = ap (λ (m : Memberships). m.topics) step.1
members_stay now old new Ticks step = ap (λ (m : Memberships). m.topics) step

pub call_stays : (conf : ConfigParts) (counts : Counts) (ends : Ends) (now : ℕ) (old new : Shards) (call : ShardCall) → StepsShards counts ends now old call new
    → IsOf conf old → IsOf conf new
call_stays conf counts ends now old new (CallForeign op answer fault) step is =
    record { hosts = ap hosted_by step.1 ∙ is.hosts; topics = ap (λ (m : Memberships). m.topics) step.2 ∙ is.topics }
call_stays conf counts ends now old new (CallPart shard hosted did) step is = record {
  hosts = maps_stay (λ (p : HostedPart). p.hosted) shard (StepsHosted counts ends now hosted did) (λ x y s. s.is ∙ sym s.was) old.parts new.parts step.0 ∙ is.hosts;
  topics = ap (λ (m : Memberships). m.topics) step.1 ∙ is.topics;
}
call_stays conf counts ends now old new (CallMembers did) step is =
    record { hosts = ap hosted_by step.1 ∙ is.hosts; topics = members_stay now old.members new.members did step.0 ∙ is.topics }
