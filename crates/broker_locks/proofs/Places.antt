-- One pass of several acts, and what an act through it told.
use Rattle.std.proofs.Common.{◌≡◌, ◌∙◌, ◌<◌, ℕ, zero, suc, List, All, [], ◌∷◌, ◌++◌, Result, Ok, Err, refl, sym, ap, subst, arith, length, get_or, set}
use Rattle.std.specs.List.{AllZip}
use Rattle.edge_io.specs.Views.{DiskView}
use Rattle.flex_fields.specs.declared.fault.NoMemory.{NoMemory}
use Rattle.share_model.specs.declared.foreign.ForeignAnswer.{ForeignAnswer}
use Rattle.call_fold.specs.Parts.{IsTellable}
use Rattle.shard_lock.specs.History.{Leads, entry}
use Rattle.shard_lock.specs.Passes.{IsOf, LockParts, PassParts, StaysSame}
use Rattle.share_model.specs.declared.offer.Offer.{Offer}
use Rattle.share_part.specs.Shards.{PartParts}
use Rattle.broker_shards.specs.Acts.{ActsForeign, ActsOnPart, ActsPart}
use Rattle.broker_shards.specs.Histories.{IsToldOf}
use Rattle.broker_shards.specs.Hosts.{Host, Window, holding}
use Rattle.broker_shards.specs.declared.part.PartAsk.{PartAsk}
use Rattle.broker_shards.specs.declared.part.PartAsk.TheVariants as asks
use Rattle.broker_shards.specs.declared.foreign.ForeignEvent.{ForeignEvent}
use Rattle.broker_shards.specs.declared.foreign.ForeignHost.{ForeignHost}
use Rattle.broker_shards.specs.declared.members.MembersEvent.{MembersEvent}
use Rattle.broker_shards.specs.declared.members.MembersTold.{MembersTold}
use Rattle.broker_shards.specs.declared.part.PartEvent.{PartEvent}
use Rattle.broker_shards.specs.declared.part.PartTold.{PartTold}
use Rattle.broker_shards.specs.declared.part.PartTold.TheVariants as tells
use Rattle.broker_shards.proofs.Legal.{last_acts, told_of}
use Rattle.broker_locks.specs.Shared.{PassesParts, SharedParts}
use Rattle.broker_locks.specs.Acting.{ActsByForeign, ActsByMembers, ActsByPart, ActsOn, ActsPlace, AreOf, ChangesAt, StayOf, StaySame}

pub changes_set : {A : Type 0} (P : A → A → Type 0) (n : ℕ) (xs : List A) (x y : A) → n < length xs → x ≡ get_or xs n x → P x y → ChangesAt n P xs (set xs n y)
changes_set P n [] x y lt is p = absurd (omega (arith, lt))
changes_set P zero (z ∷ xs) x y lt is p = (subst (λ w. P w y) is p, refl)
changes_set P (suc n) (z ∷ xs) x y lt is p = (refl, changes_set P n xs x y (omega (arith, lt)) is p)

-- what holds of two elements at one place
pub zip_at : {A B : Type 0} (R : A → B → Type 0) (n : ℕ) (xs : List A) (ys : List B) (x : A) (y : B) → AllZip R xs ys
    → n < length xs → x ≡ get_or xs n x → n < length ys → y ≡ get_or ys n y → R x y
zip_at R n [] ys x y p lx ix ly iy = absurd (omega (arith, lx))
zip_at R n (z ∷ xs) [] x y p lx ix ly iy = absurd (omega (arith, ly))
zip_at R zero (z ∷ xs) (w ∷ ys) x y p lx ix ly iy = subst (λ v. R x v) (sym iy) (subst (λ v. R v w) (sym ix) p.0)
zip_at R (suc n) (z ∷ xs) (w ∷ ys) x y p lx ix ly iy = zip_at R n xs ys x y p.1 (omega (arith, lx)) ix (omega (arith, ly)) iy

pub zip_same : {A : Type 0} (R : A → A → Type 0) → ((x : A) → R x x) → (xs : List A) → AllZip R xs xs
zip_same R f [] = tt
zip_same R f (x ∷ xs) = (f x, zip_same R f xs)

pub zip_then : {A : Type 0} (R : A → A → Type 0) → ((x y z : A) → R x y → R y z → R x z) → (xs ys zs : List A) → AllZip R xs ys → AllZip R ys zs → AllZip R xs zs
zip_then R f [] [] zs p q = q
zip_then R f [] (y ∷ ys) zs p q = absurd p
zip_then R f (x ∷ xs) [] zs p q = absurd p
zip_then R f (x ∷ xs) (y ∷ ys) [] p q = absurd q
zip_then R f (x ∷ xs) (y ∷ ys) (z ∷ zs) p q = (f x y z p.0 q.0, zip_then R f xs ys zs p.1 q.1)

pub stays_same : {S E A : Type 0} (p : PassParts S E A) → StaysSame p p
stays_same p = record { number = refl; joined = refl; stands = refl }

pub stays_then : {S E A : Type 0} (p q r : PassParts S E A) → StaysSame p q → StaysSame q r → StaysSame p r
stays_then p q r a b = record { number = b.number ∙ a.number; joined = b.joined ∙ a.joined; stands = b.stands ∙ a.stands }

pub stay_same : {D : Type 0} (p : PassesParts D) → StaySame p p
stay_same p = record { parts = zip_same StaysSame stays_same p.parts; members = stays_same p.members; foreign = stays_same p.foreign }

pub stay_then : {D : Type 0} (p q r : PassesParts D) → StaySame p q → StaySame q r → StaySame p r
stay_then p q r a b = record {
  parts = zip_then StaysSame stays_then p.parts q.parts r.parts a.parts b.parts;
  members = stays_then p.members q.members r.members a.members b.members;
  foreign = stays_then p.foreign q.foreign r.foreign a.foreign b.foreign;
}

pub changes_some : {A : Type 0} (P : A → A → Type 0) (n : ℕ) (xs ys : List A) → ChangesAt n P xs ys → (x : A) × (y : A) × P x y
changes_some P n [] ys c = absurd c
changes_some P n (x ∷ xs) [] c = absurd c
changes_some P zero (x ∷ xs) (y ∷ ys) c = (x, y, c.0)
changes_some P (suc n) (x ∷ xs) (y ∷ ys) c = changes_some P n xs ys c.1

pub one_stays : {S E A : Type 0} (p q : PassParts S E A) → q ≡ p → StaysSame p q
one_stays p q is = subst (λ x. StaysSame p x) (sym is) (stays_same p)

module _ {S E A : Type 0} (acts : S → E → A → S → Type 0) where
  -- beside their locks, passes of which one acted
  changes_stay : (lock : LockParts S) (event : E) (answer : A) (n : ℕ) (ls : List (LockParts S)) (ps qs : List (PassParts S E A)) → AllZip IsOf ls ps
      → lock ≡ get_or ls n lock → ChangesAt n (ActsOn acts lock event answer) ps qs → AllZip IsOf ls qs × AllZip StaysSame ps qs
  changes_stay lock event answer n ls [] qs o is c = absurd c
  changes_stay lock event answer n [] (p ∷ ps) qs o is c = absurd o
  changes_stay lock event answer n (l ∷ ls) (p ∷ ps) [] o is c = absurd c
  changes_stay lock event answer zero (l ∷ ls) (p ∷ ps) (q ∷ qs) o is c = (
    (subst (λ (m : LockParts S). IsOf m q) is c.0.of, subst (λ (xs : List (PassParts S E A)). AllZip IsOf ls xs) (sym c.1) o.1),
    (c.0.same, subst (λ (xs : List (PassParts S E A)). AllZip StaysSame ps xs) (sym c.1) (zip_same StaysSame stays_same ps)),
  )
  changes_stay lock event answer (suc n) (l ∷ ls) (p ∷ ps) (q ∷ qs) o is c =
      let r = changes_stay lock event answer n ls ps qs o.1 is c.1 in
      ((subst (λ (x : PassParts S E A). IsOf l x) (sym c.0) o.0, r.0), (one_stays p q c.0, r.1))

  pub place_stay : (ls : List (LockParts S)) (place : ℕ) (event : E) (answer : A) (ps qs : List (PassParts S E A)) → AllZip IsOf ls ps
      → ActsPlace acts ls place event answer ps qs → AllZip IsOf ls qs × AllZip StaysSame ps qs
  place_stay ls place event answer ps qs o a = changes_stay a.lock event answer place ls ps qs o a.is a.changes

  -- what a pass did last was an act of its shard
  pub acted : (lock : LockParts S) (event : E) (answer : A) (old new : PassParts S E A) → ActsOn acts lock event answer old new
      → (m : S) × (n : S) × acts m event answer n
  acted lock event answer old new a =
      let h = a.history in let l = a.legal in
      last_acts acts lock.first l.0 (old.seen ++ h.0) (entry old.number event answer) (subst (λ es. Leads acts lock.first es l.0) h.1 l.1)

  pub place_acted : (ls : List (LockParts S)) (place : ℕ) (event : E) (answer : A) (ps qs : List (PassParts S E A))
      → ActsPlace acts ls place event answer ps qs → (m : S) × (n : S) × acts m event answer n
  place_acted ls place event answer ps qs a =
      let c = changes_some (ActsOn acts a.lock event answer) place ps qs a.changes in
      acted a.lock event answer c.0 c.1 c.2

-- ---- what an act leaves of all passes

module _ {D : Type 0} (shared : SharedParts D) (old new : PassesParts D) (of : AreOf shared old) where
  parts_same : new.parts ≡ old.parts → AllZip IsOf shared.parts new.parts × AllZip StaysSame old.parts new.parts
  parts_same is = (
    subst (λ x. AllZip IsOf shared.parts x) (sym is) of.parts,
    subst (λ x. AllZip StaysSame old.parts x) (sym is) (zip_same StaysSame stays_same old.parts),
  )

  pub members_stay : (event : MembersEvent) (answer : Result MembersTold NoMemory) → ActsByMembers shared event answer old new → StayOf shared old new
  members_stay event answer a = let p = parts_same a.parts in record {
    of = record { parts = p.0; members = a.members.of; foreign = subst (λ x. IsOf shared.foreign x) (sym a.foreign) of.foreign };
    same = record { parts = p.1; members = a.members.same; foreign = one_stays old.foreign new.foreign a.foreign };
  }

module _ {D : Type 0} (seen : D → DiskView) (shared : SharedParts D) (old new : PassesParts D) (of : AreOf shared old) where
  pub part_stay : (shard : ℕ) (event : PartEvent) (answer : Result PartTold NoMemory) → ActsByPart seen shared shard event answer old new
      → StayOf shared old new
  part_stay shard event answer a =
      let p = place_stay (ActsPart seen) shared.parts shard event answer old.parts new.parts of.parts a.parts in
      record {
        of = record {
          parts = p.0;
          members = subst (λ x. IsOf shared.members x) (sym a.members) of.members;
          foreign = subst (λ x. IsOf shared.foreign x) (sym a.foreign) of.foreign;
        };
        same = record { parts = p.1; members = one_stays old.members new.members a.members; foreign = one_stays old.foreign new.foreign a.foreign };
      }

  pub foreign_stay : (event : ForeignEvent) (answer : Result ForeignAnswer NoMemory) → ActsByForeign seen shared event answer old new
      → StayOf shared old new
  foreign_stay event answer a = let p = parts_same shared old new of a.parts in record {
    of = record { parts = p.0; members = subst (λ x. IsOf shared.members x) (sym a.members) of.members; foreign = a.foreign.of };
    same = record { parts = p.1; members = one_stays old.members new.members a.members; foreign = a.foreign.same };
  }

pub stay_none : {D : Type 0} (shared : SharedParts D) (p : PassesParts D) → AreOf shared p → StayOf shared p p
stay_none shared p of = record { of = of; same = stay_same p }

pub stay_on : {D : Type 0} (shared : SharedParts D) (p q r : PassesParts D) → StayOf shared p q → StayOf shared q r → StayOf shared p r
stay_on shared p q r a b = record { of = b.of; same = stay_then p q r a.same b.same }

-- ---- what was told

module _ {D : Type 0} (seen : D → DiskView) where
  -- a partition tells what it was asked, in numbers that a reply can say
  pub part_told_so : (ls : List (LockParts (Host D))) (place : ℕ) (event : PartEvent) (told : PartTold) (answer : Result PartTold NoMemory)
      (ps qs : List (PassParts (Host D) PartEvent (Result PartTold NoMemory))) → answer ≡ Ok told → ActsPlace (ActsPart seen) ls place event answer ps qs
      → IsToldOf event.ask told
  part_told_so ls place event told answer ps qs is a =
      let b = subst (λ (x : Result PartTold NoMemory). ActsPlace (ActsPart seen) ls place event x ps qs) is a in
      let q = place_acted (ActsPart seen) ls place event (Ok told) ps qs b in
      told_of seen holding event.now event.ask told q.0.part q.1.part q.2.acts

  -- an offer is told where one was asked
  offer_answer : (now : ℕ) (group : List ℕ) (answer : Result PartTold NoMemory) (p q : PartParts D Window)
      → ActsOnPart seen holding now (asks.Offer group) p answer q → (offer : Offer) × (answer ≡ Ok (tells.Offer offer))
  offer_answer now group (Ok told) p q a =
      let t = told_of seen holding now (asks.Offer group) told p q a in let ok : PartTold → Result PartTold NoMemory = λ x. Ok x in
      (t.0, ap ok t.1)
  offer_answer now group (Err fault) p q a = absurd a.0

  pub offer_told_so : (ls : List (LockParts (Host D))) (place : ℕ) (event : PartEvent) (group : List ℕ) (answer : Result PartTold NoMemory)
      (ps qs : List (PassParts (Host D) PartEvent (Result PartTold NoMemory))) → event.ask ≡ asks.Offer group
      → ActsPlace (ActsPart seen) ls place event answer ps qs → (offer : Offer) × (answer ≡ Ok (tells.Offer offer))
  offer_told_so ls place event group answer ps qs is a =
      let q = place_acted (ActsPart seen) ls place event answer ps qs a in
      offer_answer event.now group answer q.0.part q.1.part
      (subst (λ (x : PartAsk). ActsOnPart seen holding event.now x q.0.part answer q.1.part) is q.2.acts)

  pub foreign_told_so : (lock : LockParts (ForeignHost D)) (event : ForeignEvent) (told : ForeignAnswer)
      (old new : PassParts (ForeignHost D) ForeignEvent (Result ForeignAnswer NoMemory)) → ActsOn (ActsForeign seen) lock event (Ok told) old new
      → All IsTellable told.runs
  foreign_told_so lock event told old new a =
      let q = acted (ActsForeign seen) lock event (Ok told) old new a in q.2.acts.tellable
