-- Passes of the locks that are named, before and after acts through them.
use Rattle.std.proofs.Common.{◌∙◌, inl, inr, ℕ, suc, List, [], ◌∷◌, Option, sym, subst}
use Rattle.std.specs.List.{AllByRecursion, AllZip}
use Rattle.edge_io.specs.Views.{DiskView}
use Rattle.shard_lock.specs.Passes.{IsOf, LockParts, PassParts, StaysSame}
use Rattle.broker_locks.specs.Acting.{AreOf, StayOf}
use Rattle.broker_run.specs.Homes.{IsHome, IsNamed}
use Rattle.broker_locks.specs.Rows.{IsAlone, IsUnused, StandsAlone}
use Rattle.broker_locks.specs.Shared.{PassesParts, SharedParts}
use Rattle.broker_run.specs.Working.{HasExpired, HasServed, HasWorked, IsTask}

module _ {S E A : Type 0} where
  of_each : (ls : List (LockParts S)) (ps : List (PassParts S E A)) → AllZip StandsAlone ls ps → AllZip IsOf ls ps
  of_each [] [] z = tt
  of_each [] (p ∷ ps) z = absurd z
  of_each (l ∷ ls) [] z = absurd z
  of_each (l ∷ ls) (p ∷ ps) z = (z.0.0.0, of_each ls ps z.1)

  stand_still : (ls : List (LockParts S)) (ps qs : List (PassParts S E A)) → AllZip StandsAlone ls ps → AllZip IsOf ls qs → AllZip StaysSame ps qs
      → AllZip StandsAlone ls qs
  stand_still [] [] [] z o s = tt
  stand_still [] [] (q ∷ qs) z o s = absurd o
  stand_still [] (p ∷ ps) qs z o s = absurd z
  stand_still (l ∷ ls) [] qs z o s = absurd z
  stand_still (l ∷ ls) (p ∷ ps) [] z o s = absurd o
  stand_still (l ∷ ls) (p ∷ ps) (q ∷ qs) z o s = (((o.0, s.0.stands ∙ z.0.0.1), s.0.joined ∙ z.0.1), stand_still ls ps qs z.1 o.1 s.1)

module _ {D K C : Type 0} (seen : D → DiskView) (left held : K → Option (List ℕ)) (told : C → Option (List ℕ)) (named : Option (SharedParts D))
    (shared : SharedParts D) (is : IsNamed named shared) where
  pub home_row : (p : PassesParts D) → IsHome seen left held told named p → IsAlone shared p × HasWorked seen left held told shared p
  home_row p h = subst (λ (x : Option (SharedParts D)). IsHome seen left held told x p) is.is h

  row_home : (p : PassesParts D) → IsAlone shared p × HasWorked seen left held told shared p → IsHome seen left held told named p
  row_home p r = subst (λ (x : Option (SharedParts D)). IsHome seen left held told x p) (sym is.is) r

  pub home_of : (p : PassesParts D) → IsHome seen left held told named p → AreOf shared p
  home_of p h = let r = (home_row p h).0 in record { parts = of_each shared.parts p.parts r.parts; members = r.members.0.0; foreign = r.foreign.0.0 }

  -- one more task
  home_stays : (p q : PassesParts D) → IsHome seen left held told named p → StayOf shared p q → IsTask seen left held told shared p q
      → IsHome seen left held told named q
  home_stays p q h s task = let r = home_row p h in row_home q (
    record {
      parts = stand_still shared.parts p.parts q.parts r.0.parts s.of.parts s.same.parts;
      members = ((s.of.members, s.same.members.stands ∙ r.0.members.0.1), s.same.members.joined ∙ r.0.members.1);
      foreign = ((s.of.foreign, s.same.foreign.stands ∙ r.0.foreign.0.1), s.same.foreign.joined ∙ r.0.foreign.1);
    },
    (suc r.1.0, (p, r.1.1, task)),
  )

  pub home_served : (p q : PassesParts D) (link behind : K) (clock later : C) → IsHome seen left held told named p → StayOf shared p q
      → HasServed seen shared p q (left link) (left behind) (held link) (held behind) (told clock) (told later) → IsHome seen left held told named q
  home_served p q link behind clock later h s served = home_stays p q h s (inl (link, behind, clock, later, served))

  pub home_expired : (p q : PassesParts D) (clock later : C) → IsHome seen left held told named p → StayOf shared p q
      → HasExpired seen shared p q (told clock) (told later) → IsHome seen left held told named q
  home_expired p q clock later h s expired = home_stays p q h s (inr (clock, later, expired))

  pub rows_home : (rows : List (PassesParts D)) → AllByRecursion (IsAlone shared) rows → AllByRecursion IsUnused rows
      → AllByRecursion (IsHome seen left held told named) rows
  rows_home [] a u = tt
  rows_home (row ∷ rows) a u = (row_home row (a.0, (0, u.0)), rows_home rows a.1 u.1)
