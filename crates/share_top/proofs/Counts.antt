-- Counts of faults over several events, and over a whole session.
use Rattle.std.proofs.Common.{◌≡◌, ◌≤◌, ◌<◌, ◌-◌, ◌^◌, ◌⊎◌, inl, inr, refl, sym, ◌∙◌, subst, arith, rules, nat_lt, ℕ, List, [], ◌∷◌, true, false, Some, None}
use Rattle.std.proofs.lemmas.Bool.{cases_Bool}
use Rattle.std.specs.List.{AllByRecursion, AllZip}
use Rattle.std.specs.declared.option.Option.{Option}
use Rattle.edge_io.specs.Causes.{Rose}
use Rattle.edge_io.specs.declared.name.DiskPlace.{DiskPlace}
use Rattle.edge_io.specs.declared.name.DiskPlace.TheVariants.{Log, StateA, StateB}
use Rattle.topic_conf.specs.Configs.{ConfigParts}
use Rattle.broker_model.specs.Hosted.{IsTaken, state_a, state_b}
use Rattle.broker_hosts.specs.declared.slot.ForeignSlot.{ForeignSlot}
use Rattle.broker_hosts.specs.declared.slot.ForeignSlot.TheVariants as foreign
use Rattle.broker_hosts.specs.declared.slot.PartState.{PartState}
use Rattle.broker_hosts.specs.declared.slot.PartState.TheVariants as part
use Rattle.broker_hosts.specs.declared.slot.PartSlot.{PartSlot}
use Rattle.broker_hosts.specs.Bays.{AreTakenFrom, TakenIf, BothTaken, IsTakenFrom, HasName, HasRisen, RisenIf, OneRisen, BothRisen}
use Rattle.broker_hosts.specs.Carried.{GoesOn}
use Rattle.broker_hosts.specs.Hosts.{HostsParts, LeftDisks, AreOpen, AreOpenParts, IsOpen, IsOpenState, disks_in, foreign_disks, open_disk, part_disk, slots_disks}
use Rattle.broker_core.specs.Calls.{GoOn, GoesOnIf, DiskGoesOn, BothGoOn, OneRose, RoseIf, PartRose, BothRose}
use Rattle.share_top.specs.Changes.{bay_change}
use Rattle.share_top.specs.Sessions.{CountRose}
use Rattle.edge_io.specs.Views.{DiskView, BayView}

module _ {D : Type 0} (seen : D → DiskView) where
  abbrev Named : Type 0
  Named = List ℕ × Option D

  -- ---- disks go on over two events

  disk_then : (a b c : D) → GoesOn seen a b → GoesOn seen b c → GoesOn seen a c
  disk_then a b c p q = record { later = omega (arith, p.later, q.later); told = q.told ∙ p.told }

  if_then : (a b c : Option D) → GoesOnIf seen a b → GoesOnIf seen b c → GoesOnIf seen a c
  if_then None b c p q = tt
  if_then (Some a) None c p q = absurd p
  if_then (Some a) (Some b) None p q = absurd q
  if_then (Some a) (Some b) (Some c) p q = disk_then a b c p q

  named_then : (a b c : Named) → DiskGoesOn seen a b → DiskGoesOn seen b c → DiskGoesOn seen a c
  named_then a b c p q = record { name = q.name ∙ p.name; goes = if_then a.1 b.1 c.1 p.goes q.goes }

  parts_then : (xs ys zs : List Named) → AllZip (DiskGoesOn seen) xs ys → AllZip (DiskGoesOn seen) ys zs → AllZip (DiskGoesOn seen) xs zs
  parts_then [] [] [] p q = tt
  parts_then [] [] (c ∷ zs) p q = absurd q
  parts_then [] (b ∷ ys) zs p q = absurd p
  parts_then (a ∷ xs) [] zs p q = absurd p
  parts_then (a ∷ xs) (b ∷ ys) [] p q = absurd q
  parts_then (a ∷ xs) (b ∷ ys) (c ∷ zs) p q = (named_then a b c p.0 q.0, parts_then xs ys zs p.1 q.1)

  both_then : (a b c : Option (D × D)) → BothGoOn seen a b → BothGoOn seen b c → BothGoOn seen a c
  both_then None b c p q = tt
  both_then (Some a) None c p q = absurd p
  both_then (Some a) (Some b) None p q = absurd q
  both_then (Some a) (Some b) (Some c) p q = (disk_then a.0 b.0 c.0 p.0 q.0, disk_then a.1 b.1 c.1 p.1 q.1)

  pub go_on_then : (a b c : LeftDisks D) → GoOn seen a b → GoOn seen b c → GoOn seen a c
  go_on_then a b c p q = record {
    parts = parts_then a.parts b.parts c.parts p.parts q.parts;
    foreign = both_then a.foreign b.foreign c.foreign p.foreign q.foreign;
  }

  -- ---- a count that rose in the last event has risen since the first

  rose_then : (a b c : D) → GoesOn seen a b → Rose (seen b).faults (seen c).faults → Rose (seen a).faults (seen c).faults
  rose_then a b c p rose = omega (arith, p.later, rose)

  abbrev IsThere : Named → Type 0
  IsThere e = (d : D) × (e.1 ≡ Some d)

  there_rises : (a b c : Option D) → (d : D) × (a ≡ Some d) → GoesOnIf seen a b → RoseIf seen b c → RoseIf seen a c
  there_rises None b c there p rose = absurd (let bad : None ≡ Some there.0 = there.1 in cc)
  there_rises (Some a) None c there p rose = absurd p
  there_rises (Some a) (Some b) None there p rose = absurd rose
  there_rises (Some a) (Some b) (Some c) there p rose = rose_then a b c p rose

  parts_rise : (xs ys zs : List Named) → AllByRecursion IsThere xs → AllZip (DiskGoesOn seen) xs ys → PartRose seen ys zs → PartRose seen xs zs
  parts_rise [] [] zs there p rose = absurd rose
  parts_rise [] (b ∷ ys) zs there p rose = absurd p
  parts_rise (a ∷ xs) [] zs there p rose = absurd rose
  parts_rise (a ∷ xs) (b ∷ ys) [] there p rose = absurd rose
  parts_rise (a ∷ xs) (b ∷ ys) (c ∷ zs) there p (inl rose) = inl (there_rises a.1 b.1 c.1 there.0 p.0.goes rose)
  parts_rise (a ∷ xs) (b ∷ ys) (c ∷ zs) there p (inr rose) = inr (parts_rise xs ys zs there.1 p.1 rose)

  -- an open partition has its three disks
  open_has : (state : PartState D) (place : DiskPlace) → IsOpenState state → (d : D) × (part_disk state place ≡ Some d)
  open_has (part.Open shard) place opened = (open_disk shard place, refl)
  open_has (part.Shut log first second) place opened = absurd opened
  open_has part.Gone place opened = absurd opened

  all_there : (slots : List (PartSlot D)) → AreOpenParts slots → AllByRecursion IsThere (slots_disks slots)
  all_there [] opened = tt
  all_there (s ∷ slots) opened =
      (open_has s.state Log opened.0, (open_has s.state StateA opened.0, (open_has s.state StateB opened.0, all_there slots opened.1)))

  both_rise : (slot : ForeignSlot D) (b c : Option (D × D)) → IsOpen slot → BothGoOn seen (foreign_disks slot) b → BothRose seen b c
      → BothRose seen (foreign_disks slot) c
  both_rise (foreign.Open store) None c opened p rose = absurd p
  both_rise (foreign.Open store) (Some b) None opened p rose = absurd rose
  both_rise (foreign.Open store) (Some b) (Some c) opened p (inl rose) = inl (rose_then store.journal.first.disk b.0 c.0 p.0 rose)
  both_rise (foreign.Open store) (Some b) (Some c) opened p (inr rose) = inr (rose_then store.journal.second.disk b.1 c.1 p.1 rose)
  both_rise (foreign.Shut first second) b c opened p rose = absurd opened
  both_rise foreign.Gone b c opened p rose = absurd opened

  pub rises : (hosts : HostsParts D) (b c : LeftDisks D) → AreOpen hosts → GoOn seen (disks_in hosts) b → OneRose seen b c
      → OneRose seen (disks_in hosts) c
  rises hosts b c opened p (inl rose) = inl (parts_rise (slots_disks hosts.parts) b.parts c.parts (all_there hosts.parts opened.parts) p.parts rose)
  rises hosts b c opened p (inr rose) = inr (both_rise hosts.foreign b.foreign c.foreign opened.foreign p.foreign rose)

-- ---- over a session

module _ {B D : Type 0} (bay_seen : B → BayView D) (seen : D → DiskView)
    (conf : ConfigParts) (old mid new : B) (kept : (m : List ℕ) → (bay_seen new).taken m ≡ (bay_seen mid).taken m) where
  abbrev Result : Type 0
  Result = CountRose (bay_change bay_seen seen old new) conf

  abbrev Back : Type 0
  Back = Rose (bay_seen mid).faults (bay_seen new).faults

  -- what was handed out with a count below that which it is put back with raises the bay's, and else its count was the last one
  of_one : (name : List ℕ) (x y : D) → (t : IsTakenFrom bay_seen seen name old mid x) → Rose (seen x).faults (seen y).faults
      → ((bay_seen mid).taken name < (seen y).faults → Back) → (bay_seen old).faults ≤ (bay_seen mid).faults → IsTaken conf name → Result
  of_one name x y t rose back later is = go (cases_Bool (nat_lt ((bay_seen mid).taken name) (seen y).faults)) where
    go : (nat_lt ((bay_seen mid).taken name) (seen y).faults ≡ true) ⊎ (nat_lt ((bay_seen mid).taken name) (seen y).faults ≡ false) → Result
    go (inl less) = inl (let l : (bay_seen mid).taken name < (seen y).faults = search rules in let b = back l in omega (arith, b, later))
    go (inr not) =
        let last : 2 ^ 64 - 1 ≤ (bay_seen new).taken name =
        let l : (seen y).faults ≤ (bay_seen mid).taken name = search rules in
        let n = t.noted in
        let k = t.later in
        let s = kept name in omega (arith, l, n, k, rose, s) in
        inr (name, is, last)

  of_entry : (e f : List ℕ × Option D) → TakenIf bay_seen seen old mid e → f.0 ≡ e.0 → RoseIf seen e.1 f.1
      → (RisenIf bay_seen seen mid f → Back) → (bay_seen old).faults ≤ (bay_seen mid).faults → IsTaken conf e.0 → Result
  of_entry (n, None) (m, o) t same rose back later is = absurd t
  of_entry (n, Some x) (m, None) t same rose back later is = absurd rose
  of_entry (n, Some x) (m, Some y) t same rose back later is =
      of_one n x y t rose (λ less. back (subst (λ (k : List ℕ). (bay_seen mid).taken k < (seen y).faults) (sym same) less)) later is

  of_parts : (es fs : List (List ℕ × Option D)) → AllByRecursion (TakenIf bay_seen seen old mid) es → AllZip (DiskGoesOn seen) es fs
      → PartRose seen es fs → (OneRisen bay_seen seen mid fs → Back) → (bay_seen old).faults ≤ (bay_seen mid).faults
      → ((name : List ℕ) → HasName es name → IsTaken conf name) → Result
  of_parts [] fs t goes rose back later names = absurd rose
  of_parts (e ∷ es) [] t goes rose back later names = absurd rose
  of_parts (e ∷ es) (f ∷ fs) t goes (inl rose) back later names = of_entry e f t.0 goes.0.name rose (λ r. back (inl r)) later (names e.0 (inl refl))
  of_parts (e ∷ es) (f ∷ fs) t goes (inr rose) back later names =
      of_parts es fs t.1 goes.1 rose (λ r. back (inr r)) later (λ name has. names name (inr has))

  of_both : (before after : Option (D × D)) → BothTaken bay_seen seen old mid before → BothRose seen before after
      → (BothRisen bay_seen seen mid after → Back) → (bay_seen old).faults ≤ (bay_seen mid).faults → Result
  of_both None after t rose back later = absurd t
  of_both (Some x) None t rose back later = absurd rose
  of_both (Some x) (Some y) t (inl rose) back later = of_one state_a x.0 y.0 t.0 rose (λ less. back (inl less)) later (inr (inl refl))
  of_both (Some x) (Some y) t (inr rose) back later = of_one state_b x.1 y.1 t.1 rose (λ less. back (inr less)) later (inr (inr refl))

  pub count_rose : (before after : LeftDisks D) → AreTakenFrom bay_seen seen conf old mid before → GoOn seen before after
      → OneRose seen before after → (HasRisen bay_seen seen mid after → Back) → (bay_seen old).faults ≤ (bay_seen mid).faults → Result
  count_rose before after t goes (inl rose) back later = of_parts before.parts after.parts t.parts goes.parts rose (λ r. back (inl r)) later t.names
  count_rose before after t goes (inr rose) back later = of_both before.foreign after.foreign t.foreign rose (λ r. back (inr r)) later
