-- An armed fault, seen by the names of the disks.
use Rattle.std.proofs.Common.{◌≡◌, ◌≤◌, ◌+◌, ◌⊎◌, arith, ◌∷◌, [], inl, inr, refl, sym, ap, ◌∙◌, subst, ℕ, suc, List, length, Bool, true, false, cond, Some, is_some, if◌then◌else◌}
use Rattle.std.specs.List.{AllZip, flat_map}
use Rattle.std.specs.declared.option.Option.{Option}
use Rattle.share_members.specs.Groups.{Memberships}
use Rattle.edge_io.specs.declared.fault.FaultMode.{FaultMode}
use Rattle.edge_io.specs.declared.name.DiskPlace.{DiskPlace}
use Rattle.edge_io.specs.declared.name.DiskPlace.TheVariants.{Log, LogB, StateA, StateB}
use Rattle.edge_io.specs.Armed.{ArmsAlone}
use Rattle.edge_io.specs.Disk.{IsTold}
use Rattle.edge_io.specs.Names.{IsTextPlace, hosted_name}
use Rattle.share_coord.specs.Parts.{StoreParts}
use Rattle.gate_journal.specs.declared.writer.Writer.{Writer}
use Rattle.foreign_coord.specs.Shards.{ForeignShardState, Carries}
use Rattle.part_log.specs.Logs.{LogParts}
use Rattle.share_part.specs.Hosting.{PartConfParts}
use Rattle.share_part.specs.Shards.{Carries as CarriesPart, PartShardState}
use Rattle.broker_model.specs.Hosted.{ChangesAt, HoldsAt, Hosted, IsOneOf, disks_of, first_of, log_of, part_disks, same_name, second_of, state_a, state_b}
use Rattle.broker_model.specs.Shards.{HostedPart, Shards}
use Rattle.broker_model.specs.Disks.{Facts, facts_of, with_arm}
use Rattle.broker_model.proofs.Lists.{change_of, changes_so}
use Rattle.broker_hosts.specs.declared.slot.ForeignSlot.{ForeignSlot}
use Rattle.broker_hosts.specs.declared.slot.PartState.{PartState}
use Rattle.broker_hosts.specs.declared.slot.PartSlot.{PartSlot}
use Rattle.broker_hosts.specs.Carried.{GoesOn, IsCarried, IsFed, IsPartCarried, OpenPart}
use Rattle.broker_core.specs.PartCalls.{PartGoesOn}
use Rattle.broker_shards.specs.Hosts.{holding}
use Rattle.broker_core.specs.Foreign.{ArmsForeign, ArmsEither}
use Rattle.broker_hosts.specs.Hosts.{AreApart, AreCarried, AreDistinct, AreNamed, AreOpen, AreOpenParts, HostsParts, IsOpen, IsPartSlot, IsPartState, IsSlot, NotIn, among, disks_in, ends_in, facts_at, facts_in, foreign_disks, foreign_end, foreign_facts, hosted_slot, hosted_slots, open_disk, part_disk, part_end, slot_disks, slot_ends, slots_disks}
use Rattle.broker_core.specs.Calls.{ArmsPlace, ArmsSlot, BothGoOn, DiskGoesOn, StaysOpen}
use Rattle.broker_core.specs.Cores.{IsArmed}
use Rattle.broker_core.proofs.Calling.{Turned, with_parts}
use Rattle.broker_core.proofs.Flats.{among_changed}
use Rattle.broker_hosts.proofs.Places.{Changed, changed, changes_not, changes_same, zip_same, among_past, among_zip, differs, holds_both, is_same, not_both, one_in_either, same_self}
use Rattle.broker_core.proofs.Leading.{least_on, not_a_part, not_a_part_too, parts_apart, same_goes}
use Rattle.broker_core.proofs.Slots.{disk_names, known_at, three}
use Rattle.edge_io.specs.Views.{DiskView}

-- ---- a look-up of a disk by its name

-- the slots from this number on have not been looked at
pub record LooksIn {D : Type 0} (disk : List ℕ) (all : List (PartSlot D)) (number : ℕ) (rest : List (PartSlot D)) : Type 0 where
  pub at : (place : DiskPlace) (k : ℕ) → HoldsAt k (λ (s : PartSlot D). hosted_name s.topic s.conf.part place ≡ disk) rest
      → HoldsAt (k + number) (λ (s : PartSlot D). hosted_name s.topic s.conf.part place ≡ disk) all
  pub past : NotIn (part_disks (hosted_slots rest)) disk → NotIn (part_disks (hosted_slots all)) disk
  pub named : AreNamed (hosted_slots rest)
  pub counted : number + length rest ≡ length all

module _ {D : Type 0} (disk : List ℕ) (all : List (PartSlot D)) where
  abbrev Has : DiskPlace → PartSlot D → Type 0
  Has place s = hosted_name s.topic s.conf.part place ≡ disk

  pub looks_first : AreNamed (hosted_slots all) → LooksIn disk all 0 all
  looks_first named = record {
    at = λ place k h. subst (λ (n : ℕ). HoldsAt n (Has place) all) (let e : k ≡ k + 0 = omega arith in e) h;
    past = λ n. n;
    named = named;
    counted = omega arith;
  }

  pub looks_on : (number : ℕ) (x : PartSlot D) (rest : List (PartSlot D)) → LooksIn disk all number (x ∷ rest) → NotIn (disks_of (hosted_slot x)) disk
      → LooksIn disk all (number + 1) rest
  looks_on number x rest l n = record {
    at = λ place k h. subst (λ (n : ℕ). HoldsAt n (Has place) all) (let e : suc k + number ≡ k + (number + 1) = omega arith in e) (l.at place (suc k) h);
    past = λ m. l.past (n.0, (n.1.0, (n.1.1.0, m)));
    named = l.named.1;
    counted = (let e = l.counted in omega (arith, e));
  }

  pub looks_found : (number : ℕ) (x : PartSlot D) (rest : List (PartSlot D)) (place : DiskPlace) → LooksIn disk all number (x ∷ rest) → Has place x
      → HoldsAt number (Has place) all
  looks_found number x rest place l is = subst (λ (n : ℕ). HoldsAt n (Has place) all) (let e : 0 + number ≡ number = omega arith in e) (l.at place 0 is)

  pub looks_none : (number : ℕ) → LooksIn disk all number [] → NotIn (part_disks (hosted_slots all)) disk
  looks_none number l = l.past tt

module _ {D : Type 0} (seen : D → DiskView) where
  abbrev facts : D → Facts
  facts disk = facts_of seen disk

  abbrev F : HostsParts D → List ℕ → Facts
  F hosts name = facts_in seen (disks_in hosts) name

  abbrev entry_facts : List ℕ × Option D → Facts
  entry_facts e = facts_at seen e.1

  abbrev slot_facts : PartSlot D → DiskPlace → Facts
  slot_facts slot place = facts_at seen (part_disk slot.state place)

  abbrev Arms : ℕ → FaultMode → D → D → Type 0
  Arms after mode old new = ArmsAlone seen after mode old new

  armed_facts : (after : ℕ) (mode : FaultMode) (old new : D) → IsTold (seen old).content → Arms after mode old new → facts new ≡ with_arm after mode (facts old)
  armed_facts after mode old new told a =
      λ i. record { faults = a.same_faults i; losses = a.same_losses i; arms = a.counted told i; armed = a.is_armed told i }

  arms_go_on : (after : ℕ) (mode : FaultMode) (old new : D) → Arms after mode old new → GoesOn seen old new
  arms_go_on after mode old new a = record { later = subst (λ (n : ℕ). (seen old).faults ≤ n) (sym a.same_faults) (least (seen old).faults); told = ap is_some a.same_content }
    where
      least : (n : ℕ) → n ≤ n
      least n = omega arith

  -- ---- a disk of a partition

  abbrev ArmsP : ℕ → FaultMode → OpenPart D → OpenPart D → DiskPlace → Type 0
  ArmsP after mode was is place = ArmsPlace seen after mode was is place

  pub place_of_arm : (after : ℕ) (mode : FaultMode) (was is : OpenPart D) (place : DiskPlace) → (place ≡ Log → ArmsP after mode was is Log)
      → (place ≡ StateA → ArmsP after mode was is StateA) → (place ≡ StateB → ArmsP after mode was is StateB) → IsTextPlace place
      → ArmsP after mode was is place
  place_of_arm after mode was is Log on_log on_first on_second text = on_log refl
  place_of_arm after mode was is LogB on_log on_first on_second text = text
  place_of_arm after mode was is StateA on_log on_first on_second text = on_first refl
  place_of_arm after mode was is StateB on_log on_first on_second text = on_second refl

  abbrev Fed : D → Type 0
  Fed d = IsFed seen d

  arms_fed : (after : ℕ) (mode : FaultMode) (old new : D) → Arms after mode old new → Fed old → Fed new
  arms_fed after mode old new a f = record { told = ap is_some a.same_content ∙ f.told; fed = a.same_starved ∙ f.fed }

  part_armed : (after : ℕ) (mode : FaultMode) (conf : PartConfParts) (was is : OpenPart D) (place : DiskPlace) (s : PartShardState)
      → ArmsP after mode was is place → is.conf ≡ was.conf → (CarriesPart seen holding was s → CarriesPart seen holding is s)
      → IsPartCarried seen conf was s → IsPartCarried seen conf is s
  part_armed after mode conf was is Log s a same stays k = record {
    conf_is = same ∙ k.conf_is;
    carries = stays k.carries;
    log = arms_fed after mode was.log.journal.disk is.log.journal.disk a.0 k.log;
    first = subst (λ (t : StoreParts D). Fed t.journal.first.disk) (sym a.1) k.first;
    second = subst (λ (t : StoreParts D). Fed t.journal.second.disk) (sym a.1) k.second;
  }
  part_armed after mode conf was is LogB s a same stays k = absurd a
  part_armed after mode conf was is StateA s a same stays k = record {
    conf_is = same ∙ k.conf_is;
    carries = stays k.carries;
    log = subst (λ (t : LogParts D). Fed t.journal.disk) (sym a.2) k.log;
    first = arms_fed after mode was.states.journal.first.disk is.states.journal.first.disk a.0 k.first;
    second = subst (λ (w : Writer D). Fed w.disk) (sym a.1) k.second;
  }
  part_armed after mode conf was is StateB s a same stays k = record {
    conf_is = same ∙ k.conf_is;
    carries = stays k.carries;
    log = subst (λ (t : LogParts D). Fed t.journal.disk) (sym a.2) k.log;
    first = subst (λ (w : Writer D). Fed w.disk) (sym a.1) k.first;
    second = arms_fed after mode was.states.journal.second.disk is.states.journal.second.disk a.0 k.second;
  }

  part_goes : (after : ℕ) (mode : FaultMode) (was is : OpenPart D) (place : DiskPlace) → ArmsP after mode was is place → PartGoesOn seen was is
  part_goes after mode was is Log a = record {
    log = arms_go_on after mode was.log.journal.disk is.log.journal.disk a.0;
    first = subst (λ (t : StoreParts D). GoesOn seen was.states.journal.first.disk t.journal.first.disk) (sym a.1)
        (least_on seen was.states.journal.first.disk);
    second = subst (λ (t : StoreParts D). GoesOn seen was.states.journal.second.disk t.journal.second.disk) (sym a.1)
        (least_on seen was.states.journal.second.disk);
  }
  part_goes after mode was is LogB a = absurd a
  part_goes after mode was is StateA a = record {
    log = subst (λ (t : LogParts D). GoesOn seen was.log.journal.disk t.journal.disk) (sym a.2)
        (least_on seen was.log.journal.disk);
    first = arms_go_on after mode was.states.journal.first.disk is.states.journal.first.disk a.0;
    second = subst (λ (w : Writer D). GoesOn seen was.states.journal.second.disk w.disk) (sym a.1)
        (least_on seen was.states.journal.second.disk);
  }
  part_goes after mode was is StateB a = record {
    log = subst (λ (t : LogParts D). GoesOn seen was.log.journal.disk t.journal.disk) (sym a.2)
        (least_on seen was.log.journal.disk);
    first = subst (λ (w : Writer D). GoesOn seen was.states.journal.first.disk w.disk) (sym a.1)
        (least_on seen was.states.journal.first.disk);
    second = arms_go_on after mode was.states.journal.second.disk is.states.journal.second.disk a.0;
  }

  abbrev told_at : DiskPlace → OpenPart D → Type 0
  told_at place p = IsTold (seen (open_disk p place)).content

  told_of_part : (conf : PartConfParts) (p : OpenPart D) (s : PartShardState) (place : DiskPlace) → IsPartCarried seen conf p s → told_at place p
  told_of_part conf p s Log k = k.log.told
  told_of_part conf p s LogB k = k.log.told
  told_of_part conf p s StateA k = k.first.told
  told_of_part conf p s StateB k = k.second.told

  -- the disk at the place is armed
  place_armed : (after : ℕ) (mode : FaultMode) (was is : OpenPart D) (place : DiskPlace) → told_at place was → ArmsP after mode was is place
      → facts (open_disk is place) ≡ with_arm after mode (facts (open_disk was place))
  place_armed after mode was is Log told a = armed_facts after mode was.log.journal.disk is.log.journal.disk told a.0
  place_armed after mode was is LogB told a = absurd a
  place_armed after mode was is StateA told a = armed_facts after mode was.states.journal.first.disk is.states.journal.first.disk told a.0
  place_armed after mode was is StateB told a = armed_facts after mode was.states.journal.second.disk is.states.journal.second.disk told a.0

  abbrev Three : Hosted → OpenPart D → Facts → List ℕ → Facts
  Three h p o name = three h (facts (open_disk p Log)) (facts (open_disk p StateA)) (facts (open_disk p StateB)) o name

  past_one : {A : Type 0} (b : Bool) (a c o : A) → b ≡ false → cond b a o ≡ cond b c o
  past_one true a c o is = absurd (let bad : true ≡ false = is in cc)
  past_one false a c o is = refl

  -- each other name finds what it found
  place_past : (h : Hosted) (after : ℕ) (mode : FaultMode) (was is : OpenPart D) (place : DiskPlace) (o : Facts) (name : List ℕ)
      → same_name name (hosted_name h.topic h.conf.part place) ≡ false → ArmsP after mode was is place → Three h is o name ≡ Three h was o name
  place_past h after mode was is Log o name away a =
      ap (λ (t : StoreParts D). three h (facts (open_disk is Log)) (facts t.journal.first.disk) (facts t.journal.second.disk) o name) a.1
      ∙ past_one (same_name name (log_of h)) (facts (open_disk is Log)) (facts (open_disk was Log))
      (cond (same_name name (first_of h)) (facts (open_disk was StateA)) (cond (same_name name (second_of h)) (facts (open_disk was StateB)) o)) away
  place_past h after mode was is LogB o name away a = absurd a
  place_past h after mode was is StateA o name away a =
      ap (λ (t : LogParts D). three h (facts t.journal.disk) (facts (open_disk is StateA)) (facts (open_disk is StateB)) o name) a.2
      ∙ ap (λ (w : Writer D). three h (facts (open_disk was Log)) (facts (open_disk is StateA)) (facts w.disk) o name) a.1
      ∙ ap (cond (same_name name (log_of h)) (facts (open_disk was Log)))
      (past_one (same_name name (first_of h)) (facts (open_disk is StateA)) (facts (open_disk was StateA))
      (cond (same_name name (second_of h)) (facts (open_disk was StateB)) o) away)
  place_past h after mode was is StateB o name away a =
      ap (λ (t : LogParts D). three h (facts t.journal.disk) (facts (open_disk is StateA)) (facts (open_disk is StateB)) o name) a.2
      ∙ ap (λ (w : Writer D). three h (facts (open_disk was Log)) (facts w.disk) (facts (open_disk is StateB)) o name) a.1
      ∙ ap (λ (f : Facts). cond (same_name name (log_of h)) (facts (open_disk was Log)) (cond (same_name name (first_of h)) (facts (open_disk was StateA)) f))
      (past_one (same_name name (second_of h)) (facts (open_disk is StateB)) (facts (open_disk was StateB)) o away)

  -- ---- a slot of a partition

  abbrev ArmsS : DiskPlace → ℕ → FaultMode → PartSlot D → PartSlot D → Type 0
  ArmsS place after mode x y = ArmsSlot seen place after mode x y

  pub turned_arms : (place : DiskPlace) (after : ℕ) (mode : FaultMode) (x y : PartSlot D) → ArmsS place after mode x y
      → Turned seen x y
  turned_arms place after mode x y p = record {
    was = p.was;
    is = p.is;
    turns = record { old_is = p.old_is; new_is = p.new_is; hosted = λ i. record { topic = p.topic i; conf = p.conf i } };
    goes = part_goes after mode p.was p.is place p.arms_disk;
  }

  record ArmsPart (place : DiskPlace) (after : ℕ) (mode : FaultMode) (x y : PartSlot D) (e f : HostedPart) : Type 0 where
    same : f ≡ e
    armed_is : slot_facts y place ≡ with_arm after mode (slot_facts x place)

  slot_arms : (place : DiskPlace) (after : ℕ) (mode : FaultMode) (x y : PartSlot D) (e : HostedPart) → ArmsS place after mode x y
      → IsPartSlot seen x e → (f : HostedPart) × IsPartSlot seen y f × ArmsPart place after mode x y e f
  slot_arms place after mode x y e p k =
      let i = subst (λ (s : PartState D). IsPartState seen x.conf s e.shard) p.old_is k.state in (
        e,
        record {
          hosted = k.hosted ∙ (λ i. record { topic = sym p.topic i; conf = sym p.conf i });
          state =
              subst (λ (c : PartConfParts). IsPartState seen c y.state e.shard) (sym p.conf)
              (subst (λ (s : PartState D). IsPartState seen x.conf s e.shard) (sym p.new_is)
              (part_armed after mode x.conf p.was p.is place e.shard p.arms_disk p.part_conf (p.stays e.shard) i));
        },
        record {
          same = refl;
          armed_is =
              ap (λ (s : PartState D). facts_at seen (part_disk s place)) p.new_is
              ∙ place_armed after mode p.was p.is place (told_of_part x.conf p.was e.shard place i) p.arms_disk
              ∙ sym (ap (λ (s : PartState D). with_arm after mode (facts_at seen (part_disk s place))) p.old_is);
        },
      )

  keep_slot : (x : PartSlot D) (e : HostedPart) → IsPartSlot seen x e → IsPartSlot seen x e
  keep_slot x e k = k

  abbrev Found : PartSlot D → Facts → List ℕ → Facts
  Found x o name = among (λ (d : List ℕ × Option D). d.0) entry_facts (slot_disks x) o name

  abbrev Of : Hosted → PartState D → Facts → List ℕ → Facts
  Of h state o name = three h (facts_at seen (part_disk state Log)) (facts_at seen (part_disk state StateA))
      (facts_at seen (part_disk state StateB)) o name

  slot_past : (place : DiskPlace) (after : ℕ) (mode : FaultMode) (x y : PartSlot D) (name : List ℕ) (o : Facts) → ArmsS place after mode x y
      → same_name name (hosted_name x.topic x.conf.part place) ≡ false → Found y o name ≡ Found x o name
  slot_past place after mode x y name o p away =
      ap (λ (h : Hosted). Of h y.state o name) (λ i. record { topic = p.topic i; conf = p.conf i })
      ∙ ap (λ (s : PartState D). Of (hosted_slot x) s o name) p.new_is
      ∙ place_past (hosted_slot x) after mode p.was p.is place o name away p.arms_disk
      ∙ sym (ap (λ (s : PartState D). Of (hosted_slot x) s o name) p.old_is)

  abbrev EndOf : Hosted → PartState D → ℕ → List ℕ → ℕ
  EndOf h state o name = three h (part_end state Log) (part_end state StateA) (part_end state StateB) o name

  slot_ends_stay : (place : DiskPlace) (after : ℕ) (mode : FaultMode) (x y : PartSlot D) (name : List ℕ) (o : ℕ) → ArmsS place after mode x y
      → EndOf (hosted_slot y) y.state o name ≡ EndOf (hosted_slot x) x.state o name
  slot_ends_stay place after mode x y name o p =
      ap (λ (h : Hosted). EndOf h y.state o name) (λ i. record { topic = p.topic i; conf = p.conf i })
      ∙ ap (λ (s : PartState D). EndOf (hosted_slot x) s o name) p.new_is
      ∙ (λ i. three (hosted_slot x) (p.ends.0 i) (p.ends.1 i) 0 o name)
      ∙ sym (ap (λ (s : PartState D). EndOf (hosted_slot x) s o name) p.old_is)

  known_place : (hosts : HostsParts D) (n : ℕ) (x : PartSlot D) → HoldsAt n (λ z. z ≡ x) hosts.parts → AreDistinct (part_disks (hosted_slots hosts.parts))
      → (place : DiskPlace) → IsTextPlace place → F hosts (hosted_name x.topic x.conf.part place) ≡ slot_facts x place
  known_place hosts n x there apart Log text = (known_at seen hosts n x there apart).0
  known_place hosts n x there apart LogB text = absurd text
  known_place hosts n x there apart StateA text = (known_at seen hosts n x there apart).1
  known_place hosts n x there apart StateB text = (known_at seen hosts n x there apart).2

  -- what arms a disk arms one that a text names
  text_of_arm : (place : DiskPlace) (after : ℕ) (mode : FaultMode) (was is : OpenPart D) → ArmsP after mode was is place → IsTextPlace place
  text_of_arm Log after mode was is a = tt
  text_of_arm LogB after mode was is a = a
  text_of_arm StateA after mode was is a = tt
  text_of_arm StateB after mode was is a = tt

  module _ (old : HostsParts D) (ys : List (PartSlot D)) (n : ℕ) (place : DiskPlace) (disk : List ℕ) (after : ℕ) (mode : FaultMode)
      (at : HoldsAt n (λ (z : PartSlot D). hosted_name z.topic z.conf.part place ≡ disk) old.parts)
      (changes : ChangesAt n (ArmsS place after mode) old.parts ys) (apart : AreApart old) (s : Shards) (k : AreCarried seen old s) where
    abbrev c : Changed (IsPartSlot seen) (IsPartSlot seen) keep_slot (ArmsS place after mode) (ArmsPart place after mode)
        (slot_arms place after mode) n old.parts ys s.parts
    c = changed (IsPartSlot seen) (IsPartSlot seen) keep_slot (ArmsS place after mode) (ArmsPart place after mode)
        (slot_arms place after mode) n old.parts ys s.parts changes k.parts

    abbrev new : HostsParts D
    new = with_parts seen old ys

    hosted_is : hosted_slot c.y ≡ hosted_slot c.x
    hosted_is = λ i. record { topic = c.change.topic i; conf = c.change.conf i }

    disk_is : hosted_name c.x.topic c.x.conf.part place ≡ disk
    disk_is = holds_both (λ (z : PartSlot D). hosted_name z.topic z.conf.part place ≡ disk) n old.parts c.x at c.there

    hosted_then : hosted_slots ys ≡ hosted_slots old.parts
    hosted_then = changes_same hosted_slot (λ a b. (a ≡ c.x) × (b ≡ c.y)) (λ a b is. ap hosted_slot is.1 ∙ hosted_is ∙ sym (ap hosted_slot is.0)) n old.parts ys c.exact

    apart_then : AreDistinct (part_disks (hosted_slots ys))
    apart_then = subst (λ (hs : List Hosted). AreDistinct (part_disks hs)) (sym hosted_then) (parts_apart (hosted_slots old.parts) apart)

    text : IsTextPlace place
    text = text_of_arm place after mode c.change.was c.change.is c.change.arms_disk

    armed_now : slot_facts c.y place ≡ with_arm after mode (slot_facts c.x place)
    armed_now = change_of n (ArmsPart place after mode c.x c.y) (λ e f g. g.armed_is) s.parts c.after c.goes

    at_disk : F new disk ≡ with_arm after mode (F old disk)
    at_disk =
        subst (λ (m : List ℕ). F new m ≡ with_arm after mode (F old m)) disk_is
        (ap (λ (h : Hosted). F new (hosted_name h.topic h.conf.part place)) (sym hosted_is)
        ∙ known_place new n c.y c.here apart_then place text
        ∙ armed_now
        ∙ sym (ap (with_arm after mode) (known_place old n c.x c.there (parts_apart (hosted_slots old.parts) apart) place text)))

    self : (a b : List ℕ) → a ≡ b → same_name a b ≡ true
    self a b e = subst (λ (m : List ℕ). same_name a m ≡ true) e (same_self a)

    abbrev Is : PartSlot D → PartSlot D → Type 0
    Is a b = (a ≡ c.x) × (b ≡ c.y)

    others : (name : List ℕ) → same_name disk name ≡ false → F new name ≡ F old name
    others name away =
        among_changed (λ (e : List ℕ × Option D). e.0) entry_facts slot_disks (λ (a b : Facts). b ≡ a) (λ a. refl) name n old.parts ys
        (changes_so n Is (λ a b. (o : Facts) → Found b o name ≡ Found a o name)
        (λ a b i o. ap (λ (x : PartSlot D). Found x o name) i.1
        ∙ slot_past place after mode c.x c.y name o c.change (differs name (hosted_name c.x.topic c.x.conf.part place)
        (λ e. let bad : true ≡ false = sym (self disk name (sym disk_is ∙ sym e)) ∙ away in cc))
        ∙ sym (ap (λ (x : PartSlot D). Found x o name) i.0)) old.parts ys c.exact)
        (foreign_facts seen (foreign_disks old.foreign) name)

    on_disk : (name : List ℕ) (b : Bool) → same_name disk name ≡ b → F new name ≡ cond b (with_arm after mode (F old name)) (F old name)
    on_disk name true is = subst (λ (m : List ℕ). F new m ≡ with_arm after mode (F old m)) (is_same disk name is) at_disk
    on_disk name false is = others name is

    ends_stay : (name : List ℕ) → ends_in new name ≡ ends_in old name
    ends_stay name =
        among_changed (λ (e : List ℕ × ℕ). e.0) (λ (e : List ℕ × ℕ). e.1) slot_ends (λ (a b : ℕ). b ≡ a) (λ a. refl) name n old.parts ys
        (changes_so n Is (λ a b. (o : ℕ) → ended b o ≡ ended a o)
        (λ a b i o. ap (λ (x : PartSlot D). ended x o) i.1 ∙ slot_ends_stay place after mode c.x c.y name o c.change
        ∙ sym (ap (λ (x : PartSlot D). ended x o) i.0)) old.parts ys c.exact)
        (foreign_end old.foreign name)
      where
        ended : PartSlot D → ℕ → ℕ
        ended x o = EndOf (hosted_slot x) x.state o name

    pub part_is_armed : IsArmed seen disk after mode old s new
    part_is_armed = record {
      carried = record {
        parts = subst (λ (l : List HostedPart). AllZip (IsPartSlot seen) ys l)
            (changes_not n s.parts c.after (changes_so n (ArmsPart place after mode c.x c.y) (λ e f. f ≡ e) (λ e f g. g.same) s.parts c.after c.goes)) c.zip;
        members = k.members;
        foreign = k.foreign;
      };
      disks = λ name one. on_disk name (same_name disk name) refl;
      ends = ends_stay;
    }

  -- ---- a disk of foreign state

  abbrev G : StoreParts D → List ℕ → Facts
  G store name = foreign_facts seen (Some (store.journal.first.disk, store.journal.second.disk)) name

  -- at both names
  record BothArmed (disk : List ℕ) (after : ℕ) (mode : FaultMode) (was is : StoreParts D) : Type 0 where
    at_first : G is state_a ≡ (if same_name disk state_a then with_arm after mode (G was state_a) else G was state_a)
    at_second : G is state_b ≡ (if same_name disk state_b then with_arm after mode (G was state_b) else G was state_b)
    carried : (s : ForeignShardState) → IsCarried seen was s → IsCarried seen is s

  foreign_armed : (disk : List ℕ) (after : ℕ) (mode : FaultMode) (was is : StoreParts D) → IsTold (seen was.journal.first.disk).content
      → IsTold (seen was.journal.second.disk).content → ((s : ForeignShardState) → Carries seen was s → Carries seen is s)
      → ArmsEither seen disk after mode was is → BothArmed disk after mode was is
  foreign_armed disk after mode was is told second_told stays (inl (name, a, second)) =
      subst (λ (d : List ℕ). BothArmed d after mode was is) (sym name) (record {
        at_first = armed_facts after mode was.journal.first.disk is.journal.first.disk told a;
        at_second = ap (λ (w : Writer D). facts w.disk) second;
        carried = λ s k. record {
          carries = stays s k.carries;
          told = ap is_some a.same_content ∙ k.told;
          second_told = ap (λ (w : Writer D). is_some (seen w.disk).content) second ∙ k.second_told;
          fed = a.same_starved ∙ k.fed;
          second_fed = ap (λ (w : Writer D). (seen w.disk).starved) second ∙ k.second_fed;
        };
      })
  foreign_armed disk after mode was is told second_told stays (inr (inl (name, a, first))) =
      subst (λ (d : List ℕ). BothArmed d after mode was is) (sym name) (record {
        at_first = ap (λ (w : Writer D). facts w.disk) first;
        at_second = armed_facts after mode was.journal.second.disk is.journal.second.disk second_told a;
        carried = λ s k. record {
          carries = stays s k.carries;
          told = ap (λ (w : Writer D). is_some (seen w.disk).content) first ∙ k.told;
          second_told = ap is_some a.same_content ∙ k.second_told;
          fed = ap (λ (w : Writer D). (seen w.disk).starved) first ∙ k.fed;
          second_fed = a.same_starved ∙ k.second_fed;
        };
      })
  foreign_armed disk after mode was is told second_told stays (inr (inr (not_a, not_b, same))) = record {
    at_first = ap (λ (p : StoreParts D). G p state_a) same
        ∙ sym (ap (λ (t : Bool). if t then with_arm after mode (G was state_a) else G was state_a) (differs disk state_a not_a));
    at_second = ap (λ (p : StoreParts D). G p state_b) same
        ∙ sym (ap (λ (t : Bool). if t then with_arm after mode (G was state_b) else G was state_b) (differs disk state_b not_b));
    carried = λ s k. subst (λ (p : StoreParts D). IsCarried seen p s) (sym same) k;
  }

  abbrev ArmsF : List ℕ → ℕ → FaultMode → ForeignSlot D → ForeignSlot D → Type 0
  ArmsF disk after mode old new = ArmsForeign seen disk after mode old new

  module _ (old new : HostsParts D) (disk : List ℕ) (after : ℕ) (mode : FaultMode) (no_part : NotIn (part_disks (hosted_slots old.parts)) disk)
      (p : ArmsF disk after mode old.foreign new.foreign) (same : new.parts ≡ old.parts) (same_members : new.members ≡ old.members) (apart : AreApart old) where
    abbrev then_hosts : HostsParts D
    then_hosts = record { parts = old.parts; members = old.members; foreign = new.foreign }

    abbrev pairs : List (List ℕ × Option D)
    pairs = slots_disks old.parts

    abbrev in_parts : Facts → List ℕ → Facts
    in_parts other name = among (λ (e : List ℕ × Option D). e.0) (λ e. facts_at seen e.1) pairs other name

    abbrev names : List (List ℕ)
    names = part_disks (hosted_slots old.parts)

    past : (other : Facts) (name : List ℕ) → NotIn names name → in_parts other name ≡ other
    past other name n = among_past (λ (e : List ℕ × Option D). e.0) (λ e. facts_at seen e.1) pairs other name
        (subst (λ (l : List (List ℕ)). NotIn l name) (sym (disk_names old.parts)) n)

    zip_refl : (es : List (List ℕ × Option D)) → AllZip (λ (e f : List ℕ × Option D). (f.0 ≡ e.0)
        × (facts_at seen f.1 ≡ facts_at seen e.1)) es es
    zip_refl es = zip_same (λ (e f : List ℕ × Option D). (f.0 ≡ e.0) × (facts_at seen f.1 ≡ facts_at seen e.1))
        (λ e. (refl, refl)) es

    -- a partition's disk stays
    parts_stay : (name : List ℕ) → IsOneOf names name → F then_hosts name ≡ F old name
    parts_stay name one =
        among_zip (λ (e : List ℕ × Option D). e.0) (λ e. facts_at seen e.1) (λ (e : List ℕ × Option D). e.0)
        (λ e. facts_at seen e.1) (λ (a b : Facts). b ≡ a) pairs pairs (zip_refl pairs)
        (foreign_facts seen (foreign_disks old.foreign) name)
        (foreign_facts seen (foreign_disks new.foreign) name) name
        (λ n. absurd (not_both names name (subst (λ (l : List (List ℕ)). NotIn l name) (disk_names old.parts) n) one))

    foreign_was : (name : List ℕ) → NotIn names name → F old name ≡ G p.was name
    foreign_was name n = past (foreign_facts seen (foreign_disks old.foreign) name) name n
        ∙ ap (λ (f : ForeignSlot D). foreign_facts seen (foreign_disks f) name) p.old_is

    foreign_is : (name : List ℕ) → NotIn names name → F then_hosts name ≡ G p.is name
    foreign_is name n = past (foreign_facts seen (foreign_disks new.foreign) name) name n
        ∙ ap (λ (f : ForeignSlot D). foreign_facts seen (foreign_disks f) name) p.new_is

    abbrev Armed_at : List ℕ → Type 0
    Armed_at name = F then_hosts name ≡ (if same_name disk name then with_arm after mode (F old name) else F old name)

    at_name : (name : List ℕ) → NotIn names name
        → G p.is name ≡ (if same_name disk name then with_arm after mode (G p.was name) else G p.was name) → Armed_at name
    at_name name n e = foreign_is name n ∙ e
        ∙ sym (ap (λ (f : Facts). if same_name disk name then with_arm after mode f else f) (foreign_was name n))

    at_part : (name : List ℕ) → IsOneOf names name → Armed_at name
    at_part name one = parts_stay name one
        ∙ sym (ap (λ (t : Bool). if t then with_arm after mode (F old name) else F old name)
        (differs disk name (λ e. not_both names disk no_part (subst (λ (m : List ℕ). IsOneOf names m) (sym e) one))))

    module _ (s : Shards) (k : AreCarried seen old s) where
      was_carried : IsCarried seen p.was s.foreign
      was_carried = subst (λ (f : ForeignSlot D). IsSlot seen f s.foreign) p.old_is k.foreign

      both : BothArmed disk after mode p.was p.is
      both = foreign_armed disk after mode p.was p.is was_carried.told was_carried.second_told p.stays p.either

      at_any : (name : List ℕ) → IsOneOf names name ⊎ IsOneOf (state_a ∷ state_b ∷ []) name → Armed_at name
      at_any name (inl one) = at_part name one
      at_any name (inr (inl e)) = subst Armed_at (sym e) (at_name state_a (not_a_part (hosted_slots old.parts) apart) both.at_first)
      at_any name (inr (inr (inl e))) = subst Armed_at (sym e) (at_name state_b (not_a_part_too (hosted_slots old.parts) apart) both.at_second)
      at_any name (inr (inr (inr never))) = absurd never

      end_same : (name : List ℕ) → foreign_end new.foreign name ≡ foreign_end old.foreign name
      end_same name =
          ap (λ (f : ForeignSlot D). foreign_end f name) p.new_is
          ∙ ap (λ (n : ℕ). cond (same_name name state_a) n 0) p.end
          ∙ sym (ap (λ (f : ForeignSlot D). foreign_end f name) p.old_is)

      pub arms_state : IsArmed seen disk after mode old s new
      arms_state =
          subst (λ (h : HostsParts D). IsArmed seen disk after mode old s h)
          (λ i. record { parts = sym same i; members = sym same_members i; foreign = new.foreign })
          (record {
            carried = record {
              parts = k.parts;
              members = k.members;
              foreign = subst (λ (f : ForeignSlot D). IsSlot seen f s.foreign) (sym p.new_is) (both.carried s.foreign was_carried);
            };
            disks = λ name one. at_any name (one_in_either names (state_a ∷ state_b ∷ []) name one);
            ends = λ name. ap (λ (n : ℕ). among (λ (e : List ℕ × ℕ). e.0) (λ (e : List ℕ × ℕ). e.1) (flat_map slot_ends old.parts) n name) (end_same name);
          })

    either_on : ArmsEither seen disk after mode p.was p.is
        → GoesOn seen p.was.journal.first.disk p.is.journal.first.disk × GoesOn seen p.was.journal.second.disk p.is.journal.second.disk
    either_on (inl (name, a, second)) = (
      arms_go_on after mode p.was.journal.first.disk p.is.journal.first.disk a,
      subst (λ (w : Writer D). GoesOn seen p.was.journal.second.disk w.disk) (sym second) (least_on seen p.was.journal.second.disk),
    )
    either_on (inr (inl (name, a, first))) = (
      subst (λ (w : Writer D). GoesOn seen p.was.journal.first.disk w.disk) (sym first)
          (least_on seen p.was.journal.first.disk),
      arms_go_on after mode p.was.journal.second.disk p.is.journal.second.disk a,
    )
    either_on (inr (inr (not_a, not_b, same))) =
        subst (λ (q : StoreParts D). GoesOn seen p.was.journal.first.disk q.journal.first.disk × GoesOn seen p.was.journal.second.disk q.journal.second.disk) (sym same) (
          least_on seen p.was.journal.first.disk,
          least_on seen p.was.journal.second.disk,
        )

    pub arms_state_stays : AreOpen old → StaysOpen seen old new
    arms_state_stays o = record {
      disks = record {
        parts = subst (λ (l : List (PartSlot D)). AllZip (DiskGoesOn seen) (slots_disks old.parts) (slots_disks l)) (sym same)
            (zip_same (DiskGoesOn seen) (same_goes seen) (slots_disks old.parts));
        foreign =
            subst (λ (f : ForeignSlot D). BothGoOn seen (foreign_disks f) (foreign_disks new.foreign)) (sym p.old_is)
            (subst (λ (f : ForeignSlot D). BothGoOn seen (Some (p.was.journal.first.disk, p.was.journal.second.disk)) (foreign_disks f)) (sym p.new_is) (either_on p.either));
      };
      are_open = record { parts = subst AreOpenParts (sym same) o.parts; foreign = subst IsOpen (sym p.new_is) tt };
      hosted = record { hosted = ap hosted_slots same; topics = ap (λ (m : Memberships). m.topics) same_members };
    }
