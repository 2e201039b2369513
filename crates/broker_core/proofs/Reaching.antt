-- How far the images of the logs' disks reach, and that no log's journal ends before where it did.
use Rattle.std.proofs.Common.{◌≡◌, ◌≤◌, ◌-◌, ◌∙◌, arith, inl, inr, refl, ap, sym, subst, ℕ, List, [], ◌∷◌, ◌++◌, length, length-append, Bool, cond, Some, None}
use Rattle.std.specs.List.{AllZip, flat_map}
use Rattle.std.specs.declared.option.Option.{Option}
use Rattle.edge_io.specs.declared.name.DiskPlace.TheVariants.{Log, StateA, StateB}
use Rattle.gate_journal.specs.Frames.{IsWithPending, StandsAs, StandsFor, behind_gate, blocks}
use Rattle.gate_journal.specs.Journals.{Stands}
use Rattle.gate_journal.specs.declared.writer.Writer.{Writer}
use Rattle.gate_journal.proofs.Once.{once}
use Rattle.gate_journal.proofs.Shapes.{blocks_push}
use Rattle.share_part.specs.Shards.{Carries, PartShardState}
use Rattle.part_log.proofs.Ending.{end_of_stands}
use Rattle.share_part.proofs.Reaching.{log_long, long}
use Rattle.broker_model.specs.Hosted.{Hosted, IsLogName, first_of, log_of, second_of, state_a}
use Rattle.broker_model.specs.Shards.{HostedPart, Shards}
use Rattle.broker_model.proofs.Names.{first_not, second_not, state_a_not}
use Rattle.broker_hosts.specs.declared.slot.ForeignSlot.{ForeignSlot}
use Rattle.broker_hosts.specs.declared.slot.ForeignSlot.TheVariants as foreign
use Rattle.broker_hosts.specs.declared.slot.PartState.{PartState}
use Rattle.broker_hosts.specs.declared.slot.PartState.TheVariants as part
use Rattle.broker_hosts.specs.declared.slot.PartSlot.{PartSlot}
use Rattle.broker_hosts.specs.Carried.{OpenPart}
use Rattle.broker_shards.specs.Hosts.{holding}
use Rattle.broker_hosts.specs.Hosts.{AreCarried, HostsParts, IsPartSlot, IsPartState, LeftDisks, LogsReach, ReachesTo, disk_in, disks_in, ends_in, foreign_disk, foreign_disks, foreign_end, hosted_slot, part_disk, part_end, slot_disks, slot_ends, slots_disks}
use Rattle.broker_core.specs.Calls.{LogsLater}
use Rattle.broker_core.proofs.Flats.{zip_flat}
use Rattle.broker_hosts.proofs.Places.{among_zip_where, differs}
use Rattle.edge_io.specs.Views.{DiskView}

-- ---- contents

-- a content that stands for frames has them
stands_long : (c : List ℕ) (frames : List (List ℕ)) → StandsFor c frames → length (blocks frames) ≤ length c
stands_long c frames (inl p) = let none : length (blocks frames) ≡ 0 = ap (λ (fs : List (List ℕ)). length (blocks fs)) p.1 in omega (arith, none)
stands_long c frames (inr p) = omega (arith, ap length p.3, length-append (blocks frames) (p.0 ∷ p.1))

more_long : (frames : List (List ℕ)) (frame : List ℕ) → length (blocks frames) ≤ length (blocks (frames ++ frame ∷ []))
more_long frames frame = omega (
  arith,
  ap length (blocks_push frames frame []),
  length-append (blocks (frames ++ frame ∷ [])) [],
  length-append (blocks frames) (1 ∷ (behind_gate frame ++ [])),
)

-- what it stands for takes no less than the frames without the pending one
pending_long : (frames : List (List ℕ)) (pending : Option (List ℕ)) (c : List ℕ) → IsWithPending frames pending c
    → (read : List (List ℕ)) × StandsFor c read × (length (blocks frames) ≤ length (blocks read))
pending_long frames None c h = (frames, h, omega arith)
pending_long frames (Some frame) c (inl h) = (frames, h, omega arith)
pending_long frames (Some frame) c (inr h) = (frames ++ frame ∷ [], h, more_long frames frame)

module _ {D : Type 0} (seen : D → DiskView) where
  pub fewer : (d : Option D) (n : ℕ) → ReachesTo seen d n → ReachesTo seen d (n - 1)
  fewer (Some d) n r = λ c on. let l = r c on in omega (arith, l)
  fewer None n r = tt

  reaches_none : (d : Option D) (n : ℕ) → n ≡ 0 → ReachesTo seen d n
  reaches_none (Some d) n none = λ c on. omega (arith, none)
  reaches_none None n none = tt

  -- ---- journals

  -- what an opening makes of one reaches to its last gate
  writer_left : (writer : Writer D) (frames : List (List ℕ)) (pending : Option (List ℕ)) → Stands seen writer frames pending → (x : List ℕ)
      → StandsAs (seen writer.disk).image x → writer.end - 1 ≤ length x
  writer_left writer frames pending s x (c, on, inl same) = omega (arith, long seen writer frames pending s c on, ap length same)
  writer_left writer frames pending s x (c, on, inr f) =
      let p = pending_long frames pending c (s.images c on) in
      omega (
        arith,
        end_of_stands seen writer frames pending s,
        p.2,
        ap (λ (fs : List (List ℕ)). length (blocks fs)) (once c p.0 f.0 p.1 f.1),
        stands_long x f.0 f.2,
      )

  -- ---- partitions

  log_left : (p : OpenPart D) (s : PartShardState) → Carries seen holding p s → (log : D)
      → ((c : List ℕ) → (seen log).image c → StandsAs (seen p.log.journal.disk).image c) → (c : List ℕ) → (seen log).image c
      → p.log.journal.end - 1 ≤ length c
  log_left p s k log images c on = writer_left p.log.journal _ _ k.log.keeps.stands c (images c on)

  -- ---- by the names

  -- the disks of the one slot that have logs reach to this of the ends of the other
  abbrev pub SlotReaches : (ℕ → ℕ) → PartSlot D → PartSlot D → Type 0
  SlotReaches least x y = AllZip (λ (e : List ℕ × ℕ) (f : List ℕ × Option D). (f.0 ≡ e.0) × (IsLogName e.0 → ReachesTo seen f.1 (least e.1)))
      (slot_ends x) (slot_disks y)

  -- it was open, and its disks are in this state
  was_reaches : (least : ℕ → ℕ) (x y : PartSlot D) (was : OpenPart D) (state : PartState D) → hosted_slot y ≡ hosted_slot x → x.state ≡ part.Open was
      → y.state ≡ state → ReachesTo seen (part_disk state Log) (least was.log.journal.end) → SlotReaches least x y
  was_reaches least x y was state same old_is new_is r = (
    (ap (λ (h : Hosted). log_of h) same, λ is. log_reaches),
    (
      (ap (λ (h : Hosted). first_of h) same, λ is. absurd (first_not (hosted_slot x) is)),
      ((ap (λ (h : Hosted). second_of h) same, λ is. absurd (second_not (hosted_slot x) is)), tt),
    ),
  )
    where
      log_reaches : ReachesTo seen (part_disk y.state Log) (least (part_end x.state Log))
      log_reaches =
          subst (λ (s : PartState D). ReachesTo seen (part_disk s Log) (least (part_end x.state Log))) (sym new_is)
          (subst (λ (s : PartState D). ReachesTo seen (part_disk state Log) (least (part_end s Log))) (sym old_is) r)

  pub open_reaches : (x : PartSlot D) (is : OpenPart D) (s : PartShardState) → x.state ≡ part.Open is → Carries seen holding is s → SlotReaches (λ n. n) x x
  open_reaches x is s state_is k = was_reaches (λ n. n) x x is (part.Open is) refl state_is state_is (log_long seen holding is s k)

  pub shut_reaches : (x y : PartSlot D) (was : OpenPart D) (s : PartShardState) (log first second : D) → hosted_slot y ≡ hosted_slot x → x.state ≡ part.Open was
      → y.state ≡ part.Shut log first second → Carries seen holding was s
      → ((c : List ℕ) → (seen log).image c → StandsAs (seen was.log.journal.disk).image c) → SlotReaches (λ n. n - 1) x y
  shut_reaches x y was s log first second same old_is new_is k i =
      was_reaches (λ n. n - 1) x y was (part.Shut log first second) same old_is new_is (log_left was s k log i)

  pub again_reaches : (x y : PartSlot D) (was is : OpenPart D) (s : PartShardState) → hosted_slot y ≡ hosted_slot x → x.state ≡ part.Open was
      → y.state ≡ part.Open is → Carries seen holding was s
      → ((c : List ℕ) → (seen is.log.journal.disk).image c → StandsAs (seen was.log.journal.disk).image c) → SlotReaches (λ n. n - 1) x y
  again_reaches x y was is s same old_is new_is k i =
      was_reaches (λ n. n - 1) x y was (part.Open is) same old_is new_is (log_left was s k is.log.journal.disk i)

  pub reaches_less : (x y : PartSlot D) → SlotReaches (λ n. n) x y → SlotReaches (λ n. n - 1) x y
  reaches_less x y r = (
    (r.0.0, λ is. fewer (part_disk y.state Log) (part_end x.state Log) (r.0.1 is)),
    (
      (r.1.0.0, λ is. fewer (part_disk y.state StateA) (part_end x.state StateA) (r.1.0.1 is)),
      ((r.1.1.0.0, λ is. fewer (part_disk y.state StateB) (part_end x.state StateB) (r.1.1.0.1 is)), tt),
    ),
  )

  -- foreign state has no log
  pub no_end : (slot : ForeignSlot D) (name : List ℕ) → IsLogName name → foreign_end slot name ≡ 0
  no_end (foreign.Open store) name is = ap (λ (b : Bool). cond b store.journal.end 0)
      (differs name state_a (λ e. state_a_not (subst IsLogName e is)))
  no_end (foreign.Shut first second) name is = refl
  no_end foreign.Gone name is = refl

  -- what is found by a name
  pub names_reach : (least : ℕ → ℕ) → least 0 ≡ 0 → (old new : HostsParts D) → AllZip (SlotReaches least) old.parts new.parts
      → LogsReach seen (disks_in new) (λ name. least (ends_in old name))
  names_reach least none old new z name is =
      among_zip_where (λ (e : List ℕ × ℕ). e.0) (λ (e : List ℕ × ℕ). e.1) IsLogName (λ (e : List ℕ × Option D). e.0) (λ (e : List ℕ × Option D). e.1)
      (λ (n : ℕ) (d : Option D). ReachesTo seen d (least n)) (flat_map slot_ends old.parts) (slots_disks new.parts)
      (zip_flat (SlotReaches least)
      (λ (e : List ℕ × ℕ) (f : List ℕ × Option D). (f.0 ≡ e.0) × (IsLogName e.0 → ReachesTo seen f.1 (least e.1))) slot_ends slot_disks
      (λ x y w. w) old.parts new.parts z) (foreign_end old.foreign name) (foreign_disk (foreign_disks new.foreign) name) name is
      (λ away. reaches_none (foreign_disk (foreign_disks new.foreign) name) (least (foreign_end old.foreign name))
      (ap least (no_end old.foreign name is) ∙ none))

  -- what reaches to its ends reaches to the last gates
  pub reach_less : (left : LeftDisks D) (ends : List ℕ → ℕ) → LogsReach seen left ends → LogsReach seen left (λ name. ends name - 1)
  reach_less left ends r name is = fewer (disk_in left name) (ends name) (r name is)

  -- ---- ends that never fall

  abbrev pub SlotLater : PartSlot D → PartSlot D → Type 0
  SlotLater x y = AllZip (λ (e f : List ℕ × ℕ). (f.0 ≡ e.0) × (IsLogName e.0 → e.1 ≤ f.1)) (slot_ends x) (slot_ends y)

  least_is : (n : ℕ) → n ≤ n
  least_is n = omega arith

  pub same_later : (x : PartSlot D) → SlotLater x x
  same_later x = (
    (refl, λ is. least_is (part_end x.state Log)),
    ((refl, λ is. least_is (part_end x.state StateA)), ((refl, λ is. least_is (part_end x.state StateB)), tt)),
  )

  pub slot_later : (x y : PartSlot D) (was is : OpenPart D) → x.state ≡ part.Open was → y.state ≡ part.Open is → hosted_slot y ≡ hosted_slot x
      → was.log.journal.end ≤ is.log.journal.end → SlotLater x y
  slot_later x y was is old_is new_is same l = (
    (ap (λ (h : Hosted). log_of h) same, λ its. log_later),
    (
      (ap (λ (h : Hosted). first_of h) same, λ its. absurd (first_not (hosted_slot x) its)),
      ((ap (λ (h : Hosted). second_of h) same, λ its. absurd (second_not (hosted_slot x) its)), tt),
    ),
  )
    where
      log_later : part_end x.state Log ≤ part_end y.state Log
      log_later =
          subst (λ (s : PartState D). part_end s Log ≤ part_end y.state Log) (sym old_is)
          (subst (λ (s : PartState D). was.log.journal.end ≤ part_end s Log) (sym new_is) l)

  pub names_later : (old new : HostsParts D) → AllZip SlotLater old.parts new.parts → LogsLater (ends_in old) (ends_in new)
  names_later old new z name is =
      among_zip_where (λ (e : List ℕ × ℕ). e.0) (λ (e : List ℕ × ℕ). e.1) IsLogName (λ (e : List ℕ × ℕ). e.0) (λ (e : List ℕ × ℕ). e.1)
      (λ (m n : ℕ). m ≤ n) (flat_map slot_ends old.parts) (flat_map slot_ends new.parts)
      (zip_flat SlotLater (λ (e f : List ℕ × ℕ). (f.0 ≡ e.0) × (IsLogName e.0 → e.1 ≤ f.1)) slot_ends slot_ends (λ x y w. w) old.parts new.parts z)
      (foreign_end old.foreign name) (foreign_end new.foreign name) name is
      (λ away. omega (arith, no_end old.foreign name is, no_end new.foreign name is))

-- ---- shards that are carried

module _ {D : Type 0} (seen : D → DiskView) where
  pub slot_reaches : (x : PartSlot D) (p : HostedPart) → IsPartSlot seen x p → SlotReaches seen (λ n. n) x x
  slot_reaches x p k = go x.state refl k.state where
    go : (state : PartState D) → x.state ≡ state → IsPartState seen x.conf state p.shard → SlotReaches seen (λ n. n) x x
    go (part.Open is) e i = open_reaches seen x is p.shard e i.carries
    go (part.Shut log first second) e i = absurd i
    go part.Gone e i = absurd i

  pub slots_reach : (P : PartSlot D → HostedPart → Type 0) → ((x : PartSlot D) (p : HostedPart) → P x p → SlotReaches seen (λ n. n) x x)
      → (xs : List (PartSlot D)) (ps : List HostedPart) → AllZip P xs ps → AllZip (SlotReaches seen (λ n. n)) xs xs
  slots_reach P f [] [] z = tt
  slots_reach P f [] (p ∷ ps) z = absurd z
  slots_reach P f (x ∷ xs) [] z = absurd z
  slots_reach P f (x ∷ xs) (p ∷ ps) z = (f x p z.0, slots_reach P f xs ps z.1)

  -- what a crash may leave of the logs' disks reaches to where their journals end
  pub reach_all : (hosts : HostsParts D) (s : Shards) → AreCarried seen hosts s → LogsReach seen (disks_in hosts) (ends_in hosts)
  reach_all hosts s k = names_reach seen (λ n. n) refl hosts hosts (slots_reach (IsPartSlot seen) slot_reaches hosts.parts s.parts k.parts)
