-- One slot of a hosted partition that a call changes: what is known of its disks by name, and the machine's step.
use Rattle.std.proofs.Common.{◌≡◌, inl, refl, sym, ap, ◌∙◌, subst, ℕ, ◌+◌, List, [], ◌∷◌, map, Bool, true, false, cond}
use Rattle.std.specs.Prelude.{◌&&◌, ◌||◌}
use Rattle.std.specs.List.{flat_map}
use Rattle.std.specs.declared.option.Option.{Option}
use Rattle.edge_io.specs.declared.name.DiskPlace.{DiskPlace}
use Rattle.edge_io.specs.declared.name.DiskPlace.TheVariants.{Log, StateA, StateB}
use Rattle.edge_io.specs.Causes.{Rose}
use Rattle.edge_io.specs.Disk.{IsTold}
use Rattle.share_model.specs.declared.visit.Then.{Then}
use Rattle.part_log.specs.Logs.{LogParts}
use Rattle.coord_checkpoint.specs.Stores.{StoreParts as JournalParts}
use Rattle.share_part.specs.Deleting.{StepsDelete}
use Rattle.share_part.specs.Expiring.{StepsExpire}
use Rattle.share_part.specs.Failures.{failures_of}
use Rattle.share_part.specs.Shards.{PartShardState, StepsProduce}
use Rattle.share_part.specs.Visits.{StepsVisit}
use Rattle.broker_model.specs.Hosted.{Hosted, HoldsAt, first_of, has_disk, log_of, log_store, part_disks, same_name, second_of, state_store}
use Rattle.broker_model.specs.Shards.{Counts, Ends, PartCall, StepsPart, faults_before, faults_behind, part_calls, reads_log, result_of, rose_at}
use Rattle.broker_model.specs.Shards.PartCall.{Visits, Produces, Looks, Expires, Deletes}
use Rattle.broker_model.specs.Disks.{Facts, IsUsed, OnCalled, facts_of}
use Rattle.broker_hosts.specs.declared.slot.PartSlot.{PartSlot}
use Rattle.broker_hosts.specs.declared.slot.PartState.{PartState}
use Rattle.broker_hosts.specs.declared.slot.PartState.TheVariants as part
use Rattle.broker_model.specs.Acting.{TakesStep}
use Rattle.broker_hosts.specs.Carried.{OpenPart}
use Rattle.broker_core.specs.PartCalls.{Uses, UsesLog, UsesStates, UsesVisit}
use Rattle.broker_hosts.specs.Hosts.{AreDistinct, HostsParts, among, disks_in, ends_in, facts_at, facts_in, foreign_disks, foreign_end, foreign_facts, hosted_slot, hosted_slots, open_disk, open_end, part_disk, part_end, slot_disks, slot_ends, slots_disks}
use Rattle.broker_core.specs.Calls.{counts_in, ends_over}
use Rattle.broker_core.proofs.Flats.{pieces_at}
use Rattle.broker_hosts.proofs.Places.{each_found}
use Rattle.edge_io.specs.Views.{DiskView}

-- ---- names

pub disk_names : {D : Type 0} (slots : List (PartSlot D)) → map (λ e. e.0) (slots_disks slots) ≡ part_disks (hosted_slots slots)
disk_names [] = refl
disk_names (s ∷ slots) =
    ap (λ (l : List (List ℕ)). log_of (hosted_slot s) ∷ first_of (hosted_slot s) ∷ second_of (hosted_slot s) ∷ l) (disk_names slots)

pub end_names : {D : Type 0} (slots : List (PartSlot D)) → map (λ e. e.0) (flat_map slot_ends slots) ≡ part_disks (hosted_slots slots)
end_names [] = refl
end_names (s ∷ slots) =
    ap (λ (l : List (List ℕ)). log_of (hosted_slot s) ∷ first_of (hosted_slot s) ∷ second_of (hosted_slot s) ∷ l) (end_names slots)

-- what stays as it is, counts as used
pub stays_used : (f : Facts) → IsUsed f f
stays_used f = record {
  losses = refl;
  arms = refl;
  spends = record { disarmed = λ none. (none, refl); one_shot = λ one. inl (one, refl) };
}

pub called_same : (b : Bool) (f : Facts) → OnCalled b f f
called_same true f = stays_used f
called_same false f = refl

pair : {A B : Type 0} {a c : A} {b d : B} → a ≡ c → b ≡ d → ◌≡◌ {A = A × B} (a, b) (c, d)
pair e f = λ i. (e i, f i)

sum : {a b c d : ℕ} → a ≡ c → b ≡ d → a + b ≡ c + d
sum e f = λ i. e i + f i

-- ---- three by name

-- what one of the three disks of a partition has, by its name, or else this
abbrev pub three : {A : Type 0} → Hosted → A → A → A → A → List ℕ → A
three h l a b o name = cond (same_name name (log_of h)) l (cond (same_name name (first_of h)) a (cond (same_name name (second_of h)) b o))

on_log : (h : Hosted) (l m a b o : Facts) (name : List ℕ) → IsUsed l m → OnCalled (same_name name (log_of h)) (three h l a b o name) (three h m a b o name)
on_log h l m a b o name used = go (same_name name (log_of h)) where
  go : (p : Bool) → OnCalled p (cond p l (cond (same_name name (first_of h)) a (cond (same_name name (second_of h)) b o)))
      (cond p m (cond (same_name name (first_of h)) a (cond (same_name name (second_of h)) b o)))
  go true = used
  go false = refl

on_states : (h : Hosted) (l a c b d o : Facts) (name : List ℕ) → IsUsed a c → IsUsed b d
    → OnCalled (same_name name (first_of h) || same_name name (second_of h)) (three h l a b o name) (three h l c d o name)
on_states h l a c b d o name used second_used = go (same_name name (log_of h)) (same_name name (first_of h)) (same_name name (second_of h)) where
  go : (p q r : Bool) → OnCalled (q || r) (cond p l (cond q a (cond r b o))) (cond p l (cond q c (cond r d o)))
  go true q r = called_same (q || r) l
  go false true r = used
  go false false true = second_used
  go false false false = refl

on_three : (h : Hosted) (reads : Bool) (l m a c b d o : Facts) (name : List ℕ) → IsUsed a c → IsUsed b d → IsUsed l m → (reads ≡ false → m ≡ l)
    → OnCalled ((reads && same_name name (log_of h)) || (same_name name (first_of h) || same_name name (second_of h)))
    (three h l a b o name) (three h m c d o name)
on_three h reads l m a c b d o name used second_used log_used stays =
    go reads (same_name name (log_of h)) (same_name name (first_of h)) (same_name name (second_of h)) stays
  where
    go : (t p q r : Bool) → (t ≡ false → m ≡ l) → OnCalled ((t && p) || (q || r)) (cond p l (cond q a (cond r b o))) (cond p m (cond q c (cond r d o)))
    go true true q r same = log_used
    go true false true r same = used
    go true false false true same = second_used
    go true false false false same = refl
    go false true q r same = subst (λ (f : Facts). OnCalled (q || r) l f) (sym (same refl)) (called_same (q || r) l)
    go false false true r same = used
    go false false false true same = second_used
    go false false false false same = refl

not_left : (p q : Bool) → (p || q) ≡ false → p ≡ false
not_left true q is = absurd (let bad : true ≡ false = is in cc)
not_left false q is = refl

not_right : (p q : Bool) → (p || q) ≡ false → q ≡ false
not_right true q is = absurd (let bad : true ≡ false = is in cc)
not_right false q is = is

past_log : (h : Hosted) (l m a b o : ℕ) (name : List ℕ) → same_name name (log_of h) ≡ false → three h m a b o name ≡ three h l a b o name
past_log h l m a b o name away = go (same_name name (log_of h)) away where
  go : (p : Bool) → p ≡ false → cond p m (cond (same_name name (first_of h)) a (cond (same_name name (second_of h)) b o))
      ≡ cond p l (cond (same_name name (first_of h)) a (cond (same_name name (second_of h)) b o))
  go true is = absurd (let bad : true ≡ false = is in cc)
  go false is = refl

past_first : (h : Hosted) (l a c b o : ℕ) (name : List ℕ) → same_name name (first_of h) ≡ false → three h l c b o name ≡ three h l a b o name
past_first h l a c b o name away = go (same_name name (log_of h)) (same_name name (first_of h)) away where
  go : (p q : Bool) → q ≡ false → cond p l (cond q c (cond (same_name name (second_of h)) b o)) ≡ cond p l (cond q a (cond (same_name name (second_of h)) b o))
  go true q is = refl
  go false true is = absurd (let bad : true ≡ false = is in cc)
  go false false is = refl

module _ {D : Type 0} (seen : D → DiskView) where
  abbrev facts : D → Facts
  facts disk = facts_of seen disk

  abbrev F : HostsParts D → List ℕ → Facts
  F hosts name = facts_in seen (disks_in hosts) name

  abbrev entry_facts : List ℕ × Option D → Facts
  entry_facts e = facts_at seen e.1

  abbrev pub slot_facts : PartSlot D → DiskPlace → Facts
  slot_facts slot place = facts_at seen (part_disk slot.state place)

  abbrev pub open_facts : OpenPart D → DiskPlace → Facts
  open_facts p place = facts (open_disk p place)

  abbrev All3 : (HostsParts D → List ℕ → Facts) → HostsParts D → PartSlot D → Type 0
  All3 f hosts x = (f hosts (log_of (hosted_slot x)) ≡ slot_facts x Log) × (f hosts (first_of (hosted_slot x)) ≡ slot_facts x StateA)
      × (f hosts (second_of (hosted_slot x)) ≡ slot_facts x StateB)

  -- what is known by the names of a slot's disks
  pub known_at : (hosts : HostsParts D) (n : ℕ) (x : PartSlot D) → HoldsAt n (λ z. z ≡ x) hosts.parts
      → AreDistinct (part_disks (hosted_slots hosts.parts)) → All3 F hosts x
  known_at hosts n x there apart =
      let p = pieces_at slot_disks (λ (e : List ℕ × Option D). among (λ (d : List ℕ × Option D). d.0) entry_facts (slots_disks hosts.parts)
      (foreign_facts seen (foreign_disks hosts.foreign) e.0) e.0 ≡ entry_facts e) n hosts.parts x there
      (each_found (λ (d : List ℕ × Option D). d.0) entry_facts (slots_disks hosts.parts)
      (λ name. foreign_facts seen (foreign_disks hosts.foreign) name)
      (subst AreDistinct (sym (disk_names hosts.parts)) apart)) in
      (p.0, p.1.0, p.1.1.0)

  pub ends_at : (hosts : HostsParts D) (n : ℕ) (x : PartSlot D) → HoldsAt n (λ z. z ≡ x) hosts.parts
      → AreDistinct (part_disks (hosted_slots hosts.parts))
      → (ends_in hosts (log_of (hosted_slot x)) ≡ part_end x.state Log) × (ends_in hosts (first_of (hosted_slot x)) ≡ part_end x.state StateA)
  ends_at hosts n x there apart =
      let p = pieces_at slot_ends (λ (e : List ℕ × ℕ). among (λ (d : List ℕ × ℕ). d.0) (λ (d : List ℕ × ℕ). d.1) (flat_map slot_ends hosts.parts)
      (foreign_end hosts.foreign e.0) e.0 ≡ e.1) n hosts.parts x there
      (each_found (λ (d : List ℕ × ℕ). d.0) (λ (d : List ℕ × ℕ). d.1) (flat_map slot_ends hosts.parts) (λ name. foreign_end hosts.foreign name)
      (subst AreDistinct (sym (end_names hosts.parts)) apart)) in
      (p.0, p.1.0)

  -- ---- what a call uses

  uses_states : (h : Hosted) (was is : OpenPart D) → UsesStates seen was is → (name : List ℕ) (o : Facts)
      → OnCalled (has_disk (state_store h) name) (three h (open_facts was Log) (open_facts was StateA) (open_facts was StateB) o name)
      (three h (open_facts is Log) (open_facts is StateA) (open_facts is StateB) o name)
  uses_states h was is u name o =
      subst (λ (l : LogParts D). OnCalled (has_disk (state_store h) name) (three h (open_facts was Log) (open_facts was StateA) (open_facts was StateB) o name)
      (three h (facts l.journal.disk) (open_facts is StateA) (open_facts is StateB) o name)) (sym u.log)
      (on_states h (open_facts was Log) (open_facts was StateA) (open_facts is StateA) (open_facts was StateB) (open_facts is StateB) o name
      u.used u.second_used)

  uses_log : (h : Hosted) (was is : OpenPart D) → UsesLog seen was is → (name : List ℕ) (o : Facts)
      → OnCalled (same_name name (log_of h)) (three h (open_facts was Log) (open_facts was StateA) (open_facts was StateB) o name)
      (three h (open_facts is Log) (open_facts is StateA) (open_facts is StateB) o name)
  uses_log h was is u name o =
      subst (λ (j : JournalParts D). OnCalled (same_name name (log_of h)) (three h (open_facts was Log) (open_facts was StateA) (open_facts was StateB) o name)
      (three h (open_facts is Log) (facts j.first.disk) (facts j.second.disk) o name)) (sym u.states)
      (on_log h (open_facts was Log) (open_facts is Log) (open_facts was StateA) (open_facts was StateB) o name u.used)

  uses_visit : (h : Hosted) (asked : Then) (was is : OpenPart D) → UsesVisit seen asked was is → (name : List ℕ) (o : Facts)
      → OnCalled ((reads_log asked && has_disk (log_store h) name) || has_disk (state_store h) name)
      (three h (open_facts was Log) (open_facts was StateA) (open_facts was StateB) o name)
      (three h (open_facts is Log) (open_facts is StateA) (open_facts is StateB) o name)
  uses_visit h asked was is u name o =
      on_three h (reads_log asked) (open_facts was Log) (open_facts is Log) (open_facts was StateA) (open_facts is StateA)
      (open_facts was StateB) (open_facts is StateB) o name u.used u.second_used u.log_used
      (λ no. ap (λ (l : LogParts D). facts l.journal.disk) (u.log no))

  open_used : (h : Hosted) (was is : OpenPart D) (did : PartCall) → Uses seen was is did → (name : List ℕ) (o : Facts)
      → OnCalled (part_calls h did name) (three h (open_facts was Log) (open_facts was StateA) (open_facts was StateB) o name)
      (three h (open_facts is Log) (open_facts is StateA) (open_facts is StateB) o name)
  open_used h was is (Visits visit answer unread) u name o = uses_visit h visit.then was is u name o
  open_used h was is (Produces batch produced) u name o = uses_log h was is u name o
  open_used h was is (Looks group looked) u name o =
      ap (λ (p : OpenPart D). three h (open_facts p Log) (open_facts p StateA) (open_facts p StateB) o name) u
  open_used h was is (Expires answer) u name o = uses_states h was is u name o
  open_used h was is (Deletes to answer) u name o = uses_log h was is u name o

  ends_states : (h : Hosted) (was is : OpenPart D) → UsesStates seen was is → (name : List ℕ) (o : ℕ) → has_disk (state_store h) name ≡ false
      → three h (open_end is Log) (open_end is StateA) (open_end is StateB) o name ≡ three h (open_end was Log) (open_end was StateA) (open_end was StateB) o name
  ends_states h was is u name o away =
      ap (λ (l : LogParts D). three h l.journal.end (open_end is StateA) 0 o name) u.log
      ∙ past_first h (open_end was Log) (open_end was StateA) (open_end is StateA) 0 o name
      (not_left (same_name name (first_of h)) (same_name name (second_of h)) away)

  ends_visit : (h : Hosted) (asked : Then) (was is : OpenPart D) → UsesVisit seen asked was is → (name : List ℕ) (o : ℕ)
      → has_disk (state_store h) name ≡ false
      → three h (open_end is Log) (open_end is StateA) (open_end is StateB) o name ≡ three h (open_end was Log) (open_end was StateA) (open_end was StateB) o name
  ends_visit h asked was is u name o away =
      ap (λ (e : ℕ). three h e (open_end is StateA) 0 o name) u.log_end
      ∙ past_first h (open_end was Log) (open_end was StateA) (open_end is StateA) 0 o name
      (not_left (same_name name (first_of h)) (same_name name (second_of h)) away)

  ends_log : (h : Hosted) (was is : OpenPart D) → UsesLog seen was is → (name : List ℕ) (o : ℕ) → same_name name (log_of h) ≡ false
      → three h (open_end is Log) (open_end is StateA) (open_end is StateB) o name ≡ three h (open_end was Log) (open_end was StateA) (open_end was StateB) o name
  ends_log h was is u name o away =
      ap (λ (j : JournalParts D). three h (open_end is Log) j.end 0 o name) u.states
      ∙ past_log h (open_end was Log) (open_end is Log) (open_end was StateA) 0 o name away

  open_ends : (h : Hosted) (was is : OpenPart D) (did : PartCall) → Uses seen was is did → (name : List ℕ) (o : ℕ)
      → part_calls h did name ≡ false
      → three h (open_end is Log) (open_end is StateA) (open_end is StateB) o name ≡ three h (open_end was Log) (open_end was StateA) (open_end was StateB) o name
  open_ends h was is (Visits visit answer unread) u name o away = ends_visit h visit.then was is u name o
      (not_right (reads_log visit.then && has_disk (log_store h) name) (has_disk (state_store h) name) away)
  open_ends h was is (Produces batch produced) u name o away = ends_log h was is u name o away
  open_ends h was is (Looks group looked) u name o away =
      ap (λ (p : OpenPart D). three h (open_end p Log) (open_end p StateA) (open_end p StateB) o name) u
  open_ends h was is (Expires answer) u name o away = ends_states h was is u name o away
  open_ends h was is (Deletes to answer) u name o away = ends_log h was is u name o away

  -- ---- one slot

  -- a slot of one partition before and after, both open
  pub record Turns (x y : PartSlot D) (was is : OpenPart D) : Type 0 where
    pub old_is : x.state ≡ part.Open was
    pub new_is : y.state ≡ part.Open is
    pub hosted : hosted_slot y ≡ hosted_slot x

  abbrev Found : PartSlot D → Facts → List ℕ → Facts
  Found x o name = among (λ (d : List ℕ × Option D). d.0) entry_facts (slot_disks x) o name

  abbrev End : PartSlot D → ℕ → List ℕ → ℕ
  End x o name = among (λ (d : List ℕ × ℕ). d.0) (λ (d : List ℕ × ℕ). d.1) (slot_ends x) o name

  -- what is found of an open slot
  abbrev Of : Hosted → PartState D → Facts → List ℕ → Facts
  Of h state o name = three h (facts_at seen (part_disk state Log)) (facts_at seen (part_disk state StateA))
      (facts_at seen (part_disk state StateB)) o name

  abbrev EndOf : Hosted → PartState D → ℕ → List ℕ → ℕ
  EndOf h state o name = three h (part_end state Log) (part_end state StateA) (part_end state StateB) o name

  pub slot_used : (x y : PartSlot D) (was is : OpenPart D) (did : PartCall) → Turns x y was is → Uses seen was is did
      → (name : List ℕ) (o : Facts) → OnCalled (part_calls (hosted_slot x) did name) (Found x o name) (Found y o name)
  slot_used x y was is did t u name o =
      subst (λ (h : Hosted). OnCalled (part_calls (hosted_slot x) did name) (Found x o name) (Of h y.state o name)) (sym t.hosted)
      (subst (λ (s : PartState D). OnCalled (part_calls (hosted_slot x) did name) (Of (hosted_slot x) s o name) (Of (hosted_slot x) y.state o name)) (sym t.old_is)
      (subst (λ (s : PartState D). OnCalled (part_calls (hosted_slot x) did name) (Of (hosted_slot x) (part.Open was) o name) (Of (hosted_slot x) s o name)) (sym t.new_is)
      (open_used (hosted_slot x) was is did u name o)))

  pub slot_end_stays : (x y : PartSlot D) (was is : OpenPart D) (did : PartCall) → Turns x y was is → Uses seen was is did
      → (name : List ℕ) (o : ℕ) → part_calls (hosted_slot x) did name ≡ false → End y o name ≡ End x o name
  slot_end_stays x y was is did t u name o away =
      subst (λ (h : Hosted). EndOf h y.state o name ≡ End x o name) (sym t.hosted)
      (subst (λ (s : PartState D). EndOf (hosted_slot x) y.state o name ≡ EndOf (hosted_slot x) s o name) (sym t.old_is)
      (subst (λ (s : PartState D). EndOf (hosted_slot x) s o name ≡ EndOf (hosted_slot x) (part.Open was) o name) (sym t.new_is)
      (open_ends (hosted_slot x) was is did u name o away)))

  -- ---- steps by name

  -- counts and ends by name are those of the shard's own disks
  pub record AreOf (h : Hosted) (was is : OpenPart D) (counts : Counts) (ends : Ends) : Type 0 where
    pub log : counts (log_of h) ≡ ((seen was.log.journal.disk).faults, (seen is.log.journal.disk).faults)
    pub before : faults_before counts (state_store h) ≡ failures_of seen was.states
    pub behind : faults_behind counts (state_store h) ≡ failures_of seen is.states
    pub log_end : ends (log_of h) ≡ (was.log.journal.end, is.log.journal.end)
    pub first_end : ends (first_of h) ≡ (was.states.journal.end, is.states.journal.end)

  pub step_named : (h : Hosted) (was is : OpenPart D) (counts : Counts) (ends : Ends) → AreOf h was is counts ends
      → IsTold (seen was.log.journal.disk).content → (now : ℕ) (old : PartShardState)
      (did : PartCall) (new : PartShardState) → TakesStep seen h.conf was is now old did new → StepsPart true counts ends now h old did new
  step_named h was is counts ends a told now old (Visits visit answer unread) new step =
      subst (λ (n : ℕ). StepsVisit h.conf (record { told = true; rose = rose_at counts (log_of h); failed = unread })
      n (faults_behind counts (state_store h)) (ends (first_of h)).0 (ends (first_of h)).1 old now visit answer new) (sym a.before)
      (subst (λ (n : ℕ). StepsVisit h.conf (record { told = true; rose = rose_at counts (log_of h); failed = unread })
      (failures_of seen was.states) n (ends (first_of h)).0 (ends (first_of h)).1 old now visit answer new) (sym a.behind)
      (subst (λ (c : ℕ × ℕ). StepsVisit h.conf (record { told = true; rose = Rose c.0 c.1; failed = unread })
      (failures_of seen was.states) (failures_of seen is.states) (ends (first_of h)).0 (ends (first_of h)).1 old now visit answer new) (sym a.log)
      (subst (λ (e : ℕ × ℕ). StepsVisit h.conf
      (record { told = true; rose = Rose (seen was.log.journal.disk).faults (seen is.log.journal.disk).faults; failed = unread })
      (failures_of seen was.states) (failures_of seen is.states) e.0 e.1 old now visit answer new) (sym a.first_end)
      (subst (λ (t : Bool). StepsVisit h.conf
      (record { told = t; rose = Rose (seen was.log.journal.disk).faults (seen is.log.journal.disk).faults; failed = unread })
      (failures_of seen was.states) (failures_of seen is.states) was.states.journal.end is.states.journal.end
      old now visit answer new) told step))))
  step_named h was is counts ends a told now old (Produces batch produced) new step =
      subst (λ (c : ℕ × ℕ). StepsProduce (Rose c.0 c.1) (ends (log_of h)).0 old now batch (result_of produced) new) (sym a.log)
      (subst (λ (e : ℕ × ℕ). StepsProduce (Rose (seen was.log.journal.disk).faults (seen is.log.journal.disk).faults) e.0 old now batch (result_of produced) new)
      (sym a.log_end) step)
  step_named h was is counts ends a told now old (Looks group looked) new step = step
  step_named h was is counts ends a told now old (Expires answer) new step =
      subst (λ (n : ℕ). StepsExpire h.conf n (faults_behind counts (state_store h)) (ends (first_of h)).0 (ends (first_of h)).1 old now answer new) (sym a.before)
      (subst (λ (n : ℕ). StepsExpire h.conf (failures_of seen was.states) n (ends (first_of h)).0 (ends (first_of h)).1 old now answer new) (sym a.behind)
      (subst (λ (e : ℕ × ℕ). StepsExpire h.conf (failures_of seen was.states) (failures_of seen is.states) e.0 e.1 old now answer new) (sym a.first_end) step))
  step_named h was is counts ends a told now old (Deletes to answer) new step =
      subst (λ (c : ℕ × ℕ). StepsDelete (Rose c.0 c.1) (ends (log_of h)).0 old now to answer new) (sym a.log)
      (subst (λ (e : ℕ × ℕ). StepsDelete (Rose (seen was.log.journal.disk).faults (seen is.log.journal.disk).faults) e.0 old now to answer new)
      (sym a.log_end) step)

  -- the counts and ends of two hosts of which one slot changed
  pub are_of : (old new : HostsParts D) (n : ℕ) (x y : PartSlot D) (was is : OpenPart D) → HoldsAt n (λ z. z ≡ x) old.parts → HoldsAt n (λ z. z ≡ y) new.parts
      → Turns x y was is → AreDistinct (part_disks (hosted_slots old.parts)) → AreDistinct (part_disks (hosted_slots new.parts))
      → AreOf (hosted_slot x) was is (counts_in seen (disks_in old) (disks_in new)) (ends_over old new)
  are_of old new n x y was is there here t apart apart_then =
      let a = known_at old n x there apart in
      let b = subst (λ (h : Hosted). (F new (log_of h) ≡ slot_facts y Log) × (F new (first_of h) ≡ slot_facts y StateA)
      × (F new (second_of h) ≡ slot_facts y StateB)) t.hosted (known_at new n y here apart_then) in
      let e = ends_at old n x there apart in
      let f = subst (λ (h : Hosted). (ends_in new (log_of h) ≡ part_end y.state Log) × (ends_in new (first_of h) ≡ part_end y.state StateA)) t.hosted
      (ends_at new n y here apart_then) in
      let end_old : (place : DiskPlace) → part_end x.state place ≡ open_end was place = λ place. ap (λ (s : PartState D). part_end s place) t.old_is in
      let end_new : (place : DiskPlace) → part_end y.state place ≡ open_end is place = λ place. ap (λ (s : PartState D). part_end s place) t.new_is in
      let on_old : (place : DiskPlace) → slot_facts x place ≡ open_facts was place = λ place. ap (λ (s : PartState D). facts_at seen (part_disk s place)) t.old_is in
      let on_new : (place : DiskPlace) → slot_facts y place ≡ open_facts is place = λ place. ap (λ (s : PartState D). facts_at seen (part_disk s place)) t.new_is in
      record {
        log = pair (ap (λ (f : Facts). f.faults) (a.0 ∙ on_old Log)) (ap (λ (f : Facts). f.faults) (b.0 ∙ on_new Log));
        before = sum (ap (λ (f : Facts). f.faults) (a.1 ∙ on_old StateA)) (ap (λ (f : Facts). f.faults) (a.2 ∙ on_old StateB));
        behind = sum (ap (λ (f : Facts). f.faults) (b.1 ∙ on_new StateA)) (ap (λ (f : Facts). f.faults) (b.2 ∙ on_new StateB));
        log_end = pair (e.0 ∙ end_old Log) (f.0 ∙ end_new Log);
        first_end = pair (e.1 ∙ end_old StateA) (f.1 ∙ end_new StateA);
      }
