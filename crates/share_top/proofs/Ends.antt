-- A session over a bay: what its replay says of the broker's disks is said of those of the bay.
use Rattle.std.proofs.Common.{◌≡◌, ◌≤◌, ◌<◌, ◌+◌, ◌-◌, ◌++◌, length, map, ◌⊎◌, inl, inr, refl, sym, ap, ◌∙◌, subst, ℕ, zero, suc, List, [], ◌∷◌, All, Bool, true, false, Some, None, is_some, if◌then◌else◌, arith}
use Rattle.std.proofs.lemmas.Bool.{cases_Bool}
use Rattle.std.specs.List.{AllByRecursion, AllZip}
use Rattle.std.proofs.lemmas.List.Concat.{flat_map-append}
use Rattle.std.specs.declared.option.Option.{Option}
use Rattle.edge_io.specs.declared.name.DiskPlace.{DiskPlace}
use Rattle.edge_io.specs.declared.name.DiskPlace.TheVariants.{Log, StateA, StateB}
use Rattle.edge_io.specs.Bays.{IsSound}
use Rattle.edge_io.specs.Disk.{IsTold}
use Rattle.edge_io.specs.Names.{IsDiskName, hosted_name}
use Rattle.session_script.specs.declared.event.Event.{Event}
use Rattle.session_script.specs.declared.event.Outcome.{Outcome}
use Rattle.session_script.specs.Output.{malformed_line}
use Rattle.topic_conf.specs.declared.topic.Topic.{Topic}
use Rattle.topic_conf.specs.Topics.{IsTopicList}
use Rattle.topic_conf.specs.Configs.{ConfigParts}
use Rattle.topic_conf.proofs.Lists.{have_disks}
use Rattle.broker_model.specs.Hosted.{IsLogName, IsOneOf, IsTaken, disks_of, first_of, hosted_from, hosted_in, hosted_of, log_of, part_disks, same_name, second_of, state_a, state_b}
use Rattle.broker_model.specs.Shards.{Shards, HostedPart, hosted_by}
use Rattle.broker_model.specs.Machine.{Machine, StandWith, StandsFor, StandsForPart}
use Rattle.broker_model.specs.Disks.{Facts, Disks, facts_of}
use Rattle.broker_model.specs.States.{ReachTo, State}
use Rattle.broker_hosts.specs.declared.fault.CoreOpen.{CoreOpen}
use Rattle.broker_hosts.specs.declared.fault.CoreOpen.TheVariants as open_fault
use Rattle.broker_hosts.specs.declared.slot.PartSlot.{PartSlot}
use Rattle.broker_hosts.specs.Bays.{IsOfDevice, StaysAs, TellsDisks, TellsStill, IsFirst, ArePutBack, HoldsIf, BothHold, HasName}
use Rattle.broker_hosts.specs.Hosts.{LeftDisks, LogsReach, IsPartSlot, StandStill, ForeignStill, PartStill, PartsStill, ReachesTo, among, disk_in, disks_in, facts_at, facts_in, facts_among, foreign_disk, foreign_facts, hosted_slot, hosted_slots, slots_disks}
use Rattle.broker_core.specs.Calls.{GoOn, DiskGoesOn}
use Rattle.broker_core.specs.Cores.{CoreParts, IsCore, state_of}
use Rattle.broker_hosts.specs.Openings.{IsDamagedDisk, IsOpenedDisk}
use Rattle.broker_hosts.proofs.Opening.{is_told}
use Rattle.broker_hosts.proofs.Places.{is_same, one_in_either, same_self}
use Rattle.share_top.specs.declared.status.Status.{Status}
use Rattle.share_top.specs.declared.status.Status.TheVariants.{Done, Usage, Malformed, ReadFault, WriteFault, Damaged, Device, NoMemory, Listener, Spawner, Lost, Refused, Strange}
use Rattle.share_top.specs.Changes.{InputChange, OutputChange, bay_change}
use Rattle.share_top.specs.Sessions.{Ending, Leaves, MayLeaveMore, Ran, IsSession, OfBay, OverBay, CountRose, Writes, WritesAll, WritesAllFront, WritesThen, WritesThenFront, WritesFront}
use Rattle.share_top.specs.Dumping.{IsDumped, dump_text}
use Rattle.share_top.specs.Statuses.{ComesNext, DisksStay, IsPlayed, IsNotOpened, IsRefusedScript, IsDone, IsBegun}
use Rattle.share_top.specs.Going.{FromCore, NeverFrom, IsRefusal}
use Rattle.edge_io.specs.Views.{DiskView, BayView}

-- ---- how a run may end

-- it says of one value of shards that the disks stand for it, and of one value of ends that they reach to it, and says the same of what
-- follows from that
pub record IsEnding (Ends : Ending) : Type 1 where
  pub some : (S : Shards → Type 0) (Q : (List ℕ → ℕ) → Type 0) (now : Disks) (last : State) → Ends S Q now last → (shards : Shards) × S shards
  pub along : (S T : Shards → Type 0) (Q R : (List ℕ → ℕ) → Type 0) (now : Disks) (last : State) → ((shards : Shards) → S shards → T shards)
      → ((ends : List ℕ → ℕ) → Q ends → R ends) → Ends S Q now last → Ends T R now last

pub leaves_ends : (conf : ConfigParts) → IsEnding (Leaves conf)
leaves_ends conf = record {
  some = λ S Q now last l. (last.machine.shards, l.stands);
  along = λ S T Q R now last f g l. record { known = l.known; stands = f last.machine.shards l.stands; reach = g last.ends l.reach };
}

pub more_ends : (conf : ConfigParts) (Next : Event → Type 0) → IsEnding (MayLeaveMore conf Next)
more_ends conf Next = record {
  some = λ S Q now last l. (l.after.shards, l.stands);
  along = λ S T Q R now last f g l. record {
    after = l.after;
    ends = l.ends;
    reaches = l.reaches;
    later = l.later;
    ends_later = l.ends_later;
    stands = f l.after.shards l.stands;
    reach = g (λ name. l.ends name - 1) l.reach;
  };
}

-- ---- a table of one kind of sessions gives that of another

module _ (conf : ConfigParts) (summary : Bool) (input : InputChange) (output : OutputChange)
    (S T : List Event → (List Outcome → Type 0) → Ending → Type 0) (Untold Never Rises Rose_over : Type 0)
    (leaves : (events : List Event) (Tells : List Outcome → Type 0) → S events Tells (Leaves conf) → T events Tells (Leaves conf))
    (more : (Next : Event → Type 0) (events : List Event) (Tells : List Outcome → Type 0) → S events Tells (MayLeaveMore conf Next) → T events Tells (MayLeaveMore conf Next))
    (never : Untold → Never) (rises : Rises → Rose_over) where
  abbrev Front : List Outcome → Type 0
  Front xs = WritesFront conf summary output xs

  begun : IsBegun input (λ events. S events Front (MayLeaveMore conf (ComesNext input events)))
      → IsBegun input (λ events. T events Front (MayLeaveMore conf (ComesNext input events)))
  begun b = record { events = b.events; begins = b.begins; session = more (ComesNext input b.events) b.events Front b.session }

  refused : (Tells : ℕ → List Outcome → Type 0) → IsRefusedScript input (λ events fault. S events (Tells fault) (Leaves conf))
      → IsRefusedScript input (λ events fault. T events (Tells fault) (Leaves conf))
  refused Tells r = record {
    events = r.events;
    fault = r.fault;
    malformed = r.malformed;
    no_script = r.no_script;
    session = leaves r.events (Tells r.fault) r.session;
  }

  done : (Tells : List Outcome → Type 0) → IsDone input (λ events. S events Tells (Leaves conf)) → IsDone input (λ events. T events Tells (Leaves conf))
  done Tells d = record {
    events = d.events;
    script = d.script;
    whole = d.whole;
    ended = d.ended;
    session = leaves d.events Tells d.session;
  }

  abbrev LineFront : ℕ → List Outcome → Type 0
  LineFront fault xs = WritesThenFront conf summary (malformed_line fault) output xs

  pub played : (status : Status) → IsPlayed conf summary input output S Untold Rises status → IsPlayed conf summary input output T Never Rose_over status
  played Done d = done (WritesAll conf summary output) d
  played Usage d = d
  played Listener d = d
  played Spawner d = d
  played Lost d = d
  played Refused d = d
  played Strange d = d
  played Malformed r = refused (λ fault. WritesThen conf summary (malformed_line fault) output) r
  played ReadFault r = (
    r.0,
    record {
      given = r.1.given;
      events = r.1.events;
      consumed = r.1.consumed;
      whole = r.1.whole;
      session = leaves r.1.events (Writes conf summary output) r.1.session;
    },
  )
  played WriteFault r = (r.0, stopped r.1) where
    stopped : IsBegun input (λ events. S events Front (MayLeaveMore conf (ComesNext input events)))
        ⊎ (IsRefusedScript input (λ events fault. S events (LineFront fault) (Leaves conf))
        ⊎ IsDone input (λ events. S events (WritesAllFront conf summary output) (Leaves conf)))
        → IsBegun input (λ events. T events Front (MayLeaveMore conf (ComesNext input events)))
        ⊎ (IsRefusedScript input (λ events fault. T events (LineFront fault) (Leaves conf))
        ⊎ IsDone input (λ events. T events (WritesAllFront conf summary output) (Leaves conf)))
    stopped (inl b) = inl (begun b)
    stopped (inr (inl l)) = inr (inl (refused LineFront l))
    stopped (inr (inr d)) = inr (inr (done (WritesAllFront conf summary output) d))
  played Damaged u = never u
  played Device u = (rises u.0, never u.1)
  played NoMemory b = begun b

-- ---- the disks of a broker

first_of_all : {X : Type 0} (P : X → Type 0) (x : X) (xs : List X) → All P (x ∷ xs) → P x
first_of_all P x xs each = each zero x (omega arith)

others_of_all : {X : Type 0} (P : X → Type 0) (x : X) (xs : List X) → All P (x ∷ xs) → All P xs
others_of_all P x xs each = λ k d lt. each (suc k) d (omega (arith, lt))

-- by which name a disk is looked for
module _ {D : Type 0} where
  abbrev names_in : List (List ℕ × Option D) → List (List ℕ)
  names_in es = map (λ (e : List ℕ × Option D). e.0) es

  pub has_of_one : (es : List (List ℕ × Option D)) (name : List ℕ) → IsOneOf (names_in es) name → HasName es name
  has_of_one [] name one = absurd one
  has_of_one (e ∷ es) name (inl is) = inl is
  has_of_one (e ∷ es) name (inr one) = inr (has_of_one es name one)

  pub one_of_has : (es : List (List ℕ × Option D)) (name : List ℕ) → HasName es name → IsOneOf (names_in es) name
  one_of_has [] name has = absurd has
  one_of_has (e ∷ es) name (inl is) = inl is
  one_of_has (e ∷ es) name (inr has) = inr (one_of_has es name has)

  -- the disks go on under their names
  pub names_go_on : (seen : D → DiskView) (old new : List (List ℕ × Option D)) → AllZip (DiskGoesOn seen) old new → names_in new ≡ names_in old
  names_go_on seen [] [] z = refl
  names_go_on seen [] (f ∷ new) z = absurd z
  names_go_on seen (e ∷ old) [] z = absurd z
  names_go_on seen (e ∷ old) (f ∷ new) z = λ i. z.0.name i ∷ names_go_on seen old new z.1 i

  -- those of a broker are those of its partitions
  pub names_of_slots : (slots : List (PartSlot D)) → names_in (slots_disks slots) ≡ part_disks (hosted_slots slots)
  names_of_slots [] = refl
  names_of_slots (s ∷ slots) =
      ap (λ (l : List (List ℕ)). log_of (hosted_slot s) ∷ first_of (hosted_slot s) ∷ second_of (hosted_slot s) ∷ l) (names_of_slots slots)

  pub hosts_of_slots : (seen : D → DiskView) (slots : List (PartSlot D)) (parts : List HostedPart)
      → AllZip (IsPartSlot seen) slots parts → hosted_by parts ≡ hosted_slots slots
  hosts_of_slots seen [] [] z = refl
  hosts_of_slots seen [] (p ∷ parts) z = absurd z
  hosts_of_slots seen (s ∷ slots) [] z = absurd z
  hosts_of_slots seen (s ∷ slots) (p ∷ parts) z = λ i. z.0.hosted i ∷ hosts_of_slots seen slots parts z.1 i

  pub names_still : (seen : D → DiskView) (es : List (List ℕ × Option D)) (parts : List HostedPart)
      → PartsStill seen es parts → names_in es ≡ part_disks (hosted_by parts)
  names_still seen [] [] still = refl
  names_still seen [] (p ∷ parts) still = absurd still
  names_still seen (x ∷ []) parts still = absurd still
  names_still seen (x ∷ y ∷ []) parts still = absurd still
  names_still seen (x ∷ y ∷ z ∷ es) [] still = absurd still
  names_still seen (x ∷ y ∷ z ∷ es) (p ∷ parts) still =
      λ i. (still.0.log_is i).0 ∷ (still.0.first_is i).0 ∷ (still.0.second_is i).0 ∷ names_still seen es parts still.1 i

  pub names_stay : (seen : D → DiskView) (old new : List (PartSlot D))
      → AllZip (DiskGoesOn seen) (slots_disks old) (slots_disks new) → part_disks (hosted_slots new) ≡ part_disks (hosted_slots old)
  names_stay seen old new z = sym (names_of_slots new) ∙ names_go_on seen (slots_disks old) (slots_disks new) z ∙ names_of_slots old

-- what is known of a disk is that of the one that is found under its name
module _ {D : Type 0} (seen : D → DiskView) where
  abbrev facts_at_disk : Option D → Facts
  facts_at_disk found = facts_at seen found

  either : (first : Bool) (d there : Option D) (rest : Facts) → rest ≡ facts_at_disk there
      → (if first then facts_at_disk d else rest) ≡ facts_at_disk (if first then d else there)
  either true d there rest same = refl
  either false d there rest same = same

  among_facts : (es : List (List ℕ × Option D)) (name : List ℕ) (other : Option D)
      → facts_among seen es (facts_at_disk other) name
      ≡ facts_at_disk (among (λ (e : List ℕ × Option D). e.0) (λ (e : List ℕ × Option D). e.1) es other name)
  among_facts [] name other = refl
  among_facts (e ∷ es) name other =
      either (same_name name e.0) e.1 (among (λ (e : List ℕ × Option D). e.0) (λ (e : List ℕ × Option D). e.1) es other name)
      (facts_among seen es (facts_at_disk other) name) (among_facts es name other)

  foreign_facts_of : (left : Option (D × D)) (name : List ℕ) → foreign_facts seen left name ≡ facts_at_disk (foreign_disk left name)
  foreign_facts_of None name = refl
  foreign_facts_of (Some disks) name = go (same_name name state_a) where
    go : (b : Bool) → record {
      faults = if b then (seen disks.0).faults else (seen disks.1).faults;
      losses = if b then (seen disks.0).losses else (seen disks.1).losses;
      arms = if b then (seen disks.0).arms else (seen disks.1).arms;
      armed = if b then (seen disks.0).armed else (seen disks.1).armed;
    } ≡ facts_at_disk (Some (if b then disks.0 else disks.1))
    go true = refl
    go false = refl

  pub facts_of_disk : (left : LeftDisks D) (name : List ℕ) → facts_in seen left name ≡ facts_at_disk (disk_in left name)
  facts_of_disk left name = ap (λ (f : Facts). facts_among seen left.parts f name) (foreign_facts_of left.foreign name)
      ∙ among_facts left.parts name (foreign_disk left.foreign name)

-- ---- over a bay

module _ {B D : Type 0} (bay_seen : B → BayView D) (seen : D → DiskView) where
  abbrev Tells : ConfigParts → B → (List ℕ → List ℕ) → Disks → Type 0
  Tells conf bay contents was = TellsDisks bay_seen seen conf bay contents was

  abbrev began : Machine → CoreParts D → State
  began m core = state_of seen m core

  -- a start's own clause
  abbrev Opens : ConfigParts → B → CoreParts D → Type 0
  Opens conf old core = (contents : List ℕ → List ℕ) (was : Disks) → Tells conf old contents was →
      (m : Machine) × IsCore seen core m × IsFirst conf contents was (began m core)

  -- ---- what a bay has under a name

  text : Option (List ℕ) → List ℕ
  text None = []
  text (Some c) = c

  text_on : Option D → List ℕ
  text_on None = []
  text_on (Some d) = text (seen d).content

  text_in : B → List ℕ → List ℕ
  text_in bay name = text_on ((bay_seen bay).disk name)

  facts_on : B → Disks
  facts_on bay name = facts_at seen ((bay_seen bay).disk name)

  -- the bay has a disk under this name that tells its content
  abbrev Has : B → List ℕ → Type 0
  Has bay name = (d : D) × ((bay_seen bay).disk name ≡ Some d) × ((seen d).content ≡ Some (text_in bay name)) × (facts_on bay name ≡ facts_of seen d)

  content_of : (bay : B) (name : List ℕ) (d : D) → (bay_seen bay).disk name ≡ Some d → IsTold (seen d).content → (seen d).content ≡ Some (text_in bay name)
  unfolding text_on text text_in
  content_of bay name d is told =
      let c = is_told (seen d).content told in
      let same : text_in bay name ≡ c.0 = ap text_on is ∙ ap text c.1 in
      c.1 ∙ ap Some (sym same)

  has : (bay : B) (name : List ℕ) (d : D) → (bay_seen bay).disk name ≡ Some d → IsTold (seen d).content → Has bay name
  unfolding facts_on
  has bay name d is told = (d, is, content_of bay name d is told, ap (facts_at seen) is)

  -- a sound bay has each disk of a broker
  abbrev HasDisks : Topic → ℕ → Type 0
  HasDisks topic below = (number : ℕ) → number < below → (place : DiskPlace) → IsDiskName (hosted_name topic.name number place)

  one_of_topic : (conf : ConfigParts) (name : List ℕ) (topic : Topic) (from more : ℕ) → HasDisks topic (from + more)
      → IsOneOf (part_disks (hosted_from conf topic from more)) name → IsDiskName name
  one_of_topic conf name topic from zero each one = absurd one
  one_of_topic conf name topic from (suc more) each (inl is) = subst IsDiskName (sym is) (each from (omega arith) Log)
  one_of_topic conf name topic from (suc more) each (inr (inl is)) = subst IsDiskName (sym is) (each from (omega arith) StateA)
  one_of_topic conf name topic from (suc more) each (inr (inr (inl is))) = subst IsDiskName (sym is) (each from (omega arith) StateB)
  one_of_topic conf name topic from (suc more) each (inr (inr (inr one))) =
      one_of_topic conf name topic (suc from) more (λ number below. each number (omega (arith, below))) one

  abbrev AllDisks : Topic → Type 0
  AllDisks topic = HasDisks topic topic.parts

  names_are : (conf : ConfigParts) (topics : List Topic) → All AllDisks topics → (name : List ℕ) → IsOneOf (part_disks (hosted_in conf topics)) name → IsDiskName name
  names_are conf [] each name one = absurd one
  names_are conf (topic ∷ topics) each name one =
      let here = hosted_from conf topic 0 topic.parts in
      let there = hosted_in conf topics in
      let one_of : IsOneOf (part_disks here ++ part_disks there) name =
      subst (λ (l : List (List ℕ)). IsOneOf l name) (flat_map-append disks_of here there) one in
      go (λ behind. names_are conf topics (others_of_all AllDisks topic topics each) name behind) (one_in_either (part_disks here) (part_disks there) name one_of) where
        go : (IsOneOf (part_disks (hosted_in conf topics)) name → IsDiskName name)
            → IsOneOf (part_disks (hosted_from conf topic 0 topic.parts)) name ⊎ IsOneOf (part_disks (hosted_in conf topics)) name → IsDiskName name
        go rest (inl one) = one_of_topic conf name topic 0 topic.parts (λ number below. (first_of_all AllDisks topic topics each) number (omega (arith, below))) one
        go rest (inr behind) = rest behind

  taken_names : (conf : ConfigParts) → IsTopicList conf.topics → (name : List ℕ) → IsTaken conf name → IsDiskName name
  taken_names conf list name (inl one) = names_are conf conf.topics (have_disks conf.topics list) name one
  taken_names conf list name (inr state) = inr state

  pub sound_tells : (bay : B) → IsSound bay_seen seen bay → (conf : ConfigParts) → IsTopicList conf.topics
      → (contents : List ℕ → List ℕ) × (was : Disks) × Tells conf bay contents was
  sound_tells bay sound conf list = (
    text_in bay,
    facts_on bay,
    λ name taken. let d = sound.each name (taken_names conf list name taken) in has bay name d.0 d.1 d.2.tells,
  )

  -- ---- the disks that were put back

  module _ (mid new : B) where
    abbrev Told : List ℕ → Type 0
    Told name = is_some ((bay_seen mid).disk name) ≡ true

    -- under this name the bay has the disk that was found, and it tells its content
    abbrev Known : List ℕ → Option D → Type 0
    Known name found = (d : D) × ((bay_seen new).disk name ≡ Some d) × IsTold (seen d).content × (found ≡ Some d)

    -- it is there, and tells its content
    abbrev IsToldEntry : List ℕ × Option D → Type 0
    IsToldEntry e = (d : D) × (e.1 ≡ Some d) × IsTold (seen d).content

    told_entries : (es : List (List ℕ × Option D)) (parts : List HostedPart) → PartsStill seen es parts → AllByRecursion IsToldEntry es
    told_entries [] [] still = tt
    told_entries [] (p ∷ parts) still = absurd still
    told_entries (x ∷ []) parts still = absurd still
    told_entries (x ∷ y ∷ []) parts still = absurd still
    told_entries (x ∷ y ∷ z ∷ es) [] still = absurd still
    told_entries (x ∷ y ∷ z ∷ es) (p ∷ parts) still =
        let s = still.0 in
        let rest = told_entries es parts still.1 in (
          (s.log, ap (λ (e : List ℕ × Option D). e.1) s.log_is, s.alone.log_told),
          (
            (s.first, ap (λ (e : List ℕ × Option D). e.1) s.first_is, s.alone.first_told),
            ((s.second, ap (λ (e : List ℕ × Option D). e.1) s.second_is, s.alone.second_told), rest),
          ),
        )

    of_entry : (e : List ℕ × Option D) → HoldsIf bay_seen mid new e → IsToldEntry e → Told e.0 → Known e.0 e.1
    of_entry (n, None) back entry told = absurd back
    of_entry (n, Some d) back entry told =
        let is : Some d ≡ Some entry.0 = entry.1 in
        let same : entry.0 ≡ d = cc in
        (d, back told, subst (λ (x : D). IsTold (seen x).content) same entry.2, refl)

    abbrev among_disks : List (List ℕ × Option D) → Option D → List ℕ → Option D
    among_disks es other name = among (λ (e : List ℕ × Option D). e.0) (λ (e : List ℕ × Option D). e.1) es other name

    abbrev cond : Bool → Option D → Option D → Option D
    cond b d e = if b then d else e

    of_entries : (es : List (List ℕ × Option D)) → AllByRecursion (HoldsIf bay_seen mid new) es → AllByRecursion IsToldEntry es
        → (name : List ℕ) → Told name → (other : Option D) → HasName es name ⊎ Known name other → Known name (among_disks es other name)
    of_entries [] back entries name told other (inl one) = absurd one
    of_entries [] back entries name told other (inr known) = known
    of_entries (e ∷ es) back entries name told other h = go (λ r. of_entries es back.1 entries.1 name told other r) (cases_Bool (same_name name e.0)) where
      rest : same_name name e.0 ≡ false → HasName (e ∷ es) name ⊎ Known name other → HasName es name ⊎ Known name other
      rest differs (inl (inl is)) =
          let both : true ≡ false = sym (same_self e.0) ∙ subst (λ (n : List ℕ). same_name n e.0 ≡ false) is differs in
          absurd cc
      rest differs (inl (inr one)) = inl one
      rest differs (inr known) = inr known

      go : (HasName es name ⊎ Known name other → Known name (among_disks es other name))
          → (same_name name e.0 ≡ true) ⊎ (same_name name e.0 ≡ false) → Known name (among_disks (e ∷ es) other name)
      go others (inl eq) =
          let is : name ≡ e.0 = is_same name e.0 eq in
          let k = of_entry e back.0 entries.0 (subst Told is told) in
          subst (λ (b : Bool). Known name (cond b e.1 (among_disks es other name))) (sym eq) (subst (λ (n : List ℕ). Known n e.1) (sym is) k)
      go others (inr not) = subst (λ (b : Bool). Known name (cond b e.1 (among_disks es other name))) (sym not) (others (rest not h))

    of_first : (left : Option (D × D)) (shards : Shards) → BothHold bay_seen mid new left → ForeignStill seen shards.foreign left → Told state_a
        → Known state_a (foreign_disk left state_a)
    of_first None shards back still told = absurd still
    of_first (Some (first, second)) shards back still told = (first, back.0 told, still.told, refl)

    of_second : (left : Option (D × D)) (shards : Shards) → BothHold bay_seen mid new left → ForeignStill seen shards.foreign left → Told state_b
        → Known state_b (foreign_disk left state_b)
    of_second None shards back still told = absurd still
    of_second (Some (first, second)) shards back still told = (second, back.1 told, still.second_told, refl)

    module _ (left : LeftDisks D) (shards : Shards) (back : ArePutBack bay_seen mid new left) (still : StandStill seen shards left) where
      abbrev F : List ℕ → Option D
      F name = disk_in left name

      entries : AllByRecursion IsToldEntry left.parts
      entries = told_entries left.parts shards.parts still.parts

      parts_known : (name : List ℕ) → Told name → HasName left.parts name → Known name (F name)
      parts_known name told one = of_entries left.parts back.parts entries name told (foreign_disk left.foreign name) (inl one)

      first_known : Told state_a → Known state_a (F state_a)
      first_known told = of_entries left.parts back.parts entries state_a told (foreign_disk left.foreign state_a)
          (inr (of_first left.foreign shards back.foreign still.foreign told))

      second_known : Told state_b → Known state_b (F state_b)
      second_known told = of_entries left.parts back.parts entries state_b told (foreign_disk left.foreign state_b)
          (inr (of_second left.foreign shards back.foreign still.foreign told))

    -- ---- what their contents stand for

    module _ (read : (d : D) (c : List ℕ) → (seen d).content ≡ Some c → (seen d).image c) where
      is_text : (name : List ℕ) (d : D) → (bay_seen new).disk name ≡ Some d → IsTold (seen d).content → (seen d).image (text_in new name)
      unfolding text_on text text_in
      is_text name d is told =
          let c = is_told (seen d).content told in
          subst (λ (t : List ℕ). (seen d).image t) (sym (ap text_on is ∙ ap text c.1)) (read d c.0 c.1)

      -- a disk that was put back under its name, and which told its content
      put_back : (e : List ℕ × Option D) (name : List ℕ) (d : D) → e ≡ (name, Some d) → HoldsIf bay_seen mid new e → Told name → (bay_seen new).disk name ≡ Some d
      put_back e name d is back told = subst (λ (x : List ℕ × Option D). HoldsIf bay_seen mid new x) is back told

      part_stands : (x y z : List ℕ × Option D) (p : HostedPart) → HoldsIf bay_seen mid new x → HoldsIf bay_seen mid new y → HoldsIf bay_seen mid new z → PartStill seen x y z p
          → Told (log_of p.hosted) → Told (first_of p.hosted) → Told (second_of p.hosted) → StandsForPart (text_in new) p
      part_stands x y z p bx by bz s tx ty tz =
          s.alone.stand (text_in new (log_of p.hosted)) (text_in new (first_of p.hosted)) (text_in new (second_of p.hosted))
          (is_text (log_of p.hosted) s.log (put_back x (log_of p.hosted) s.log s.log_is bx tx) s.alone.log_told)
          (is_text (first_of p.hosted) s.first (put_back y (first_of p.hosted) s.first s.first_is by ty) s.alone.first_told)
          (is_text (second_of p.hosted) s.second (put_back z (second_of p.hosted) s.second s.second_is bz tz) s.alone.second_told)

      parts_stand : (es : List (List ℕ × Option D)) (parts : List HostedPart) → AllByRecursion (HoldsIf bay_seen mid new) es → PartsStill seen es parts
          → ((name : List ℕ) → IsOneOf (part_disks (hosted_by parts)) name → Told name) → AllByRecursion (StandsForPart (text_in new)) parts
      parts_stand [] [] back still told = tt
      parts_stand [] (p ∷ parts) back still told = absurd still
      parts_stand (x ∷ []) parts back still told = absurd still
      parts_stand (x ∷ y ∷ []) parts back still told = absurd still
      parts_stand (x ∷ y ∷ z ∷ es) [] back still told = absurd still
      parts_stand (x ∷ y ∷ z ∷ es) (p ∷ parts) back still told = (
        part_stands x y z p back.0 back.1.0 back.1.1.0 still.0 (told (log_of p.hosted) (inl refl)) (told (first_of p.hosted) (inr (inl refl)))
            (told (second_of p.hosted) (inr (inr (inl refl)))),
        parts_stand es parts back.1.1.1 still.1 (λ name one. told name (inr (inr (inr one)))),
      )

      state_stands : (left : Option (D × D)) (shards : Shards) → BothHold bay_seen mid new left → ForeignStill seen shards.foreign left → Told state_a → Told state_b
          → StandWith shards.foreign (text_in new state_a) (text_in new state_b)
      state_stands None shards back still first second = absurd still
      state_stands (Some (a, b)) shards back still first second = still.stand (text_in new state_a) (text_in new state_b)
          (is_text state_a a (back.0 first) still.told) (is_text state_b b (back.1 second) still.second_told)

      all_stand : (left : LeftDisks D) (shards : Shards) → ArePutBack bay_seen mid new left
          → ((name : List ℕ) → IsOneOf (part_disks (hosted_by shards.parts)) name → Told name) → Told state_a → Told state_b
          → StandStill seen shards left → StandsFor (text_in new) shards
      all_stand left shards back told first second still = record {
        parts = parts_stand left.parts shards.parts back.parts still.parts told;
        foreign = state_stands left.foreign shards back.foreign still.foreign first second;
      }

  -- ---- a session

  module _ (read : (d : D) (c : List ℕ) → (seen d).content ≡ Some c → (seen d).image c) (old mid new : B) (conf : ConfigParts) (core : CoreParts D) (left : LeftDisks D)
      (same : core.conf ≡ conf) (opens : Opens conf old core) (still : TellsStill bay_seen old mid) (goes : GoOn seen (disks_in core.hosts) left)
      (back : ArePutBack bay_seen mid new left) where
    abbrev Before : Ending → State → Type 0
    Before Ends last = Ends (λ shards. StandStill seen shards left) (λ ends. LogsReach seen left ends) (facts_in seen left) last

    told_in : (contents : List ℕ → List ℕ) (was : Disks) → Tells conf old contents was → (name : List ℕ) → IsTaken conf name → is_some ((bay_seen mid).disk name) ≡ true
    told_in contents was t name taken = still name (ap is_some (t name taken).1)

    -- where the disk of this name is
    abbrev Place : List ℕ → Type 0
    Place name = HasName left.parts name ⊎ ((name ≡ state_a) ⊎ (name ≡ state_b))

    here : (name : List ℕ) → (IsOneOf (part_disks (hosted_of conf)) name → HasName left.parts name) → IsTaken conf name → Place name
    here name f (inl one) = inl (f one)
    here name f (inr state) = inr state

    abbrev TellsAt : List ℕ → Type 0
    TellsAt name = (d : D) × ((bay_seen new).disk name ≡ Some d) × ((seen d).content ≡ Some (text_in new name))
        × (facts_in seen left name ≡ facts_of seen d)

    abbrev Found : List ℕ → Type 0
    Found name = Known mid new name (disk_in left name)

    found_at : (shards : Shards) → StandStill seen shards left → (name : List ℕ) → is_some ((bay_seen mid).disk name) ≡ true → Place name → Found name
    found_at shards stands name told (inl one) = parts_known mid new left shards back stands name told one
    found_at shards stands name told (inr (inl is)) = subst Found (sym is)
        (first_known mid new left shards back stands (subst (λ (n : List ℕ). is_some ((bay_seen mid).disk n) ≡ true) is told))
    found_at shards stands name told (inr (inr is)) = subst Found (sym is)
        (second_known mid new left shards back stands (subst (λ (n : List ℕ). is_some ((bay_seen mid).disk n) ≡ true) is told))

    tells_at : (name : List ℕ) → Found name → TellsAt name
    tells_at name k = (
      k.0,
      k.1,
      content_of new name k.0 k.1 k.2,
      facts_of_disk seen left name ∙ ap (facts_at seen) k.3,
    )

    -- its content reaches to the ends to which the logs' disks do
    reaches_at : (ends : List ℕ → ℕ) → LogsReach seen left ends → (name : List ℕ) → IsLogName name → Found name → ends name ≤ length (text_in new name)
    reaches_at ends reached name log k =
        (subst (λ (found : Option D). ReachesTo seen found (ends name)) k.3 (reached name log)) (text_in new name) (is_text mid new read name k.0 k.1 k.2)

    -- they have the names of the configuration's
    left_names : (m : Machine) → IsCore seen core m → hosted_by m.shards.parts ≡ hosted_of conf → names_in left.parts ≡ part_disks (hosted_of conf)
    left_names m k hosts = names_go_on seen (slots_disks core.hosts.parts) left.parts goes.parts ∙ names_of_slots core.hosts.parts
        ∙ ap part_disks (sym (hosts_of_slots seen core.hosts.parts m.shards.parts k.shards.parts) ∙ hosts)

    pub over : (Ends : Ending) → IsEnding Ends → (events : List Event) (Says : List Outcome → Type 0)
        → FromCore seen core left events Says Ends
        → OverBay (bay_change bay_seen seen old new) conf (IsSession conf events Says Ends)
    over Ends is events Says from = λ contents was t.
        let o = opens contents was t in
        let r : Ran conf (began o.0 core) events Says (Before Ends) =
        subst (λ (c : ConfigParts). Ran c (began o.0 core) events Says (Before Ends)) same (from o.0 o.1) in
        let some = is.some (λ shards. StandStill seen shards left) (λ ends. LogsReach seen left ends) (facts_in seen left) r.last r.ends in
        let told = told_in contents was t in
        let names : names_in left.parts ≡ part_disks (hosted_of conf) = left_names o.0 o.1 o.2.opens.hosts in
        let found : (name : List ℕ) → IsTaken conf name → Found name = λ name taken. found_at some.0 some.1 name (told name taken)
        (here name (λ one. has_of_one left.parts name (subst (λ (l : List (List ℕ)). IsOneOf l name) (sym names) one)) taken) in (
          text_in new,
          facts_in seen left,
          λ name taken. tells_at name (found name taken),
          record {
            first = began o.0 core;
            opens = o.2;
            ran = record {
              steps = r.steps;
              last = r.last;
              run = r.run;
              events_are = r.events_are;
              tells = r.tells;
              ends = is.along (λ shards. StandStill seen shards left) (StandsFor (text_in new)) (λ ends. LogsReach seen left ends)
                  (ReachTo conf (text_in new)) (facts_in seen left) r.last
                  (λ shards stands. all_stand mid new read left shards back
                  (λ name one. told name (inl (subst (λ (l : List (List ℕ)). IsOneOf l name)
                  (sym (names_still seen left.parts shards.parts stands.parts) ∙ names) one)))
                  (told state_a (inr (inl refl))) (told state_b (inr (inr refl))) stands)
                  (λ ends reached name taken log. reaches_at ends reached name log (found name taken)) r.ends;
            };
          },
        )

    -- a broker that did no event
    pub dumped : (Says : List ℕ → Type 0) → ((m : Machine) → IsCore seen core m → StandStill seen m.shards left × Says (dump_text m.shards))
        → ((m : Machine) (name : List ℕ) → facts_in seen left name ≡ (began m core).disks name) → OverBay (bay_change bay_seen seen old new) conf (IsDumped conf Says)
    dumped Says from known = λ contents was t.
        let o = opens contents was t in
        let d = from o.0 o.1 in
        let told = told_in contents was t in
        let names : names_in left.parts ≡ part_disks (hosted_of conf) = left_names o.0 o.1 o.2.opens.hosts in
        let found : (name : List ℕ) → IsTaken conf name → Found name = λ name taken. found_at o.0.shards d.0 name (told name taken)
        (here name (λ one. has_of_one left.parts name (subst (λ (l : List (List ℕ)). IsOneOf l name) (sym names) one)) taken) in (
          text_in new,
          facts_in seen left,
          λ name taken. tells_at name (found name taken),
          record {
            machine = o.0;
            opens = o.2.opens;
            says = d.1;
            stands = all_stand mid new read left o.0.shards back
                (λ name one. told name (inl (subst (λ (l : List (List ℕ)). IsOneOf l name)
                (sym (names_still seen left.parts o.0.shards.parts d.0.parts) ∙ names) one)))
                (told state_a (inr (inl refl))) (told state_b (inr (inr refl))) d.0;
            disks = λ name taken. subst (λ (f : Facts). IsOpenedDisk (was name) f) (sym (known o.0 name)) (o.2.disks name taken);
          },
        )

    abbrev Session : List Event → (List Outcome → Type 0) → Ending → Type 0
    Session events Says Ends = OverBay (bay_change bay_seen seen old new) conf (IsSession conf events Says Ends)

    pub played_over : (summary : Bool) (input : InputChange) (output : OutputChange) (Rises Rose_over : Type 0) → (Rises → Rose_over) → (status : Status)
        → IsPlayed core.conf summary input output (FromCore seen core left) (NeverFrom seen core) Rises status
        → IsPlayed conf summary input output Session (OfBay (bay_change bay_seen seen old new) conf (λ contents was. ⊥)) Rose_over status
    played_over summary input output Rises Rose_over rises status p =
        played conf summary input output (FromCore seen core left) Session
        (NeverFrom seen core) (OfBay (bay_change bay_seen seen old new) conf (λ contents was. ⊥)) Rises Rose_over
        (λ events Says from. over (Leaves conf) (leaves_ends conf) events Says from)
        (λ Next events Says from. over (MayLeaveMore conf Next) (more_ends conf Next) events Says from)
        (λ never contents was t. let o = opens contents was t in never o.0 o.1) rises
        status
        (subst (λ (c : ConfigParts). IsPlayed c summary input output (FromCore seen core left)
        (NeverFrom seen core) Rises status) same p)

  -- ---- a broker that was not opened

  module _ (old new : B) (conf : ConfigParts) (output : OutputChange) (fault : CoreOpen)
      (damaged : (name : List ℕ) (place : ℕ) → fault ≡ open_fault.Damaged name place → (contents : List ℕ → List ℕ) (was : Disks) → Tells conf old contents was
      → IsDamagedDisk conf contents name place)
      (rises : ((fault ≡ open_fault.Device) ⊎ (fault ≡ open_fault.Bay)) → CountRose (bay_change bay_seen seen old new) conf) where
    pub not_opened : (status : Status) → IsRefusal fault output status
        → IsNotOpened (bay_change bay_seen seen old new) conf output status
    not_opened Done r = r
    not_opened Usage r = r
    not_opened Listener r = r
    not_opened Spawner r = r
    not_opened Lost r = r
    not_opened Refused r = r
    not_opened Strange r = r
    not_opened Malformed r = r
    not_opened ReadFault r = r
    not_opened WriteFault r = (r.0, λ contents was t. (r.1.0, r.1.1, damaged r.1.0 r.1.1 r.1.2 contents was t, r.1.3))
    not_opened Damaged r = λ contents was t. (r.0, r.1, damaged r.0 r.1 r.2 contents was t, r.3)
    not_opened Device r = (rises r.0, r.1)
    not_opened NoMemory r = r

  -- a replay over disks that tell their contents isn't stopped by a power loss
  pub never_stopped : (core : CoreParts D) (left : LeftDisks D) (summary : Bool) (input : InputChange) (output : OutputChange) (Rises : Type 0) (status : Status)
      → IsPlayed core.conf summary input output (FromCore seen core left) (NeverFrom seen core) Rises status
      → (status ≡ Damaged) ⊎ (status ≡ Device) → NeverFrom seen core
  never_stopped core left summary input output Rises status p (inl is) = subst (λ (s : Status). IsPlayed core.conf summary input output
      (FromCore seen core left) (NeverFrom seen core) Rises s) is p
  never_stopped core left summary input output Rises status p (inr is) = (subst (λ (s : Status). IsPlayed core.conf summary input output
      (FromCore seen core left) (NeverFrom seen core) Rises s) is p).1

pub refusal_damaged : (fault : CoreOpen) (output : OutputChange) (status : Status) → IsRefusal fault output status → status ≡ Damaged → IsRefusal fault output Damaged
refusal_damaged fault output status r is = subst (λ (s : Status). IsRefusal fault output s) is r

-- a device fault is told where a disk failed, or the bay gave one not
pub refusal_device : (fault : CoreOpen) (output : OutputChange) (status : Status) → IsRefusal fault output status → status ≡ Device → IsOfDevice fault
refusal_device fault output status r is = go (subst (λ (s : Status). IsRefusal fault output s) is r).0 where
  go : (fault ≡ open_fault.Device) ⊎ (fault ≡ open_fault.Bay) → IsOfDevice fault
  go (inl e) = subst IsOfDevice (sym e) tt
  go (inr e) = subst IsOfDevice (sym e) tt

-- what a start that was refused leaves of the disks
pub disks_stay : {B D : Type 0} (bay_seen : B → BayView D) (seen : D → DiskView) (Fed : Type 0) (fault : CoreOpen) (old new : B) → (Fed → IsOfDevice fault)
    → TellsStill bay_seen old new → ((name : List ℕ) → StaysAs bay_seen seen (IsOfDevice fault) name old new)
    → (IsOfDevice fault → (bay_seen new).starved ≡ false) → DisksStay (bay_change bay_seen seen old new) Fed
disks_stay bay_seen seen Fed fault old new why told stays fed = record {
  told = told;
  stays = λ name d e was is.
      let s = stays name d e was is in
      record { images = s.images; runs = s.runs; fed = λ f. s.fed (why f) };
  fed = λ f. fed (why f);
}
