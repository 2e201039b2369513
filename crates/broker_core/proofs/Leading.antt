-- Calls on shards, and what they lead to.
use Rattle.std.specs.List.{AllZip, flat_map}
use Rattle.std.specs.Prelude.{◌||◌}
use Rattle.std.proofs.Common.{◌≡◌, ◌⊎◌, ◌≤◌, ◌+◌, [], ◌∷◌, arith, inl, inr, refl, sym, ap, ◌∙◌, subst, ℕ, List, Bool, true, false, cond, Some, None, Result, Ok, Err}
use Rattle.std.specs.declared.option.Option.{Option}
use Rattle.edge_io.specs.declared.name.DiskPlace.TheVariants.{Log, StateA, StateB}
use Rattle.edge_io.specs.Armed.{RunsOn}
use Rattle.edge_io.specs.Causes.{Rose}
use Rattle.edge_io.specs.Disk.{IsTold}
use Rattle.flex_fields.specs.declared.fault.NoMemory.{NoMemory}
use Rattle.share_model.specs.declared.fault.StoreFault.{StoreFault}
use Rattle.share_model.specs.declared.fault.StoreFault.TheVariants.{Device, Full}
use Rattle.share_model.specs.declared.foreign.ForeignOp.{ForeignOp}
use Rattle.share_model.specs.declared.foreign.ForeignAnswer.{ForeignAnswer}
use Rattle.share_members.specs.Groups.{Memberships}
use Rattle.share_coord.specs.Parts.{StoreParts}
use Rattle.foreign_coord.specs.Once.{HasRisen}
use Rattle.foreign_coord.specs.Shards.{ForeignShardState, StepsForeign}
use Rattle.share_part.specs.Shards.{Carries as CarriesPart}
use Rattle.broker_model.specs.Hosted.{Hosted, IsOneOf, first_of, foreign_store, has_disk, log_of, part_disks, same_name, second_of, state_a, state_b}
use Rattle.broker_model.specs.Shards.{Counts, HostedPart, MembersCall, Shards, ShardCall, StepsMembers, StepsShards, rose_on}
use Rattle.broker_model.specs.Shards.ShardCall.{CallForeign, CallMembers}
use Rattle.broker_model.specs.Shards.MembersCall.{Beats, Ticks}
use Rattle.broker_model.specs.Disks.{Facts, IsUsed, OnCalled, facts_of}
use Rattle.call_fold.specs.declared.part.Part.{Part}
use Rattle.call_fold.specs.declared.part.Part.TheVariants.{Foreign, Heartbeat}
use Rattle.call_fold.specs.declared.part.PartAnswer.{PartAnswer}
use Rattle.call_fold.specs.declared.part.PartAnswer.TheVariants.{Foreign as AnswerForeign, Heartbeat as AnswerHeartbeat}
use Rattle.msgs_group.specs.declared.heartbeat_request.HeartbeatRequest.{HeartbeatRequest}
use Rattle.msgs_group.specs.declared.heartbeat_reply.HeartbeatReply.{HeartbeatReply}
use Rattle.broker_hosts.specs.declared.slot.ForeignSlot.{ForeignSlot}
use Rattle.broker_hosts.specs.declared.slot.ForeignSlot.TheVariants as foreign
use Rattle.broker_hosts.specs.declared.slot.PartState.{PartState}
use Rattle.broker_hosts.specs.declared.slot.PartState.TheVariants as part
use Rattle.broker_hosts.specs.declared.slot.PartSlot.{PartSlot}
use Rattle.broker_hosts.specs.Carried.{IsCarried, GoesOn, OpenPart}
use Rattle.broker_shards.specs.Acts.{ActsOnMembers, AnswersForeign, AnswersMembers}
use Rattle.broker_shards.specs.declared.members.MembersAsk.TheVariants as asks
use Rattle.broker_shards.specs.declared.members.MembersTold.{MembersTold}
use Rattle.broker_shards.specs.declared.members.MembersTold.TheVariants as tells
use Rattle.broker_shards.specs.Hosts.{holding}
use Rattle.broker_hosts.specs.Hosts.{AreApart, AreCarried, AreDistinct, AreOpen, ForeignStill, HostsParts, IsPartSlot, IsPartState, IsSlot, LeftDisks, NotIn, PartStill, PartsStill, StandStill, all_names, among, disks_in, ends_in, facts_at, facts_in, foreign_disks, foreign_end, foreign_facts, hosted_slot, hosted_slots, part_disk, slot_ends, slots_disks}
use Rattle.broker_core.specs.Calls.{BothGoOn, Did, DiskGoesOn, GoesOnIf, GoOn, Halts, HaltsBy, Leads, LeadsBy, LogsLater, StaysOpen, counts_in}
use Rattle.broker_hosts.proofs.Opening.{carried_stands}
use Rattle.broker_core.proofs.Parting.{answered_as, used_on}
use Rattle.broker_hosts.proofs.Places.{zip_same, zip_weaker, apart_from, distinct_front, among_past, among_zip, not_both, one_in_either}
use Rattle.broker_core.proofs.Reaching.{SlotLater, names_later, names_reach, reach_all, same_later, slot_reaches, slots_reach}
use Rattle.broker_hosts.proofs.OpeningParts.{images_left}
use Rattle.broker_core.proofs.Slots.{called_same, disk_names, end_names}
use Rattle.edge_io.specs.Views.{DiskView}

neither : (p q : Bool) → (p || q) ≡ false → p ≡ false
neither true q is = absurd (let bad : true ≡ false = is in cc)
neither false q is = refl

a_is_one : IsOneOf (state_a ∷ state_b ∷ []) state_a
a_is_one = inl refl

pub not_a_part : (hosted : List Hosted) → AreDistinct (all_names hosted) → NotIn (part_disks hosted) state_a
not_a_part hosted d = apart_from (part_disks hosted) (state_a ∷ state_b ∷ []) state_a d a_is_one

pub not_a_part_too : (hosted : List Hosted) → AreDistinct (all_names hosted) → NotIn (part_disks hosted) state_b
not_a_part_too hosted d = apart_from (part_disks hosted) (state_a ∷ state_b ∷ []) state_b d (inr (inl refl))

-- the disks of the partitions are apart
pub parts_apart : (hosted : List Hosted) → AreDistinct (all_names hosted) → AreDistinct (part_disks hosted)
parts_apart hosted d = distinct_front (part_disks hosted) (state_a ∷ state_b ∷ []) d

-- a heartbeat that was told so
pub beats : (now : ℕ) (request : HeartbeatRequest) (reply : HeartbeatReply) (told : MembersTold) (old new : Memberships) → told ≡ tells.Heartbeat reply
    → AnswersMembers now (asks.Heartbeat request) told old new → StepsMembers now old (Beats request reply) new
beats now request reply told old new is a = subst (λ (t : MembersTold). AnswersMembers now (asks.Heartbeat request) t old new) is a

-- a tick, which takes no memory
pub ticks : (now : ℕ) (result : Result MembersTold NoMemory) (old new : Memberships) → ActsOnMembers now asks.Tick old result new
    → StepsMembers now old Ticks new
ticks now (Ok (tells.Ticked count)) old new a = a.0
ticks now (Ok (tells.Heartbeat reply)) old new a = absurd a
ticks now (Err fault) old new a = absurd a.0

module _ {D : Type 0} (seen : D → DiskView) where
  -- ---- foreign state

  abbrev C : StoreParts D → ForeignShardState → Type 0
  C store s = IsCarried seen store s

  -- ---- hosts

  abbrev F : HostsParts D → List ℕ → Facts
  F hosts name = facts_in seen (disks_in hosts) name

  abbrev N : HostsParts D → HostsParts D → Counts
  N old new = counts_in seen (disks_in old) (disks_in new)

  abbrev L : HostsParts D → Shards → HostsParts D → (Shards → Option ShardCall → Shards → Type 0) → Type 0
  L old s new Q = Leads seen old s new Q

  abbrev H : HostsParts D → Shards → HostsParts D → (Shards → Option ShardCall → Shards → Type 0) → Type 0
  H old s new Q = Halts seen old s new Q

  abbrev K : HostsParts D → Shards → Type 0
  K hosts s = AreCarried seen hosts s

  -- what is carried stands for it

  abbrev pub StillSlot : PartSlot D → HostedPart → Type 0
  StillSlot slot p = PartStill seen (log_of (hosted_slot slot), part_disk slot.state Log) (first_of (hosted_slot slot), part_disk slot.state StateA)
      (second_of (hosted_slot slot), part_disk slot.state StateB) p

  pub open_still : (slot : PartSlot D) (p : HostedPart) (is : OpenPart D) → slot.state ≡ part.Open is → p.hosted ≡ hosted_slot slot → is.conf ≡ slot.conf
      → CarriesPart seen holding is p.shard → IsTold (seen is.log.journal.disk).content → IsTold (seen is.states.journal.first.disk).content
      → IsTold (seen is.states.journal.second.disk).content → StillSlot slot p
  open_still slot p is state_is hosted conf_is carries told first_told second_told = record {
    log = is.log.journal.disk;
    first = is.states.journal.first.disk;
    second = is.states.journal.second.disk;
    log_is = λ i. (log_of (sym hosted i), part_disk (state_is i) Log);
    first_is = λ i. (first_of (sym hosted i), part_disk (state_is i) StateA);
    second_is = λ i. (second_of (sym hosted i), part_disk (state_is i) StateB);
    alone = record {
      stand = images_left seen p.hosted.conf is p.shard (conf_is ∙ sym (ap (λ (h : Hosted). h.conf) hosted)) carries;
      log_told = told;
      first_told = first_told;
      second_told = second_told;
    };
  }

  pub slot_still : (slot : PartSlot D) (p : HostedPart) → IsPartSlot seen slot p → StillSlot slot p
  slot_still slot p k = go slot.state refl k.state where
    go : (state : PartState D) → slot.state ≡ state → IsPartState seen slot.conf state p.shard → StillSlot slot p
    go (part.Open is) e i = open_still slot p is e k.hosted i.conf_is i.carries i.log.told i.first.told i.second.told
    go (part.Shut log first second) e i = absurd i
    go part.Gone e i = absurd i

  pub parts_still : (slots : List (PartSlot D)) (ps : List HostedPart) → AllZip StillSlot slots ps → PartsStill seen (slots_disks slots) ps
  parts_still [] [] z = tt
  parts_still [] (p ∷ ps) z = absurd z
  parts_still (s ∷ slots) [] z = absurd z
  parts_still (s ∷ slots) (p ∷ ps) z = (z.0, parts_still slots ps z.1)

  pub still_parts : (slots : List (PartSlot D)) (ps : List HostedPart) → AllZip (IsPartSlot seen) slots ps
      → PartsStill seen (slots_disks slots) ps
  still_parts slots ps z = parts_still slots ps (zip_weaker (IsPartSlot seen) StillSlot slot_still slots ps z)

  pub still_foreign : (slot : ForeignSlot D) (s : ForeignShardState) → IsSlot seen slot s → ForeignStill seen s (foreign_disks slot)
  still_foreign (foreign.Open store) s k = record {
    stand = carried_stands seen store s k.carries;
    told = k.told;
    second_told = k.second_told;
  }
  still_foreign (foreign.Shut first second) s k = absurd k
  still_foreign foreign.Gone s k = absurd k

  pub still_all : (hosts : HostsParts D) (s : Shards) → K hosts s → StandStill seen s (disks_in hosts)
  still_all hosts s k = record { parts = still_parts hosts.parts s.parts k.parts; foreign = still_foreign hosts.foreign s.foreign k.foreign }

  pub leads_to : (old new : HostsParts D) (s : Shards) (P Q : Shards → Option ShardCall → Shards → Type 0)
      → ((a : Shards) (call : Option ShardCall) (b : Shards) → P a call b → Q a call b) → L old s new P → L old s new Q
  leads_to old new s P Q f l = record {
    after = l.after;
    call = l.call;
    carried = l.carried;
    does = f s l.call l.after l.does;
    disks = l.disks;
    ends = l.ends;
    ends_later = l.ends_later;
  }

  pub halts_so : {old : HostsParts D} (new : HostsParts D) (s : Shards) (P Q : Shards → Option ShardCall → Shards → Type 0)
      → ((a : Shards) (call : Option ShardCall) (b : Shards) → P a call b → Q a call b) → H old s new P → H old s new Q
  halts_so new s P Q f h = record {
    after = h.after;
    still = h.still;
    ends_later = h.ends_later;
    reach = h.reach;
    does = go h.does;
  }
    where
      go : ((h.after ≡ s) ⊎ ((call : Option ShardCall) × P s call h.after)) → (h.after ≡ s) ⊎ ((call : Option ShardCall) × Q s call h.after)
      go (inl same) = inl same
      go (inr r) = inr (r.0, f s r.0 h.after r.1)

  -- shards that led to this are found with it where memory ran out afterwards
  pub leads_halts : (old new : HostsParts D) (s : Shards) (P Q : Shards → Option ShardCall → Shards → Type 0)
      → ((a : Shards) (call : Option ShardCall) (b : Shards) → P a call b → Q a call b) → L old s new P → H old s new Q
  leads_halts old new s P Q f l = record {
    after = l.after;
    still = still_all new l.after l.carried;
    ends_later = l.ends_later;
    reach = reach_all seen new l.after l.carried;
    does = inr (l.call, f s l.call l.after l.does);
  }

  least : (n : ℕ) → n ≤ n
  least n = omega arith

  -- nothing was called
  pub stays : (hosts : HostsParts D) (s : Shards) (P : Shards → Option ShardCall → Shards → Type 0) → K hosts s → P s None s → L hosts s hosts P
  stays hosts s P k r = record {
    after = s;
    call = None;
    carried = k;
    does = r;
    disks = λ name one. refl;
    ends = λ name away. refl;
    ends_later = λ name is. least (ends_in hosts name);
  }

  pub halts_still : (hosts : HostsParts D) (s : Shards) (P : Shards → Option ShardCall → Shards → Type 0) → K hosts s → H hosts s hosts P
  halts_still hosts s P k = record {
    after = s;
    still = still_all hosts s k;
    ends_later = λ name is. least (ends_in hosts name);
    reach = reach_all seen hosts s k;
    does = inl refl;
  }

  -- ---- a call on foreign state

  -- what is known of the one or the other disk
  abbrev either : Bool → D → D → Facts
  either b first second = record {
    faults = cond b (seen first).faults (seen second).faults;
    losses = cond b (seen first).losses (seen second).losses;
    arms = cond b (seen first).arms (seen second).arms;
    armed = cond b (seen first).armed (seen second).armed;
  }

  abbrev entry_facts : List ℕ × Option D → Facts
  entry_facts e = facts_at seen e.1

  -- one of the broker's disks has this name
  abbrev pub IsHis : HostsParts D → List ℕ → Type 0
  IsHis old name = IsOneOf (all_names (hosted_slots old.parts)) name

  rose_weaker : (P Q : Type 0) → (P → Q) → (end : ℕ) (s after : ForeignShardState) (op : ForeignOp) (answer : ForeignAnswer) (fault : Option StoreFault)
      → StepsForeign P end s op answer fault after → StepsForeign Q end s op answer fault after
  rose_weaker P Q f end s after op answer None step = step
  rose_weaker P Q f end s after op answer (Some Device) step = (step.0, f step.1, step.2)
  rose_weaker P Q f end s after op answer (Some (Full at)) step = step

  -- where one of two counts rose, their sum did
  rose_first : (a b c d : ℕ) → Rose a c → b ≤ d → Rose (a + b) (c + d)
  rose_first a b c d rose later = omega (arith, rose, later)

  rose_second : (a b c d : ℕ) → a ≤ c → Rose b d → Rose (a + b) (c + d)
  rose_second a b c d later rose = omega (arith, rose, later)

  module _ (old : HostsParts D) (was is : StoreParts D) (opened : old.foreign ≡ foreign.Open was) (apart : AreApart old)
      (first_on : RunsOn seen was.journal.first.disk is.journal.first.disk) (second_on : RunsOn seen was.journal.second.disk is.journal.second.disk) where
    abbrev next : HostsParts D
    next = record { parts = old.parts; members = old.members; foreign = foreign.Open is }

    abbrev names : List (List ℕ)
    names = part_disks (hosted_slots old.parts)

    no_a : NotIn names state_a
    no_a = not_a_part (hosted_slots old.parts) apart

    no_b : NotIn names state_b
    no_b = not_a_part_too (hosted_slots old.parts) apart

    past_parts : (left : Option (D × D)) (name : List ℕ) → NotIn names name → among (λ (e : List ℕ × Option D). e.0) entry_facts (slots_disks old.parts)
        (foreign_facts seen left name) name ≡ foreign_facts seen left name
    past_parts left name n =
        among_past (λ (e : List ℕ × Option D). e.0) entry_facts (slots_disks old.parts) (foreign_facts seen left name) name
        (subst (λ (l : List (List ℕ)). NotIn l name) (sym (disk_names old.parts)) n)

    was_at : (name : List ℕ) → NotIn names name → F old name ≡ either (same_name name state_a) was.journal.first.disk was.journal.second.disk
    was_at name n = past_parts (foreign_disks old.foreign) name n ∙ ap (λ (f : ForeignSlot D). foreign_facts seen (foreign_disks f) name) opened

    is_at : (name : List ℕ) → NotIn names name → F next name ≡ either (same_name name state_a) is.journal.first.disk is.journal.second.disk
    is_at name n = past_parts (foreign_disks (foreign.Open is)) name n

    was_first : F old state_a ≡ facts_of seen was.journal.first.disk
    was_first = was_at state_a no_a

    was_second : F old state_b ≡ facts_of seen was.journal.second.disk
    was_second = was_at state_b no_b

    is_first : F next state_a ≡ facts_of seen is.journal.first.disk
    is_first = is_at state_a no_a

    is_second : F next state_b ≡ facts_of seen is.journal.second.disk
    is_second = is_at state_b no_b

    abbrev Called : List ℕ → Type 0
    Called name = OnCalled (has_disk foreign_store name) (F old name) (F next name)

    parts_on : (name : List ℕ) → IsOneOf names name → Called name
    parts_on name one =
        among_zip (λ (e : List ℕ × Option D). e.0) entry_facts (λ (e : List ℕ × Option D). e.0) entry_facts
        (OnCalled (has_disk foreign_store name)) (slots_disks old.parts) (slots_disks old.parts)
        (zip_same (λ (e f : List ℕ × Option D). (f.0 ≡ e.0) × OnCalled (has_disk foreign_store name) (entry_facts e) (entry_facts f))
        (λ e. (refl, called_same (has_disk foreign_store name) (entry_facts e))) (slots_disks old.parts))
        (foreign_facts seen (foreign_disks old.foreign) name) (foreign_facts seen (foreign_disks (foreign.Open is)) name) name
        (λ n. absurd (not_both names name (subst (λ (l : List (List ℕ)). NotIn l name) (disk_names old.parts) n) one))

    first_called : IsUsed (facts_of seen was.journal.first.disk) (facts_of seen is.journal.first.disk) → Called state_a
    first_called used = subst (λ (f : Facts). IsUsed f (F next state_a)) (sym was_first)
        (subst (λ (f : Facts). IsUsed (facts_of seen was.journal.first.disk) f) (sym is_first) used)

    second_called : IsUsed (facts_of seen was.journal.second.disk) (facts_of seen is.journal.second.disk) → Called state_b
    second_called used = subst (λ (f : Facts). IsUsed f (F next state_b)) (sym was_second)
        (subst (λ (f : Facts). IsUsed (facts_of seen was.journal.second.disk) f) (sym is_second) used)

    foreign_disks_on : IsUsed (facts_of seen was.journal.first.disk) (facts_of seen is.journal.first.disk)
        → IsUsed (facts_of seen was.journal.second.disk) (facts_of seen is.journal.second.disk) → (name : List ℕ) → IsHis old name → Called name
    foreign_disks_on used second_used name one = go (one_in_either names (state_a ∷ state_b ∷ []) name one) where
      go : IsOneOf names name ⊎ IsOneOf (state_a ∷ state_b ∷ []) name → Called name
      go (inl part) = parts_on name part
      go (inr (inl e)) = subst Called (sym e) (first_called used)
      go (inr (inr (inl e))) = subst Called (sym e) (second_called second_used)
      go (inr (inr (inr never))) = absurd never

    foreign_ends_on : (name : List ℕ) → has_disk foreign_store name ≡ false → ends_in next name ≡ ends_in old name
    foreign_ends_on name away =
        let not_first = neither (same_name name state_a) (same_name name state_b) away in
        ap (λ (n : ℕ). among (λ (e : List ℕ × ℕ). e.0) (λ (e : List ℕ × ℕ). e.1) (flat_map slot_ends old.parts) n name)
        (ap (λ (b : Bool). cond b is.journal.end 0) not_first
        ∙ sym (ap (λ (f : ForeignSlot D). foreign_end f name) opened ∙ ap (λ (b : Bool). cond b was.journal.end 0) not_first))

    foreign_later : LogsLater (ends_in old) (ends_in next)
    foreign_later = names_later seen old next (zip_same (SlotLater seen) (same_later seen) old.parts)

    end_was : ends_in old state_a ≡ was.journal.end
    end_was =
        among_past (λ (e : List ℕ × ℕ). e.0) (λ (e : List ℕ × ℕ). e.1) (flat_map slot_ends old.parts) (foreign_end old.foreign state_a) state_a
        (subst (λ (l : List (List ℕ)). NotIn l state_a) (sym (end_names old.parts)) no_a)
        ∙ ap (λ (f : ForeignSlot D). foreign_end f state_a) opened

    rose_in_all : HasRisen seen was is → rose_on (N old next) foreign_store
    rose_in_all rose =
        subst (λ (n : ℕ). Rose n ((F next state_a).faults + (F next state_b).faults)) (sym before)
        (subst (λ (n : ℕ). Rose ((seen was.journal.first.disk).faults + (seen was.journal.second.disk).faults) n) (sym behind) (sum_rose rose))
      where
        before : (F old state_a).faults + (F old state_b).faults ≡ (seen was.journal.first.disk).faults + (seen was.journal.second.disk).faults
        before = λ i. (was_first i).faults + (was_second i).faults

        behind : (F next state_a).faults + (F next state_b).faults ≡ (seen is.journal.first.disk).faults + (seen is.journal.second.disk).faults
        behind = λ i. (is_first i).faults + (is_second i).faults

        sum_rose : HasRisen seen was is
            → Rose ((seen was.journal.first.disk).faults + (seen was.journal.second.disk).faults)
            ((seen is.journal.first.disk).faults + (seen is.journal.second.disk).faults)
        sum_rose (inl one) = rose_first (seen was.journal.first.disk).faults (seen was.journal.second.disk).faults
            (seen is.journal.first.disk).faults (seen is.journal.second.disk).faults one second_on.later
        sum_rose (inr one) = rose_second (seen was.journal.first.disk).faults (seen was.journal.second.disk).faults
            (seen is.journal.first.disk).faults (seen is.journal.second.disk).faults first_on.later one

    foreign_steps : (s after : ForeignShardState) (op : ForeignOp) (answer : ForeignAnswer) (fault : Option StoreFault)
        → StepsForeign (HasRisen seen was is) was.journal.end s op answer fault after
        → StepsForeign (rose_on (N old next) foreign_store) (ends_in old state_a) s op answer fault after
    foreign_steps s after op answer fault step =
        subst (λ (n : ℕ). StepsForeign (rose_on (N old next) foreign_store) n s op answer fault after) (sym end_was)
        (rose_weaker (HasRisen seen was is) (rose_on (N old next) foreign_store) rose_in_all was.journal.end s after op answer fault step)

    foreign_carried : (s : Shards) → K old s → C was s.foreign
    foreign_carried s k = subst (λ (f : ForeignSlot D). IsSlot seen f s.foreign) opened k.foreign

    module _ (now : ℕ) (op : ForeignOp) (part : Part) (is_asked : Some (Foreign op) ≡ Some part) (answer : ForeignAnswer)
        (acts : AnswersForeign seen op answer was is) where
      pub foreign_leads : ((seen is.journal.first.disk).starved ≡ false) × ((seen is.journal.second.disk).starved ≡ false)
          → LeadsBy seen old next (λ counts ends. Did counts ends now part (AnswerForeign answer))
      foreign_leads fed s k =
          let t = foreign_carried s k in
          let r = acts.steps s.foreign t.carries in
          record {
            after = record { parts = s.parts; members = s.members; foreign = r.0 };
            call = Some (CallForeign op answer r.1);
            carried = record {
              parts = k.parts;
              members = k.members;
              foreign = record {
                carries = r.2;
                told = first_on.told ∙ t.told;
                second_told = second_on.told ∙ t.second_told;
                fed = fed.0;
                second_fed = fed.1;
              };
            };
            does = (CallForeign op answer r.1, refl, answered_as (Foreign op) part (AnswerForeign answer) is_asked, (foreign_steps s.foreign r.0 op answer r.1 r.3, refl, refl));
            disks = foreign_disks_on
                (used_on seen was.journal.first.disk is.journal.first.disk first_on t.told fed.0)
                (used_on seen was.journal.second.disk is.journal.second.disk second_on t.second_told fed.1);
            ends = foreign_ends_on;
            ends_later = foreign_later;
          }

      -- and where a disk found no memory, behind it
      pub foreign_whole : HaltsBy seen old next (λ counts ends a call b. (answer : PartAnswer) × Did counts ends now part answer a call b)
      foreign_whole s k =
          let t = foreign_carried s k in
          let r = acts.steps s.foreign t.carries in
          record {
            after = record { parts = s.parts; members = s.members; foreign = r.0 };
            still = record {
              parts = still_parts old.parts s.parts k.parts;
              foreign = record {
                stand = carried_stands seen is r.0 r.2;
                told = first_on.told ∙ t.told;
                second_told = second_on.told ∙ t.second_told;
              };
            };
            ends_later = foreign_later;
            reach = names_reach seen (λ n. n) refl next next (slots_reach seen (IsPartSlot seen) (slot_reaches seen) old.parts s.parts k.parts);
            does = inr (
              Some (CallForeign op answer r.1),
              (AnswerForeign answer, (CallForeign op answer r.1, refl, answered_as (Foreign op) part (AnswerForeign answer) is_asked, (foreign_steps s.foreign r.0 op answer r.1 r.3, refl, refl))),
            );
          }

    pub foreign_refused : (s : Shards) (P : Shards → Option ShardCall → Shards → Type 0) → is ≡ was → K old s → H old s next P
    foreign_refused s P same k =
        subst (λ (f : ForeignSlot D). H old s (record { parts = old.parts; members = old.members; foreign = f }) P)
        (opened ∙ ap (λ (p : StoreParts D). foreign.Open p) (sym same)) (halts_still old s P k)

  -- ---- any disks

  pub least_on : (d : D) → GoesOn seen d d
  least_on d = record { later = (let n = (seen d).faults in omega arith); told = refl }

  pub same_goes : (e : List ℕ × Option D) → DiskGoesOn seen e e
  same_goes e = record { name = refl; goes = go e.1 } where
    go : (o : Option D) → GoesOnIf seen o o
    go (Some d) = least_on d
    go None = tt

  pub same_both : (o : Option (D × D)) → BothGoOn seen o o
  same_both (Some d) = (least_on d.0, least_on d.1)
  same_both None = tt

  pub go_on_same : (left : LeftDisks D) → GoOn seen left left
  go_on_same left = record { parts = zip_same (DiskGoesOn seen) same_goes left.parts; foreign = same_both left.foreign }

  pub stays_same : (hosts : HostsParts D) → AreOpen hosts → StaysOpen seen hosts hosts
  stays_same hosts opened = record { disks = go_on_same (disks_in hosts); are_open = opened; hosted = record { hosted = refl; topics = refl } }

  pub foreign_stays : (old : HostsParts D) (was is : StoreParts D) → AreOpen old → old.foreign ≡ foreign.Open was
      → RunsOn seen was.journal.first.disk is.journal.first.disk → RunsOn seen was.journal.second.disk is.journal.second.disk
      → StaysOpen seen old (record { parts = old.parts; members = old.members; foreign = foreign.Open is })
  foreign_stays old was is o opened first second = record {
    disks = record {
      parts = zip_same (DiskGoesOn seen) same_goes (slots_disks old.parts);
      foreign = subst (λ (f : ForeignSlot D). BothGoOn seen (foreign_disks f) (Some (is.journal.first.disk, is.journal.second.disk))) (sym opened)
          (record { later = first.later; told = first.told }, record { later = second.later; told = second.told });
    };
    are_open = record { parts = o.parts; foreign = tt };
    hosted = record { hosted = refl; topics = refl };
  }

  -- ---- the members of groups

  abbrev with_members : HostsParts D → Memberships → HostsParts D
  with_members old members = record { parts = old.parts; members = members; foreign = old.foreign }

  pub members_stay : (old : HostsParts D) (members : Memberships) → AreOpen old → members.topics ≡ old.members.topics
      → StaysOpen seen old (with_members old members)
  members_stay old members o same = record {
    disks = go_on_same (disks_in old);
    are_open = record { parts = o.parts; foreign = o.foreign };
    hosted = record { hosted = refl; topics = same };
  }

  pub members_lead : (old : HostsParts D) (members : Memberships) (did : MembersCall) (now : ℕ) → StepsMembers now old.members did members
      → LeadsBy seen old (with_members old members)
      (λ counts ends a call b. (call ≡ Some (CallMembers did)) × StepsShards counts ends now a (CallMembers did) b)
  members_lead old members did now steps s k = record {
    after = record { parts = s.parts; members = members; foreign = s.foreign };
    call = Some (CallMembers did);
    carried = record { parts = k.parts; members = refl; foreign = k.foreign };
    does = (refl, (subst (λ (m : Memberships). StepsMembers now m did members) (sym k.members) steps, refl, refl));
    disks = λ name one. refl;
    ends = λ name away. refl;
    ends_later = λ name is. least (ends_in old name);
  }

  pub members_beat : (old : HostsParts D) (members : Memberships) (now : ℕ) (request : HeartbeatRequest) (part : Part)
      → Some (Heartbeat request) ≡ Some part → (reply : HeartbeatReply) → StepsMembers now old.members (Beats request reply) members
      → LeadsBy seen old (with_members old members) (λ counts ends. Did counts ends now part (AnswerHeartbeat reply))
  members_beat old members now request part is_asked reply steps s k =
      leads_to old (with_members old members) s _ _
      (λ a call b d. (CallMembers (Beats request reply), d.0, answered_as (Heartbeat request) part (AnswerHeartbeat reply) is_asked, d.1))
      (members_lead old members (Beats request reply) now steps s k)

  pub members_halt : (hosts : HostsParts D) (members : Memberships) (s : Shards) (P : Shards → Option ShardCall → Shards → Type 0)
      → members ≡ hosts.members → K hosts s → H hosts s (with_members hosts members) P
  members_halt hosts members s P same k =
      subst (λ (m : Memberships). H hosts s (with_members hosts m) P) (sym same) (halts_still hosts s P k)
