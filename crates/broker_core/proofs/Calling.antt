-- Calls on the shard of a hosted partition, seen by all shards.
use Rattle.std.proofs.Common.{◌≡◌, ◌⊎◌, inl, inr, refl, sym, ap, ◌∙◌, subst, ℕ, List, false, Some, Result, Ok, Err, IfOk, OnErr}
use Rattle.flex_fields.specs.declared.fault.NoMemory.{NoMemory as Want}
use Rattle.std.specs.List.{AllZip}
use Rattle.std.specs.declared.option.Option.{Option}
use Rattle.edge_io.specs.declared.name.DiskPlace.{DiskPlace}
use Rattle.edge_io.specs.declared.name.DiskPlace.TheVariants.{Log, StateA, StateB}
use Rattle.share_part.specs.Hosting.{PartConfParts}
use Rattle.broker_model.specs.Hosted.{ChangesAt, HoldsAt, Hosted, first_of, log_of, part_disks, second_of}
use Rattle.broker_model.specs.Shards.{Counts, HostedPart, PartCall, Shards, ShardCall, StepsHosted, part_calls}
use Rattle.broker_model.specs.Shards.ShardCall.{CallPart}
use Rattle.broker_model.specs.Disks.{Facts, OnCalled}
use Rattle.broker_model.proofs.Lists.{change_of, changes_so}
use Rattle.broker_hosts.specs.declared.slot.PartState.{PartState}
use Rattle.broker_hosts.specs.declared.slot.PartSlot.{PartSlot}
use Rattle.broker_model.specs.Acting.{EndsGoOn, StepsOn}
use Rattle.edge_io.specs.Disk.{IsTold}
use Rattle.broker_shards.specs.declared.part.PartAsk.{PartAsk}
use Rattle.broker_shards.specs.declared.part.PartTold.{PartTold}
use Rattle.broker_hosts.specs.Carried.{GoesOn, IsPartCarried, OpenPart}
use Rattle.broker_core.specs.PartCalls.{IsCall, PartGoesOn, Uses}
use Rattle.broker_hosts.specs.Hosts.{AreApart, AreCarried, AreDistinct, AreOpen, HostsParts, IsOpenState, IsPartSlot, IsPartState, among, disks_in, ends_in, facts_at, facts_in, foreign_disks, foreign_end, foreign_facts, hosted_slot, hosted_slots, open_disk, part_disk, slot_disks, slot_ends}
use Rattle.broker_core.specs.Calls.{DidPart, DiskGoesOn, GoesOnIf, Halts, HaltsSlot, Leads, LeadsSlot, LogsLater, StaysOpen, counts_in, ends_over}
use Rattle.broker_core.proofs.Flats.{among_changed, zip_flat}
use Rattle.broker_core.proofs.Leading.{StillSlot, halts_still, open_still, parts_apart, parts_still, same_both, same_goes, slot_still, stays_same, still_foreign}
use Rattle.broker_core.proofs.Reaching.{SlotLater, SlotReaches, names_later, names_reach, open_reaches, same_later, slot_later, slot_reaches, slots_reach}
use Rattle.broker_hosts.proofs.Places.{Changed, changed, changes_all, changes_either, changes_not, changes_same, changes_zip, zip_same, zip_weaker}
use Rattle.broker_core.proofs.Slots.{AreOf, Turns, are_of, called_same, slot_end_stays, slot_used, step_named}
use Rattle.edge_io.specs.Views.{DiskView}

module _ {D : Type 0} (seen : D → DiskView) where
  abbrev F : HostsParts D → List ℕ → Facts
  F hosts name = facts_in seen (disks_in hosts) name

  abbrev N : HostsParts D → HostsParts D → Counts
  N old new = counts_in seen (disks_in old) (disks_in new)

  abbrev K : HostsParts D → Shards → Type 0
  K hosts s = AreCarried seen hosts s

  abbrev T : PartSlot D → PartSlot D → OpenPart D → OpenPart D → Type 0
  T x y was is = Turns seen x y was is

  abbrev LeadsS : ℕ → PartCall → PartSlot D → PartSlot D → Type 0
  LeadsS now did x y = LeadsSlot seen now did x y

  abbrev HaltsS : ℕ → (PartCall → Type 0) → PartSlot D → PartSlot D → Type 0
  HaltsS now Whole x y = HaltsSlot seen now Whole x y

  -- the same partition, with other parts of one hosts
  abbrev pub with_parts : HostsParts D → List (PartSlot D) → HostsParts D
  with_parts old ys = record { parts = ys; members = old.members; foreign = old.foreign }

  -- ---- what any call leaves

  -- a slot whose shard was called
  pub record Turned (x y : PartSlot D) : Type 0 where
    pub was : OpenPart D
    pub is : OpenPart D
    pub turns : T x y was is
    pub goes : PartGoesOn seen was is

  pub turned_leads : (now : ℕ) (did : PartCall) (x y : PartSlot D) → LeadsS now did x y → Turned x y
  turned_leads now did x y p = record {
    was = p.was;
    is = p.is;
    turns = record { old_is = p.old_is; new_is = p.new_is; hosted = λ i. record { topic = p.topic i; conf = p.conf i } };
    goes = p.goes;
  }

  pub turned_halts : (now : ℕ) (Whole : PartCall → Type 0) (x y : PartSlot D) → HaltsS now Whole x y → Turned x y
  turned_halts now Whole x y p = record {
    was = p.was;
    is = p.is;
    turns = record { old_is = p.old_is; new_is = p.new_is; hosted = λ i. record { topic = p.topic i; conf = p.conf i } };
    goes = p.goes;
  }

  abbrev SlotGoesOn : PartSlot D → PartSlot D → Type 0
  SlotGoesOn x y = AllZip (DiskGoesOn seen) (slot_disks x) (slot_disks y)

  pub open_goes : (x y : PartSlot D) (was is : OpenPart D) → T x y was is → (place : DiskPlace) → GoesOn seen (open_disk was place) (open_disk is place)
      → GoesOnIf seen (part_disk x.state place) (part_disk y.state place)
  open_goes x y was is t place g =
      subst (λ (s : PartState D). GoesOnIf seen (part_disk s place) (part_disk y.state place)) (sym t.old_is)
      (subst (λ (s : PartState D). GoesOnIf seen (Some (open_disk was place)) (part_disk s place)) (sym t.new_is) g)

  pub slot_goes : (x y : PartSlot D) → Turned x y → SlotGoesOn x y
  slot_goes x y t = (
    record { name = ap (λ (h : Hosted). log_of h) t.turns.hosted; goes = open_goes x y t.was t.is t.turns Log t.goes.log },
    (
      record { name = ap (λ (h : Hosted). first_of h) t.turns.hosted; goes = open_goes x y t.was t.is t.turns StateA t.goes.first },
      (record { name = ap (λ (h : Hosted). second_of h) t.turns.hosted; goes = open_goes x y t.was t.is t.turns StateB t.goes.second }, tt),
    ),
  )

  slot_same : (x : PartSlot D) → SlotGoesOn x x
  slot_same x = zip_same (DiskGoesOn seen) (same_goes seen) (slot_disks x)

  pub turned_stays : (old : HostsParts D) (ys : List (PartSlot D)) (n : ℕ) → AreOpen old → ChangesAt n Turned old.parts ys
      → StaysOpen seen old (with_parts old ys)
  turned_stays old ys n o c = record {
    disks = record {
      parts = zip_flat SlotGoesOn (DiskGoesOn seen) slot_disks slot_disks (λ x y z. z) old.parts ys
          (changes_zip Turned SlotGoesOn slot_same slot_goes n old.parts ys c);
      foreign = same_both seen (foreign_disks old.foreign);
    };
    are_open = record {
      parts = changes_all Turned (λ s. IsOpenState s.state) (λ x y t. subst IsOpenState (sym t.turns.new_is) tt) n old.parts ys c o.parts;
      foreign = o.foreign;
    };
    hosted = record { hosted = changes_same hosted_slot Turned (λ x y t. t.turns.hosted) n old.parts ys c; topics = refl };
  }

  -- ---- a call that was done

  record GoesPart (now : ℕ) (did : PartCall) (x y : PartSlot D) (e f : HostedPart) : Type 0 where
    was : OpenPart D
    is : OpenPart D
    turns : T x y was is
    e_is : e.hosted ≡ hosted_slot x
    f_is : f.hosted ≡ hosted_slot x
    told : IsTold (seen was.log.journal.disk).content
    step : StepsOn seen x.conf was is now e.shard did f.shard
    ends : EndsGoOn was is
    used : Uses seen was is did

  slot_leads : (now : ℕ) (did : PartCall) (x y : PartSlot D) (e : HostedPart) → LeadsS now did x y → IsPartSlot seen x e
      → (f : HostedPart) × IsPartSlot seen y f × GoesPart now did x y e f
  unfolding turned_leads
  slot_leads now did x y e p k =
      let its : IsPartCarried seen x.conf p.was e.shard = subst (λ (s : PartState D). IsPartState seen x.conf s e.shard) p.old_is k.state in
      let l = p.leads e.shard its in (
        record { hosted = hosted_slot x; shard = l.after },
        record {
          hosted = λ i. record { topic = sym p.topic i; conf = sym p.conf i };
          state =
              subst (λ (c : PartConfParts). IsPartState seen c y.state l.after) (sym p.conf)
              (subst (λ (s : PartState D). IsPartState seen x.conf s l.after) (sym p.new_is) l.carried);
        },
        record {
          was = p.was;
          is = p.is;
          turns = (turned_leads now did x y p).turns;
          e_is = k.hosted;
          f_is = refl;
          told = its.log.told;
          step = l.step;
          ends = l.ends;
          used = l.used;
        },
      )

  keep_slot : (x : PartSlot D) (e : HostedPart) → IsPartSlot seen x e → IsPartSlot seen x e
  keep_slot x e k = k

  -- one slot changed
  module _ (old : HostsParts D) (ys : List (PartSlot D)) (n : ℕ) (x y : PartSlot D) (there : HoldsAt n (λ z. z ≡ x) old.parts)
      (here : HoldsAt n (λ z. z ≡ y) ys) (exact : ChangesAt n (λ a b. (a ≡ x) × (b ≡ y)) old.parts ys) (hosted : hosted_slot y ≡ hosted_slot x)
      (apart : AreApart old) where
    abbrev Is : PartSlot D → PartSlot D → Type 0
    Is a b = (a ≡ x) × (b ≡ y)

    hosted_then : hosted_slots ys ≡ hosted_slots old.parts
    hosted_then = changes_same hosted_slot Is (λ a b is. ap hosted_slot is.1 ∙ hosted ∙ sym (ap hosted_slot is.0)) n old.parts ys exact

    pub of_slot : (was is : OpenPart D) → T x y was is
        → AreOf seen (hosted_slot x) was is (N old (with_parts old ys)) (ends_over old (with_parts old ys))
    of_slot was is t = are_of seen old (with_parts old ys) n x y was is there here t
        (parts_apart (hosted_slots old.parts) apart)
        (subst (λ (hs : List Hosted). AreDistinct (part_disks hs)) (sym hosted_then) (parts_apart (hosted_slots old.parts) apart))

    pub named_step : (now : ℕ) (did : PartCall) (e f : HostedPart) (was is : OpenPart D) → T x y was is → e.hosted ≡ hosted_slot x → f.hosted ≡ hosted_slot x
        → IsTold (seen was.log.journal.disk).content → StepsOn seen x.conf was is now e.shard did f.shard → StepsHosted (N old (with_parts old ys)) (ends_over old (with_parts old ys)) now (hosted_slot x) did e f
    named_step now did e f was is t e_is f_is told step = record {
      was = e_is;
      is = f_is;
      step = step_named seen (hosted_slot x) was is (N old (with_parts old ys)) (ends_over old (with_parts old ys)) (of_slot was is t)
          told now e.shard did f.shard step.step;
      quiet = λ none. subst (λ (c : ℕ × ℕ). c.1 ≡ c.0) (sym (of_slot was is t).log) (step.quiet none told);
    }

    pub on_disks : (did : PartCall) (was is : OpenPart D) → T x y was is → Uses seen was is did → (name : List ℕ)
        → OnCalled (part_calls (hosted_slot x) did name) (F old name) (F (with_parts old ys) name)
    on_disks did was is t used name =
        among_changed (λ (e : List ℕ × Option D). e.0) (λ e. facts_at seen e.1) slot_disks
        (OnCalled (part_calls (hosted_slot x) did name)) (called_same (part_calls (hosted_slot x) did name)) name n old.parts ys
        (changes_so n Is (λ a b. (o : Facts) → OnCalled (part_calls (hosted_slot x) did name) (found a o) (found b o))
        (λ a b i o. subst (λ (s : PartSlot D). OnCalled (part_calls (hosted_slot x) did name) (found s o) (found b o)) (sym i.0)
        (subst (λ (s : PartSlot D). OnCalled (part_calls (hosted_slot x) did name) (found x o) (found s o)) (sym i.1)
        (slot_used seen x y was is did t used name o))) old.parts ys exact)
        (foreign_facts seen (foreign_disks old.foreign) name)
      where
        found : PartSlot D → Facts → Facts
        found s o = among (λ (e : List ℕ × Option D). e.0) (λ e. facts_at seen e.1) (slot_disks s) o name

    pub on_ends : (did : PartCall) (was is : OpenPart D) → T x y was is → Uses seen was is did → (name : List ℕ)
        → part_calls (hosted_slot x) did name ≡ false → ends_in (with_parts old ys) name ≡ ends_in old name
    on_ends did was is t used name away =
        among_changed (λ (e : List ℕ × ℕ). e.0) (λ (e : List ℕ × ℕ). e.1) slot_ends (λ (a b : ℕ). b ≡ a) (λ a. refl) name n old.parts ys
        (changes_so n Is (λ a b. (o : ℕ) → found b o ≡ found a o)
        (λ a b i o. ap (λ (s : PartSlot D). found s o) i.1 ∙ slot_end_stays seen x y was is did t used name o away
        ∙ sym (ap (λ (s : PartSlot D). found s o) i.0)) old.parts ys exact)
        (foreign_end old.foreign name)
      where
        found : PartSlot D → ℕ → ℕ
        found s o = among (λ (e : List ℕ × ℕ). e.0) (λ (e : List ℕ × ℕ). e.1) (slot_ends s) o name

    pub on_later : (was is : OpenPart D) → T x y was is → EndsGoOn was is → LogsLater (ends_in old) (ends_in (with_parts old ys))
    on_later was is t g =
        let later : SlotLater seen x y = slot_later seen x y was is t.old_is t.new_is t.hosted g.log in
        names_later seen old (with_parts old ys) (changes_zip Is (SlotLater seen) (same_later seen)
        (λ a b i. subst (λ (s : PartSlot D). SlotLater seen s b) (sym i.0) (subst (λ (s : PartSlot D). SlotLater seen x s) (sym i.1) later))
        n old.parts ys exact)

  pub part_leads : (old : HostsParts D) (ys : List (PartSlot D)) (n now : ℕ) (did : PartCall) → ChangesAt n (LeadsS now did) old.parts ys → AreApart old
      → (s : Shards) → K old s
      → Leads seen old s (with_parts old ys) (DidPart (N old (with_parts old ys)) (ends_over old (with_parts old ys)) now n did)
  part_leads old ys n now did changes apart s k =
      let c = changed (IsPartSlot seen) (IsPartSlot seen) keep_slot (LeadsS now did) (GoesPart now did) (slot_leads now did)
      n old.parts ys s.parts changes k.parts in
      let t = turned_leads now did c.x c.y c.change in
      record {
        after = record { parts = c.after; members = s.members; foreign = s.foreign };
        call = Some (CallPart n (hosted_slot c.x) did);
        carried = record { parts = c.zip; members = k.members; foreign = k.foreign };
        does = (
          hosted_slot c.x,
          refl,
          (
            changes_so n (GoesPart now did c.x c.y) (StepsHosted (N old (with_parts old ys)) (ends_over old (with_parts old ys)) now (hosted_slot c.x) did)
                (λ e f g. named_step old ys n c.x c.y c.there c.here c.exact t.turns.hosted apart now did e f g.was g.is g.turns g.e_is g.f_is g.told g.step)
                s.parts c.after c.goes,
            refl,
            refl,
          ),
        );
        disks = λ name one. change_of n (GoesPart now did c.x c.y)
            (λ e f g. on_disks old ys n c.x c.y c.there c.here c.exact t.turns.hosted apart did g.was g.is g.turns g.used name) s.parts c.after c.goes;
        ends = λ name away. change_of n (GoesPart now did c.x c.y)
            (λ e f g. on_ends old ys n c.x c.y c.there c.here c.exact t.turns.hosted apart did g.was g.is g.turns g.used name away) s.parts c.after c.goes;
        ends_later = change_of n (GoesPart now did c.x c.y)
            (λ e f g. on_later old ys n c.x c.y c.there c.here c.exact t.turns.hosted apart g.was g.is g.turns g.ends) s.parts c.after c.goes;
      }

  -- ---- a call in which no memory was found

  record HaltedPart (now : ℕ) (Whole : PartCall → Type 0) (x y : PartSlot D) (e f : HostedPart) : Type 0 where
    was : OpenPart D
    is : OpenPart D
    turns : T x y was is
    e_is : e.hosted ≡ hosted_slot x
    f_is : f.hosted ≡ hosted_slot x
    told : IsTold (seen was.log.journal.disk).content
    does : (f.shard ≡ e.shard) ⊎ ((did : PartCall) × Whole did × StepsOn seen x.conf was is now e.shard did f.shard)
    ends : EndsGoOn was is

  -- its disks stand for the shard, and that of its log reaches to where its journal ends
  record HaltedSlot (y : PartSlot D) (f : HostedPart) : Type 0 where
    still : StillSlot seen y f
    reaches : SlotReaches seen (λ n. n) y y

  keep_halted : (x : PartSlot D) (e : HostedPart) → IsPartSlot seen x e → HaltedSlot x e
  keep_halted x e k = record { still = slot_still seen x e k; reaches = slot_reaches seen x e k }

  slot_halts : (now : ℕ) (Whole : PartCall → Type 0) (x y : PartSlot D) (e : HostedPart) → HaltsS now Whole x y
      → IsPartSlot seen x e → (f : HostedPart) × HaltedSlot y f × HaltedPart now Whole x y e f
  unfolding turned_halts
  slot_halts now Whole x y e p k =
      let its : IsPartCarried seen x.conf p.was e.shard = subst (λ (s : PartState D). IsPartState seen x.conf s e.shard) p.old_is k.state in
      let h = p.halts e.shard its in (
        record { hosted = hosted_slot x; shard = h.after },
        record {
          still = open_still seen y (record { hosted = hosted_slot x; shard = h.after }) p.is p.new_is
              (λ i. record { topic = sym p.topic i; conf = sym p.conf i }) (h.conf_is ∙ sym p.conf) h.carries h.log_told h.first_told h.second_told;
          reaches = open_reaches seen y p.is h.after p.new_is h.carries;
        },
        record {
          was = p.was;
          is = p.is;
          turns = (turned_halts now Whole x y p).turns;
          e_is = k.hosted;
          f_is = refl;
          told = its.log.told;
          does = h.does;
          ends = h.ends;
        },
      )

  module _ (old : HostsParts D) (ys : List (PartSlot D)) (n now : ℕ) (Whole : PartCall → Type 0)
      (changes : ChangesAt n (HaltsS now Whole) old.parts ys) (apart : AreApart old) (s : Shards) (k : K old s) where
    abbrev c : Changed (IsPartSlot seen) HaltedSlot keep_halted (HaltsS now Whole) (HaltedPart now Whole)
        (slot_halts now Whole) n old.parts ys s.parts
    c = changed (IsPartSlot seen) HaltedSlot keep_halted (HaltsS now Whole) (HaltedPart now Whole)
        (slot_halts now Whole) n old.parts ys s.parts changes k.parts

    abbrev new : HostsParts D
    new = with_parts old ys

    -- it was done whole
    abbrev Does : PartCall → HostedPart → HostedPart → Type 0
    Does did e f = Whole did × StepsHosted (N old new) (ends_over old new) now (hosted_slot c.x) did e f

    hosted_is : hosted_slot c.y ≡ hosted_slot c.x
    hosted_is = (turned_halts now Whole c.x c.y c.change).turns.hosted

    halted : (e f : HostedPart) → HaltedPart now Whole c.x c.y e f → (f ≡ e) ⊎ ((did : PartCall) × Does did e f)
    halted e f g = go g.does where
      go : (f.shard ≡ e.shard) ⊎ ((did : PartCall) × Whole did × StepsOn seen c.x.conf g.was g.is now e.shard did f.shard)
          → (f ≡ e) ⊎ ((did : PartCall) × Does did e f)
      go (inl same) = inl (λ i. record { hosted = (g.f_is ∙ sym g.e_is) i; shard = same i })
      go (inr d) = inr (
        d.0,
        (
          d.1,
          named_step old ys n c.x c.y c.there c.here c.exact hosted_is apart now d.0 e f g.was g.is g.turns g.e_is g.f_is g.told d.2,
        ),
      )

    abbrev DoesAll : Shards → Option ShardCall → Shards → Type 0
    DoesAll a call b = (did : PartCall) × Whole did × DidPart (N old new) (ends_over old new) now n did a call b

    abbrev after : Shards
    after = record { parts = c.after; members = s.members; foreign = s.foreign }

    what_was_done : ChangesAt n (λ e f. f ≡ e) s.parts c.after ⊎ ((did : PartCall) × ChangesAt n (Does did) s.parts c.after)
        → (after ≡ s) ⊎ ((call : Option ShardCall) × DoesAll s call after)
    what_was_done (inl none) = inl (λ i. record { parts = changes_not n s.parts c.after none i; members = s.members; foreign = s.foreign })
    what_was_done (inr d) = inr (
      Some (CallPart n (hosted_slot c.x) d.0),
      (
        d.0,
        change_of n (Does d.0) (λ e f q. q.0) s.parts c.after d.1,
        (
          hosted_slot c.x,
          refl,
          (
            changes_so n (Does d.0) (StepsHosted (N old new) (ends_over old new) now (hosted_slot c.x) d.0) (λ e f q. q.1) s.parts c.after d.1,
            refl,
            refl,
          ),
        ),
      ),
    )

    pub halted_at : Halts seen old s new DoesAll
    halted_at = record {
      after = after;
      still = record {
        parts = parts_still seen ys c.after
            (zip_weaker HaltedSlot (StillSlot seen) (λ y f h. h.still) ys c.after c.zip);
        foreign = still_foreign seen old.foreign s.foreign k.foreign;
      };
      ends_later = change_of n (HaltedPart now Whole c.x c.y)
          (λ e f g. on_later old ys n c.x c.y c.there c.here c.exact hosted_is apart g.was g.is g.turns g.ends) s.parts c.after c.goes;
      reach = names_reach seen (λ n. n) refl new new (slots_reach seen HaltedSlot (λ y f h. h.reaches) ys c.after c.zip);
      does = what_was_done (changes_either (λ e f. f ≡ e) Does n s.parts c.after
          (changes_so n (HaltedPart now Whole c.x c.y) (λ e f. (f ≡ e) ⊎ ((did : PartCall) × Does did e f)) halted s.parts c.after c.goes));
    }

  -- a part whose shard isn't there is left as it was
  abbrev pub MayHalt : ℕ → ℕ → (PartCall → Type 0) → List (PartSlot D) → List (PartSlot D) → Type 0
  MayHalt n now Whole xs ys = (ys ≡ xs) ⊎ ChangesAt n (HaltsS now Whole) xs ys

  pub part_halts : (old : HostsParts D) (ys : List (PartSlot D)) (n now : ℕ) (Whole : PartCall → Type 0)
      → MayHalt n now Whole old.parts ys → AreApart old → (s : Shards) → K old s
      → Halts seen old s (with_parts old ys)
      (λ a call b. (did : PartCall) × Whole did × DidPart (N old (with_parts old ys)) (ends_over old (with_parts old ys)) now n did a call b)
  part_halts old ys n now Whole (inl same) apart s k =
      subst (λ (zs : List (PartSlot D)). Halts seen old s (with_parts old zs)
      (λ a call b. (did : PartCall) × Whole did × DidPart (N old (with_parts old zs)) (ends_over old (with_parts old zs)) now n did a call b)) (sym same)
      (halts_still seen old s _ k)
  part_halts old ys n now Whole (inr changes) apart s k = halted_at old ys n now Whole changes apart s k

  -- ---- what any act leaves

  abbrev pub MayTurn : ℕ → List (PartSlot D) → List (PartSlot D) → Type 0
  MayTurn n xs ys = (ys ≡ xs) ⊎ ChangesAt n Turned xs ys

  pub act_turns : (result : Result PartTold Want) (asked : PartAsk) (n now : ℕ) (Whole : PartCall → Type 0) (xs ys : List (PartSlot D))
      → IfOk result (λ told. (did : PartCall) × IsCall asked told did × ChangesAt n (LeadsS now did) xs ys)
      → OnErr result (MayHalt n now Whole xs ys) → MayTurn n xs ys
  act_turns (Ok told) asked n now Whole xs ys ok err = inr (changes_so n (LeadsS now ok.0) Turned (turned_leads now ok.0) xs ys ok.2)
  act_turns (Err fault) asked n now Whole xs ys ok (inl same) = inl same
  act_turns (Err fault) asked n now Whole xs ys ok (inr c) = inr (changes_so n (HaltsS now Whole) Turned (turned_halts now Whole) xs ys c)

  pub may_stay : (old : HostsParts D) (ys : List (PartSlot D)) (n : ℕ) → AreOpen old → MayTurn n old.parts ys
      → StaysOpen seen old (with_parts old ys)
  may_stay old ys n o (inl same) = subst (λ (zs : List (PartSlot D)). StaysOpen seen old (with_parts old zs)) (sym same) (stays_same seen old o)
  may_stay old ys n o (inr changes) = turned_stays old ys n o changes
