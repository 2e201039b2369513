-- A start over a bay, and its end.
use Rattle.std.proofs.Common.{◌≡◌, ◌≢◌, ◌≤◌, ◌<◌, ◌-◌, ◌^◌, ◌⊎◌, arith, inl, inr, refl, sym, ap, ◌∙◌, subst, ℕ, List, [], ◌∷◌, ◌++◌, Bool, true, false, cond, Some, None, is_some}
use Rattle.std.specs.List.{AllByRecursion, AllZip}
use Rattle.std.specs.declared.option.Option.{Option}
use Rattle.edge_io.specs.declared.name.DiskPlace.TheVariants.{Log, StateA, StateB}
use Rattle.edge_io.specs.Bays.{IsAsTold, IsSound, SameSlot}
use Rattle.edge_io.specs.Causes.{Rose}
use Rattle.share_part.specs.Shards.{shard_with}
use Rattle.topic_conf.specs.Configs.{ConfigParts}
use Rattle.topic_conf.specs.Topics.{IsTopicList}
use Rattle.broker_model.specs.Hosted.{Hosted, IsOneOf, IsTaken, disks_of, first_of, hosted_of, log_of, part_disks, same_name, second_of, state_a, state_b}
use Rattle.broker_model.specs.Shards.{HostedPart, hosted_by}
use Rattle.broker_model.specs.Machine.{Machine, OpensPart}
use Rattle.broker_model.specs.Disks.{Disks, Facts, facts_of}
use Rattle.broker_hosts.specs.declared.fault.CoreOpen.{CoreOpen}
use Rattle.broker_hosts.specs.declared.fault.CoreOpen.TheVariants.{Damaged, Device, Bay, NoMemory}
use Rattle.broker_hosts.specs.declared.slot.ForeignSlot.{ForeignSlot}
use Rattle.broker_hosts.specs.declared.slot.PartState.{PartState}
use Rattle.broker_hosts.specs.declared.slot.PartSlot.{PartSlot}
use Rattle.broker_hosts.specs.Openings.{IsDamagedDisk, IsOpened, IsOpenedDisk, StandsForTables}
use Rattle.broker_hosts.specs.Bays.{ArePutBack, AreOut, AreTakenFrom, BothHold, BothRisen, BothTaken, HasLastCount, HasName, HasRisen, HoldsIf, IsFirst, IsOfDevice, StandForAll, StaysAs, TellsDisks}
use Rattle.broker_hosts.specs.Hosts.{state_over, AreApart, AreCarried, AreDistinct, AreHeld, AreNamed, AreOpen, HostsParts, IsHeld, IsOpen, IsPartSlot, IsPartState, IsSlot, NotIn, all_names, among, disks_in, facts_at, facts_in, foreign_disks, foreign_facts, hosted_slot, hosted_slots, part_disk, slots_disks}
use Rattle.broker_hosts.specs.Taking.{Moves, PutsAll, PutsAllBack, PutsBack, RefusesAll, RefusesAt, RefusesForeign, TakesAll, TakesParts, TellsThese}
use Rattle.broker_hosts.proofs.Places.{among_past, apart_from, distinct_front, is_same, not_both, not_in_front, not_in_rest, one_in_either, one_in_front, one_in_rest, same_self}
use Rattle.broker_hosts.proofs.Naming.{are_disk_names, distinct_names, named_of, not_in_both, states_apart}
use Rattle.broker_hosts.proofs.Taking.{moves_same, moves_then, named, put_moves, put_taken, puts_hold, puts_in, puts_moves, puts_others, puts_rise, puts_taken, rose_between, slot_same, slot_then, stays_between, stays_same}
use Rattle.broker_hosts.proofs.Partitions.{IsTakenSlot, disks_then, names_of_disks, slots_counted, slots_open, slots_stay, takes_held, takes_hosts, takes_moves, takes_others, takes_out, takes_slots}
use Rattle.edge_io.specs.Views.{DiskView, BayView}

-- a name is one of these, or none of them
pub one_or_none : (names : List (List ℕ)) (name : List ℕ) → IsOneOf names name ⊎ NotIn names name
one_or_none [] name = inr tt
one_or_none (n ∷ names) name = go (same_name name n) refl (one_or_none names name) where
  go : (b : Bool) → same_name name n ≡ b → IsOneOf names name ⊎ NotIn names name → IsOneOf (n ∷ names) name ⊎ NotIn (n ∷ names) name
  go true is rest = inl (inl (is_same name n is))
  go false is (inl one) = inl (inr one)
  go false is (inr away) = inr (λ e. (let bad : true ≡ false = sym (subst (λ (m : List ℕ). same_name name m ≡ true) e (same_self name)) ∙ is in cc), away)

pub no_state_a : (hosted : List Hosted) → AreDistinct (all_names hosted) → NotIn (part_disks hosted) state_a
no_state_a hosted d = apart_from (part_disks hosted) (state_a ∷ state_b ∷ []) state_a d (inl refl)

pub no_state_b : (hosted : List Hosted) → AreDistinct (all_names hosted) → NotIn (part_disks hosted) state_b
no_state_b hosted d = apart_from (part_disks hosted) (state_a ∷ state_b ∷ []) state_b d (inr (inl refl))

none_of : (names : List (List ℕ)) (name : List ℕ) → (IsOneOf names name → ⊥) → NotIn names name
none_of [] name f = tt
none_of (n ∷ names) name f = (λ e. f (inl e), none_of names name (λ one. f (inr one)))

pub parts_distinct : (hosted : List Hosted) → AreDistinct (all_names hosted) → AreDistinct (part_disks hosted)
parts_distinct hosted d = distinct_front (part_disks hosted) (state_a ∷ state_b ∷ []) d

-- a disk of a partition is none of foreign state
pub not_states : (hosted : List Hosted) → AreDistinct (all_names hosted) → (name : List ℕ) → IsOneOf (part_disks hosted) name → (name ≢ state_a) × (name ≢ state_b)
not_states hosted d name one = (
  λ e. not_both (part_disks hosted) state_a (no_state_a hosted d) (subst (λ (n : List ℕ). IsOneOf (part_disks hosted) n) e one),
  λ e. not_both (part_disks hosted) state_b (no_state_b hosted d) (subst (λ (n : List ℕ). IsOneOf (part_disks hosted) n) e one),
)

all_in_rest : {A : Type 0} (P : A → Type 0) (xs : List A) (y : A) (ys : List A) → AllByRecursion P (xs ++ (y ∷ ys)) → P y
all_in_rest P [] y ys all = all.0
all_in_rest P (x ∷ xs) y ys all = all_in_rest P xs y ys all.1

module _ {B D : Type 0} (bay_seen : B → BayView D) (seen : D → DiskView) where
  abbrev Tells : ConfigParts → B → (List ℕ → List ℕ) → Disks → Type 0
  Tells conf bay contents was = TellsDisks bay_seen seen conf bay contents was

  abbrev Slots : B → B → List (PartSlot D) → Type 0
  Slots old new slots = AllByRecursion
      (λ (s : PartSlot D). IsTakenSlot bay_seen seen (hosted_slot s) old new s) slots

  abbrev F : HostsParts D → List ℕ → Facts
  F hosts name = facts_in seen (disks_in hosts) name

  abbrev G : Option (D × D) → List ℕ → Facts
  G left name = foreign_facts seen left name

  abbrev Known : Disks → List (List ℕ × Option D) → Type 0
  Known was es = AllByRecursion (λ (e : List ℕ × Option D). IsOpenedDisk (was e.0) (facts_at seen e.1)) es

  abbrev Before : List Hosted → B → List (PartSlot D) → B → Type 0
  Before hosted old slots mid = TakesParts bay_seen seen hosted old slots mid

  abbrev Behind : List (List ℕ × Option D) → B → B → Type 0
  Behind es mid new = PutsAll bay_seen seen es mid new

  abbrev Goes : B → B → Type 0
  Goes old new = Moves bay_seen old new

  abbrev Same : List ℕ → B → B → Type 0
  Same m old new = SameSlot bay_seen m old new

  -- ---- partitions

  -- what the partitions that were taken stand for
  record Stand (contents : List ℕ → List ℕ) (was : Disks) (slots : List (PartSlot D)) : Type 0 where
    parts : List HostedPart
    zip : AllZip (IsPartSlot seen) slots parts
    opens : AllByRecursion (OpensPart contents) parts
    hosts : hosted_by parts ≡ hosted_slots slots
    known : Known was (slots_disks slots)

  known_one : (was : Disks) (at : PartState D → Option D) (st opened_as : PartState D) (d given told : D) → st ≡ opened_as → at opened_as ≡ Some d → (name : List ℕ)
      → given ≡ told → was name ≡ facts_of seen told
      → IsOpenedDisk (facts_of seen given) (facts_of seen d)
      → IsOpenedDisk (was name) (facts_at seen (at st))
  known_one was at st opened_as d given told is has name same knows o =
      subst (λ (p : Option D). IsOpenedDisk (was name) (facts_at seen p)) (sym (ap at is ∙ has))
      (subst (λ (f : Facts). IsOpenedDisk f (facts_of seen d)) (ap (facts_of seen) same ∙ sym knows) o)

  stands : (contents : List ℕ → List ℕ) (was : Disks) (old new : B) (slots : List (PartSlot D))
      → ((name : List ℕ) → IsOneOf (part_disks (hosted_slots slots)) name → (d : D) × ((bay_seen old).disk name ≡ Some d) × ((seen d).content ≡ Some (contents name))
      × (was name ≡ facts_of seen d)) → Slots old new slots → Stand contents was slots
  stands contents was old new [] tells all = record { parts = []; zip = tt; opens = tt; hosts = refl; known = tt }
  stands contents was old new (s ∷ slots) tells all =
      let more = stands contents was old new slots (λ name one. tells name (inr (inr (inr one)))) all.1 in
      let l = tells (log_of (hosted_slot s)) (inl refl) in
      let a = tells (first_of (hosted_slot s)) (inr (inl refl)) in
      let b = tells (second_of (hosted_slot s)) (inr (inr (inl refl))) in
      let is_log = all.0.on_log.as_told l.0 l.1 in
      let is_first = all.0.on_first.as_told a.0 a.1 in
      let is_second = all.0.on_second.as_told b.0 b.1 in
      let o = all.0.opens (contents (log_of (hosted_slot s))) (contents (first_of (hosted_slot s))) (contents (second_of (hosted_slot s)))
      (ap (λ d. (seen d).content) is_log ∙ l.2) (ap (λ d. (seen d).content) is_first ∙ a.2) (ap (λ d. (seen d).content) is_second ∙ b.2) in
      record {
        parts = record { hosted = hosted_slot s; shard = shard_with o.is o.states } ∷ more.parts;
        zip = (
          record {
            hosted = refl;
            state = subst (λ (st : PartState D). IsPartState seen s.conf st (shard_with o.is o.states)) (sym all.0.is_open) o.carried;
          },
          more.zip,
        );
        opens = (record { log = o.is; states = o.states; shard = refl; stands = o.stands }, more.opens);
        hosts = ap (λ (hs : List Hosted). hosted_slot s ∷ hs) more.hosts;
        known = (
          known_one was (λ st. part_disk st Log) s.state _ _ all.0.on_log.given l.0 all.0.is_open refl (log_of (hosted_slot s)) is_log l.3 o.on_log,
          (
            known_one was (λ st. part_disk st StateA) s.state _ _ all.0.on_first.given a.0 all.0.is_open refl (first_of (hosted_slot s)) is_first a.3 o.on_first,
            (
              known_one was (λ st. part_disk st StateB) s.state _ _ all.0.on_second.given b.0 all.0.is_open refl (second_of (hosted_slot s)) is_second b.3 o.on_second,
              more.known,
            ),
          ),
        );
      }

  -- partitions that were taken had disks that stand for logs and tables
  had_tables : (contents : List ℕ → List ℕ) (old new : B) (slots : List (PartSlot D))
      → TellsThese bay_seen seen (part_disks (hosted_slots slots)) old contents → Slots old new slots
      → AllByRecursion (StandsForTables contents) (hosted_slots slots)
  had_tables contents old new [] tells all = tt
  had_tables contents old new (s ∷ slots) tells all =
      let l = tells (log_of (hosted_slot s)) (inl refl) in
      let a = tells (first_of (hosted_slot s)) (inr (inl refl)) in
      let b = tells (second_of (hosted_slot s)) (inr (inr (inl refl))) in
      let o = all.0.opens (contents (log_of (hosted_slot s))) (contents (first_of (hosted_slot s))) (contents (second_of (hosted_slot s)))
      (ap (λ d. (seen d).content) (all.0.on_log.as_told l.0 l.1) ∙ l.2) (ap (λ d. (seen d).content) (all.0.on_first.as_told a.0 a.1) ∙ a.2)
      (ap (λ d. (seen d).content) (all.0.on_second.as_told b.0 b.1) ∙ b.2) in
      ((o.is, o.states, o.stands), had_tables contents old new slots (λ name one. tells name (inr (inr (inr one)))) all.1)

  before_had_tables : (contents : List ℕ → List ℕ) (hosted : List Hosted) (old : B) (slots : List (PartSlot D)) (mid : B) → AreDistinct (part_disks hosted)
      → Before hosted old slots mid → TellsThese bay_seen seen (part_disks hosted) old contents → AllByRecursion (StandsForTables contents) hosted
  before_had_tables contents hosted old slots mid distinct t tells =
      let same : hosted_slots slots ≡ hosted =
      takes_hosts bay_seen seen hosted old slots mid t in
      subst (AllByRecursion (StandsForTables contents)) same (had_tables contents old mid slots
      (λ name one. tells name (subst (λ (l : List Hosted). IsOneOf (part_disks l) name) same one))
      (takes_slots bay_seen seen hosted old slots mid distinct t))

  known_among : (was : Disks) (es : List (List ℕ × Option D)) (other : Facts) (name : List ℕ) → IsOneOf (named es) name → Known was es
      → IsOpenedDisk (was name) (among (λ (e : List ℕ × Option D). e.0) (λ e. facts_at seen e.1) es other name)
  known_among was [] other name one all = absurd one
  known_among was (e ∷ es) other name one all = go (same_name name e.0) refl (λ more. known_among was es other name more all.1) one where
    rest : Facts
    rest = among (λ (x : List ℕ × Option D). x.0) (λ x. facts_at seen x.1) es other name

    go : (b : Bool) → same_name name e.0 ≡ b → (IsOneOf (named es) name → IsOpenedDisk (was name) rest)
        → IsOneOf (named (e ∷ es)) name → IsOpenedDisk (was name) (cond b (facts_at seen e.1) rest)
    go true is more one = subst (λ (n : List ℕ). IsOpenedDisk (was n) (facts_at seen e.1)) (sym (is_same name e.0 is)) all.0
    go false is more (inl same) = absurd (let bad : true ≡ false = sym (subst (λ (m : List ℕ). same_name name m ≡ true) same (same_self name)) ∙ is in cc)
    go false is more (inr one) = more one

  named_one : (es : List (List ℕ × Option D)) (name : List ℕ) → HasName es name → IsOneOf (named es) name
  named_one [] name h = absurd h
  named_one (e ∷ es) name (inl same) = inl same
  named_one (e ∷ es) name (inr h) = inr (named_one es name h)

  -- ---- all is taken

  module _ (conf : ConfigParts) (list : IsTopicList conf.topics) (old : B) (hosts : HostsParts D) (new : B)
      (t : TakesAll bay_seen seen conf old hosts new) where
    abbrev names : List (List ℕ)
    names = part_disks (hosted_of conf)

    distinct : AreDistinct (all_names (hosted_of conf))
    distinct = distinct_names conf list

    distinct_parts : AreDistinct names
    distinct_parts = parts_distinct (hosted_of conf) distinct

    no_a : NotIn names state_a
    no_a = no_state_a (hosted_of conf) distinct

    no_b : NotIn names state_b
    no_b = no_state_b (hosted_of conf) distinct

    pub hosts_are : hosted_slots hosts.parts ≡ hosted_of conf
    hosts_are = takes_hosts bay_seen seen (hosted_of conf) old hosts.parts t.mid t.parts

    pub hosts_apart : AreApart hosts
    hosts_apart = subst (λ (l : List Hosted). AreDistinct (all_names l)) (sym hosts_are) distinct

    pub hosts_named : AreNamed (hosted_slots hosts.parts)
    hosts_named = subst AreNamed (sym hosts_are) (named_of conf list)

    slots : Slots old t.mid hosts.parts
    slots = takes_slots bay_seen seen (hosted_of conf) old hosts.parts t.mid distinct_parts t.parts

    parts_others : (m : List ℕ) → NotIn names m → Same m old t.mid
    parts_others = takes_others bay_seen seen (hosted_of conf) old hosts.parts t.mid t.parts

    pub hosts_open : AreOpen hosts
    hosts_open = record {
      parts = slots_open bay_seen seen old t.mid hosts.parts slots;
      foreign = subst IsOpen (sym t.foreign.is_open) tt;
    }

    pub hosts_held : AreHeld hosts
    hosts_held = record {
      parts = takes_held bay_seen seen (hosted_of conf) old hosts.parts t.mid t.parts;
      foreign = subst IsHeld (sym t.foreign.is_open) tt;
    }

    foreign_others : (name : List ℕ) → IsOneOf names name → Same name t.mid new
    foreign_others name one = let n = not_states (hosted_of conf) distinct name one in t.foreign.others name n.0 n.1

    to_names : (name : List ℕ) → IsOneOf (part_disks (hosted_slots hosts.parts)) name → IsOneOf names name
    to_names name one = subst (λ (l : List Hosted). IsOneOf (part_disks l) name) hosts_are one

    first_told : IsAsTold ((bay_seen old).disk state_a) t.foreign.first
    first_told d told = t.foreign.first_told d ((parts_others state_a no_a).same_disk ∙ told)

    second_told : IsAsTold ((bay_seen old).disk state_b) t.foreign.second
    second_told d told = t.foreign.second_told d ((parts_others state_b no_b).same_disk ∙ told)

    pub all_moves : Goes old new
    all_moves = moves_then bay_seen old t.mid new
        (takes_moves bay_seen seen (hosted_of conf) old hosts.parts t.mid t.parts) t.foreign.moves

    pub all_out : AreOut bay_seen [] old → AreOut bay_seen (all_names (hosted_slots hosts.parts)) new
    all_out whole = subst (λ (l : List Hosted). AreOut bay_seen (all_names l) new) (sym hosts_are) (record {
      those = λ name one. those name (one_in_either names (state_a ∷ state_b ∷ []) name one);
      others = λ name away.
          let n = not_in_rest names (state_a ∷ state_b ∷ []) name away in
          (t.foreign.others name n.0 n.1.0).same_out
          ∙ (parts_others name (not_in_front names (state_a ∷ state_b ∷ []) name away)).same_out ∙ whole.others name tt;
    })
      where
        those : (name : List ℕ) → IsOneOf names name ⊎ IsOneOf (state_a ∷ state_b ∷ []) name → (bay_seen new).out name ≡ true
        those name (inl one) = (foreign_others name one).same_out
            ∙ takes_out bay_seen seen (hosted_of conf) old hosts.parts t.mid distinct_parts t.parts name one
        those name (inr (inl e)) = subst (λ (n : List ℕ). (bay_seen new).out n ≡ true) (sym e) t.foreign.first_out
        those name (inr (inr (inl e))) = subst (λ (n : List ℕ). (bay_seen new).out n ≡ true) (sym e) t.foreign.second_out
        those name (inr (inr (inr never))) = absurd never

    pub all_others : (m : List ℕ) → (IsTaken conf m → ⊥) → Same m old new
    all_others m away = slot_then bay_seen m old t.mid new (parts_others m (none_of names m (λ one. away (inl one))))
        (t.foreign.others m (λ e. away (inr (inl e))) (λ e. away (inr (inr e))))

    pub all_counted : AreTakenFrom bay_seen seen conf old new (disks_in hosts)
    all_counted = record {
      parts = slots_counted bay_seen seen old t.mid new hosts.parts slots
          (λ name one. (foreign_others name (to_names name one)).same_taken);
      names = λ name has. inl (to_names name (subst (λ (l : List (List ℕ)). IsOneOf l name) (names_of_disks hosts.parts) (named_one (slots_disks hosts.parts) name has)));
      foreign = subst (λ (f : ForeignSlot D). BothTaken bay_seen seen old new (foreign_disks f)) (sym t.foreign.is_open) (
        record { given = t.foreign.first; as_told = first_told; noted = t.foreign.first_noted; later = t.foreign.first_counted },
        record { given = t.foreign.second; as_told = second_told; noted = t.foreign.second_noted; later = t.foreign.second_counted },
      );
    }

    module _ (contents : List ℕ → List ℕ) (was : Disks) (tells : Tells conf old contents was) where
      stand : Stand contents was hosts.parts
      stand = stands contents was old t.mid hosts.parts (λ name one. tells name (inl (to_names name one))) slots

      first_is : t.foreign.first ≡ (tells state_a (inr (inl refl))).0
      first_is = let d = tells state_a (inr (inl refl)) in first_told d.0 d.1

      second_is : t.foreign.second ≡ (tells state_b (inr (inr refl))).0
      second_is = let d = tells state_b (inr (inr refl)) in second_told d.0 d.1

      opened : IsOpened seen t.foreign.first t.foreign.second (contents state_a) (contents state_b) t.foreign.store
      opened = t.foreign.opens (contents state_a) (contents state_b) (ap (λ d. (seen d).content) first_is ∙ (tells state_a (inr (inl refl))).2)
          (ap (λ d. (seen d).content) second_is ∙ (tells state_b (inr (inr refl))).2)

      abbrev machine : Machine
      machine = record { connections = []; shards = record { parts = stand.parts; members = hosts.members; foreign = opened.shard } }

      carried : AreCarried seen hosts (record { parts = stand.parts; members = hosts.members; foreign = opened.shard })
      carried = record {
        parts = stand.zip;
        members = refl;
        foreign = subst (λ (f : ForeignSlot D). IsSlot seen f opened.shard) (sym t.foreign.is_open) opened.carried;
      }

      foreign_at : (name : List ℕ) → NotIn names name → F hosts name ≡ G (Some (t.foreign.store.journal.first.disk, t.foreign.store.journal.second.disk)) name
      foreign_at name n =
          among_past (λ (e : List ℕ × Option D). e.0) (λ e. facts_at seen e.1) (slots_disks hosts.parts) (G (foreign_disks hosts.foreign) name) name
          (subst (λ (l : List (List ℕ)). NotIn l name) (sym (names_of_disks hosts.parts)) (subst (λ (l : List Hosted). NotIn (part_disks l) name) (sym hosts_are) n))
          ∙ ap (λ (f : ForeignSlot D). G (foreign_disks f) name) t.foreign.is_open

      known : (name : List ℕ) → IsTaken conf name → IsOpenedDisk (was name) (F hosts name)
      known name (inl one) =
          known_among was (slots_disks hosts.parts) (G (foreign_disks hosts.foreign) name) name
          (subst (λ (l : List (List ℕ)). IsOneOf l name) (sym (names_of_disks hosts.parts)) (subst (λ (l : List Hosted). IsOneOf (part_disks l) name) (sym hosts_are) one))
          stand.known
      known name (inr (inl e)) =
          subst (λ (n : List ℕ). IsOpenedDisk (was n) (F hosts n)) (sym e)
          (subst (λ (f : Facts). IsOpenedDisk (was state_a) f) (sym (foreign_at state_a no_a))
          (subst (λ (f : Facts). IsOpenedDisk f (facts_of seen t.foreign.store.journal.first.disk))
          (ap (facts_of seen) first_is ∙ sym (tells state_a (inr (inl refl))).3) opened.on_first))
      known name (inr (inr e)) =
          subst (λ (n : List ℕ). IsOpenedDisk (was n) (F hosts n)) (sym e)
          (subst (λ (f : Facts). IsOpenedDisk (was state_b) f) (sym (foreign_at state_b no_b))
          (subst (λ (f : Facts). IsOpenedDisk f (facts_of seen t.foreign.store.journal.second.disk))
          (ap (facts_of seen) second_is ∙ sym (tells state_b (inr (inr refl))).3) opened.on_second))

      pub started : (m : Machine) × AreCarried seen hosts m.shards × IsFirst conf contents was (state_over seen m hosts)
      started = (
        machine,
        carried,
        record {
          opens = record {
            nobody = refl;
            hosts = stand.hosts ∙ hosts_are;
            parts = stand.opens;
            members = t.members;
            foreign = opened.stands;
            nothing = opened.nothing;
          };
          disks = known;
        },
      )

  -- ---- refusals

  -- what stands after a refusal, and why it came
  pub record Refused (conf : ConfigParts) (fault : CoreOpen) (old new : B) : Type 0 where
    pub back : AreOut bay_seen [] old → AreOut bay_seen [] new
    pub moves : Goes old new
    pub others : (m : List ℕ) → (IsTaken conf m → ⊥) → Same m old new
    pub stays : (m : List ℕ) → StaysAs bay_seen seen (IsOfDevice fault) m old new
    pub damaged : (n : List ℕ) (place : ℕ) → fault ≡ Damaged n place → (contents : List ℕ → List ℕ) (was : Disks) → Tells conf old contents was
        → IsDamagedDisk conf contents n place
    pub recovers : (contents : List ℕ → List ℕ) (was : Disks) → Tells conf old contents was → StandForAll conf contents
        → (n : List ℕ) (place : ℕ) → fault ≢ Damaged n place
    pub bay : fault ≡ Bay → Rose (bay_seen old).faults (bay_seen new).faults
    pub device : fault ≡ Device → Rose (bay_seen old).faults (bay_seen new).faults ⊎ HasLastCount bay_seen conf new
    pub sound : IsSound bay_seen seen old → (fault ≢ Bay) × (fault ≢ Device)

  -- want of memory told in its place
  pub retold : (conf : ConfigParts) (told fault : CoreOpen) (old new : B) → ((told ≡ fault) ⊎ (told ≡ NoMemory)) → Refused conf fault old new
      → Refused conf told old new
  retold conf told fault old new (inl same) r = subst (λ (f : CoreOpen). Refused conf f old new) (sym same) r
  retold conf told fault old new (inr is) r = record {
    back = r.back;
    moves = r.moves;
    others = r.others;
    stays = λ m d e was now.
        let s = r.stays m d e was now in
        record { images = s.images; runs = s.runs; fed = λ f. absurd (subst IsOfDevice is f) };
    damaged = λ n place e contents was tells. absurd (let bad : NoMemory ≡ Damaged n place = sym is ∙ e in cc);
    recovers = λ contents was tells stand n place e. (let bad : NoMemory ≡ Damaged n place = sym is ∙ e in cc);
    bay = λ e. absurd (let bad : NoMemory ≡ Bay = sym is ∙ e in cc);
    device = λ e. absurd (let bad : NoMemory ≡ Device = sym is ∙ e in cc);
    sound = λ s. (λ e. (let bad : NoMemory ≡ Bay = sym is ∙ e in cc), λ e. (let bad : NoMemory ≡ Device = sym is ∙ e in cc));
  }

  want_refused : (conf : ConfigParts) (fault : CoreOpen) (old new : B) → fault ≡ NoMemory → new ≡ old → Refused conf fault old new
  want_refused conf fault old new is same = record {
    back = λ whole. subst (λ (b : B). AreOut bay_seen [] b) (sym same) whole;
    moves = subst (λ (b : B). Goes old b) (sym same) (moves_same bay_seen old);
    others = λ m away. subst (λ (b : B). Same m old b) (sym same) (slot_same bay_seen m old);
    stays = λ m. stays_same bay_seen seen (IsOfDevice fault) m old new (ap (λ (b : B). (bay_seen b).disk m) same);
    damaged = λ n place e contents was tells. absurd (let bad : NoMemory ≡ Damaged n place = sym is ∙ e in cc);
    recovers = λ contents was tells stand n place e. (let bad : NoMemory ≡ Damaged n place = sym is ∙ e in cc);
    bay = λ e. absurd (let bad : NoMemory ≡ Bay = sym is ∙ e in cc);
    device = λ e. absurd (let bad : NoMemory ≡ Device = sym is ∙ e in cc);
    sound = λ s. (λ e. (let bad : NoMemory ≡ Bay = sym is ∙ e in cc), λ e. (let bad : NoMemory ≡ Device = sym is ∙ e in cc));
  }

  module _ (conf : ConfigParts) (list : IsTopicList conf.topics) (fault : CoreOpen) (old new : B) where
    abbrev all : List (List ℕ)
    all = part_disks (hosted_of conf)

    all_apart : AreDistinct (all_names (hosted_of conf))
    all_apart = distinct_names conf list

    -- a partition was refused
    module _ (r : RefusesAt bay_seen seen (hosted_of conf) fault old new) where
      split_disks : all ≡ part_disks r.before ++ part_disks (r.h ∷ r.after)
      split_disks = ap part_disks r.split ∙ disks_then r.before (r.h ∷ r.after)

      both_distinct : AreDistinct (part_disks r.before ++ part_disks (r.h ∷ r.after))
      both_distinct = subst AreDistinct split_disks (parts_distinct (hosted_of conf) all_apart)

      own_in : (name : List ℕ) → IsOneOf (disks_of r.h) name → IsOneOf (part_disks (r.h ∷ r.after)) name
      own_in name one = one_in_front (disks_of r.h) (part_disks r.after) name one

      in_all : (name : List ℕ) → IsOneOf (disks_of r.h) name → IsOneOf all name
      in_all name one = subst (λ (l : List (List ℕ)). IsOneOf l name) (sym split_disks)
          (one_in_rest (part_disks r.before) (part_disks (r.h ∷ r.after)) name (own_in name one))

      in_front : (name : List ℕ) → IsOneOf (part_disks r.before) name → IsOneOf all name
      in_front name one = subst (λ (l : List (List ℕ)). IsOneOf l name) (sym split_disks)
          (one_in_front (part_disks r.before) (part_disks (r.h ∷ r.after)) name one)

      before_distinct : AreDistinct (part_disks r.before)
      before_distinct = distinct_front (part_disks r.before) (part_disks (r.h ∷ r.after)) both_distinct

      slots_are : named (slots_disks r.slots) ≡ part_disks r.before
      slots_are = names_of_disks r.slots ∙ ap part_disks
          (takes_hosts bay_seen seen r.before old r.slots r.mid r.takes)

      slots_distinct : AreDistinct (named (slots_disks r.slots))
      slots_distinct = subst AreDistinct (sym slots_are) before_distinct

      mid_is : (name : List ℕ) → IsOneOf (disks_of r.h) name → Same name old r.mid
      mid_is name one = takes_others bay_seen seen r.before old r.slots r.mid r.takes name
          (apart_from (part_disks r.before) (part_disks (r.h ∷ r.after)) name both_distinct (own_in name one))

      to_mid : Goes old r.mid
      to_mid = takes_moves bay_seen seen r.before old r.slots r.mid r.takes

      from_behind : Goes r.behind new
      from_behind = puts_moves bay_seen seen (slots_disks r.slots) r.behind new r.puts

      tells_mid : (contents : List ℕ → List ℕ) (was : Disks) → Tells conf old contents was → TellsThese bay_seen seen (disks_of r.h) r.mid contents
      tells_mid contents was tells name one = let d = tells name (inl (in_all name one)) in (d.0, (mid_is name one).same_disk ∙ d.1, d.2)

      part_back : AreOut bay_seen [] old → (name : List ℕ) → IsOneOf (part_disks r.before) name ⊎ NotIn (part_disks r.before) name → (bay_seen new).out name ≡ false
      part_back whole name (inl one) = puts_in bay_seen seen (slots_disks r.slots) r.behind new slots_distinct r.puts name
          (subst (λ (l : List (List ℕ)). IsOneOf l name) (sym slots_are) one)
      part_back whole name (inr away) = go (one_or_none (disks_of r.h) name) where
        behind_same : (bay_seen new).out name ≡ (bay_seen r.behind).out name
        behind_same = (puts_others bay_seen seen (slots_disks r.slots) r.behind new r.puts name
            (subst (λ (l : List (List ℕ)). NotIn l name) (sym slots_are) away)).same_out

        go : IsOneOf (disks_of r.h) name ⊎ NotIn (disks_of r.h) name → (bay_seen new).out name ≡ false
        go (inl one) = behind_same ∙ r.refuses.are_in name one
        go (inr n) = behind_same ∙ (r.refuses.others name n).same_out
            ∙ (takes_others bay_seen seen r.before old r.slots r.mid r.takes name away).same_out
            ∙ whole.others name tt

      part_others : (m : List ℕ) → (IsOneOf all m → ⊥) → Same m old new
      part_others m away =
          let before : NotIn (part_disks r.before) m = none_of (part_disks r.before) m (λ one. away (in_front m one)) in
          slot_then bay_seen m old r.mid new
          (takes_others bay_seen seen r.before old r.slots r.mid r.takes m before)
          (slot_then bay_seen m r.mid r.behind new (r.refuses.others m (none_of (disks_of r.h) m (λ one. away (in_all m one))))
          (puts_others bay_seen seen (slots_disks r.slots) r.behind new r.puts m
          (subst (λ (l : List (List ℕ)). NotIn l m) (sym slots_are) before)))

      before_slots : Slots old r.mid r.slots
      before_slots = takes_slots bay_seen seen r.before old r.slots r.mid before_distinct r.takes

      before_are : hosted_slots r.slots ≡ r.before
      before_are = takes_hosts bay_seen seen r.before old r.slots r.mid r.takes

      put_others : (m : List ℕ) → NotIn (part_disks r.before) m → Same m r.behind new
      put_others m away = puts_others bay_seen seen (slots_disks r.slots) r.behind new r.puts m
          (subst (λ (l : List (List ℕ)). NotIn l m) (sym slots_are) away)

      part_stays : (m : List ℕ) → IsOneOf (part_disks r.before) m ⊎ NotIn (part_disks r.before) m → IsOneOf (disks_of r.h) m ⊎ NotIn (disks_of r.h) m
          → StaysAs bay_seen seen (IsOfDevice fault) m old new
      part_stays m (inl one) own = slots_stay bay_seen seen (IsOfDevice fault) old r.mid r.behind new r.slots before_slots
          (puts_hold bay_seen seen (slots_disks r.slots) r.behind new slots_distinct r.puts)
          (moves_then bay_seen old r.mid r.behind to_mid r.refuses.moves).told m
          (subst (λ (l : List Hosted). IsOneOf (part_disks l) m) (sym before_are) one)
      part_stays m (inr away) (inl one) =
          stays_between bay_seen seen (IsOfDevice fault) m old r.mid r.behind new (mid_is m one).same_disk (put_others m away).same_disk (r.refuses.stays m one)
      part_stays m (inr away) (inr n) = stays_same bay_seen seen (IsOfDevice fault) m old new ((put_others m away).same_disk ∙ (r.refuses.others m n).same_disk
          ∙ (takes_others bay_seen seen r.before old r.slots r.mid r.takes m away).same_disk)

      part_refused : Refused conf fault old new
      part_refused = record {
        back = λ whole. record { those = λ name one. absurd one; others = λ name away. part_back whole name (one_or_none (part_disks r.before) name) };
        moves = moves_then bay_seen old r.mid new to_mid
            (moves_then bay_seen r.mid r.behind new r.refuses.moves from_behind);
        others = λ m away. part_others m (λ one. away (inl one));
        stays = λ m. part_stays m (one_or_none (part_disks r.before) m) (one_or_none (disks_of r.h) m);
        damaged = λ n place e contents was tells. inl (
          r.before,
          r.after,
          r.h,
          r.split,
          before_had_tables contents r.before old r.slots r.mid before_distinct r.takes
              (λ name one. let d = tells name (inl (in_front name one)) in (d.0, d.1, d.2)),
          r.refuses.damaged n place e contents (tells_mid contents was tells),
        );
        recovers = λ contents was tells stand n place. r.refuses.recovers contents (tells_mid contents was tells)
            (all_in_rest (StandsForTables contents) r.before r.h r.after (subst (AllByRecursion (StandsForTables contents)) r.split stand.parts)) n place;
        bay = λ e. rose_between (bay_seen old).faults (bay_seen r.mid).faults (bay_seen r.behind).faults (bay_seen new).faults to_mid.later (r.refuses.bay e) from_behind.later;
        device = λ e. device (r.refuses.device e);
        sound = λ s. r.refuses.sound
            (λ name one.
            let d = s.each name (are_disk_names (hosted_of conf) (named_of conf list) name (in_all name one)) in
            (d.0, (mid_is name one).same_disk ∙ d.1, d.2))
            (to_mid.steadies s.is_steady);
      }
        where
          device : Rose (bay_seen r.mid).faults (bay_seen r.behind).faults
              ⊎ ((name : List ℕ) × IsOneOf (disks_of r.h) name × (2 ^ 64 - 1 ≤ (bay_seen r.behind).taken name))
              → Rose (bay_seen old).faults (bay_seen new).faults ⊎ HasLastCount bay_seen conf new
          device (inl rose) = inl (rose_between (bay_seen old).faults (bay_seen r.mid).faults (bay_seen r.behind).faults (bay_seen new).faults to_mid.later rose from_behind.later)
          device (inr (name, one, last)) =
              let same = puts_taken bay_seen seen (slots_disks r.slots) r.behind new r.puts name in inr (name, inl (in_all name one), omega (arith, same, last))

    -- foreign state was refused
    module _ (slots : List (PartSlot D)) (mid behind : B) (takes : Before (hosted_of conf) old slots mid)
        (r : RefusesForeign bay_seen seen fault mid behind) (puts : Behind (slots_disks slots) behind new) where
      names_are : named (slots_disks slots) ≡ all
      names_are = names_of_disks slots ∙ ap part_disks
          (takes_hosts bay_seen seen (hosted_of conf) old slots mid takes)

      slots_apart : AreDistinct (named (slots_disks slots))
      slots_apart = subst AreDistinct (sym names_are) (parts_distinct (hosted_of conf) all_apart)

      others_of : (m : List ℕ) → NotIn all m → Same m old mid
      others_of = takes_others bay_seen seen (hosted_of conf) old slots mid takes

      a_same : Same state_a old mid
      a_same = others_of state_a (no_state_a (hosted_of conf) all_apart)

      b_same : Same state_b old mid
      b_same = others_of state_b (no_state_b (hosted_of conf) all_apart)

      before : Goes old mid
      before = takes_moves bay_seen seen (hosted_of conf) old slots mid takes

      after : Goes behind new
      after = puts_moves bay_seen seen (slots_disks slots) behind new puts

      state_back : AreOut bay_seen [] old → (name : List ℕ) → IsOneOf all name ⊎ NotIn all name → (bay_seen new).out name ≡ false
      state_back whole name (inl one) = puts_in bay_seen seen (slots_disks slots) behind new slots_apart puts name
          (subst (λ (l : List (List ℕ)). IsOneOf l name) (sym names_are) one)
      state_back whole name (inr away) = go (one_or_none (state_a ∷ state_b ∷ []) name) where
        behind_same : (bay_seen new).out name ≡ (bay_seen behind).out name
        behind_same = (puts_others bay_seen seen (slots_disks slots) behind new puts name
            (subst (λ (l : List (List ℕ)). NotIn l name) (sym names_are) away)).same_out

        go : IsOneOf (state_a ∷ state_b ∷ []) name ⊎ NotIn (state_a ∷ state_b ∷ []) name → (bay_seen new).out name ≡ false
        go (inl (inl e)) = behind_same ∙ subst (λ (n : List ℕ). (bay_seen behind).out n ≡ false) (sym e) r.first_in
        go (inl (inr (inl e))) = behind_same ∙ subst (λ (n : List ℕ). (bay_seen behind).out n ≡ false) (sym e) r.second_in
        go (inl (inr (inr never))) = absurd never
        go (inr n) = behind_same ∙ (r.others name n.0 n.1.0).same_out ∙ (others_of name away).same_out ∙ whole.others name tt

      state_others : (m : List ℕ) → (IsTaken conf m → ⊥) → Same m old new
      state_others m away =
          let own : NotIn all m = none_of all m (λ one. away (inl one)) in
          slot_then bay_seen m old mid new (others_of m own)
          (slot_then bay_seen m mid behind new (r.others m (λ e. away (inr (inl e))) (λ e. away (inr (inr e))))
          (puts_others bay_seen seen (slots_disks slots) behind new puts m
          (subst (λ (l : List (List ℕ)). NotIn l m) (sym names_are) own)))

      all_slots : Slots old mid slots
      all_slots = takes_slots bay_seen seen (hosted_of conf) old slots mid
          (parts_distinct (hosted_of conf) all_apart) takes

      all_are : hosted_slots slots ≡ hosted_of conf
      all_are = takes_hosts bay_seen seen (hosted_of conf) old slots mid takes

      put_away : (m : List ℕ) → NotIn all m → Same m behind new
      put_away m away = puts_others bay_seen seen (slots_disks slots) behind new puts m
          (subst (λ (l : List (List ℕ)). NotIn l m) (sym names_are) away)

      state_stays : (m : List ℕ) → IsOneOf all m ⊎ NotIn all m → IsOneOf (state_a ∷ state_b ∷ []) m ⊎ NotIn (state_a ∷ state_b ∷ []) m
          → StaysAs bay_seen seen (IsOfDevice fault) m old new
      state_stays m (inl one) own = slots_stay bay_seen seen (IsOfDevice fault) old mid behind new slots all_slots
          (puts_hold bay_seen seen (slots_disks slots) behind new slots_apart puts)
          (moves_then bay_seen old mid behind before r.moves).told m
          (subst (λ (l : List Hosted). IsOneOf (part_disks l) m) (sym all_are) one)
      state_stays m (inr away) (inl (inl e)) = subst (λ (n : List ℕ). StaysAs bay_seen seen (IsOfDevice fault) n old new) (sym e)
          (stays_between bay_seen seen (IsOfDevice fault) state_a old mid behind new a_same.same_disk
          (put_away state_a (no_state_a (hosted_of conf) all_apart)).same_disk r.on_first)
      state_stays m (inr away) (inl (inr (inl e))) = subst (λ (n : List ℕ). StaysAs bay_seen seen (IsOfDevice fault) n old new) (sym e)
          (stays_between bay_seen seen (IsOfDevice fault) state_b old mid behind new b_same.same_disk
          (put_away state_b (no_state_b (hosted_of conf) all_apart)).same_disk r.on_second)
      state_stays m (inr away) (inl (inr (inr never))) = absurd never
      state_stays m (inr away) (inr n) = stays_same bay_seen seen (IsOfDevice fault) m old new
          ((put_away m away).same_disk ∙ (r.others m n.0 n.1.0).same_disk ∙ (others_of m away).same_disk)

      state_refused : Refused conf fault old new
      state_refused = record {
        back = λ whole. record { those = λ name one. absurd one; others = λ name away. state_back whole name (one_or_none all name) };
        moves = moves_then bay_seen old mid new before (moves_then bay_seen mid behind new r.moves after);
        others = state_others;
        stays = λ m. state_stays m (one_or_none all m) (one_or_none (state_a ∷ state_b ∷ []) m);
        damaged = λ n place e contents was tells.
            let d = tells state_a (inr (inl refl)) in
            let f = tells state_b (inr (inr refl)) in
            inr (
              before_had_tables contents (hosted_of conf) old slots mid (parts_distinct (hosted_of conf) all_apart) takes
                  (λ name one. let t = tells name (inl one) in (t.0, t.1, t.2)),
              r.damaged n place e d.0 f.0 (contents state_a) (contents state_b) (a_same.same_disk ∙ d.1) (b_same.same_disk ∙ f.1) d.2 f.2,
            );
        recovers = λ contents was tells stand n place.
            let d = tells state_a (inr (inl refl)) in
            let f = tells state_b (inr (inr refl)) in
            r.recovers d.0 f.0 (contents state_a) (contents state_b) stand.states (a_same.same_disk ∙ d.1) (b_same.same_disk ∙ f.1) d.2 f.2 stand.stand n place;
        bay = λ e. rose_between (bay_seen old).faults (bay_seen mid).faults (bay_seen behind).faults (bay_seen new).faults before.later (r.bay e) after.later;
        device = λ e. device (r.device e);
        sound = λ s.
            let d = s.each state_a (inr (inl refl)) in
            let f = s.each state_b (inr (inr refl)) in
            r.sound d.0 f.0 (a_same.same_disk ∙ d.1) (b_same.same_disk ∙ f.1) d.2 f.2 (before.steadies s.is_steady);
      }
        where
          device : Rose (bay_seen mid).faults (bay_seen behind).faults
              ⊎ ((name : List ℕ) × ((name ≡ state_a) ⊎ (name ≡ state_b)) × (2 ^ 64 - 1 ≤ (bay_seen behind).taken name))
              → Rose (bay_seen old).faults (bay_seen new).faults ⊎ HasLastCount bay_seen conf new
          device (inl rose) = inl (rose_between (bay_seen old).faults (bay_seen mid).faults (bay_seen behind).faults (bay_seen new).faults before.later rose after.later)
          device (inr (name, is, last)) =
              let same = puts_taken bay_seen seen (slots_disks slots) behind new puts name in inr (name, inr is, omega (arith, same, last))

    pub refused : RefusesAll bay_seen seen conf fault old new → Refused conf fault old new
    refused (inl (is, same)) = want_refused conf fault old new is same
    refused (inr (inl r)) = part_refused r
    refused (inr (inr (slots, mid, behind, takes, r, puts))) = state_refused slots mid behind takes r puts

  -- ---- all is put back

  module _ (hosts : HostsParts D) (apart : AreApart hosts) (old new : B) (p : PutsAllBack bay_seen seen hosts old new) where
    abbrev entries : List (List ℕ × Option D)
    entries = slots_disks hosts.parts

    abbrev own : List (List ℕ)
    own = part_disks (hosted_slots hosts.parts)

    abbrev mid_bay : B
    mid_bay = p.0

    parts_back : Behind entries old p.0
    parts_back = p.1

    pair_is : foreign_disks hosts.foreign ≡ Some (p.2.0, p.2.1)
    pair_is = p.2.3

    abbrev next_bay : B
    next_bay = p.2.2

    own_distinct : AreDistinct (named entries)
    own_distinct = subst AreDistinct (sym (names_of_disks hosts.parts)) (parts_distinct (hosted_slots hosts.parts) apart)

    from_own : (m : List ℕ) → NotIn own m → NotIn (named entries) m
    from_own m n = subst (λ (l : List (List ℕ)). NotIn l m) (sym (names_of_disks hosts.parts)) n

    a_not_b : state_a ≢ state_b
    a_not_b e = states_apart e

    first_back : PutsBack bay_seen seen state_a p.2.0 mid_bay next_bay
    first_back = p.2.4

    second_back : PutsBack bay_seen seen state_b p.2.1 next_bay new
    second_back = p.2.5

    parts_same : (m : List ℕ) → NotIn own m → Same m old mid_bay
    parts_same m n = puts_others bay_seen seen entries old mid_bay parts_back m (from_own m n)

    a_same_too : Same state_a old mid_bay
    a_same_too = parts_same state_a (no_state_a (hosted_slots hosts.parts) apart)

    b_same_too : Same state_b old mid_bay
    b_same_too = parts_same state_b (no_state_b (hosted_slots hosts.parts) apart)

    state_same : (m : List ℕ) → m ≢ state_a → m ≢ state_b → Same m mid_bay new
    state_same m n k = slot_then bay_seen m mid_bay next_bay new (first_back.others m n) (second_back.others m k)

    -- with what counts the disks were taken is noted still
    pub back_noted : (m : List ℕ) → (bay_seen new).taken m ≡ (bay_seen old).taken m
    back_noted m = put_taken bay_seen seen state_b p.2.1 next_bay new second_back m
        ∙ (put_taken bay_seen seen state_a p.2.0 mid_bay next_bay first_back m ∙ puts_taken bay_seen seen entries old mid_bay parts_back m)

    pub back_moves : Goes old new
    back_moves = moves_then bay_seen old mid_bay new (puts_moves bay_seen seen entries old mid_bay parts_back)
        (moves_then bay_seen mid_bay next_bay new (put_moves bay_seen seen state_a p.2.0 mid_bay next_bay first_back)
        (put_moves bay_seen seen state_b p.2.1 next_bay new second_back))

    -- a disk of another broker
    pub others_same : (conf : ConfigParts) → hosted_slots hosts.parts ≡ hosted_of conf → (m : List ℕ) → (IsTaken conf m → ⊥) → Same m old new
    others_same conf is m away = slot_then bay_seen m old mid_bay new
        (parts_same m (subst (λ (l : List Hosted). NotIn (part_disks l) m) (sym is) (none_of (part_disks (hosted_of conf)) m (λ one. away (inl one)))))
        (state_same m (λ e. away (inr (inl e))) (λ e. away (inr (inr e))))

    part_holds : (es : List (List ℕ × Option D)) → ((m : List ℕ) → IsOneOf (named es) m → (bay_seen new).disk m ≡ (bay_seen mid_bay).disk m)
        → AllByRecursion (HoldsIf bay_seen old mid_bay) es → AllByRecursion (HoldsIf bay_seen old new) es
    part_holds [] same h = tt
    part_holds (e ∷ es) same h = (go e.1 h.0, part_holds es (λ m one. same m (inr one)) h.1) where
      go : (o : Option D) → HoldsIf bay_seen old mid_bay (e.0, o) → HoldsIf bay_seen old new (e.0, o)
      go (Some d) holds = λ t. same e.0 (inl refl) ∙ holds t
      go None holds = absurd holds

    pub all_back : ArePutBack bay_seen old new (disks_in hosts)
    all_back = record {
      parts = part_holds entries
          (λ m one.
          let n = not_states (hosted_slots hosts.parts) apart m (subst (λ (l : List (List ℕ)). IsOneOf l m) (names_of_disks hosts.parts) one) in
          (state_same m n.0 n.1).same_disk)
          (puts_hold bay_seen seen entries old mid_bay own_distinct parts_back);
      foreign = subst (λ (o : Option (D × D)). BothHold bay_seen old new o) (sym pair_is) (
        λ t. (second_back.others state_a a_not_b).same_disk ∙ first_back.there (ap is_some a_same_too.same_disk ∙ t),
        λ t. second_back.there (ap is_some (first_back.others state_b (λ e. a_not_b (sym e))).same_disk ∙ ap is_some b_same_too.same_disk ∙ t),
      );
    }

    is_in : (name : List ℕ) → IsOneOf own name ⊎ IsOneOf (state_a ∷ state_b ∷ []) name → (bay_seen new).out name ≡ false
    is_in name (inl one) =
        let n = not_states (hosted_slots hosts.parts) apart name one in
        (state_same name n.0 n.1).same_out
        ∙ puts_in bay_seen seen entries old mid_bay own_distinct parts_back name
        (subst (λ (l : List (List ℕ)). IsOneOf l name) (sym (names_of_disks hosts.parts)) one)
    is_in name (inr (inl e)) =
        subst (λ (m : List ℕ). (bay_seen new).out m ≡ false) (sym e) ((second_back.others state_a a_not_b).same_out ∙ first_back.is_in)
    is_in name (inr (inr (inl e))) = subst (λ (m : List ℕ). (bay_seen new).out m ≡ false) (sym e) second_back.is_in
    is_in name (inr (inr (inr never))) = absurd never

    pub names_in : (name : List ℕ) → IsOneOf (all_names (hosted_slots hosts.parts)) name → (bay_seen new).out name ≡ false
    names_in name one = is_in name (one_in_either own (state_a ∷ state_b ∷ []) name one)

    pub all_in : AreOut bay_seen (all_names (hosted_slots hosts.parts)) old → AreOut bay_seen [] new
    all_in were = record {
      those = λ name one. absurd one;
      others = λ name away. go name (one_or_none own name) (one_or_none (state_a ∷ state_b ∷ []) name);
    }
      where
        go : (name : List ℕ) → IsOneOf own name ⊎ NotIn own name → IsOneOf (state_a ∷ state_b ∷ []) name ⊎ NotIn (state_a ∷ state_b ∷ []) name → (bay_seen new).out name ≡ false
        go name (inl one) either = is_in name (inl one)
        go name (inr away) (inl one) = is_in name (inr one)
        go name (inr away) (inr n) = (state_same name n.0 n.1.0).same_out ∙ (parts_same name away).same_out
            ∙ were.others name (not_in_both own (state_a ∷ state_b ∷ []) name away n)

    pub all_rise : HasRisen bay_seen seen old (disks_in hosts) → Rose (bay_seen old).faults (bay_seen new).faults
    all_rise (inl risen) =
        let r = puts_rise bay_seen seen entries old mid_bay own_distinct parts_back risen in
        let l = first_back.later in
        let m = second_back.later in
        omega (arith, r, l, m)
    all_rise (inr risen) = state_rise (subst (λ (o : Option (D × D)). BothRisen bay_seen seen old o) pair_is risen) where
      state_rise : ((bay_seen old).taken state_a < (seen p.2.0).faults) ⊎ ((bay_seen old).taken state_b < (seen p.2.1).faults) → Rose (bay_seen old).faults (bay_seen new).faults
      state_rise (inl less) =
          let l = (puts_moves bay_seen seen entries old mid_bay parts_back).later in
          let c = first_back.counts in
          let s = a_same_too.same_taken in
          let m = second_back.later in
          omega (arith, less, l, c, s, m)
      state_rise (inr less) =
          let l = (puts_moves bay_seen seen entries old mid_bay parts_back).later in
          let c = second_back.counts in
          let s = b_same_too.same_taken in
          let t = (first_back.others state_b (λ e. a_not_b (sym e))).same_taken in
          let m = first_back.later in
          omega (arith, less, l, c, s, t, m)
