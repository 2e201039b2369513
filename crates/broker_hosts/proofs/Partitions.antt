-- The three disks of each partition are taken from a bay and its shard opened, one partition after another, and they are put back.
use Rattle.std.proofs.Common.{arith, ◌≡◌, ◌≢◌, ◌≤◌, ◌<◌, ◌-◌, ◌^◌, ◌⊎◌, inl, inr, refl, sym, ap, ◌∙◌, subst, ℕ, List, [], ◌∷◌, ◌++◌, append_assoc, append-nil, true, false, Some, is_some}
use Rattle.std.proofs.lemmas.Grind.{flat_map-append}
use Rattle.std.specs.List.{AllByRecursion}
use Rattle.std.specs.declared.option.Option.{Option}
use Rattle.edge_io.specs.declared.fault.Armed.TheVariants.{Nothing}
use Rattle.edge_io.specs.declared.name.DiskPlace.{DiskPlace}
use Rattle.edge_io.specs.declared.name.DiskPlace.TheVariants.{Log, StateA, StateB}
use Rattle.edge_io.specs.Bays.{IsAsTold, SameSlot}
use Rattle.edge_io.specs.Causes.{Rose}
use Rattle.edge_io.specs.Disk.{IsTold}
use Rattle.share_model.specs.ForeignRules.{ShareStates}
use Rattle.part_log.specs.Starts.{Log as PartitionLog}
use Rattle.share_part.specs.Hosting.{ArePartText}
use Rattle.broker_model.specs.Hosted.{Hosted, IsOneOf, disks_of, first_of, log_of, part_disks, second_of}
use Rattle.broker_hosts.specs.declared.fault.CoreOpen.{CoreOpen}
use Rattle.broker_hosts.specs.declared.fault.CoreOpen.TheVariants.{Damaged, Device, Bay, NoMemory}
use Rattle.broker_hosts.specs.declared.slot.PartState.{PartState}
use Rattle.broker_hosts.specs.declared.slot.PartState.TheVariants as part
use Rattle.broker_hosts.specs.declared.slot.PartSlot.{PartSlot}
use Rattle.broker_hosts.specs.Bays.{AreFed, HoldsIf, IsOfDevice, IsTakenFrom, StaysAs, TakenIf, TellsStill}
use Rattle.broker_hosts.specs.Carried.{IsFresh, OpenPart}
use Rattle.broker_hosts.specs.Hosts.{AreDistinct, AreFresh, AreHeldParts, AreNamed, AreOpenParts, IsFreshState, IsHeldState, IsNamed, IsOpenState, NotIn, hosted_slot, hosted_slots, open_disk, part_disk, slot_disks, slots_disks}
use Rattle.broker_hosts.specs.Openings.{IsDamagedPart, IsOpenedPart, PartImagesStandAs, PartRunsOn}
use Rattle.broker_hosts.specs.Taking.{GetsAll, GetsNone, Moves, PutsAll, RefusesPart, TakesPart, TakesParts}
use Rattle.broker_hosts.proofs.Places.{apart_from, distinct_front, not_in_front, not_in_rest, one_in_either, one_in_rest}
use Rattle.broker_hosts.proofs.Taking.{IsGiven, gets_each, gets_moves, gets_others, greater, moves_same, moves_then, named, not_both, puts_hold, puts_in, puts_moves, puts_others, puts_rise, puts_taken, puts_then, rose_between, slot_same, slot_then, stays_kept, stays_put}
use Rattle.edge_io.specs.Views.{DiskView, BayView}

-- ---- lists

pub distinct_rest : (xs ys : List (List ℕ)) → AreDistinct (xs ++ ys) → AreDistinct ys
distinct_rest [] ys d = d
distinct_rest (x ∷ xs) ys d = distinct_rest xs ys d.1

-- a name in front is none of those behind
pub apart_behind : (xs ys : List (List ℕ)) (m : List ℕ) → AreDistinct (xs ++ ys) → IsOneOf xs m → NotIn ys m
apart_behind [] ys m d one = absurd one
apart_behind (x ∷ xs) ys m d (inl e) = subst (λ (n : List ℕ). NotIn ys n) (sym e) (not_in_rest xs ys x d.0)
apart_behind (x ∷ xs) ys m d (inr one) = apart_behind xs ys m d.1 one

all_of_front : {A : Type 0} (P : A → Type 0) (xs ys : List A) → AllByRecursion P (xs ++ ys) → AllByRecursion P xs
all_of_front P [] ys all = tt
all_of_front P (x ∷ xs) ys all = (all.0, all_of_front P xs ys all.1)

all_of_rest : {A : Type 0} (P : A → Type 0) (xs ys : List A) → AllByRecursion P (xs ++ ys) → AllByRecursion P ys
all_of_rest P [] ys all = all
all_of_rest P (x ∷ xs) ys all = all_of_rest P xs ys all.1

-- the names of the disks in slots
pub names_of_disks : {D : Type 0} (slots : List (PartSlot D)) → named (slots_disks slots) ≡ part_disks (hosted_slots slots)
names_of_disks [] = refl
names_of_disks (s ∷ slots) = λ i. log_of (hosted_slot s) ∷ first_of (hosted_slot s) ∷ second_of (hosted_slot s) ∷ names_of_disks slots i

pub disks_then : (xs ys : List Hosted) → part_disks (xs ++ ys) ≡ part_disks xs ++ part_disks ys
disks_then xs ys = flat_map-append disks_of xs ys

hosts_then : {D : Type 0} (xs ys : List (PartSlot D)) → hosted_slots (xs ++ ys) ≡ hosted_slots xs ++ hosted_slots ys
hosts_then [] ys = refl
hosts_then (x ∷ xs) ys = ap (λ (l : List Hosted). hosted_slot x ∷ l) (hosts_then xs ys)

pub hosts_disks_then : {D : Type 0} (xs ys : List (PartSlot D))
    → part_disks (hosted_slots (xs ++ ys)) ≡ part_disks (hosted_slots xs) ++ part_disks (hosted_slots ys)
hosts_disks_then xs ys = ap part_disks (hosts_then xs ys) ∙ disks_then (hosted_slots xs) (hosted_slots ys)

module _ {B D : Type 0} (bay_seen : B → BayView D) (seen : D → DiskView) where
  abbrev Opened : Hosted → D → D → D → OpenPart D → Type 0
  Opened h log first second shard = (l a b : List ℕ) → (seen log).content ≡ Some l → (seen first).content ≡ Some a → (seen second).content ≡ Some b
      → IsOpenedPart seen h.conf log first second l a b shard

  abbrev Puts : List (List ℕ × Option D) → B → B → Type 0
  Puts es old new = PutsAll bay_seen seen es old new

  abbrev Goes : B → B → Type 0
  Goes old new = Moves bay_seen old new

  abbrev Same : List ℕ → B → B → Type 0
  Same m old new = SameSlot bay_seen m old new

  abbrev Takes : Hosted → B → PartSlot D → B → Type 0
  Takes h old slot new = TakesPart bay_seen seen h old slot new

  abbrev Refuses : Hosted → CoreOpen → B → B → Type 0
  Refuses h fault old new = RefusesPart bay_seen seen h fault old new

  -- ---- one partition

  -- one of its disks was taken with its last count
  abbrev Last : Hosted → B → Type 0
  Last h new = (name : List ℕ) × IsOneOf (disks_of h) name × (2 ^ 64 - 1 ≤ (bay_seen new).taken name)

  module _ (h : Hosted) (apart : AreDistinct (disks_of h)) (log first second : D) where
    abbrev Stand : D → D → D → Type 0
    Stand log_now first_now second_now = PartImagesStandAs seen log first second log_now first_now second_now

    abbrev Run : D → D → D → Type 0
    Run log_now first_now second_now = PartRunsOn seen log first second log_now first_now second_now

    abbrev three : List (List ℕ × D)
    three = (log_of h, log) ∷ (first_of h, first) ∷ (second_of h, second) ∷ []

    abbrev back : D → D → D → List (List ℕ × Option D)
    back l a b = (log_of h, Some l) ∷ (first_of h, Some a) ∷ (second_of h, Some b) ∷ []

    -- names that are those of the partition's disks
    pub gets_named : (x y z : List ℕ) (old new : B) → x ≡ log_of h → y ≡ first_of h → z ≡ second_of h
        → GetsAll bay_seen seen ((x, log) ∷ (y, first) ∷ (z, second) ∷ []) old new
        → GetsAll bay_seen seen three old new
    gets_named x y z old new p q r gets =
        subst (λ (es : List (List ℕ × D)). GetsAll bay_seen seen es old new) (λ i. (p i, log) ∷ (q i, first) ∷ (r i, second) ∷ []) gets

    pub puts_named : (x y z : List ℕ) (old new : B) → x ≡ log_of h → y ≡ first_of h → z ≡ second_of h
        → Puts ((x, Some log) ∷ (y, Some first) ∷ (z, Some second) ∷ []) old new → Puts (back log first second) old new
    puts_named x y z old new p q r puts =
        subst (λ (es : List (List ℕ × Option D)). Puts es old new) (λ i. (p i, Some log) ∷ (q i, Some first) ∷ (r i, Some second) ∷ []) puts

    pub three_out : (old new : B) → GetsAll bay_seen seen three old new → (m : List ℕ) → IsOneOf (disks_of h) m → (bay_seen new).out m ≡ true
    three_out old new gets m one = go one (gets_each bay_seen seen three old new apart gets) where
      go : IsOneOf (disks_of h) m → AllByRecursion (IsGiven bay_seen seen old new) three → (bay_seen new).out m ≡ true
      go (inl e) all = subst (λ (n : List ℕ). (bay_seen new).out n ≡ true) (sym e) all.0.is_out
      go (inr (inl e)) all = subst (λ (n : List ℕ). (bay_seen new).out n ≡ true) (sym e) all.1.0.is_out
      go (inr (inr (inl e))) all = subst (λ (n : List ℕ). (bay_seen new).out n ≡ true) (sym e) all.1.1.0.is_out
      go (inr (inr (inr never))) all = absurd never

    pub taken_part : (old new : B) (shard : OpenPart D) (slot : PartSlot D) → hosted_slot slot ≡ h → slot.state ≡ part.Open shard
        → GetsAll bay_seen seen three old new → (seen log).faults ≤ (seen shard.log.journal.disk).faults
        → (seen first).faults ≤ (seen shard.states.journal.first.disk).faults → (seen second).faults ≤ (seen shard.states.journal.second.disk).faults → Opened h log first second shard
        → Stand shard.log.journal.disk shard.states.journal.first.disk shard.states.journal.second.disk
        → Run shard.log.journal.disk shard.states.journal.first.disk shard.states.journal.second.disk
        → AreFed seen shard.log.journal.disk shard.states.journal.first.disk shard.states.journal.second.disk → IsFresh seen shard → Takes h old slot new
    taken_part old new shard slot hosted_is is_open gets on_log on_first on_second opens images runs fed fresh =
        let each = gets_each bay_seen seen three old new apart gets in
        record {
          hosted_is = hosted_is;
          parts = shard;
          is_open = is_open;
          on_log = record { given = log; as_told = each.0.as_told; noted = each.0.noted; later = on_log };
          on_first = record { given = first; as_told = each.1.0.as_told; noted = each.1.0.noted; later = on_first };
          on_second = record { given = second; as_told = each.1.1.0.as_told; noted = each.1.1.0.noted; later = on_second };
          opens = opens;
          fresh = fresh;
          images = images;
          runs = runs;
          fed = fed;
          are_out = three_out old new gets;
          others = λ m n. gets_others bay_seen seen three old new gets m n;
          moves = gets_moves bay_seen seen three old new gets;
        }

    -- they were put back behind an opening that was refused
    pub refused_part : (old mid new : B) (log_now first_now second_now : D) (fault : CoreOpen) → GetsAll bay_seen seen three old mid
        → Puts (back log_now first_now second_now) mid new
        → ((l a b : List ℕ) (its : PartitionLog) (states : ShareStates) → (seen log).content ≡ Some l → (seen first).content ≡ Some a → (seen second).content ≡ Some b
        → ArePartText h.conf l a b its states → (n : List ℕ) (place : ℕ) → fault ≢ Damaged n place)
        → (IsTold (seen log).content → IsTold (seen first).content → IsTold (seen second).content → (seen log).armed ≡ Nothing → (seen first).armed ≡ Nothing → (seen second).armed ≡ Nothing
        → fault ≢ Device)
        → ((n : List ℕ) (place : ℕ) → fault ≡ Damaged n place → (l a b : List ℕ) → (seen log).content ≡ Some l → (seen first).content ≡ Some a → (seen second).content ≡ Some b
        → IsDamagedPart h l a b n place)
        → (fault ≡ Device → Rose (seen log).faults (seen log_now).faults ⊎ (Rose (seen first).faults (seen first_now).faults ⊎ Rose (seen second).faults (seen second_now).faults))
        → fault ≢ Bay → Stand log_now first_now second_now → Run log_now first_now second_now
        → (IsOfDevice fault → AreFed seen log_now first_now second_now) → Refuses h fault old new
    refused_part old mid new log_now first_now second_now fault gets puts recovers sound damaged device no_bay images runs fed =
        let each = gets_each bay_seen seen three old mid apart gets in
        let to_mid = gets_moves bay_seen seen three old mid gets in
        let from_mid = puts_moves bay_seen seen (back log_now first_now second_now) mid new puts in
        let is_log : (d : D) → (bay_seen old).disk (log_of h) ≡ Some d → log ≡ d = each.0.as_told in
        let is_first : (d : D) → (bay_seen old).disk (first_of h) ≡ Some d → first ≡ d = each.1.0.as_told in
        let is_second : (d : D) → (bay_seen old).disk (second_of h) ≡ Some d → second ≡ d = each.1.1.0.as_told in
        record {
          damaged = λ n place e contents tells.
              let d = tells (log_of h) (inl refl) in
              let f = tells (first_of h) (inr (inl refl)) in
              let g = tells (second_of h) (inr (inr (inl refl))) in
              damaged n place e (contents (log_of h)) (contents (first_of h)) (contents (second_of h))
              (ap (λ d. (seen d).content) (is_log d.0 d.1) ∙ d.2) (ap (λ d. (seen d).content) (is_first f.0 f.1) ∙ f.2) (ap (λ d. (seen d).content) (is_second g.0 g.1) ∙ g.2);
          recovers = λ contents tells stand n place.
              let d = tells (log_of h) (inl refl) in
              let f = tells (first_of h) (inr (inl refl)) in
              let g = tells (second_of h) (inr (inr (inl refl))) in
              recovers (contents (log_of h)) (contents (first_of h)) (contents (second_of h)) stand.0 stand.1
              (ap (λ d. (seen d).content) (is_log d.0 d.1) ∙ d.2) (ap (λ d. (seen d).content) (is_first f.0 f.1) ∙ f.2) (ap (λ d. (seen d).content) (is_second g.0 g.1) ∙ g.2) stand.2 n place;
          bay = λ e. absurd (no_bay e);
          device = λ e. rises (device e) each.0.noted each.1.0.noted each.1.1.0.noted;
          sound = λ tells still.
              let d = tells (log_of h) (inl refl) in
              let f = tells (first_of h) (inr (inl refl)) in
              let g = tells (second_of h) (inr (inr (inl refl))) in (
                no_bay,
                sound (ap (λ (x : D). is_some (seen x).content) (is_log d.0 d.1) ∙ d.2.tells) (ap (λ (x : D). is_some (seen x).content) (is_first f.0 f.1) ∙ f.2.tells)
                    (ap (λ (x : D). is_some (seen x).content) (is_second g.0 g.1) ∙ g.2.tells) (ap (λ d. (seen d).armed) (is_log d.0 d.1) ∙ d.2.is_unarmed)
                    (ap (λ d. (seen d).armed) (is_first f.0 f.1) ∙ f.2.is_unarmed) (ap (λ d. (seen d).armed) (is_second g.0 g.1) ∙ g.2.is_unarmed),
              );
          are_in = λ m one. puts_in bay_seen seen (back log_now first_now second_now) mid new apart puts m one;
          stays = stays (puts_hold bay_seen seen (back log_now first_now second_now) mid new apart puts) to_mid.told
              each.0.as_told each.1.0.as_told each.1.1.0.as_told;
          others = λ m n. slot_then bay_seen m old mid new (gets_others bay_seen seen three old mid gets m n)
              (puts_others bay_seen seen (back log_now first_now second_now) mid new puts m n);
          moves = moves_then bay_seen old mid new to_mid from_mid;
        }
      where
        stays : AllByRecursion (HoldsIf bay_seen mid new) (back log_now first_now second_now) → TellsStill bay_seen old mid → IsAsTold ((bay_seen old).disk (log_of h)) log
            → IsAsTold ((bay_seen old).disk (first_of h)) first → IsAsTold ((bay_seen old).disk (second_of h)) second
            → (m : List ℕ) → IsOneOf (disks_of h) m → StaysAs bay_seen seen (IsOfDevice fault) m old new
        stays holds still tl tf ts m (inl e) = subst (λ (n : List ℕ). StaysAs bay_seen seen (IsOfDevice fault) n old new) (sym e)
            (stays_put bay_seen seen (IsOfDevice fault) (log_of h) old mid new log log_now tl (still (log_of h)) holds.0 (record { images = images.on_log; runs = runs.on_log; fed = λ f s. absurd (not_both (fed f).0 s) }))
        stays holds still tl tf ts m (inr (inl e)) = subst (λ (n : List ℕ). StaysAs bay_seen seen (IsOfDevice fault) n old new) (sym e)
            (stays_put bay_seen seen (IsOfDevice fault) (first_of h) old mid new first first_now tf (still (first_of h)) holds.1.0 (record { images = images.on_first; runs = runs.on_first; fed = λ f s. absurd (not_both (fed f).1 s) }))
        stays holds still tl tf ts m (inr (inr (inl e))) = subst (λ (n : List ℕ). StaysAs bay_seen seen (IsOfDevice fault) n old new) (sym e)
            (stays_put bay_seen seen (IsOfDevice fault) (second_of h) old mid new second second_now ts (still (second_of h)) holds.1.1.0
            (record { images = images.on_second; runs = runs.on_second; fed = λ f s. absurd (not_both (fed f).2 s) }))
        stays holds still tl tf ts m (inr (inr (inr never))) = absurd never

        rise : (bay_seen mid).taken (log_of h) < (seen log_now).faults ⊎ ((bay_seen mid).taken (first_of h) < (seen first_now).faults ⊎ ((bay_seen mid).taken (second_of h) < (seen second_now).faults ⊎ ⊥))
            → Rose (bay_seen old).faults (bay_seen new).faults ⊎ Last h new
        rise risen = inl (rose_between (bay_seen old).faults (bay_seen mid).faults (bay_seen new).faults (bay_seen new).faults
            (gets_moves bay_seen seen three old mid gets).later
            (puts_rise bay_seen seen (back log_now first_now second_now) mid new apart puts risen)
            (moves_same bay_seen new).later)

        at_last : (n : List ℕ) (d : D) → (bay_seen mid).taken n ≡ (seen d).faults → 2 ^ 64 - 1 ≤ (seen d).faults → 2 ^ 64 - 1 ≤ (bay_seen new).taken n
        at_last n d noted last =
            let same = puts_taken bay_seen seen (back log_now first_now second_now) mid new puts n in omega (arith, same, noted, last)

        rises : Rose (seen log).faults (seen log_now).faults ⊎ (Rose (seen first).faults (seen first_now).faults ⊎ Rose (seen second).faults (seen second_now).faults)
            → (bay_seen mid).taken (log_of h) ≡ (seen log).faults → (bay_seen mid).taken (first_of h) ≡ (seen first).faults → (bay_seen mid).taken (second_of h) ≡ (seen second).faults
            → Rose (bay_seen old).faults (bay_seen new).faults ⊎ Last h new
        rises (inl rose) nl nf ns = go (greater (seen log).faults (seen log_now).faults rose) where
          go : ((seen log).faults < (seen log_now).faults) ⊎ (2 ^ 64 - 1 ≤ (seen log).faults) → Rose (bay_seen old).faults (bay_seen new).faults ⊎ Last h new
          go (inl less) = rise (inl (subst (λ (k : ℕ). k < (seen log_now).faults) (sym nl) less))
          go (inr last) = inr (log_of h, inl refl, at_last (log_of h) log nl last)
        rises (inr (inl rose)) nl nf ns = go (greater (seen first).faults (seen first_now).faults rose) where
          go : ((seen first).faults < (seen first_now).faults) ⊎ (2 ^ 64 - 1 ≤ (seen first).faults) → Rose (bay_seen old).faults (bay_seen new).faults ⊎ Last h new
          go (inl less) = rise (inr (inl (subst (λ (k : ℕ). k < (seen first_now).faults) (sym nf) less)))
          go (inr last) = inr (first_of h, inr (inl refl), at_last (first_of h) first nf last)
        rises (inr (inr rose)) nl nf ns = go (greater (seen second).faults (seen second_now).faults rose) where
          go : ((seen second).faults < (seen second_now).faults) ⊎ (2 ^ 64 - 1 ≤ (seen second).faults) → Rose (bay_seen old).faults (bay_seen new).faults ⊎ Last h new
          go (inl less) = rise (inr (inr (inl (subst (λ (k : ℕ). k < (seen second_now).faults) (sym ns) less))))
          go (inr last) = inr (second_of h, inr (inr (inl refl)), at_last (second_of h) second ns last)

  -- the bay gave one of them not
  pub none_part : (h : Hosted) (old new : B) (fault : CoreOpen) → GetsNone bay_seen (disks_of h) fault old new → Refuses h fault old new
  none_part h old new fault g = record {
    damaged = λ n place e contents tells. absurd (never n place e);
    recovers = λ contents tells stand n place e. never n place e;
    bay = g.bay;
    device = λ e. absurd (no_device e);
    sound = λ tells still. (g.sound still, no_device);
    are_in = g.are_in;
    stays = λ m one. stays_kept bay_seen seen (IsOfDevice fault) m old new (λ d was. g.kept m d one was);
    others = g.others;
    moves = g.moves;
  }
    where
      never : (n : List ℕ) (place : ℕ) → fault ≡ Damaged n place → ⊥
      never n place e = go g.only where
        go : (fault ≡ Bay) ⊎ (fault ≡ NoMemory) → ⊥
        go (inl is) = let bad : Bay ≡ Damaged n place = sym is ∙ e in cc
        go (inr is) = let bad : NoMemory ≡ Damaged n place = sym is ∙ e in cc

      no_device : fault ≡ Device → ⊥
      no_device e = go g.only where
        go : (fault ≡ Bay) ⊎ (fault ≡ NoMemory) → ⊥
        go (inl is) = let bad : Bay ≡ Device = sym is ∙ e in cc
        go (inr is) = let bad : NoMemory ≡ Device = sym is ∙ e in cc

  -- ---- one partition after another

  abbrev TakesList : List Hosted → B → List (PartSlot D) → B → Type 0
  TakesList hosted old slots new = TakesParts bay_seen seen hosted old slots new

  pub takes_hosts : (hosted : List Hosted) (old : B) (slots : List (PartSlot D)) (new : B) → TakesList hosted old slots new → hosted_slots slots ≡ hosted
  takes_hosts [] old [] new t = refl
  takes_hosts [] old (s ∷ slots) new t = absurd t
  takes_hosts (h ∷ hosted) old [] new t = absurd t
  takes_hosts (h ∷ hosted) old (s ∷ slots) new (mid, one, more) = λ i. one.hosted_is i ∷ takes_hosts hosted mid slots new more i

  pub takes_moves : (hosted : List Hosted) (old : B) (slots : List (PartSlot D)) (new : B) → TakesList hosted old slots new → Goes old new
  takes_moves [] old [] new t = subst (λ (b : B). Goes old b) (sym t) (moves_same bay_seen old)
  takes_moves [] old (s ∷ slots) new t = absurd t
  takes_moves (h ∷ hosted) old [] new t = absurd t
  takes_moves (h ∷ hosted) old (s ∷ slots) new (mid, one, more) =
      moves_then bay_seen old mid new one.moves (takes_moves hosted mid slots new more)

  pub takes_others : (hosted : List Hosted) (old : B) (slots : List (PartSlot D)) (new : B) → TakesList hosted old slots new → (m : List ℕ)
      → NotIn (part_disks hosted) m → Same m old new
  takes_others [] old [] new t m n = subst (λ (b : B). Same m old b) (sym t) (slot_same bay_seen m old)
  takes_others [] old (s ∷ slots) new t m n = absurd t
  takes_others (h ∷ hosted) old [] new t m n = absurd t
  takes_others (h ∷ hosted) old (s ∷ slots) new (mid, one, more) m n = slot_then bay_seen m old mid new
      (one.others m (not_in_front (disks_of h) (part_disks hosted) m n)) (takes_others hosted mid slots new more m (not_in_rest (disks_of h) (part_disks hosted) m n))

  pub takes_out : (hosted : List Hosted) (old : B) (slots : List (PartSlot D)) (new : B) → AreDistinct (part_disks hosted) → TakesList hosted old slots new
      → (m : List ℕ) → IsOneOf (part_disks hosted) m → (bay_seen new).out m ≡ true
  takes_out [] old slots new d t m one = absurd one
  takes_out (h ∷ hosted) old [] new d t m one = absurd t
  takes_out (h ∷ hosted) old (s ∷ slots) new d (mid, first, more) m one =
      go (one_in_either (disks_of h) (part_disks hosted) m one) (λ o. takes_out hosted mid slots new (distinct_rest (disks_of h) (part_disks hosted) d) more m o)
    where
      go : IsOneOf (disks_of h) m ⊎ IsOneOf (part_disks hosted) m → (IsOneOf (part_disks hosted) m → (bay_seen new).out m ≡ true) → (bay_seen new).out m ≡ true
      go (inl o) later = (takes_others hosted mid slots new more m (apart_behind (disks_of h) (part_disks hosted) m d o)).same_out ∙ first.are_out m o
      go (inr o) later = later o

  pub takes_more : (hosted : List Hosted) (old : B) (slots : List (PartSlot D)) (mid : B) (h : Hosted) (s : PartSlot D) (new : B)
      → TakesList hosted old slots mid → Takes h mid s new → TakesList (hosted ++ h ∷ []) old (slots ++ s ∷ []) new
  takes_more [] old [] mid h s new t one = (new, subst (λ (b : B). Takes h b s new) t one, refl)
  takes_more [] old (r ∷ slots) mid h s new t one = absurd t
  takes_more (k ∷ hosted) old [] mid h s new t one = absurd t
  takes_more (k ∷ hosted) old (r ∷ slots) mid h s new (next, first, more) one = (next, first, takes_more hosted next slots mid h s new more one)

  -- a slot, by the bay at the beginning and in the end
  pub record IsTakenSlot (h : Hosted) (old new : B) (slot : PartSlot D) : Type 0 where
    pub shard : OpenPart D
    pub is_open : slot.state ≡ part.Open shard
    pub on_log : IsTakenFrom bay_seen seen (log_of h) old new shard.log.journal.disk
    pub on_first : IsTakenFrom bay_seen seen (first_of h) old new shard.states.journal.first.disk
    pub on_second : IsTakenFrom bay_seen seen (second_of h) old new shard.states.journal.second.disk
    pub opens : Opened h on_log.given on_first.given on_second.given shard
    pub images : PartImagesStandAs seen on_log.given on_first.given on_second.given shard.log.journal.disk shard.states.journal.first.disk
        shard.states.journal.second.disk
    pub runs : PartRunsOn seen on_log.given on_first.given on_second.given shard.log.journal.disk shard.states.journal.first.disk
        shard.states.journal.second.disk
    pub fed : AreFed seen shard.log.journal.disk shard.states.journal.first.disk shard.states.journal.second.disk

  abbrev Slots : B → B → List (PartSlot D) → Type 0
  Slots old new slots = AllByRecursion (λ (s : PartSlot D). IsTakenSlot (hosted_slot s) old new s) slots

  first_slot : (h : Hosted) (old : B) (s : PartSlot D) (mid new : B) → Takes h old s mid → ((m : List ℕ) → IsOneOf (disks_of h) m → Same m mid new)
      → IsTakenSlot h old new s
  first_slot h old s mid new one same = record {
    shard = one.parts;
    is_open = one.is_open;
    on_log = record {
      given = one.on_log.given;
      as_told = one.on_log.as_told;
      noted = (same (log_of h) (inl refl)).same_taken ∙ one.on_log.noted;
      later = one.on_log.later;
    };
    on_first = record {
      given = one.on_first.given;
      as_told = one.on_first.as_told;
      noted = (same (first_of h) (inr (inl refl))).same_taken ∙ one.on_first.noted;
      later = one.on_first.later;
    };
    on_second = record {
      given = one.on_second.given;
      as_told = one.on_second.as_told;
      noted = (same (second_of h) (inr (inr (inl refl)))).same_taken ∙ one.on_second.noted;
      later = one.on_second.later;
    };
    opens = one.opens;
    images = one.images;
    runs = one.runs;
    fed = one.fed;
  }

  later_slot : (h : Hosted) (old mid new : B) (s : PartSlot D) → ((m : List ℕ) → IsOneOf (disks_of h) m → Same m old mid) → IsTakenSlot h mid new s
      → IsTakenSlot h old new s
  later_slot h old mid new s same t = record {
    shard = t.shard;
    is_open = t.is_open;
    on_log = record {
      given = t.on_log.given;
      as_told = λ d told. t.on_log.as_told d ((same (log_of h) (inl refl)).same_disk ∙ told);
      noted = t.on_log.noted;
      later = t.on_log.later;
    };
    on_first = record {
      given = t.on_first.given;
      as_told = λ d told. t.on_first.as_told d ((same (first_of h) (inr (inl refl))).same_disk ∙ told);
      noted = t.on_first.noted;
      later = t.on_first.later;
    };
    on_second = record {
      given = t.on_second.given;
      as_told = λ d told. t.on_second.as_told d ((same (second_of h) (inr (inr (inl refl)))).same_disk ∙ told);
      noted = t.on_second.noted;
      later = t.on_second.later;
    };
    opens = t.opens;
    images = t.images;
    runs = t.runs;
    fed = t.fed;
  }

  later_slots : (old mid new : B) (slots : List (PartSlot D)) → ((m : List ℕ) → IsOneOf (part_disks (hosted_slots slots)) m → Same m old mid)
      → Slots mid new slots → Slots old new slots
  later_slots old mid new [] same all = tt
  later_slots old mid new (s ∷ slots) same all = (
    later_slot (hosted_slot s) old mid new s (λ m one. same m (in_front m one)) all.0,
    later_slots old mid new slots (λ m one. same m (inr (inr (inr one)))) all.1,
  )
    where
      in_front : (m : List ℕ) → IsOneOf (disks_of (hosted_slot s)) m → IsOneOf (part_disks (hosted_slots (s ∷ slots))) m
      in_front m (inl e) = inl e
      in_front m (inr (inl e)) = inr (inl e)
      in_front m (inr (inr (inl e))) = inr (inr (inl e))
      in_front m (inr (inr (inr never))) = absurd never

  pub takes_slots : (hosted : List Hosted) (old : B) (slots : List (PartSlot D)) (new : B) → AreDistinct (part_disks hosted) → TakesList hosted old slots new
      → Slots old new slots
  takes_slots [] old [] new d t = tt
  takes_slots [] old (s ∷ slots) new d t = absurd t
  takes_slots (h ∷ hosted) old [] new d t = absurd t
  takes_slots (h ∷ hosted) old (s ∷ slots) new d (mid, one, more) = (
    subst (λ (k : Hosted). IsTakenSlot k old new s) (sym one.hosted_is)
        (first_slot h old s mid new one (λ m o. takes_others hosted mid slots new more m (apart_behind (disks_of h) (part_disks hosted) m d o))),
    later_slots old mid new slots
        (λ m o. one.others m (apart_from (disks_of h) (part_disks hosted) m d
        (subst (λ (l : List Hosted). IsOneOf (part_disks l) m) (takes_hosts hosted mid slots new more) o)))
        (takes_slots hosted mid slots new (distinct_rest (disks_of h) (part_disks hosted) d) more),
  )

  pub slots_open : (old new : B) (slots : List (PartSlot D)) → Slots old new slots → AreOpenParts slots
  slots_open old new [] all = tt
  slots_open old new (s ∷ slots) all = (subst (λ (st : PartState D). IsOpenState st) (sym all.0.is_open) tt, slots_open old new slots all.1)

  pub takes_held : (hosted : List Hosted) (old : B) (slots : List (PartSlot D)) (new : B) → TakesList hosted old slots new → AreHeldParts slots
  takes_held [] old [] new t = tt
  takes_held [] old (s ∷ slots) new t = absurd t
  takes_held (h ∷ hosted) old [] new t = absurd t
  takes_held (h ∷ hosted) old (s ∷ slots) new (mid, one, more) =
      (subst (λ (st : PartState D). IsHeldState st) (sym one.is_open) tt, takes_held hosted mid slots new more)

  pub takes_fresh : (hosted : List Hosted) (old : B) (slots : List (PartSlot D)) (new : B) → TakesList hosted old slots new → AreFresh seen slots
  takes_fresh [] old [] new t = tt
  takes_fresh [] old (s ∷ slots) new t = absurd t
  takes_fresh (h ∷ hosted) old [] new t = absurd t
  takes_fresh (h ∷ hosted) old (s ∷ slots) new (mid, one, more) =
      (subst (λ (st : PartState D). IsFreshState seen st) (sym one.is_open) one.fresh, takes_fresh hosted mid slots new more)

  -- what is told of their disks once they are put back
  pub slots_stay : (Fed : Type 0) (old mid behind new : B) (slots : List (PartSlot D)) → Slots old mid slots → AllByRecursion (HoldsIf bay_seen behind new) (slots_disks slots)
      → TellsStill bay_seen old behind → (m : List ℕ) → IsOneOf (part_disks (hosted_slots slots)) m → StaysAs bay_seen seen Fed m old new
  slots_stay Fed old mid behind new [] all holds still m one = absurd one
  slots_stay Fed old mid behind new (s ∷ slots) all holds still m one =
      go one (λ more. slots_stay Fed old mid behind new slots all.1 holds.1.1.1 still m more) where
        t : IsTakenSlot (hosted_slot s) old mid s
        t = all.0

        at : (state : PartState D) → state ≡ part.Open t.shard → (place : DiskPlace) (name : List ℕ) → HoldsIf bay_seen behind new (name, part_disk state place)
            → HoldsIf bay_seen behind new (name, Some (open_disk t.shard place))
        at state is place name h = subst (λ (p : PartState D). HoldsIf bay_seen behind new (name, part_disk p place)) is h

        go : IsOneOf (part_disks (hosted_slots (s ∷ slots))) m → (IsOneOf (part_disks (hosted_slots slots)) m → StaysAs bay_seen seen Fed m old new)
            → StaysAs bay_seen seen Fed m old new
        go (inl e) others = subst (λ (n : List ℕ). StaysAs bay_seen seen Fed n old new) (sym e)
            (stays_put bay_seen seen Fed (log_of (hosted_slot s)) old behind new t.on_log.given t.shard.log.journal.disk t.on_log.as_told
            (still (log_of (hosted_slot s))) (at s.state t.is_open Log (log_of (hosted_slot s)) holds.0) (record { images = t.images.on_log; runs = t.runs.on_log; fed = λ f s. absurd (not_both t.fed.0 s) }))
        go (inr (inl e)) others = subst (λ (n : List ℕ). StaysAs bay_seen seen Fed n old new) (sym e)
            (stays_put bay_seen seen Fed (first_of (hosted_slot s)) old behind new t.on_first.given t.shard.states.journal.first.disk t.on_first.as_told
            (still (first_of (hosted_slot s))) (at s.state t.is_open StateA (first_of (hosted_slot s)) holds.1.0) (record { images = t.images.on_first; runs = t.runs.on_first; fed = λ f s. absurd (not_both t.fed.1 s) }))
        go (inr (inr (inl e))) others = subst (λ (n : List ℕ). StaysAs bay_seen seen Fed n old new) (sym e)
            (stays_put bay_seen seen Fed (second_of (hosted_slot s)) old behind new t.on_second.given t.shard.states.journal.second.disk t.on_second.as_told
            (still (second_of (hosted_slot s))) (at s.state t.is_open StateB (second_of (hosted_slot s)) holds.1.1.0)
            (record { images = t.images.on_second; runs = t.runs.on_second; fed = λ f s. absurd (not_both t.fed.2 s) }))
        go (inr (inr (inr more))) others = others more

  -- each of their disks has the count with which it was taken, or a greater one
  pub slots_counted : (old mid new : B) (slots : List (PartSlot D)) → Slots old mid slots
      → ((m : List ℕ) → IsOneOf (part_disks (hosted_slots slots)) m → (bay_seen new).taken m ≡ (bay_seen mid).taken m)
      → AllByRecursion (TakenIf bay_seen seen old new) (slots_disks slots)
  slots_counted old mid new [] all same = tt
  slots_counted old mid new (s ∷ slots) all same = (
    counted (λ st. part_disk st Log) all.0.is_open refl (log_of (hosted_slot s)) (same (log_of (hosted_slot s)) (inl refl)) all.0.on_log,
    (
      counted (λ st. part_disk st StateA) all.0.is_open refl (first_of (hosted_slot s)) (same (first_of (hosted_slot s)) (inr (inl refl))) all.0.on_first,
      (
        counted (λ st. part_disk st StateB) all.0.is_open refl (second_of (hosted_slot s)) (same (second_of (hosted_slot s)) (inr (inr (inl refl)))) all.0.on_second,
        slots_counted old mid new slots all.1 (λ m one. same m (inr (inr (inr one)))),
      ),
    ),
  )
    where
      counted : (at : PartState D → Option D) {st opened_as : PartState D} {d : D} → st ≡ opened_as → at opened_as ≡ Some d → (name : List ℕ) → (bay_seen new).taken name ≡ (bay_seen mid).taken name
          → IsTakenFrom bay_seen seen name old mid d → TakenIf bay_seen seen old new (name, at st)
      counted at is has name noted t = subst (λ (o : Option D). TakenIf bay_seen seen old new (name, o)) (sym (ap at is ∙ has))
          (record { given = t.given; as_told = t.as_told; noted = noted ∙ t.noted; later = t.later })

  -- ---- as loops take them and put them back

  pub record Going (all yielded rest : List Hosted) (old : B) (slots : List (PartSlot D)) (now : B) : Type 0 where
    pub parts : all ≡ yielded ++ rest
    pub takes : TakesList yielded old slots now

  module _ (all yielded rest more : List Hosted) (h : Hosted) (old : B) (slots : List (PartSlot D)) (now : B) (p : Going all yielded rest old slots now)
      (is : rest ≡ h ∷ more) where
    going_split : all ≡ yielded ++ h ∷ more
    going_split = p.parts ∙ ap (λ (l : List Hosted). yielded ++ l) is

    pub going_named : AreNamed all → IsNamed h
    going_named each = (all_of_rest IsNamed yielded (h ∷ more) (subst AreNamed going_split each)).0

    pub going_slots_named : AreNamed all → AreNamed (hosted_slots slots)
    going_slots_named each = subst AreNamed (sym (takes_hosts yielded old slots now p.takes)) (all_of_front IsNamed yielded (h ∷ more) (subst AreNamed going_split each))

    both_distinct : AreDistinct (part_disks all) → AreDistinct (part_disks yielded ++ part_disks (h ∷ more))
    both_distinct distinct = subst AreDistinct (ap part_disks going_split ∙ disks_then yielded (h ∷ more)) distinct

    pub going_apart : AreDistinct (part_disks all) → AreDistinct (disks_of h)
    going_apart distinct = distinct_front (disks_of h) (part_disks more) (distinct_rest (part_disks yielded) (part_disks (h ∷ more)) (both_distinct distinct))

    in_all : (m : List ℕ) → IsOneOf (disks_of h) m → IsOneOf (part_disks (h ∷ more)) m
    in_all m (inl e) = inl e
    in_all m (inr (inl e)) = inr (inl e)
    in_all m (inr (inr (inl e))) = inr (inr (inl e))
    in_all m (inr (inr (inr never))) = absurd never

    pub going_in : AreDistinct (part_disks all) → ((m : List ℕ) → (bay_seen old).out m ≡ false) → (m : List ℕ) → IsOneOf (disks_of h) m → (bay_seen now).out m ≡ false
    going_in distinct whole m one =
        (takes_others yielded old slots now p.takes m
        (apart_from (part_disks yielded) (part_disks (h ∷ more)) m (both_distinct distinct) (in_all m one))).same_out ∙ whole m

    pub going_on : (s : PartSlot D) (new : B) (next : List (PartSlot D)) → Takes h now s new → next ≡ slots ++ s ∷ []
        → Going all (yielded ++ h ∷ []) more old next new
    going_on s new next one pushed = record {
      parts = going_split ∙ sym (append_assoc yielded (h ∷ []) more);
      takes = subst (λ (l : List (PartSlot D)). TakesList (yielded ++ h ∷ []) old l new) (sym pushed) (takes_more yielded old slots now h s new p.takes one);
    }

    pub going_distinct : AreDistinct (part_disks all) → AreDistinct (part_disks (hosted_slots slots))
    going_distinct distinct = subst (λ (l : List Hosted). AreDistinct (part_disks l)) (sym (takes_hosts yielded old slots now p.takes))
        (distinct_front (part_disks yielded) (part_disks (h ∷ more)) (both_distinct distinct))

    -- those before it are still out after a refusal
    pub going_out : AreDistinct (part_disks all) → (behind : B) → ((m : List ℕ) → NotIn (disks_of h) m → Same m now behind)
        → (m : List ℕ) → IsOneOf (part_disks (hosted_slots slots)) m → (bay_seen behind).out m ≡ true
    going_out distinct behind others m one =
        let among_them = subst (λ (l : List Hosted). IsOneOf (part_disks l) m) (takes_hosts yielded old slots now p.takes) one in
        (others m (not_in_front (disks_of h) (part_disks more) m
        (apart_behind (part_disks yielded) (part_disks (h ∷ more)) m (both_distinct distinct) among_them))).same_out
        ∙ takes_out yielded old slots now (distinct_front (part_disks yielded) (part_disks (h ∷ more)) (both_distinct distinct)) p.takes m among_them

  pub going_all : (all yielded rest : List Hosted) (old : B) (slots : List (PartSlot D)) (now : B) → Going all yielded rest old slots now → rest ≡ []
      → TakesList all old slots now
  going_all all yielded rest old slots now p is =
      subst (λ (l : List Hosted). TakesList l old slots now) (sym (p.parts ∙ ap (λ (l : List Hosted). yielded ++ l) is ∙ append-nil yielded)) p.takes

  pub record Putting (all yielded rest : List (PartSlot D)) (old now : B) : Type 0 where
    pub parts : all ≡ yielded ++ rest
    pub puts : Puts (slots_disks yielded) old now

  module _ (all yielded rest more : List (PartSlot D)) (s : PartSlot D) (old now : B) (p : Putting all yielded rest old now) (is : rest ≡ s ∷ more) where
    putting_split : all ≡ yielded ++ s ∷ more
    putting_split = p.parts ∙ ap (λ (l : List (PartSlot D)). yielded ++ l) is

    pub putting_held : AreHeldParts all → IsHeldState s.state
    putting_held h = (all_of_rest (λ (r : PartSlot D). IsHeldState r.state) yielded (s ∷ more) (subst AreHeldParts putting_split h)).0

    pub putting_named : AreNamed (hosted_slots all) → IsNamed (hosted_slot s)
    putting_named each = (all_of_rest IsNamed (hosted_slots yielded) (hosted_slots (s ∷ more))
        (subst AreNamed (ap hosted_slots putting_split ∙ hosts_then yielded (s ∷ more)) each)).0

    slots_distinct : AreDistinct (part_disks (hosted_slots all)) → AreDistinct (part_disks (hosted_slots yielded) ++ part_disks (hosted_slots (s ∷ more)))
    slots_distinct distinct =
        subst AreDistinct (ap (λ (l : List (PartSlot D)). part_disks (hosted_slots l)) putting_split ∙ hosts_disks_then yielded (s ∷ more)) distinct

    pub putting_apart : AreDistinct (part_disks (hosted_slots all)) → AreDistinct (disks_of (hosted_slot s))
    putting_apart distinct = distinct_front (disks_of (hosted_slot s)) (part_disks (hosted_slots more))
        (distinct_rest (part_disks (hosted_slots yielded)) (part_disks (hosted_slots (s ∷ more))) (slots_distinct distinct))

    in_rest : (m : List ℕ) → IsOneOf (disks_of (hosted_slot s)) m → IsOneOf (part_disks (hosted_slots (s ∷ more))) m
    in_rest m (inl e) = inl e
    in_rest m (inr (inl e)) = inr (inl e)
    in_rest m (inr (inr (inl e))) = inr (inr (inl e))
    in_rest m (inr (inr (inr never))) = absurd never

    pub putting_out : AreDistinct (part_disks (hosted_slots all))
        → ((m : List ℕ) → IsOneOf (part_disks (hosted_slots all)) m → (bay_seen old).out m ≡ true)
        → (m : List ℕ) → IsOneOf (disks_of (hosted_slot s)) m → (bay_seen now).out m ≡ true
    putting_out distinct outs m one =
        (puts_others bay_seen seen (slots_disks yielded) old now p.puts m
        (subst (λ (l : List (List ℕ)). NotIn l m) (sym (names_of_disks yielded))
        (apart_from (part_disks (hosted_slots yielded)) (part_disks (hosted_slots (s ∷ more))) m (slots_distinct distinct) (in_rest m one)))).same_out
        ∙ outs m (subst (λ (l : List (List ℕ)). IsOneOf l m)
        (sym (ap (λ (l : List (PartSlot D)). part_disks (hosted_slots l)) putting_split ∙ hosts_disks_then yielded (s ∷ more)))
        (one_in_rest (part_disks (hosted_slots yielded)) (part_disks (hosted_slots (s ∷ more))) m (in_rest m one)))

    pub putting_on : (new : B) → Puts (slot_disks s) now new → Putting all (yielded ++ s ∷ []) more old new
    putting_on new put = record {
      parts = putting_split ∙ sym (append_assoc yielded (s ∷ []) more);
      puts = subst (λ (es : List (List ℕ × Option D)). Puts es old new) (sym (flat_map-append slot_disks yielded (s ∷ [])))
          (puts_then bay_seen seen (slots_disks yielded) (slot_disks s) old now new p.puts put);
    }

  pub putting_all : (all yielded rest : List (PartSlot D)) (old now : B) → Putting all yielded rest old now → rest ≡ [] → Puts (slots_disks all) old now
  putting_all all yielded rest old now p is =
      subst (λ (l : List (PartSlot D)). Puts (slots_disks l) old now) (sym (p.parts ∙ ap (λ (l : List (PartSlot D)). yielded ++ l) is ∙ append-nil yielded)) p.puts
