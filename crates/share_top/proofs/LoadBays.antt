-- A load on the disk of a bay: what is said of the log and its disk is said of the bay's.
use Rattle.std.specs.Prelude.{map}
use Rattle.std.proofs.Common.{◌++◌, length, length-append}
use Rattle.std.proofs.lemmas.List.{map-append}
use Rattle.std.proofs.Common.{◌≡◌, ◌+◌, ◌-◌, ◌<◌, ◌≤◌, ◌^◌, ◌↔◌, inl, inr, ⊎_elim, ℕ, List, [], ◌∷◌, All, Bool, true, false, ◌||◌, Option, Some, None, IfSome, MatchOption, is_some, min, refl, sym, ap, subst, ◌∙◌, arith}
use Rattle.std.specs.Option.{IsSome}
use Rattle.std.proofs.lemmas.Bool.{cases_lt}
use Rattle.std.specs.Io.KnownBytes.{Appends}
use Rattle.edge_io.specs.Bays.{Holds, IsAsTold}
use Rattle.edge_io.specs.Causes.{Rose}
use Rattle.edge_io.specs.Moments.{LeavesOnly}
use Rattle.edge_io.specs.Names.{IsTopicName, hosted_name, most_partitions}
use Rattle.edge_io.specs.declared.name.DiskPlace.TheVariants.{Log as log_place}
use Rattle.gate_journal.specs.Frames.{StandsAs, StandsFor, blocks}
use Rattle.gate_journal.proofs.FrameReads.{blocks_append}
use Rattle.share_model.specs.Logs.{Batch}
use Rattle.part_log.specs.declared.fault.OpenFault.{OpenFault}
use Rattle.part_log.specs.declared.fault.OpenFault.TheVariants as open_fault
use Rattle.part_log.specs.Logs.{IsLogText, IsNoLogText, Keeps as KeepsLog, Lead, LogParts, frame_of, frames_of, log_in, no_log}
use Rattle.part_log.specs.Shards.{HasNoRoomAt}
use Rattle.part_log.specs.Starts.{Log, LogWrite}
use Rattle.part_log.specs.Starts.LogWrite.{Adds}
use Rattle.part_log.proofs.Ending.{end_of_stands}
use Rattle.topic_conf.specs.declared.topic.Topic.{Topic}
use Rattle.topic_conf.specs.Topics.{IsTopic, partitions}
use Rattle.topic_conf.proofs.Lists.{partitions_cons, all_front, all_others}
use Rattle.share_top.specs.declared.status.Status.{Status}
use Rattle.share_top.specs.declared.status.Status.TheVariants.{Done, Usage, Malformed, ReadFault, WriteFault, Damaged, Device, NoMemory, Listener, Spawner, Lost, Refused, Strange}
use Rattle.share_top.specs.Changes.{InputChange, OutputChange, bay_change}
use Rattle.share_top.specs.Sessions.{WritesFrontOf}
use Rattle.share_top.specs.Loading.{LoadEnding, RoomEnding, HasNoRoomIn, IsWhole, IsRefusedSegment, IsBegunSegment, WithLine, WithPlace, IsLoaded, IsNotLoaded, IsLogDisk, OverDisk, IsStored, StoresIn, StaysIn, DamagesIn, DiskCountRose, FailsWithMemory}
use Rattle.share_top.specs.Loads.{IsGrown, IsLogRefusal, LacksRoom}
use Rattle.edge_io.specs.Views.{DiskView, BayView}

-- ---- the disk of a shard

module _ (topics : List Topic) (topic : Topic) (others : List Topic) (shard : ℕ) (split : topics ≡ topic ∷ others) where
  here_disk : shard < topic.parts → IsLogDisk topics shard (hosted_name topic.name shard log_place)
  here_disk lt = (topic, shard, record { before = []; after = others; topics_are = split; within = lt; shard_is = omega arith }, refl)

  pub here : (text : List ℕ) (result : Option (List ℕ)) → text ≡ topic.name → IfSome result (λ n. n ≡ hosted_name text shard log_place)
      → (IsSome result ↔ (IsTopicName text × (shard < 64))) → All IsTopic topics → partitions topics ≤ most_partitions → shard < topic.parts
      → MatchOption result (partitions topics ≤ shard) (IsLogDisk topics shard)
  here text (Some name) named some exact each few lt = subst (IsLogDisk topics shard) (sym (some ∙ ap (λ (t : List ℕ). hosted_name t shard log_place) named)) (here_disk lt)
  here text None named some exact each few lt =
      let is = all_front IsTopic topic others (subst (All IsTopic) split each) in
      let sum = ap partitions split ∙ partitions_cons topic others in
      let some_there = exact.1 (subst IsTopicName (sym named) is.name, (let r : shard < 64 = omega (arith, lt, few, sum) in r)) in
      absurd (cc)

  pub each_others : All IsTopic topics → All IsTopic others
  each_others each = all_others IsTopic topic others (subst (All IsTopic) split each)

  pub later : (result : Option (List ℕ)) → topic.parts ≤ shard → MatchOption result (partitions others ≤ shard - topic.parts) (IsLogDisk others (shard - topic.parts))
      → MatchOption result (partitions topics ≤ shard) (IsLogDisk topics shard)
  later None many h = let sum = ap partitions split ∙ partitions_cons topic others in omega (arith, many, h, sum)
  later (Some name) many h =
      let p = h.2 in
      let sum = partitions_cons topic p.before in (
        h.0,
        h.1,
        record {
          before = topic ∷ p.before;
          after = p.after;
          topics_are = split ∙ ap (λ (l : List Topic). topic ∷ l) p.topics_are;
          within = p.within;
          shard_is = omega (arith, many, sum, p.shard_is);
        },
        h.3,
      )

-- ---- a table of one kind of endings gives that of another

module _ (input : InputChange) (output : OutputChange) (E F : LoadEnding) (N M : RoomEnding) (R S : Type 0)
    (f : (log : Log) (batches : List Batch) (pending : Option Batch) → E log batches pending → F log batches pending)
    (n : (log : Log) (batches : List Batch) (next : Batch) (at : ℕ) → N log batches next at → M log batches next at) (g : R → S) where
  whole : (Tells : List ℕ → Type 0) → IsWhole input (WithLine E Tells) → IsWhole input (WithLine F Tells)
  whole Tells w = record {
    log = w.log;
    batches = w.batches;
    segment = w.segment;
    whole = w.whole;
    ended = w.ended;
    ends = (f w.log w.batches None w.ends.0, w.ends.1);
  }

  refused : (Tells : List ℕ → Type 0) → IsRefusedSegment input (WithPlace E Tells) → IsRefusedSegment input (WithPlace F Tells)
  refused Tells r = record { log = r.log; batches = r.batches; refused = r.refused; ends = (f r.log r.batches None r.ends.0, r.ends.1) }

  begun : IsBegunSegment input E → IsBegunSegment input F
  begun b = record { log = b.log; batches = b.batches; pending = b.pending; begins = b.begins; ends = f b.log b.batches b.pending b.ends }

  pub weakens : (status : Status) → IsLoaded input output E N R status → IsLoaded input output F M S status
  weakens Done w = whole (Appends output.held output.held_after) w
  weakens Usage w = w
  weakens Listener w = w
  weakens Spawner w = w
  weakens Lost w = w
  weakens Refused w = w
  weakens Strange w = w
  weakens Malformed w = refused (Appends output.held output.held_after) w
  weakens ReadFault w = (
    w.0,
    w.1,
    record {
      log = w.2.log;
      batches = w.2.batches;
      given = w.2.given;
      consumed = w.2.consumed;
      whole = w.2.whole;
      ends = f w.2.log w.2.batches None w.2.ends;
    },
  )
  weakens WriteFault (rose, inl w) = (rose, inl (whole (λ line. WritesFrontOf line output) w))
  weakens WriteFault (rose, inr w) = (rose, inr (refused (λ line. WritesFrontOf line output) w))
  weakens Damaged w = w
  weakens Device (kept, inl w) = (kept, inl (g w.0, begun w.1))
  weakens Device (kept, inr w) = (
    kept,
    inr (record {
      log = w.log;
      batches = w.batches;
      next = w.next;
      at = w.at;
      begins = w.begins;
      no_room = n w.log w.batches w.next w.at w.no_room;
      ends = f w.log w.batches None w.ends;
    }),
  )
  weakens NoMemory w = (w.0, begun w.1)

-- ---- over a bay

some_told : (o : Option (List ℕ)) → is_some o ≡ true → (c : List ℕ) × (o ≡ Some c)
some_told None e = absurd cc
some_told (Some c) e = (c, refl)

module _ {B D : Type 0} (bay_seen : B → BayView D) (seen : D → DiskView)
    (name : List ℕ) (old mid new : B) where
  -- the bay gave no disk
  pub stays_there : (bay_seen new).disk name ≡ (bay_seen old).disk name → StaysIn (bay_change bay_seen seen old new) name
  stays_there same d c is has = (d, c, same ∙ is, has, λ x on. (x, on, inl refl))

  module _ (first last : D) (given : IsAsTold ((bay_seen old).disk name) first) (told : is_some ((bay_seen mid).disk name) ≡ is_some ((bay_seen old).disk name))
      (there : Holds ((bay_seen mid).disk name) ((bay_seen new).disk name) last) (tells : is_some (seen last).content ≡ is_some (seen first).content) where
    over : (P : D → List ℕ → D → List ℕ → Type 0) → ((c left : List ℕ) → (seen first).content ≡ Some c → (seen last).content ≡ Some left → P first c last left)
        → OverDisk (bay_change bay_seen seen old new) name P
    over P f d c is has =
        let e : first ≡ d = given d is in
        let first_has : (seen first).content ≡ Some c = ap (λ d. (seen d).content) e ∙ has in
        let left = some_told (seen last).content (tells ∙ ap is_some first_has) in
        (last, left.0, there (told ∙ ap is_some is), left.1, subst (λ (x : D). P x c last left.0) e (f c left.0 first_has left.1))

    pub stays : ((d : D) (t : ℕ) (c : List ℕ) → t ≤ (seen d).moment → (seen d).image c → (seen d).since t c)
        → LeavesOnly seen first last (StandsAs (seen first).image) → StaysIn (bay_change bay_seen seen old new) name
    stays counts l = over (λ d c e left. (x : List ℕ) → (seen e).image x → StandsAs (seen d).image x)
        (λ c left is has x on. l.each x (counts last (seen first).moment x l.later on))

    pub stores : ((d : D) (c : List ℕ) → (seen d).content ≡ Some c → (seen d).image c) → (opened new_log : LogParts D) → last ≡ new_log.journal.disk
        → ((c : List ℕ) → (seen first).content ≡ Some c → IsLogText c (log_in opened))
        → (log : Log) (batches : List Batch) (pending : Option Batch) → IsGrown seen opened new_log log batches pending → StoresIn (bay_change bay_seen seen old new) name log batches pending
    stores read opened new_log at opens log batches pending h = over (λ d c e left. IsStored seen log batches pending c e left)
        (λ c left is has. record {
          before = subst (IsLogText c) (sym h.was) (opens c is);
          images = λ x on. h.images x (subst (λ (d : D). (seen d).image x) at on);
          read = read last left has;
        })

    pub lacks : (opened : LogParts D) → KeepsLog seen opened None
        → ((c : List ℕ) → (seen first).content ≡ Some c → IsLogText c (log_in opened))
        → ((c : List ℕ) (frames : List (List ℕ)) → (seen first).content ≡ Some c → StandsFor c frames → opened.journal.end ≡ length (blocks frames) + 1)
        → (log : Log) (batches : List Batch) (next : Batch) (at : ℕ) → LacksRoom opened log batches next at → HasNoRoomIn (bay_change bay_seen seen old new) name log batches next at
    lacks opened kept opens ends log batches next at h = by (seen first).content refl where
      with_these : (writes : List LogWrite) → Lead no_log writes (log_in opened) → opened.journal.end ≡ length (blocks (frames_of writes)) + 1
          → ((d : D) (c : List ℕ) → (bay_seen old).disk name ≡ Some d → (seen d).content ≡ Some c → StandsFor c (frames_of writes))
          → HasNoRoomIn (bay_change bay_seen seen old new) name log batches next at
      with_these writes leads end on_disk =
          let more = frames_of (map Adds batches) in
          let sum : length (blocks (frames_of (writes ++ map Adds batches))) ≡ length (blocks (frames_of writes)) + length (blocks (frames_of (map Adds batches))) =
          ap (λ (l : List (List ℕ)). length (blocks l)) (map-append frame_of writes (map Adds batches)) ∙ ap length (blocks_append (frames_of writes) more)
          ∙ length-append (blocks (frames_of writes)) (blocks more) in
          let there : opened.journal.end + length (blocks (frames_of (map Adds batches))) ≡ length (blocks (frames_of (writes ++ map Adds batches))) + 1 = omega (arith, end, sum) in
          record {
            writes = writes;
            leads = subst (Lead no_log writes) (sym h.was) leads;
            none = subst (λ (k : ℕ). HasNoRoomAt k (log.batches ++ batches) next at) there h.none;
            on_disk = on_disk;
          }

      by : (o : Option (List ℕ)) → (seen first).content ≡ o → HasNoRoomIn (bay_change bay_seen seen old new) name log batches next at
      by (Some c) is =
          let text = opens c is in
          with_these text.writes text.leads (ends c (frames_of text.writes) is text.frames)
          (λ d x told has.
          let both : Some c ≡ Some x = sym is ∙ ap (λ d. (seen d).content) (given d told) ∙ has in
          let same : c ≡ x = cc in
          subst (λ (y : List ℕ). StandsFor y (frames_of text.writes)) same text.frames)
      by None is = with_these kept.writes kept.leads (end_of_stands seen opened.journal (frames_of kept.writes) None kept.stands)
          (λ d x told has. absurd (let never : ◌≡◌ {A = Option (List ℕ)} None (Some x) = sym is ∙ ap (λ d. (seen d).content) (given d told) ∙ has in let clash : ⊥ = cc in clash))

  pub damages : (first : D) → IsAsTold ((bay_seen old).disk name) first → (fault : OpenFault)
      → ((place : ℕ) → fault ≡ open_fault.Damaged place → (c : List ℕ) → (seen first).content ≡ Some c → IsNoLogText c place)
      → (place : ℕ) → fault ≡ open_fault.Damaged place → DamagesIn (bay_change bay_seen seen old new) name place
  damages first given fault f place is d c told has = f place is c (ap (λ d. (seen d).content) (given d told) ∙ has)

  -- the count of the disk rose, and so did the bay's, unless the disk's stood at its last value
  pub rises : (first : D) (taken after : ℕ) → (bay_seen new).taken name ≡ taken → taken ≡ (seen first).faults → (bay_seen old).faults ≤ (bay_seen mid).faults
      → (bay_seen new).faults ≡ min ((bay_seen mid).faults + (after - taken)) (2 ^ 64 - 1) → Rose (seen first).faults after → DiskCountRose (bay_change bay_seen seen old new) name
  rises first taken after kept noted later sum rose = ⊎_elim
      (λ lt. inl (let r : Rose (bay_seen old).faults (bay_seen new).faults = omega (arith, lt, noted, later, sum, rose) in r))
      (λ le. inr (let l : 2 ^ 64 - 1 ≤ (bay_seen new).taken name = omega (arith, kept, noted, le) in l))
      (cases_lt (seen first).faults (2 ^ 64 - 1))

  -- and memory was found
  pub with_memory : (last : D) (starved : Bool) → is_some ((bay_seen mid).disk name) ≡ is_some ((bay_seen old).disk name)
      → Holds ((bay_seen mid).disk name) ((bay_seen new).disk name) last → DiskCountRose (bay_change bay_seen seen old new) name → (seen last).starved ≡ false → starved ≡ false
      → (bay_seen new).starved ≡ starved → FailsWithMemory (bay_change bay_seen seen old new) name
  with_memory last starved told there rose fed bay_fed same = record {
    rose = rose;
    disk = λ d e was is s.
        let at : (bay_seen new).disk name ≡ Some last = there (told ∙ ap is_some was) in
        let one : Some e ≡ Some last = sym is ∙ at in
        let only : e ≡ last = cc in
        absurd (let bad : false ≡ true = sym fed ∙ ap (λ (x : D). (seen x).starved) (sym only) ∙ s in cc);
    fed = same ∙ bay_fed;
  }

-- neither the bay nor the disk has found no memory
pub none_starved : (bay disk : Bool) → (bay || disk) ≡ false → (bay ≡ false) × (disk ≡ false)
none_starved false false none = (refl, refl)
none_starved false true none = absurd (let bad : true ≡ false = none in cc)
none_starved true disk none = absurd (let bad : true ≡ false = none in cc)

pub fed_as : (bay told disk : Bool) → told ≡ disk → (bay || told) ≡ false → (bay || disk) ≡ false
fed_as bay told disk same none = sym (ap (λ (b : Bool). bay || b) same) ∙ none

pub rose_on : (a b c : ℕ) → a ≤ b → Rose b c → Rose a c
rose_on a b c le r = omega (arith, le, r)

-- ---- a log that was not opened

module _ (output : OutputChange) (name : List ℕ) (fault : OpenFault) (Damages : ℕ → Type 0) (Rises : Type 0)
    (damaged : (place : ℕ) → fault ≡ open_fault.Damaged place → Damages place) (told : Status)
    (risen : told ≡ Device → fault ≡ open_fault.Device → Rises) where
  pub not_loaded : (status : Status) → told ≡ status → IsLogRefusal name fault output status → IsNotLoaded output name Damages Rises status
  not_loaded Done is r = r
  not_loaded Usage is r = r
  not_loaded Listener is r = r
  not_loaded Spawner is r = r
  not_loaded Lost is r = r
  not_loaded Refused is r = r
  not_loaded Strange is r = r
  not_loaded Malformed is r = r
  not_loaded ReadFault is r = r
  not_loaded WriteFault is r = (r.0, (r.1.0, damaged r.1.0 r.1.1, r.1.2))
  not_loaded Damaged is r = (r.0, damaged r.0 r.1, r.2)
  not_loaded Device is r = (risen is r.0, r.1)
  not_loaded NoMemory is r = r
