-- What is opened of three disks, and why nothing is.
use Rattle.std.proofs.Common.{◌≡◌, ◌≢◌, ◌∙◌, arith, inl, inr, refl, sym, ap, subst, ℕ, pos, List, [], Some, None, Bool, true, false}
use Rattle.edge_io.specs.declared.name.DiskPlace.{DiskPlace}
use Rattle.edge_io.specs.declared.name.DiskPlace.TheVariants.{Log, LogB, StateA, StateB}
use Rattle.coord_checkpoint.specs.Disks.{HasFailed}
use Rattle.coord_checkpoint.specs.declared.fault.CoordOpen.{CoordOpen}
use Rattle.coord_checkpoint.specs.declared.fault.CoordOpen.TheVariants.{Damaged as states_damaged, Device as states_device, NoMemory as states_memory}
use Rattle.share_model.specs.Held.{Held}
use Rattle.part_log.specs.Logs.{IsLogText, IsNoLogText, Keeps, LogParts, log_in}
use Rattle.part_log.specs.Starts.{Log as PartitionLog}
use Rattle.part_log.specs.declared.fault.OpenFault.{OpenFault}
use Rattle.part_log.specs.declared.fault.OpenFault.TheVariants.{Damaged as log_damaged, Device as log_device, NoMemory as log_memory}
use Rattle.share_coord.specs.Opening.{IsOpened as states_opened, IsNotOpened as states_not_opened}
use Rattle.share_coord.specs.Holding.{Holds}
use Rattle.share_coord.specs.Parts.{StoreParts}
use Rattle.share_model.specs.ForeignRules.{ShareStates}
use Rattle.share_coord.specs.Stored.{AreDamaged}
use Rattle.share_part.specs.Faults.{fault_of_log, fault_of_states, state_disk}
use Rattle.share_coord.specs.Raising.{raised_states}
use Rattle.share_coord.specs.Unwritten.{AreLevel, raised_all}
use Rattle.share_coord.proofs.Recovered.{level_first, states_all}
use Rattle.share_part.specs.Hosting.{ArePartText, PartConfParts, AreHosted}
use Rattle.share_coord.specs.States.{AreStates, states_of}
use Rattle.share_part.specs.Opening.{IsOpened, IsNotOpened, AreDamagedAt, StandsForLog}
use Rattle.share_part.specs.Shards.{PartParts, held_in}
use Rattle.share_part.specs.declared.opening.PartFault.{PartFault}
use Rattle.share_part.specs.declared.opening.PartFault.TheVariants.{Damaged, Device, NoMemory}
use Rattle.edge_io.specs.Moments.{LeavesOnly}
use Rattle.edge_io.specs.Views.{DiskView}
use Rattle.gate_journal.specs.Frames.{StandsAs}

-- a disk of which no call was made
pub left_alone : {D : Type 0} (seen : D → DiskView) → ((d : D) (c : List ℕ) → (seen d).since (seen d).moment c → (seen d).image c)
    → (d : D) → LeavesOnly seen d d (StandsAs (seen d).image)
left_alone seen only_now d = record {
  later = omega arith;
  each = λ c now. (c, only_now d c now, inl refl);
  before = λ t c le was. inl was;
}

-- states that were opened, and for which memory was set aside then
pub with_room : {D : Type 0} (seen : D → DiskView) (a b : D) (store : StoreParts D) (n : ℕ) → states_opened seen a b store
    → states_opened seen a b (record { journal = store.journal; entries = store.entries; room = n })
with_room seen a b store n o = record {
  holds = record {
    frames = o.holds.frames;
    unwritten = o.holds.unwritten;
    sealing = o.holds.sealing;
    keeps = o.holds.keeps;
    written = o.holds.written;
    taken = o.holds.taken;
    kept = o.holds.kept;
    few = o.holds.few;
    leaves = o.holds.leaves;
    sealed = o.holds.sealed;
    images = o.holds.images;
  };
  unraised = o.unraised;
  opens = o.opens;
  only = o.only;
}

module _ {D W : Type 0} (seen : D → DiskView) (holding : W → Held)
    (conf : PartConfParts) (disk a b : D) where
  -- no memory was found at first
  pub unscratched : IsNotOpened seen conf disk a b disk a b NoMemory
  unscratched = record {
    damaged = λ place at e. absurd (let clash : ⊥ = cc in clash);
    sound = λ l x y batches states is_log is_a is_b text place at e. let clash : ⊥ = cc in clash;
    log_device = λ e. absurd (let clash : ⊥ = cc in clash);
    log_b_device = λ is. let clash : ⊥ = cc in clash;
    first_device = λ e. absurd (let clash : ⊥ = cc in clash);
    second_device = λ e. absurd (let clash : ⊥ = cc in clash);
  }

  -- ---- opened

  -- states that were opened, and of which each that starts below an offset starts there since
  pub record Raised (start : ℕ) (before after : StoreParts D) : Type 0 where
    pub opened : states_opened seen a b before
    pub entries : after.entries ≡ raised_all (pos start) before.entries
    pub holds : Holds seen after None

  pub raised_by : (given start : ℕ) (before after : StoreParts D) → given ≡ start → states_opened seen a b before → after.entries ≡ raised_all (pos given) before.entries
      → (Holds seen before None → Holds seen after None) → Raised start before after
  raised_by given start before after is opened entries holds = record {
    opened = opened;
    entries = entries ∙ ap (λ (n : ℕ). raised_all (pos n) before.entries) is;
    holds = holds opened.holds;
  }

  module _ (start : ℕ) (before after : StoreParts D) (r : Raised start before after) where
    states_are : states_of after.entries ≡ raised_states start (states_of before.entries)
    states_are = ap states_of r.entries ∙ states_all start before.entries

    -- the states that contents stand for, once raised
    states_found : (x y : List ℕ) (written : ShareStates) → (seen a).content ≡ Some x → (seen b).content ≡ Some y → AreStates x y written → written ≡ states_of before.entries
    states_found x y written at_x at_y are = are.is ∙ ap states_of (sym (r.opened.only x y are.entries at_x at_y are.stored))

    raised_found : (log its : PartitionLog) (l x y : List ℕ) (states : ShareStates) → its ≡ log → log.start ≡ start
        → (seen a).content ≡ Some x → (seen b).content ≡ Some y → ArePartText conf l x y its states → states ≡ states_of after.entries
    raised_found log its l x y states same at at_x at_y text =
        let from : its.start ≡ start = ap (λ (l : PartitionLog). l.start) same ∙ at in
        let written = states_found x y text.written at_x at_y text.states_are in
        text.raised_is ∙ (λ i. raised_states (from i) (written i)) ∙ sym states_are

  pub opened : (parts : PartParts D W) (before : StoreParts D) → parts.conf ≡ conf → parts.windows ≡ [] → parts.clock ≡ 0 → Keeps seen parts.log None
      → ((c : List ℕ) → (seen disk).content ≡ Some c → IsLogText c (log_in parts.log))
      → ((c : List ℕ) (is : PartitionLog) → (seen disk).content ≡ Some c → IsLogText c is → log_in parts.log ≡ is)
      → Raised parts.log.start before parts.states → AreHosted conf (log_in parts.log) (states_of parts.states.entries)
      → IsOpened seen holding conf disk a b parts
  opened parts before is windows clock keeps opens only states hosted = record {
    conf_is = is;
    carries = record {
      log = record { batches = refl; start = refl; keeps = keeps };
      pending = None;
      holds = states.holds;
      states = refl;
      pending_is = refl;
      held = λ group. ap (λ (w : List (List ℕ × W)). held_in holding w group) (sym windows);
      clock = sym clock;
      hosted = subst (λ (c : PartConfParts). AreHosted c (log_in parts.log) (states_of parts.states.entries)) (sym is) hosted;
      pending_hosted = tt;
      level = subst (AreLevel parts.log.start) (sym states.entries) (level_first parts.log.start before.entries states.opened.unraised);
      pending_level = tt;
    };
    opens = λ l x y at_l at_x at_y. record {
      log_is = opens l at_l;
      written = states_of before.entries;
      states_are = record { entries = before.entries; stored = states.opened.opens x y at_x at_y; is = refl };
      raised_is = states_are parts.log.start before parts.states states;
      hosted = hosted;
    };
    only = λ l x y its found at_l at_x at_y text.
        let same : its ≡ log_in parts.log = sym (only l its at_l text.log_is) in
        (same, raised_found parts.log.start before parts.states states (log_in parts.log) its l x y found same refl at_x at_y text);
  }

  -- ---- not opened

  abbrev Not : D → D → D → PartFault → Type 0
  Not disk_now a_now b_now fault = IsNotOpened seen conf disk a b disk_now a_now b_now fault

  pub by_log : (disk_now : D) (fault : OpenFault)
      → ((place : ℕ) → fault ≡ log_damaged place → (c : List ℕ) → (seen disk).content ≡ Some c → IsNoLogText c place)
      → ((c : List ℕ) (is : PartitionLog) → (seen disk).content ≡ Some c → IsLogText c is → (place : ℕ) → fault ≢ log_damaged place)
      → (fault ≡ log_device → HasFailed seen disk disk_now) → Not disk_now a b (fault_of_log fault)
  by_log disk_now (log_damaged at) damaged sound device = record {
    damaged = λ place_disk place is l x y at_l at_x at_y.
        let d : Log ≡ place_disk = cc in let p : at ≡ place = cc in
        subst (λ (k : DiskPlace). AreDamagedAt conf l x y k place) d (subst (IsNoLogText l) p (damaged at refl l at_l));
    sound = λ l x y batches states at_l at_x at_y text place_disk place is. sound l batches at_l text.log_is at refl;
    log_device = λ is. absurd (let clash : ⊥ = cc in clash);
    log_b_device = λ is. let clash : ⊥ = cc in clash;
    first_device = λ is. absurd (let clash : ⊥ = cc in clash);
    second_device = λ is. absurd (let clash : ⊥ = cc in clash);
  }
  by_log disk_now log_device damaged sound device = record {
    damaged = λ place_disk place is. absurd (let clash : ⊥ = cc in clash);
    sound = λ l x y batches states at_l at_x at_y text place_disk place is. let clash : ⊥ = cc in clash;
    log_device = λ is. device refl;
    log_b_device = λ is. let clash : ⊥ = cc in clash;
    first_device = λ is. absurd (let clash : ⊥ = cc in clash);
    second_device = λ is. absurd (let clash : ⊥ = cc in clash);
  }
  by_log disk_now log_memory damaged sound device = record {
    damaged = λ place_disk place is. absurd (let clash : ⊥ = cc in clash);
    sound = λ l x y batches states at_l at_x at_y text place_disk place is. let clash : ⊥ = cc in clash;
    log_device = λ is. absurd (let clash : ⊥ = cc in clash);
    log_b_device = λ is. let clash : ⊥ = cc in clash;
    first_device = λ is. absurd (let clash : ⊥ = cc in clash);
    second_device = λ is. absurd (let clash : ⊥ = cc in clash);
  }

  damaged_by : (second : Bool) (l x y : List ℕ) (place : ℕ) → StandsForLog l → AreDamaged x y second place → AreDamagedAt conf l x y (state_disk second) place
  damaged_by false l x y place log d = (log, inl d)
  damaged_by true l x y place log d = (log, d)

  device_by : (second : Bool) (a_now b_now : D) → states_not_opened seen a b (a_now, b_now, states_device second)
      → (Device (state_disk second) ≡ Device StateA → HasFailed seen a a_now)
      × (Device (state_disk second) ≡ Device StateB → HasFailed seen b b_now)
      × (Device (state_disk second) ≡ Device Log → ⊥)
      × (Device (state_disk second) ≢ Device LogB)
  device_by false a_now b_now n =
      (λ is. n.device refl, λ is. absurd (let clash : ⊥ = cc in clash), λ is. let clash : ⊥ = cc in clash, λ is. let clash : ⊥ = cc in clash)
  device_by true a_now b_now n =
      (λ is. absurd (let clash : ⊥ = cc in clash), λ is. n.second_device refl, λ is. let clash : ⊥ = cc in clash, λ is. let clash : ⊥ = cc in clash)

  pub by_states : (disk_now a_now b_now : D) (fault : CoordOpen) (its : PartitionLog) → ((c : List ℕ) → (seen disk).content ≡ Some c → IsLogText c its)
      → states_not_opened seen a b (a_now, b_now, fault)
      → Not disk_now a_now b_now (fault_of_states fault)
  by_states disk_now a_now b_now (states_damaged second at) its_log opens n = record {
    damaged = λ place_disk place is l x y at_l at_x at_y.
        let d : state_disk second ≡ place_disk = cc in let p : at ≡ place = cc in
        subst (λ (k : DiskPlace). AreDamagedAt conf l x y k place) d (damaged_by second l x y place (its_log, opens l at_l) (subst (AreDamaged x y second) p (n.damaged second at refl x y at_x at_y)));
    sound = λ l x y batches states at_l at_x at_y text place_disk place is. n.sound x y text.states_are.entries at_x at_y text.states_are.stored second at refl;
    log_device = λ is. absurd (let clash : ⊥ = cc in clash);
    log_b_device = λ is. let clash : ⊥ = cc in clash;
    first_device = λ is. absurd (let clash : ⊥ = cc in clash);
    second_device = λ is. absurd (let clash : ⊥ = cc in clash);
  }
  by_states disk_now a_now b_now (states_device second) its_log opens n =
      let d = device_by second a_now b_now n in
      record {
        damaged = λ place_disk place is. absurd (let clash : ⊥ = cc in clash);
        sound = λ l x y batches states at_l at_x at_y text place_disk place is. let clash : ⊥ = cc in clash;
        log_device = λ is. absurd (d.2 is);
        log_b_device = d.3;
        first_device = d.0;
        second_device = d.1;
      }
  by_states disk_now a_now b_now states_memory its_log opens n = record {
    damaged = λ place_disk place is. absurd (let clash : ⊥ = cc in clash);
    sound = λ l x y batches states at_l at_x at_y text place_disk place is. let clash : ⊥ = cc in clash;
    log_device = λ is. absurd (let clash : ⊥ = cc in clash);
    log_b_device = λ is. let clash : ⊥ = cc in clash;
    first_device = λ is. absurd (let clash : ⊥ = cc in clash);
    second_device = λ is. absurd (let clash : ⊥ = cc in clash);
  }

  pub misplaced : (disk_now a_now b_now : D) (log : LogParts D) (before after : StoreParts D)
      → ((c : List ℕ) → (seen disk).content ≡ Some c → IsLogText c (log_in log))
      → ((c : List ℕ) (is : PartitionLog) → (seen disk).content ≡ Some c → IsLogText c is → log_in log ≡ is)
      → Raised log.start before after → (AreHosted conf (log_in log) (states_of after.entries) → ⊥)
      → Not disk_now a_now b_now (Damaged StateA 0)
  misplaced disk_now a_now b_now log before after opens only states broken = record {
    damaged = λ place_disk place is l x y at_l at_x at_y.
        let d : StateA ≡ place_disk = cc in let p : 0 ≡ place = cc in
        subst (λ (k : DiskPlace). AreDamagedAt conf l x y k place) d (
          (log_in log, opens l at_l),
          inr (
            sym p,
            record {
              is = log_in log;
              states = states_of before.entries;
              is_log = opens l at_l;
              are_states = record { entries = before.entries; stored = states.opened.opens x y at_x at_y; is = refl };
              broken = λ h. broken (subst (AreHosted conf (log_in log)) (sym (states_are log.start before after states)) h);
            },
          ),
        );
    sound = λ l x y its found at_l at_x at_y text place_disk place is.
        let same : its ≡ log_in log = sym (only l its at_l text.log_is) in
        broken (subst (AreHosted conf (log_in log)) (raised_found log.start before after states (log_in log) its l x y found same refl at_x at_y text)
        (subst (λ (k : PartitionLog). AreHosted conf k found) same text.hosted));
    log_device = λ is. absurd (let clash : ⊥ = cc in clash);
    log_b_device = λ is. let clash : ⊥ = cc in clash;
    first_device = λ is. absurd (let clash : ⊥ = cc in clash);
    second_device = λ is. absurd (let clash : ⊥ = cc in clash);
  }
