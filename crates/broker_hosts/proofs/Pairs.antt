-- The two disks of foreign state are taken from a bay, and put back after a refusal.
use Rattle.std.proofs.Common.{false, arith, ◌≡◌, ◌≢◌, ◌≤◌, ◌<◌, ◌-◌, ◌^◌, ◌⊎◌, inl, inr, refl, sym, ap, ◌∙◌, subst, ℕ, List, [], ◌∷◌, Some, is_some}
use Rattle.std.specs.declared.option.Option.{Option}
use Rattle.edge_io.specs.declared.fault.Armed.TheVariants.{Nothing}
use Rattle.edge_io.specs.Causes.{Rose}
use Rattle.edge_io.specs.Disk.{IsTold}
use Rattle.share_model.specs.ForeignRules.{ShareStates}
use Rattle.share_coord.specs.Parts.{StoreParts}
use Rattle.broker_model.specs.Hosted.{state_a, state_b}
use Rattle.broker_model.specs.Machine.{StandForStates}
use Rattle.broker_hosts.specs.declared.fault.CoreOpen.{CoreOpen}
use Rattle.broker_hosts.specs.declared.fault.CoreOpen.TheVariants.{Damaged, Device, Bay, NoMemory}
use Rattle.broker_hosts.specs.declared.slot.ForeignSlot.TheVariants as foreign
use Rattle.broker_hosts.specs.Carried.{AreFreshStates}
use Rattle.broker_hosts.specs.Hosts.{AreDistinct}
use Rattle.edge_io.specs.Armed.{RunsOn}
use Rattle.broker_hosts.specs.Openings.{ImagesStandAs, IsOpened, IsDamagedState}
use Rattle.broker_hosts.specs.Taking.{GetsAll, GetsNone, PutsAll, PutsBack, RefusesForeign, TakesForeign}
use Rattle.broker_hosts.proofs.Naming.{states_apart}
use Rattle.broker_hosts.specs.Bays.{IsOfDevice}
use Rattle.broker_hosts.proofs.Taking.{gets_each, gets_moves, gets_others, greater, moves_same, moves_then, not_both, puts_hold, puts_in, puts_moves, puts_others, puts_rise, puts_taken, rose_between, slot_then, stays_kept, stays_put}
use Rattle.edge_io.specs.Views.{DiskView, BayView}

pub states_distinct : AreDistinct (state_a ∷ state_b ∷ [])
states_distinct = ((states_apart, tt), (tt, tt))

module _ {B D : Type 0} (bay_seen : B → BayView D) (seen : D → DiskView) (first second : D) where
  abbrev both : List (List ℕ × D)
  both = (state_a, first) ∷ (state_b, second) ∷ []

  abbrev back : D → D → List (List ℕ × Option D)
  back a b = (state_a, Some a) ∷ (state_b, Some b) ∷ []

  abbrev GetsBoth : B → B → Type 0
  GetsBoth old new = GetsAll bay_seen seen both old new

  abbrev Refuses : CoreOpen → B → B → Type 0
  Refuses fault old new = RefusesForeign bay_seen seen fault old new

  -- names that are those of its disks
  pub gets_states : (x y : List ℕ) (old new : B) → x ≡ state_a → y ≡ state_b
      → GetsAll bay_seen seen ((x, first) ∷ (y, second) ∷ []) old new → GetsBoth old new
  gets_states x y old new p q gets =
      subst (λ (es : List (List ℕ × D)). GetsAll bay_seen seen es old new) (λ i. (p i, first) ∷ (q i, second) ∷ []) gets

  pub put_state : (x name : List ℕ) (given : D) (old new : B) → x ≡ name → PutsBack bay_seen seen x given old new
      → PutsBack bay_seen seen name given old new
  put_state x name given old new is put = subst (λ (n : List ℕ). PutsBack bay_seen seen n given old new) is put

  -- one of them was taken with its last count
  abbrev Last : B → Type 0
  Last new = (name : List ℕ) × ((name ≡ state_a) ⊎ (name ≡ state_b)) × (2 ^ 64 - 1 ≤ (bay_seen new).taken name)

  pub taken_both : (old new : B) (store : StoreParts D) → GetsBoth old new → (seen first).faults ≤ (seen store.journal.first.disk).faults → (seen second).faults ≤ (seen store.journal.second.disk).faults
      → ((a b : List ℕ) → (seen first).content ≡ Some a → (seen second).content ≡ Some b → IsOpened seen first second a b store)
      → AreFreshStates seen store → TakesForeign bay_seen seen old (foreign.Open store) new
  taken_both old new store gets on_first on_second opens fresh =
      let each = gets_each bay_seen seen both old new states_distinct gets in
      record {
        store = store;
        is_open = refl;
        first = first;
        second = second;
        first_told = each.0.as_told;
        second_told = each.1.0.as_told;
        first_noted = each.0.noted;
        second_noted = each.1.0.noted;
        first_counted = on_first;
        second_counted = on_second;
        opens = opens;
        fresh = fresh;
        first_out = each.0.is_out;
        second_out = each.1.0.is_out;
        others = λ m n k. gets_others bay_seen seen both old new gets m (n, (k, tt));
        moves = gets_moves bay_seen seen both old new gets;
      }

  pub refused_both : (old mid new : B) (first_now second_now : D) (fault : CoreOpen) → GetsBoth old mid
      → PutsAll bay_seen seen (back first_now second_now) mid new
      → ((a b : List ℕ) (states : ShareStates) → (seen first).content ≡ Some a → (seen second).content ≡ Some b → StandForStates a b states
      → (name : List ℕ) (place : ℕ) → fault ≢ Damaged name place)
      → (IsTold (seen first).content → IsTold (seen second).content → (seen first).armed ≡ Nothing → (seen second).armed ≡ Nothing → fault ≢ Device)
      → ((name : List ℕ) (place : ℕ) → fault ≡ Damaged name place → (a b : List ℕ) → (seen first).content ≡ Some a → (seen second).content ≡ Some b
      → IsDamagedState a b name place)
      → (fault ≡ Device → Rose (seen first).faults (seen first_now).faults ⊎ Rose (seen second).faults (seen second_now).faults) → fault ≢ Bay
      → ImagesStandAs seen first second first_now second_now → RunsOn seen first first_now → RunsOn seen second second_now
      → (IsOfDevice fault → ((seen first_now).starved ≡ false) × ((seen second_now).starved ≡ false)) → Refuses fault old new
  refused_both old mid new first_now second_now fault gets puts recovers sound damaged device no_bay images on_first on_second fed =
      let each = gets_each bay_seen seen both old mid states_distinct gets in
      let holds = puts_hold bay_seen seen (back first_now second_now) mid new states_distinct puts in
      let to_mid = gets_moves bay_seen seen both old mid gets in
      let is_first : (d : D) → (bay_seen old).disk state_a ≡ Some d → first ≡ d = each.0.as_told in
      let is_second : (d : D) → (bay_seen old).disk state_b ≡ Some d → second ≡ d = each.1.0.as_told in
      record {
        damaged = λ n place e d f a b at second_at is second_is. damaged n place e a b (ap (λ d. (seen d).content) (is_first d at) ∙ is) (ap (λ d. (seen d).content) (is_second f second_at) ∙ second_is);
        recovers = λ d f a b states at second_at is second_is stand n place.
            recovers a b states (ap (λ d. (seen d).content) (is_first d at) ∙ is) (ap (λ d. (seen d).content) (is_second f second_at) ∙ second_is) stand n place;
        bay = λ e. absurd (no_bay e);
        device = λ e. rises (device e) each.0.noted each.1.0.noted;
        sound = λ d f at second_at is second_is still. (
          no_bay,
          sound (ap (λ (x : D). is_some (seen x).content) (is_first d at) ∙ is.tells) (ap (λ (x : D). is_some (seen x).content) (is_second f second_at) ∙ second_is.tells)
              (ap (λ d. (seen d).armed) (is_first d at) ∙ is.is_unarmed) (ap (λ d. (seen d).armed) (is_second f second_at) ∙ second_is.is_unarmed),
        );
        first_in = puts_in bay_seen seen (back first_now second_now) mid new states_distinct puts state_a (inl refl);
        second_in = puts_in bay_seen seen (back first_now second_now) mid new states_distinct puts state_b (inr (inl refl));
        on_first = stays_put bay_seen seen (IsOfDevice fault) state_a old mid new first first_now each.0.as_told (to_mid.told state_a) holds.0
            (record { images = images.on_first; runs = on_first; fed = λ f s. absurd (not_both (fed f).0 s) });
        on_second = stays_put bay_seen seen (IsOfDevice fault) state_b old mid new second second_now each.1.0.as_told (to_mid.told state_b) holds.1.0
            (record { images = images.on_second; runs = on_second; fed = λ f s. absurd (not_both (fed f).1 s) });
        others = λ m n k. slot_then bay_seen m old mid new
            (gets_others bay_seen seen both old mid gets m (n, (k, tt)))
            (puts_others bay_seen seen (back first_now second_now) mid new puts m (n, (k, tt)));
        moves = moves_then bay_seen old mid new (gets_moves bay_seen seen both old mid gets)
            (puts_moves bay_seen seen (back first_now second_now) mid new puts);
      }
    where
      rise : (bay_seen mid).taken state_a < (seen first_now).faults ⊎ ((bay_seen mid).taken state_b < (seen second_now).faults ⊎ ⊥) → Rose (bay_seen old).faults (bay_seen new).faults ⊎ Last new
      rise risen = inl (rose_between (bay_seen old).faults (bay_seen mid).faults (bay_seen new).faults (bay_seen new).faults
          (gets_moves bay_seen seen both old mid gets).later
          (puts_rise bay_seen seen (back first_now second_now) mid new states_distinct puts risen)
          (moves_same bay_seen new).later)

      at_last : (n : List ℕ) (d : D) → (bay_seen mid).taken n ≡ (seen d).faults → 2 ^ 64 - 1 ≤ (seen d).faults → 2 ^ 64 - 1 ≤ (bay_seen new).taken n
      at_last n d noted last = let same = puts_taken bay_seen seen (back first_now second_now) mid new puts n in omega (arith, same, noted, last)

      rises : Rose (seen first).faults (seen first_now).faults ⊎ Rose (seen second).faults (seen second_now).faults
          → (bay_seen mid).taken state_a ≡ (seen first).faults → (bay_seen mid).taken state_b ≡ (seen second).faults
          → Rose (bay_seen old).faults (bay_seen new).faults ⊎ Last new
      rises (inl rose) nf ns = go (greater (seen first).faults (seen first_now).faults rose) where
        go : ((seen first).faults < (seen first_now).faults) ⊎ (2 ^ 64 - 1 ≤ (seen first).faults) → Rose (bay_seen old).faults (bay_seen new).faults ⊎ Last new
        go (inl less) = rise (inl (subst (λ (k : ℕ). k < (seen first_now).faults) (sym nf) less))
        go (inr last) = inr (state_a, inl refl, at_last state_a first nf last)
      rises (inr rose) nf ns = go (greater (seen second).faults (seen second_now).faults rose) where
        go : ((seen second).faults < (seen second_now).faults) ⊎ (2 ^ 64 - 1 ≤ (seen second).faults) → Rose (bay_seen old).faults (bay_seen new).faults ⊎ Last new
        go (inl less) = rise (inr (inl (subst (λ (k : ℕ). k < (seen second_now).faults) (sym ns) less)))
        go (inr last) = inr (state_b, inr refl, at_last state_b second ns last)

module _ {B D : Type 0} (bay_seen : B → BayView D) (seen : D → DiskView) where
  -- the bay gave one of them not
  pub none_both : (old new : B) (fault : CoreOpen) → GetsNone bay_seen (state_a ∷ state_b ∷ []) fault old new
      → RefusesForeign bay_seen seen fault old new
  none_both old new fault g = record {
    damaged = λ n place e d f a b at second_at is second_is. absurd (never n place e);
    recovers = λ d f a b states at second_at is second_is stand n place e. never n place e;
    bay = g.bay;
    device = λ e. absurd (no_device e);
    sound = λ d f at second_at is second_is still. (g.sound still, no_device);
    first_in = g.are_in state_a (inl refl);
    second_in = g.are_in state_b (inr (inl refl));
    on_first = stays_kept bay_seen seen (IsOfDevice fault) state_a old new (λ d was. g.kept state_a d (inl refl) was);
    on_second = stays_kept bay_seen seen (IsOfDevice fault) state_b old new (λ d was. g.kept state_b d (inr (inl refl)) was);
    others = λ m n k. g.others m (n, (k, tt));
    moves = g.moves;
  }
    where
      never : (n : List ℕ) (place : ℕ) → fault ≡ Damaged n place → ⊥
      never n place e = go g.only where
        go : (fault ≡ Bay) ⊎ (fault ≡ NoMemory) → ⊥
        go (inl is) = let bad : Bay ≡ Damaged n place = sym is ∙ e in cc
        go (inr is) = let bad : NoMemory ≡ Damaged n place = sym is ∙ e in cc

      no_device : fault ≡ Device → ⊥
      no_device e = go g.only where
        go : (fault ≡ Bay) ⊎ (fault ≡ NoMemory) → ⊥
        go (inl is) = let bad : Bay ≡ Device = sym is ∙ e in cc
        go (inr is) = let bad : NoMemory ≡ Device = sym is ∙ e in cc
