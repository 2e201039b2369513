-- Openings of the shard of foreign state.
use Rattle.std.proofs.Common.{◌≡◌, ◌≢◌, ◌⊎◌, inl, inr, refl, sym, ap, ◌∙◌, subst, ℕ, List, true, false, Some, None, is_some, Bool, ◌↔◌}
use Rattle.std.specs.declared.option.Option.{Option}
use Rattle.std.specs.Option.{option_map}
use Rattle.edge_io.specs.Armed.{RunsOn}
use Rattle.edge_io.specs.Disk.{IsTold}
use Rattle.gate_journal.specs.Frames.{StandsFor}
use Rattle.gate_journal.proofs.Once.{once}
use Rattle.share_model.specs.ForeignRules.{ShareStates}
use Rattle.share_model.specs.Pending.{WithPending}
use Rattle.share_coord.specs.Parts.{StoreParts}
use Rattle.share_coord.specs.Stored.{Entries, AreStored}
use Rattle.share_coord.specs.States.{AreStates, states_of}
use Rattle.share_coord.proofs.Unraised.{stand_exact}
use Rattle.foreign_coord.specs.Shards.{ForeignShardState, Carries}
use Rattle.broker_model.specs.Machine.{StandForStates}
use Rattle.broker_model.specs.Disks.{facts_of}
use Rattle.broker_hosts.specs.declared.fault.CoreOpen.{CoreOpen}
use Rattle.broker_hosts.specs.declared.fault.CoreOpen.TheVariants as fault
use Rattle.broker_hosts.specs.Openings.{IsOpened, IsOpenedDisk, ImagesStand}
use Rattle.edge_io.specs.Views.{DiskView}

-- ---- pending writes

pub pending_map : {S : Type 0} (P Q : S → Type 0) → ((x : S) → P x → Q x) → (s : S) (p : Option S) → WithPending P s p → WithPending Q s p
pending_map P Q f s None h = f s h
pending_map P Q f s (Some w) (inl h) = inl (f s h)
pending_map P Q f s (Some w) (inr h) = inr (f w h)

-- the one reason that is left
pub one_fault_left : (e : CoreOpen) → ((name : List ℕ) (place : ℕ) → e ≢ fault.Damaged name place) → e ≢ fault.Device → e ≢ fault.Bay → e ≡ fault.NoMemory
one_fault_left (fault.Damaged name place) d f g = absurd (d name place refl)
one_fault_left fault.Device d f g = absurd (f refl)
one_fault_left fault.Bay d f g = absurd (g refl)
one_fault_left fault.NoMemory d f g = refl

-- ---- contents

pub is_told : (o : Option (List ℕ)) → is_some o ≡ true → (c : List ℕ) × (o ≡ Some c)
is_told None e = absurd cc
is_told (Some c) e = (c, refl)

pub told_of : (o : Option (List ℕ)) (c : List ℕ) → o ≡ Some c → is_some o ≡ true
told_of o c e = ap is_some e

-- contents that are the same, or are read as the same frames
abbrev pub AreAlike : List ℕ → List ℕ → Type 0
AreAlike c x = (c ≡ x) ⊎ ((frames : List (List ℕ)) × StandsFor c frames × StandsFor x frames)

stands_alike : (c x : List ℕ) (frames : List (List ℕ)) → AreAlike c x → StandsFor c frames → StandsFor x frames
stands_alike c x frames (inl is) s = subst (λ (l : List ℕ). StandsFor l frames) is s
stands_alike c x frames (inr is) s = subst (λ (fs : List (List ℕ)). StandsFor x fs) (once c is.0 frames is.1 s) is.2

-- they stand for the same states
pub stored_alike : (a b x y : List ℕ) (entries : Entries) → AreAlike a x → AreAlike b y → AreStored a b entries → AreStored x y entries
stored_alike a b x y entries on_first on_second h = record {
  frames = h.frames;
  listed = record {
    ones = h.listed.ones;
    twos = h.listed.twos;
    first_is = stands_alike a x h.listed.ones on_first h.listed.first_is;
    second_is = stands_alike b y h.listed.twos on_second h.listed.second_is;
    live = h.listed.live;
  };
  taken = h.taken;
}

pub unless : (b : Bool) → (b ≡ true → ⊥) → b ≡ false
unless true h = absurd (h refl)
unless false h = refl

-- neither disk is starved where the store isn't
pub fed_both : (starves a b : Bool) → starves ≡ false → ((starves ≡ true) ↔ ((a ≡ true) ⊎ (b ≡ true))) → (a ≡ false) × (b ≡ false)
fed_both starves a b not either = (unless a (λ e. clash (sym not ∙ either.1 (inl e))), unless b (λ e. clash (sym not ∙ either.1 (inr e))))
  where
    clash : false ≡ true → ⊥
    clash e = cc

module _ {D : Type 0} (seen : D → DiskView) where
  -- the images of a carried shard
  pub carried_stands : (store : StoreParts D) (shard : ForeignShardState) → Carries seen store shard → ImagesStand seen shard store.journal.first.disk store.journal.second.disk
  carried_stands store shard k a b on_first on_second =
      subst (λ (p : Option ShareStates). WithPending (StandForStates a b) shard.states p) (sym k.pending_is)
      (subst (λ (s : ShareStates). WithPending (StandForStates a b) s (option_map states_of k.pending)) (sym k.states)
      (pending_map (AreStates a b) (StandForStates a b) (λ s h. (h.entries, h.stored, h.is))
      (states_of store.entries) (option_map states_of k.pending)
      (stand_exact a b store.entries k.pending k.unraised (k.holds.images a b on_first on_second))))

  abbrev Runs : D → D → Type 0
  Runs old new = RunsOn seen old new

  pub opened_disk : (old new : D) → Runs old new → IsTold (seen old).content → (seen new).starved ≡ false
      → IsOpenedDisk (facts_of seen old) (facts_of seen new)
  opened_disk old new runs told fed =
      record { losses = runs.same_losses; arms = runs.same_arms; later = runs.later; spends = runs.spends told fed }

  pub opened : (first second : D) (a b : List ℕ) (store : StoreParts D) → (seen first).content ≡ Some a → (seen second).content ≡ Some b
      → ((x y : List ℕ) → (seen first).content ≡ Some x → (seen second).content ≡ Some y → AreStored x y store.entries)
      → ((x y : List ℕ) (entries : Entries) → (seen first).content ≡ Some x → (seen second).content ≡ Some y → AreStored x y entries → store.entries ≡ entries)
      → Carries seen store (record { states = states_of store.entries; pending = None })
      → Runs first store.journal.first.disk → Runs second store.journal.second.disk → (seen store.journal.first.disk).starved ≡ false → (seen store.journal.second.disk).starved ≡ false
      → IsOpened seen first second a b store
  opened first second a b store is is_second opens only carries runs second_runs fed second_fed = record {
    shard = record { states = states_of store.entries; pending = None };
    carried = record {
      carries = carries;
      told = runs.told ∙ told_of (seen first).content a is;
      second_told = second_runs.told ∙ told_of (seen second).content b is_second;
      fed = fed;
      second_fed = second_fed;
    };
    stands = (store.entries, opens a b is is_second, refl);
    only = λ states h. ap states_of (only a b h.0 is is_second h.1) ∙ sym h.2;
    nothing = refl;
    on_first = opened_disk first store.journal.first.disk runs (told_of (seen first).content a is) fed;
    on_second = opened_disk second store.journal.second.disk second_runs (told_of (seen second).content b is_second) second_fed;
  }
