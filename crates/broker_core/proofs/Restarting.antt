-- Restarts of the shard of foreign state.
use Rattle.std.proofs.Common.{◌≡◌, ◌≢◌, ◌⊎◌, inl, inr, refl, sym, ap, ◌∙◌, subst, ℕ, List, true, Some, None, is_some, Result, Ok, Err, IsErr, IfErr, MatchResult}
use Rattle.std.specs.declared.option.Option.{Option}
use Rattle.edge_io.specs.declared.fault.Armed.TheVariants.{Nothing}
use Rattle.edge_io.specs.Disk.{IsTold, Within, LosesPower}
use Rattle.edge_io.specs.Causes.{FailsBy}
use Rattle.gate_journal.specs.Frames.{StandsFor}
use Rattle.share_model.specs.ForeignRules.{ShareStates}
use Rattle.share_model.specs.Pending.{WithPending}
use Rattle.share_coord.specs.Parts.{StoreParts}
use Rattle.foreign_coord.specs.Shards.{ForeignShardState}
use Rattle.broker_model.specs.Machine.{StandForStates, Lands}
use Rattle.broker_model.specs.Disks.{facts_of}
use Rattle.broker_hosts.specs.declared.fault.CoreOpen.{CoreOpen}
use Rattle.broker_hosts.specs.declared.fault.CoreOpen.TheVariants as fault
use Rattle.broker_hosts.specs.Carried.{IsCarried, GoesOn}
use Rattle.broker_hosts.specs.Openings.{IsOpened, IsOpenedDisk, ImagesStandAs}
use Rattle.broker_core.specs.Restarts.{IsRestartedShard, IsNotRestarted, IsLost as Lost}
use Rattle.edge_io.specs.Views.{DiskView}
use Rattle.broker_hosts.proofs.Opening.{AreAlike, carried_stands, is_told, one_fault_left, pending_map, stored_alike, told_of}

-- one of the states for which it stands is what landed
pub chosen : (P : ShareStates → Type 0) (shard : ForeignShardState) (states : ShareStates) (pending : Option ShareStates) → shard.states ≡ states
    → shard.pending ≡ pending → WithPending P states pending → (after : ForeignShardState) × P after.states × Lands shard after
chosen P shard states None e p h = (
  record { states = states; pending = None },
  h,
  record { states = subst (λ q. WithPending (λ s. states ≡ s) shard.states q) (sym p) (sym e); nothing = refl },
)
chosen P shard states (Some w) e p (inl h) = (
  record { states = states; pending = None },
  h,
  record { states = subst (λ q. WithPending (λ s. states ≡ s) shard.states q) (sym p) (inl (sym e)); nothing = refl },
)
chosen P shard states (Some w) e p (inr h) = (
  record { states = w; pending = None },
  h,
  record { states = subst (λ q. WithPending (λ s. w ≡ s) shard.states q) (sym p) (inr refl); nothing = refl },
)

-- one of what a content stands for
pub chosen_of : {S : Type 0} (P : S → Type 0) (state : S) (pending : Option S) → WithPending P state pending → (s : S) × P s
chosen_of P state None h = (state, h)
chosen_of P state (Some w) (inl h) = (state, h)
chosen_of P state (Some w) (inr h) = (w, h)

pub same_some : (o : Option (List ℕ)) (c d : List ℕ) → o ≡ Some c → o ≡ Some d → c ≡ d
same_some o c d e f = let g : Some c ≡ Some d = sym e ∙ f in cc

module _ {D : Type 0} (seen : D → DiskView) where
  -- what a power loss left of a disk
  abbrev pub IsLost : ℕ → D → D → List ℕ → Type 0
  IsLost choice old new c = Lost seen choice old new c

  pub lost_of : (choice : ℕ) (live old new : D) → old ≡ live → IsTold (seen live).content
      → LosesPower choice (seen old) (seen new)
      → is_some (seen new).content ≡ is_some (seen old).content → (seen new).arms ≡ (seen old).arms → (IsTold (seen old).content → (seen new).faults ≡ (seen old).faults)
      → (c : List ℕ) × IsLost choice live new c
  lost_of choice live old new same told l still same_arms quiet =
      let old_told = ap (λ (d : D). is_some (seen d).content) same ∙ told in
      let t = is_told (seen new).content (still ∙ old_told) in (
        t.0,
        subst (λ (d : D). IsLost choice d new t.0) same (record {
          is = t.1;
          was = (l.left t.0 t.1).0;
          only = λ d now. same_some (seen new).content d t.0 (l.only d now) t.1;
          lost = (l.left t.0 t.1).1;
          same_arms = same_arms;
          disarmed = l.disarmed;
          quiet = quiet old_told;
        }),
      )

  -- a loss is refused for want of memory alone
  pub loss_refused : {T E : Type 0} (live old new : D) (result : Result T E) → old ≡ live → IsTold (seen live).content → IsErr result
      → (IsTold (seen old).content → FailsBy ⊥ (seen old).starved (seen new).starved result) → (seen new).starved ≡ true
  loss_refused live old new result same told err fails = go ((fails (ap (λ (d : D). is_some (seen d).content) same ∙ told)).only err)
    where
      go : ⊥ ⊎ ((seen new).starved ≡ true) → (seen new).starved ≡ true
      go (inl never) = absurd never
      go (inr is) = is

  pub within_still : (live old new : D) → old ≡ live → Within (seen old).image (seen new).image → Within (seen live).image (seen new).image
  within_still live old new same w = subst (λ (d : D). Within (seen d).image (seen new).image) same w

  pub told_on : (live old new : D) → old ≡ live → is_some (seen new).content ≡ is_some (seen old).content → IsTold (seen live).content → IsTold (seen new).content
  told_on live old new same still told = still ∙ ap (λ (d : D). is_some (seen d).content) same ∙ told

  pub restarted_disk : (choice : ℕ) (old mid new : D) (c : List ℕ) → IsLost choice old mid c
      → IsOpenedDisk (facts_of seen mid) (facts_of seen new)
      → ((seen new).arms ≡ (seen old).arms) × ((seen new).armed ≡ Nothing) × ((seen new).faults ≡ (seen old).faults)
  restarted_disk choice old mid new c l o =
      (o.arms ∙ l.same_arms, (o.spends.disarmed l.disarmed).0, (o.spends.disarmed l.disarmed).1 ∙ l.quiet)

  pub restarted : (choice : ℕ) (store : StoreParts D) (shard : ForeignShardState) (mid_first mid_second : D) (a b : List ℕ) (new : StoreParts D)
      → IsCarried seen store shard → IsLost choice store.journal.first.disk mid_first a → IsLost choice store.journal.second.disk mid_second b
      → IsOpened seen mid_first mid_second a b new
      → IsRestartedShard seen choice store shard new
  restarted choice store shard mid_first mid_second a b new k l m o =
      let first = restarted_disk choice store.journal.first.disk mid_first new.journal.first.disk a l o.on_first in
      let second = restarted_disk choice store.journal.second.disk mid_second new.journal.second.disk b m o.on_second in
      record {
        a = a;
        b = b;
        after = o.shard;
        carried = o.carried;
        lands = record {
          states = pending_map (StandForStates a b) (λ s. o.shard.states ≡ s) o.only shard.states shard.pending
              (carried_stands seen store shard k.carries a b l.was m.was);
          nothing = o.nothing;
        };
        stands = o.stands;
        were = (l.was, m.was);
        lost = o.on_first.losses ∙ l.lost;
        second_lost = o.on_second.losses ∙ m.lost;
        on_first = record { arms = first.0; disarmed = first.1; quiet = first.2 };
        on_second = record { arms = second.0; disarmed = second.1; quiet = second.2 };
      }

  -- no image came
  pub images_within : (old_first old_second first second : D) → Within (seen old_first).image (seen first).image → Within (seen old_second).image (seen second).image
      → ImagesStandAs seen old_first old_second first second
  images_within old_first old_second first second p q = record { on_first = λ c on. (c, p c on, inl refl); on_second = λ c on. (c, q c on, inl refl) }

  -- nor behind that any but by an opening
  pub images_behind : (old_first old_second mid_first mid_second first second : D) → Within (seen old_first).image (seen mid_first).image
      → Within (seen old_second).image (seen mid_second).image → ImagesStandAs seen mid_first mid_second first second
      → ImagesStandAs seen old_first old_second first second
  images_behind old_first old_second mid_first mid_second first second p q i = record {
    on_first = λ c on. (let d = i.on_first c on in (d.0, p d.0 d.1, d.2));
    on_second = λ c on. (let d = i.on_second c on in (d.0, q d.0 d.1, d.2));
  }

  -- a loss was refused
  pub not_lost : (store : StoreParts D) (shard : ForeignShardState) (first second : D) → IsCarried seen store shard
      → Within (seen store.journal.first.disk).image (seen first).image → Within (seen store.journal.second.disk).image (seen second).image
      → IsTold (seen first).content → IsTold (seen second).content → IsNotRestarted seen shard first second
  not_lost store shard first second k within second_within told second_told = record {
    after = shard;
    lands = inl refl;
    stand = λ a b on_first on_second. carried_stands seen store shard k.carries a b (within a on_first) (second_within b on_second);
    told = told;
    second_told = second_told;
  }

  -- it was not opened again
  pub not_opened : (choice : ℕ) (store : StoreParts D) (shard : ForeignShardState) (mid_first mid_second first second : D) (a b : List ℕ)
      → IsCarried seen store shard → IsLost choice store.journal.first.disk mid_first a → IsLost choice store.journal.second.disk mid_second b
      → ImagesStandAs seen mid_first mid_second first second → IsTold (seen first).content → IsTold (seen second).content
      → IsNotRestarted seen shard first second
  not_opened choice store shard mid_first mid_second first second a b k l m as_before told second_told =
      let c = chosen (StandForStates a b) shard shard.states shard.pending refl refl (carried_stands seen store shard k.carries a b l.was m.was) in
      record {
        after = c.0;
        lands = inr c.2;
        stand = λ x y on_first on_second.
            let f = as_before.on_first x on_first in
            let s = as_before.on_second y on_second in
            subst (λ (p : Option ShareStates). WithPending (StandForStates x y) c.0.states p) (sym c.2.nothing) (
              c.1.0,
              stored_alike a b x y c.1.0 (led a f.0 x (l.only f.0 f.1) f.2) (led b s.0 y (m.only s.0 s.1) s.2) c.1.1,
              c.1.2,
            );
        told = told;
        second_told = second_told;
      }
    where
      led : (a d x : List ℕ) → d ≡ a → AreAlike d x → AreAlike a x
      led a d x e (inl same) = inl (sym e ∙ same)
      led a d x e (inr f) = inr (f.0, subst (λ z. StandsFor z f.0) e f.1, f.2)

  -- contents that stood for states are neither damaged nor met by a fault with nothing armed
  pub only_memory : (choice : ℕ) (store : StoreParts D) (shard : ForeignShardState) (mid_first mid_second : D) (a b : List ℕ) (e : CoreOpen)
      → IsCarried seen store shard → IsLost choice store.journal.first.disk mid_first a → IsLost choice store.journal.second.disk mid_second b
      → ((x y : List ℕ) (states : ShareStates) → (seen mid_first).content ≡ Some x → (seen mid_second).content ≡ Some y → StandForStates x y states
      → (name : List ℕ) (place : ℕ) → e ≢ fault.Damaged name place)
      → (IsTold (seen mid_first).content → IsTold (seen mid_second).content → (seen mid_first).armed ≡ Nothing → (seen mid_second).armed ≡ Nothing → e ≢ fault.Device)
      → e ≢ fault.Bay → e ≡ fault.NoMemory
  only_memory choice store shard mid_first mid_second a b e k l m recovers sound no_bay =
      let c = chosen (StandForStates a b) shard shard.states shard.pending refl refl (carried_stands seen store shard k.carries a b l.was m.was) in
      one_fault_left e (recovers a b c.0.states l.is m.is c.1)
      (sound (told_of (seen mid_first).content a l.is) (told_of (seen mid_second).content b m.is) l.disarmed m.disarmed) no_bay

  -- behind two losses, the opening failed
  pub stays_shut : {T : Type 0} (choice : ℕ) (store : StoreParts D) (shard : ForeignShardState) (mid_first mid_second : D) (r : Result T (D × D × CoreOpen))
      → IsCarried seen store shard
      → (a : List ℕ) × IsLost choice store.journal.first.disk mid_first a → (b : List ℕ) × IsLost choice store.journal.second.disk mid_second b
      → IfErr r (λ e. ImagesStandAs seen mid_first mid_second e.0 e.1)
      → ((x y : List ℕ) (states : ShareStates) → (seen mid_first).content ≡ Some x → (seen mid_second).content ≡ Some y → StandForStates x y states
      → IfErr r (λ e. (name : List ℕ) (place : ℕ) → e.2 ≢ fault.Damaged name place))
      → (IsTold (seen mid_first).content → IsTold (seen mid_second).content → (seen mid_first).armed ≡ Nothing → (seen mid_second).armed ≡ Nothing → IfErr r (λ e. e.2 ≢ fault.Device))
      → IfErr r (λ e. e.2 ≢ fault.Bay) → IfErr r (λ e. is_some (seen e.0).content ≡ is_some (seen mid_first).content) → IfErr r (λ e. is_some (seen e.1).content ≡ is_some (seen mid_second).content)
      → IfErr r (λ e. IsNotRestarted seen shard e.0 e.1 × (e.2 ≡ fault.NoMemory))
  stays_shut choice store shard mid_first mid_second (Ok x) k l m images recovers sound no_bay told second_told = tt
  stays_shut choice store shard mid_first mid_second (Err e) k l m images recovers sound no_bay told second_told = (
    not_opened choice store shard mid_first mid_second e.0 e.1 l.0 m.0 k l.1 m.1 images (told ∙ told_of (seen mid_first).content l.0 l.1.is)
        (second_told ∙ told_of (seen mid_second).content m.0 m.1.is),
    only_memory choice store shard mid_first mid_second l.0 m.0 e.2 k l.1 m.1 recovers sound no_bay,
  )

  pub told_first : (mid : D) (r : Result (StoreParts D) (D × D × CoreOpen)) → MatchResult r (λ new. GoesOn seen mid new.journal.first.disk) (λ e. GoesOn seen mid e.0)
      → IfErr r (λ e. is_some (seen e.0).content ≡ is_some (seen mid).content)
  told_first mid (Ok x) h = tt
  told_first mid (Err e) h = h.told

  pub told_second : (mid : D) (r : Result (StoreParts D) (D × D × CoreOpen)) → MatchResult r (λ new. GoesOn seen mid new.journal.second.disk) (λ e. GoesOn seen mid e.1)
      → IfErr r (λ e. is_some (seen e.1).content ≡ is_some (seen mid).content)
  told_second mid (Ok x) h = tt
  told_second mid (Err e) h = h.told

-- what each shard gives is given for each
pub flip : {T E A : Type 0} (K : A → Type 0) (P : E → A → Type 0) (r : Result T E) → ((s : A) → K s → IfErr r (λ e. P e s))
    → IfErr r (λ e. (s : A) → K s → P e s)
flip K P (Ok x) h = tt
flip K P (Err e) h = h
