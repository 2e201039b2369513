-- Restarts of a hosted partition.
use Rattle.std.proofs.Common.{◌≡◌, ◌≢◌, ◌≤◌, arith, inl, inr, refl, sym, ◌∙◌, subst, ℕ, List, Some, is_some, Result, Ok, Err, IfErr, MatchResult}
use Rattle.edge_io.specs.declared.fault.Armed.TheVariants.{Nothing}
use Rattle.edge_io.specs.Disk.{IsTold, Within}
use Rattle.gate_journal.specs.Frames.{StandsAs, StandsFor}
use Rattle.gate_journal.proofs.Once.{once}
use Rattle.share_model.specs.ForeignRules.{ShareStates}
use Rattle.part_log.specs.Logs.{IsLogText, frames_of}
use Rattle.part_log.specs.Starts.{Log}
use Rattle.share_coord.specs.Raising.{raised_states}
use Rattle.share_coord.specs.States.{AreStates}
use Rattle.share_part.specs.Hosting.{ArePartText, PartConfParts}
use Rattle.share_part.specs.Leaving.{IsLeftOf}
use Rattle.share_part.specs.Shards.{PartShardState, shard_with}
use Rattle.broker_hosts.specs.declared.fault.CoreOpen.{CoreOpen}
use Rattle.broker_hosts.specs.declared.fault.CoreOpen.TheVariants as fault
use Rattle.broker_hosts.specs.Carried.{GoesOn, IsPartCarried, OpenPart}
use Rattle.broker_hosts.specs.Hosts.{PartStandsAlone}
use Rattle.broker_core.specs.Restarts.{IsLost, IsRestartedPart}
use Rattle.broker_hosts.specs.Openings.{IsOpenedPart, PartImagesStandAs}
use Rattle.broker_hosts.proofs.Opening.{AreAlike, one_fault_left, stored_alike, told_of}
use Rattle.broker_core.proofs.Restarting.{restarted_disk}
use Rattle.edge_io.specs.Views.{DiskView}
use Rattle.broker_hosts.proofs.OpeningParts.{part_left}

-- they stand for the same log
pub same_text : (c x : List ℕ) (b : Log) → AreAlike c x → IsLogText c b → IsLogText x b
same_text c x b (inl e) h = subst (λ y. IsLogText y b) e h
same_text c x b (inr f) h = record {
  writes = h.writes;
  frames = subst (λ fs. StandsFor x fs) (once c f.0 (frames_of h.writes) f.1 h.frames) f.2;
  leads = h.leads;
}

-- and for the same states
same_states : (a b x y : List ℕ) (states : ShareStates) → AreAlike a x → AreAlike b y → AreStates a b states → AreStates x y states
same_states a b x y states on_first on_second h = record {
  entries = h.entries;
  stored = stored_alike a b x y h.entries on_first on_second h.stored;
  is = h.is;
}

pub same_part : (conf : PartConfParts) (l x a y b z : List ℕ) (its : Log) (states : ShareStates) → AreAlike l x → AreAlike a y → AreAlike b z
    → ArePartText conf l a b its states → ArePartText conf x y z its states
same_part conf l x a y b z its states on_log on_first on_second t = record {
  log_is = same_text l x its on_log t.log_is;
  written = t.written;
  states_are = same_states a b y z t.written on_first on_second t.states_are;
  raised_is = t.raised_is;
  hosted = t.hosted;
}

module _ {D : Type 0} (seen : D → DiskView) where
  abbrev Carried : PartConfParts → OpenPart D → PartShardState → Type 0
  Carried conf part s = IsPartCarried seen conf part s

  abbrev Lost : ℕ → D → D → List ℕ → Type 0
  Lost choice old new c = IsLost seen choice old new c

  pub restarted_part : (choice : ℕ) (conf : PartConfParts) (part : OpenPart D) (s : PartShardState) (log first second : D) (l a b : List ℕ) (new : OpenPart D)
      → Carried conf part s → Lost choice part.log.journal.disk log l → Lost choice part.states.journal.first.disk first a
      → Lost choice part.states.journal.second.disk second b
      → IsOpenedPart seen conf log first second l a b new
      → IsRestartedPart seen choice conf part s new
  restarted_part choice conf part s log first second l a b new k p q r o =
      let t = part_left seen conf part s k l a b p.was q.was r.was in
      let e = o.only t.is (raised_states t.is.start t.states) t.text in
      let on_log = restarted_disk seen choice part.log.journal.disk log new.log.journal.disk l p o.on_log in
      let on_first = restarted_disk seen choice part.states.journal.first.disk first new.states.journal.first.disk a q o.on_first in
      let on_second = restarted_disk seen choice part.states.journal.second.disk second new.states.journal.second.disk b r o.on_second in
      record {
        l = l;
        a = a;
        b = b;
        is = t.is;
        states = t.states;
        carried = subst (λ (l : Log). Carried conf new (shard_with l (raised_states t.is.start t.states))) e.0
            (subst (λ (st : ShareStates). Carried conf new (shard_with o.is st)) e.1 o.carried);
        log_is = t.log_is;
        later = t.later;
        states_are = t.states_are;
        stands = t.text;
        were = (p.was, q.was, r.was);
        log_lost = o.on_log.losses ∙ p.lost;
        first_lost = o.on_first.losses ∙ q.lost;
        second_lost = o.on_second.losses ∙ r.lost;
        on_log = record { arms = on_log.0; disarmed = on_log.1; quiet = on_log.2 };
        on_first = record { arms = on_first.0; disarmed = on_first.1; quiet = on_first.2 };
        on_second = record { arms = on_second.0; disarmed = on_second.1; quiet = on_second.2 };
      }

  -- no image came
  pub images_within : (part : OpenPart D) (log first second : D) → Within (seen part.log.journal.disk).image (seen log).image
      → Within (seen part.states.journal.first.disk).image (seen first).image → Within (seen part.states.journal.second.disk).image (seen second).image
      → PartImagesStandAs seen part.log.journal.disk part.states.journal.first.disk part.states.journal.second.disk log first second
  images_within part log first second p q r = record {
    on_log = λ c on. (c, p c on, inl refl);
    on_first = λ c on. (c, q c on, inl refl);
    on_second = λ c on. (c, r c on, inl refl);
  }

  -- nor behind that any but by an opening
  pub images_behind : (part : OpenPart D) (mid_log mid_first mid_second log first second : D) → Within (seen part.log.journal.disk).image (seen mid_log).image
      → Within (seen part.states.journal.first.disk).image (seen mid_first).image → Within (seen part.states.journal.second.disk).image (seen mid_second).image
      → PartImagesStandAs seen mid_log mid_first mid_second log first second
      → PartImagesStandAs seen part.log.journal.disk part.states.journal.first.disk part.states.journal.second.disk log first second
  images_behind part mid_log mid_first mid_second log first second p q r i = record {
    on_log = λ c on. (let d = i.on_log c on in (d.0, p d.0 d.1, d.2));
    on_first = λ c on. (let d = i.on_first c on in (d.0, q d.0 d.1, d.2));
    on_second = λ c on. (let d = i.on_second c on in (d.0, r d.0 d.1, d.2));
  }

  -- disks that have no other images than before
  pub stands_within : (conf : PartConfParts) (part : OpenPart D) (s : PartShardState) (log first second : D) → Carried conf part s
      → Within (seen part.log.journal.disk).image (seen log).image → Within (seen part.states.journal.first.disk).image (seen first).image
      → Within (seen part.states.journal.second.disk).image (seen second).image → GoesOn seen part.log.journal.disk log
      → GoesOn seen part.states.journal.first.disk first → GoesOn seen part.states.journal.second.disk second
      → PartStandsAlone seen conf s log first second
  stands_within conf part s log first second k p q r on_log on_first on_second = record {
    stand = λ l a b x y z. part_left seen conf part s k l a b (p l x) (q a y) (r b z);
    log_told = on_log.told ∙ k.log.told;
    first_told = on_first.told ∙ k.first.told;
    second_told = on_second.told ∙ k.second.told;
  }

  -- an image that stands as the one that a loss left
  alike : (choice : ℕ) (old mid : D) (c x : List ℕ) → Lost choice old mid c → StandsAs (seen mid).image x → AreAlike c x
  alike choice old mid c x l (d, on, inl e) = inl (sym (l.only d on) ∙ e)
  alike choice old mid c x l (d, on, inr f) = inr (f.0, subst (λ (z : List ℕ). StandsFor z f.0) (l.only d on) f.1, f.2)

  -- behind three losses, the opening failed
  module _ (choice : ℕ) (conf : PartConfParts) (part : OpenPart D) (s : PartShardState) (log first second : D) (l a b : List ℕ) (k : Carried conf part s)
      (p : Lost choice part.log.journal.disk log l) (q : Lost choice part.states.journal.first.disk first a) (r : Lost choice part.states.journal.second.disk second b) where
    left : IsLeftOf conf s l a b
    left = part_left seen conf part s k l a b p.was q.was r.was

    not_opened : (new_log new_first new_second : D) → PartImagesStandAs seen log first second new_log new_first new_second
        → IsTold (seen new_log).content → IsTold (seen new_first).content → IsTold (seen new_second).content
        → PartStandsAlone seen conf s new_log new_first new_second
    not_opened new_log new_first new_second i told first_told second_told = record {
      stand = λ x y z on_log on_first on_second. record {
        is = left.is;
        states = left.states;
        log_is = left.log_is;
        later = left.later;
        states_are = left.states_are;
        text = same_part conf l x a y b z left.is (raised_states left.is.start left.states) (alike choice part.log.journal.disk log l x p (i.on_log x on_log))
            (alike choice part.states.journal.first.disk first a y q (i.on_first y on_first))
            (alike choice part.states.journal.second.disk second b z r (i.on_second z on_second)) left.text;
      };
      log_told = told;
      first_told = first_told;
      second_told = second_told;
    }

    only_memory : (e : CoreOpen)
        → ((x y z : List ℕ) (its : Log) (states : ShareStates) → (seen log).content ≡ Some x → (seen first).content ≡ Some y → (seen second).content ≡ Some z
        → ArePartText conf x y z its states → (name : List ℕ) (place : ℕ) → e ≢ fault.Damaged name place)
        → (IsTold (seen log).content → IsTold (seen first).content → IsTold (seen second).content → (seen log).armed ≡ Nothing → (seen first).armed ≡ Nothing → (seen second).armed ≡ Nothing
        → e ≢ fault.Device) → e ≢ fault.Bay → e ≡ fault.NoMemory
    only_memory e recovers sound no_bay =
        one_fault_left e (recovers l a b left.is (raised_states left.is.start left.states) p.is q.is r.is left.text)
        (sound (told_of (seen log).content l p.is) (told_of (seen first).content a q.is) (told_of (seen second).content b r.is) p.disarmed q.disarmed r.disarmed) no_bay

    pub part_stays_shut : {T : Type 0} (result : Result T ((D × D × D) × CoreOpen))
        → IfErr result (λ e. PartImagesStandAs seen log first second e.0.0 e.0.1 e.0.2)
        → ((x y z : List ℕ) (its : Log) (states : ShareStates) → (seen log).content ≡ Some x → (seen first).content ≡ Some y → (seen second).content ≡ Some z
        → ArePartText conf x y z its states → IfErr result (λ e. (name : List ℕ) (place : ℕ) → e.1 ≢ fault.Damaged name place))
        → (IsTold (seen log).content → IsTold (seen first).content → IsTold (seen second).content → (seen log).armed ≡ Nothing → (seen first).armed ≡ Nothing → (seen second).armed ≡ Nothing
        → IfErr result (λ e. e.1 ≢ fault.Device)) → IfErr result (λ e. e.1 ≢ fault.Bay)
        → IfErr result (λ e. is_some (seen e.0.0).content ≡ is_some (seen log).content) → IfErr result (λ e. is_some (seen e.0.1).content ≡ is_some (seen first).content)
        → IfErr result (λ e. is_some (seen e.0.2).content ≡ is_some (seen second).content)
        → IfErr result (λ e. PartStandsAlone seen conf s e.0.0 e.0.1 e.0.2 × (e.1 ≡ fault.NoMemory))
    part_stays_shut (Ok x) images recovers sound no_bay told first_told second_told = tt
    part_stays_shut (Err e) images recovers sound no_bay told first_told second_told = (
      not_opened e.0.0 e.0.1 e.0.2 images (told ∙ told_of (seen log).content l p.is) (first_told ∙ told_of (seen first).content a q.is)
          (second_told ∙ told_of (seen second).content b r.is),
      only_memory e.1 recovers sound no_bay,
    )

  pub told_at : {T : Type 0} (of : T → D) (at : (D × D × D) → D) (mid : D) (result : Result T ((D × D × D) × CoreOpen))
      → MatchResult result (λ new. GoesOn seen mid (of new)) (λ e. GoesOn seen mid (at e.0))
      → IfErr result (λ e. is_some (seen (at e.0)).content ≡ is_some (seen mid).content)
  told_at of at mid (Ok x) h = tt
  told_at of at mid (Err e) h = h.told

  -- ---- disks as they are handed on

  pub goes_still : (live old new : D) → old ≡ live → GoesOn seen old new → GoesOn seen live new
  goes_still live old new same g = subst (λ (d : D). GoesOn seen d new) same g

  pub goes_same : (live now : D) → now ≡ live → GoesOn seen live now
  goes_same live now same = subst (λ (d : D). GoesOn seen d now) same (record { later = least (seen now).faults; told = refl }) where
    least : (n : ℕ) → n ≤ n
    least n = omega arith

  pub within_on : (live old new : D) → old ≡ live → Within (seen old).image (seen new).image → Within (seen live).image (seen new).image
  within_on live old new same w = subst (λ (d : D). Within (seen d).image (seen new).image) same w

  pub within_same : (live now : D) → now ≡ live → Within (seen live).image (seen now).image
  within_same live now same = subst (λ (d : D). Within (seen d).image (seen now).image) same (λ x on. on)

  pub told_same : (live now : D) → now ≡ live → IsTold (seen live).content → IsTold (seen now).content
  told_same live now same told = subst (λ (d : D). IsTold (seen d).content) (sym same) told

  pub lost_still : (choice : ℕ) (live old new : D) → old ≡ live → IsTold (seen live).content → (IsTold (seen old).content → (c : List ℕ) × Lost choice old new c)
      → (c : List ℕ) × Lost choice live new c
  lost_still choice live old new same told lost =
      let l = lost (told_same live old same told) in (l.0, subst (λ (d : D). Lost choice d new l.0) same l.1)
