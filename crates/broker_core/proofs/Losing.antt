-- Power losses of all shards, seen by the names of the disks.
use Rattle.std.proofs.Common.{◌≡◌, ◌≢◌, ◌⊎◌, ◌<◌, ◌≤◌, ◌-◌, ◌∷◌, ◌++◌, [], arith, inl, inr, refl, sym, ap, ◌∙◌, subst, ℕ, zero, suc, List, length, get_or, set, Some, None}
use Rattle.std.specs.List.{AllByRecursion, AllZip, flat_map}
use Rattle.std.specs.declared.option.Option.{Option}
use Rattle.edge_io.specs.declared.name.DiskPlace.{DiskPlace}
use Rattle.edge_io.specs.declared.name.DiskPlace.TheVariants.{Log, StateA, StateB}
use Rattle.edge_io.specs.Causes.{Rose}
use Rattle.edge_io.specs.Names.{IsTopicName}
use Rattle.share_model.specs.ForeignRules.{ShareStates}
use Rattle.share_model.specs.Pending.{WithPending}
use Rattle.share_members.specs.Groups.{Memberships}
use Rattle.foreign_coord.specs.Shards.{ForeignShardState}
use Rattle.part_log.specs.Logs.{and_pending}
use Rattle.part_log.specs.Shards.{log_at}
use Rattle.part_log.specs.Starts.{Log as PartitionLog}
use Rattle.share_coord.specs.Raising.{raised_states}
use Rattle.share_coord.proofs.Recovered.{states_twice}
use Rattle.share_part.specs.Hosting.{ArePartText, PartConfParts}
use Rattle.share_part.specs.Leaving.{IsLeftOf, IsDoneOr}
use Rattle.share_part.specs.Shards.{PartShardState, shard_with}
use Rattle.share_part.proofs.Reaching.{log_long}
use Rattle.broker_model.specs.Hosted.{Hosted, IsLogName, IsOneOf, first_of, log_of, part_disks, second_of, state_a, state_b}
use Rattle.broker_model.specs.Shards.{HostedPart, Shards}
use Rattle.broker_model.specs.Machine.{Lands, LandsPart, OpensPart, StandForStates, no_members}
use Rattle.broker_model.specs.Disks.{Facts, IsRestarted}
use Rattle.broker_model.proofs.Names.{first_not, second_not}
use Rattle.broker_hosts.specs.declared.fault.CoreOpen.{CoreOpen}
use Rattle.broker_hosts.specs.declared.fault.CoreOpen.TheVariants.{Device, Bay, NoMemory as want}
use Rattle.broker_core.specs.declared.fault.CoreFault.{CoreFault}
use Rattle.broker_core.specs.declared.fault.CoreFault.TheVariants.{NoMemory, Reopen}
use Rattle.broker_hosts.specs.declared.slot.ForeignSlot.{ForeignSlot}
use Rattle.broker_hosts.specs.declared.slot.ForeignSlot.TheVariants as foreign
use Rattle.broker_hosts.specs.declared.slot.PartState.{PartState}
use Rattle.broker_hosts.specs.declared.slot.PartState.TheVariants as part
use Rattle.broker_hosts.specs.declared.slot.PartSlot.{PartSlot}
use Rattle.broker_hosts.specs.Carried.{GoesOn, IsCarried, IsPartCarried, OpenPart}
use Rattle.broker_shards.specs.Hosts.{holding}
use Rattle.broker_core.specs.Restarts.{IsRestartedPart, IsRestartedShard, ReopensSlot, ShutsSlot, StopsAt}
use Rattle.broker_core.specs.Foreign.{ReopensForeign, ShutsForeign}
use Rattle.broker_hosts.specs.Hosts.{AreApart, AreCarried, AreDistinct, AreHeldParts, AreNamed, AreOpenParts, ForeignStill, HostsParts, IsHeld, IsHeldState, IsOpen, IsOpenState, IsPartSlot, IsPartState, IsSlot, LogsReach, NotIn, PartStandsAlone, StandStill, all_names, disks_in, ends_in, facts_at, facts_in, foreign_disks, foreign_end, foreign_facts, hosted_slot, hosted_slots, open_disk, part_disk, part_end, shut_disk, slot_disks, slot_ends, slots_disks}
use Rattle.broker_core.specs.Calls.{BothGoOn, BothRose, DiskGoesOn, GoesOnIf, GoOn, OneRose, PartRose, RoseIf}
use Rattle.broker_core.specs.Cores.{AreReopened}
use Rattle.broker_core.proofs.Calling.{slot_goes}
use Rattle.broker_core.proofs.Flats.{all_pieces, zip_flat}
use Rattle.broker_core.proofs.Leading.{StillSlot, not_a_part, not_a_part_too, parts_apart, parts_still, same_both, same_goes, slot_still, still_all, still_foreign}
use Rattle.broker_hosts.proofs.Opening.{pending_map}
use Rattle.broker_hosts.proofs.Places.{DoneTo, among_past, among_zip, among_zip_where, each_found, not_both, one_in_either, zip_same, zip_weaker}
use Rattle.broker_core.proofs.Reaching.{SlotReaches, again_reaches, names_reach, no_end, reach_all, reach_less, reaches_less, shut_reaches, slot_reaches, slots_reach}
use Rattle.broker_hosts.proofs.OpeningParts.{part_left}
use Rattle.broker_core.proofs.Slots.{disk_names}
use Rattle.edge_io.specs.Views.{DiskView}

-- the content that the last loss left
pub last_content : List (ℕ × List ℕ) → List ℕ
last_content [] = []
last_content (l ∷ []) = l.1
last_content (l ∷ m ∷ losses) = last_content (m ∷ losses)

last_is : (losses : List (ℕ × List ℕ)) (choice : ℕ) (c : List ℕ) → last_content (losses ++ (choice, c) ∷ []) ≡ c
unfolding last_content
last_is [] choice c = refl
last_is (l ∷ []) choice c = refl
last_is (l ∷ m ∷ losses) choice c = last_is (m ∷ losses) choice c

-- the topics of slots that are named
pub slots_named : {D : Type 0} (slots : List (PartSlot D)) → AreNamed (hosted_slots slots) → AllByRecursion (λ s. IsTopicName s.topic) slots
slots_named [] n = tt
slots_named (s ∷ slots) n = (n.0.topic, slots_named slots n.1)

module _ {D : Type 0} (seen : D → DiskView) where
  abbrev F : HostsParts D → List ℕ → Facts
  F hosts name = facts_in seen (disks_in hosts) name

  abbrev entry_facts : List ℕ × Option D → Facts
  entry_facts e = facts_at seen e.1

  abbrev slot_facts : PartSlot D → DiskPlace → Facts
  slot_facts slot place = facts_at seen (part_disk slot.state place)

  abbrev Opens : ℕ → PartSlot D → PartSlot D → Type 0
  Opens choice x y = ReopensSlot seen choice x y

  abbrev Shuts : CoreFault → PartSlot D → PartSlot D → Type 0
  Shuts fault x y = ShutsSlot seen fault x y

  abbrev Stops : ℕ → CoreFault → List (PartSlot D) → List (PartSlot D) → Type 0
  Stops choice fault xs ys = StopsAt seen choice fault xs ys

  abbrev In : PartSlot D → HostedPart → Type 0
  In x e = IsPartSlot seen x e

  abbrev Still : PartSlot D → HostedPart → Type 0
  Still y e = StillSlot seen y e

  was_in : (x : PartSlot D) (was : OpenPart D) (e : HostedPart) → x.state ≡ part.Open was → In x e → IsPartCarried seen x.conf was e.shard
  was_in x was e is k = subst (λ (s : PartState D). IsPartState seen x.conf s e.shard) is k.state

  -- ---- partitions that were opened again

  -- a loss of a disk
  pub record IsLostFacts (choice : ℕ) (old new : Facts) : Type 0 where
    pub c : List ℕ
    pub lost : new.losses ≡ old.losses ++ (choice, c) ∷ []
    pub restarted : IsRestarted old new

  abbrev LostEntry : ℕ → List ℕ × Option D → List ℕ × Option D → Type 0
  LostEntry choice e f = (f.0 ≡ e.0) × IsLostFacts choice (entry_facts e) (entry_facts f)

  hosted_y : (choice : ℕ) (x y : PartSlot D) → Opens choice x y → hosted_slot y ≡ hosted_slot x
  hosted_y choice x y p = λ i. record { topic = p.topic i; conf = p.conf i }

  at_both : (choice : ℕ) (x y : PartSlot D) (place : DiskPlace) (p : Opens choice x y)
      → IsLostFacts choice (facts_at seen (Some (open_disk p.was place))) (facts_at seen (Some (open_disk p.is place)))
      → IsLostFacts choice (slot_facts x place) (slot_facts y place)
  at_both choice x y place p l =
      subst (λ (s : PartState D). IsLostFacts choice (facts_at seen (part_disk s place)) (slot_facts y place)) (sym p.old_is)
      (subst (λ (s : PartState D). IsLostFacts choice (facts_at seen (Some (open_disk p.was place))) (facts_at seen (part_disk s place)))
      (sym p.new_is) l)

  slot_lost : (choice : ℕ) (x y : PartSlot D) (e : HostedPart) → Opens choice x y → In x e → AllZip (LostEntry choice) (slot_disks x) (slot_disks y)
  slot_lost choice x y e p k =
      let r = p.reopens e.shard (was_in x p.was e p.old_is k) in (
        (ap (λ (h : Hosted). log_of h) (hosted_y choice x y p), at_both choice x y Log p (record { c = r.l; lost = r.log_lost; restarted = r.on_log })),
        (
          (ap (λ (h : Hosted). first_of h) (hosted_y choice x y p), at_both choice x y StateA p (record { c = r.a; lost = r.first_lost; restarted = r.on_first })),
          (
            (ap (λ (h : Hosted). second_of h) (hosted_y choice x y p), at_both choice x y StateB p (record { c = r.b; lost = r.second_lost; restarted = r.on_second })),
            tt,
          ),
        ),
      )

  -- a partition of which the last losses left this
  pub record Stands (y : PartSlot D) (f : HostedPart) : Type 0 where
    pub hosted : f.hosted ≡ hosted_slot y
    pub is : PartitionLog
    pub states : ShareStates
    pub shard : f.shard ≡ shard_with is states
    pub text : ArePartText f.hosted.conf (last_content (slot_facts y Log).losses) (last_content (slot_facts y StateA).losses)
        (last_content (slot_facts y StateB).losses) is states

  last_of : (choice : ℕ) (x y : PartSlot D) (place : DiskPlace) (p : Opens choice x y) (c : List ℕ)
      → (seen (open_disk p.is place)).losses ≡ (seen (open_disk p.was place)).losses ++ (choice, c) ∷ [] → last_content (slot_facts y place).losses ≡ c
  last_of choice x y place p c e =
      ap (λ (s : PartState D). last_content (facts_at seen (part_disk s place)).losses) p.new_is
      ∙ ap last_content e ∙ last_is (seen (open_disk p.was place)).losses choice c

  -- each loss left a log's disk to where the journal on it ended
  abbrev EndEntry : List ℕ × ℕ → List ℕ × Option D → Type 0
  EndEntry e f = (f.0 ≡ e.0) × (IsLogName e.0 → e.1 ≤ length (last_content (entry_facts f).losses))

  abbrev EndsIn : PartSlot D → PartSlot D → Type 0
  EndsIn x y = AllZip EndEntry (slot_ends x) (slot_disks y)

  slot_ends_in : (choice : ℕ) (x y : PartSlot D) (e : HostedPart) → Opens choice x y → In x e → EndsIn x y
  slot_ends_in choice x y e p k = (
    (ap (λ (h : Hosted). log_of h) (hosted_y choice x y p), λ is. at_log),
    (
      (ap (λ (h : Hosted). first_of h) (hosted_y choice x y p), λ is. absurd (first_not (hosted_slot x) is)),
      ((ap (λ (h : Hosted). second_of h) (hosted_y choice x y p), λ is. absurd (second_not (hosted_slot x) is)), tt),
    ),
  )
    where
      carried : IsPartCarried seen x.conf p.was e.shard
      carried = was_in x p.was e p.old_is k

      r : IsRestartedPart seen choice x.conf p.was e.shard p.is
      r = p.reopens e.shard carried

      at_log : part_end x.state Log ≤ length (last_content (slot_facts y Log).losses)
      at_log =
          subst (λ (d : List ℕ). part_end x.state Log ≤ length d) (sym (last_of choice x y Log p r.l r.log_lost))
          (subst (λ (s : PartState D). part_end s Log ≤ length r.l) (sym p.old_is)
          (log_long seen holding p.was e.shard carried.carries r.l r.were.0))

  -- the machine's partitions behind it
  record Reopened (xs ys : List (PartSlot D)) (es : List HostedPart) (choice : ℕ) : Type 0 where
    after : List HostedPart
    zip : AllZip In ys after
    lands : AllZip LandsPart es after
    stands : AllZip Stands ys after
    lost : AllZip (λ (x y : PartSlot D). AllZip (LostEntry choice) (slot_disks x) (slot_disks y)) xs ys
    reach : AllZip EndsIn xs ys

  reopened : (choice : ℕ) (xs ys : List (PartSlot D)) (es : List HostedPart) → AllZip (Opens choice) xs ys → AllZip In xs es → Reopened xs ys es choice
  reopened choice [] [] [] z k = record { after = []; zip = tt; lands = tt; stands = tt; lost = tt; reach = tt }
  reopened choice [] [] (e ∷ es) z k = absurd k
  reopened choice [] (y ∷ ys) es z k = absurd z
  reopened choice (x ∷ xs) [] es z k = absurd z
  reopened choice (x ∷ xs) (y ∷ ys) [] z k = absurd k
  reopened choice (x ∷ xs) (y ∷ ys) (e ∷ es) z k =
      let more = reopened choice xs ys es z.1 k.1 in
      let p = z.0 in
      let r = p.reopens e.shard (was_in x p.was e p.old_is k.0) in
      record {
        after = record { hosted = hosted_slot x; shard = shard_with r.is (raised_states r.is.start r.states) } ∷ more.after;
        zip = (
          record {
            hosted = sym (hosted_y choice x y p);
            state =
                subst (λ (c : PartConfParts). IsPartState seen c y.state (shard_with r.is (raised_states r.is.start r.states))) (sym p.conf)
                (subst (λ (s : PartState D). IsPartState seen x.conf s (shard_with r.is (raised_states r.is.start r.states))) (sym p.new_is) r.carried);
          },
          more.zip,
        );
        lands = (
          record {
            hosted = sym k.0.hosted;
            log = r.is;
            states = r.states;
            log_is = r.log_is;
            later = r.later;
            states_are = r.states_are;
            shard = refl;
          },
          more.lands,
        );
        stands = (
          record {
            hosted = sym (hosted_y choice x y p);
            is = r.is;
            states = raised_states r.is.start r.states;
            shard = refl;
            text =
                subst (λ (l : List ℕ). ArePartText x.conf l (last_content (slot_facts y StateA).losses) (last_content (slot_facts y StateB).losses) r.is (raised_states r.is.start r.states))
                (sym (last_of choice x y Log p r.l r.log_lost))
                (subst (λ (a : List ℕ). ArePartText x.conf r.l a (last_content (slot_facts y StateB).losses) r.is (raised_states r.is.start r.states))
                (sym (last_of choice x y StateA p r.a r.first_lost))
                (subst (λ (b : List ℕ). ArePartText x.conf r.l r.a b r.is (raised_states r.is.start r.states)) (sym (last_of choice x y StateB p r.b r.second_lost)) r.stands));
          },
          more.stands,
        );
        lost = (slot_lost choice x y e p k.0, more.lost);
        reach = (slot_ends_in choice x y e p k.0, more.reach);
      }

  -- ---- all disks

  abbrev G : Option (D × D) → List ℕ → Facts
  G disks name = foreign_facts seen disks name

  past : (hosts : HostsParts D) (name : List ℕ) → NotIn (part_disks (hosted_slots hosts.parts)) name → F hosts name ≡ G (foreign_disks hosts.foreign) name
  past hosts name n = among_past (λ (e : List ℕ × Option D). e.0) entry_facts (slots_disks hosts.parts) (G (foreign_disks hosts.foreign) name) name
      (subst (λ (l : List (List ℕ)). NotIn l name) (sym (disk_names hosts.parts)) n)

  pub hosted_stay : (choice : ℕ) (xs ys : List (PartSlot D)) → AllZip (Opens choice) xs ys → hosted_slots ys ≡ hosted_slots xs
  hosted_stay choice [] [] z = refl
  hosted_stay choice [] (y ∷ ys) z = absurd z
  hosted_stay choice (x ∷ xs) [] z = absurd z
  hosted_stay choice (x ∷ xs) (y ∷ ys) z = λ i. hosted_y choice x y z.0 i ∷ hosted_stay choice xs ys z.1 i

  module _ (choice : ℕ) (old new : HostsParts D) (opens : AllZip (Opens choice) old.parts new.parts)
      (p : ReopensForeign seen choice old.foreign new.foreign) (apart : AreApart old)
      (members : new.members ≡ no_members old.members.topics) (s : Shards) (k : AreCarried seen old s) where
    abbrev names : List (List ℕ)
    names = part_disks (hosted_slots old.parts)

    was_carried : IsCarried seen p.was s.foreign
    was_carried = subst (λ (f : ForeignSlot D). IsSlot seen f s.foreign) p.old_is k.foreign

    state : IsRestartedShard seen choice p.was s.foreign p.is
    state = p.reopens s.foreign was_carried

    abbrev r : Reopened old.parts new.parts s.parts choice
    r = reopened choice old.parts new.parts s.parts opens k.parts

    new_hosted : hosted_slots new.parts ≡ hosted_slots old.parts
    new_hosted = hosted_stay choice old.parts new.parts opens

    not_in_new : (name : List ℕ) → NotIn names name → NotIn (part_disks (hosted_slots new.parts)) name
    not_in_new name n = subst (λ (hs : List Hosted). NotIn (part_disks hs) name) (sym new_hosted) n

    was_at : (name : List ℕ) → NotIn names name → F old name ≡ G (Some (p.was.journal.first.disk, p.was.journal.second.disk)) name
    was_at name n = past old name n ∙ ap (λ (f : ForeignSlot D). G (foreign_disks f) name) p.old_is

    is_at : (name : List ℕ) → NotIn names name → F new name ≡ G (Some (p.is.journal.first.disk, p.is.journal.second.disk)) name
    is_at name n = past new name (not_in_new name n) ∙ ap (λ (f : ForeignSlot D). G (foreign_disks f) name) p.new_is

    abbrev Lost : List ℕ → Type 0
    Lost name = IsLostFacts choice (F old name) (F new name)

    no_a : NotIn names state_a
    no_a = not_a_part (hosted_slots old.parts) apart

    no_b : NotIn names state_b
    no_b = not_a_part_too (hosted_slots old.parts) apart

    lost_at : (name : List ℕ) → NotIn names name
        → IsLostFacts choice (G (Some (p.was.journal.first.disk, p.was.journal.second.disk)) name) (G (Some (p.is.journal.first.disk, p.is.journal.second.disk)) name) → Lost name
    lost_at name n l =
        subst (λ (f : Facts). IsLostFacts choice f (F new name)) (sym (was_at name n))
        (subst (λ (f : Facts). IsLostFacts choice (G (Some (p.was.journal.first.disk, p.was.journal.second.disk)) name) f) (sym (is_at name n)) l)

    lost_a : Lost state_a
    lost_a = lost_at state_a no_a (record { c = state.a; lost = state.lost; restarted = state.on_first })

    lost_b : Lost state_b
    lost_b = lost_at state_b no_b (record { c = state.b; lost = state.second_lost; restarted = state.on_second })

    lost_part : (name : List ℕ) → IsOneOf names name → Lost name
    lost_part name one =
        among_zip (λ (e : List ℕ × Option D). e.0) entry_facts (λ (e : List ℕ × Option D). e.0) entry_facts (IsLostFacts choice)
        (slots_disks old.parts) (slots_disks new.parts)
        (zip_flat (λ (x y : PartSlot D). AllZip (LostEntry choice) (slot_disks x) (slot_disks y)) (LostEntry choice) slot_disks slot_disks (λ x y z. z)
        old.parts new.parts r.lost)
        (G (foreign_disks old.foreign) name) (G (foreign_disks new.foreign) name) name
        (λ n. absurd (not_both names name (subst (λ (l : List (List ℕ)). NotIn l name) (disk_names old.parts) n) one))

    lost_any : (name : List ℕ) → IsOneOf names name ⊎ IsOneOf (state_a ∷ state_b ∷ []) name → Lost name
    lost_any name (inl one) = lost_part name one
    lost_any name (inr (inl e)) = subst Lost (sym e) lost_a
    lost_any name (inr (inr (inl e))) = subst Lost (sym e) lost_b
    lost_any name (inr (inr (inr never))) = absurd never

    lost_one : (name : List ℕ) → IsOneOf (all_names (hosted_slots old.parts)) name → Lost name
    lost_one name one = lost_any name (one_in_either names (state_a ∷ state_b ∷ []) name one)

    abbrev contents : List ℕ → List ℕ
    contents name = last_content (F new name).losses

    contents_is : (name : List ℕ) (c : List ℕ) → (F new name).losses ≡ (F old name).losses ++ (choice, c) ∷ [] → contents name ≡ c
    contents_is name c e = ap last_content e ∙ last_is (F old name).losses choice c

    abbrev EndOf : ℕ → Facts → Type 0
    EndOf n f = n ≤ length (last_content f.losses)

    reach_at : (name : List ℕ) → IsLogName name → ends_in old name ≤ length (contents name)
    reach_at name is =
        among_zip_where (λ (e : List ℕ × ℕ). e.0) (λ (e : List ℕ × ℕ). e.1) IsLogName (λ (e : List ℕ × Option D). e.0) entry_facts EndOf
        (flat_map slot_ends old.parts) (slots_disks new.parts) (zip_flat EndsIn EndEntry slot_ends slot_disks (λ x y z. z) old.parts new.parts r.reach)
        (foreign_end old.foreign name) (G (foreign_disks new.foreign) name) name is
        (λ away. omega (arith, no_end seen old.foreign name is))

    abbrev Found : List ℕ × Option D → Type 0
    Found e = F new e.0 ≡ entry_facts e

    -- each disk was left with the content that its partition stands for
    open_parts : (ys : List (PartSlot D)) (fs : List HostedPart) → AllByRecursion (λ (y : PartSlot D). AllByRecursion Found (slot_disks y)) ys
        → AllZip Stands ys fs → AllByRecursion (OpensPart contents) fs
    open_parts [] [] each z = tt
    open_parts [] (f ∷ fs) each z = absurd z
    open_parts (y ∷ ys) [] each z = absurd z
    open_parts (y ∷ ys) (f ∷ fs) each z = (
      record {
        log = z.0.is;
        states = z.0.states;
        shard = z.0.shard;
        stands =
            subst (λ (h : Hosted). ArePartText f.hosted.conf (contents (log_of h)) (contents (first_of h)) (contents (second_of h)) z.0.is z.0.states)
            (sym z.0.hosted)
            (subst (λ (g : Facts). ArePartText f.hosted.conf (last_content g.losses) (contents (first_of (hosted_slot y))) (contents (second_of (hosted_slot y)))
            z.0.is z.0.states) (sym each.0.0)
            (subst (λ (g : Facts). ArePartText f.hosted.conf (last_content (slot_facts y Log).losses) (last_content g.losses) (contents (second_of (hosted_slot y)))
            z.0.is z.0.states) (sym each.0.1.0)
            (subst (λ (g : Facts). ArePartText f.hosted.conf (last_content (slot_facts y Log).losses) (last_content (slot_facts y StateA).losses) (last_content g.losses)
            z.0.is z.0.states) (sym each.0.1.1.0) z.0.text)));
      },
      open_parts ys fs each.1 z.1,
    )

    pub all_reopened : AreReopened seen choice old s new
    all_reopened = record {
      after = record { parts = r.after; members = no_members s.members.topics; foreign = state.after };
      contents = contents;
      carried = record {
        parts = r.zip;
        members = ap (λ (m : Memberships). no_members m.topics) k.members ∙ sym members;
        foreign = subst (λ (f : ForeignSlot D). IsSlot seen f state.after) (sym p.new_is) state.carried;
      };
      lands = record { parts = r.lands; members = refl; foreign = state.lands };
      parts = open_parts new.parts r.after (all_pieces slot_disks Found new.parts
          (each_found (λ (e : List ℕ × Option D). e.0) entry_facts (slots_disks new.parts) (λ name. G (foreign_disks new.foreign) name)
          (subst AreDistinct (sym (disk_names new.parts)) (subst (λ (hs : List Hosted). AreDistinct (part_disks hs)) (sym new_hosted)
          (parts_apart (hosted_slots old.parts) apart))))) r.stands;
      states =
          subst (λ (a : List ℕ). StandForStates a (contents state_b) state.after.states) (sym (contents_is state_a state.a (lost_a_is)))
          (subst (λ (b : List ℕ). StandForStates state.a b state.after.states) (sym (contents_is state_b state.b lost_b_is)) state.stands);
      lost = λ name one. let l = lost_one name one in l.lost ∙ ap (λ (c : List ℕ). (F old name).losses ++ (choice, c) ∷ []) (sym (contents_is name l.c l.lost));
      reach = reach_at;
      disks = λ name one. (lost_one name one).restarted;
    }
      where
        lost_a_is : (F new state_a).losses ≡ (F old state_a).losses ++ (choice, state.a) ∷ []
        lost_a_is = ap (λ (f : Facts). f.losses) (is_at state_a no_a) ∙ state.lost
            ∙ ap (λ (l : List (ℕ × List ℕ)). l ++ (choice, state.a) ∷ []) (sym (ap (λ (f : Facts). f.losses) (was_at state_a no_a)))

        lost_b_is : (F new state_b).losses ≡ (F old state_b).losses ++ (choice, state.b) ∷ []
        lost_b_is = ap (λ (f : Facts). f.losses) (is_at state_b no_b) ∙ state.second_lost
            ∙ ap (λ (l : List (ℕ × List ℕ)). l ++ (choice, state.b) ∷ []) (sym (ap (λ (f : Facts). f.losses) (was_at state_b no_b)))

  -- ---- one was not opened again

  -- contents that stand for the shard that landed stand for the old one, with or without its pending writes
  landed_left : (conf : PartConfParts) (old : PartShardState) (its : PartitionLog) (states : ShareStates) (l a b : List ℕ)
      → IsDoneOr (log_at old.log) (and_pending (log_at old.log) old.log.pending) its → old.log.start ≤ its.start → IsDoneOr old.states old.pending states
      → IsLeftOf conf (shard_with its (raised_states its.start states)) l a b → IsLeftOf conf old l a b
  landed_left conf old its states l a b log_is later states_are t = record {
    is = its;
    states = states;
    log_is = log_is;
    later = later;
    states_are = states_are;
    text =
        subst (λ (ss : ShareStates). ArePartText conf l a b its ss) (states_twice its.start its.start states (let n = its.start in omega arith))
        (subst (λ (ss : ShareStates). ArePartText conf l a b its (raised_states its.start ss)) (done (raised_states its.start states) t.states t.states_are)
        (subst (λ (x : PartitionLog). ArePartText conf l a b x (raised_states x.start t.states)) (done its t.is t.log_is) t.text));
  }
    where
      done : {S : Type 0} (x y : S) → IsDoneOr x None y → y ≡ x
      done x y (inl e) = e
      done x y (inr e) = absurd (let bad : None ≡ Some y = e in cc)

  reopened_still : (choice : ℕ) (x y : PartSlot D) (e : HostedPart) → Opens choice x y → In x e → Still y e
  reopened_still choice x y e p k =
      let r = p.reopens e.shard (was_in x p.was e p.old_is k) in
      let same : hosted_slot y ≡ hosted_slot x = hosted_y choice x y p in
      let is : e.hosted ≡ hosted_slot y = k.hosted ∙ sym same in
      record {
        log = open_disk p.is Log;
        first = open_disk p.is StateA;
        second = open_disk p.is StateB;
        log_is = λ i. (log_of (sym is i), part_disk (p.new_is i) Log);
        first_is = λ i. (first_of (sym is i), part_disk (p.new_is i) StateA);
        second_is = λ i. (second_of (sym is i), part_disk (p.new_is i) StateB);
        alone = record {
          stand = λ l a b on_log on_first on_second. subst (λ (h : Hosted). IsLeftOf h.conf e.shard l a b) (sym k.hosted)
              (landed_left x.conf e.shard r.is r.states l a b r.log_is r.later r.states_are
              (part_left seen x.conf p.is (shard_with r.is (raised_states r.is.start r.states)) r.carried l a b on_log on_first on_second));
          log_told = r.carried.log.told;
          first_told = r.carried.first.told;
          second_told = r.carried.second.told;
        };
      }

  shut_still : (fault : CoreFault) (x y : PartSlot D) (e : HostedPart) → (p : Shuts fault x y) → In x e
      → PartStandsAlone seen x.conf e.shard p.log p.first p.second → Still y e
  shut_still fault x y e p k d =
      let is : e.hosted ≡ hosted_slot y = k.hosted ∙ (λ i. record { topic = sym p.topic i; conf = sym p.conf i }) in
      record {
        log = p.log;
        first = p.first;
        second = p.second;
        log_is = λ i. (log_of (sym is i), part_disk (p.new_is i) Log);
        first_is = λ i. (first_of (sym is i), part_disk (p.new_is i) StateA);
        second_is = λ i. (second_of (sym is i), part_disk (p.new_is i) StateB);
        alone = subst (λ (h : Hosted). PartStandsAlone seen h.conf e.shard p.log p.first p.second) (sym k.hosted) d;
      }

  all_still : (choice : ℕ) (xs ys : List (PartSlot D)) (es : List HostedPart) → AllZip (Opens choice) xs ys → AllZip In xs es → AllZip Still ys es
  all_still choice [] [] [] z k = tt
  all_still choice [] [] (e ∷ es) z k = absurd k
  all_still choice [] (y ∷ ys) es z k = absurd z
  all_still choice (x ∷ xs) [] es z k = absurd z
  all_still choice (x ∷ xs) (y ∷ ys) [] z k = absurd k
  all_still choice (x ∷ xs) (y ∷ ys) (e ∷ es) z k = (reopened_still choice x y e z.0 k.0, all_still choice xs ys es z.1 k.1)

  stops_still : (choice : ℕ) (fault : CoreFault) (xs ys : List (PartSlot D)) (es : List HostedPart) → Stops choice fault xs ys → AllZip In xs es
      → AllZip Still ys es × (fault ≡ NoMemory)
  stops_still choice fault [] ys es z k = absurd z
  stops_still choice fault (x ∷ xs) [] es z k = absurd z
  stops_still choice fault (x ∷ xs) (y ∷ ys) [] z k = absurd k
  stops_still choice fault (x ∷ xs) (y ∷ ys) (e ∷ es) (inl (p, more)) k =
      let m = stops_still choice fault xs ys es more k.1 in ((reopened_still choice x y e p k.0, m.0), m.1)
  stops_still choice fault (x ∷ xs) (y ∷ ys) (e ∷ es) (inr (p, same)) k =
      let d = p.shuts e.shard (was_in x p.was e p.old_is k.0) in (
        (
          shut_still fault x y e p k.0 d.0,
          subst (λ (l : List (PartSlot D)). AllZip Still l es) (sym same)
              (zip_weaker In Still (slot_still seen) xs es k.1),
        ),
        d.1,
      )

  -- ---- how far the disks reach then

  abbrev Less : PartSlot D → PartSlot D → Type 0
  Less x y = SlotReaches seen (λ n. n - 1) x y

  same_less : (xs : List (PartSlot D)) (es : List HostedPart) → AllZip In xs es → AllZip Less xs xs
  same_less xs es k =
      zip_weaker (SlotReaches seen (λ n. n)) Less (reaches_less seen) xs xs (slots_reach seen In (slot_reaches seen) xs es k)

  again_less : (choice : ℕ) (x y : PartSlot D) (e : HostedPart) → Opens choice x y → In x e → Less x y
  again_less choice x y e p k =
      again_reaches seen x y p.was p.is e.shard (hosted_y choice x y p) p.old_is p.new_is (was_in x p.was e p.old_is k).carries p.images.on_log

  all_less : (choice : ℕ) (xs ys : List (PartSlot D)) (es : List HostedPart) → AllZip (Opens choice) xs ys → AllZip In xs es → AllZip Less xs ys
  all_less choice [] [] [] z k = tt
  all_less choice [] [] (e ∷ es) z k = absurd k
  all_less choice [] (y ∷ ys) es z k = absurd z
  all_less choice (x ∷ xs) [] es z k = absurd z
  all_less choice (x ∷ xs) (y ∷ ys) [] z k = absurd k
  all_less choice (x ∷ xs) (y ∷ ys) (e ∷ es) z k = (again_less choice x y e z.0 k.0, all_less choice xs ys es z.1 k.1)

  stops_less : (choice : ℕ) (fault : CoreFault) (xs ys : List (PartSlot D)) (es : List HostedPart) → Stops choice fault xs ys → AllZip In xs es
      → AllZip Less xs ys
  stops_less choice fault [] ys es z k = absurd z
  stops_less choice fault (x ∷ xs) [] es z k = absurd z
  stops_less choice fault (x ∷ xs) (y ∷ ys) [] z k = absurd k
  stops_less choice fault (x ∷ xs) (y ∷ ys) (e ∷ es) (inl (p, more)) k = (again_less choice x y e p k.0, stops_less choice fault xs ys es more k.1)
  stops_less choice fault (x ∷ xs) (y ∷ ys) (e ∷ es) (inr (p, same)) k = (
    shut_reaches seen x y p.was e.shard p.log p.first p.second (λ i. record { topic = p.topic i; conf = p.conf i }) p.old_is p.new_is
        (was_in x p.was e p.old_is k.0).carries p.images.on_log,
    subst (λ (l : List (PartSlot D)). AllZip Less xs l) (sym same) (same_less xs es k.1),
  )

  -- the disks stand for the shards, and those of logs reach to the last gate of each journal
  abbrev pub Stopped : HostsParts D → Shards → HostsParts D → CoreFault → Type 0
  Stopped old s new fault =
      StandStill seen s (disks_in new) × LogsReach seen (disks_in new) (λ name. ends_in old name - 1) × (fault ≡ NoMemory)

  pub none_stopped : (hosts : HostsParts D) (s : Shards) → AreCarried seen hosts s → Stopped hosts s hosts NoMemory
  none_stopped hosts s k = (
    still_all seen hosts s k,
    reach_less seen (disks_in hosts) (ends_in hosts) (reach_all seen hosts s k),
    refl,
  )

  pub parts_stopped : (choice : ℕ) (fault : CoreFault) (old new : HostsParts D) → Stops choice fault old.parts new.parts → new.foreign ≡ old.foreign
      → (s : Shards) → AreCarried seen old s → Stopped old s new fault
  parts_stopped choice fault old new stops same s k =
      let d = stops_still choice fault old.parts new.parts s.parts stops k.parts in (
        record {
          parts = parts_still seen new.parts s.parts d.0;
          foreign = subst (λ (f : ForeignSlot D). ForeignStill seen s.foreign (foreign_disks f)) (sym same)
              (still_foreign seen old.foreign s.foreign k.foreign);
        },
        names_reach seen (λ n. n - 1) refl old new (stops_less choice fault old.parts new.parts s.parts stops k.parts),
        d.1,
      )

  pub state_stopped : (choice : ℕ) (fault : CoreFault) (old new : HostsParts D) → AllZip (Opens choice) old.parts new.parts
      → ShutsForeign seen fault old.foreign new.foreign → (s : Shards) → AreCarried seen old s
      → Stopped old s new fault
  state_stopped choice fault old new opens p s k =
      let c : IsCarried seen p.was s.foreign =
      subst (λ (f : ForeignSlot D). IsSlot seen f s.foreign) p.old_is k.foreign in
      let d = p.shuts s.foreign c in (
        record {
          parts = parts_still seen new.parts s.parts (all_still choice old.parts new.parts s.parts opens k.parts);
          foreign = subst (λ (f : ForeignSlot D). ForeignStill seen s.foreign (foreign_disks f)) (sym p.new_is) (record {
            stand = λ a b on_first on_second. back a b d.0.after d.0.lands (d.0.stand a b on_first on_second);
            told = d.0.told;
            second_told = d.0.second_told;
          });
        },
        names_reach seen (λ n. n - 1) refl old new (all_less choice old.parts new.parts s.parts opens k.parts),
        d.1,
      )
    where
      back : (a b : List ℕ) (after : ForeignShardState) → (after ≡ s.foreign) ⊎ Lands s.foreign after
          → WithPending (StandForStates a b) after.states after.pending → WithPending (StandForStates a b) s.foreign.states s.foreign.pending
      back a b after (inl same) h = subst (λ (t : ForeignShardState). WithPending (StandForStates a b) t.states t.pending) same h
      back a b after (inr lands) h =
          pending_map (λ (t : ShareStates). after.states ≡ t) (StandForStates a b)
          (λ t e. subst (StandForStates a b) e (subst (λ (p : Option ShareStates). WithPending (StandForStates a b) after.states p) lands.nothing h))
          s.foreign.states s.foreign.pending lands.states

  -- ---- any disks

  abbrev SlotGoesOn : PartSlot D → PartSlot D → Type 0
  SlotGoesOn x y = AllZip (DiskGoesOn seen) (slot_disks x) (slot_disks y)

  opens_on : (choice : ℕ) (x y : PartSlot D) → Opens choice x y → SlotGoesOn x y
  opens_on choice x y p = slot_goes seen x y (record {
    was = p.was;
    is = p.is;
    turns = record { old_is = p.old_is; new_is = p.new_is; hosted = hosted_y choice x y p };
    goes = p.goes;
  })

  shuts_on : (fault : CoreFault) (x y : PartSlot D) → Shuts fault x y → SlotGoesOn x y
  shuts_on fault x y p = (
    record { name = ap (λ (h : Hosted). log_of h) same; goes = at Log p.on_log },
    (
      record { name = ap (λ (h : Hosted). first_of h) same; goes = at StateA p.on_first },
      (record { name = ap (λ (h : Hosted). second_of h) same; goes = at StateB p.on_second }, tt),
    ),
  )
    where
      same : hosted_slot y ≡ hosted_slot x
      same = λ i. record { topic = p.topic i; conf = p.conf i }

      at : (place : DiskPlace) → GoesOn seen (open_disk p.was place) (shut_disk p.log p.first p.second place)
          → GoesOnIf seen (part_disk x.state place) (part_disk y.state place)
      at place g =
          subst (λ (s : PartState D). GoesOnIf seen (part_disk s place) (part_disk y.state place)) (sym p.old_is)
          (subst (λ (s : PartState D). GoesOnIf seen (Some (open_disk p.was place)) (part_disk s place)) (sym p.new_is) g)

  slots_same : (xs : List (PartSlot D)) → AllZip SlotGoesOn xs xs
  slots_same xs = zip_same SlotGoesOn (λ x. zip_same (DiskGoesOn seen) (same_goes seen) (slot_disks x)) xs

  flat_on : (xs ys : List (PartSlot D)) → AllZip SlotGoesOn xs ys → AllZip (DiskGoesOn seen) (slots_disks xs) (slots_disks ys)
  flat_on xs ys z = zip_flat SlotGoesOn (DiskGoesOn seen) slot_disks slot_disks (λ x y w. w) xs ys z

  opened_on : (choice : ℕ) (xs ys : List (PartSlot D)) → AllZip (Opens choice) xs ys → AllZip (DiskGoesOn seen) (slots_disks xs) (slots_disks ys)
  opened_on choice xs ys z = flat_on xs ys (zip_weaker (Opens choice) SlotGoesOn (opens_on choice) xs ys z)

  stopped_on : (choice : ℕ) (fault : CoreFault) (xs ys : List (PartSlot D)) → Stops choice fault xs ys → AllZip SlotGoesOn xs ys
  stopped_on choice fault [] ys z = absurd z
  stopped_on choice fault (x ∷ xs) [] z = absurd z
  stopped_on choice fault (x ∷ xs) (y ∷ ys) (inl (p, more)) = (opens_on choice x y p, stopped_on choice fault xs ys more)
  stopped_on choice fault (x ∷ xs) (y ∷ ys) (inr (p, same)) =
      (shuts_on fault x y p, subst (λ (l : List (PartSlot D)). AllZip SlotGoesOn xs l) (sym same) (slots_same xs))

  pub hosted_stopped : (choice : ℕ) (fault : CoreFault) (xs ys : List (PartSlot D)) → Stops choice fault xs ys → hosted_slots ys ≡ hosted_slots xs
  hosted_stopped choice fault [] ys z = absurd z
  hosted_stopped choice fault (x ∷ xs) [] z = absurd z
  hosted_stopped choice fault (x ∷ xs) (y ∷ ys) (inl (p, more)) = λ i. hosted_y choice x y p i ∷ hosted_stopped choice fault xs ys more i
  hosted_stopped choice fault (x ∷ xs) (y ∷ ys) (inr (p, same)) = λ i. record { topic = p.topic i; conf = p.conf i } ∷ hosted_slots (same i)

  pub parts_stopped_on : (choice : ℕ) (fault : CoreFault) (old new : HostsParts D) → Stops choice fault old.parts new.parts → new.foreign ≡ old.foreign
      → GoOn seen (disks_in old) (disks_in new)
  parts_stopped_on choice fault old new stops same = record {
    parts = flat_on old.parts new.parts (stopped_on choice fault old.parts new.parts stops);
    foreign = subst (λ (f : ForeignSlot D). BothGoOn seen (foreign_disks old.foreign) (foreign_disks f)) (sym same)
        (same_both seen (foreign_disks old.foreign));
  }

  pub state_stopped_on : (choice : ℕ) (fault : CoreFault) (old new : HostsParts D) → AllZip (Opens choice) old.parts new.parts
      → ShutsForeign seen fault old.foreign new.foreign → GoOn seen (disks_in old) (disks_in new)
  state_stopped_on choice fault old new opens p = record {
    parts = opened_on choice old.parts new.parts opens;
    foreign =
        subst (λ (f : ForeignSlot D). BothGoOn seen (foreign_disks f) (foreign_disks new.foreign)) (sym p.old_is)
        (subst (λ (f : ForeignSlot D). BothGoOn seen (Some (p.was.journal.first.disk, p.was.journal.second.disk)) (foreign_disks f)) (sym p.new_is) (p.on_first, p.on_second));
  }

  pub all_on : (choice : ℕ) (old new : HostsParts D) → AllZip (Opens choice) old.parts new.parts
      → ReopensForeign seen choice old.foreign new.foreign → GoOn seen (disks_in old) (disks_in new)
  all_on choice old new opens p = record {
    parts = opened_on choice old.parts new.parts opens;
    foreign =
        subst (λ (f : ForeignSlot D). BothGoOn seen (foreign_disks f) (foreign_disks new.foreign)) (sym p.old_is)
        (subst (λ (f : ForeignSlot D). BothGoOn seen (Some (p.was.journal.first.disk, p.was.journal.second.disk)) (foreign_disks f)) (sym p.new_is) (p.first, p.second));
  }

  -- ---- which count rose

  pub stopped_rose : (choice : ℕ) (fault : CoreFault) (xs ys : List (PartSlot D)) → Stops choice fault xs ys → fault ≡ Reopen Device
      → PartRose seen (slots_disks xs) (slots_disks ys)
  stopped_rose choice fault [] ys z is = absurd z
  stopped_rose choice fault (x ∷ xs) [] z is = absurd z
  stopped_rose choice fault (x ∷ xs) (y ∷ ys) (inl (p, more)) is = inr (inr (inr (stopped_rose choice fault xs ys more is)))
  stopped_rose choice fault (x ∷ xs) (y ∷ ys) (inr (p, same)) is = one (p.device is) where
    at : (place : DiskPlace) → Rose (seen (open_disk p.was place)).faults (seen (shut_disk p.log p.first p.second place)).faults
        → RoseIf seen (part_disk x.state place) (part_disk y.state place)
    at place r =
        subst (λ (s : PartState D). RoseIf seen (part_disk s place) (part_disk y.state place)) (sym p.old_is)
        (subst (λ (s : PartState D). RoseIf seen (Some (open_disk p.was place)) (part_disk s place)) (sym p.new_is) r)

    one : Rose (seen p.was.log.journal.disk).faults (seen p.log).faults
        ⊎ (Rose (seen p.was.states.journal.first.disk).faults (seen p.first).faults ⊎ Rose (seen p.was.states.journal.second.disk).faults (seen p.second).faults)
        → PartRose seen (slots_disks (x ∷ xs)) (slots_disks (y ∷ ys))
    one (inl r) = inl (at Log r)
    one (inr (inl r)) = inr (inl (at StateA r))
    one (inr (inr r)) = inr (inr (inl (at StateB r)))

  pub stopped_never : (choice : ℕ) (fault : CoreFault) (xs ys : List (PartSlot D)) → Stops choice fault xs ys → (f : CoreOpen) → fault ≡ Reopen f
      → (f ≢ Bay) × (f ≢ want)
  stopped_never choice fault [] ys z f is = absurd z
  stopped_never choice fault (x ∷ xs) [] z f is = absurd z
  stopped_never choice fault (x ∷ xs) (y ∷ ys) (inl (p, more)) f is = stopped_never choice fault xs ys more f is
  stopped_never choice fault (x ∷ xs) (y ∷ ys) (inr (p, same)) f is = p.never f is

  pub state_rose : (fault : CoreFault) (old new : HostsParts D) → ShutsForeign seen fault old.foreign new.foreign → fault ≡ Reopen Device
      → OneRose seen (disks_in old) (disks_in new)
  state_rose fault old new p is = inr
      (subst (λ (f : ForeignSlot D). BothRose seen (foreign_disks f) (foreign_disks new.foreign)) (sym p.old_is)
      (subst (λ (f : ForeignSlot D). BothRose seen (Some (p.was.journal.first.disk, p.was.journal.second.disk)) (foreign_disks f)) (sym p.new_is) (p.device is)))

  -- ---- open, and held

  pub opened_open : (choice : ℕ) (xs ys : List (PartSlot D)) → AllZip (Opens choice) xs ys → AreOpenParts ys
  opened_open choice [] [] z = tt
  opened_open choice [] (y ∷ ys) z = absurd z
  opened_open choice (x ∷ xs) [] z = absurd z
  opened_open choice (x ∷ xs) (y ∷ ys) z =
      (subst (λ (s : PartState D). IsOpenState s) (sym z.0.new_is) tt, opened_open choice xs ys z.1)

  pub held_of_open : (slots : List (PartSlot D)) → AreOpenParts slots → AreHeldParts slots
  held_of_open [] o = tt
  held_of_open (s ∷ slots) o = (go s.state o.0, held_of_open slots o.1) where
    go : (state : PartState D) → IsOpenState state → IsHeldState state
    go (part.Open shard) h = tt
    go (part.Shut log first second) h = absurd h
    go part.Gone h = absurd h

  pub opened_held : (choice : ℕ) (xs ys : List (PartSlot D)) → AllZip (Opens choice) xs ys → AreHeldParts ys
  opened_held choice xs ys z = held_of_open ys (opened_open choice xs ys z)

  pub stopped_held : (choice : ℕ) (fault : CoreFault) (xs ys : List (PartSlot D)) → AreOpenParts xs → Stops choice fault xs ys → AreHeldParts ys
  stopped_held choice fault [] ys o z = absurd z
  stopped_held choice fault (x ∷ xs) [] o z = absurd z
  stopped_held choice fault (x ∷ xs) (y ∷ ys) o (inl (p, more)) =
      (subst (λ (s : PartState D). IsHeldState s) (sym p.new_is) tt, stopped_held choice fault xs ys o.1 more)
  stopped_held choice fault (x ∷ xs) (y ∷ ys) o (inr (p, same)) =
      (subst (λ (s : PartState D). IsHeldState s) (sym p.new_is) tt, subst AreHeldParts (sym same) (held_of_open xs o.1))

  pub held_open_foreign : (slot : ForeignSlot D) → IsOpen slot → IsHeld slot
  held_open_foreign (foreign.Open store) o = tt
  held_open_foreign (foreign.Shut first second) o = absurd o
  held_open_foreign foreign.Gone o = absurd o

  -- ---- one after another

  pub done_stops : (choice : ℕ) (fault : CoreFault) (n : ℕ) (xs ys : List (PartSlot D)) (y z : PartSlot D) → DoneTo n (Opens choice) xs ys → n < length ys
      → y ≡ get_or ys n y → Shuts fault y z → Stops choice fault xs (set ys n z)
  done_stops choice fault zero [] [] y z d lt is p = absurd (omega (arith, lt))
  done_stops choice fault zero [] (w ∷ ys) y z d lt is p = absurd (let bad : w ∷ ys ≡ [] = d in cc)
  done_stops choice fault zero (x ∷ xs) [] y z d lt is p = absurd (omega (arith, lt))
  done_stops choice fault zero (x ∷ xs) (w ∷ ys) y z d lt is p =
      let head : w ≡ x = cc in
      let tail : ys ≡ xs = cc in
      inr (subst (λ (v : PartSlot D). Shuts fault v z) (is ∙ head) p, tail)
  done_stops choice fault (suc n) [] ys y z d lt is p = absurd d
  done_stops choice fault (suc n) (x ∷ xs) [] y z d lt is p = absurd d
  done_stops choice fault (suc n) (x ∷ xs) (w ∷ ys) y z d lt is p = inl (d.0, done_stops choice fault n xs ys y z d.1 (omega (arith, lt)) is p)
