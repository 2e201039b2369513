-- The states of all shards for which the disks stand that are put back.
use Rattle.std.proofs.Common.{◌≡◌, refl, sym, ap, ◌∙◌, subst, List, [], ◌∷◌, map, Some}
use Rattle.std.specs.List.{AllZip}
use Rattle.edge_io.specs.Views.{DiskView}
use Rattle.share_part.specs.Hosting.{PartConfParts}
use Rattle.share_part.specs.Shards.{PartShardState}
use Rattle.shard_lock.specs.Passes.{LockParts, PassParts}
use Rattle.broker_model.specs.Hosted.{Hosted, first_of, log_of, second_of}
use Rattle.broker_model.specs.Shards.{HostedPart, Shards}
use Rattle.broker_hosts.specs.Hosts.{AreCarried, IsPartSlot, PartStandsAlone, PartStill, PartsStill, hosted_slot, slots_disks}
use Rattle.broker_shards.specs.Hosts.{Host}
use Rattle.broker_shards.specs.declared.part.PartEvent.{PartEvent}
use Rattle.broker_locks.specs.Closing.{AreLeft, LeavesPart, PartsLead, StandBehind}
use Rattle.broker_locks.specs.Opening.{hosts_of, slot_of}
use Rattle.broker_locks.specs.Rows.{parts_in}
use Rattle.broker_locks.specs.Shared.{PartAnswer, PassesParts, ShardParts, SharedParts, first_shards}

module _ {D : Type 0} (seen : D → DiskView) where
  parts_stand : (given : List (PassParts (Host D) PartEvent PartAnswer)) (locks : List (LockParts (Host D))) (last : List (Host D))
      (left : AllZip (LeavesPart seen given) locks last) (ps : List HostedPart)
      → AllZip (IsPartSlot seen) (map slot_of (map (λ l. l.first) locks)) ps
      → (qs : List HostedPart) × PartsLead seen given locks last left ps qs × PartsStill seen (slots_disks (map slot_of last)) qs
  parts_stand given [] [] left [] k = ([], tt, tt)
  parts_stand given [] [] left (p ∷ ps) k = absurd k
  parts_stand given [] (h ∷ last) left ps k = absurd left
  parts_stand given (l ∷ locks) [] left ps k = absurd left
  parts_stand given (l ∷ locks) (h ∷ last) left [] k = absurd k
  parts_stand given (l ∷ locks) (h ∷ last) left (p ∷ ps) k =
      let one = left.0.stands p.shard k.0.state in
      let rest = parts_stand given locks last left.1 ps k.1 in
      (record { hosted = p.hosted; shard = one.0 } ∷ rest.0, (refl, one.1, rest.1), (still one.0 one.2, rest.2))
    where
      is : hosted_slot (slot_of h) ≡ p.hosted
      is = (λ i. record { topic = left.0.same.0 i; conf = left.0.same.1 i }) ∙ sym k.0.hosted

      still : (t : PartShardState) → PartStandsAlone seen l.first.conf t h.part.log.journal.disk h.part.states.journal.first.disk h.part.states.journal.second.disk
          → PartStill seen (log_of (hosted_slot (slot_of h)), Some h.part.log.journal.disk) (first_of (hosted_slot (slot_of h)), Some h.part.states.journal.first.disk)
          (second_of (hosted_slot (slot_of h)), Some h.part.states.journal.second.disk) (record { hosted = p.hosted; shard = t })
      still t alone = record {
        log = h.part.log.journal.disk;
        first = h.part.states.journal.first.disk;
        second = h.part.states.journal.second.disk;
        log_is = λ i. (log_of (is i), Some h.part.log.journal.disk);
        first_is = λ i. (first_of (is i), Some h.part.states.journal.first.disk);
        second_is = λ i. (second_of (is i), Some h.part.states.journal.second.disk);
        alone = subst (λ (c : PartConfParts). PartStandsAlone seen c t h.part.log.journal.disk h.part.states.journal.first.disk h.part.states.journal.second.disk)
            (sym (ap (λ (x : Hosted). x.conf) k.0.hosted)) alone;
      }

  pub all_stand : (rows : List (PassesParts D)) (shared : SharedParts D) (last : ShardParts D) (left : AreLeft seen rows shared last) (s : Shards)
      → AreCarried seen (hosts_of (first_shards shared)) s → StandBehind seen rows shared last left s
  all_stand rows shared last left s k =
      let p = parts_stand (parts_in rows) shared.parts last.parts left.parts s.parts k.parts in
      let f = left.foreign.stands s.foreign k.foreign in
      record {
        after = record { parts = p.0; members = last.members.members; foreign = f.0 };
        parts = p.1;
        members = refl;
        foreign = f.1;
        still = record { parts = p.2; foreign = f.2 };
      }
