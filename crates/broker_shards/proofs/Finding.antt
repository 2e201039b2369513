-- What a crash at a moment of an act finds.
use Rattle.std.proofs.Common.{◌≡◌, inl, refl, sym, ap, subst, arith, ℕ, ℤ, List, true, Result, Ok, Err}
use Rattle.edge_io.specs.Moments.{LeavesOnly}
use Rattle.edge_io.specs.Views.{DiskView}
use Rattle.flex_fields.specs.declared.fault.NoMemory.{NoMemory}
use Rattle.share_model.specs.Held.{Held}
use Rattle.share_model.specs.declared.delete.DeleteAnswer.{DeleteAnswer}
use Rattle.share_model.specs.declared.delete.Placed.{Placed}
use Rattle.share_model.specs.declared.fault.LogFault.{LogFault}
use Rattle.share_model.specs.declared.fault.LogFault.TheVariants.{Batch, Behind, Store, NoMemory as log_memory}
use Rattle.share_model.specs.declared.fault.StoreFault.TheVariants.{Device, Full}
use Rattle.share_model.specs.declared.visit.ExpireAnswer.{ExpireAnswer}
use Rattle.share_model.specs.declared.visit.Visit.{Visit}
use Rattle.share_model.specs.declared.visit.VisitAnswer.{VisitAnswer}
use Rattle.part_log.specs.Logs.{LogParts, log_in}
use Rattle.part_log.specs.Shards.{log_at}
use Rattle.part_log.specs.Starts.{Log}
use Rattle.coord_checkpoint.specs.Stores.{StoreParts as JournalParts}
use Rattle.share_coord.specs.Parts.{StoreParts}
use Rattle.share_part.specs.Deleting.{DeletesOnce, IsToDelete}
use Rattle.share_part.specs.Once.{ExpiresOnce, ProducesOnce, VisitsOnce}
use Rattle.share_part.specs.Shards.{Carries, PartParts, PartShardState}
use Rattle.share_part.proofs.Deleting.{same_journal}
use Rattle.broker_shards.specs.Crashes.{FindsNothingNew, FoundWithin, IsToAdd, StatesFindNothingNew}
use Rattle.broker_shards.specs.declared.part.PartAsk.TheVariants as asks

module _ {D W : Type 0} (seen : D → DiskView) (holding : W → Held)
    (only_now : (d : D) (c : List ℕ) → (seen d).since (seen d).moment c → (seen d).image c) where
  nothing_new : (old new : D) → new ≡ old → FindsNothingNew seen old new
  nothing_new old new same = subst (λ (d : D). LeavesOnly seen old d (seen old).image) (sym same)
      (record { later = omega arith; each = λ c k. only_now old c k; before = λ t c early k. inl k })

  new_log : (old new : LogParts D) → new ≡ old → FindsNothingNew seen old.journal.disk new.journal.disk
  new_log old new same = nothing_new old.journal.disk new.journal.disk (ap (λ (l : LogParts D). l.journal.disk) same)

  new_states : (old new : StoreParts D) → new ≡ old → StatesFindNothingNew seen old new
  new_states old new same = (
    nothing_new old.journal.first.disk new.journal.first.disk (ap (λ (t : StoreParts D). t.journal.first.disk) same),
    nothing_new old.journal.second.disk new.journal.second.disk (ap (λ (t : StoreParts D). t.journal.second.disk) same),
  )

  -- where the contents are others in memory, and both disks stay
  new_journals : (old new : StoreParts D) → new.journal ≡ old.journal → StatesFindNothingNew seen old new
  new_journals old new same = (
    nothing_new old.journal.first.disk new.journal.first.disk (ap (λ (j : JournalParts D). j.first.disk) same),
    nothing_new old.journal.second.disk new.journal.second.disk (ap (λ (j : JournalParts D). j.second.disk) same),
  )

  module _ (old new : PartParts D W) (now : ℕ) where
    pub visit_found : (visit : Visit) (result : Result VisitAnswer NoMemory) → VisitsOnce seen holding now true visit old new result
        → FoundWithin seen holding now (asks.Visit visit) old new
    visit_found visit result once = record {
      log = once.log.reads.journal.looks.moments;
      states = λ s k acks then. new_states old.states new.states (once.unwritten s k acks then);
    }

    -- what isn't to be written leaves the log and its disk
    unadded : (batch : List ℕ) (result : Result Placed LogFault) → ProducesOnce seen holding now batch old new result → (s : PartShardState)
        → Carries seen holding old s → (IsToAdd old.log.journal.end s batch → ⊥) → new.log ≡ old.log
    unadded batch (Ok placed) once s k none =
        let n = once.steps (λ e. let clash : ⊥ = cc in clash) s k in absurd (none (n.2.log.form, n.2.log.room))
    unadded batch (Err (Store Device)) once s k none =
        let n = once.steps (λ e. let clash : ⊥ = cc in clash) s k in absurd (none (n.2.log.1.form, n.2.log.1.room))
    unadded batch (Err (Store (Full at))) once s k none = once.refused (Store (Full at)) refl (λ e. let clash : ⊥ = cc in clash)
    unadded batch (Err (Batch fault)) once s k none = once.refused (Batch fault) refl (λ e. let clash : ⊥ = cc in clash)
    unadded batch (Err (Behind at)) once s k none = once.refused (Behind at) refl (λ e. let clash : ⊥ = cc in clash)
    unadded batch (Err log_memory) once s k none = once.refused log_memory refl (λ e. let clash : ⊥ = cc in clash)

    pub batch_found : (batch : List ℕ) (result : Result Placed LogFault) → ProducesOnce seen holding now batch old new result
        → FoundWithin seen holding now (asks.Produce batch) old new
    batch_found batch result once = record {
      log = λ s k. (once.any_moment s k, λ none. new_log old.log new.log (unadded batch result once s k none));
      states = new_states old.states new.states once.states;
    }

    pub delete_found : (to : ℤ) (answer : DeleteAnswer) → DeletesOnce seen holding now to old new answer
        → FoundWithin seen holding now (asks.Delete to) old new
    delete_found to answer once = record {
      log = λ s k.
          let is : log_in old.log ≡ log_at s.log = λ i. record { batches = sym k.log.batches i; start = sym k.log.start i } in (
            once.any_moment s k,
            λ none. new_log old.log new.log
                (once.unwritten (λ target to_delete room. none (target, subst (λ (l : Log). IsToDelete l to target) is to_delete, room))),
          );
      states = new_journals old.states new.states (same_journal answer old.states new.states once.states);
    }

    pub expiry_found : (result : Result ExpireAnswer NoMemory) → ExpiresOnce seen holding now old new result
        → FoundWithin seen holding now asks.Expire old new
    expiry_found result once = record {
      log = new_log old.log new.log once.log;
      states = λ due. new_states old.states new.states (ap (λ (p : PartParts D W). p.states) (once.nothing_due due).1);
    }

    pub offer_found : (group : List ℕ) → new ≡ old → FoundWithin seen holding now (asks.Offer group) old new
    offer_found group same = record {
      log = new_log old.log new.log (ap (λ (p : PartParts D W). p.log) same);
      states = new_states old.states new.states (ap (λ (p : PartParts D W). p.states) same);
    }

    pub look_found : (group : List ℕ) → new ≡ old → FoundWithin seen holding now (asks.Look group) old new
    look_found group same = record {
      log = new_log old.log new.log (ap (λ (p : PartParts D W). p.log) same);
      states = new_states old.states new.states (ap (λ (p : PartParts D W). p.states) same);
    }
