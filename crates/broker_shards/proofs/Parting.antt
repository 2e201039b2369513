-- Calls on a partition as acts.
use Rattle.std.proofs.Common.{◌≡◌, ◌≢◌, ◌≤◌, arith, refl, sym, ap, ◌∙◌, subst, ℕ, ℤ, List, Bool, true, false, Result, Err}
use Rattle.std.specs.List.{AllByRecursion}
use Rattle.edge_io.specs.Armed.{RunsOn}
use Rattle.edge_io.specs.Disk.{IsTold}
use Rattle.edge_io.specs.Views.{DiskView}
use Rattle.edge_io.proofs.Runs.{runs_none}
use Rattle.flex_fields.specs.declared.fault.NoMemory.{NoMemory as want}
use Rattle.share_model.specs.ForeignRules.{share_state_at}
use Rattle.share_model.specs.Held.{Held}
use Rattle.share_model.specs.declared.delete.DeleteAnswer.{DeleteAnswer}
use Rattle.share_model.specs.declared.delete.DeleteAnswer.TheVariants.{Store as Unraised}
use Rattle.share_model.specs.declared.delete.Placed.{Placed}
use Rattle.share_model.specs.declared.fault.LogFault.{LogFault}
use Rattle.share_model.specs.declared.fault.LogFault.TheVariants.{Store, NoMemory}
use Rattle.share_model.specs.declared.fault.StoreFault.TheVariants.{Device}
use Rattle.share_model.specs.declared.offer.Offer.{Offer}
use Rattle.share_model.specs.declared.visit.ExpireAnswer.{ExpireAnswer}
use Rattle.share_model.specs.declared.visit.Then.{Then}
use Rattle.share_model.specs.declared.visit.Then.TheVariants.{Nothing, Release, Fetch}
use Rattle.share_model.specs.declared.visit.Visit.{Visit}
use Rattle.share_model.specs.declared.visit.VisitAnswer.{VisitAnswer}
use Rattle.gate_journal.specs.declared.writer.Writer.{Writer}
use Rattle.part_log.specs.Logs.{LogParts, OnlyReads}
use Rattle.part_log.specs.Shards.{CarriesLog, log_at}
use Rattle.coord_checkpoint.specs.Stores.{StoreParts as JournalParts}
use Rattle.share_coord.specs.Parts.{StoreParts}
use Rattle.share_coord.specs.Unwritten.{AreLevel}
use Rattle.share_coord.specs.Holding.{Holds}
use Rattle.share_coord.specs.States.{states_of}
use Rattle.share_part.specs.Deleting.{Deleted, IsTellableDelete}
use Rattle.share_part.specs.Failures.{RunOnBoth}
use Rattle.share_part.specs.Following.{IsFetch}
use Rattle.share_part.specs.Hosting.{PartConfParts, AreHosted, key_of}
use Rattle.share_part.specs.Offering.{offer_of}
use Rattle.share_part.specs.Once.{Expired, Produced as ProducedSo, ReadsBatches, Visited}
use Rattle.share_part.specs.Shards.{Carries, IsPendingHosted, IsUntouched, PartParts, PartShardState, held_in}
use Rattle.share_part.specs.Walks.{IsSmallGrant}
use Rattle.call_fold.specs.Parts.{HasTellableBase, IsTellableLook}
use Rattle.call_fold.specs.declared.part.Looked.{Looked}
use Rattle.call_fold.specs.declared.part.Produced.{Produced}
use Rattle.broker_model.specs.Shards.{look_at, reads_log, result_of}
use Rattle.broker_model.specs.Shards.PartCall.{Visits, Produces, Looks, Expires, Deletes}
use Rattle.broker_model.proofs.Quiets.{steps_batch, steps_delete, steps_still, steps_visit}
use Rattle.broker_shards.specs.Acts.{ActsOnPart, Answers, FindsNoMemory, GoesOnPart, LeavesUnused}
use Rattle.broker_shards.specs.Acts.PartDeed.{Calls, Offers}
use Rattle.broker_shards.specs.Crashes.{FoundWithin}
use Rattle.broker_shards.specs.declared.part.PartAsk.{PartAsk}
use Rattle.broker_shards.specs.declared.part.PartTold.{PartTold}
use Rattle.broker_shards.specs.declared.part.PartAsk.TheVariants as asks
use Rattle.broker_shards.specs.declared.part.PartTold.TheVariants as tells
use Rattle.broker_shards.proofs.Telling.{grants_told, not_memory, start_told}

module _ {D W : Type 0} (seen : D → DiskView) (holding : W → Held) (old new : PartParts D W) where
  -- ---- what goes on

  pub states_go : (conf : new.conf ≡ old.conf) (log : RunsOn seen old.log.journal.disk new.log.journal.disk)
      (log_end : new.log.journal.end ≡ old.log.journal.end)
      (states : RunOnBoth seen old.states new.states) → GoesOnPart seen holding old new
  states_go conf log log_end states = record {
    conf = conf;
    log = log;
    first = states.0;
    second = states.1;
    ends = λ s k. record { log = omega (arith, log_end) };
  }

  -- where the log stays
  pub still_runs : new.log ≡ old.log → RunsOn seen old.log.journal.disk new.log.journal.disk
  still_runs log = subst (λ (l : LogParts D). RunsOn seen old.log.journal.disk l.journal.disk) (sym log) (runs_none seen old.log.journal.disk)

  pub still_ends : new.log ≡ old.log → new.log.journal.end ≡ old.log.journal.end
  still_ends log = ap (λ (l : LogParts D). l.journal.end) log

  -- where it was read
  pub read_ends : OnlyReads seen old.log new.log → new.log.journal.end ≡ old.log.journal.end
  read_ends only = ap (λ (w : Writer D). w.end) only.journal.rest

  pub log_goes : (conf : new.conf ≡ old.conf) (log : RunsOn seen old.log.journal.disk new.log.journal.disk) (states : new.states.journal ≡ old.states.journal)
      (ends : (s : PartShardState) → Carries seen holding old s → old.log.journal.end ≤ new.log.journal.end)
      → GoesOnPart seen holding old new
  log_goes conf log states ends = record {
    conf = conf;
    log = log;
    first = subst (λ (j : JournalParts D). RunsOn seen old.states.journal.first.disk j.first.disk) (sym states)
        (runs_none seen old.states.journal.first.disk);
    second = subst (λ (j : JournalParts D). RunsOn seen old.states.journal.second.disk j.second.disk) (sym states)
        (runs_none seen old.states.journal.second.disk);
    ends = λ s k. record { log = ends s k };
  }

  -- ---- what is answered

  pub visited : (now : ℕ) (visit : Visit) (answer : VisitAnswer) (unread : Bool) → ReadsBatches seen (unread ≡ true) old.log new.log
      → Visited seen holding now visit old new unread answer
      → AllByRecursion IsSmallGrant answer.grants → Answers seen holding now (asks.Visit visit) (tells.Visit answer) old new
  visited now visit answer unread reads steps small = record {
    did = Calls (Visits visit answer unread);
    asks = refl;
    tells = refl;
    tellable = record { grants = grants_told answer.grants small };
    steps = λ s k. let r = steps s k in (r.0, r.1, steps_visit seen old new old.conf now s r.0 visit answer unread reads r.2);
  }

  pub expired : (now : ℕ) (answer : ExpireAnswer) → new.log ≡ old.log → Expired seen holding now old new answer
      → Answers seen holding now asks.Expire (tells.Expire answer) old new
  expired now answer log steps = record {
    did = Calls (Expires answer);
    asks = refl;
    tells = refl;
    tellable = tt;
    steps = λ s k. let r = steps s k in (r.0, r.1, steps_still seen old new old.conf now s r.0 (Expires answer) log r.2);
  }

  -- where no device fault is told, no call of the log's disk failed
  abbrev Quiet : Result Placed LogFault → Type 0
  Quiet result = result ≢ Err (Store Device) → IsTold (seen old.log.journal.disk).content
      → (seen new.log.journal.disk).faults ≡ (seen old.log.journal.disk).faults

  pub added : (now : ℕ) (batch : List ℕ) (result : Result Placed LogFault) (produced : Produced) → result_of produced ≡ result → HasTellableBase produced
      → Quiet result → (result ≢ Err NoMemory → ProducedSo seen holding now batch old new result)
      → Answers seen holding now (asks.Produce batch) (tells.Produce produced) old new
  added now batch result produced is fair quiet steps = record {
    did = Calls (Produces batch produced);
    asks = refl;
    tells = refl;
    tellable = fair;
    steps = λ s k.
        let r = subst (λ (x : Result Placed LogFault). ProducedSo seen holding now batch old new x) (sym is) (steps (not_memory produced result is)) s k in
        (r.0, r.1, steps_batch seen old new old.conf now s r.0 batch produced (subst Quiet (sym is) quiet) r.2);
  }

  -- the same of a delete
  abbrev QuietDelete : DeleteAnswer → Type 0
  QuietDelete answer = answer ≢ Unraised Device → IsTold (seen old.log.journal.disk).content
      → (seen new.log.journal.disk).faults ≡ (seen old.log.journal.disk).faults

  pub deleted : (now : ℕ) (to : ℤ) (answer : DeleteAnswer) → IsTellableDelete answer → QuietDelete answer
      → Deleted seen holding now to old new answer → Answers seen holding now (asks.Delete to) (tells.Delete answer) old new
  deleted now to answer below quiet steps = record {
    did = Calls (Deletes to answer);
    asks = refl;
    tells = refl;
    tellable = start_told answer below;
    steps = λ s k. let r = steps s k in (r.0, r.1, steps_delete seen old new old.conf now s r.0 to answer quiet r.2);
  }

  -- ---- what isn't used

  not_fetch : (asked : Then) → reads_log asked ≡ false → IsFetch asked → ⊥
  not_fetch Nothing reads fetch = fetch
  not_fetch Release reads fetch = fetch
  not_fetch (Fetch records bytes first) reads fetch = let bad : true ≡ false = reads in cc

  pub visit_unused : (visit : Visit) → ((IsFetch visit.then → ⊥) → new.log ≡ old.log) → OnlyReads seen old.log new.log
      → LeavesUnused (asks.Visit visit) old new
  visit_unused visit others reads = (λ no. others (not_fetch visit.then no), read_ends reads)

  -- ---- want of memory

  -- where nothing of it has changed, it carries what it carried
  pub visit_refused : IsUntouched holding old new → FindsNoMemory seen holding old new
  visit_refused same s k = record {
    log = subst (λ (l : LogParts D). CarriesLog seen l s.log) (sym same.log) k.log;
    pending = k.pending;
    holds = subst (λ (t : StoreParts D). Holds seen t k.pending) (sym same.states) k.holds;
    states = k.states ∙ ap (λ (t : StoreParts D). states_of t.entries) (sym same.states);
    pending_is = k.pending_is;
    held = λ group. k.held group ∙ sym (same.held group);
    clock = k.clock ∙ sym same.clock;
    hosted = subst (λ (p : PartConfParts). AreHosted p (log_at s.log) s.states) (sym same.conf) k.hosted;
    pending_hosted = subst (λ (p : PartConfParts). IsPendingHosted p (log_at s.log) s.pending) (sym same.conf) k.pending_hosted;
    level = subst (λ (t : StoreParts D). AreLevel s.log.start t.entries) (sym same.states) k.level;
    pending_level = k.pending_level;
  }

  pub call_refused : new ≡ old → FindsNoMemory seen holding old new
  call_refused same s k = subst (λ (p : PartParts D W). Carries seen holding p s) (sym same) k

-- ---- looks and offers

module _ {D W : Type 0} (seen : D → DiskView) (holding : W → Held) (part : PartParts D W) where
  pub look_told : (group : List ℕ) (looked : Looked) → looked ≡ look_at (share_state_at (states_of part.states.entries) (key_of part.conf group))
      → IsTellableLook looked → (now : ℕ) → Answers seen holding now (asks.Look group) (tells.Look looked) part part
  look_told group looked told fair now = record {
    did = Calls (Looks group looked);
    asks = refl;
    tells = refl;
    tellable = fair;
    steps = λ s k. (
      s,
      k,
      steps_still seen part part part.conf now s s (Looks group looked) refl
          (told ∙ ap (λ states. look_at (share_state_at states (key_of part.conf group))) (sym k.states), refl),
    );
  }

  pub offer_told : (group : List ℕ) (offer : Offer)
      → offer ≡ offer_of part.log.batches (held_in holding part.windows group) (share_state_at (states_of part.states.entries) (key_of part.conf group))
      → (now : ℕ) → Answers seen holding now (asks.Offer group) (tells.Offer offer) part part
  offer_told group offer told now = record {
    did = Offers group offer;
    asks = refl;
    tells = refl;
    tellable = tt;
    steps = λ s k. (
      s,
      k,
      (told ∙ (λ i. offer_of (sym k.log.batches i) (sym (k.held group) i) (share_state_at (sym k.states i) (key_of part.conf group))), refl, refl),
    );
  }

  pub look_goes : GoesOnPart seen holding part part
  look_goes = record {
    conf = refl;
    log = runs_none seen part.log.journal.disk;
    first = runs_none seen part.states.journal.first.disk;
    second = runs_none seen part.states.journal.second.disk;
    ends = λ s k. record { log = omega arith };
  }

-- ---- an act

-- what is asked so, one way and another
pub acted : {D W : Type 0} (seen : D → DiskView) (holding : W → Held) (now : ℕ) (asked ask : PartAsk) (result : Result PartTold want) (old new : PartParts D W)
    → ask ≡ asked → ActsOnPart seen holding now asked old result new → ActsOnPart seen holding now ask old result new
acted seen holding now asked ask result old new is acts = subst (λ (a : PartAsk). ActsOnPart seen holding now a old result new) (sym is) acts

pub found : {D W : Type 0} (seen : D → DiskView) (holding : W → Held) (now : ℕ) (asked ask : PartAsk) (old new : PartParts D W)
    → ask ≡ asked → FoundWithin seen holding now asked old new → FoundWithin seen holding now ask old new
found seen holding now asked ask old new is within = subst (λ (a : PartAsk). FoundWithin seen holding now a old new) (sym is) within

pub left : {D W : Type 0} (asked ask : PartAsk) (old new : PartParts D W) → ask ≡ asked → LeavesUnused asked old new → LeavesUnused ask old new
left asked ask old new is unused = subst (λ (a : PartAsk). LeavesUnused a old new) (sym is) unused
