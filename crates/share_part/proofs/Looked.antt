-- Batches that were read from a log.
use Rattle.std.proofs.Common.{◌≡◌, ◌∙◌, refl, sym, ap, subst, List, true, false, Result, Ok, Err, IsErr}
use Rattle.edge_io.specs.Counting.{MakesUpTo}
use Rattle.edge_io.specs.Views.{DiskView}
use Rattle.edge_io.proofs.Moments.{joined}
use Rattle.edge_io.proofs.Runs.{clash}
use Rattle.gate_journal.specs.Reading.{LooksAt, ReadsOnly}
use Rattle.gate_journal.specs.declared.writer.Writer.{Writer}
use Rattle.gate_journal.proofs.Changes.{stays_then}
use Rattle.gate_journal.proofs.InPieces.{calls_as, calls_by, calls_none, calls_then, looks_none}
use Rattle.share_model.specs.declared.fault.BatchRead.{BatchRead}
use Rattle.share_model.specs.declared.fault.BatchRead.TheVariants.{Device, NoMemory}
use Rattle.part_log.specs.Logs.{LogParts, OnlyReads}
use Rattle.share_part.specs.Once.{ReadsBatches}

-- no batch was
module _ {D : Type 0} (seen : D → DiskView)
    (only_now : (d : D) (c : List _) → (seen d).since (seen d).moment c → (seen d).image c) where
  none_read : (log : LogParts D) → ReadsBatches seen ⊥ log log
  none_read log = record {
    reads = record {
      batches = refl;
      start = refl;
      journal = record { looks = (looks_none seen only_now log.journal.disk).looks; rest = refl; stands = λ frames pending s. s };
    };
    calls = calls_none seen log.journal.disk;
  }

  pub nothing_read : (log : LogParts D) → ReadsBatches seen (false ≡ true) log log
  nothing_read log =
      let r = none_read log in
      record { reads = r.reads; calls = calls_as seen log.journal.disk log.journal.disk ⊥ (false ≡ true) r.calls (λ f. absurd f) (λ e. clash (sym e)) }

  pub same_read : (old new : LogParts D) → new ≡ old → ReadsBatches seen (false ≡ true) old new
  same_read old new same = subst (ReadsBatches seen (false ≡ true) old) (sym same) (nothing_read old)

module _ {D : Type 0} (seen : D → DiskView) where
  looks_on : (a b d : D) → LooksAt seen a b → LooksAt seen b d → LooksAt seen a d
  looks_on a b d p q = record {
    stays = stays_then (seen a) (seen b) (seen d) p.stays q.stays;
    images = record { no_more = λ c now. p.images.no_more c (q.images.no_more c now); no_fewer = λ c was. q.images.no_fewer c (p.images.no_fewer c was) };
    moments = joined seen a b d (seen a).image (seen b).image (seen a).image p.moments q.moments (λ c x. x) (λ c x. p.images.no_more c x);
  }

  journal_on : (a b d : Writer D) → ReadsOnly seen a b → ReadsOnly seen b d → ReadsOnly seen a d
  journal_on a b d p q = record {
    looks = looks_on a.disk b.disk d.disk p.looks q.looks;
    rest = q.rest ∙ ap (λ (w : Writer D). record { disk = d.disk; end = w.end; count = w.count; mending = w.mending }) p.rest;
    stands = λ frames pending s. q.stands frames pending (p.stands frames pending s);
  }

  pub only_on : (old mid new : LogParts D) → OnlyReads seen old mid → OnlyReads seen mid new → OnlyReads seen old new
  only_on old mid new p q = record { batches = q.batches ∙ p.batches; start = q.start ∙ p.start; journal = journal_on old.journal mid.journal new.journal p.journal q.journal }

  -- one batch more
  pub reads_more : (old mid new : LogParts D) (failed : Type 0) → ReadsBatches seen ⊥ old mid → OnlyReads seen mid new
      → MakesUpTo seen 2 mid.journal.disk new.journal.disk failed → ReadsBatches seen failed old new
  reads_more old mid new failed p only makes = record {
    reads = only_on old mid new p.reads only;
    calls = calls_then seen old.journal.disk mid.journal.disk new.journal.disk failed p.calls
        (calls_by seen 2 mid.journal.disk new.journal.disk failed makes);
  }

  pub reads_as : (old new : LogParts D) (failed also : Type 0) → ReadsBatches seen failed old new → (failed → also) → (also → failed)
      → ReadsBatches seen also old new
  reads_as old new failed also r f g = record { reads = r.reads; calls = calls_as seen old.journal.disk new.journal.disk failed also r.calls f g }

  -- by the answer of a call
  none_failed : {T E : Type 0} (r : Result T E) → ((e : E) → r ≡ Err e → ⊥) → IsErr r → ⊥
  none_failed (Ok x) ok e = clash (sym e)
  none_failed (Err x) ok e = ok x refl

  pub read_all : {T E : Type 0} (old new : LogParts D) (r : Result T E) → ((e : E) → r ≡ Err e → ⊥) → ReadsBatches seen (IsErr r) old new
      → ReadsBatches seen (false ≡ true) old new
  read_all old new r ok reads = reads_as old new (IsErr r) (false ≡ true) reads (λ e. absurd (none_failed r ok e)) (λ e. absurd (clash (sym e)))

  pub read_not : {T E : Type 0} (old new : LogParts D) (r : Result T E) → IsErr r → ReadsBatches seen (IsErr r) old new
      → ReadsBatches seen (true ≡ true) old new
  read_not old new r failed reads = reads_as old new (IsErr r) (true ≡ true) reads (λ e. refl) (λ e. failed)

  -- one more that was read, or wasn't
  pub reads_next : (old mid new : LogParts D) (r : Result (Unit {0}) BatchRead) → ((e : BatchRead) → r ≡ Err e → ⊥) → ReadsBatches seen ⊥ old mid
      → OnlyReads seen mid new → MakesUpTo seen 2 mid.journal.disk new.journal.disk (r ≡ Err Device) → ReadsBatches seen ⊥ old new
  reads_next old mid new r ok p only makes =
      reads_as old new (r ≡ Err Device) ⊥ (reads_more old mid new (r ≡ Err Device) p only makes) (λ e. ok Device e) (λ e. absurd e)

  pub reads_last : (old mid new : LogParts D) (r : Result (Unit {0}) BatchRead) (fault : BatchRead) → r ≡ Err fault → fault ≡ Device
      → ReadsBatches seen ⊥ old mid → OnlyReads seen mid new → MakesUpTo seen 2 mid.journal.disk new.journal.disk (r ≡ Err Device)
      → ReadsBatches seen (true ≡ true) old new
  reads_last old mid new r fault is device p only makes = reads_as old new (r ≡ Err Device) (true ≡ true)
      (reads_more old mid new (r ≡ Err Device) p only makes) (λ f. refl) (λ f. is ∙ ap (λ (b : BatchRead). Err b) device)

pub device_only : (fault : BatchRead) → (fault ≡ NoMemory → ⊥) → fault ≡ Device
device_only Device not = refl
device_only NoMemory not = absurd (not refl)
