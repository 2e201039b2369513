-- A call that adds a batch: where it wrote, and where it refused before.
use Rattle.std.proofs.Common.{◌≡◌, ◌≢◌, ◌⊎◌, inl, inr, ℕ, ◌+◌, ◌^◌, ◌<◌, ◌≤◌, List, length, refl, sym, ◌∙◌, arith, Option}
use Rattle.std.specs.Prelude.{Result, Err, IfOk, OnOk}
use Rattle.edge_io.specs.Armed.{StarvesUnarmed}
use Rattle.edge_io.specs.Causes.{Rose}
use Rattle.edge_io.specs.Moments.{LeavesOnly}
use Rattle.gate_journal.specs.Journals.{IsQuiet}
use Rattle.share_model.specs.Logs.{Batch, end_of}
use Rattle.part_log.specs.Starts.{LogWrite}
use Rattle.part_log.specs.Starts.LogWrite.{Adds}
use Rattle.share_model.specs.declared.fault.BatchFault.{BatchFault}
use Rattle.share_model.specs.declared.fault.LogFault.{LogFault}
use Rattle.share_model.specs.declared.fault.LogFault.TheVariants.{Batch as no_batch, Behind, NoMemory, Store}
use Rattle.share_model.specs.declared.fault.StoreFault.TheVariants.{Device, Full}
use Rattle.part_log.specs.Logs.{AddsOnce, HasRoomFor, IsAdded, IsUnwritten, IsWithin, Keeps, LogParts, log_in}
use Rattle.part_log.proofs.Keeping.{unmoved}
use Rattle.part_log.proofs.Refusing.{full_is, ok_has_room, device_has_room, ok_both}
use Rattle.edge_io.specs.Views.{DiskView}

module _ {D : Type 0} (seen : D → DiskView) where
  -- refused before anything was written
  module _ (only_now : (d : D) (c : List ℕ) → (seen d).since (seen d).moment c → (seen d).image c) (log : LogParts D) (b : Batch) where
    pub bad : (fault : BatchFault) → AddsOnce seen log log b (Err (no_batch fault))
    bad fault = record {
      ok = tt;
      quiet = tt;
      device = λ is. absurd (let never : ⊥ = cc in never);
      full = λ end is. absurd (let never : ⊥ = cc in never);
      unchanged = λ f is other. refl;
      any_moment = unmoved seen only_now log (Adds b);
    }

    pub behind : (end : ℕ) → AddsOnce seen log log b (Err (Behind end))
    behind end = record {
      ok = tt;
      quiet = tt;
      device = λ is. absurd (let never : ⊥ = cc in never);
      full = λ end is. absurd (let never : ⊥ = cc in never);
      unchanged = λ f is other. refl;
      any_moment = unmoved seen only_now log (Adds b);
    }

    pub hungry : AddsOnce seen log log b (Err NoMemory)
    hungry = record {
      ok = tt;
      quiet = tt;
      device = λ is. absurd (let never : ⊥ = cc in never);
      full = λ end is. absurd (let never : ⊥ = cc in never);
      unchanged = λ f is other. refl;
      any_moment = unmoved seen only_now log (Adds b);
    }

    pub past : (end : ℕ) → end ≡ end_of log.batches → 2 ^ 62 ≤ b.last → AddsOnce seen log log b (Err (Store (Full end)))
    past end at last = record {
      ok = tt;
      quiet = tt;
      device = λ is. absurd (let never : ⊥ = cc in never);
      full = λ e is. inl (last, sym (full_is end e is) ∙ at);
      unchanged = λ f is other. refl;
      any_moment = unmoved seen only_now log (Adds b);
    }

  -- written, or refused by the journal
  pub adds : (old new : LogParts D) (b : Batch) (n base : ℕ) (result : Result ℕ LogFault) → b.last < 2 ^ 62 → n ≡ length b.bytes + 5 → base ≡ b.base
      → OnOk result (IsAdded seen old new b) → OnOk result (IsQuiet seen old.journal.disk new.journal.disk) → IfOk result (λ m. m ≡ base)
      → (result ≡ Err (Store Device) → IsUnwritten seen old new (Adds b) × Rose (seen old.journal.disk).faults (seen new.journal.disk).faults
      × StarvesUnarmed seen old.journal.disk new.journal.disk)
      → ((fault : LogFault) → result ≡ Err fault → fault ≢ Store Device → new ≡ old)
      → ((end : ℕ) → result ≡ Err (Store (Full end)) → (2 ^ 62 < old.journal.end + n) × (end ≡ old.journal.end))
      → ((result ≡ Err NoMemory) ⊎ ((old.journal.end + n ≤ 2 ^ 62) ⊎ (result ≡ Err (Store (Full old.journal.end)))))
      → ((pending : Option LogWrite) → Keeps seen old pending → LeavesOnly seen old.journal.disk new.journal.disk (IsWithin (log_in old) pending (Adds b)))
      → AddsOnce seen old new b result
  adds old new b n base result below size at ok quiet is_base device unchanged full room moments =
      let fits : old.journal.end + n ≤ 2 ^ 62 → HasRoomFor old b = λ le. record { offsets = below; journal = omega (arith, le, size) } in
      record {
        ok = ok_both result (old.journal.end + n ≤ 2 ^ 62) (λ m. (m ≡ b.base) × IsAdded seen old new b) (λ m. (m ≡ b.base) × IsAdded seen old new b × HasRoomFor old b)
            (ok_has_room old.journal.end n result room)
            (ok_both result (IsAdded seen old new b) (λ m. m ≡ base) (λ m. (m ≡ b.base) × IsAdded seen old new b) ok is_base (λ m added is. (is ∙ at, added)))
            (λ m le h. (h.0, h.1, fits le));
        quiet = quiet;
        device = λ is. let said = device is in (said.0, fits (device_has_room old.journal.end n result is room), said.1, said.2);
        full = λ end is. let said = full end is in inr (below, omega (arith, said.0, size), said.1);
        unchanged = unchanged;
        any_moment = moments;
      }
