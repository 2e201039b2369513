-- From the journal's frames to the log.
use Rattle.std.proofs.lemmas.Bool.{cases_lt}
use Rattle.std.proofs.Common.{arith}
use Rattle.std.proofs.Common.{◌≡◌, ◌≢◌, ◌⊎◌, ◌↔◌, ◌+◌, ◌^◌, ◌<◌, ◌≤◌, inl, inr, ⊎_elim, refl, sym, subst, ap, ◌∙◌, ℕ, List, [], ◌∷◌, ◌++◌, length}
use Rattle.std.proofs.Common.{Option, Some, None, Result, Ok, Err}
use Rattle.share_model.specs.declared.fault.StoreFault.{StoreFault}
use Rattle.share_model.specs.declared.fault.StoreFault.TheVariants.{Device, Full}
use Rattle.share_model.specs.declared.fault.LogFault.{LogFault}
use Rattle.share_model.specs.declared.fault.LogFault.TheVariants.{Store}
use Rattle.std.specs.Prelude.{IfSome}
use Rattle.std.specs.Option.{option_map}
use Rattle.edge_io.specs.Moments.{LeavesOnly}
use Rattle.edge_io.proofs.Moments.{started, weakened}
use Rattle.gate_journal.specs.Frames.{StandsFor, IsWithPending, IsBeforeOrAfter}
use Rattle.gate_journal.specs.Journals.{Stands, IsAtRest}
use Rattle.gate_journal.proofs.Once.{once}
use Rattle.share_model.specs.Logs.{Batch, end_of}
use Rattle.part_log.specs.Starts.{Log, LogWrite, with_write}
use Rattle.part_log.specs.Starts.LogWrite.{Adds, Marks}
use Rattle.share_model.specs.Pending.{WithPending}
use Rattle.part_log.specs.Logs.{IsAdded, IsAllowed, IsLogText, IsRaised, IsStoredLog, IsUnwritten, IsWithin, Keeps, Lead, LogParts, MayFollow, MayStartAt}
use Rattle.part_log.specs.Logs.{and_pending, frame_of, frames_of, log_in, no_log}
use Rattle.part_log.proofs.Rising.{sound_none}
use Rattle.part_log.proofs.Writes.{frames_more, lead_more, lead_once, lead_sound, lead_start}
use Rattle.edge_io.specs.Views.{DiskView}

-- the frame of a write, if there is one
abbrev pub pending_frame : Option LogWrite → Option (List ℕ)
pending_frame pending = option_map frame_of pending

module _ (writes : List LogWrite) (log : Log) (leads : Lead no_log writes log) (c : List ℕ) where
  pub text : StandsFor c (frames_of writes) → IsLogText c log
  text h = record { writes = writes; frames = h; leads = leads }

  pub text_more : (w : LogWrite) → IsAllowed log w → StandsFor c (frames_of writes ++ frame_of w ∷ []) → IsLogText c (with_write log w)
  text_more w a h = record {
    writes = writes ++ w ∷ [];
    frames = subst (StandsFor c) (sym (frames_more writes w)) h;
    leads = lead_more no_log writes log w leads a;
  }

  pub with_pending : (pending : Option LogWrite) → IfSome pending (IsAllowed log) → IsWithPending (frames_of writes) (option_map frame_of pending) c
      → WithPending (IsLogText c) log (and_pending log pending)
  with_pending None f h = text h
  with_pending (Some p) f (inl h) = inl (text h)
  with_pending (Some p) f (inr h) = inr (text_more p f h)

  without : (pending : Option LogWrite) → IsLogText c log → WithPending (IsLogText c) log (and_pending log pending)
  without None h = h
  without (Some p) h = inl h

  pub within : (pending : Option LogWrite) (w : LogWrite) → IfSome pending (IsAllowed log) → IsAllowed log w
      → IsWithPending (frames_of writes) (option_map frame_of pending) c ⊎ IsBeforeOrAfter (frames_of writes) (frame_of w) c → IsWithin log pending w c
  within pending w f m (inl h) = inl (with_pending pending f h)
  within pending w f m (inr (inl h)) = inl (without pending (text h))
  within pending w f m (inr (inr h)) = inr (text_more w m h)

pub keeps_by : {D : Type 0} (seen : D → DiskView) (parts : LogParts D) (pending : Option LogWrite) (writes : List LogWrite) → Lead no_log writes (log_in parts)
    → IfSome pending (IsAllowed (log_in parts)) → Stands seen parts.journal (frames_of writes) (option_map frame_of pending) → Keeps seen parts pending
keeps_by seen parts pending writes leads follows stands = record {
  writes = writes;
  leads = leads;
  stands = stands;
  follows = follows;
  images = λ c on. with_pending writes (log_in parts) leads c pending follows (stands.images c on);
}

pub logs_once : (c : List ℕ) (log other : Log) → IsLogText c log → IsLogText c other → log ≡ other
logs_once c log other h k =
    lead_once no_log sound_none h.writes k.writes log other h.leads k.leads (once c (frames_of h.writes) (frames_of k.writes) h.frames k.frames)

-- a log that is kept is sound, and starts at its end at most
pub keeps_sound : {D : Type 0} (seen : D → DiskView) (parts : LogParts D) (pending : Option LogWrite) → Keeps seen parts pending → IsStoredLog parts.batches
keeps_sound seen parts pending k = lead_sound no_log k.writes (log_in parts) sound_none k.leads

pub keeps_start : {D : Type 0} (seen : D → DiskView) (parts : LogParts D) (pending : Option LogWrite) → Keeps seen parts pending → parts.start ≤ end_of parts.batches
keeps_start seen parts pending k = lead_start no_log k.writes (log_in parts) (omega arith) k.leads

-- ---- what a write leaves

module _ {D : Type 0} (seen : D → DiskView) (old new : LogParts D) where
  module _ (w : LogWrite) (follows : IsAllowed (log_in old) w) (is : log_in new ≡ with_write (log_in old) w) where
    written : ((frames : List (List ℕ)) (pending : Option (List ℕ)) → Stands seen old.journal frames pending → IsAtRest seen new.journal (frames ++ frame_of w ∷ []))
        → (pending : Option LogWrite) → Keeps seen old pending → Keeps seen new None
    written kept pending k = keeps_by seen new None (k.writes ++ w ∷ [])
        (subst (Lead no_log (k.writes ++ w ∷ [])) (sym is) (lead_more no_log k.writes (log_in old) w k.leads follows)) tt
        (subst (λ fs. Stands seen new.journal fs None) (sym (frames_more k.writes w)) (kept (frames_of k.writes) (pending_frame pending) k.stands).stands)

  pub added : (b : Batch) → MayFollow old.batches b → new.batches ≡ old.batches ++ b ∷ [] → new.start ≡ old.start
      → new.journal.end ≡ old.journal.end + (length b.bytes + 5)
      → ((frames : List (List ℕ)) (pending : Option (List ℕ)) → Stands seen old.journal frames pending → IsAtRest seen new.journal (frames ++ b.bytes ∷ []))
      → IsAdded seen old new b
  added b follows batches start end kept = record {
    batches = batches;
    start = start;
    end = end;
    follows = follows;
    kept = written (Adds b) follows (λ i. record { batches = batches i; start = start i }) kept;
  }

  pub raised : (start : ℕ) → MayStartAt (log_in old) start → new.batches ≡ old.batches → new.start ≡ start
      → new.journal.end ≡ old.journal.end + 13
      → ((frames : List (List ℕ)) (pending : Option (List ℕ)) → Stands seen old.journal frames pending
      → IsAtRest seen new.journal (frames ++ frame_of (Marks start) ∷ []))
      → IsRaised seen old new start
  raised start follows batches there end kept = record {
    batches = batches;
    start_is = there;
    end = end;
    follows = follows;
    kept = written (Marks start) follows (λ i. record { batches = batches i; start = there i }) kept;
  }

  module _ (w : LogWrite) (follows : IsAllowed (log_in old) w) (batches : new.batches ≡ old.batches) (start : new.start ≡ old.start) where
    same_log : log_in old ≡ log_in new
    same_log = λ i. record { batches = sym batches i; start = sym start i }

    there_still : (pending : Option LogWrite) (writes : List LogWrite) → Lead no_log writes (log_in old) → IfSome pending (IsAllowed (log_in old))
        → Stands seen new.journal (frames_of writes) (pending_frame pending) → Keeps seen new pending
    there_still pending writes leads f s = keeps_by seen new pending writes (subst (Lead no_log writes) same_log leads)
        (subst (λ (l : Log). IfSome pending (IsAllowed l)) same_log f) s

    pub unwritten : new.journal.end ≡ old.journal.end → ((frames : List (List ℕ)) (pending : Option (List ℕ)) → Stands seen old.journal frames pending
        → Stands seen new.journal frames pending ⊎ Stands seen new.journal frames (Some (frame_of w))) → IsUnwritten seen old new w
    unwritten end failed = record {
      batches = batches;
      start = start;
      end = end;
      follows = follows;
      kept = λ pending k.
          ⊎_elim (λ s. inl (there_still pending k.writes k.leads k.follows s)) (λ s. inr (there_still (Some w) k.writes k.leads follows s))
          (failed (frames_of k.writes) (pending_frame pending) k.stands);
    }

-- at each moment of a write
module _ {D : Type 0} (seen : D → DiskView)
    (only_now : (d : D) (c : List ℕ) → (seen d).since (seen d).moment c → (seen d).image c) (log : LogParts D) (w : LogWrite) (pending : Option LogWrite) (k : Keeps seen log pending) where
  pub unmoved : LeavesOnly seen log.journal.disk log.journal.disk (IsWithin (log_in log) pending w)
  unmoved = started seen log.journal.disk (IsWithin (log_in log) pending w) (λ c left. inl (k.images c (only_now log.journal.disk c left)))

  pub moved : (new : D) → IsAllowed (log_in log) w
      → LeavesOnly seen log.journal.disk new (λ c. IsWithPending (frames_of k.writes) (pending_frame pending) c ⊎ IsBeforeOrAfter (frames_of k.writes) (frame_of w) c)
      → LeavesOnly seen log.journal.disk new (IsWithin (log_in log) pending w)
  moved new follows run =
      weakened seen log.journal.disk new _ (IsWithin (log_in log) pending w) run (λ c h. within k.writes (log_in log) k.leads c pending w k.follows follows h)

-- ---- answers

store_of : {T : Type 0} → Result T LogFault → StoreFault
store_of (Err (Store f)) = f
store_of r = Device

pub store_is : {T : Type 0} (f h : StoreFault) → ◌≡◌ {A = Result T LogFault} (Err (Store f)) (Err (Store h)) → f ≡ h
unfolding store_of
store_is f h e = ap store_of e

fault_of : {T : Type 0} → Result T LogFault → LogFault
fault_of (Err f) = f
fault_of (Ok x) = Store Device

-- any other refusal than a device fault is that of a full journal
pub full_else : {T X : Type 0} (f : StoreFault) → ((end : ℕ) → f ≡ Full end → X) → (fault : LogFault) → ◌≡◌ {A = Result T LogFault} (Err (Store f)) (Err fault) → fault ≢ Store Device → X
unfolding fault_of
full_else Device full fault is other = absurd (other (sym (ap fault_of is)))
full_else (Full end) full fault is other = full end refl

pub has_room : (r : Result ℕ StoreFault) (e n : ℕ) → ((end : ℕ) → (r ≡ Err (Full end)) ↔ ((end ≡ e) × (2 ^ 62 < e + n))) → (e + n ≤ 2 ^ 62) ⊎ (r ≡ Err (Full e))
has_room r e n full = ⊎_elim (λ lt. inr ((full e).1 (refl, lt))) (λ le. inl le) (cases_lt (2 ^ 62) (e + n))

pub ok_room : (r : ℕ) (e n : ℕ) → ((end : ℕ) → (◌≡◌ {A = Result ℕ StoreFault} (Ok r) (Err (Full end))) ↔ ((end ≡ e) × (2 ^ 62 < e + n))) → e + n ≤ 2 ^ 62
ok_room r e n full = ⊎_elim (λ le. le) (λ is. absurd (let never : ⊥ = cc in never)) (has_room (Ok r) e n full)

err_of : Result ℕ StoreFault → StoreFault
err_of (Err f) = f
err_of (Ok n) = Device

pub fault_is : (f h : StoreFault) → ◌≡◌ {A = Result ℕ StoreFault} (Err f) (Err h) → f ≡ h
unfolding err_of
fault_is f h e = ap err_of e

-- what is told is the journal's fault
pub told_is : {T : Type 0} (f h : StoreFault) → ◌≡◌ {A = Result T StoreFault} (Err f) (Err h) → f ≡ h
told_is f h e = cc

-- a mark that is done was none for which there is no room
pub full_done : (done e j : ℕ) → e ≡ j → (n m : ℕ) → n ≡ m → ((end : ℕ) → (◌≡◌ {A = Result ℕ StoreFault} (Ok done) (Err (Full end))) ↔ ((end ≡ e) × (2 ^ 62 < e + n)))
    → (end : ℕ) → (◌≡◌ {A = Result (Unit {0}) StoreFault} (Ok tt) (Err (Full end))) ↔ ((end ≡ j) × (2 ^ 62 < j + m))
full_done done e j at n m size exact end = (
  λ is. absurd (let never : ⊥ = cc in never),
  λ full. absurd (let is = (exact e).1 (refl, omega (arith, full.1, at, size)) in let never : ⊥ = cc in never),
)

-- and one that failed was one exactly where the journal said so
pub full_failed : (fault : StoreFault) (e j : ℕ) → e ≡ j → (n m : ℕ) → n ≡ m → ((end : ℕ) → (◌≡◌ {A = Result ℕ StoreFault} (Err fault) (Err (Full end))) ↔ ((end ≡ e) × (2 ^ 62 < e + n)))
    → (end : ℕ) → (◌≡◌ {A = Result (Unit {0}) StoreFault} (Err fault) (Err (Full end))) ↔ ((end ≡ j) × (2 ^ 62 < j + m))
full_failed fault e j at n m size exact end = (
  λ is.
      let same : fault ≡ Full end = cc in
      let full = (exact end).0 (ap Err same) in
      (full.0 ∙ at, omega (arith, full.1, at, size)),
  λ full.
      let is = (exact end).1 (full.0 ∙ sym at, omega (arith, full.1, at, size)) in
      let same : fault ≡ Full end = cc in
      ap Err same,
)
