-- Writes one after another, and the log to which they lead.
use Rattle.std.proofs.Common.{◌≡◌, ◌^◌, ◌<◌, ◌≤◌, ℕ, List, [], ◌∷◌, ◌++◌, length, refl, sym, ap, subst, ◌∙◌, append_assoc, arith}
use Rattle.std.specs.Prelude.{Bool, true, cond, map, nat_lt}
use Rattle.std.specs.Int.{w64, from_be_bytes, to_be_bytes}
use Rattle.std.proofs.lemmas.Bool.{lt-ltb}
use Rattle.std.proofs.lemmas.List.{append-nil, map-append}
use Rattle.std.proofs.lemmas.Nat.{from_be_bytes-to_be_bytes_8}
use Rattle.share_model.specs.Logs.{Batch, end_of}
use Rattle.part_log.specs.Starts.{Log, LogWrite, with_write}
use Rattle.part_log.specs.Starts.LogWrite.{Adds, Marks}
use Rattle.gate_journal.specs.Frames.{StandsFor}
use Rattle.gate_journal.proofs.Once.{once}
use Rattle.part_log.specs.Batches.{IsStored, batch_in}
use Rattle.part_log.specs.Logs.{IsAllowed, IsLogText, IsStoredLog, Lead, batch_frames, frame_of, frames_of, last_mark, no_log}
use Rattle.part_log.proofs.Frames.{bounds, only_by}
use Rattle.part_log.proofs.Parts.{head_of, tail_of}
use Rattle.part_log.proofs.Rising.{end_bound, end_more, sound_more, sound_none}

-- ---- marks

pub mark_size : (n : ℕ) → length (to_be_bytes w64 n) ≡ 8
mark_size n = refl

pub mark_once : (m n : ℕ) → m < 2 ^ 64 → n < 2 ^ 64 → to_be_bytes w64 m ≡ to_be_bytes w64 n → m ≡ n
mark_once m n small other e = sym (from_be_bytes-to_be_bytes_8 m small) ∙ ap (from_be_bytes w64) e ∙ from_be_bytes-to_be_bytes_8 n other

-- a mark that a log may get is below 2^64
pub mark_small : (log : Log) → IsStoredLog log.batches → (n : ℕ) → n ≤ end_of log.batches → n < 2 ^ 64
mark_small log sound n le = omega (arith, le, end_bound log.batches sound.stored)

-- ---- one write

pub write_sound : (log : Log) (w : LogWrite) → IsStoredLog log.batches → IsAllowed log w → IsStoredLog (with_write log w).batches
write_sound log (Adds b) sound a = sound_more log.batches b sound a
write_sound log (Marks n) sound a = sound

pub write_start : (log : Log) (w : LogWrite) → log.start ≤ end_of log.batches → IsAllowed log w → (with_write log w).start ≤ end_of (with_write log w).batches
write_start log (Adds b) le a = omega (arith, le, a.behind, (bounds b a.stored).order, end_more log.batches b)
write_start log (Marks n) le a = a.within

-- a write is told by its frame
pub write_once : (log : Log) → IsStoredLog log.batches → (w v : LogWrite) → IsAllowed log w → IsAllowed log v → frame_of w ≡ frame_of v → w ≡ v
write_once log sound (Adds b) (Adds c) a d e = ap Adds (only_by b a.stored ∙ ap batch_in e ∙ sym (only_by c d.stored))
write_once log sound (Adds b) (Marks n) a d e = let size : length b.bytes ≡ 8 = ap length e in absurd (omega (arith, (bounds b a.stored).header, size))
write_once log sound (Marks m) (Adds c) a d e = let size : 8 ≡ length c.bytes = ap length e in absurd (omega (arith, (bounds c d.stored).header, size))
write_once log sound (Marks m) (Marks n) a d e = ap Marks (mark_once m n (mark_small log sound m a.within) (mark_small log sound n d.within) e)

-- ---- many

pub frames_more : (writes : List LogWrite) (w : LogWrite) → frames_of (writes ++ w ∷ []) ≡ frames_of writes ++ frame_of w ∷ []
frames_more writes w = map-append frame_of writes (w ∷ [])

pub lead_more : (log : Log) (writes : List LogWrite) (last : Log) (w : LogWrite) → Lead log writes last → IsAllowed last w → Lead log (writes ++ w ∷ []) (with_write last w)
lead_more log [] last w h a = (subst (λ (l : Log). IsAllowed l w) h a, ap (λ (l : Log). with_write l w) h)
lead_more log (v ∷ writes) last w h a = (h.0, lead_more (with_write log v) writes last w h.1 a)

pub lead_sound : (log : Log) (writes : List LogWrite) (last : Log) → IsStoredLog log.batches → Lead log writes last → IsStoredLog last.batches
lead_sound log [] last sound h = subst (λ (l : Log). IsStoredLog l.batches) (sym h) sound
lead_sound log (w ∷ writes) last sound h = lead_sound (with_write log w) writes last (write_sound log w sound h.0) h.1

pub lead_start : (log : Log) (writes : List LogWrite) (last : Log) → log.start ≤ end_of log.batches → Lead log writes last → last.start ≤ end_of last.batches
lead_start log [] last le h = subst (λ (l : Log). l.start ≤ end_of l.batches) (sym h) le
lead_start log (w ∷ writes) last le h = lead_start (with_write log w) writes last (write_start log w le h.0) h.1

-- the same frames lead to the same log
pub lead_once : (log : Log) → IsStoredLog log.batches → (ws vs : List LogWrite) (a b : Log) → Lead log ws a → Lead log vs b → frames_of ws ≡ frames_of vs → a ≡ b
unfolding head_of tail_of
lead_once log sound [] [] a b h k e = h ∙ sym k
lead_once log sound [] (v ∷ vs) a b h k e = absurd (omega (arith, ap length e))
lead_once log sound (w ∷ ws) [] a b h k e = absurd (omega (arith, ap length e))
lead_once log sound (w ∷ ws) (v ∷ vs) a b h k e =
    let same : w ≡ v = write_once log sound w v h.0 k.0 (ap (head_of (frame_of w)) e) in
    lead_once (with_write log w) (write_sound log w sound h.0) ws vs a b h.1
    (subst (λ (x : LogWrite). Lead (with_write log x) vs b) (sym same) k.1) (ap tail_of e)

-- what comes before one of them leads to a log to which it may be written
pub lead_parts : (log : Log) (front : List LogWrite) (w : LogWrite) (back : List LogWrite) (last : Log) → Lead log (front ++ (w ∷ back)) last
    → (mid : Log) × Lead log front mid × IsAllowed mid w
lead_parts log [] w back last h = (log, refl, h.0)
lead_parts log (v ∷ front) w back last h = let r = lead_parts (with_write log v) front w back last h.1 in (r.0, (h.0, r.1), r.2)

-- ---- in other words

abbrev is_long : List ℕ → Bool
is_long frame = nat_lt 8 (length frame)

long_batch : (b : Batch) → IsStored b → is_long b.bytes ≡ true
long_batch b stored = lt-ltb 8 (length b.bytes) (omega (arith, (bounds b stored).header))

pub lead_batches : (log : Log) (writes : List LogWrite) (last : Log) → Lead log writes last → last.batches ≡ log.batches ++ map batch_in (batch_frames (frames_of writes))
lead_batches log [] last h = ap (λ (l : Log). l.batches) h ∙ sym (append-nil log.batches)
lead_batches log (Adds b ∷ writes) last h =
    lead_batches (with_write log (Adds b)) writes last h.1
    ∙ append_assoc log.batches (b ∷ []) (map batch_in (batch_frames (frames_of writes)))
    ∙ ap (λ (c : Batch). log.batches ++ (c ∷ map batch_in (batch_frames (frames_of writes)))) (only_by b h.0.stored)
    ∙ ap (λ (t : Bool). log.batches ++ map batch_in (cond t (b.bytes ∷ batch_frames (frames_of writes)) (batch_frames (frames_of writes)))) (sym (long_batch b h.0.stored))
lead_batches log (Marks n ∷ writes) last h = lead_batches (with_write log (Marks n)) writes last h.1

pub lead_last : (log : Log) (writes : List LogWrite) (last : Log) → IsStoredLog log.batches → Lead log writes last → last.start ≡ last_mark log.start (frames_of writes)
lead_last log [] last sound h = ap (λ (l : Log). l.start) h
lead_last log (Adds b ∷ writes) last sound h =
    lead_last (with_write log (Adds b)) writes last (write_sound log (Adds b) sound h.0) h.1
    ∙ ap (λ (t : Bool). last_mark (cond t log.start (from_be_bytes w64 b.bytes)) (frames_of writes)) (sym (long_batch b h.0.stored))
lead_last log (Marks n ∷ writes) last sound h =
    lead_last (with_write log (Marks n)) writes last sound h.1
    ∙ ap (λ (m : ℕ). last_mark m (frames_of writes)) (sym (from_be_bytes-to_be_bytes_8 n (mark_small log sound n h.0.within)))

module _ (c : List ℕ) (log : Log) (text : IsLogText c log) where
  pub text_batches : (frames : List (List ℕ)) → StandsFor c frames → log.batches ≡ map batch_in (batch_frames frames)
  text_batches frames stands = lead_batches no_log text.writes log text.leads
      ∙ ap (λ (fs : List (List ℕ)). map batch_in (batch_frames fs)) (once c (frames_of text.writes) frames text.frames stands)

  pub text_start : (frames : List (List ℕ)) → StandsFor c frames → log.start ≡ last_mark 0 frames
  text_start frames stands = lead_last no_log text.writes log sound_none text.leads
      ∙ ap (λ (fs : List (List ℕ)). last_mark 0 fs) (once c (frames_of text.writes) frames text.frames stands)

  pub text_is_sound : IsStoredLog log.batches
  text_is_sound = lead_sound no_log text.writes log sound_none text.leads

  pub text_within : log.start ≤ end_of log.batches
  text_within = lead_start no_log text.writes log (omega arith) text.leads
