-- A text is read as batches that may stand behind a log in one way; so a segment is loaded, unless a stream, the disk or memory fails.
use Rattle.std.proofs.Common.{◌≡◌, ◌+◌, ◌≤◌, ◌⊎◌, inl, inr, ℕ, List, [], ◌∷◌, ◌++◌, Option, Some, None, IfSome, length, take, drop, refl, sym, ap, subst, ◌∙◌, arith}
use Rattle.std.proofs.Common.{length-append, append-nil, append_assoc}
use Rattle.std.proofs.Math.Seq.{take-append_seam, drop-append_seam}
use Rattle.std.specs.List.{AllByRecursion}
use Rattle.edge_io.specs.Causes.{Rose}
use Rattle.session_script.specs.Script.{longest}
use Rattle.share_model.specs.Logs.{Batch, RisesFrom, end_of}
use Rattle.part_log.specs.Batches.{IsStored, batch_in}
use Rattle.part_log.specs.Logs.{IsLogText, IsStoredLog, MayFollow}
use Rattle.part_log.specs.Starts.{Log}
use Rattle.part_log.proofs.Frames.{bounds, only_by}
use Rattle.part_log.proofs.FrameReads.{text_sound}
use Rattle.part_log.proofs.Keeping.{logs_once}
use Rattle.share_top.specs.declared.status.Status.{Status}
use Rattle.share_top.specs.declared.status.Status.TheVariants.{Done, Usage, Malformed, ReadFault, WriteFault, Damaged, Device, NoMemory, Listener, Spawner, Lost, Refused, Strange}
use Rattle.share_top.specs.Changes.{BayChange, InputChange, OutputChange}
use Rattle.share_top.specs.Segments.{IsSegment, IsRefused, HasNoBatch, HasOneReading, segment_of}
use Rattle.share_top.specs.Loading.{IsLoad}
use Rattle.share_top.proofs.LoadSteps.{sized}
use Rattle.share_top.proofs.SegmentReads.{front_size, same_size}
use Rattle.share_top.proofs.LoadRuns.{some_then}

-- ---- a log and batches behind it

stored_at : (front : List Batch) (b : Batch) (back : List Batch) → AllByRecursion IsStored (front ++ (b ∷ back)) → IsStored b
stored_at [] b back h = h.0
stored_at (c ∷ front) b back h = stored_at front b back h.1

rises_at : (e : ℕ) (front : List Batch) (b : Batch) (back : List Batch) → RisesFrom e (front ++ (b ∷ back)) → end_of front ≤ b.base
rises_at e [] b back h = omega arith
rises_at e (c ∷ []) b back h = h.2.0
rises_at e (c ∷ d ∷ front) b back h = rises_at (c.last + 1) (d ∷ front) b back h.2

follows_at : (log : List Batch) (b : Batch) (batches : List Batch) → IsStoredLog (log ++ (b ∷ batches)) → MayFollow log b
follows_at log b batches h = record { stored = stored_at log b batches h.stored; behind = rises_at 0 log b batches h.rises }

-- ---- one batch at the front

same_front : (a b : Batch) (x y : List ℕ) → IsStored a → IsStored b → a.bytes ++ x ≡ b.bytes ++ y → (a ≡ b) × (x ≡ y)
same_front a b x y s t e =
    let text = a.bytes ++ x in
    let size : length a.bytes ≡ length b.bytes = same_size text (length a.bytes) (length b.bytes) (front_size a.bytes x text (sized a s) refl) (front_size b.bytes y text (sized b t) e) in
    let bytes : a.bytes ≡ b.bytes = sym (take-append_seam a.bytes x) ∙ ap (take (length a.bytes)) e ∙ ap (λ (n : ℕ). take n (b.bytes ++ y)) size ∙ take-append_seam b.bytes y in
    let rest : x ≡ y = sym (drop-append_seam a.bytes x) ∙ ap (drop (length a.bytes)) e ∙ ap (λ (n : ℕ). drop n (b.bytes ++ y)) size ∙ drop-append_seam b.bytes y in
    (only_by a s ∙ ap batch_in bytes ∙ sym (only_by b t), rest)

-- from a place on
read_from : (log : List Batch) (place : ℕ) (batches others : List Batch) (rest left : List ℕ) → IsStoredLog (log ++ batches) → IsStoredLog (log ++ others)
    → place + length (segment_of batches) ≤ longest → place + length (segment_of others) ≤ longest
    → HasNoBatch (place + length (segment_of batches)) (log ++ batches) rest → HasNoBatch (place + length (segment_of others)) (log ++ others) left
    → segment_of batches ++ rest ≡ segment_of others ++ left → (batches ≡ others) × (rest ≡ left)
read_from log place [] [] rest left p q w v m n e = (refl, e)
read_from log place [] (b ∷ others) rest left p q w v m n e =
    let f = subst (λ (l : List Batch). MayFollow l b) (sym (append-nil log)) (follows_at log b others q) in
    let far = m b (segment_of others ++ left) f (e ∙ append_assoc b.bytes (segment_of others) left) in
    let size = length-append b.bytes (segment_of others) in
    absurd (omega (arith, far, size, v))
read_from log place (a ∷ batches) [] rest left p q w v m n e =
    let f = subst (λ (l : List Batch). MayFollow l a) (sym (append-nil log)) (follows_at log a batches p) in
    let far = n a (segment_of batches ++ rest) f (sym e ∙ append_assoc a.bytes (segment_of batches) rest) in
    let size = length-append a.bytes (segment_of batches) in
    absurd (omega (arith, far, size, w))
read_from log place (a ∷ batches) (b ∷ others) rest left p q w v m n e =
    let s = same_front a b (segment_of batches ++ rest) (segment_of others ++ left) (follows_at log a batches p).stored (follows_at log b others q).stored
    (sym (append_assoc a.bytes (segment_of batches) rest) ∙ e ∙ append_assoc b.bytes (segment_of others) left) in
    let one = length-append a.bytes (segment_of batches) in
    let two = length-append b.bytes (segment_of others) in
    let same : length b.bytes ≡ length a.bytes = ap (λ (x : Batch). length x.bytes) (sym s.0) in
    let at : place + length (segment_of (a ∷ batches)) ≡ place + length a.bytes + length (segment_of batches) = omega (arith, one) in
    let also : place + length (segment_of (b ∷ others)) ≡ place + length a.bytes + length (segment_of others) = omega (arith, two, same) in
    let here : log ++ (a ∷ batches) ≡ (log ++ a ∷ []) ++ batches = sym (append_assoc log (a ∷ []) batches) in
    let there : log ++ (b ∷ others) ≡ (log ++ a ∷ []) ++ others = ap (λ (x : Batch). log ++ (x ∷ others)) (sym s.0) ∙ sym (append_assoc log (a ∷ []) others) in
    let t = read_from (log ++ a ∷ []) (place + length a.bytes) batches others rest left (subst IsStoredLog here p) (subst IsStoredLog there q)
    (omega (arith, w, at)) (omega (arith, v, also))
    (subst (λ (k : ℕ). HasNoBatch k ((log ++ a ∷ []) ++ batches) rest) at (subst (λ (l : List Batch). HasNoBatch (place + length (segment_of (a ∷ batches))) l rest) here m))
    (subst (λ (k : ℕ). HasNoBatch k ((log ++ a ∷ []) ++ others) left) also (subst (λ (l : List Batch). HasNoBatch (place + length (segment_of (b ∷ others))) l left) there n)) s.1 in
    let u : a ∷ batches ≡ b ∷ others = (λ i. s.0 i ∷ t.0 i) in
    (u, t.1)

zero_at : (batches : List Batch) → length (segment_of batches) ≡ 0 + length (segment_of batches)
zero_at batches = omega arith

pub one_reading : (text : List ℕ) (log : List Batch) → HasOneReading text log
one_reading text log batches others rest left p m q n =
    read_from log 0 batches others rest left p.sound q.sound (omega (arith, p.within)) (omega (arith, q.within))
    (subst (λ (k : ℕ). HasNoBatch k (log ++ batches) rest) (zero_at batches) m) (subst (λ (k : ℕ). HasNoBatch k (log ++ others) left) (zero_at others) n)
    (sym p.parts ∙ q.parts)

-- no batch is empty
none_at_end : (place : ℕ) (log : List Batch) → HasNoBatch place log []
none_at_end place log b more f e = absurd (omega (arith, (bounds b f.stored).header, ap length e, length-append b.bytes more))

-- a segment has no batch that is refused
pub none_refused : (text : List ℕ) (log batches others : List Batch) → IsSegment text log batches → IsRefused text log others → ⊥
none_refused text log batches others s r =
    let one = one_reading text log batches others [] r.0 s (none_at_end (length (segment_of batches)) (log ++ batches)) r.1 r.2 in
    r.3 (sym one.1)

-- ---- a load ends so

module _ {B D : Type 0} (bay : BayChange B D) (name : List ℕ) (input : InputChange) (output : OutputChange)
    (d : D) (c : List ℕ) (log : Log) (batches : List Batch) (told : (bay.seen bay.old).disk name ≡ Some d) (has : (bay.disk_seen d).content ≡ Some c) (text : IsLogText c log) where
  abbrev Ends : Status → Type 0
  Ends status = (status ≡ Done) ⊎ ((status ≡ Device) ⊎ (status ≡ NoMemory))

  abbrev Whole : Status → Type 0
  Whole status = IfSome input.left (λ text. IsSegment text log.batches batches → Ends status)

  always : (left : Option (List ℕ)) (status : Status) → Ends status → IfSome left (λ text. IsSegment text log.batches batches → Ends status)
  always None status h = tt
  always (Some text) status h = λ s. h

  pub completes : (status : Status) → IsLoad bay name input output status
      → (Rose input.faults input.faults_after → ⊥) → (Rose output.faults output.faults_after → ⊥) → Whole status
  completes Done e read write = always input.left Done (inl refl)
  completes Device e read write = always input.left Device (inr (inl refl))
  completes NoMemory e read write = always input.left NoMemory (inr (inr refl))
  completes Usage (inl e) read write = absurd e
  completes Usage (inr e) read write = absurd e.2
  completes Listener (inl e) read write = absurd e
  completes Listener (inr e) read write = absurd e.2
  completes Spawner (inl e) read write = absurd e
  completes Spawner (inr e) read write = absurd e.2
  completes Lost (inl e) read write = absurd e
  completes Lost (inr e) read write = absurd e.2
  completes Refused (inl e) read write = absurd e
  completes Refused (inr e) read write = absurd e.2
  completes Strange (inl e) read write = absurd e
  completes Strange (inr e) read write = absurd e.2
  completes Malformed (inl e) read write =
      let over = e.ends.0 d c told has in
      let same : e.log ≡ log = logs_once c e.log log over.4.before text in
      some_then input.left (λ text. IsRefused text e.log.batches e.batches) (λ text. IsSegment text log.batches batches → Ends Malformed)
      (λ text r s. absurd (none_refused text log.batches batches e.batches s (subst (λ (l : Log). IsRefused text l.batches e.batches) same r))) e.refused
  completes Malformed (inr e) read write = absurd e.2
  completes ReadFault (inl e) read write = absurd (read e.0)
  completes ReadFault (inr e) read write = absurd e.2
  completes WriteFault (inl e) read write = absurd (write e.0)
  completes WriteFault (inr e) read write = absurd (write e.2.0)
  completes Damaged (inl e) read write = absurd e
  completes Damaged (inr e) read write = absurd (text_sound c log e.2.0 text (e.2.1 d c told has))
