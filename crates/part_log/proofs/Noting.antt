-- A reader notes the frames that are handed over.
use Rattle.std.proofs.Common.{◌≡◌, ◌≢◌, ℕ, ◌+◌, ◌^◌, ◌≤◌, ◌<◌, List, [], ◌∷◌, ◌++◌, length, refl, sym, ap, subst, ◌∙◌, arith, Option, None}
use Rattle.std.specs.Int.{w64, to_be_bytes}
use Rattle.share_model.specs.Logs.{Batch, end_of}
use Rattle.part_log.specs.Starts.{LogWrite}
use Rattle.part_log.specs.Starts.LogWrite.{Adds, Marks}
use Rattle.log_index.specs.Indexes.{IndexParts, log_of as entries_log}
use Rattle.log_index.specs.declared.entry.Entry.{Entry}
use Rattle.part_log.specs.Batches.{IsStored, batch_in}
use Rattle.part_log.specs.Holding.{HasBadFrame, IsIndexed, Reads, batches_of, entry_of, kept_in, log_of}
use Rattle.part_log.specs.Logs.{IsAllowed, IsStoredLog, MayFollow, MayStartAt, frame_of, no_log}
use Rattle.part_log.proofs.Frames.{bounds}
use Rattle.part_log.proofs.Holding.{indexed_mark, indexed_more}
use Rattle.part_log.proofs.Indexing.{end_there}
use Rattle.part_log.proofs.Rising.{sound_none}
use Rattle.part_log.proofs.Writes.{lead_sound, mark_once, mark_small}

-- what is indexed is sound
pub indexed_sound : (frames : List (ℕ × List ℕ)) (index : IndexParts) (start end : ℕ) → IsIndexed frames index start end → IsStoredLog (batches_of frames)
indexed_sound frames index start end h = lead_sound no_log h.writes (log_of frames start) sound_none h.leads

-- a batch that follows a log may be pushed
pub may_push : (frames : List (ℕ × List ℕ)) (index new : IndexParts) (start end : ℕ) (b : Batch) → IsIndexed frames index start end → new.entries ≡ index.entries
    → MayFollow (batches_of frames) b → end_of (entries_log new.entries) ≤ b.base
may_push frames index new start end b h same follows =
    omega (arith, ap (λ (es : List Entry). end_of (entries_log es)) (same ∙ h.entries), end_there (kept_in frames), follows.behind)

module _ (frames : List (ℕ × List ℕ)) (index : IndexParts) (start end : ℕ) (bad : Option ℕ) (h : Reads frames index start end bad) (good : bad ≡ None) where
  pub indexed : IsIndexed frames index start end × (index.cached ≡ [])
  indexed = subst (λ (b : Option ℕ). Reads frames index start end b) good h

  sound : IsStoredLog (batches_of frames)
  sound = indexed_sound frames index start end indexed.0

  -- this frame can't stand there
  bad_now : (more : List (ℕ × List ℕ)) (place : ℕ) (x : List ℕ) → more ≡ frames ++ (place, x) ∷ []
      → ((w : LogWrite) → frame_of w ≡ x → IsAllowed (log_of frames start) w → ⊥) → HasBadFrame more place
  bad_now more place x pushed none = record {
    before = frames;
    frame = x;
    after = [];
    is = pushed;
    writes = indexed.0.writes;
    are = indexed.0.are;
    log = log_of frames start;
    leads = indexed.0.leads;
    none = none;
  }

  -- it is no mark, and no batch that may follow
  no_batch : (x : List ℕ) → length x ≢ 8 → ((b : Batch) → b.bytes ≡ x → IsStored b → b.base < end) → (w : LogWrite) → frame_of w ≡ x
      → IsAllowed (log_of frames start) w → ⊥
  no_batch x long none (Adds b) e a = omega (arith, none b e a.stored, a.behind, indexed.0.ends)
  no_batch x long none (Marks n) e a = let size : 8 ≡ length x = ap length e in long (sym size)

  -- it is a mark at which the log may not start
  no_mark : (x : List ℕ) (n : ℕ) → x ≡ to_be_bytes w64 n → n < 2 ^ 64 → (start < n → n ≤ end → ⊥) → (w : LogWrite) → frame_of w ≡ x
      → IsAllowed (log_of frames start) w → ⊥
  no_mark x n is small none (Adds b) e a =
      let size : length b.bytes ≡ 8 = ap length (e ∙ is) in
      omega (arith, (bounds b a.stored).header, size)
  no_mark x n is small none (Marks m) e a =
      let same : m ≡ n = mark_once m n (mark_small (log_of frames start) sound m a.within) small (e ∙ is) in
      none (omega (arith, a.above, same)) (omega (arith, a.within, same, indexed.0.ends))

  pub bad_batch : (more : List (ℕ × List ℕ)) (place : ℕ) (x : List ℕ) → more ≡ frames ++ (place, x) ∷ [] → length x ≢ 8
      → ((b : Batch) → b.bytes ≡ x → IsStored b → b.base < end) → HasBadFrame more place
  bad_batch more place x pushed long none = bad_now more place x pushed (no_batch x long none)

  pub bad_mark : (more : List (ℕ × List ℕ)) (place : ℕ) (x : List ℕ) → more ≡ frames ++ (place, x) ∷ [] → (n : ℕ) → x ≡ to_be_bytes w64 n → n < 2 ^ 64
      → (start < n → n ≤ end → ⊥) → HasBadFrame more place
  bad_mark more place x pushed n is small none = bad_now more place x pushed (no_mark x n is small none)

  -- this mark can
  pub reads_mark : (more : List (ℕ × List ℕ)) (place : ℕ) (x : List ℕ) → more ≡ frames ++ (place, x) ∷ [] → (n : ℕ) → x ≡ to_be_bytes w64 n → start < n → n ≤ end
      → Reads more index n end bad
  reads_mark more place x pushed n is above within =
      let follows : MayStartAt (log_of frames start) n = record { above = above; within = omega (arith, within, indexed.0.ends) } in
      subst (λ (b : Option ℕ). Reads more index n end b) (sym good) (
        subst (λ (l : List (ℕ × List ℕ)). IsIndexed l index n end) (sym pushed)
            (indexed_mark frames index index start end place x n indexed.0 follows is refl),
        indexed.1,
      )

  -- this batch can
  module _ (e : Entry) (place : ℕ) (x : List ℕ) (is : e ≡ entry_of (place, x)) (stored : IsStored (batch_in x)) (le : end ≤ (batch_in x).base) where
    follows : MayFollow (batches_of frames) (batch_in x)
    follows = record { stored = stored; behind = omega (arith, le, indexed.0.ends) }

    pub order : e.base ≤ e.last
    order = omega (arith, (bounds (batch_in x) stored).order, ap (λ (d : Entry). d.base) is, ap (λ (d : Entry). d.last) is)

    pub behind : end_of (entries_log index.entries) ≤ e.base
    behind = omega (arith, may_push frames index index start end (batch_in x) indexed.0 refl follows, ap (λ (d : Entry). d.base) is)

    pub reads_more : (more : List (ℕ × List ℕ)) (new : IndexParts) → more ≡ frames ++ (place, x) ∷ [] → new.entries ≡ index.entries ++ e ∷ [] → new.cached ≡ index.cached
        → Reads more new start (e.last + 1) bad
    reads_more more new pushed entries cached =
        let now = indexed_more frames index new start end place x indexed.0 follows (entries ∙ ap (λ (d : Entry). index.entries ++ d ∷ []) is) in
        subst (λ (b : Option ℕ). Reads more new start (e.last + 1) b) (sym good) (
          subst (λ (l : List (ℕ × List ℕ)). IsIndexed l new start (e.last + 1)) (sym pushed)
              (subst (λ (n : ℕ). IsIndexed (frames ++ (place, x) ∷ []) new start n) (sym (ap (λ (d : Entry). d.last + 1) is)) now),
          cached ∙ indexed.1,
        )
