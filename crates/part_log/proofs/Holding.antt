-- A log that is held by an index over its journal, through what happens to the journal.
use Rattle.std.proofs.Common.{◌≡◌, ℕ, ◌+◌, ◌≤◌, ◌<◌, List, [], ◌∷◌, ◌++◌, length, refl, sym, ap, subst, ◌∙◌, arith}
use Rattle.std.proofs.Common.{◌≢◌, Option, None, Result, Err, OnOk, append_assoc, length-append}
use Rattle.std.proofs.lemmas.Result.{on_ok_weaker}
use Rattle.std.specs.Prelude.{map}
use Rattle.std.specs.Int.{w32, w64, to_be_bytes}
use Rattle.std.proofs.lemmas.List.{map-append, length-map}
use Rattle.edge_io.specs.Disk.{IsTold}
use Rattle.edge_io.specs.Views.{DiskView}
use Rattle.gate_journal.specs.Frames.{behind_gate, blocks}
use Rattle.gate_journal.specs.Journals.{IsAtRest, Stands}
use Rattle.gate_journal.specs.Reading.{HasFrameAt, IsFrameAt, ReadsOnly}
use Rattle.gate_journal.specs.Visits.{placed}
use Rattle.gate_journal.specs.declared.writer.Writer.{Writer}
use Rattle.share_model.specs.Logs.{Batch, IsAt, end_of}
use Rattle.part_log.specs.Starts.{LogWrite}
use Rattle.part_log.specs.Starts.LogWrite.{Adds, Marks}
use Rattle.share_model.specs.Rooms.{Appends, Filled}
use Rattle.share_model.specs.declared.fault.BatchRead.{BatchRead}
use Rattle.share_model.specs.declared.fault.BatchRead.TheVariants.{NoMemory}
use Rattle.log_index.specs.Indexes.{FillsWithin, IndexParts, Indexes, IsEntryAt}
use Rattle.log_index.specs.declared.entry.Entry.{Entry}
use Rattle.log_index.proofs.Fitting.{fits_none, fits_still, pushed_fits}
use Rattle.part_log.specs.Batches.{batch_in}
use Rattle.part_log.specs.Holding.{HasBadFrame, HoldsLog, IsIndexed, batches_of, bytes_in, entry_of, kept_in, log_of}
use Rattle.part_log.specs.Logs.{IsBadFrames, Lead, MayFollow, MayStartAt, frame_of, frames_of, no_log}
use Rattle.part_log.proofs.Frames.{bounds}
use Rattle.part_log.proofs.Kept.{Frames, batches_mark, batches_more, bytes_append, kept_batch, kept_mark, kept_parted}
use Rattle.part_log.proofs.Parts.{head_of, map_parted, tail_of}
use Rattle.part_log.proofs.Rising.{end_more}
use Rattle.part_log.proofs.Writes.{frames_more, lead_more}

-- ---- frames and their places

pub bytes_placed : (at : ℕ) (fs : List (List ℕ)) → bytes_in (placed at fs) ≡ fs
bytes_placed at [] = refl
bytes_placed at (f ∷ fs) = ap (λ l. f ∷ l) (bytes_placed (at + (5 + length f)) fs)

block_size : (x : List ℕ) (fs : List (List ℕ)) (at : ℕ) → at + (5 + length x) + length (blocks fs) ≡ at + length (blocks (x ∷ fs))
block_size x fs at = omega (arith, length-append (behind_gate x) (blocks fs), length-append (to_be_bytes w32 (length x)) x)

placed_more : (at : ℕ) (fs : List (List ℕ)) (x : List ℕ) → placed at (fs ++ x ∷ []) ≡ placed at fs ++ (at + length (blocks fs), x) ∷ []
placed_more at [] x = ap (λ (n : ℕ). (n, x) ∷ []) (omega arith)
placed_more at (f ∷ fs) x =
    ap (λ (l : Frames). (at, f) ∷ l) (placed_more (at + (5 + length f)) fs x
    ∙ ap (λ (k : ℕ). placed (at + (5 + length f)) fs ++ (k, x) ∷ []) (block_size f fs at))

pub places_more : (frames : Frames) (place : ℕ) (x : List ℕ) → frames ≡ placed 0 (bytes_in frames) → place ≡ length (blocks (bytes_in frames))
    → frames ++ (place, x) ∷ [] ≡ placed 0 (bytes_in (frames ++ (place, x) ∷ []))
places_more frames place x places at =
    let there : place ≡ 0 + length (blocks (bytes_in frames)) = omega (arith, at) in
    (λ i. places i ++ (there i, x) ∷ [])
    ∙ sym (placed_more 0 (bytes_in frames) x)
    ∙ ap (placed 0) (sym (bytes_append frames ((place, x) ∷ [])))

-- each frame stands at its place
place_is : (at : ℕ) (front : Frames) (f : ℕ × List ℕ) (back : Frames) → front ++ (f ∷ back) ≡ placed at (bytes_in (front ++ (f ∷ back)))
    → f.0 ≡ at + length (blocks (bytes_in front))
unfolding head_of tail_of
place_is at [] f back e = ap (λ (l : Frames). (head_of f l).0) e ∙ omega arith
place_is at (g ∷ front) f back e =
    place_is (at + (5 + length g.1)) front f back (ap tail_of e) ∙ block_size g.1 (bytes_in front) at

frame_at : (frames front : Frames) (f : ℕ × List ℕ) (back : Frames) → frames ≡ placed 0 (bytes_in frames) → frames ≡ front ++ (f ∷ back)
    → IsFrameAt (bytes_in frames) f.0 f.1
frame_at frames front f back places whole = (
  bytes_in front,
  bytes_in back,
  ap bytes_in whole ∙ bytes_append front (f ∷ back),
  omega (arith, place_is 0 front f back (subst (λ (l : Frames). l ≡ placed 0 (bytes_in l)) whole places)),
)

-- ---- one frame more

pub batches_stored : (frames more : Frames) (place : ℕ) (x frame : List ℕ) → 8 < length frame → x ≡ frame → more ≡ frames ++ (place, x) ∷ []
    → batches_of more ≡ batches_of frames ++ batch_in frame ∷ []
batches_stored frames more place x frame long same pushed =
    ap batches_of (pushed ∙ ap (λ (l : List ℕ). frames ++ (place, l) ∷ []) same) ∙ batches_more frames place frame long

pub batches_marked : (frames more : Frames) (place : ℕ) (x : List ℕ) (start : ℕ) → x ≡ to_be_bytes w64 start → more ≡ frames ++ (place, x) ∷ []
    → batches_of more ≡ batches_of frames
batches_marked frames more place x start is pushed =
    let short : length x ≡ 8 = ap length is in
    ap batches_of pushed ∙ batches_mark frames place x short

-- the bytes of a stored batch are more than those of a mark
pub longer : (log : List Batch) (x : List ℕ) → MayFollow log (batch_in x) → 8 < length x
longer log x follows = omega (arith, (bounds (batch_in x) follows.stored).header)

bytes_more : (frames : Frames) (place : ℕ) (x : List ℕ) (writes : List LogWrite) (w : LogWrite) → bytes_in frames ≡ frames_of writes → x ≡ frame_of w
    → bytes_in (frames ++ (place, x) ∷ []) ≡ frames_of (writes ++ w ∷ [])
bytes_more frames place x writes w are is =
    bytes_append frames ((place, x) ∷ []) ∙ (λ i. are i ++ is i ∷ []) ∙ sym (frames_more writes w)

pub indexed_more : (frames : Frames) (index new : IndexParts) (start end place : ℕ) (x : List ℕ) → IsIndexed frames index start end
    → MayFollow (batches_of frames) (batch_in x) → new.entries ≡ index.entries ++ entry_of (place, x) ∷ []
    → IsIndexed (frames ++ (place, x) ∷ []) new start ((batch_in x).last + 1)
indexed_more frames index new start end place x h follows pushed =
    let long = longer (batches_of frames) x follows in
    let more = batches_more frames place x long in
    record {
      writes = h.writes ++ Adds (batch_in x) ∷ [];
      are = bytes_more frames place x h.writes (Adds (batch_in x)) h.are refl;
      leads = subst (λ (bs : List Batch). Lead no_log (h.writes ++ Adds (batch_in x) ∷ []) (record { batches = bs; start = start })) (sym more)
          (lead_more no_log h.writes (log_of frames start) (Adds (batch_in x)) h.leads follows);
      ends = sym (ap end_of more ∙ end_more (batches_of frames) (batch_in x));
      entries = pushed ∙ ap (λ (es : List Entry). es ++ entry_of (place, x) ∷ []) h.entries
          ∙ sym (ap (map entry_of) (kept_batch frames (place, x) long) ∙ map-append entry_of (kept_in frames) ((place, x) ∷ []));
    }

-- behind a mark
pub indexed_mark : (frames : Frames) (index new : IndexParts) (start end place : ℕ) (x : List ℕ) (to : ℕ) → IsIndexed frames index start end
    → MayStartAt (log_of frames start) to → x ≡ to_be_bytes w64 to → new.entries ≡ index.entries → IsIndexed (frames ++ (place, x) ∷ []) new to end
indexed_mark frames index new start end place x to h follows is same =
    let short : length x ≡ 8 = ap length is in
    let still = batches_mark frames place x short in
    record {
      writes = h.writes ++ Marks to ∷ [];
      are = bytes_more frames place x h.writes (Marks to) h.are is;
      leads = subst (λ (bs : List Batch). Lead no_log (h.writes ++ Marks to ∷ []) (record { batches = bs; start = to })) (sym still)
          (lead_more no_log h.writes (log_of frames start) (Marks to) h.leads follows);
      ends = h.ends ∙ sym (ap end_of still);
      entries = same ∙ h.entries ∙ sym (ap (map entry_of) (kept_mark frames (place, x) short));
    }

-- ---- the index over the journal

module _ {D : Type 0} (seen : D → DiskView) where
  -- the frame of an entry
  entry_frame : (frames : Frames) (entries : List Entry) (w : Writer D) (pending : Option (List ℕ)) → frames ≡ placed 0 (bytes_in frames) → entries ≡ map entry_of (kept_in frames)
      → Stands seen w (bytes_in frames) pending → (number : ℕ) (e : Entry) → IsEntryAt entries number e
      → (frame : List ℕ) × HasFrameAt seen w e.place frame × (length frame ≡ e.size)
  entry_frame frames entries w pending places same stands number e at =
      let p = map_parted entry_of (kept_in frames) at.0 e at.1 (sym same ∙ at.2) in
      let a = kept_parted frames p.front p.x p.back p.whole in (
        p.x.1,
        subst (λ (d : Entry). HasFrameAt seen w d.place p.x.1) p.same
            (record { frames = bytes_in frames; pending = pending; stands = stands; at = frame_at frames a.front p.x a.back places a.whole }),
        ap (λ (d : Entry). d.size) p.same,
      )

  -- at an opening
  pub opened_holds : (fs : List (List ℕ)) (frames : Frames) (index : IndexParts) (w : Writer D) (start end : ℕ) → frames ≡ placed 0 fs → IsIndexed frames index start end
      → index.cached ≡ [] → Stands seen w fs None → HoldsLog seen frames index w start end
  opened_holds fs frames index w start end is indexed nothing stands =
      let bytes : bytes_in frames ≡ fs = ap bytes_in is ∙ bytes_placed 0 fs in
      let places : frames ≡ placed 0 (bytes_in frames) = is ∙ ap (placed 0) (sym bytes) in
      let here : Stands seen w (bytes_in frames) None = subst (λ (l : List (List ℕ)). Stands seen w l None) (sym bytes) stands in
      record {
        indexed = indexed;
        places = places;
        pending = None;
        stands = here;
        fits = fits_none seen index w nothing (entry_frame frames index.entries w None places indexed.entries here);
      }

  module _ (frames : Frames) (index : IndexParts) (journal : Writer D) (start end : ℕ) (h : HoldsLog seen frames index journal start end) where
    indexed_still : (new : IndexParts) → new.entries ≡ index.entries → IsIndexed frames new start end
    indexed_still new entries =
        record { writes = h.indexed.writes; are = h.indexed.are; leads = h.indexed.leads; ends = h.indexed.ends; entries = entries ∙ h.indexed.entries }

    -- nothing was pushed, and the journal has the frames that it had
    pub holds_still : (new : IndexParts) (w : Writer D) → new.entries ≡ index.entries → new.cached ≡ index.cached
        → ((fs : List (List ℕ)) (p : Option (List ℕ)) → Stands seen journal fs p → (q : Option (List ℕ)) × Stands seen w fs q)
        → (IsTold (seen w.disk).content → IsTold (seen journal.disk).content) → HoldsLog seen frames new w start end
    holds_still new w entries cached goes back =
        let left = goes (bytes_in frames) h.pending h.stands in
        record {
          indexed = indexed_still new entries;
          places = h.places;
          pending = left.0;
          stands = left.1;
          fits = fits_still seen index new journal w h.fits entries cached
              (λ place frame f.
              let there = goes f.frames f.pending f.stands in
              record { frames = f.frames; pending = there.0; stands = there.1; at = f.at })
              back;
        }

    -- something was read
    pub holds_read : (new : IndexParts) (w : Writer D) → new.entries ≡ index.entries → Indexes seen new w → ReadsOnly seen journal w → HoldsLog seen frames new w start end
    holds_read new w entries fits only = record {
      indexed = indexed_still new entries;
      places = h.places;
      pending = h.pending;
      stands = only.stands (bytes_in frames) h.pending h.stands;
      fits = fits;
    }

    -- the journal has one frame more
    module _ (w : Writer D) (place : ℕ) (x : List ℕ) (at : (fs : List (List ℕ)) (p : Option (List ℕ)) → Stands seen journal fs p → place ≡ length (blocks fs))
        (rests : (fs : List (List ℕ)) (p : Option (List ℕ)) → Stands seen journal fs p → IsAtRest seen w (fs ++ x ∷ []))
        (back : IsTold (seen w.disk).content → IsTold (seen journal.disk).content) where
      there : frames ++ (place, x) ∷ [] ≡ placed 0 (bytes_in (frames ++ (place, x) ∷ []))
      there = places_more frames place x h.places (at (bytes_in frames) h.pending h.stands)

      stands_more : Stands seen w (bytes_in (frames ++ (place, x) ∷ [])) None
      stands_more = subst (λ (l : List (List ℕ)). Stands seen w l None) (sym (bytes_append frames ((place, x) ∷ []))) (rests (bytes_in frames) h.pending h.stands).stands

      kept_frames : (p : ℕ) (frame : List ℕ) → HasFrameAt seen journal p frame → HasFrameAt seen w p frame
      kept_frames p frame f = record {
        frames = f.frames ++ x ∷ [];
        pending = None;
        stands = (rests f.frames f.pending f.stands).stands;
        at = (f.at.0, f.at.1 ++ x ∷ [], ap (λ (l : List (List ℕ)). l ++ x ∷ []) f.at.2 ∙ append_assoc f.at.0 (frame ∷ f.at.1) (x ∷ []), f.at.3);
      }

      -- a batch, which was pushed
      pub holds_more : (new : IndexParts) → MayFollow (batches_of frames) (batch_in x)
          → new.entries ≡ index.entries ++ entry_of (place, x) ∷ [] → new.cached ≡ index.cached
          → HoldsLog seen (frames ++ (place, x) ∷ []) new w start ((batch_in x).last + 1)
      holds_more new follows pushed cached = record {
        indexed = indexed_more frames index new start end place x h.indexed follows pushed;
        places = there;
        pending = None;
        stands = stands_more;
        fits = pushed_fits seen index new journal w (entry_of (place, x)) x h.fits pushed cached kept_frames back
            (record {
              frames = bytes_in (frames ++ (place, x) ∷ []);
              pending = None;
              stands = stands_more;
              at = frame_at (frames ++ (place, x) ∷ []) frames (place, x) [] there refl;
            })
            refl;
      }

      -- a mark
      pub holds_marked : (to : ℕ) → MayStartAt (log_of frames start) to → x ≡ to_be_bytes w64 to → HoldsLog seen (frames ++ (place, x) ∷ []) index w to end
      holds_marked to follows is = record {
        indexed = indexed_mark frames index index start end place x to h.indexed follows is refl;
        places = there;
        pending = None;
        stands = stands_more;
        fits = fits_still seen index index journal w h.fits refl refl kept_frames back;
      }

    -- and so it is after an append of this frame
    pub stored_holds : (new : IndexParts) (w : Writer D) (base last size place stop : ℕ) (x frame : List ℕ) (more : Frames) (mid : List Entry) → x ≡ frame → MayFollow (batches_of frames) (batch_in frame)
        → base ≡ (batch_in frame).base → last ≡ (batch_in frame).last → size ≡ length x → more ≡ frames ++ (place, x) ∷ [] → stop ≡ last + 1
        → new.entries ≡ mid ++ record { base = base; last = last; size = size; place = place } ∷ [] → mid ≡ index.entries → new.cached ≡ index.cached
        → ((fs : List (List ℕ)) (p : Option (List ℕ)) → Stands seen journal fs p → place ≡ length (blocks fs))
        → ((fs : List (List ℕ)) (p : Option (List ℕ)) → Stands seen journal fs p → IsAtRest seen w (fs ++ frame ∷ []))
        → (IsTold (seen w.disk).content → IsTold (seen journal.disk).content)
        → HoldsLog seen more new w start stop
    stored_holds new w base last size place stop x frame more mid same follows is_base is_last is_size pushed stops entries kept cached at rests back =
        let len : size ≡ length frame = is_size ∙ ap length same in
        let entry : ◌≡◌ {A = Entry} (record { base = base; last = last; size = size; place = place }) (entry_of (place, frame)) =
        λ i. record { base = is_base i; last = is_last i; size = len i; place = place } in
        let whole : more ≡ frames ++ (place, frame) ∷ [] = pushed ∙ ap (λ (l : List ℕ). frames ++ (place, l) ∷ []) same in
        let here = holds_more w place frame at rests back new follows (entries ∙ (λ i. kept i ++ entry i ∷ [])) cached in
        subst (λ (l : Frames). HoldsLog seen l new w start stop) (sym whole)
        (subst (λ (n : ℕ). HoldsLog seen (frames ++ (place, frame) ∷ []) new w start n) (sym (stops ∙ ap (λ (n : ℕ). n + 1) is_last)) here)

    -- or of a mark
    pub marked_holds : (w : Writer D) (place to : ℕ) (x frame : List ℕ) (more : Frames) → x ≡ frame → frame ≡ to_be_bytes w64 to → MayStartAt (log_of frames start) to
        → more ≡ frames ++ (place, x) ∷ []
        → ((fs : List (List ℕ)) (p : Option (List ℕ)) → Stands seen journal fs p → place ≡ length (blocks fs))
        → ((fs : List (List ℕ)) (p : Option (List ℕ)) → Stands seen journal fs p → IsAtRest seen w (fs ++ frame ∷ []))
        → (IsTold (seen w.disk).content → IsTold (seen journal.disk).content)
        → HoldsLog seen more index w to end
    marked_holds w place to x frame more same is follows pushed at rests back =
        subst (λ (l : Frames). HoldsLog seen l index w to end) (sym (pushed ∙ ap (λ (l : List ℕ). frames ++ (place, l) ∷ []) same))
        (holds_marked w place frame at rests back to follows is)

    -- the frame of a batch by its number
    pub record Found (number : ℕ) (b : Batch) : Type 0 where
      pub entry : Entry
      pub at : IsEntryAt index.entries number entry
      pub frame : HasFrameAt seen journal entry.place b.bytes
      pub size : length b.bytes ≡ entry.size

    pub found : (number : ℕ) (b : Batch) → IsAt (batches_of frames) number b → Found number b
    found number b at =
        let p = map_parted (λ (f : ℕ × List ℕ). batch_in f.1) (kept_in frames) at.0 b at.1 at.2 in
        let a = kept_parted frames p.front p.x p.back p.whole in
        let bytes : p.x.1 ≡ b.bytes = ap (λ (c : Batch). c.bytes) p.same in
        record {
          entry = entry_of p.x;
          at = (
            map entry_of p.front,
            map entry_of p.back,
            h.indexed.entries ∙ ap (map entry_of) p.whole ∙ map-append entry_of p.front (p.x ∷ p.back),
            at.3 ∙ sym (ap length p.fronts) ∙ length-map p.front (λ (f : ℕ × List ℕ). batch_in f.1) ∙ sym (length-map p.front entry_of),
          );
          frame = subst (λ (l : List ℕ). HasFrameAt seen journal p.x.0 l) bytes
              (record { frames = bytes_in frames; pending = h.pending; stands = h.stands; at = frame_at frames a.front p.x a.back h.places a.whole });
          size = ap length (sym bytes);
        }

    -- what was read is the batch
    module _ (number : ℕ) (r : Result (Unit {0}) BatchRead) (old new : Filled) where
      pub read_ok : OnOk r (IsTold (seen journal.disk).content → (e : Entry) (frame : List ℕ) → IsEntryAt index.entries number e → HasFrameAt seen journal e.place frame → Appends old new frame)
          → OnOk r (IsTold (seen journal.disk).content → (b : Batch) → IsAt (batches_of frames) number b → Appends old new b.bytes)
      read_ok ok = on_ok_weaker r (λ said told b at. let f = found number b at in said told f.entry b.bytes f.at f.frame) ok

      pub read_extends : OnOk r ((e : Entry) → IsEntryAt index.entries number e → FillsWithin e.size old new)
          → OnOk r ((b : Batch) → IsAt (batches_of frames) number b → FillsWithin (length b.bytes) old new)
      read_extends ok = on_ok_weaker r
          (λ said b at. let f = found number b at in subst (λ (n : ℕ). FillsWithin n old new) (sym f.size) (said f.entry f.at)) ok

      pub read_spared : ((e : Entry) → IsEntryAt index.entries number e → e.size ≤ old.spare → r ≢ Err NoMemory)
          → (b : Batch) → IsAt (batches_of frames) number b → length b.bytes ≤ old.spare → r ≢ Err NoMemory
      read_spared said b at le = let f = found number b at in said f.entry f.at (omega (arith, le, f.size))

-- ---- a frame that can't stand there

pub bad_frames : (fs : List (List ℕ)) (frames : Frames) (place : ℕ) → frames ≡ placed 0 fs → HasBadFrame frames place → IsBadFrames fs place
bad_frames fs frames place is h =
    let bytes : bytes_in frames ≡ fs = ap bytes_in is ∙ bytes_placed 0 fs in
    let places : frames ≡ placed 0 (bytes_in frames) = is ∙ ap (placed 0) (sym bytes) in
    let at = place_is 0 h.before (place, h.frame) h.after (subst (λ (l : Frames). l ≡ placed 0 (bytes_in l)) h.is places) in
    record {
      before = h.writes;
      log = h.log;
      frame = h.frame;
      after = bytes_in h.after;
      is = sym bytes ∙ ap bytes_in h.is ∙ bytes_append h.before ((place, h.frame) ∷ h.after) ∙ ap (λ (l : List (List ℕ)). l ++ (h.frame ∷ bytes_in h.after)) h.are;
      leads = h.leads;
      at = omega (arith, at, ap (λ (l : List (List ℕ)). length (blocks l)) h.are);
      none = h.none;
    }
